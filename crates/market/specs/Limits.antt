-- The limits of a record's fields: one row a field.
use Rattle.std.specs.Prelude.{ℕ, ◌+◌, Bool, cond, ◌&&◌, List, [], ◌∷◌, ℤ, pos, negsuc, ◌≤ℤ◌, Some, None, Option, int_le}
use Rattle.offers.specs.Prices.{lowest_price, highest_price}
use Rattle.market.specs.declared.limits.Limits.{Limits}
use Rattle.market.specs.declared.refusal.ProcessRefusal.{ProcessRefusal}
use Rattle.market.specs.declared.refusal.ProcessRefusal.TheVariants.{FieldOutsideLimits}

abbrev pub Admitted : Limits → ℤ → Type 0
Admitted row n = (row.lowest ≤ℤ n) × (n ≤ℤ row.highest)

-- The same as a test.
abbrev pub admitted : Limits → ℤ → Bool
admitted row n = int_le row.lowest n && int_le n row.highest

-- The first of the fields, from number i on, that lies outside its row. A record has as many fields as its table has rows.
abbrev pub field_refusal : ℕ → List Limits → List ℤ → Option ProcessRefusal
field_refusal i [] fields = None
field_refusal i (row ∷ rows) [] = None
field_refusal i (row ∷ rows) (n ∷ fields) = cond (admitted row n) (field_refusal (i + 1) rows fields) (Some (FieldOutsideLimits i))

-- Every field lies within its row.
abbrev pub AllAdmitted : List Limits → List ℤ → Type 0
AllAdmitted [] fields = Unit {0}
AllAdmitted (row ∷ rows) [] = Unit {0}
AllAdmitted (row ∷ rows) (n ∷ fields) = Admitted row n × AllAdmitted rows fields

abbrev between : ℤ → ℤ → Limits
between low high = record { lowest = low; highest = high }

-- Power and its tolerance, in tenths.
abbrev pub power_limits : Limits
power_limits = between (pos 0) (pos 10000)

abbrev pub price_limits : Limits
price_limits = between lowest_price highest_price

-- In cents an hour.
abbrev pub no_load_limits : Limits
no_load_limits = between (pos 0) (pos 10000000)

-- In ticks an interval.
abbrev pub reserve_limits : Limits
reserve_limits = between (pos 0) (pos 400000000)

abbrev pub other_limits : Limits
other_limits = between (negsuc 499999999) (pos 500000000)

-- 0 for no, 1 for yes.
abbrev pub flag_limits : Limits
flag_limits = between (pos 0) (pos 1)
