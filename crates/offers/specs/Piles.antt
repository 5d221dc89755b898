-- Curves over a lower curve: what a cap and an adder make of its prices.
use Rattle.std.specs.Prelude.{Bool, cond, List, map, ℤ, ◌+ℤ◌, Ok, Err, Result}
use Rattle.std.specs.Int.{int_min, int_max}
use Rattle.std.specs.List.{list_all}
use Rattle.offers.specs.declared.refusal.CurveRefusal.{CurveRefusal}
use Rattle.offers.specs.declared.refusal.CurveRefusal.TheVariants.{CapOutOfRange, AdderOutOfRange}
use Rattle.offers.specs.Prices.{lowest_price, highest_price, in_range}

-- A cap takes the lower of its limit and the price below.
abbrev pub capped : ℤ → List ℤ → List ℤ
capped limit ps = map (int_min limit) ps

-- The curve that a cap is asked for, or its refusal.
abbrev pub cap_asked : ℤ → List ℤ → Result (List ℤ) CurveRefusal
cap_asked limit ps = cond (in_range limit) (Ok (capped limit ps)) (Err CapOutOfRange)

-- A price out of range stands at the nearer limit.
abbrev pub clamped : ℤ → ℤ
clamped p = int_min highest_price (int_max lowest_price p)

-- An adder adds its number to every price, and keeps each sum in range.
abbrev pub raised : ℤ → List ℤ → List ℤ
raised n ps = map (λ p. clamped (p +ℤ n)) ps

-- Whether every price stays in range when a number is added to it.
abbrev pub all_keep : ℤ → List ℤ → Bool
all_keep n ps = list_all (λ p. in_range (p +ℤ n)) ps

-- The curve that an adder is asked for, or its refusal: where it is made, no sum has to be kept in range.
abbrev pub adder_asked : ℤ → List ℤ → Result (List ℤ) CurveRefusal
adder_asked n ps = cond (all_keep n ps) (Ok (map (λ p. p +ℤ n) ps)) (Err AdderOutOfRange)
