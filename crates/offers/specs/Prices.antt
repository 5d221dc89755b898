-- What an offer curve means: a list of prices in cents per MWh, one for each tenth of a megawatt from 1 to its top.
use Rattle.std.specs.Prelude.{ℕ, ◌+◌, ◌-◌, ◌≤◌, Bool, cond, ◌&&◌, List, [], ◌∷◌, length, take, ℤ, pos, negsuc, ◌+ℤ◌, ◌≤ℤ◌, Ok, Err, Result, int_le, nat_le, slice_index_or}
use Rattle.std.specs.List.{AllByRecursion}
use Rattle.offers.specs.declared.refusal.CurveRefusal.{CurveRefusal}
use Rattle.offers.specs.declared.refusal.CurveRefusal.TheVariants.{NoSuchTenth}

-- The limits of a top, in tenths, and of a price.
abbrev pub highest_top : ℕ
highest_top = 10000

abbrev pub lowest_price : ℤ
lowest_price = negsuc 99999

abbrev pub highest_price : ℤ
highest_price = pos 100000

abbrev pub InRange : ℤ → Type 0
InRange p = (lowest_price ≤ℤ p) × (p ≤ℤ highest_price)

-- The same as a test.
abbrev pub in_range : ℤ → Bool
in_range p = int_le lowest_price p && int_le p highest_price

-- None of the prices is below the one before it, and the first is not below the floor.
abbrev pub Rises : ℤ → List ℤ → Type 0
Rises floor [] = Unit {0}
Rises floor (p ∷ ps) = (floor ≤ℤ p) × Rises p ps

-- No price is below the one before it.
abbrev pub Rising : List ℤ → Type 0
Rising [] = Unit {0}
Rising (p ∷ ps) = Rises p ps

-- The law of a curve.
pub record Lawful (ps : List ℤ) : Type 0 where
  pub some : 1 ≤ length ps
  pub few : length ps ≤ highest_top
  pub within : AllByRecursion InRange ps
  pub rising : Rising ps

abbrev pub total : List ℤ → ℤ
total [] = pos 0
total (p ∷ ps) = p +ℤ total ps

-- How many of the prices are at most p.
abbrev pub up_to : ℤ → List ℤ → ℕ
up_to p [] = 0
up_to p (x ∷ xs) = cond (int_le x p) 1 0 + up_to p xs

-- The four answers that a list of prices gives.
abbrev pub top_of : List ℤ → ℕ
top_of ps = length ps

abbrev pub price_of : List ℤ → ℕ → Result ℤ CurveRefusal
price_of ps tenth = cond (nat_le 1 tenth && nat_le tenth (length ps)) (Ok (slice_index_or ps (tenth - 1) (pos 0))) (Err (NoSuchTenth tenth))

abbrev pub cost_of : List ℤ → ℕ → Result ℤ CurveRefusal
cost_of ps tenths = cond (nat_le tenths (length ps)) (Ok (total (take tenths ps))) (Err (NoSuchTenth tenths))

abbrev pub count_of : List ℤ → ℤ → ℕ
count_of ps price = up_to price ps
