-- The records of a unit, by the numbers of their lines.
use Rattle.std.specs.Prelude.{ℕ, cond, List, [], ◌∷◌, length, ℤ, pos, Ok, Err, Result, ◌==◌, slice_index_or}
use Rattle.market.specs.declared.day_ahead.DayAheadRecord.{DayAheadRecord}
use Rattle.market.specs.declared.ruc_record.RucRecord.{RucRecord}
use Rattle.quotes.specs.declared.fault.LineFault.{LineFault}
use Rattle.quotes.specs.declared.fault.LineFault.TheVariants.{WordCount}
use Rattle.offers.specs.Answers.{bind, then}
use Rattle.quotes.specs.Lines.{number_of}

-- The answer to each of a list, or the first refusal.
abbrev pub each : {X Y E : Type 0} → (X → Result Y E) → List X → Result (List Y) E
each f [] = Ok []
each f (x ∷ xs) = bind (f x) (λ y. then (each f xs) (λ more. y ∷ more))

-- So many numbers, and no other word.
abbrev pub numbers_of : ℕ → List (List ℕ) → Result (List ℤ) LineFault
numbers_of count words = cond (length words == count) (each number_of words) (Err WordCount)

-- A number by its place, from 0.
abbrev at : List ℤ → ℕ → ℤ
at ns i = slice_index_or ns i (pos 0)

-- The fields of a record stand in its order.
abbrev pub day_ahead_from : List ℤ → DayAheadRecord
day_ahead_from ns = record { cleared = at ns 0; price = at ns 1; no_load = at ns 2; reserve_cost = at ns 3; reserve_revenue = at ns 4 }

abbrev pub ruc_from : List ℤ → RucRecord
ruc_from ns = record {
  commitment_minimum = at ns 0;
  minimum_now = at ns 1;
  maximum = at ns 2;
  setpoint = at ns 3;
  actual = at ns 4;
  tolerance = at ns 5;
  price = at ns 6;
  no_load = at ns 7;
  non_dispatchable = at ns 8;
  other_revenue = at ns 9;
  reserve_cost = at ns 10;
}

abbrev pub day_ahead_of : List (List ℕ) → Result DayAheadRecord LineFault
day_ahead_of words = then (numbers_of 5 words) day_ahead_from

abbrev pub ruc_of : List (List ℕ) → Result RucRecord LineFault
ruc_of words = then (numbers_of 11 words) ruc_from
