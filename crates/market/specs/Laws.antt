-- What every market process owes: figures within their ranges, amounts within their bounds.
use Rattle.std.specs.Prelude.{◌≡◌, ℕ, ◌*◌, ◌≤◌, Bool, true, ◌||◌, ℤ, pos, neg_ℤ, ◌≤ℤ◌, Ok, Err, Result, ◌==◌}
use Rattle.market.specs.declared.amounts.Amounts.{Amounts}
use Rattle.market.specs.declared.amounts.Figures.{Figures}
use Rattle.market.specs.declared.refusal.ProcessRefusal.{ProcessRefusal}
use Rattle.market.specs.declared.refusal.ProcessRefusal.TheVariants.{FieldOutsideLimits, NoSuchTenth}

-- The figures of a process by its four constants.
abbrev pub figures_of : ℕ → ℕ → Bool → ℕ → Figures
figures_of number length takes_over pot = record { number = number; length = length; takes_over = takes_over; pot = pot }

-- The lengths of a step, in intervals: twelve of them make an hour.
abbrev pub is_length : ℕ → Bool
is_length n = n == 1 || (n == 2 || (n == 3 || (n == 4 || (n == 6 || n == 12))))

pub record LawfulFigures (f : Figures) : Type 0 where
  pub number : f.number ≤ 255
  pub length : is_length f.length ≡ true
  pub pot : f.pot ≤ 1

-- The most that a step may cost or earn, in ticks.
abbrev pub most_ticks : Figures → ℕ
most_ticks f = f.length * 2000000000

-- An amount at most so far from 0.
abbrev pub Within : ℕ → ℤ → Type 0
Within n z = (neg_ℤ (pos n) ≤ℤ z) × (z ≤ℤ pos n)

pub record Bounded (f : Figures) (a : Amounts) : Type 0 where
  pub cost : Within (most_ticks f) a.cost
  pub revenue : Within (most_ticks f) a.revenue
  pub disallowed : (pos 0 ≤ℤ a.disallowed) × (a.disallowed ≤ℤ pos (most_ticks f))

-- Fields count from 1.
abbrev pub LawfulRefusal : ProcessRefusal → Type 0
LawfulRefusal (FieldOutsideLimits field) = 1 ≤ field
LawfulRefusal (NoSuchTenth tenth) = Unit {0}

abbrev pub LawfulMeaning : Figures → Result Amounts ProcessRefusal → Type 0
LawfulMeaning f (Ok a) = Bounded f a
LawfulMeaning f (Err refusal) = LawfulRefusal refusal
