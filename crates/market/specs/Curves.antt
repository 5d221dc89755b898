-- What a process asks of a curve, by its list of prices.
use Rattle.std.specs.Prelude.{◌≡◌, MatchResult, ℕ, cond, List, take, ℤ, Some, None, Option, Result, nat_le}
use Rattle.offers.specs.Answers.{unless}
use Rattle.offers.specs.Prices.{top_of, total}
use Rattle.market.specs.declared.refusal.ProcessRefusal.{ProcessRefusal}
use Rattle.market.specs.declared.refusal.ProcessRefusal.TheVariants.{NoSuchTenth}

-- The answer of a list of prices to a cost, in two halves: what it costs, and whether the list goes so far. The power in a
-- record's field is a number of tenths once the field is within its limits: unsigned_abs of it is then the number itself.
-- The cost of the first tenths: the sum of their prices.
abbrev pub cost_up_to : List ℤ → ℕ → ℤ
cost_up_to ps tenths = total (take tenths ps)

-- A curve has no tenth beyond its top.
abbrev pub tenth_refusal : List ℤ → ℕ → Option ProcessRefusal
tenth_refusal ps tenths = cond (nat_le tenths (top_of ps)) None (Some (NoSuchTenth tenths))

-- What a check answers: nothing, or its refusal.
abbrev pub checked : Option ProcessRefusal → Result (Unit {0}) ProcessRefusal
checked refusal = unless refusal tt

-- A record that was checked is passed on as it is, or it is refused.
abbrev pub PassedOn : {L X : Type 0} → Result L ProcessRefusal → (L → X) → Option ProcessRefusal → X → Type 0
PassedOn result means refusal x = MatchResult result (λ l. (means l ≡ x) × (refusal ≡ None)) (λ r. refusal ≡ Some r)
