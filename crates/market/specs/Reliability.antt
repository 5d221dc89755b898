-- What the RUC process means: an interval of a unit by two lists of prices, that of the curve of the commitment decision and
-- that of the current curve.
use Rattle.std.specs.Prelude.{ℕ, ◌≤◌, min, max, Bool, false, cond, not, ◌&&◌, List, [], ◌∷◌, ℤ, pos, ◌+ℤ◌, ◌-ℤ◌, Option, Result, int_lt, unsigned_abs}
use Rattle.std.specs.Int.{int_max}
use Rattle.offers.specs.Answers.{or_else, unless}
use Rattle.offers.specs.Prices.{top_of, count_of}
use Rattle.market.specs.declared.amounts.Amounts.{Amounts}
use Rattle.market.specs.declared.amounts.Figures.{Figures}
use Rattle.market.specs.declared.limits.Limits.{Limits}
use Rattle.market.specs.declared.refusal.ProcessRefusal.{ProcessRefusal}
use Rattle.market.specs.declared.ruc_record.RucRecord.{RucRecord}
use Rattle.market.specs.Amounts.{interval_cost, interval_revenue}
use Rattle.market.specs.Curves.{cost_up_to, tenth_refusal}
use Rattle.market.specs.Limits.{field_refusal, AllAdmitted, power_limits, price_limits, no_load_limits, reserve_limits, other_limits, flag_limits}

abbrev pub ruc_figures : Figures
ruc_figures = record { number = 2; length = 1; takes_over = false; pot = 1 }

-- The fields and their rows, in order. The maximum may not be below the commitment minimum.
abbrev pub ruc_fields : RucRecord → List ℤ
ruc_fields x = x.commitment_minimum ∷ x.minimum_now ∷ x.maximum ∷ x.setpoint ∷ x.actual ∷ x.tolerance ∷ x.price ∷ x.no_load ∷ x.non_dispatchable ∷ x.other_revenue ∷ x.reserve_cost ∷ []

abbrev pub maximum_limits : RucRecord → Limits
maximum_limits x = record { lowest = int_max power_limits.lowest x.commitment_minimum; highest = power_limits.highest }

abbrev pub ruc_limits : RucRecord → List Limits
ruc_limits x = power_limits ∷ power_limits ∷ maximum_limits x ∷ power_limits ∷ power_limits ∷ power_limits ∷ price_limits ∷ no_load_limits ∷ flag_limits ∷ other_limits ∷ reserve_limits ∷ []

-- The first field outside its row.
abbrev pub ruc_field_refusal : RucRecord → Option ProcessRefusal
ruc_field_refusal x = field_refusal 1 (ruc_limits x) (ruc_fields x)

-- The fields are looked at first. Then the commitment minimum has to lie on both curves, maximum and actual output on the
-- current one.
unfoldable pub ruc_refusal : List ℤ → List ℤ → RucRecord → Option ProcessRefusal
ruc_refusal committed current x =
    or_else (ruc_field_refusal x)
    (or_else (tenth_refusal committed (unsigned_abs x.commitment_minimum))
    (or_else (tenth_refusal current (unsigned_abs x.commitment_minimum))
    (or_else (tenth_refusal current (unsigned_abs x.maximum))
    (tenth_refusal current (unsigned_abs x.actual)))))

-- The part of the output up to the commitment minimum.
abbrev pub held_output : RucRecord → ℕ
held_output x = min (unsigned_abs x.actual) (unsigned_abs x.commitment_minimum)

-- The cost of the held output as the commitment was decided, in place of what it costs now.
abbrev pub energy_of : ℤ → ℤ → ℤ → ℤ
energy_of committed actual replaced = committed +ℤ (actual -ℤ replaced)

-- Up to the commitment minimum the output costs what the commitment was decided on, beyond it what is offered now.
abbrev pub energy_cost : List ℤ → List ℤ → RucRecord → ℤ
energy_cost committed current x = energy_of (cost_up_to committed (held_output x)) (cost_up_to current (unsigned_abs x.actual)) (cost_up_to current (held_output x))

-- A power raised to the commitment minimum or lowered to the maximum.
abbrev pub within_reach : RucRecord → ℕ → ℕ
within_reach x tenths = min (max tenths (unsigned_abs x.commitment_minimum)) (unsigned_abs x.maximum)

-- The economic operating point: the tenths that run at the price, within reach.
abbrev pub economic_point : List ℤ → RucRecord → ℕ
economic_point current x = within_reach x (count_of current x.price)

-- What the output costs beyond another, or 0.
abbrev pub excess_of : ℤ → ℤ → ℤ
excess_of actual economic = int_max (actual -ℤ economic) (pos 0)

-- What the output costs beyond the economic operating point.
abbrev pub excess_cost : List ℤ → RucRecord → ℤ
excess_cost current x = excess_of (cost_up_to current (unsigned_abs x.actual)) (cost_up_to current (economic_point current x))

-- The three grounds on which cost is disallowed.
-- The first: the output lies further than the tolerance from the setpoint.
abbrev pub off_setpoint : RucRecord → Bool
off_setpoint x = int_lt x.tolerance (pos (unsigned_abs (x.actual -ℤ x.setpoint)))

-- The second: the unit is non-dispatchable.
abbrev pub non_dispatchable : RucRecord → Bool
non_dispatchable x = int_lt (pos 0) x.non_dispatchable

-- The third: the minimum now lies further than the tolerance above the commitment minimum, and the second does not hold.
abbrev pub minimum_raised : RucRecord → Bool
minimum_raised x = int_lt x.tolerance (x.minimum_now -ℤ x.commitment_minimum) && not (non_dispatchable x)

-- Each ground that holds disallows the excess.
abbrev pub disallowed_by : RucRecord → ℤ → ℤ
disallowed_by x excess = cond (off_setpoint x) excess (pos 0) +ℤ cond (non_dispatchable x) excess (pos 0) +ℤ cond (minimum_raised x) excess (pos 0)

-- The amounts of an interval by its energy cost and its excess.
abbrev pub amounts_by : ℤ → ℤ → RucRecord → Amounts
amounts_by energy excess x = record {
  cost = interval_cost energy x.no_load x.reserve_cost;
  revenue = interval_revenue x.actual x.price x.other_revenue;
  disallowed = disallowed_by x excess;
}

abbrev pub ruc_amounts : List ℤ → List ℤ → RucRecord → Amounts
ruc_amounts committed current x = amounts_by (energy_cost committed current x) (excess_cost current x) x

abbrev pub ruc_meaning : List ℤ → List ℤ → RucRecord → Result Amounts ProcessRefusal
ruc_meaning committed current x = unless (ruc_refusal committed current x) (ruc_amounts committed current x)

-- The records that are taken, said at once.
pub record RucTaken (committed current : List ℤ) (x : RucRecord) : Type 0 where
  pub fields : AllAdmitted (ruc_limits x) (ruc_fields x)
  pub decided : unsigned_abs x.commitment_minimum ≤ top_of committed
  pub least : unsigned_abs x.commitment_minimum ≤ top_of current
  pub most : unsigned_abs x.maximum ≤ top_of current
  pub output : unsigned_abs x.actual ≤ top_of current
