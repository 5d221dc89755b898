-- What the Day-Ahead process means: an hour of a unit that offered along a list of prices.
use Rattle.std.specs.Prelude.{◌≤◌, true, List, [], ◌∷◌, ℤ, pos, ◌*ℤ◌, Option, Result, unsigned_abs}
use Rattle.offers.specs.Answers.{or_else, unless}
use Rattle.offers.specs.Prices.{top_of}
use Rattle.market.specs.declared.amounts.Amounts.{Amounts}
use Rattle.market.specs.declared.amounts.Figures.{Figures}
use Rattle.market.specs.declared.day_ahead.DayAheadRecord.{DayAheadRecord}
use Rattle.market.specs.declared.limits.Limits.{Limits}
use Rattle.market.specs.declared.refusal.ProcessRefusal.{ProcessRefusal}
use Rattle.market.specs.Amounts.{interval_cost, interval_revenue}
use Rattle.market.specs.Curves.{cost_up_to, tenth_refusal}
use Rattle.market.specs.Limits.{field_refusal, AllAdmitted, power_limits, price_limits, no_load_limits, reserve_limits}

abbrev pub day_ahead_figures : Figures
day_ahead_figures = record { number = 1; length = 12; takes_over = true; pot = 0 }

-- The fields and their rows, in order.
abbrev pub day_ahead_fields : DayAheadRecord → List ℤ
day_ahead_fields x = x.cleared ∷ x.price ∷ x.no_load ∷ x.reserve_cost ∷ x.reserve_revenue ∷ []

abbrev pub day_ahead_limits : List Limits
day_ahead_limits = power_limits ∷ price_limits ∷ no_load_limits ∷ reserve_limits ∷ reserve_limits ∷ []

-- The first field outside its row.
abbrev pub day_ahead_field_refusal : DayAheadRecord → Option ProcessRefusal
day_ahead_field_refusal x = field_refusal 1 day_ahead_limits (day_ahead_fields x)

-- The fields are looked at first, then the curve.
unfoldable pub day_ahead_refusal : List ℤ → DayAheadRecord → Option ProcessRefusal
day_ahead_refusal ps x = or_else (day_ahead_field_refusal x) (tenth_refusal ps (unsigned_abs x.cleared))

-- Twelve intervals of cost and revenue, where the energy of one costs so much; nothing is disallowed.
abbrev pub hour_amounts : ℤ → DayAheadRecord → Amounts
hour_amounts energy x = record {
  cost = pos 12 *ℤ interval_cost energy x.no_load x.reserve_cost;
  revenue = pos 12 *ℤ interval_revenue x.cleared x.price x.reserve_revenue;
  disallowed = pos 0;
}

abbrev pub day_ahead_amounts : List ℤ → DayAheadRecord → Amounts
day_ahead_amounts ps x = hour_amounts (cost_up_to ps (unsigned_abs x.cleared)) x

abbrev pub day_ahead_meaning : List ℤ → DayAheadRecord → Result Amounts ProcessRefusal
day_ahead_meaning ps x = unless (day_ahead_refusal ps x) (day_ahead_amounts ps x)

-- The records that are taken, said at once.
pub record DayAheadTaken (ps : List ℤ) (x : DayAheadRecord) : Type 0 where
  pub fields : AllAdmitted day_ahead_limits (day_ahead_fields x)
  pub cleared : unsigned_abs x.cleared ≤ top_of ps
