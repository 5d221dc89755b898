-- Amounts worked out by hand, said of the rules themselves.
use Rattle.std.specs.Prelude.{◌≡◌, ℕ, List, [], ◌∷◌, ℤ, pos, Ok}
use Rattle.offers.specs.Prices.{cost_of, count_of}
use Rattle.offers.specs.Blocks.{spread}
use Rattle.offers.specs.Piles.{capped, raised}
use Rattle.market.specs.declared.day_ahead.DayAheadRecord.{DayAheadRecord}
use Rattle.market.specs.declared.ruc_record.RucRecord.{RucRecord}
use Rattle.market.specs.DayAhead.{day_ahead_meaning}
use Rattle.market.specs.Reliability.{ruc_meaning}

-- B: 100 tenths at 2,000 and 100 at 3,000.
abbrev pub curve_b : List ℤ
curve_b = spread (record { width = 100; price = pos 2000 } ∷ record { width = 100; price = pos 3000 } ∷ [])

-- C: adder 300 over B.
abbrev pub curve_c : List ℤ
curve_c = raised (pos 300) curve_b

abbrev Costs : List ℤ → ℕ → ℤ → Type 0
Costs ps tenths ticks = cost_of ps tenths ≡ Ok ticks

pub record Curves : Type 0 where
  pub none : Costs curve_b 0 (pos 0)
  pub first_block : Costs curve_b 100 (pos 200000)
  pub one_more : Costs curve_b 101 (pos 203000)
  pub all : Costs curve_b 200 (pos 500000)
  pub below_first : count_of curve_b (pos 1999) ≡ 0
  pub at_first : count_of curve_b (pos 2000) ≡ 100
  pub cap_over_adder : Costs (capped (pos 2500) (raised (pos 300) curve_b)) 200 (pos 480000)
  pub adder_over_cap : Costs (raised (pos 300) (capped (pos 2500) curve_b)) 200 (pos 510000)

-- An hour of 150 tenths at 2,200 with a no-load offer of 6,000.
abbrev pub hour : DayAheadRecord
hour = record { cleared = pos 150; price = pos 2200; no_load = pos 6000; reserve_cost = pos 0; reserve_revenue = pos 0 }

-- An interval with both minima 100, maximum 200, setpoint 140, actual 150 and price 2,495, by its tolerance.
abbrev pub interval : ℤ → RucRecord
interval within = record {
  commitment_minimum = pos 100;
  minimum_now = pos 100;
  maximum = pos 200;
  setpoint = pos 140;
  actual = pos 150;
  tolerance = within;
  price = pos 2495;
  no_load = pos 0;
  non_dispatchable = pos 0;
  other_revenue = pos 0;
  reserve_cost = pos 0;
}

-- Cost, revenue and what is disallowed.
pub record Processes : Type 0 where
  pub day_ahead : day_ahead_meaning curve_b hour ≡ Ok (record { cost = pos 4920000; revenue = pos 3960000; disallowed = pos 0 })
  pub at_tolerance : ruc_meaning curve_b curve_c (interval (pos 10)) ≡ Ok (record { cost = pos 365000; revenue = pos 374250; disallowed = pos 0 })
  pub beyond_tolerance : ruc_meaning curve_b curve_c (interval (pos 9)) ≡ Ok (record { cost = pos 365000; revenue = pos 374250; disallowed = pos 165000 })

-- The theorem of worked amounts.
pub record WorkedAmounts : Type 0 where
  pub curves : Curves
  pub processes : Processes
