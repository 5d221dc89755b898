-- Cost and revenue of one interval, in ticks: both processes put them together alike.
use Rattle.std.specs.Prelude.{ℤ, pos, ◌+ℤ◌, ◌*ℤ◌}

-- Energy in ticks, no-load in cents an hour (a cent an hour is 10 ticks an interval), reserve in ticks.
abbrev pub interval_cost : ℤ → ℤ → ℤ → ℤ
interval_cost energy no_load reserve = energy +ℤ pos 10 *ℤ no_load +ℤ reserve

-- Tenths at a price in cents per MWh, and other revenue in ticks.
abbrev pub interval_revenue : ℤ → ℤ → ℤ → ℤ
interval_revenue power price other = power *ℤ price +ℤ other
