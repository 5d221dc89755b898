-- Parts that are near enough to 0 for the sums and products of them. No public contract cites this file.
use Rattle.std.specs.Prelude.{ℤ}
use Rattle.market.specs.Laws.{Within}
use Rattle.market.specs.Limits.{Admitted, power_limits, price_limits, no_load_limits, reserve_limits}

-- The parts of a cost: energy, which sums three costs of tenths of a curve at the most, no-load and reserve.
abbrev pub Payable : ℤ → ℤ → ℤ → Type 0
Payable energy no_load reserve = Within 3000000000 energy × Admitted no_load_limits no_load × Admitted reserve_limits reserve

-- The parts of a revenue: power, its price and other revenue.
abbrev pub Sellable : ℤ → ℤ → ℤ → Type 0
Sellable power price other = Admitted power_limits power × Admitted price_limits price × Within 500000000 other

-- Four costs of tenths of a curve.
abbrev pub Priced : ℤ → ℤ → ℤ → ℤ → Type 0
Priced committed replaced actual economic = Within 1000000000 committed × Within 1000000000 replaced × Within 1000000000 actual × Within 1000000000 economic
