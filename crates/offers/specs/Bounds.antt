-- What small private functions ask of their numbers, so that no product or sum passes its type.
use Rattle.std.specs.Prelude.{◌≤◌, ℤ, pos, negsuc, ◌≤ℤ◌}
use Rattle.offers.specs.declared.block.Block.{Block}
use Rattle.offers.specs.Prices.{InRange, highest_top}

-- A block of at most the highest top, at a price in range; it may be empty.
abbrev pub Kept : Block → Type 0
Kept b = (b.width ≤ highest_top) × InRange b.price

-- A difference of two prices.
abbrev pub Difference : ℤ → Type 0
Difference n = (negsuc 199999 ≤ℤ n) × (n ≤ℤ pos 200000)

-- An amount in ticks of at most ten thousand tenths, at prices or at differences of two prices.
abbrev pub Amount : ℤ → Type 0
Amount z = (negsuc 1999999999 ≤ℤ z) × (z ≤ℤ pos 2000000000)
