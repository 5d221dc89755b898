use Rattle.std.proofs.Common.{◌≡◌, ◌≤◌}
use Rattle.offers.specs.Blocks.{spread}
use Rattle.offers.specs.Prices.{price_of}
use Rattle.offers.specs.Spreads.{found}
use Rattle.offers.proofs.blocks.price_of.Given as goal

-- the blocks to come answer for the tenths that are left as all blocks answer for the tenth
abbrev pub invariant-loop-block : goal.invariant-loop-block
invariant-loop-block l = (1 ≤ l.left) × (found l.tenth l.left l.block-iterator.iter.rest.now ≡ price_of (spread l.blocks) l.tenth)
