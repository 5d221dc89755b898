use Rattle.std.proofs.Common.{◌≡◌, ◌*◌, drop}
use Rattle.offers.specs.Blocks.{spread}
use Rattle.offers.specs.Prices.{cost_of}
use Rattle.offers.specs.Spreads.{spent}
use Rattle.offers.specs.Sums.{Near}
use Rattle.offers.proofs.blocks.cost_of.Given as goal

-- the blocks to come answer for the tenths that are left as all blocks answer for the tenths; each block adds at most so much
abbrev pub invariant-loop-block : goal.invariant-loop-block
invariant-loop-block l = (spent l.tenths l.left l.cost (drop l.block-index l.blocks) ≡ cost_of (spread l.blocks) l.tenths) × Near (2000000000 * l.block-index) l.cost
