use Rattle.std.proofs.Common.{◌≡◌, ◌+◌, ◌≤◌, length}
use Rattle.offers.specs.Blocks.{spread, fault, fault_from}
use Rattle.offers.specs.Prices.{highest_top}
use Rattle.offers.proofs.blocks.checked_top.Given as goal

-- the first fault of all is that of the blocks to come, and the widths so far and those to come are the top
abbrev pub invariant-loop-number : goal.invariant-loop-number
invariant-loop-number l =
    let rest = l.number-iterator.b.rest.now in
    (l.number-iterator.a.start + length rest ≡ length l.blocks + 1)
    × (l.top ≤ highest_top)
    × (fault_from l.number-iterator.a.start l.top l.floor rest ≡ fault l.blocks)
    × (l.top + length (spread rest) ≡ length (spread l.blocks))
