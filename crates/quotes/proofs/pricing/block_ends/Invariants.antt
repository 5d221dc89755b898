use Rattle.std.proofs.Common.{◌≡◌, ◌+◌, ◌≤◌, ◌++◌, vec_items}
use Rattle.quotes.specs.Quotes.{ends_from}
use Rattle.quotes.proofs.Ends.{width_of_all}
use Rattle.quotes.proofs.pricing.block_ends.Given as goal

-- the ends so far, and those of the blocks to come
abbrev pub invariant-loop-block : goal.invariant-loop-block
invariant-loop-block l =
    let rest = l.block-iterator.iter.rest.now in
    (ends_from 0 (vec_items l.curve.blocks) ≡ vec_items l.ends ++ ends_from l.end rest)
    × (l.end + width_of_all rest ≤ 10000)
