use Rattle.std.proofs.Common.{arith}
use Rattle.std.proofs.lemmas.List.{at_drop_all}
use Rattle.std.proofs.lemmas.Int.{ints}
use Rattle.offers.specs.Spreads.{spent, spent_all, spent_over, spent_done, spent_more}
use Rattle.offers.proofs.blocks.cost_of.Goals as goal

pub loop-block-init : goal.loop-block-init
loop-block-init c = (spent_all c.args.tenths c.args.blocks.now, (omega (arith, ints), omega (arith, ints)))

pub overflow_add-cost : goal.overflow_add-cost
overflow_add-cost c = (spent_more _ c.args.blocks.now c.loop-block.block-index c.loop-block-test.true c.requires.few c.requires.kept c.args.tenths c.loop-block.left c.taken_of-taken.result _ c.cost_of_all-cost.result c.taken_of-taken.ensures c.cost_of_all-cost.ensures c.loop-block.invariant.0 c.loop-block.invariant.1).0

pub loop-block-preserved : goal.loop-block-preserved
loop-block-preserved c =
    let next = spent_more _ c.args.blocks.now c.loop-block.block-index c.loop-block-test.true c.requires.few c.requires.kept c.args.tenths c.loop-block.left c.taken_of-taken.result _ c.cost_of_all-cost.result c.taken_of-taken.ensures c.cost_of_all-cost.ensures c.loop-block.invariant.0 c.loop-block.invariant.1 in
    (next.1, next.2)

pub returns-then-left-gt0 : goal.returns-then-left-gt0
returns-then-left-gt0 c =
    let s = at_drop_all (spent c.args.tenths c.loop-block.left c.loop-block.cost) c.args.blocks.now c.loop-block.block-index c.loop-block-test.false in
    let e = spent_over c.args.tenths c.loop-block.left c.loop-block.cost (omega arith) in
    cc

pub returns : goal.returns
returns c =
    let s = at_drop_all (spent c.args.tenths c.loop-block.left c.loop-block.cost) c.args.blocks.now c.loop-block.block-index c.loop-block-test.false in
    let e = spent_done c.args.tenths c.loop-block.left c.loop-block.cost (omega arith) in
    cc
