use Rattle.std.proofs.Common.{vec_items}
use Rattle.offers.specs.Spreads.{faultless}
use Rattle.offers.proofs.blocks.BlockCurveOfferCurve.cost.Goals as goal

pub cost_of-requires-clause-kept : goal.cost_of-requires-clause-kept
cost_of-requires-clause-kept c =
    let s = faultless (vec_items c.args.self.now.blocks) c.args.self.now.faultless in
    rw c.as_slice.ensures.value s.2.kept
