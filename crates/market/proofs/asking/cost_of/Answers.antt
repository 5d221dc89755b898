use Rattle.std.proofs.Common.{rules}
use Rattle.market.specs.Costs.{cost-within}
use Rattle.market.proofs.asking.cost_of.Goals as goal

pub returns-clause-modest : goal.returns-clause-modest
returns-clause-modest g c = let near = cost-within _ c.args.tenths (g.met.C.OfferCurve.lawful c.args.curve.now) in search rules
