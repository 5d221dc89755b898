use Rattle.offers.proofs.Questions.{parts-fit, parts-sum}
use Rattle.offers.proofs.adder.sum_of.Goals as goal

pub overflow_add-result : goal.overflow_add-result
overflow_add-result c = let p = c.args.parts in parts-fit p.kept p.lifted p.added p.floor p.roof c.requires

pub returns : goal.returns
returns c = let p = c.args.parts in parts-sum p.kept p.lifted p.added p.floor p.roof c.requires
