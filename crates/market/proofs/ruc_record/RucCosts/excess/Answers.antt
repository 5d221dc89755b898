use Rattle.std.proofs.Common.{arith}
use Rattle.std.proofs.lemmas.Int.{ints}
use Rattle.market.proofs.ruc_record.RucCosts.excess.Goals as goal

pub returns-clause-modest : goal.returns-clause-modest
returns-clause-modest c = (grind (arith, ints), grind (arith, ints))
