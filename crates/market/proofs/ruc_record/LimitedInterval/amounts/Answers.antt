use Rattle.std.proofs.Common.{w64, rules}
use Rattle.std.proofs.lemmas.Int.{to_z-of_z}
use Rattle.market.proofs.ruc_record.LimitedInterval.amounts.Goals as goal

pub returns : goal.returns
returns c =
    let energy = to_z-of_z w64 c.energy.result (search rules) in
    let excess = to_z-of_z w64 c.excess.result (search rules) in
    let cost = to_z-of_z w64 c.cost.result (search rules) in
    let revenue = to_z-of_z w64 c.revenue.result (search rules) in
    let disallowed = to_z-of_z w64 c.disallowed.result (search rules) in
    cc
