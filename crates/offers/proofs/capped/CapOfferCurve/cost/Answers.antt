use Rattle.std.proofs.Common.{◌≤◌, length, arith}
use Rattle.offers.proofs.Questions.{capped_fits, cost-capped}
use Rattle.offers.proofs.capped.CapOfferCurve.cost.Goals as goal

pub overflow_add-result : goal.overflow_add-result
overflow_add-result g c =
    let s = c.args.self.now in
    let ps = g.C.OfferCurve.prices s.lower in
    let h : c.args.tenths ≤ length ps = omega arith in
    capped_fits s.limit ps c.args.tenths c.min-under.result c.count.result c.in_ok-below.below c.cost_of_all-level.result s.within (g.met.C.OfferCurve.lawful s.lower) h c.count.ensures c.min-under.ensures c.in_ok-below.ensures c.cost_of_all-level.ensures

pub returns : goal.returns
returns g c =
    let s = c.args.self.now in
    let ps = g.C.OfferCurve.prices s.lower in
    let h : c.args.tenths ≤ length ps = omega arith in
    cost-capped s.limit ps c.args.tenths c.min-under.result c.count.result c.in_ok-below.below c.cost_of_all-level.result s.within (g.met.C.OfferCurve.lawful s.lower) h c.count.ensures c.min-under.ensures c.in_ok-below.ensures c.cost_of_all-level.ensures
