use Rattle.std.proofs.Common.{sym, ◌∙◌, arith}
use Rattle.std.proofs.lemmas.Int.{ints, to_z-of_z}
use Rattle.offers.specs.PilesLemmas.{count-capped-under, count-capped-over}
use Rattle.offers.proofs.capped.CapOfferCurve.count.Goals as goal

pub returns-then-price-self : goal.returns-then-price-self
returns-then-price-self g c =
    let fits = c.ranges.price in
    let e = simp to_z-of_z at c.count.ensures in
    e ∙ sym (count-capped-under c.args.self.now.limit c.args.price (g.C.OfferCurve.prices c.args.self.now.lower) (omega (arith, ints)))

pub returns-else-price-self : goal.returns-else-price-self
returns-else-price-self g c =
    c.top.ensures ∙ sym (count-capped-over c.args.self.now.limit c.args.price (g.C.OfferCurve.prices c.args.self.now.lower) (omega (arith, ints)))
