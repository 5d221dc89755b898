use Rattle.std.proofs.Common.{sym, ap, ◌∙◌, arith}
use Rattle.std.proofs.lemmas.Int.{ints}
use Rattle.offers.specs.Prices.{up_to}
use Rattle.offers.specs.PilesLemmas.{count-raised-under, count-raised-over, count-raised}
use Rattle.offers.proofs.adder.AdderOfferCurve.count.Goals as goal

pub returns-then-price-lt-LOWEST_PRICE : goal.returns-then-price-lt-LOWEST_PRICE
returns-then-price-lt-LOWEST_PRICE g c =
    sym (count-raised-under c.args.self.now.added c.args.price (g.C.OfferCurve.prices c.args.self.now.lower) (omega (arith, ints)))

pub returns-then-price-lt-HIGHEST_PRICE : goal.returns-then-price-lt-HIGHEST_PRICE
returns-then-price-lt-HIGHEST_PRICE g c =
    let n = c.args.self.now.added in
    let ps = g.C.OfferCurve.prices c.args.self.now.lower in
    c.count.ensures ∙ ap (λ z. up_to z ps) (omega (arith, ints)) ∙ sym (count-raised n c.args.price ps (omega (arith, ints)) (omega (arith, ints)))

pub returns-else-price-lt-HIGHEST_PRICE : goal.returns-else-price-lt-HIGHEST_PRICE
returns-else-price-lt-HIGHEST_PRICE g c =
    c.top.ensures ∙ sym (count-raised-over c.args.self.now.added c.args.price (g.C.OfferCurve.prices c.args.self.now.lower) (omega (arith, ints)))
