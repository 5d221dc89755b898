use Rattle.std.proofs.Common.{◌+ℤ◌}
use Rattle.std.proofs.lemmas.Result.{err_from_is_err_and}
use Rattle.offers.specs.Piles.{clamped}
use Rattle.offers.proofs.Questions.{price-refused, price-changed, price-within, raised-fits, clamp-back}
use Rattle.offers.proofs.adder.AdderOfferCurve.price.Goals as goal

pub returns-in_err-price : goal.returns-in_err-price
returns-in_err-price g c =
    let s = c.args.self.now in
    let e = err_from_is_err_and c.from_residual.result c.from_residual.ensures.1 in
    rw (e.1, e.2) (price-refused (λ p. clamped (p +ℤ s.added)) (g.C.OfferCurve.prices s.lower) c.args.tenth _ c.in_err-price.ensures)

pub overflow_add-price : goal.overflow_add-price
overflow_add-price g c =
    let s = c.args.self.now in
    let p = c.in_ok-price.price in
    let within = price-within (g.C.OfferCurve.prices s.lower) c.args.tenth p (g.met.C.OfferCurve.lawful s.lower) c.in_ok-price.ensures in
    raised-fits s.added p within s.modest

pub returns : goal.returns
returns g c =
    let s = c.args.self.now in
    let ps = g.C.OfferCurve.prices s.lower in
    let p = c.in_ok-price.price in
    let within = price-within ps c.args.tenth p (g.met.C.OfferCurve.lawful s.lower) c.in_ok-price.ensures in
    let is = clamp-back s.added p within s.modest c.clamp.result c.clamp.ensures.value in
    price-changed (λ p. clamped (p +ℤ s.added)) ps c.args.tenth p _ is c.in_ok-price.ensures
