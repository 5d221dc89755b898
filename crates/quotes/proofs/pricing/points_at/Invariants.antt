use Rattle.std.proofs.Common.{◌≡◌, ◌++◌, vec_items}
use Rattle.offers.specs.Answers.{then}
use Rattle.quotes.specs.Quotes.{points_at}
use Rattle.quotes.proofs.pricing.points_at.Given as goal

-- the points so far, and those of the tenths to come
abbrev pub invariant-loop-tenth : goal.invariant-loop-tenth
invariant-loop-tenth g l =
    let ps = g.C.OfferCurve.prices l.curve in
    points_at ps l.tenths ≡ then (points_at ps l.tenth-iterator.iter.rest.now) (λ more. vec_items l.points ++ more)
