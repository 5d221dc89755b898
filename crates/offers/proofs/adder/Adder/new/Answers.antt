use Rattle.offers.proofs.Questions.{adder-made, adder-unmade, adder-modest}
use Rattle.offers.proofs.adder.Adder.new.Goals as goal

pub invariant_of-result : goal.invariant_of-result
invariant_of-result g c =
    record { modest = adder-modest c.args.added (g.C.OfferCurve.prices c.args.lower) c.top.result c.in_ok-first.first c.in_ok-last.last c.ranges.added (g.met.C.OfferCurve.lawful c.args.lower) c.top.ensures c.in_ok-first.ensures c.in_ok-last.ensures c.keep_all.result c.keep_all.ensures c.if-keep_all.true }

pub returns-then-keep_all : goal.returns-then-keep_all
returns-then-keep_all g c =
    adder-made c.args.added (g.C.OfferCurve.prices c.args.lower) c.top.result c.in_ok-first.first c.in_ok-last.last c.ranges.added (g.met.C.OfferCurve.lawful c.args.lower) c.top.ensures c.in_ok-first.ensures c.in_ok-last.ensures c.keep_all.result c.keep_all.ensures c.if-keep_all.true

pub returns-else-keep_all : goal.returns-else-keep_all
returns-else-keep_all g c =
    adder-unmade c.args.added (g.C.OfferCurve.prices c.args.lower) c.top.result c.in_ok-first.first c.in_ok-last.last c.ranges.added (g.met.C.OfferCurve.lawful c.args.lower) c.top.ensures c.in_ok-first.ensures c.in_ok-last.ensures c.keep_all.result c.keep_all.ensures c.if-keep_all.false
