use Rattle.std.proofs.Common.{◌≡◌, ℕ, ◌≤◌, ℤ, pos, ◌+ℤ◌, ◌*ℤ◌, ap, ◌∙◌, arith}
use Rattle.offers.specs.declared.adder.Split.{Split}
use Rattle.offers.specs.declared.block.Block.{Block}
use lib.ListN.{length-map}
use Rattle.std.proofs.lemmas.Int.{ints}
use Rattle.offers.specs.Bounds.{Difference}
use Rattle.offers.specs.Piles.{clamped, raised}
use Rattle.offers.specs.Prices.{highest_top}
use Rattle.offers.proofs.Questions.{cost-beyond, lifted-kept, raised-amounts, cost-raised}
use Rattle.offers.proofs.adder.AdderOfferCurve.cost.Goals as goal

priced-as : (r : ℤ) (b : Block) (w : ℕ) (p : ℤ) → r ≡ pos b.width *ℤ b.price → b ≡ record { width = w; price = p } → r ≡ pos w *ℤ p
priced-as r b w p e is = e ∙ ap (λ (x : Block). pos x.width *ℤ x.price) is

wide : (b : Block) (w : ℕ) (p : ℤ) → b ≡ record { width = w; price = p } → w ≤ highest_top → Difference p → (b.width ≤ highest_top) × Difference b.price
wide b w p e few modest = rw e (few, modest)

pub returns-then-tenths-top : goal.returns-then-tenths-top
returns-then-tenths-top g c =
    let n = c.args.self.now.added in
    let ps = g.C.OfferCurve.prices c.args.self.now.lower in
    let same = length-map ps (λ p. clamped (p +ℤ n)) in
    cost-beyond (raised n ps) c.args.tenths (omega arith)

pub split_of-parts-requires : goal.split_of-parts-requires
split_of-parts-requires g c =
    let s = c.args.self.now in
    let l = g.met.C.OfferCurve.lawful s.lower in
    record {
      ordered = lifted-kept s.added (g.C.OfferCurve.prices s.lower) c.args.tenths c.min-lifted.result c.min-kept.result c.count.result c.count-2.result s.modest l (omega arith) c.count.ensures c.count-2.ensures c.min-lifted.ensures c.min-kept.ensures;
      within = omega arith;
    }

pub cost_of_all-requires : goal.cost_of_all-requires
cost_of_all-requires g c =
    let s = c.args.self.now in
    let few = (g.met.C.OfferCurve.lawful s.lower).few in
    let low = s.modest.0 in
    let high = s.modest.1 in
    let w = wide _ _ _ (ap (λ (x : Split). x.raised) c.split_of-parts.ensures) (omega arith) (omega (arith, ints), omega (arith, ints)) in
    record { few = w.0; modest = w.1 }

pub cost_of_all-requires-2 : goal.cost_of_all-requires-2
cost_of_all-requires-2 g c =
    let few = (g.met.C.OfferCurve.lawful c.args.self.now.lower).few in
    let w = wide _ _ _ (ap (λ (x : Split). x.lifted) c.split_of-parts.ensures) (omega arith) (omega (arith, ints), omega (arith, ints)) in
    record { few = w.0; modest = w.1 }

pub cost_of_all-requires-3 : goal.cost_of_all-requires-3
cost_of_all-requires-3 g c =
    let few = (g.met.C.OfferCurve.lawful c.args.self.now.lower).few in
    let w = wide _ _ _ (ap (λ (x : Split). x.cut) c.split_of-parts.ensures) (omega arith) (omega (arith, ints), omega (arith, ints)) in
    record { few = w.0; modest = w.1 }

pub sum_of-requires : goal.sum_of-requires
sum_of-requires g c =
    let s = c.args.self.now in
    let parts = c.split_of-parts.ensures in
    raised-amounts s.added (g.C.OfferCurve.prices s.lower) c.args.tenths c.min-lifted.result c.min-kept.result c.count.result c.count-2.result s.modest (g.met.C.OfferCurve.lawful s.lower) (omega arith) c.count.ensures c.count-2.ensures c.min-lifted.ensures c.min-kept.ensures c.in_ok-cost.field-0 c.in_ok-cost_if_any.field-0 c.cost_of_all.result c.cost_of_all-2.result c.cost_of_all-3.result c.in_ok-cost.ensures c.in_ok-cost_if_any.ensures (priced-as _ _ _ _ c.cost_of_all.ensures (ap (λ (x : Split). x.raised) parts)) (priced-as _ _ _ _ c.cost_of_all-2.ensures (ap (λ (x : Split). x.lifted) parts)) (priced-as _ _ _ _ c.cost_of_all-3.ensures (ap (λ (x : Split). x.cut) parts))

pub returns : goal.returns
returns g c =
    let s = c.args.self.now in
    let parts = c.split_of-parts.ensures in
    cost-raised s.added (g.C.OfferCurve.prices s.lower) c.args.tenths c.min-lifted.result c.min-kept.result c.count.result c.count-2.result s.modest (g.met.C.OfferCurve.lawful s.lower) (omega arith) c.count.ensures c.count-2.ensures c.min-lifted.ensures c.min-kept.ensures c.in_ok-cost.field-0 c.in_ok-cost_if_any.field-0 c.cost_of_all.result c.cost_of_all-2.result c.cost_of_all-3.result c.in_ok-cost.ensures c.in_ok-cost_if_any.ensures (priced-as _ _ _ _ c.cost_of_all.ensures (ap (λ (x : Split). x.raised) parts)) (priced-as _ _ _ _ c.cost_of_all-2.ensures (ap (λ (x : Split). x.lifted) parts)) (priced-as _ _ _ _ c.cost_of_all-3.ensures (ap (λ (x : Split). x.cut) parts)) c.sum_of.result c.sum_of.ensures
