use Rattle.std.proofs.Common.{◌*ℤ◌, w64, SFits, arith, rules}
use Rattle.std.proofs.lemmas.Int.{ints, to_z-of_z}
use Rattle.market.specs.Products.{sold_within, within-fits}
use Rattle.market.proofs.parts.RevenueParts.sold.Goals as goal

pub overflow_mul-result : goal.overflow_mul-result
overflow_mul-result c =
    let p = c.args.self.now in
    let f : SFits w64 p.power = search rules in
    let g : SFits w64 p.price = search rules in
    let sold = sold_within _ _ p.sellable.0 p.sellable.1 in
    simp to_z-of_z (within-fits (p.power *ℤ p.price) (omega (arith, ints), omega (arith, ints)))

pub returns : goal.returns
returns c =
    let p = c.args.self.now in
    let f : SFits w64 p.power = search rules in
    let g : SFits w64 p.price = search rules in
    let sold = sold_within _ _ p.sellable.0 p.sellable.1 in
    let h : SFits w64 (p.power *ℤ p.price) = within-fits (p.power *ℤ p.price) (omega (arith, ints), omega (arith, ints)) in
    record { value = simp to_z-of_z; modest = simp to_z-of_z sold }
