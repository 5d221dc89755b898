use Rattle.std.proofs.Common.{vec_items, sym, ◌∙◌, arith}
use Rattle.std.proofs.lemmas.Int.{to_z-of_z}
use Rattle.offers.specs.Blocks.{spread}
use Rattle.offers.specs.Spreads.{lawful-spread, up_to-blocks}
use Rattle.offers.specs.Sums.{up_to-length}
use Rattle.offers.proofs.blocks.BlockCurveOfferCurve.count.Goals as goal

pub count_of-requires : goal.count_of-requires
count_of-requires c =
    let bs = vec_items c.args.self.now.blocks in
    let few = (lawful-spread bs c.args.self.now.faultless).few in
    let most = up_to-length c.args.price (spread bs) in
    let e = up_to-blocks c.args.price bs in
    let fits = c.ranges.price in
    rw c.as_slice.ensures.value (simp to_z-of_z (omega arith))

pub returns : goal.returns
returns c =
    let fits = c.ranges.price in
    let e = rw c.as_slice.ensures.value at (simp to_z-of_z at c.count_of.ensures) in
    e ∙ sym (up_to-blocks c.args.price (vec_items c.args.self.now.blocks))
