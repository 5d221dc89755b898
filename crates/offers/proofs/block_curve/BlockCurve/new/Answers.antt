use Rattle.std.proofs.Common.{vec_items, refl}
use Rattle.std.proofs.lemmas.Result.{err_from_is_err_and}
use Rattle.std.proofs.lemmas.Bool.{false≢true}
use Rattle.offers.specs.Spreads.{refused-blocks, taken-blocks}
use Rattle.offers.proofs.block_curve.BlockCurve.new.Goals as goal

pub returns-in_err-top-clause-taken : goal.returns-in_err-top-clause-taken
returns-in_err-top-clause-taken c =
    let e = err_from_is_err_and c.from_residual.result c.from_residual.ensures.1 in
    let n = refused-blocks (vec_items c.args.blocks) c.as_slice.result.now c.as_slice.ensures.value _ c.in_err-top.ensures in
    rw e.1 (λ h. absurd (false≢true h), λ o. absurd (n.1 o))

pub returns-clause-taken : goal.returns-clause-taken
returns-clause-taken c =
    let t = taken-blocks (vec_items c.args.blocks) c.as_slice.result.now c.as_slice.ensures.value c.in_ok-top.top c.in_ok-top.ensures in
    (λ _. t.1, λ _. refl)
