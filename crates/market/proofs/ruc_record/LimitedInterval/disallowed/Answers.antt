use Rattle.std.proofs.Common.{arith}
use Rattle.std.proofs.lemmas.Int.{ints, to_z-of_z}
use Rattle.market.proofs.ruc_record.LimitedInterval.disallowed.Goals as goal

pub returns : goal.returns
returns c =
    let fits = c.ranges.excess in
    let first = simp (to_z-of_z, c.off_setpoint.ensures) at c.ticks_if-first.ensures.value in
    let second = simp (to_z-of_z, c.is_non_dispatchable.ensures) at c.ticks_if-second.ensures.value in
    let third = simp (to_z-of_z, c.minimum_raised.ensures) at c.ticks_if-third.ensures.value in
    omega (arith, ints)
