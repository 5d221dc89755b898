use Rattle.std.proofs.Common.{refl}
use Rattle.market.specs.DayAhead.{day_ahead_refusal}
use Rattle.market.specs.Reliability.{ruc_refusal}
use Rattle.cases.proofs.work_out.Goals as goal

pub returns : goal.returns
unfolding day_ahead_refusal ruc_refusal
returns c =
    record {
      curves = record { none = refl; first_block = refl; one_more = refl; all = refl; below_first = refl; at_first = refl; cap_over_adder = refl; adder_over_cap = refl };
      processes = record { day_ahead = refl; at_tolerance = refl; beyond_tolerance = refl };
    }
