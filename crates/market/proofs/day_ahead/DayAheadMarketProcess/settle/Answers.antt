use Rattle.std.proofs.Common.{refl}
use Rattle.market.specs.Hours.{taken_hour}
use Rattle.market.proofs.day_ahead.DayAheadMarketProcess.settle.Goals as goal

pub returns-clause-taken : goal.returns-clause-taken
returns-clause-taken g c = (λ _. taken_hour _ _ c.in_ok-hour.ensures.1, λ _. refl)
