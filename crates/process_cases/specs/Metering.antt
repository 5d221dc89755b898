-- What the process of another market means, and what any process leaves of a step.
use Rattle.std.specs.Prelude.{Bool, false, cond, ◌&&◌, ℤ, pos, ◌-ℤ◌, ◌*ℤ◌, Ok, Err, Result, int_le}
use Rattle.market.specs.declared.amounts.Amounts.{Amounts}
use Rattle.market.specs.declared.amounts.Figures.{Figures}
use Rattle.market.specs.declared.refusal.ProcessRefusal.{ProcessRefusal}
use Rattle.market.specs.declared.refusal.ProcessRefusal.TheVariants.{FieldOutsideLimits}
use Rattle.market.specs.Laws.{Within}
use Rattle.process_cases.specs.declared.metered.MeteredRecord.{MeteredRecord}

abbrev pub metered_figures : Figures
metered_figures = record { number = 7; length = 3; takes_over = false; pot = 1 }

abbrev counted : ℤ → Bool
counted ticks = int_le (pos 0) ticks && int_le ticks (pos 2000000000)

abbrev pub metered_meaning : MeteredRecord → Result Amounts ProcessRefusal
metered_meaning x =
    cond (counted x.spent)
    (cond (counted x.earned) (Ok (record { cost = pos 3 *ℤ x.spent; revenue = pos 3 *ℤ x.earned; disallowed = pos 0 })) (Err (FieldOutsideLimits 2)))
    (Err (FieldOutsideLimits 1))

abbrev pub net_of : Amounts → ℤ
net_of a = a.cost -ℤ a.revenue -ℤ a.disallowed

-- Amounts of an hour at the most.
abbrev pub Moderate : Amounts → Type 0
Moderate a = Within 24000000000 a.cost × Within 24000000000 a.revenue × Within 24000000000 a.disallowed
