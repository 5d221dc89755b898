-- What a unit is told of its records.
use Rattle.std.specs.Prelude.{List, ℤ, Result}
use Rattle.std.specs.Option.{option_map}
use Rattle.offers.specs.declared.refusal.CurveRefusal.{CurveRefusal}
use Rattle.offers.specs.Answers.{bind, then}
use Rattle.offers.specs.Blocks.{spread, blocks_asked}
use Rattle.market.specs.declared.refusal.ProcessRefusal.{ProcessRefusal}
use Rattle.market.specs.declared.ruc_record.RucRecord.{RucRecord}
use Rattle.market.specs.DayAhead.{day_ahead_meaning}
use Rattle.market.specs.Reliability.{economic_point, ruc_meaning}
use Rattle.quotes.specs.Offers.{Asked}
use Rattle.quotes.specs.Quotes.{piled}
use Rattle.quotes.specs.Units.{UnitAsked, current_asked}
use Rattle.statements.specs.declared.statement.RucStatement.{RucStatement}
use Rattle.statements.specs.declared.statement.Statement.{Statement}

-- An interval's amounts with its economic operating point, or the refusal of the process.
abbrev pub ruc_stated : List ℤ → List ℤ → RucRecord → Result RucStatement ProcessRefusal
ruc_stated committed current x = then (ruc_meaning committed current x) (λ amounts. record { amounts = amounts; economic_point = economic_point current x })

-- Each record there is gets its answer: the hour by the prices at commitment, the interval by both.
abbrev pub statement_on : List ℤ → UnitAsked → List ℤ → Statement
statement_on committed u current = record { day_ahead = option_map (day_ahead_meaning committed) u.hour; ruc = option_map (ruc_stated committed current) u.interval }

-- The prices of an offer, or its refusal: of the blocks, then of what lies on them.
abbrev pub offered_prices : Asked → Result (List ℤ) CurveRefusal
offered_prices a = bind (blocks_asked a.blocks) (λ bs. piled a.pile (spread bs))

-- The statement once the prices at commitment stand, or the refusal of the current offer.
abbrev pub settled_on : UnitAsked → List ℤ → Result Statement CurveRefusal
settled_on u committed = then (offered_prices (current_asked u)) (statement_on committed u)

abbrev pub unit_settled : UnitAsked → Result Statement CurveRefusal
unit_settled u = bind (offered_prices u.committed) (settled_on u)
