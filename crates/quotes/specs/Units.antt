-- What the text of a unit asks for, line by line.
use Rattle.std.specs.Prelude.{ℕ, List, Some, None, Ok, Err, Option, Result}
use Rattle.market.specs.declared.day_ahead.DayAheadRecord.{DayAheadRecord}
use Rattle.market.specs.declared.ruc_record.RucRecord.{RucRecord}
use Rattle.quotes.specs.declared.fault.LineFault.{LineFault}
use Rattle.quotes.specs.declared.lines.Item.{Item}
use Rattle.quotes.specs.declared.offer.Offer.{Offer}
use Rattle.quotes.specs.declared.unit.Unit.{Unit as GeneratingUnit}
use Rattle.quotes.specs.declared.unit_fault.UnitFault.{UnitFault}
use Rattle.quotes.specs.declared.unit_fault.UnitFault.TheVariants.{Offer as OfAnOffer, SecondCurrent, SecondDayAhead, SecondRuc}
use Rattle.quotes.specs.declared.unit_lines.UnitItem.{UnitItem}
use Rattle.quotes.specs.declared.unit_lines.UnitItem.TheVariants.{Offer as OfferItem, Current as CurrentItem, DayAhead as DayAheadItem, Ruc as RucItem}
use Rattle.offers.specs.Answers.{then}
use Rattle.quotes.specs.Answers.{at_line}
use Rattle.quotes.specs.Offers.{Asked, asked, nothing, taking}
use Rattle.quotes.specs.Readings.{as_fault, line_step, read_from}
use Rattle.quotes.specs.UnitLines.{unit_item_from}

-- The offer at commitment, the current offer where one is given, and the records to settle.
pub record UnitAsked : Type 0 where
  pub committed : Asked
  pub current : Option Asked
  pub hour : Option DayAheadRecord
  pub interval : Option RucRecord

abbrev pub asked_any : Option Offer → Option Asked
asked_any None = None
asked_any (Some o) = Some (asked o)

abbrev pub unit_asked : GeneratingUnit → UnitAsked
unit_asked u = record { committed = asked u.committed; current = asked_any u.current; hour = u.day_ahead; interval = u.ruc }

-- Without a current offer, that at commitment stands.
abbrev pub current_or : Asked → Option Asked → Asked
current_or committed None = committed
current_or committed (Some current) = current

abbrev pub current_asked : UnitAsked → Asked
current_asked u = current_or u.committed u.current

abbrev pub untold : UnitAsked
untold = record { committed = nothing; current = None; hour = None; interval = None }

abbrev pub committed_as : UnitAsked → Asked → UnitAsked
committed_as u a = record { committed = a; current = u.current; hour = u.hour; interval = u.interval }

abbrev pub current_as : UnitAsked → Option Asked → UnitAsked
current_as u a = record { committed = u.committed; current = a; hour = u.hour; interval = u.interval }

abbrev pub hour_as : UnitAsked → Option DayAheadRecord → UnitAsked
hour_as u x = record { committed = u.committed; current = u.current; hour = x; interval = u.interval }

abbrev pub interval_as : UnitAsked → Option RucRecord → UnitAsked
interval_as u x = record { committed = u.committed; current = u.current; hour = u.hour; interval = x }

-- There is at most one of a kind: a second one is at fault.
abbrev pub only_one_of_kind : {X : Type 0} → Option X → X → UnitFault → Result (Option X) UnitFault
only_one_of_kind None x second = Ok (Some x)
only_one_of_kind (Some before) x second = Err second

-- An item of an offer goes to the current offer once that is started, else to the offer at commitment.
abbrev pub offer_taken_by : Option Asked → Item → UnitAsked → Result UnitAsked LineFault
offer_taken_by None item u = then (taking item u.committed) (committed_as u)
offer_taken_by (Some current) item u = then (taking item current) (λ a. current_as u (Some a))

abbrev pub offer_taken : Item → UnitAsked → Result UnitAsked LineFault
offer_taken item u = offer_taken_by u.current item u

-- What the item of a line does to a unit.
abbrev pub unit_item_taken : ℕ → UnitItem → UnitAsked → Result UnitAsked UnitFault
unit_item_taken number (OfferItem item) u = as_fault OfAnOffer (at_line number (offer_taken item u))
unit_item_taken number CurrentItem u = then (only_one_of_kind u.current nothing (SecondCurrent number)) (current_as u)
unit_item_taken number (DayAheadItem x) u = then (only_one_of_kind u.hour x (SecondDayAhead number)) (hour_as u)
unit_item_taken number (RucItem x) u = then (only_one_of_kind u.interval x (SecondRuc number)) (interval_as u)

-- What lines from this number on make of a unit, or the first fault.
abbrev pub unit_read : ℕ → UnitAsked → List (List ℕ) → Result UnitAsked UnitFault
unit_read = read_from (line_step unit_item_from OfAnOffer unit_item_taken)
