-- The item that the words of a line of a unit give.
use Rattle.std.specs.Prelude.{ℕ, cond, List, [], ◌∷◌, Ok, Err, codes, Result}
use Rattle.std.specs.Str.{bytes_eq}
use Rattle.quotes.specs.declared.fault.LineFault.{LineFault}
use Rattle.quotes.specs.declared.fault.LineFault.TheVariants.{WordCount}
use Rattle.quotes.specs.declared.unit_lines.UnitItem.{UnitItem}
use Rattle.quotes.specs.declared.unit_lines.UnitItem.TheVariants.{Offer as OfferItem, Current as CurrentItem, DayAhead as DayAheadItem, Ruc as RucItem}
use Rattle.offers.specs.Answers.{then}
use Rattle.quotes.specs.Lines.{item_from}
use Rattle.quotes.specs.Records.{day_ahead_of, ruc_of}

-- The word alone starts the current offer.
abbrev pub current_of : List (List ℕ) → Result UnitItem LineFault
current_of [] = Ok CurrentItem
current_of (word ∷ rest) = Err WordCount

-- The item that a line's first word names, of the words after it. What names none of a unit's own is an item of an offer.
abbrev pub unit_item_from : List ℕ → List (List ℕ) → Result UnitItem LineFault
unit_item_from kind words =
    cond (bytes_eq kind (codes "current")) (current_of words)
    (cond (bytes_eq kind (codes "day-ahead")) (then (day_ahead_of words) DayAheadItem)
    (cond (bytes_eq kind (codes "ruc")) (then (ruc_of words) RucItem)
    (then (item_from kind words) OfferItem)))
