-- What a function that may fail answers: what its definition gives, unless memory runs out.
use Rattle.std.specs.Prelude.{◌≡◌, ◌≢◌, ℕ, Ok, Err, Result}
use Rattle.offers.specs.declared.refusal.CurveRefusal.{CurveRefusal}
use Rattle.quotes.specs.declared.fault.LineFault.{LineFault}
use Rattle.quotes.specs.declared.fault.OfferFault.{OfferFault}
use Rattle.quotes.specs.declared.fault.OfferFault.TheVariants.{Line, Refused, Memory}

-- A fault of a line carries the line's number.
abbrev pub at_line : {X : Type 0} → ℕ → Result X LineFault → Result X OfferFault
at_line number (Ok x) = Ok x
at_line number (Err f) = Err (Line number f)

-- A refusal of the library is a fault of the offer.
abbrev pub as_refused : {X : Type 0} → Result X CurveRefusal → Result X OfferFault
as_refused (Ok x) = Ok x
as_refused (Err refusal) = Err (Refused refusal)

-- The answer means what is due, or is the fault that may come at any time.
abbrev pub AnswersUnless : {X Y E : Type 0} → E → (Y → X) → Result Y E → Result X E → Type 0
AnswersUnless lost means (Ok y) due = due ≡ Ok (means y)
AnswersUnless lost means (Err fault) due = fault ≢ lost → due ≡ Err fault

-- The answer means what is due, or memory ran out.
abbrev pub Answers : {X Y : Type 0} → (Y → X) → Result Y OfferFault → Result X OfferFault → Type 0
Answers = AnswersUnless Memory
