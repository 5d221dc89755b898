-- What a reading of a unit answers, and how its faults are reported.
use Rattle.std.specs.Prelude.{ℕ, List, ◌++◌, Result, codes, decimal}
use Rattle.quotes.specs.declared.fault.OfferFault.TheVariants.{Memory}
use Rattle.quotes.specs.declared.unit_fault.UnitFault.{UnitFault}
use Rattle.quotes.specs.declared.unit_fault.UnitFault.TheVariants.{Offer, SecondCurrent, SecondDayAhead, SecondRuc}
use Rattle.quotes.specs.Answers.{AnswersUnless}
use Rattle.quotes.specs.Sentences.{fault_sentence}

-- The answer means what is due, or memory ran out.
abbrev pub UnitAnswers : {X Y : Type 0} → (Y → X) → Result Y UnitFault → Result X UnitFault → Type 0
UnitAnswers = AnswersUnless (Offer Memory)

-- A line is reported by its number.
abbrev pub unit_sentence : UnitFault → List ℕ
unit_sentence (Offer fault) = fault_sentence fault
unit_sentence (SecondCurrent number) = codes "line " ++ (decimal number ++ codes ": second current offer")
unit_sentence (SecondDayAhead number) = codes "line " ++ (decimal number ++ codes ": second Day-Ahead hour")
unit_sentence (SecondRuc number) = codes "line " ++ (decimal number ++ codes ": second RUC interval")
