-- How a fault is reported.
use Rattle.std.specs.Prelude.{ℕ, List, ◌++◌, codes, decimal}
use Rattle.offers.specs.Refusals.{layer_name, sentence, curve_told}
use Rattle.quotes.specs.declared.fault.LineFault.{LineFault}
use Rattle.quotes.specs.declared.fault.LineFault.TheVariants.{UnknownItem, WordCount, NotANumber, SecondAdder, SecondCap}
use Rattle.quotes.specs.declared.fault.OfferFault.{OfferFault}
use Rattle.quotes.specs.declared.fault.OfferFault.TheVariants.{Line, Refused, Memory}

abbrev pub line_sentence : LineFault → List ℕ
line_sentence UnknownItem = codes "unknown item"
line_sentence WordCount = codes "wrong number of words"
line_sentence NotANumber = codes "not a number, or one that does not fit"
line_sentence SecondAdder = codes "second adder"
line_sentence SecondCap = codes "second cap"

-- A refusal is reported by its number, its layer and its place, and then its sentence.
abbrev pub fault_sentence : OfferFault → List ℕ
fault_sentence (Line number fault) = codes "line " ++ (decimal number ++ (codes ": " ++ line_sentence fault))
fault_sentence (Refused refusal) =
    codes "refused " ++ (decimal (curve_told refusal).number ++ (codes " " ++ (layer_name (curve_told refusal).layer ++ (codes " " ++ (decimal (curve_told refusal).place ++ (codes ": " ++ sentence refusal))))))
fault_sentence Memory = codes "out of memory"
