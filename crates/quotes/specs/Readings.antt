-- What lines make, read one after another.
use Rattle.std.specs.Prelude.{ℕ, ◌+◌, List, [], ◌∷◌, Some, None, Ok, Err, Option, Result}
use Rattle.quotes.specs.declared.fault.LineFault.{LineFault}
use Rattle.quotes.specs.declared.fault.OfferFault.{OfferFault}
use Rattle.offers.specs.Answers.{bind}
use Rattle.quotes.specs.Answers.{at_line}
use Rattle.quotes.specs.Lines.{item_of, words_of}

-- A fault of an offer is one of what it belongs to.
abbrev pub as_fault : {X F : Type 0} → (OfferFault → F) → Result X OfferFault → Result X F
as_fault of_offer (Ok x) = Ok x
as_fault of_offer (Err fault) = Err (of_offer fault)

-- A line without an item changes nothing.
abbrev pub any_taken : {I A F : Type 0} → (ℕ → I → A → Result A F) → ℕ → Option I → A → Result A F
any_taken taking number None a = Ok a
any_taken taking number (Some item) a = taking number item a

-- What a line does: what its item does, where it has one.
abbrev pub line_step : {I A F : Type 0} → (List ℕ → List (List ℕ) → Result I LineFault) → (OfferFault → F) → (ℕ → I → A → Result A F) → ℕ → A → List ℕ → Result A F
line_step from_words of_offer taking number a bs =
    bind (as_fault of_offer (at_line number (item_of from_words (words_of bs)))) (λ item. any_taken taking number item a)

-- What lines from this number on make, each by a step, or the first fault.
abbrev pub read_from : {A F : Type 0} → (ℕ → A → List ℕ → Result A F) → ℕ → A → List (List ℕ) → Result A F
read_from step number a [] = Ok a
read_from step number a (bs ∷ rest) = bind (step number a bs) (λ b. read_from step (number + 1) b rest)
