-- What a call that may be refused answers.
use Rattle.std.specs.Prelude.{Some, None, Ok, Err, Option, Result}

-- The first refusal of two checks, one after the other.
abbrev pub or_else : {E : Type 0} → Option E → Option E → Option E
or_else None next = next
or_else (Some refusal) next = Some refusal

-- The answer, unless something refuses it.
abbrev pub unless : {X E : Type 0} → Option E → X → Result X E
unless None x = Ok x
unless (Some refusal) x = Err refusal

-- One step after another: the first refusal is the refusal of both.
abbrev pub bind : {X Y E : Type 0} → Result X E → (X → Result Y E) → Result Y E
bind (Ok x) next = next x
bind (Err e) next = Err e

abbrev pub then : {X Y E : Type 0} → Result X E → (X → Y) → Result Y E
then (Ok x) f = Ok (f x)
then (Err e) f = Err e
