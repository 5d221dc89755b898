-- The check of a record's fields, row by row.
use Rattle.std.specs.Prelude.{◌≡◌, ℕ, ◌+◌, ◌≤◌, List, [], ◌∷◌, ℤ, Some, None, refl}
use Rattle.std.proofs.Common.{arith}
use Rattle.std.proofs.lemmas.Int.{ints}
use Rattle.market.specs.declared.limits.Limits.{Limits}
use Rattle.market.specs.declared.refusal.ProcessRefusal.{ProcessRefusal}
use Rattle.market.specs.declared.refusal.ProcessRefusal.TheVariants.{FieldOutsideLimits, NoSuchTenth}
use Rattle.market.specs.Laws.{LawfulRefusal}
use Rattle.market.specs.Limits.{field_refusal, AllAdmitted}

-- a refused field has a number from the first on
pub field-named : (i : ℕ) (rows : List Limits) (fields : List ℤ) (e : ProcessRefusal) → 1 ≤ i → field_refusal i rows fields ≡ Some e → LawfulRefusal e
field-named i rows fields (NoSuchTenth tenth) h k = tt
field-named i [] fields (FieldOutsideLimits field) h k = absurd (cc)
field-named i (row ∷ rows) [] (FieldOutsideLimits field) h k = absurd (cc)
field-named i (row ∷ rows) (n ∷ fields) (FieldOutsideLimits field) h k = let rest = field-named (i + 1) rows fields (FieldOutsideLimits field) (omega arith) in grind (arith, rest)

-- no field is refused just where every field lies within its row
pub none-refused : (i : ℕ) (rows : List Limits) (fields : List ℤ) → field_refusal i rows fields ≡ None → AllAdmitted rows fields
none-refused i [] fields h = tt
none-refused i (row ∷ rows) [] h = tt
none-refused i (row ∷ rows) (n ∷ fields) h = ((grind (arith, ints), grind (arith, ints)), none-refused (i + 1) rows fields (grind (arith, ints)))

pub all-taken : (i : ℕ) (rows : List Limits) (fields : List ℤ) → AllAdmitted rows fields → field_refusal i rows fields ≡ None
all-taken i [] fields h = refl
all-taken i (row ∷ rows) [] h = refl
all-taken i (row ∷ rows) (n ∷ fields) h = let rest = all-taken (i + 1) rows fields h.1 in grind (arith, ints, rest)
