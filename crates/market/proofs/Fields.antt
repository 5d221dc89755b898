-- The place of the first field outside its row.
use Rattle.std.proofs.Common.{◌≡◌, ℕ, ◌+◌, Bool, not, List, [], ◌∷◌, ℤ, refl, arith}
use Rattle.std.proofs.lemmas.Grind.{common_steps}
use Rattle.std.specs.List.{position_from, zip}
use Rattle.std.specs.Option.{option_map}
use Rattle.market.specs.declared.limits.Limits.{Limits}
use Rattle.market.specs.declared.refusal.ProcessRefusal.TheVariants.{FieldOutsideLimits}
use Rattle.market.specs.Limits.{admitted, field_refusal}

abbrev pub is_outside : Limits × ℤ → Bool
is_outside p = not (admitted p.0 p.1)

pub refusal-position : (i : ℕ) (rows : List Limits) (fields : List ℤ) → field_refusal (i + 1) rows fields ≡ option_map (λ k. FieldOutsideLimits (k + 1)) (position_from is_outside i (zip rows fields))
refusal-position i [] fields = refl
refusal-position i (row ∷ rows) [] = refl
refusal-position i (row ∷ rows) (n ∷ fields) = let rest = refusal-position (i + 1) rows fields in grind (arith, common_steps, rest)
