-- The words of a slice, one by one.
use Rattle.std.proofs.Common.{◌≡◌, ℕ, zero, refl, suc, ◌+◌, List, [], ◌∷◌, map, length, get_or, drop, arith}
use Rattle.std.proofs.lemmas.List.{at_drop_more, at_drop_all}

-- So many items from a place on.
abbrev pub items_from : {W X : Type 0} → (W → X) → List W → W → ℕ → ℕ → List X
items_from g ws d i zero = []
items_from g ws d i (suc n) = g (get_or ws i d) ∷ items_from g ws d (i + 1) n

left_of : {W X : Type 0} (g : W → X) (ws : List W) (d : W) (i n : ℕ) → length ws ≡ i + n → map g (drop i ws) ≡ items_from g ws d i n
left_of g ws d i zero h = at_drop_all (map g) ws i (omega arith)
left_of g ws d i (suc n) h = rw (at_drop_more (map g) ws i d (omega arith), left_of g ws d (i + 1) n (omega arith)) refl

pub spelled : {W X : Type 0} (g : W → X) (ws : List W) (d : W) (n : ℕ) → length ws ≡ n → map g ws ≡ items_from g ws d 0 n
spelled g ws d n h = left_of g ws d 0 n (omega arith)
