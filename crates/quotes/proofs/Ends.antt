-- The ends of blocks, and how wide the blocks of a curve are.
use Rattle.std.proofs.Common.{◌≡◌, ℕ, ◌+◌, ◌≤◌, Bool, true, false, cond, ◌&&◌, leb, List, [], ◌∷◌, length, ℤ, is_some, Some, None, Option, refl, arith}
use Rattle.std.proofs.lemmas.Bool.Decides.{nat_tests}
use Rattle.offers.specs.declared.block.Block.{Block}
use Rattle.offers.specs.declared.refusal.CurveRefusal.{CurveRefusal}
use Rattle.offers.specs.Answers.{or_else}
use Rattle.offers.specs.Blocks.{fault, fault_from, block_fault}
use Rattle.offers.specs.Prices.{lowest_price}

abbrev pub width_of_all : List Block → ℕ
width_of_all [] = 0
width_of_all (b ∷ bs) = b.width + width_of_all bs

or_else-none : (o next : Option CurveRefusal) → is_some (or_else o next) ≡ false → (o ≡ None) × (is_some next ≡ false)
or_else-none None next e = (refl, e)
or_else-none (Some r) next e = absurd (let z : ◌≡◌ {A = ℕ} 0 1 = cc in omega arith)

fits : (i before : ℕ) (floor : ℤ) (b : Block) → block_fault i before floor b ≡ None → before + b.width ≤ 10000
fits i before floor b e = grind (arith, nat_tests)

pub narrow-from : (i before : ℕ) (floor : ℤ) (bs : List Block) → before ≤ 10000 → is_some (fault_from i before floor bs) ≡ false → before + width_of_all bs ≤ 10000
narrow-from i before floor [] h e = omega arith
narrow-from i before floor (b ∷ bs) h e =
    let k = or_else-none (block_fault i before floor b) (fault_from (i + 1) (before + b.width) b.price bs) e in
    omega (arith, narrow-from (i + 1) (before + b.width) b.price bs (fits i before floor b k.0) k.1)

bool-none : (t : Bool) (o : Option CurveRefusal) (r : CurveRefusal) → is_some (cond t o (Some r)) ≡ false → is_some o ≡ false
bool-none true o r e = e
bool-none false o r e = absurd (let z : ◌≡◌ {A = ℕ} 0 1 = cc in omega arith)

pub narrow : (bs : List Block) → is_some (fault bs) ≡ false → width_of_all bs ≤ 10000
narrow bs e = omega (arith, narrow-from 1 0 lowest_price bs (omega arith) (bool-none (leb 1 (length bs) && leb (length bs) 10) _ _ e))
