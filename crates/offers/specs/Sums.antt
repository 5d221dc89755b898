-- Sums and counts over lists of prices.
use Rattle.std.specs.Prelude.{◌≡◌, ℕ, zero, suc, ◌+◌, ◌*◌, ◌≤◌, Bool, true, false, cond, List, [], ◌∷◌, ◌++◌, length, replicate, ℤ, pos, negsuc, ◌+ℤ◌, ◌*ℤ◌, neg_ℤ, ◌≤ℤ◌, FitsSigned, int_le, refl}
use Rattle.std.proofs.Common.{sym, ap, ◌∙◌, arith, mul-le-mul, zero-add}
use Rattle.std.proofs.Math.IntN.{zero-*ℤ, suc_ℤ-*ℤ}
use Rattle.std.specs.Int.{w64}
use Rattle.std.proofs.lemmas.Int.{ints}
use Rattle.std.specs.List.{AllByRecursion}
use Rattle.offers.specs.Prices.{InRange, total, up_to}
use Rattle.offers.specs.Bounds.{Amount, Difference}

-- one more of the same number
pub times-suc : (n : ℕ) (p : ℤ) → pos (suc n) *ℤ p ≡ p +ℤ pos n *ℤ p
times-suc n p = let e : pos (suc n) *ℤ p ≡ pos n *ℤ p +ℤ p = suc_ℤ-*ℤ (pos n) p in omega (arith, ints)

pub times-plus : (m n : ℕ) (p : ℤ) → pos (m + n) *ℤ p ≡ pos m *ℤ p +ℤ pos n *ℤ p
times-plus zero n p =
    let e : 0 + n ≡ n = omega arith in
    let w = zero-*ℤ p in
    rw (e, w) (omega (arith, ints))
times-plus (suc m) n p =
    let e : suc m + n ≡ suc (m + n) = omega arith in
    let s = times-suc (m + n) p in
    let t = times-suc m p in
    let k = times-plus m n p in
    rw e (omega (arith, ints))

pub total-replicate : (n : ℕ) (p : ℤ) → total (replicate n p) ≡ pos n *ℤ p
total-replicate zero p = sym (zero-*ℤ p)
total-replicate (suc n) p = ap (λ z. p +ℤ z) (total-replicate n p) ∙ sym (times-suc n p)

pub up_to-append : (q : ℤ) (xs ys : List ℤ) → up_to q (xs ++ ys) ≡ up_to q xs + up_to q ys
up_to-append q [] ys = sym (zero-add (up_to q ys))
up_to-append q (x ∷ xs) ys = let e = up_to-append q xs ys in omega arith

pub up_to-replicate : (q : ℤ) (n : ℕ) (p : ℤ) → up_to q (replicate n p) ≡ cond (int_le p q) n 0
up_to-replicate q zero p = elim (int_le p q) as (λ b. ◌≡◌ {A = ℕ} 0 (cond b 0 0)) [ true ↦ refl | false ↦ refl ]
up_to-replicate q (suc n) p = go (int_le p q) (up_to q (replicate n p)) (up_to-replicate q n p)
  where
    go : (b : Bool) (k : ℕ) → k ≡ cond b n 0 → cond b 1 0 + k ≡ cond b (suc n) 0
    go true k e = omega arith
    go false k e = omega arith

pub up_to-length : (q : ℤ) (ps : List ℤ) → up_to q ps ≤ length ps
up_to-length q [] = omega arith
up_to-length q (p ∷ ps) = go (int_le p q) (up_to-length q ps)
  where
    go : (b : Bool) → up_to q ps ≤ length ps → cond b 1 0 + up_to q ps ≤ suc (length ps)
    go true h = omega arith
    go false h = omega arith

-- a number at most so far from 0
abbrev pub Near : ℕ → ℤ → Type 0
Near n z = (neg_ℤ (pos n) ≤ℤ z) × (z ≤ℤ pos n)

pub near_fits : (n : ℕ) (z : ℤ) → n ≤ 100000000000 → Near n z → FitsSigned w64 z
near_fits n (pos k) h near = record { sfits = omega (arith, ints) }
near_fits n (negsuc k) h near = record { sfits = omega (arith, ints) }

pub total-near : (ps : List ℤ) → AllByRecursion InRange ps → Near (100000 * length ps) (total ps)
total-near [] h = (omega (arith, ints), omega (arith, ints))
total-near (p ∷ ps) h = let k = total-near ps h.1 in (omega (arith, ints), omega (arith, ints))

-- the cost of so many tenths at one price
pub product-amount : (n : ℕ) (p : ℤ) → n ≤ 10000 → Difference p → Amount (pos n *ℤ p)
product-amount n (pos p) h d =
    let l : n * p ≤ 10000 * 200000 = let k : p ≤ 200000 = omega (arith, ints) in mul-le-mul h k in
    (omega (arith, ints), omega (arith, ints))
product-amount n (negsuc p) h d =
    let l : n * suc p ≤ 10000 * 200000 = let k : suc p ≤ 200000 = omega (arith, ints) in mul-le-mul h k in
    (omega (arith, ints), omega (arith, ints))
