-- What the blocks of an offer give, block by block.
use Rattle.std.specs.Prelude.{◌≡◌, ℕ, zero, suc, ◌+◌, ◌-◌, ◌*◌, ◌<◌, ◌≤◌, min, Bool, true, false, cond, ◌&&◌, leb, List, [], ◌∷◌, ◌++◌, length, get_or, take, drop, replicate, ℤ, pos, ◌+ℤ◌, ◌*ℤ◌, ◌≤ℤ◌, is_some, Some, None, Ok, Err, Option, Result, FitsSigned, int_le, int_lt, nat_eq, nat_le, nat_lt, slice_index_or, sum_by, refl}
use Rattle.std.proofs.Common.{sym, ap, subst, ◌∙◌, arith, to_z, of_z}
use Rattle.std.proofs.Math.IntN.{zero-*ℤ}
use Rattle.std.specs.Int.{w64}
use Rattle.std.proofs.ByRecursion.{All-append, All-get_or}
use Rattle.std.proofs.lemmas.List.{length-append, length-replicate, get_or_append_left, get_or-append_right, get_or-replicate, at_drop_more}
use Rattle.std.proofs.lemmas.List.Sums.{sum_by-cons}
use Rattle.std.proofs.lemmas.Int.{ints}
use Rattle.std.proofs.lemmas.Bool.Decides.{nat_tests}
use Rattle.std.specs.List.{AllByRecursion}
use Rattle.offers.specs.declared.block.Block.{Block}
use Rattle.offers.specs.declared.refusal.CurveRefusal.{CurveRefusal}
use Rattle.offers.specs.declared.refusal.CurveRefusal.TheVariants.{NoSuchTenth}
use Rattle.offers.specs.Answers.{or_else, unless}
use Rattle.offers.specs.Prices.{InRange, in_range, lowest_price, highest_top, Rises, Lawful, total, up_to, price_of, cost_of}
use Rattle.offers.specs.Bounds.{Amount, Difference, Kept}
use Rattle.offers.specs.Blocks.{spread, block_fault, fault_from, fault, blocks_asked, tenths_up_to, Offered}
use Rattle.offers.specs.Rising.{rises-from, rising-rises, rises-rising}
use Rattle.offers.specs.Sums.{Near, near_fits, product-amount, times-suc, up_to-append, up_to-replicate}

pub length-spread : (b : Block) (bs : List Block) → length (spread (b ∷ bs)) ≡ b.width + length (spread bs)
length-spread b bs =
    let e = length-append (replicate b.width b.price) (spread bs) in
    let w = length-replicate b.width b.price in
    omega arith

pub up_to-spread : (q : ℤ) (b : Block) (bs : List Block) → up_to q (spread (b ∷ bs)) ≡ cond (int_le b.price q) b.width 0 + up_to q (spread bs)
up_to-spread q b bs =
    let e = up_to-append q (replicate b.width b.price) (spread bs) in
    let w = up_to-replicate q b.width b.price in
    omega arith

pub up_to-blocks : (q : ℤ) (bs : List Block) → up_to q (spread bs) ≡ sum_by (tenths_up_to q) bs
up_to-blocks q [] = refl
up_to-blocks q (b ∷ bs) = up_to-spread q b bs ∙ ap (λ n. tenths_up_to q b + n) (up_to-blocks q bs) ∙ sym (sum_by-cons (tenths_up_to q) b bs)

-- the block at a place, and the blocks after it
abbrev pub block_at : List Block → ℕ → Block
block_at bs i = slice_index_or bs i (record { width = 0; price = pos 0 })

-- ---- blocks without fault

-- a block of which nothing is wrong
pub record Sound (before : ℕ) (floor : ℤ) (b : Block) : Type 0 where
  pub some : 1 ≤ b.width
  pub few : before + b.width ≤ highest_top
  pub within : InRange b.price
  pub rises : floor ≤ℤ b.price

pub sound-block : (i before : ℕ) (floor : ℤ) (b : Block) → block_fault i before floor b ≡ None → Sound before floor b
sound-block i before floor b h =
    record { some = grind (arith, nat_tests); few = grind (arith, nat_tests); within = (grind (arith, ints), grind (arith, ints)); rises = grind (arith, ints) }

or-none : (s t : Option CurveRefusal) → or_else s t ≡ None → (s ≡ None) × (t ≡ None)
or-none None t h = (refl, h)
or-none (Some x) t h = (h, grind arith)

rises-replicate : (f p : ℤ) (n : ℕ) (ps : List ℤ) → f ≤ℤ p → Rises p ps → Rises f (replicate n p ++ ps)
rises-replicate f p zero ps h r = rises-from f p ps h r
rises-replicate f p (suc n) ps h r = (h, rises-replicate p p n ps (omega (arith, ints)) r)

all_replicate : (P : ℤ → Type 0) (p : ℤ) (n : ℕ) → P p → AllByRecursion P (replicate n p)
all_replicate P p zero h = tt
all_replicate P p (suc n) h = (h, all_replicate P p n h)

-- blocks without fault, from so many tenths and a floor on
pub record SoundFrom (before : ℕ) (floor : ℤ) (bs : List Block) : Type 0 where
  pub few : before + length (spread bs) ≤ highest_top
  pub within : AllByRecursion InRange (spread bs)
  pub rises : Rises floor (spread bs)
  pub kept : AllByRecursion Kept bs
  pub filled : AllByRecursion (λ b. 1 ≤ b.width) bs
  pub some : length bs ≤ length (spread bs)

pub sound-from : (i before : ℕ) (floor : ℤ) (bs : List Block) → before ≤ highest_top → fault_from i before floor bs ≡ None → SoundFrom before floor bs
sound-from i before floor [] h e = record { few = omega arith; within = tt; rises = tt; kept = tt; filled = tt; some = omega arith }
sound-from i before floor (b ∷ bs) h e =
    let both = or-none (block_fault i before floor b) (fault_from (i + 1) (before + b.width) b.price bs) e in
    let here = sound-block i before floor b both.0 in
    let there = sound-from (i + 1) (before + b.width) b.price bs here.few both.1 in
    let l = length-spread b bs in
    record {
      few = let s = there.few in omega arith;
      within = All-append InRange (replicate b.width b.price) (spread bs) (all_replicate InRange b.price b.width here.within) there.within;
      rises = rises-replicate floor b.price b.width (spread bs) here.rises there.rises;
      filled = (here.some, there.filled);
      kept = ((let s = here.few in omega arith, here.within), there.kept);
      some = let s = here.some in let t = there.some in omega arith;
    }

-- the first fault, where the number of blocks is right, and by its first block
pub counted : (bs : List Block) → 1 ≤ length bs → length bs ≤ 10 → fault_from 1 0 lowest_price bs ≡ fault bs
counted bs h k = let t : (nat_le 1 (length bs) && nat_le (length bs) 10) ≡ true = grind (arith, nat_tests) in rw t

pub faultless : (bs : List Block) → is_some (fault bs) ≡ false → (1 ≤ length bs) × (length bs ≤ 10) × SoundFrom 0 lowest_price bs
faultless bs h = go (nat_le 1 (length bs) && nat_le (length bs) 10) refl
  where
    go : (t : Bool) → (nat_le 1 (length bs) && nat_le (length bs) 10) ≡ t → (1 ≤ length bs) × (length bs ≤ 10) × SoundFrom 0 lowest_price bs
    go true e = (grind (arith, nat_tests), grind (arith, nat_tests), sound-from 1 0 lowest_price bs (omega arith) (none (fault_from 1 0 lowest_price bs) (rw e at h)))
      where
        none : (o : Option CurveRefusal) → is_some o ≡ false → o ≡ None
        none None h = refl
        none (Some x) h = grind arith
    go false e = let z : true ≡ false = rw e at h in grind arith

pub lawful-spread : (bs : List Block) → is_some (fault bs) ≡ false → Lawful (spread bs)
lawful-spread bs h =
    let s = faultless bs h in
    let k = s.2 in
    record {
      some = let a = s.0 in let b = k.some in omega arith;
      few = let a = k.few in omega arith;
      within = k.within;
      rising = rising-rises lowest_price (spread bs) k.rises;
    }

-- a list that begins with a full block begins with its price
front-within : (n : ℕ) (p : ℤ) (ps : List ℤ) → 1 ≤ n → AllByRecursion InRange (replicate n p ++ ps) → InRange p × AllByRecursion InRange ps
front-within zero p ps h a = absurd (omega arith)
front-within (suc zero) p ps h a = (a.0, a.1)
front-within (suc (suc n)) p ps h a = front-within (suc n) p ps (omega arith) a.1

front-rises : (f : ℤ) (n : ℕ) (p : ℤ) (ps : List ℤ) → 1 ≤ n → Rises f (replicate n p ++ ps) → (f ≤ℤ p) × Rises p ps
front-rises f zero p ps h r = absurd (omega arith)
front-rises f (suc zero) p ps h r = (r.0, r.1)
front-rises f (suc (suc n)) p ps h r = (r.0, (front-rises p (suc n) p ps (omega arith) r.1).1)

no-fault : (i before : ℕ) (floor : ℤ) (b : Block) → Sound before floor b → block_fault i before floor b ≡ None
no-fault i before floor b s =
    let some = s.some in
    let few = s.few in
    let w = s.within in
    let r = s.rises in
    let full : nat_eq b.width 0 ≡ false = grind (arith, nat_tests) in
    let fits : nat_lt highest_top (before + b.width) ≡ false = grind (arith, nat_tests) in
    let range : in_range b.price ≡ true = grind (arith, ints) in
    let up : int_lt b.price floor ≡ false = grind (arith, ints) in
    rw (full, fits, range, up)

no-fault-from : (i before : ℕ) (floor : ℤ) (bs : List Block) → AllByRecursion (λ b. 1 ≤ b.width) bs → before + length (spread bs) ≤ highest_top → AllByRecursion InRange (spread bs) → Rises floor (spread bs) → fault_from i before floor bs ≡ None
no-fault-from i before floor [] full few within rises = refl
no-fault-from i before floor (b ∷ bs) full few within rises =
    let l = length-spread b bs in
    let w = front-within b.width b.price (spread bs) full.0 within in
    let r = front-rises floor b.width b.price (spread bs) full.0 rises in
    let here = no-fault i before floor b (record { some = full.0; few = omega arith; within = w.0; rises = r.0 }) in
    ap (λ o. or_else o (fault_from (i + 1) (before + b.width) b.price bs)) here ∙ no-fault-from (i + 1) (before + b.width) b.price bs full.1 (omega arith) w.1 r.1

-- just the blocks of which a curve can be made have no fault
pub offered-faultless : (bs : List Block) → Offered bs → fault bs ≡ None
offered-faultless bs o =
    let few = o.lawful.few in
    let none = no-fault-from 1 0 lowest_price bs o.filled (omega arith) o.lawful.within (rises-rising (spread bs) o.lawful.within o.lawful.rising) in
    sym (counted bs o.some o.few) ∙ none

pub faultless-offered : (bs : List Block) → is_some (fault bs) ≡ false → Offered bs
faultless-offered bs h =
    let s = faultless bs h in
    record { some = s.0; few = s.1; filled = s.2.filled; lawful = lawful-spread bs h }

-- what the check of a slice says of the blocks that it holds
pub refused-blocks : (bs slice : List Block) → slice ≡ bs → (e : CurveRefusal) → Err e ≡ unless (fault slice) (length (spread slice)) → (Err e ≡ blocks_asked bs) × (Offered bs → ⊥)
refused-blocks bs slice is e h = go (fault bs) refl (h ∙ ap (λ xs. unless (fault xs) (length (spread xs))) is)
  where
    go : (o : Option CurveRefusal) → fault bs ≡ o → Err e ≡ unless (fault bs) (length (spread bs)) → (Err e ≡ blocks_asked bs) × (Offered bs → ⊥)
    go None f h = let g : Err e ≡ Ok (length (spread bs)) = rw f at h in let z : ◌≡◌ {A = ℕ} 0 1 = cc in absurd (omega arith)
    go (Some x) f h =
        let g : Err e ≡ Err x = rw f at h in
        let same : e ≡ x = cc in
        (rw f (cc), λ o. let n = offered-faultless bs o in let z : ◌≡◌ {A = ℕ} 0 1 = cc in omega arith)

pub taken-blocks : (bs slice : List Block) → slice ≡ bs → (top : ℕ) → Ok top ≡ unless (fault slice) (length (spread slice)) → (Ok bs ≡ blocks_asked bs) × Offered bs
taken-blocks bs slice is top h = go (fault bs) refl (h ∙ ap (λ xs. unless (fault xs) (length (spread xs))) is)
  where
    go : (o : Option CurveRefusal) → fault bs ≡ o → Ok top ≡ unless (fault bs) (length (spread bs)) → (Ok bs ≡ blocks_asked bs) × Offered bs
    go None f h = (rw f, faultless-offered bs (ap is_some f))
    go (Some x) f h = let g : Ok top ≡ Err x = rw f at h in let z : ◌≡◌ {A = ℕ} 0 1 = cc in absurd (omega arith)

-- ---- the price of a tenth

-- What the rest of the blocks answers for a tenth of which so many lie in it.
unfoldable pub found : ℕ → ℕ → List Block → Result ℤ CurveRefusal
found tenth left bs = cond (nat_le left (length (spread bs))) (Ok (slice_index_or (spread bs) (left - 1) (pos 0))) (Err (NoSuchTenth tenth))

pub found_all : (tenth : ℕ) (bs : List Block) → 1 ≤ tenth → found tenth tenth bs ≡ price_of (spread bs) tenth
unfolding found
found_all tenth bs h = let t : leb 1 tenth ≡ true = grind (arith, nat_tests) in rw t

pub found_none : (tenth left : ℕ) (bs : List Block) → 1 ≤ left → length bs ≡ 0 → found tenth left bs ≡ Err (NoSuchTenth tenth)
unfolding found
found_none tenth left [] h none = let t : leb left 0 ≡ false = grind (arith, nat_tests) in rw t
found_none tenth left (b ∷ bs) h none = absurd (omega arith)

pub found_here : (tenth left : ℕ) (b : Block) (bs : List Block) → 1 ≤ left → left ≤ b.width → found tenth left (b ∷ bs) ≡ Ok b.price
unfolding found
found_here tenth left b bs h k =
    let l = length-spread b bs in
    let t : leb left (length (spread (b ∷ bs))) ≡ true = grind (arith, nat_tests) in
    let w = length-replicate b.width b.price in
    let i : left - 1 < b.width = omega arith in
    let e : get_or (spread (b ∷ bs)) (left - 1) (pos 0) ≡ b.price = get_or_append_left (replicate b.width b.price) (spread bs) (pos 0) (left - 1) (omega arith) ∙ get_or-replicate b.width (left - 1) b.price (pos 0) i in
    rw (t, e)

pub found_next : (tenth left : ℕ) (b : Block) (bs : List Block) → b.width < left → found tenth left (b ∷ bs) ≡ found tenth (left - b.width) bs
unfolding found
found_next tenth left b bs h =
    let l = length-spread b bs in
    let t : leb left (length (spread (b ∷ bs))) ≡ leb (left - b.width) (length (spread bs)) = grind (arith, nat_tests) in
    let w = length-replicate b.width b.price in
    let s : left - 1 - b.width ≡ left - b.width - 1 = omega arith in
    let e : get_or (spread (b ∷ bs)) (left - 1) (pos 0) ≡ get_or (spread bs) (left - b.width - 1) (pos 0) = get_or-append_right (replicate b.width b.price) (spread bs) b.width (left - 1) (pos 0) w (omega arith) ∙ ap (λ n. get_or (spread bs) n (pos 0)) s in
    rw (t, e)

-- ---- the cost of the first tenths

-- What the rest of the blocks answers where so many tenths are left and the others cost so much.
unfoldable pub spent : ℕ → ℕ → ℤ → List Block → Result ℤ CurveRefusal
spent tenths left cost bs = cond (nat_le left (length (spread bs))) (Ok (cost +ℤ total (take left (spread bs)))) (Err (NoSuchTenth tenths))

pub spent_all : (tenths : ℕ) (bs : List Block) → spent tenths tenths (pos 0) bs ≡ cost_of (spread bs) tenths
unfolding spent
spent_all tenths bs = let e : pos 0 +ℤ total (take tenths (spread bs)) ≡ total (take tenths (spread bs)) = omega (arith, ints) in rw e

pub spent_over : (tenths left : ℕ) (cost : ℤ) → 0 < left → spent tenths left cost [] ≡ Err (NoSuchTenth tenths)
unfolding spent
spent_over tenths left cost h = let t : leb left 0 ≡ false = grind (arith, nat_tests) in rw t

pub spent_done : (tenths left : ℕ) (cost : ℤ) → left ≡ 0 → spent tenths left cost [] ≡ Ok cost
unfolding spent
spent_done tenths left cost h = let e : cost +ℤ pos 0 ≡ cost = omega (arith, ints) in rw (h, e)

total-front : (k n : ℕ) (p : ℤ) (ps : List ℤ) → total (take k (replicate n p ++ ps)) ≡ pos (min k n) *ℤ p +ℤ total (take (k - min k n) ps)
total-front k zero p ps =
    let m : min k 0 ≡ 0 = omega arith in
    let s : k - 0 ≡ k = omega arith in
    let w = zero-*ℤ p in
    rw (m, s, w) (omega (arith, ints))
total-front zero (suc n) p ps =
    let m : min 0 (suc n) ≡ 0 = omega arith in
    let w = zero-*ℤ p in
    rw (m, w)
total-front (suc k) (suc n) p ps =
    let m : min (suc k) (suc n) ≡ suc (min k n) = omega arith in
    let s : suc k - suc (min k n) ≡ k - min k n = omega arith in
    let t = times-suc (min k n) p in
    let e = total-front k n p ps in
    rw (m, s, t) (omega (arith, ints))

pub spent_next : (tenths left : ℕ) (cost : ℤ) (b : Block) (bs : List Block) → spent tenths left cost (b ∷ bs) ≡ spent tenths (left - min left b.width) (cost +ℤ pos (min left b.width) *ℤ b.price) bs
unfolding spent
spent_next tenths left cost b bs =
    let l = length-spread b bs in
    let t : leb left (length (spread (b ∷ bs))) ≡ leb (left - min left b.width) (length (spread bs)) = grind (arith, nat_tests) in
    let f : total (take left (spread (b ∷ bs))) ≡ pos (min left b.width) *ℤ b.price +ℤ total (take (left - min left b.width) (spread bs)) = total-front left b.width b.price (spread bs) in
    let e : cost +ℤ total (take left (spread (b ∷ bs))) ≡ cost +ℤ pos (min left b.width) *ℤ b.price +ℤ total (take (left - min left b.width) (spread bs)) = omega (arith, ints) in
    rw (t, e)

-- one block of the cost: the part of the block that is taken
pub taken-kept : (bs : List Block) (i : ℕ) → i < length bs → AllByRecursion Kept bs → (left : ℕ) (taken : Block) → taken ≡ record { width = min left (block_at bs i).width; price = (block_at bs i).price } → Kept taken
taken-kept bs i h kept left taken t =
    let k : Kept (block_at bs i) = All-get_or Kept bs i (block_at [] 0) h kept in
    let w : taken.width ≡ min left (block_at bs i).width = ap (λ b. b.width) t in
    let p : taken.price ≡ (block_at bs i).price = ap (λ b. b.price) t in
    (omega arith, rw p k.1)

pub kept-wide : (b : Block) → Kept b → Difference b.price
kept-wide b k = (omega (arith, ints), omega (arith, ints))

pub spent_more : (answer : Result ℤ CurveRefusal) (bs : List Block) (i : ℕ) → i < length bs → length bs ≤ 10 → AllByRecursion Kept bs → (tenths left : ℕ) (taken : Block) (z r : ℤ) → taken ≡ record { width = min left (block_at bs i).width; price = (block_at bs i).price } → r ≡ pos taken.width *ℤ taken.price → spent tenths left z (drop i bs) ≡ answer → Near (2000000000 * i) z → FitsSigned w64 (z +ℤ to_z w64 (of_z w64 r)) × (spent tenths (left - taken.width) (to_z w64 (of_z w64 (z +ℤ to_z w64 (of_z w64 r)))) (drop (i + 1) bs) ≡ answer) × Near (2000000000 * (i + 1)) (to_z w64 (of_z w64 (z +ℤ to_z w64 (of_z w64 r))))
spent_more answer bs i h few kept tenths left taken z r t e same near =
    let b = block_at bs i in
    let k : Kept taken = taken-kept bs i h kept left taken t in
    let small : Amount r = subst Amount (sym e) (product-amount taken.width taken.price k.0 (kept-wide taken k)) in
    let back : to_z w64 (of_z w64 (z +ℤ to_z w64 (of_z w64 r))) ≡ z +ℤ r = omega (arith, ints) in
    let step : spent tenths (left - min left b.width) (z +ℤ pos (min left b.width) *ℤ b.price) (drop (i + 1) bs) ≡ answer = sym (spent_next tenths left z b (drop (i + 1) bs)) ∙ sym (at_drop_more (spent tenths left z) bs i (block_at [] 0) h) ∙ same in (
      near_fits 100000000000 (z +ℤ to_z w64 (of_z w64 r)) (omega arith) (omega (arith, ints), omega (arith, ints)),
      ap (λ x. spent tenths (left - taken.width) x (drop (i + 1) bs)) (back ∙ ap (λ x. z +ℤ x) e) ∙ ap (λ x. spent tenths (left - x.width) (z +ℤ pos x.width *ℤ x.price) (drop (i + 1) bs)) t ∙ step,
      (omega (arith, ints), omega (arith, ints)),
    )
