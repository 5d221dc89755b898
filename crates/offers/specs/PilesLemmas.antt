-- What caps and adders make of a list of prices that never falls.
use Rattle.std.specs.Prelude.{◌≡◌, ℕ, zero, suc, ◌+◌, ◌-◌, ◌≤◌, min, Bool, true, false, cond, ◌&&◌, List, [], ◌∷◌, map, length, take, replicate, ℤ, pos, ◌+ℤ◌, ◌-ℤ◌, ◌*ℤ◌, ◌≤ℤ◌, ◌<ℤ◌, int_le, slice_index_or, refl}
use Rattle.std.proofs.Common.{ap, ◌∙◌, arith}
use Rattle.std.proofs.Math.IntN.{zero-*ℤ}
use Rattle.std.proofs.lemmas.Int.{ints}
use Rattle.std.proofs.lemmas.List.{take-replicate, length-map}
use Rattle.std.proofs.lemmas.Bool.{and_parts}
use Rattle.std.specs.Int.{int_min, int_max}
use Rattle.std.specs.List.{AllByRecursion}
use Rattle.offers.specs.Prices.{InRange, in_range, lowest_price, highest_price, Rises, Lawful, total, up_to}
use Rattle.offers.specs.Piles.{capped, clamped, raised, all_keep}
use Rattle.offers.specs.Sums.{times-suc, times-plus, total-replicate}
use Rattle.offers.specs.Rising.{rises-map, lawful-map, up_to-all, up_to-none, up_to-under, up_to-map, up_to-mono}

-- ---- caps

pub min-up : (l a b : ℤ) → a ≤ℤ b → int_min l a ≤ℤ int_min l b
min-up l a b h = grind (arith, ints)

pub min-range : (l p : ℤ) → InRange l → InRange p → InRange (int_min l p)
min-range l p h k = (grind (arith, ints), grind (arith, ints))

pub lawful-capped : (l : ℤ) (ps : List ℤ) → InRange l → Lawful ps → Lawful (capped l ps)
lawful-capped l ps h k = lawful-map (int_min l) (min-up l) (λ p. min-range l p h) ps k

min-low : (l p : ℤ) → p ≤ℤ l → int_min l p ≡ p
min-low l p h = grind (arith, ints)

min-high : (l p : ℤ) → l ≤ℤ p → int_min l p ≡ l
min-high l p h = grind (arith, ints)

-- above its limit a cap is level
capped-high : (l f : ℤ) (ps : List ℤ) → l ≤ℤ f → Rises f ps → capped l ps ≡ replicate (length ps) l
capped-high l f [] h r = refl
capped-high l f (p ∷ ps) h r =
    let k : f ≤ℤ p = r.0 in
    let m : l ≤ℤ p = omega (arith, ints) in
    let e = min-high l p m in
    let t = capped-high l p ps m r.1 in
    cc

-- The cost under a cap: the tenths up to its limit as below, the others at the limit.
pub total-capped : (l f : ℤ) (ps : List ℤ) (q : ℕ) → Rises f ps → q ≤ length ps → total (take q (capped l ps)) ≡ total (take (min (up_to l ps) q) ps) +ℤ pos (q - min (up_to l ps) q) *ℤ l
total-capped l f [] q r h =
    let z : q ≡ 0 = omega arith in
    let w = zero-*ℤ l in
    simp (z, w)
total-capped l f (p ∷ ps) zero r h =
    let m : min (up_to l (p ∷ ps)) 0 ≡ 0 = omega arith in
    let w = zero-*ℤ l in
    rw (m, w)
total-capped l f (p ∷ ps) (suc q) r h = go (int_le p l) refl (total-capped l p ps q r.1 (omega arith))
  where
    go : (b : Bool) → int_le p l ≡ b → total (take q (capped l ps)) ≡ total (take (min (up_to l ps) q) ps) +ℤ pos (q - min (up_to l ps) q) *ℤ l → total (take (suc q) (capped l (p ∷ ps))) ≡ total (take (min (cond b 1 0 + up_to l ps) (suc q)) (p ∷ ps)) +ℤ pos (suc q - min (cond b 1 0 + up_to l ps) (suc q)) *ℤ l
    go true t rest =
        let under : p ≤ℤ l = grind (arith, ints) in
        let same = min-low l p under in
        let more : min (1 + up_to l ps) (suc q) ≡ suc (min (up_to l ps) q) = omega arith in
        let less : suc q - suc (min (up_to l ps) q) ≡ q - min (up_to l ps) q = omega arith in
        rw (more, less, same) (omega (arith, ints))
    go false t rest =
        let over : l <ℤ p = grind (arith, ints) in
        let at : l ≤ℤ p = omega (arith, ints) in
        let none = up_to-under l p ps over r.1 in
        let m : min (0 + up_to l ps) (suc q) ≡ 0 = omega arith in
        let level : capped l (p ∷ ps) ≡ replicate (suc (length ps)) l = capped-high l p (p ∷ ps) at (omega (arith, ints), r.1) in
        let front : take (suc q) (replicate (suc (length ps)) l) ≡ replicate (suc q) l = take-replicate (suc q) (suc (length ps)) l h in
        let sum = total-replicate (suc q) l in
        let s : suc q - 0 ≡ suc q = omega arith in
        ap (λ x. total (take (suc q) x)) level ∙ ap total front ∙ sum ∙ rw (m, s) (omega (arith, ints))

pub count-capped-under : (l q : ℤ) (ps : List ℤ) → q <ℤ l → up_to q (capped l ps) ≡ up_to q ps
count-capped-under l q ps h = up_to-map (int_min l) q q (λ p. grind (arith, ints)) ps

pub count-capped-over : (l q : ℤ) (ps : List ℤ) → l ≤ℤ q → up_to q (capped l ps) ≡ length ps
count-capped-over l q ps h =
    up_to-all q (capped l ps) (all-capped ps) ∙ length-map ps (int_min l)
  where
    all-capped : (ps : List ℤ) → AllByRecursion (λ p. p ≤ℤ q) (capped l ps)
    all-capped [] = tt
    all-capped (p ∷ ps) = (grind (arith, ints), all-capped ps)

-- ---- adders

clamped-up : (n a b : ℤ) → a ≤ℤ b → clamped (a +ℤ n) ≤ℤ clamped (b +ℤ n)
clamped-up n a b h = grind (arith, ints)

clamped-range : (p : ℤ) → InRange (clamped p)
clamped-range p = (grind (arith, ints), grind (arith, ints))

pub lawful-raised : (n : ℤ) (ps : List ℤ) → Lawful ps → Lawful (raised n ps)
lawful-raised n ps k = lawful-map (λ p. clamped (p +ℤ n)) (clamped-up n) (λ p _. clamped-range (p +ℤ n)) ps k

-- The three changes that an adder makes, one after another.
abbrev pub shifted : ℤ → List ℤ → List ℤ
shifted n ps = map (λ p. p +ℤ n) ps

abbrev floored : ℤ → List ℤ → List ℤ
floored l ps = map (int_max l) ps

raised-parts : (n : ℤ) (ps : List ℤ) → raised n ps ≡ capped highest_price (floored lowest_price (shifted n ps))
raised-parts n [] = refl
raised-parts n (p ∷ ps) = ap (λ xs. clamped (p +ℤ n) ∷ xs) (raised-parts n ps)

pub total-shifted : (n : ℤ) (ps : List ℤ) (q : ℕ) → q ≤ length ps → total (take q (shifted n ps)) ≡ total (take q ps) +ℤ pos q *ℤ n
total-shifted n [] q h = let z : q ≡ 0 = omega arith in let w = zero-*ℤ n in simp (z, w)
total-shifted n (p ∷ ps) zero h = let w = zero-*ℤ n in rw w
total-shifted n (p ∷ ps) (suc q) h =
    let few : q ≤ length ps = omega arith in
    let e = total-shifted n ps q few in
    let s = times-suc q n in
    omega (arith, ints)

rises-shifted : (n f : ℤ) (ps : List ℤ) → Rises f ps → Rises (f +ℤ n) (shifted n ps)
rises-shifted n f ps r = rises-map (λ p. p +ℤ n) (λ a b h. omega (arith, ints)) f ps r

max-up : (l a b : ℤ) → a ≤ℤ b → int_max l a ≤ℤ int_max l b
max-up l a b h = grind (arith, ints)

rises-floored : (l f : ℤ) (ps : List ℤ) → Rises f ps → Rises (int_max l f) (floored l ps)
rises-floored l f ps r = rises-map (int_max l) (max-up l) f ps r

max-low : (l p : ℤ) → p ≤ℤ l → int_max l p ≡ l
max-low l p h = grind (arith, ints)

max-high : (l p : ℤ) → l ≤ℤ p → int_max l p ≡ p
max-high l p h = grind (arith, ints)

-- above its floor a list is as it was
floored-high : (l f : ℤ) (ps : List ℤ) → l ≤ℤ f → Rises f ps → floored l ps ≡ ps
floored-high l f [] h r = refl
floored-high l f (p ∷ ps) h r =
    let k : f ≤ℤ p = r.0 in
    let m : l ≤ℤ p = omega (arith, ints) in
    let e = max-high l p m in
    let t = floored-high l p ps m r.1 in
    cc

-- The cost over a floor: the tenths up to the floor at the floor, the others as below.
total-floored : (l f : ℤ) (ps : List ℤ) (q : ℕ) → Rises f ps → q ≤ length ps → total (take q (floored l ps)) +ℤ total (take (min (up_to l ps) q) ps) ≡ pos (min (up_to l ps) q) *ℤ l +ℤ total (take q ps)
total-floored l f [] q r h =
    let z : q ≡ 0 = omega arith in
    let w = zero-*ℤ l in
    simp (z, w)
total-floored l f (p ∷ ps) zero r h =
    let m : min (up_to l (p ∷ ps)) 0 ≡ 0 = omega arith in
    let w = zero-*ℤ l in
    rw (m, w)
total-floored l f (p ∷ ps) (suc q) r h = go (int_le p l) refl (total-floored l p ps q r.1 (omega arith))
  where
    go : (b : Bool) → int_le p l ≡ b → total (take q (floored l ps)) +ℤ total (take (min (up_to l ps) q) ps) ≡ pos (min (up_to l ps) q) *ℤ l +ℤ total (take q ps) → total (take (suc q) (floored l (p ∷ ps))) +ℤ total (take (min (cond b 1 0 + up_to l ps) (suc q)) (p ∷ ps)) ≡ pos (min (cond b 1 0 + up_to l ps) (suc q)) *ℤ l +ℤ total (take (suc q) (p ∷ ps))
    go true t rest =
        let under : p ≤ℤ l = grind (arith, ints) in
        let same = max-low l p under in
        let more : min (1 + up_to l ps) (suc q) ≡ suc (min (up_to l ps) q) = omega arith in
        let s = times-suc (min (up_to l ps) q) l in
        rw (more, same, s) (omega (arith, ints))
    go false t rest =
        let over : l <ℤ p = grind (arith, ints) in
        let at : l ≤ℤ p = omega (arith, ints) in
        let none = up_to-under l p ps over r.1 in
        let m : min (0 + up_to l ps) (suc q) ≡ 0 = omega arith in
        let same : floored l (p ∷ ps) ≡ p ∷ ps = floored-high l p (p ∷ ps) at (omega (arith, ints), r.1) in
        let e : total (take (suc q) (floored l (p ∷ ps))) ≡ total (take (suc q) (p ∷ ps)) = ap (λ x. total (take (suc q) x)) same in
        let w = zero-*ℤ l in
        rw (m, w) (omega (arith, ints))

-- what a number added to every price does to a count
count-shifted : (n q : ℤ) (ps : List ℤ) → up_to q (shifted n ps) ≡ up_to (q -ℤ n) ps
count-shifted n q ps = up_to-map (λ p. p +ℤ n) q (q -ℤ n) (λ p. grind (arith, ints)) ps

count-floored : (l q : ℤ) (ps : List ℤ) → l ≤ℤ q → up_to q (floored l ps) ≡ up_to q ps
count-floored l q ps h = up_to-map (int_max l) q q (λ p. grind (arith, ints)) ps

joined : (x fk r sl ll sk tk kn tl ln dn : ℤ) → x ≡ fk +ℤ r → fk +ℤ sl ≡ ll +ℤ sk → sk ≡ tk +ℤ kn → sl ≡ tl +ℤ ln → kn ≡ ln +ℤ dn → x ≡ ll +ℤ (tk -ℤ tl) +ℤ dn +ℤ r
joined x fk r sl ll sk tk kn tl ln dn a b c d e = omega (arith, ints)

-- The cost under an adder: the tenths whose sums stand at the lower limit, those that keep their sums, those at the upper limit.
pub total-raised : (n f : ℤ) (ps : List ℤ) (q lifted kept : ℕ) → Rises f ps → q ≤ length ps → lifted ≡ min (up_to (lowest_price -ℤ n) ps) q → kept ≡ min (up_to (highest_price -ℤ n) ps) q → total (take q (raised n ps)) ≡ pos lifted *ℤ lowest_price +ℤ (total (take kept ps) -ℤ total (take lifted ps)) +ℤ pos (kept - lifted) *ℤ n +ℤ pos (q - kept) *ℤ highest_price
total-raised n f ps q lifted kept r h el ek =
    let s = shifted n ps in
    let fs = floored lowest_price s in
    let rs = rises-shifted n f ps r in
    let rf = rises-floored lowest_price (f +ℤ n) s rs in
    let ls : length s ≡ length ps = length-map ps (λ p. p +ℤ n) in
    let lf : length fs ≡ length s = length-map s (int_max lowest_price) in
    let ch : up_to highest_price fs ≡ up_to (highest_price -ℤ n) ps = count-floored lowest_price highest_price s (grind (arith, ints)) ∙ count-shifted n highest_price ps in
    let cl : up_to lowest_price s ≡ up_to (lowest_price -ℤ n) ps = count-shifted n lowest_price ps in
    let ordered : up_to (lowest_price -ℤ n) ps ≤ up_to (highest_price -ℤ n) ps = up_to-mono (lowest_price -ℤ n) (highest_price -ℤ n) ps (omega (arith, ints)) in
    let km : min (up_to highest_price fs) q ≡ kept = omega arith in
    let lm : min (up_to lowest_price s) kept ≡ lifted = omega arith in
    let few : kept ≤ length ps = omega arith in
    let fewer : lifted ≤ length ps = omega arith in
    let one = rw km at (total-capped highest_price (int_max lowest_price (f +ℤ n)) fs q rf (omega arith)) in
    let two = rw lm at (total-floored lowest_price (f +ℤ n) s kept rs (omega arith)) in
    let three = total-shifted n ps kept few in
    let four = total-shifted n ps lifted fewer in
    let split : lifted + (kept - lifted) ≡ kept = omega arith in
    let five = rw split at (times-plus lifted (kept - lifted) n) in
    ap (λ x. total (take q x)) (raised-parts n ps) ∙ joined _ _ _ _ _ _ _ _ (total (take lifted ps)) (pos lifted *ℤ n) (pos (kept - lifted) *ℤ n) one two three four five

pub count-raised-under : (n q : ℤ) (ps : List ℤ) → q <ℤ lowest_price → up_to q (raised n ps) ≡ 0
count-raised-under n q ps h = up_to-none q (raised n ps) (each ps)
  where
    each : (ps : List ℤ) → AllByRecursion (λ p. q <ℤ p) (raised n ps)
    each [] = tt
    each (p ∷ ps) = let k = clamped-range (p +ℤ n) in (omega (arith, ints), each ps)

pub count-raised-over : (n q : ℤ) (ps : List ℤ) → highest_price ≤ℤ q → up_to q (raised n ps) ≡ length ps
count-raised-over n q ps h = up_to-all q (raised n ps) (each ps) ∙ length-map ps (λ p. clamped (p +ℤ n))
  where
    each : (ps : List ℤ) → AllByRecursion (λ p. p ≤ℤ q) (raised n ps)
    each [] = tt
    each (p ∷ ps) = let k = clamped-range (p +ℤ n) in (omega (arith, ints), each ps)

pub count-raised : (n q : ℤ) (ps : List ℤ) → lowest_price ≤ℤ q → q <ℤ highest_price → up_to q (raised n ps) ≡ up_to (q -ℤ n) ps
count-raised n q ps h k = up_to-map (λ p. clamped (p +ℤ n)) q (q -ℤ n) (λ p. grind (arith, ints)) ps

-- ---- which adders are made

-- the last price of a list that begins with p
abbrev pub last_of : ℤ → List ℤ → ℤ
last_of p [] = p
last_of p (x ∷ xs) = last_of x xs

last-over : (p : ℤ) (ps : List ℤ) → Rises p ps → p ≤ℤ last_of p ps
last-over p [] r = omega (arith, ints)
last-over p (x ∷ xs) r = let k : p ≤ℤ x = r.0 in let e = last-over x xs r.1 in omega (arith, ints)

pub last-get_or : (p : ℤ) (ps : List ℤ) → slice_index_or (p ∷ ps) (length ps) (pos 0) ≡ last_of p ps
last-get_or p [] = refl
last-get_or p (x ∷ xs) = last-get_or x xs

-- Whether every sum stays in range shows at the first price and at the last.
pub keeps-by-ends : (n p : ℤ) (ps : List ℤ) → Rises p ps → all_keep n (p ∷ ps) ≡ all_keep n (p ∷ last_of p ps ∷ [])
keeps-by-ends n p [] r = grind (arith, ints)
keeps-by-ends n p (x ∷ xs) r =
    let up : p ≤ℤ x = r.0 in
    let over = last-over x xs r.1 in
    rw (keeps-by-ends n x xs r.1) (ends (p +ℤ n) (x +ℤ n) (last_of x xs +ℤ n) (omega (arith, ints)) (omega (arith, ints)))
  where
    ends : (a b c : ℤ) → a ≤ℤ b → b ≤ℤ c → (in_range a && (in_range b && (in_range c && true))) ≡ (in_range a && (in_range c && true))
    ends a b c h k = grind (arith, ints)

-- an adder that keeps every sum in range leaves each as it is
pub raised-kept : (n : ℤ) (ps : List ℤ) → all_keep n ps ≡ true → raised n ps ≡ map (λ p. p +ℤ n) ps
raised-kept n [] h = refl
raised-kept n (p ∷ ps) h =
    let both = and_parts (in_range (p +ℤ n)) (all_keep n ps) h in
    let e = raised-kept n ps both.1 in
    let c = inside (p +ℤ n) both.0 in
    cc
  where
    inside : (z : ℤ) → in_range z ≡ true → clamped z ≡ z
    inside z h = grind (arith, ints)
