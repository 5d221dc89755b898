-- Questions to a changed list of prices, by the answers of the list below.
use Rattle.std.proofs.Common.{◌≡◌, ℕ, suc, ◌-◌, ◌<◌, ◌≤◌, min, Bool, true, false, cond, ◌&&◌, leb, List, [], ◌∷◌, map, length, get_or, take, ℤ, pos, negsuc, ◌+ℤ◌, ◌-ℤ◌, ◌*ℤ◌, ◌≤ℤ◌, Ok, Err, sym, refl, ap, ◌∙◌, subst, arith, w64, SFits, to_z, of_z}
use lib.ListN.{length-map}
use Rattle.std.proofs.ByRecursion.{All-take, All-get_or}
use Rattle.std.proofs.lemmas.List.{length-take, get_or-map}
use Rattle.std.proofs.lemmas.Int.{ints, to_z-of_z}
use Rattle.std.proofs.lemmas.Bool.{and_parts, leb-true}
use Rattle.std.proofs.lemmas.Bool.Decides.{nat_tests}
use Rattle.std.specs.Int.{int_min, int_max}
use Rattle.offers.specs.declared.refusal.CurveRefusal.{CurveRefusal}
use Rattle.offers.specs.declared.refusal.CurveRefusal.TheVariants.{NoSuchTenth, AdderOutOfRange}
use Rattle.std.specs.List.{AllByRecursion}
use Rattle.offers.specs.Prices.{InRange, in_range, lowest_price, highest_price, Rising, Lawful, total, up_to, price_of, cost_of}
use Rattle.offers.specs.Answers.{then}
use Rattle.offers.specs.Bounds.{Amount, Difference}
use Rattle.offers.specs.Piles.{capped, clamped, raised, all_keep, adder_asked}
use Rattle.offers.specs.Sums.{near_fits, total-near, product-amount}
use Rattle.offers.specs.Rising.{rises-rising, up_to-mono}
use Rattle.offers.specs.PilesLemmas.{total-capped, total-raised, last_of, last-get_or, keeps-by-ends, raised-kept}

-- the price of a tenth, after each price is changed
price-map : (m : ℤ → ℤ) (ps : List ℤ) (t : ℕ) → then (price_of ps t) m ≡ price_of (map m ps) t
price-map m ps t = go (leb 1 t && leb t (length ps)) refl
  where
    go : (b : Bool) → (leb 1 t && leb t (length ps)) ≡ b → then (cond b (Ok (get_or ps (t - 1) (pos 0))) (Err (NoSuchTenth t))) m ≡ price_of (map m ps) t
    go true e =
        let both = and_parts (leb 1 t) (leb t (length ps)) e in
        let low = leb-true 1 t both.0 in
        let high = leb-true t (length ps) both.1 in
        let same = length-map ps m in
        let test : (leb 1 t && leb t (length (map m ps))) ≡ true = rw same e in
        let at : get_or (map m ps) (t - 1) (pos 0) ≡ m (get_or ps (t - 1) (pos 0)) = get_or-map m ps (t - 1) (pos 0) (pos 0) (omega arith) in
        rw (test, at)
    go false e =
        let same = length-map ps m in
        let test : (leb 1 t && leb t (length (map m ps))) ≡ false = rw same e in
        rw test

pub price-refused : (m : ℤ → ℤ) (ps : List ℤ) (t : ℕ) (e : CurveRefusal) → Err e ≡ price_of ps t → Err e ≡ price_of (map m ps) t
price-refused m ps t e h = ap (λ r. then r m) h ∙ price-map m ps t

pub price-changed : (m : ℤ → ℤ) (ps : List ℤ) (t : ℕ) (p r : ℤ) → r ≡ m p → Ok p ≡ price_of ps t → Ok r ≡ price_of (map m ps) t
price-changed m ps t p r is h = ap Ok is ∙ ap (λ r. then r m) h ∙ price-map m ps t

price-first : (p : ℤ) (ps : List ℤ) → price_of (p ∷ ps) 1 ≡ Ok p
price-first p ps = let t : leb 1 (suc (length ps)) ≡ true = grind (arith, nat_tests) in rw t

price-last : (p : ℤ) (ps : List ℤ) → price_of (p ∷ ps) (length (p ∷ ps)) ≡ Ok (last_of p ps)
price-last p ps =
    let t : leb 1 (suc (length ps)) ≡ true = grind (arith, nat_tests) in
    let s : leb (suc (length ps)) (suc (length ps)) ≡ true = grind (arith, nat_tests) in
    let e : suc (length ps) - 1 ≡ length ps = omega arith in
    let at = last-get_or p ps in
    rw (t, s, e, at)

pub price-within : (ps : List ℤ) (t : ℕ) (p : ℤ) → Lawful ps → Ok p ≡ price_of ps t → InRange p
price-within ps t p l e = go (leb 1 t && leb t (length ps)) refl
  where
    go : (b : Bool) → (leb 1 t && leb t (length ps)) ≡ b → InRange p
    go true h =
        let both = and_parts (leb 1 t) (leb t (length ps)) h in
        let low = leb-true 1 t both.0 in
        let high = leb-true t (length ps) both.1 in
        let f : Ok p ≡ Ok (get_or ps (t - 1) (pos 0)) = rw h at e in
        let same : p ≡ get_or ps (t - 1) (pos 0) = cc in
        subst InRange (sym same) (All-get_or InRange ps (t - 1) (pos 0) (omega arith) l.within)
    go false h =
        let f : Ok p ≡ Err (NoSuchTenth t) = rw h at e in
        let z : ◌≡◌ {A = ℕ} 0 1 = cc in
        absurd (omega arith)

pub cost-inside : (ps : List ℤ) (q : ℕ) → q ≤ length ps → cost_of ps q ≡ Ok (total (take q ps))
cost-inside ps q h = let t : leb q (length ps) ≡ true = grind (arith, nat_tests) in rw t

-- what a cost within the top is, and how large
pub cost-value : (ps : List ℤ) (q : ℕ) (z : ℤ) → q ≤ length ps → Ok z ≡ cost_of ps q → z ≡ total (take q ps)
cost-value ps q z h e = let f : Ok z ≡ Ok (total (take q ps)) = e ∙ cost-inside ps q h in cc

pub cost-amount : (ps : List ℤ) (q : ℕ) → Lawful ps → Amount (total (take q ps))
cost-amount ps q l =
    let near = total-near (take q ps) (All-take InRange q ps l.within) in
    let few = l.few in
    let k = length-take q ps in
    (omega (arith, ints), omega (arith, ints))

-- a sum of two amounts, as the machine works it out
pub sum_back : (a b : ℤ) → Amount a → Amount b → SFits w64 (to_z w64 (of_z w64 a) +ℤ to_z w64 (of_z w64 b)) × (to_z w64 (of_z w64 (to_z w64 (of_z w64 a) +ℤ to_z w64 (of_z w64 b))) ≡ a +ℤ b)
sum_back a b h k =
    let p : to_z w64 (of_z w64 a) ≡ a = omega (arith, ints) in
    let q : to_z w64 (of_z w64 b) ≡ b = omega (arith, ints) in
    (rw (p, q) (near_fits 4000000000 (a +ℤ b) (omega arith) (omega (arith, ints), omega (arith, ints))), omega (arith, ints))

pub range_back : (p : ℤ) → InRange p → to_z w64 (of_z w64 p) ≡ p
range_back p h = omega (arith, ints)

-- the cost under a cap, from the count and the cost below and the cost at the limit, as the machine works it out
module _ (limit : ℤ) (ps : List ℤ) (q under count : ℕ) (cost r : ℤ) (range : InRange limit) (l : Lawful ps) (h : q ≤ length ps) (counted : count ≡ up_to (to_z w64 (of_z w64 limit)) ps) (least : under ≡ min count q) (below : Ok cost ≡ cost_of ps under) (at : r ≡ pos (q - under) *ℤ to_z w64 (of_z w64 limit)) where
  back : to_z w64 (of_z w64 limit) ≡ limit
  back = range_back limit range

  under-is : under ≡ min (up_to limit ps) q
  under-is = least ∙ ap (λ n. min n q) (counted ∙ ap (λ z. up_to z ps) back)

  few : under ≤ length ps
  few = let e = under-is in omega arith

  cost-is : cost ≡ total (take under ps)
  cost-is = cost-value ps under cost few below

  at-limit : r ≡ pos (q - under) *ℤ limit
  at-limit = at ∙ ap (λ z. pos (q - under) *ℤ z) back

  cost-small : Amount cost
  cost-small = subst Amount (sym cost-is) (cost-amount ps under l)

  high_small : Amount r
  high_small = let top = l.few in subst Amount (sym at-limit) (product-amount (q - under) limit (omega arith) (omega (arith, ints), omega (arith, ints)))

  pub capped_fits : SFits w64 (to_z w64 (of_z w64 cost) +ℤ to_z w64 (of_z w64 r))
  capped_fits = (sum_back cost r cost-small high_small).0

  pub cost-capped : Ok (to_z w64 (of_z w64 (to_z w64 (of_z w64 cost) +ℤ to_z w64 (of_z w64 r)))) ≡ cost_of (capped limit ps) q
  cost-capped =
      let same = length-map ps (int_min limit) in
      let sum = total-capped limit lowest_price ps q (rises-rising ps l.within l.rising) h in
      let inside = cost-inside (capped limit ps) q (omega arith) in
      ap Ok (sum_back cost r cost-small high_small).1 ∙ sym (inside ∙ ap Ok (sum ∙ sym (ap (λ n. total (take n ps) +ℤ pos (q - n) *ℤ limit) under-is) ∙ sym (ap (λ z. z +ℤ pos (q - under) *ℤ limit) cost-is) ∙ sym (ap (λ z. cost +ℤ z) at-limit)))

pub cost-beyond : (ps : List ℤ) (q : ℕ) → length ps < q → Err (NoSuchTenth q) ≡ cost_of ps q
cost-beyond ps q h = let t : leb q (length ps) ≡ false = grind (arith, nat_tests) in rw t

amount-back : (z : ℤ) → Amount z → to_z w64 (of_z w64 z) ≡ z
amount-back z h = omega (arith, ints)

far-back : (r a b c d e : ℤ) → r ≡ a +ℤ (b -ℤ c) +ℤ d +ℤ e → Amount b × Amount c × Amount d × Amount a × Amount e → to_z w64 (of_z w64 r) ≡ r
far-back r a b c d e is h =
    let x = h.0 in
    let y = h.1 in
    let z = h.2 in
    let v = h.3 in
    let w = h.4 in
    omega (arith, ints)

-- the sum of a price and a number, kept in range as the machine works it out
module _ (n p : ℤ) (h : InRange p) (d : Difference n) where
  pub raised-fits : SFits w64 (to_z w64 (of_z w64 p) +ℤ to_z w64 (of_z w64 n))
  raised-fits = (sum_back p n (omega (arith, ints), omega (arith, ints)) (omega (arith, ints), omega (arith, ints))).0

  pub clamp-back : (r : ℤ) → r ≡ int_max (negsuc 99999) (int_min (to_z w64 (of_z w64 (to_z w64 (of_z w64 p) +ℤ to_z w64 (of_z w64 n)))) (pos 100000)) → to_z w64 (of_z w64 r) ≡ clamped (p +ℤ n)
  clamp-back r e =
      let s = (sum_back p n (omega (arith, ints), omega (arith, ints)) (omega (arith, ints), omega (arith, ints))).1 in
      let is : r ≡ int_max (negsuc 99999) (int_min (p +ℤ n) (pos 100000)) = e ∙ ap (λ z. int_max (negsuc 99999) (int_min z (pos 100000))) s in
      let within : InRange r = rw is (grind (arith, ints), grind (arith, ints)) in
      range_back r within ∙ is ∙ same (p +ℤ n)
    where
      same : (z : ℤ) → int_max (negsuc 99999) (int_min z (pos 100000)) ≡ clamped z
      same z = grind (arith, ints)

-- the parts of such a cost, joined as the machine joins them
module _ (kept lifted added floor roof : ℤ) (a : Amount kept × Amount lifted × Amount added × Amount floor × Amount roof) where
  between : to_z w64 (of_z w64 (to_z w64 (of_z w64 kept) -ℤ to_z w64 (of_z w64 lifted))) ≡ kept -ℤ lifted
  between =
      let k = a.0 in
      let l = a.1 in
      omega (arith, ints)

  lower : to_z w64 (of_z w64 (to_z w64 (of_z w64 floor) +ℤ to_z w64 (of_z w64 (to_z w64 (of_z w64 kept) -ℤ to_z w64 (of_z w64 lifted))))) ≡ floor +ℤ (kept -ℤ lifted)
  lower =
      let k = a.0 in
      let l = a.1 in
      let f = a.3 in
      let b = between in
      rw b (omega (arith, ints))

  upper : to_z w64 (of_z w64 (to_z w64 (of_z w64 added) +ℤ to_z w64 (of_z w64 roof))) ≡ added +ℤ roof
  upper = (sum_back added roof a.2 a.4).1

  pub parts-fit : SFits w64 (to_z w64 (of_z w64 (to_z w64 (of_z w64 floor) +ℤ to_z w64 (of_z w64 (to_z w64 (of_z w64 kept) -ℤ to_z w64 (of_z w64 lifted))))) +ℤ to_z w64 (of_z w64 (to_z w64 (of_z w64 added) +ℤ to_z w64 (of_z w64 roof))))
  parts-fit =
      let k = a.0 in
      let l = a.1 in
      let d = a.2 in
      let f = a.3 in
      let r = a.4 in
      rw (lower, upper) (near_fits 10000000000 (floor +ℤ (kept -ℤ lifted) +ℤ (added +ℤ roof)) (omega arith) (omega (arith, ints), omega (arith, ints)))

  pub parts-sum : to_z w64 (of_z w64 (to_z w64 (of_z w64 (to_z w64 (of_z w64 floor) +ℤ to_z w64 (of_z w64 (to_z w64 (of_z w64 kept) -ℤ to_z w64 (of_z w64 lifted))))) +ℤ to_z w64 (of_z w64 (to_z w64 (of_z w64 added) +ℤ to_z w64 (of_z w64 roof))))) ≡ floor +ℤ (kept -ℤ lifted) +ℤ added +ℤ roof
  parts-sum =
      let k = a.0 in
      let l = a.1 in
      let d = a.2 in
      let f = a.3 in
      let r = a.4 in
      rw (lower, upper) (omega (arith, ints))

-- the cost under an adder, from the counts and the costs below, as the machine works it out
module _ (n : ℤ) (ps : List ℤ) (q lifted kept low_count high-count : ℕ) (d : Difference n) (l : Lawful ps) (h : q ≤ length ps) (low-counted : low_count ≡ up_to (to_z w64 (of_z w64 (negsuc 99999 -ℤ to_z w64 (of_z w64 n)))) ps) (high-counted : high-count ≡ up_to (to_z w64 (of_z w64 (pos 100000 -ℤ to_z w64 (of_z w64 n)))) ps) (lifted-least : lifted ≡ min low_count q) (kept-least : kept ≡ min high-count q) where
  lifted-is : lifted ≡ min (up_to (lowest_price -ℤ n) ps) q
  lifted-is = lifted-least ∙ ap (λ k. min k q) (low-counted ∙ ap (λ z. up_to z ps) (omega (arith, ints)))

  kept-is : kept ≡ min (up_to (highest_price -ℤ n) ps) q
  kept-is = kept-least ∙ ap (λ k. min k q) (high-counted ∙ ap (λ z. up_to z ps) (omega (arith, ints)))

  pub kept-within : kept ≤ q
  kept-within = omega arith

  pub lifted-kept : lifted ≤ kept
  lifted-kept =
      let a = lifted-is in
      let b = kept-is in
      let c = up_to-mono (lowest_price -ℤ n) (highest_price -ℤ n) ps (omega (arith, ints)) in
      omega arith

  module _ (above under added floor roof : ℤ) (is-above : Ok above ≡ cost_of ps kept) (is-under : Ok under ≡ cost_of ps lifted) (is-added : added ≡ pos (kept - lifted) *ℤ to_z w64 (of_z w64 n)) (is-floor : floor ≡ pos lifted *ℤ lowest_price) (is-roof : roof ≡ pos (q - kept) *ℤ highest_price) where
    above-total : above ≡ total (take kept ps)
    above-total = let k = kept-within in cost-value ps kept above (omega arith) is-above

    under-total : under ≡ total (take lifted ps)
    under-total = let k = kept-within in let m = lifted-kept in cost-value ps lifted under (omega arith) is-under

    added-times : added ≡ pos (kept - lifted) *ℤ n
    added-times = let back : to_z w64 (of_z w64 n) ≡ n = omega (arith, ints) in is-added ∙ ap (λ k. pos (kept - lifted) *ℤ k) back

    amounts : Amount above × Amount under × Amount added × Amount floor × Amount roof
    amounts =
        let top = l.few in
        let k = kept-within in
        let m = lifted-kept in (
          subst Amount (sym above-total) (cost-amount ps kept l),
          subst Amount (sym under-total) (cost-amount ps lifted l),
          subst Amount (sym added-times) (product-amount (kept - lifted) n (omega arith) d),
          subst Amount (sym is-floor) (product-amount lifted lowest_price (omega arith) (omega (arith, ints), omega (arith, ints))),
          subst Amount (sym is-roof) (product-amount (q - kept) highest_price (omega arith) (omega (arith, ints), omega (arith, ints))),
        )

    pub raised-amounts : Amount (to_z w64 (of_z w64 above)) × Amount (to_z w64 (of_z w64 under)) × Amount (to_z w64 (of_z w64 added)) × Amount (to_z w64 (of_z w64 floor)) × Amount (to_z w64 (of_z w64 roof))
    raised-amounts =
        let a = amounts in (
          subst Amount (sym (amount-back above a.0)) a.0,
          subst Amount (sym (amount-back under a.1)) a.1,
          subst Amount (sym (amount-back added a.2)) a.2,
          subst Amount (sym (amount-back floor a.3)) a.3,
          subst Amount (sym (amount-back roof a.4)) a.4,
        )

    pub cost-raised : (r : ℤ) → r ≡ to_z w64 (of_z w64 floor) +ℤ (to_z w64 (of_z w64 above) -ℤ to_z w64 (of_z w64 under)) +ℤ to_z w64 (of_z w64 added) +ℤ to_z w64 (of_z w64 roof) → Ok (to_z w64 (of_z w64 r)) ≡ cost_of (raised n ps) q
    cost-raised r is =
        let a = amounts in
        let b0 = amount-back above a.0 in
        let b1 = amount-back under a.1 in
        let b2 = amount-back added a.2 in
        let b3 = amount-back floor a.3 in
        let b4 = amount-back roof a.4 in
        let sum : r ≡ floor +ℤ (above -ℤ under) +ℤ added +ℤ roof = is ∙ rw (b0, b1, b2, b3, b4) in
        let raw = total-raised n lowest_price ps q lifted kept (rises-rising ps l.within l.rising) h lifted-is kept-is in
        let all : r ≡ total (take q (raised n ps)) = sum ∙ rw (is-floor, above-total, under-total, added-times, is-roof) (sym raw) in
        let same = length-map ps (λ p. clamped (p +ℤ n)) in
        let back : to_z w64 (of_z w64 r) ≡ r = far-back r floor above under added roof sum a in
        ap Ok (back ∙ all) ∙ sym (cost-inside (raised n ps) q (omega arith))

-- ---- which adders are made

-- a number that keeps every sum in range is no more than from one end of the range to the other
kept-modest : (n : ℤ) (ps : List ℤ) → Lawful ps → all_keep n ps ≡ true → Difference n
kept-modest n ps l kept = go ps l.some l.within kept
  where
    modest : (p : ℤ) → InRange p → in_range (p +ℤ n) ≡ true → Difference n
    modest p h k =
        let low : lowest_price ≤ℤ (p +ℤ n) = grind (arith, ints) in
        let high : (p +ℤ n) ≤ℤ highest_price = grind (arith, ints) in
        let a = h.0 in
        let b = h.1 in
        (omega (arith, ints), omega (arith, ints))

    go : (ps : List ℤ) → 1 ≤ length ps → AllByRecursion InRange ps → all_keep n ps ≡ true → Difference n
    go [] h w k = absurd (omega arith)
    go (p ∷ ps) h w k = modest p w.0 (and_parts (in_range (p +ℤ n)) (all_keep n ps) k).0

module _ (n : ℤ) (ps : List ℤ) (top : ℕ) (first last : ℤ) (f : SFits w64 n) (l : Lawful ps) (tops : top ≡ length ps) (at_first : Ok first ≡ price_of ps 1) (at_last : Ok last ≡ price_of ps top) where
  by-ends : all_keep n ps ≡ all_keep n (first ∷ last ∷ [])
  by-ends = go ps l.some l.rising at_first (at_last ∙ ap (price_of ps) tops)
    where
      go : (ps : List ℤ) → 1 ≤ length ps → Rising ps → Ok first ≡ price_of ps 1 → Ok last ≡ price_of ps (length ps) → all_keep n ps ≡ all_keep n (first ∷ last ∷ [])
      go [] h r a b = absurd (omega arith)
      go (p ∷ ps) h r a b =
          let x : Ok first ≡ Ok p = a ∙ price-first p ps in
          let y : Ok last ≡ Ok (last_of p ps) = b ∙ price-last p ps in
          let is-first : first ≡ p = cc in
          let is_last : last ≡ last_of p ps = cc in
          rw (is-first, is_last) (keeps-by-ends n p ps r)

  -- the test of the two ends, as the machine works it out
  module _ (t : Bool) (asked : t ≡ all_keep (to_z w64 (of_z w64 n)) (to_z w64 (of_z w64 first) ∷ to_z w64 (of_z w64 last) ∷ [])) where
    tested : t ≡ all_keep n ps
    tested =
        let p = range_back first (price-within ps 1 first l at_first) in
        let q = range_back last (price-within ps top last l at_last) in
        (rw (to_z-of_z w64 n f, p, q) at asked) ∙ sym by-ends

    pub adder-unmade : t ≡ false → Err AdderOutOfRange ≡ adder_asked n ps
    adder-unmade no' = let e : all_keep n ps ≡ false = sym tested ∙ no' in rw e

    pub adder-made : t ≡ true → Ok (raised (to_z w64 (of_z w64 n)) ps) ≡ adder_asked n ps
    adder-made holds =
        let e : all_keep n ps ≡ true = sym tested ∙ holds in
        rw (to_z-of_z w64 n f, e, raised-kept n ps e)

    pub adder-modest : t ≡ true → Difference (to_z w64 (of_z w64 n))
    adder-modest holds = rw (to_z-of_z w64 n f) (kept-modest n ps l (sym tested ∙ holds))
