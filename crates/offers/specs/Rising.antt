-- Lists of prices that never fall.
use Rattle.std.specs.Prelude.{◌≡◌, ◌+◌, ◌≤◌, Bool, true, false, cond, List, [], ◌∷◌, map, length, ℤ, ◌≤ℤ◌, ◌<ℤ◌, int_le, refl}
use Rattle.std.proofs.Common.{arith}
use Rattle.std.proofs.lemmas.List.{length-map}
use Rattle.std.proofs.lemmas.Int.{ints}
use Rattle.std.proofs.ByRecursion.{All-map, All-weaker}
use Rattle.std.specs.List.{AllByRecursion}
use Rattle.offers.specs.Prices.{InRange, lowest_price, Rises, Rising, Lawful, up_to}

pub rises-from : (f g : ℤ) (ps : List ℤ) → f ≤ℤ g → Rises g ps → Rises f ps
rises-from f g [] h r = tt
rises-from f g (p ∷ ps) h r = let k : g ≤ℤ p = r.0 in (omega (arith, ints), r.1)

pub rises-all : (f : ℤ) (ps : List ℤ) → Rises f ps → AllByRecursion (λ p. f ≤ℤ p) ps
rises-all f [] r = tt
rises-all f (p ∷ ps) r = (r.0, rises-all f ps (rises-from f p ps r.0 r.1))

-- a list that never falls, from a floor under its first price
pub rises-rising : (ps : List ℤ) → AllByRecursion InRange ps → Rising ps → Rises lowest_price ps
rises-rising [] h r = tt
rises-rising (p ∷ ps) h r = (h.0.0, r)

pub rising-rises : (f : ℤ) (ps : List ℤ) → Rises f ps → Rising ps
rising-rises f [] r = tt
rising-rises f (p ∷ ps) r = r.1

pub rises-map : (m : ℤ → ℤ) → ((a b : ℤ) → a ≤ℤ b → m a ≤ℤ m b) → (f : ℤ) (ps : List ℤ) → Rises f ps → Rises (m f) (map m ps)
rises-map m up f [] r = tt
rises-map m up f (p ∷ ps) r = (up f p r.0, rises-map m up p ps r.1)

-- a change of prices that keeps their order and their range keeps the law
pub lawful-map : (m : ℤ → ℤ) → ((a b : ℤ) → a ≤ℤ b → m a ≤ℤ m b) → ((p : ℤ) → InRange p → InRange (m p)) → (ps : List ℤ) → Lawful ps → Lawful (map m ps)
lawful-map m up keeps ps l =
    let e = length-map ps m in
    record {
      some = let s = l.some in omega arith;
      few = let s = l.few in omega arith;
      within = All-map InRange m ps (All-weaker InRange (λ p. InRange (m p)) keeps ps l.within);
      rising = rising-rises (m lowest_price) (map m ps) (rises-map m up lowest_price ps (rises-rising ps l.within l.rising));
    }

pub up_to-all : (q : ℤ) (ps : List ℤ) → AllByRecursion (λ p. p ≤ℤ q) ps → up_to q ps ≡ length ps
up_to-all q [] h = refl
up_to-all q (p ∷ ps) h =
    let k : p ≤ℤ q = h.0 in
    let t : int_le p q ≡ true = grind (arith, ints) in
    let e = up_to-all q ps h.1 in
    simp t (omega arith)

pub up_to-none : (q : ℤ) (ps : List ℤ) → AllByRecursion (λ p. q <ℤ p) ps → up_to q ps ≡ 0
up_to-none q [] h = refl
up_to-none q (p ∷ ps) h =
    let k : q <ℤ p = h.0 in
    let t : int_le p q ≡ false = grind (arith, ints) in
    let e = up_to-none q ps h.1 in
    simp t (omega arith)

-- above a price, nothing of what follows a higher one counts
pub up_to-under : (q f : ℤ) (ps : List ℤ) → q <ℤ f → Rises f ps → up_to q ps ≡ 0
up_to-under q f ps h r = up_to-none q ps (All-weaker (λ p. f ≤ℤ p) (λ p. q <ℤ p) (λ p k. omega (arith, ints)) ps (rises-all f ps r))

-- counts of two lists whose prices compare alike with two numbers
pub up_to-map : (m : ℤ → ℤ) (q r : ℤ) → ((p : ℤ) → int_le (m p) q ≡ int_le p r) → (ps : List ℤ) → up_to q (map m ps) ≡ up_to r ps
up_to-map m q r same [] = refl
up_to-map m q r same (p ∷ ps) = let e = up_to-map m q r same ps in simp (same p) (omega arith)

pub up_to-mono : (q r : ℤ) (ps : List ℤ) → q ≤ℤ r → up_to q ps ≤ up_to r ps
up_to-mono q r [] h = omega arith
up_to-mono q r (p ∷ ps) h =
    go (int_le p q) (int_le p r) (grind (arith, ints)) (up_to-mono q r ps h)
  where
    go : (s t : Bool) → (s ≡ true → t ≡ true) → up_to q ps ≤ up_to r ps → cond s 1 0 + up_to q ps ≤ cond t 1 0 + up_to r ps
    go true true i e = omega arith
    go false true i e = omega arith
    go false false i e = omega arith
    go true false i e = let f : false ≡ true = i refl in grind arith
