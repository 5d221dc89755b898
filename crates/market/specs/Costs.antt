-- How far the cost of some tenths can lie from 0.
use Rattle.std.specs.Prelude.{ℕ, zero, suc, ◌-◌, ◌*◌, ◌≤◌, List, [], ◌∷◌, take, ℤ, ◌+ℤ◌, ◌-ℤ◌}
use Rattle.std.proofs.Common.{inl, inr, arith}
use Rattle.std.proofs.ByRecursion.{All-take}
use Rattle.std.proofs.lemmas.List.{length-take}
use Rattle.std.proofs.lemmas.Int.{ints}
use Rattle.std.proofs.lemmas.Bool.Decides.{leb_tells}
use Rattle.std.proofs.lemmas.Grind.{common_steps}
use Rattle.std.specs.List.{AllByRecursion}
use Rattle.offers.specs.Prices.{InRange, Lawful}
use Rattle.offers.specs.Sums.{total-near}
use Rattle.market.specs.Curves.{cost_up_to}
use Rattle.market.specs.Laws.{Within}

cost-of-tenths : (ps : List ℤ) (q : ℕ) → AllByRecursion InRange ps → Within (100000 * q) (cost_up_to ps q)
cost-of-tenths ps q within =
    let near = total-near (take q ps) (All-take InRange q ps within) in
    let len = length-take q ps in
    (omega (arith, ints), omega (arith, ints))

-- the tenths between two outputs
cost-between : (ps : List ℤ) (low high : ℕ) → AllByRecursion InRange ps → low ≤ high → Within (100000 * (high - low)) (cost_up_to ps high -ℤ cost_up_to ps low)
cost-between [] low high within h = (grind (arith, ints, common_steps), grind (arith, ints, common_steps))
cost-between (p ∷ ps) zero high within h = let c = cost-of-tenths (p ∷ ps) high within in (omega (arith, ints), omega (arith, ints))
cost-between (p ∷ ps) (suc low) zero within h = absurd (omega arith)
cost-between (p ∷ ps) (suc low) (suc high) within h = let c = cost-between ps low high within.1 (omega arith) in (omega (arith, ints), omega (arith, ints))

pub cost-within : (ps : List ℤ) (q : ℕ) → Lawful ps → Within 1000000000 (cost_up_to ps q)
cost-within ps q l =
    let near = total-near (take q ps) (All-take InRange q ps l.within) in
    let few = l.few in
    let len = length-take q ps in
    (omega (arith, ints), omega (arith, ints))

-- an output priced by one curve up to a part of it, and by another beyond
pub cost-by-two : (committed current : List ℤ) (part output : ℕ) → Lawful committed → Lawful current → part ≤ output → output ≤ 10000 → Within 1000000000 (cost_up_to committed part +ℤ (cost_up_to current output -ℤ cost_up_to current part))
cost-by-two committed current part output l k h few =
    let c = cost-of-tenths committed part l.within in
    let d = cost-between current part output k.within h in
    (omega (arith, ints), omega (arith, ints))

-- two outputs of one curve
pub cost-apart : (ps : List ℤ) (a b : ℕ) → Lawful ps → a ≤ 10000 → b ≤ 10000 → Within 1000000000 (cost_up_to ps a -ℤ cost_up_to ps b)
cost-apart ps a b l ha hb =
    elim (leb_tells a b) [
      | inl h ↦ let c = cost-between ps a b l.within h.1 in (omega (arith, ints), omega (arith, ints))
      | inr h ↦ let g = h.1 in let c = cost-between ps b a l.within (omega arith) in (omega (arith, ints), omega (arith, ints))
    ]
