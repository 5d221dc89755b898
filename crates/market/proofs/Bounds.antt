-- What code over any process may use of its laws.
use Rattle.std.proofs.Common.{◌≡◌, ℕ, ◌≤◌, true, Ok, Result, sym, subst, arith}
use Rattle.std.proofs.lemmas.Int.{ints}
use Rattle.std.proofs.lemmas.Bool.Decides.{nat_tests}
use Rattle.market.specs.declared.amounts.Amounts.{Amounts}
use Rattle.market.specs.declared.amounts.Figures.{Figures}
use Rattle.market.specs.declared.refusal.ProcessRefusal.{ProcessRefusal}
use Rattle.market.specs.Laws.{is_length, LawfulFigures, Within, Bounded, LawfulMeaning}

length_most : (n : ℕ) → is_length n ≡ true → n ≤ 12
length_most n h = grind (arith, nat_tests)

-- the amounts of a taken record lie within the bounds of the process
pub bounded-amounts : (f : Figures) (m : Result Amounts ProcessRefusal) (a : Amounts) → LawfulMeaning f m → Ok a ≡ m → Bounded f a
bounded-amounts f m a l e = subst (LawfulMeaning f) (sym e) l

-- and so within those of an hour
pub amounts-of-an-hour : (f : Figures) (a : Amounts) → LawfulFigures f → Bounded f a → Within 24000000000 a.cost × Within 24000000000 a.revenue × Within 24000000000 a.disallowed
amounts-of-an-hour f a l b =
    let n = length_most f.length l.length in
    let c = b.cost in
    let r = b.revenue in
    let d = b.disallowed in
    ((omega (arith, ints), omega (arith, ints)), (omega (arith, ints), omega (arith, ints)), (omega (arith, ints), omega (arith, ints)))
