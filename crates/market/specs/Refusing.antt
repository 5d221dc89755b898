-- Answers that something may refuse.
use Rattle.std.specs.Prelude.{◌≡◌, ℕ, ◌≤◌, List, length, ℤ, Some, None, Option, refl}
use Rattle.std.proofs.Common.{arith}
use Rattle.std.proofs.lemmas.Bool.Decides.{nat_tests}
use Rattle.offers.specs.Answers.{or_else, unless}
use Rattle.market.specs.declared.amounts.Amounts.{Amounts}
use Rattle.market.specs.declared.amounts.Figures.{Figures}
use Rattle.market.specs.declared.refusal.ProcessRefusal.{ProcessRefusal}
use Rattle.market.specs.declared.refusal.ProcessRefusal.TheVariants.{FieldOutsideLimits, NoSuchTenth}
use Rattle.market.specs.Laws.{Bounded, LawfulRefusal, LawfulMeaning}
use Rattle.market.specs.Curves.{tenth_refusal}

-- two checks one after the other refuse nothing only where neither does
pub or-none : (s t : Option ProcessRefusal) → or_else s t ≡ None → (s ≡ None) × (t ≡ None)
or-none None t h = (refl, h)
or-none (Some r) t h = absurd (cc)

-- the refusal of two checks is that of one of them
pub either-named : (s t : Option ProcessRefusal) → ((e : ProcessRefusal) → s ≡ Some e → LawfulRefusal e) → ((e : ProcessRefusal) → t ≡ Some e → LawfulRefusal e) → (e : ProcessRefusal) → or_else s t ≡ Some e → LawfulRefusal e
either-named None t ls lt e h = lt e h
either-named (Some r) t ls lt e h = ls e h

-- a meaning is lawful where its amounts and its refusals are
pub lawful-unless : (f : Figures) (o : Option ProcessRefusal) (a : Amounts) → (o ≡ None → Bounded f a) → ((e : ProcessRefusal) → o ≡ Some e → LawfulRefusal e) → LawfulMeaning f (unless o a)
lawful-unless f None a b n = b refl
lawful-unless f (Some e) a b n = n e refl

-- a curve refuses no tenth up to its top, and each beyond
pub tenth-none : (ps : List ℤ) (q : ℕ) → tenth_refusal ps q ≡ None → q ≤ length ps
tenth-none ps q h = grind (arith, nat_tests)

pub none-tenth : (ps : List ℤ) (q : ℕ) → q ≤ length ps → tenth_refusal ps q ≡ None
none-tenth ps q h = grind (arith, nat_tests)

-- a tenth has any number
pub tenth-named : (ps : List ℤ) (q : ℕ) (e : ProcessRefusal) → tenth_refusal ps q ≡ Some e → LawfulRefusal e
tenth-named ps q (NoSuchTenth tenth) h = tt
tenth-named ps q (FieldOutsideLimits field) h = absurd (grind (arith, nat_tests))
