-- Which texts are numbers, as the definitions and as `parse` have it.
use Rattle.std.proofs.Common.{◌≡◌, ℕ, ◌^◌, ◌<◌, Bool, true, false, cond, ◌&&◌, ltb, leb, List, length, ℤ, pos, negsuc, Ok, Err, Decides, Result, refl, ap, ◌∙◌, arith, w64, to_z, of_z, to_z-of_z, SFits}
use Rattle.std.specs.Str.Parse.{IsNumeral, ParsesSigned, ParsesUnsigned, digits_value, without_leading_plus, without_leading_sign, signed_digits_value}
use Rattle.std.specs.Result.{IsErrAnd, MatchResult, OkIff}
use Rattle.std.specs.Str.{all_ascii_digits}
use Rattle.std.proofs.lemmas.Str.Parse.{IsNumeralModel, numerals_by_value, tells_all_ascii_digits}
use Rattle.std.proofs.lemmas.Result.{err_from_is_err_and}
use Rattle.std.proofs.lemmas.Bool.{leb-true, le-leb, and_parts, and_from}
use Rattle.std.proofs.lemmas.Bool.Decides.{Decides-and, Decides-ltb}
use Rattle.quotes.specs.declared.fault.LineFault.{LineFault}
use Rattle.quotes.specs.declared.fault.LineFault.TheVariants.{NotANumber}
use Rattle.quotes.specs.Lines.{is_numeral, is_short, number_of, width_of}

own : IsNumeralModel (λ ds. all_ascii_digits ds ≡ true) (digits_value 10)
own = numerals_by_value _ tells_all_ascii_digits

numeral-decides : (ds : List ℕ) → Decides (is_numeral ds) (IsNumeral 10 ds)
numeral-decides ds = Decides-and (ltb 0 (length ds)) (all_ascii_digits ds) (Decides-ltb 0 (length ds)) (own.to ds, own.from ds)

short-decides : (n : ℤ) → Decides (is_short n) (SFits w64 n)
short-decides (pos n) = (λ e. record { sfits = omega (arith, leb-true n 9223372036854775807 e) }, λ h. le-leb n 9223372036854775807 (omega (arith, h.sfits)))
short-decides (negsuc n) = (λ e. record { sfits = omega (arith, leb-true n 9223372036854775807 (and_parts (leb n 9223372036854775807) true e).0) }, λ h. and_from (leb n 9223372036854775807) true (le-leb n 9223372036854775807 (omega (arith, h.sfits))) refl)

-- What a parse answers, with one fault for all its errors.
told : {T E : Type 0} {Q : E → LineFault → Type 0} (b : Bool) (P : Type 0) (v : T) (r : Result T E) (answer : Result T LineFault) → Decides b P → OkIff r P v
    → ((e : E) (fault : LineFault) → Q e fault → fault ≡ NotANumber) → MatchResult r (λ x. answer ≡ Ok x) (λ e. IsErrAnd answer (Q e)) → answer ≡ cond b (Ok v) (Err NotANumber)
told b P v (Ok x) answer d h one same = rw (d.1 h.0) (same ∙ ap Ok h.1)
told true P v (Err e) answer d h one same = absurd (h (d.0 refl))
told false P v (Err e) answer d h one same = let p = err_from_is_err_and answer same in p.1 ∙ ap Err (one e p.0 p.2)

width-decides : (bs : List ℕ) → Decides (is_numeral (without_leading_plus bs) && ltb (digits_value 10 (without_leading_plus bs)) (2 ^ 64)) (IsNumeral 10 (without_leading_plus bs) × (digits_value 10 (without_leading_plus bs) < 2 ^ 64))
width-decides bs = Decides-and (is_numeral (without_leading_plus bs)) _ (numeral-decides (without_leading_plus bs)) (Decides-ltb _ _)

pub width_told : {E : Type 0} {Q : E → LineFault → Type 0} (bs : List ℕ) (r : Result ℕ E) (answer : Result ℕ LineFault) → ParsesUnsigned 64 10 bs r
    → ((e : E) (fault : LineFault) → Q e fault → fault ≡ NotANumber) → MatchResult r (λ x. answer ≡ Ok x) (λ e. IsErrAnd answer (Q e)) → answer ≡ width_of bs
unfolding width_of
width_told bs r answer = told _ _ _ r answer (width-decides bs)

number-decides : (bs : List ℕ) → Decides (is_numeral (without_leading_sign bs) && is_short (signed_digits_value 10 bs)) (IsNumeral 10 (without_leading_sign bs) × SFits w64 (signed_digits_value 10 bs))
number-decides bs = Decides-and (is_numeral (without_leading_sign bs)) _ (numeral-decides (without_leading_sign bs)) (short-decides (signed_digits_value 10 bs))

pub number_told : {E : Type 0} {Q : E → LineFault → Type 0} (bs : List ℕ) (r : Result ℤ E) (answer : Result ℤ LineFault) → ParsesSigned w64 10 bs r
    → ((e : E) (fault : LineFault) → Q e fault → fault ≡ NotANumber) → MatchResult r (λ x. answer ≡ Ok x) (λ e. IsErrAnd answer (Q e)) → answer ≡ number_of bs
unfolding number_of
number_told bs r answer = told _ _ _ r answer (number-decides bs)

chosen : {T : Type 0} (b : Bool) (v x : T) → ◌≡◌ {A = Result T LineFault} (Ok x) (cond b (Ok v) (Err NotANumber)) → (b ≡ true) × (v ≡ x)
chosen true v x e = (refl, cc)
chosen false v x e = cc

-- A number that was read fits its type.
pub kept : (bs : List ℕ) (n : ℤ) → Ok n ≡ number_of bs → to_z w64 (of_z w64 n) ≡ n
unfolding number_of
kept bs n e = let c = chosen _ _ _ e in rw (← c.1) (to_z-of_z ((number-decides bs).0 c.0).1)
