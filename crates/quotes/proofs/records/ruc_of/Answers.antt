use Rattle.std.proofs.Common.{◌≡◌, List, [], map, ◌∷◌, ℕ, ℤ, length, get_or, Ok, Bor, arith, ltb-false, ltb-true, w64, to_z, of_z, refl}
use Rattle.quotes.specs.Lines.{number_of}
use Rattle.quotes.specs.Records.{ruc_from, ruc_of}
use Rattle.quotes.proofs.Numbers.{kept}
use Rattle.quotes.proofs.Spelled.{spelled}
use Rattle.quotes.proofs.records.ruc_of.Goals as goal

-- A number as the record has it.
abbrev held : ℤ → ℤ
held n = to_z w64 (of_z w64 n)

eleven_read : (ws : List (Bor (List ℕ))) (w : Bor (List ℕ)) (a b c d e f g h i j k : ℤ) → length ws ≡ 11
    → Ok a ≡ number_of (get_or ws 0 w).now
    → Ok b ≡ number_of (get_or ws 1 w).now
    → Ok c ≡ number_of (get_or ws 2 w).now
    → Ok d ≡ number_of (get_or ws 3 w).now
    → Ok e ≡ number_of (get_or ws 4 w).now
    → Ok f ≡ number_of (get_or ws 5 w).now
    → Ok g ≡ number_of (get_or ws 6 w).now
    → Ok h ≡ number_of (get_or ws 7 w).now
    → Ok i ≡ number_of (get_or ws 8 w).now
    → Ok j ≡ number_of (get_or ws 9 w).now
    → Ok k ≡ number_of (get_or ws 10 w).now
    → Ok (ruc_from (held a ∷ held b ∷ held c ∷ held d ∷ held e ∷ held f ∷ held g ∷ held h ∷ held i ∷ held j ∷ held k ∷ [])) ≡ ruc_of (map (λ x. x.now) ws)
eleven_read ws w a b c d e f g h i j k eleven ha hb hc hd he hf hg hh hi hj hk =
    simp (kept _ _ ha, kept _ _ hb, kept _ _ hc, kept _ _ hd, kept _ _ he, kept _ _ hf, kept _ _ hg, kept _ _ hh, kept _ _ hi, kept _ _ hj, kept _ _ hk)
    (rw (spelled (λ (x : Bor (List ℕ)). x.now) ws w 11 eleven, ← ha, ← hb, ← hc, ← hd, ← he, ← hf, ← hg, ← hh, ← hi, ← hj, ← hk) refl)

pub returns-in_ok-number-in-len11-11 : goal.returns-in_ok-number-in-len11-11
returns-in_ok-number-in-len11-11 c =
    eleven_read c.args.words.now _ _ _ _ _ _ _ _ _ _ _ _ (omega (arith, ltb-true, ltb-false))
    c.in_ok-number-in-len11.ensures c.in_ok-number-in-len11-2.ensures c.in_ok-number-in-len11-3.ensures c.in_ok-number-in-len11-4.ensures c.in_ok-number-in-len11-5.ensures c.in_ok-number-in-len11-6.ensures c.in_ok-number-in-len11-7.ensures c.in_ok-number-in-len11-8.ensures c.in_ok-number-in-len11-9.ensures c.in_ok-number-in-len11-10.ensures c.in_ok-number-in-len11-11.ensures
