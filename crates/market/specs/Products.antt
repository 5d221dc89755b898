-- Bounds of products and sums of amounts.
use Rattle.std.specs.Prelude.{suc, ◌*◌, ◌≤◌, ℤ, pos, negsuc, ◌*ℤ◌, FitsSigned}
use Rattle.std.proofs.Common.{arith, mul-le-mul}
use Rattle.std.proofs.lemmas.Int.{ints}
use Rattle.std.specs.Int.{w64}
use Rattle.market.specs.Laws.{Within}
use Rattle.market.specs.Limits.{Admitted, power_limits, price_limits}

-- what power earns at a price
pub sold_within : (power price : ℤ) → Admitted power_limits power → Admitted price_limits price → Within 1000000000 (power *ℤ price)
sold_within (pos a) (pos b) h k =
    let l : a * b ≤ 10000 * 100000 = let p : a ≤ 10000 = omega (arith, ints) in let q : b ≤ 100000 = omega (arith, ints) in mul-le-mul p q in
    (omega (arith, ints), omega (arith, ints))
sold_within (pos a) (negsuc b) h k =
    let l : a * suc b ≤ 10000 * 100000 = let p : a ≤ 10000 = omega (arith, ints) in let q : suc b ≤ 100000 = omega (arith, ints) in mul-le-mul p q in
    (omega (arith, ints), omega (arith, ints))
sold_within (negsuc a) b h k = let l = h.0 in (omega (arith, ints), omega (arith, ints))

pub within-fits : (z : ℤ) → Within 2000000000 z → FitsSigned w64 z
within-fits (pos n) h = record { sfits = omega (arith, ints) }
within-fits (negsuc n) h = record { sfits = omega (arith, ints) }
