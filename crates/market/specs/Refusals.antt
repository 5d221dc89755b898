-- The refusals of a market process: number, layer and place of each.
use Rattle.std.specs.Prelude.{ℕ, List, ◌++◌, codes, decimal}
use Rattle.offers.specs.declared.refusal.CurveRefusal.TheVariants.{NoSuchTenth as NoTenthOfCurve}
use Rattle.offers.specs.declared.refusal.Layer.TheVariants.{Process}
use Rattle.offers.specs.Refusals.{Told, curve_told, sentence as sentence_of_curve}
use Rattle.market.specs.declared.refusal.ProcessRefusal.{ProcessRefusal}
use Rattle.market.specs.declared.refusal.ProcessRefusal.TheVariants.{FieldOutsideLimits, NoSuchTenth}

-- A refusal of a curve is handed up unchanged.
abbrev pub process_told : ProcessRefusal → Told
process_told (FieldOutsideLimits field) = record { number = 14; layer = Process; place = field }
process_told (NoSuchTenth tenth) = curve_told (NoTenthOfCurve tenth)

-- What a refusal says, in bytes of text.
abbrev pub sentence : ProcessRefusal → List ℕ
sentence (FieldOutsideLimits field) = codes "field " ++ (decimal field ++ codes " of the record is outside its limits")
sentence (NoSuchTenth tenth) = sentence_of_curve (NoTenthOfCurve tenth)
