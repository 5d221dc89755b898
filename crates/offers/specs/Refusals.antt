-- What a refusal tells, and the refusals of the curve layer: number, layer and place of each.
use Rattle.std.specs.Prelude.{ℕ, List, ◌++◌, Some, None, Option, codes, decimal}
use Rattle.offers.specs.declared.refusal.Layer.{Layer}
use Rattle.offers.specs.declared.refusal.Layer.TheVariants.{Curve, Process, Book}
use Rattle.offers.specs.declared.refusal.CurveRefusal.{CurveRefusal}
use Rattle.offers.specs.declared.refusal.CurveRefusal.TheVariants.{BlockCount, EmptyBlock, TooWide, PriceOutOfRange, CapOutOfRange, AdderOutOfRange, PriceFalls, NoSuchTenth}

-- What a refusal tells: its number in the table of refusals, the layer that refused, and the place of the fault.
pub record Told : Type 0 where
  pub number : ℕ
  pub layer : Layer
  pub place : ℕ

abbrev at : ℕ → ℕ → Told
at n p = record { number = n; layer = Curve; place = p }

abbrev pub curve_told : CurveRefusal → Told
curve_told BlockCount = at 10 0
curve_told (EmptyBlock block) = at 10 block
curve_told (TooWide block) = at 10 block
curve_told (PriceOutOfRange block) = at 11 block
curve_told CapOutOfRange = at 11 0
curve_told AdderOutOfRange = at 11 0
curve_told (PriceFalls block) = at 12 block
curve_told (NoSuchTenth tenth) = at 13 tenth

abbrev pub layer_name : Layer → List ℕ
layer_name Curve = codes "curve"
layer_name Process = codes "process"
layer_name Book = codes "book"

-- What a refusal says, in bytes of text.
abbrev pub sentence : CurveRefusal → List ℕ
sentence BlockCount = codes "an offer has 1 to 10 blocks (place 0)"
sentence (EmptyBlock block) = codes "block " ++ (decimal block ++ codes " has no tenths")
sentence (TooWide block) = codes "with block " ++ (decimal block ++ codes " the widths pass 10000 tenths")
sentence (PriceOutOfRange block) = codes "the price of block " ++ (decimal block ++ codes " is not from -100000 to 100000")
sentence CapOutOfRange = codes "the limit of the cap is not from -100000 to 100000 (place 0)"
sentence AdderOutOfRange = codes "the adder takes a price out of -100000 to 100000 (place 0)"
sentence (PriceFalls block) = codes "the price of block " ++ (decimal block ++ codes " is below that of the block before")
sentence (NoSuchTenth tenth) = codes "the curve has no tenth " ++ decimal tenth

-- A refusal is reported by its number, its layer and its place, and then its sentence, where that is known.
abbrev pub reported : Told → Option (List ℕ) → Option (List ℕ)
reported told None = None
reported told (Some text) =
    Some (codes "refused " ++ (decimal told.number ++ (codes " " ++ (layer_name told.layer ++ (codes " " ++ (decimal told.place ++ (codes ": " ++ text)))))))
