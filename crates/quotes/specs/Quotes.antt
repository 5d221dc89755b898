-- What an offer's curve answers at the end of each block and at each market price.
use Rattle.std.specs.Prelude.{ℕ, ◌+◌, List, [], ◌∷◌, map, ℤ, Ok, vec_items, Result}
use Rattle.offers.specs.declared.block.Block.{Block}
use Rattle.offers.specs.declared.refusal.CurveRefusal.{CurveRefusal}
use Rattle.offers.specs.Blocks.{spread, blocks_asked}
use Rattle.offers.specs.Piles.{cap_asked, adder_asked}
use Rattle.offers.specs.Prices.{top_of, price_of, cost_of, count_of}
use Rattle.quotes.specs.declared.offer.Pile.{Pile}
use Rattle.quotes.specs.declared.offer.Pile.TheVariants.{Bare, Cap, Adder, CapOverAdder, AdderOverCap}
use Rattle.quotes.specs.declared.pricing.Point.{Point}
use Rattle.quotes.specs.declared.pricing.Dispatch.{Dispatch}
use Rattle.quotes.specs.declared.pricing.Quote.{Quote}
use Rattle.offers.specs.Answers.{bind, then}
use Rattle.quotes.specs.Offers.{Asked}

-- The price of a tenth and the cost of all tenths up to it.
abbrev pub point_at : List ℤ → ℕ → Result Point CurveRefusal
point_at ps tenth = bind (price_of ps tenth) (λ p. then (cost_of ps tenth) (λ c. record { tenth = tenth; price = p; cost = c }))

abbrev pub points_at : List ℤ → List ℕ → Result (List Point) CurveRefusal
points_at ps [] = Ok []
points_at ps (tenth ∷ tenths) = bind (point_at ps tenth) (λ p. then (points_at ps tenths) (λ more. p ∷ more))

-- How many tenths run at a market price.
abbrev pub dispatch_at : List ℤ → ℤ → Dispatch
dispatch_at ps market = record { market = market; tenths = count_of ps market }

pub record Quoted : Type 0 where
  pub top : ℕ
  pub points : List Point
  pub dispatches : List Dispatch

abbrev pub quoted : Quote → Quoted
quoted q = record { top = q.top; points = vec_items q.points; dispatches = vec_items q.dispatches }

-- What a curve of these prices answers.
abbrev pub quote_at : List ℕ → List ℤ → List ℤ → Result Quoted CurveRefusal
quote_at tenths markets ps =
    then (points_at ps tenths) (λ points. record { top = top_of ps; points = points; dispatches = map (dispatch_at ps) markets })

-- The prices under a pile. What is named first lies on top.
abbrev pub piled : Pile → List ℤ → Result (List ℤ) CurveRefusal
piled Bare ps = Ok ps
piled (Cap limit) ps = cap_asked limit ps
piled (Adder added) ps = adder_asked added ps
piled (CapOverAdder limit added) ps = bind (adder_asked added ps) (cap_asked limit)
piled (AdderOverCap added limit) ps = bind (cap_asked limit ps) (adder_asked added)

-- The last tenth of each block, where so many tenths lie before the first.
abbrev pub ends_from : ℕ → List Block → List ℕ
ends_from before [] = []
ends_from before (b ∷ bs) = (before + b.width) ∷ ends_from (before + b.width) bs

-- The quote of an offer, or the first refusal: of the blocks, of what lies on them, of a tenth.
abbrev pub settled : Asked → Result Quoted CurveRefusal
settled a = bind (blocks_asked a.blocks) (λ bs. bind (piled a.pile (spread bs)) (quote_at (ends_from 0 bs) a.markets))
