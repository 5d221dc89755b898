-- The prices of a curve of blocks under a pile.
use Rattle.std.specs.Prelude.{List, ℤ}
use Rattle.offers.specs.Blocks.{spread}
use Rattle.offers.specs.Prices.{Lawful}
use Rattle.offers.specs.Piles.{capped, raised}
use Rattle.offers.specs.PilesLemmas.{lawful-capped, lawful-raised}
use Rattle.offers.specs.Spreads.{lawful-spread}
use Rattle.quotes.specs.declared.piled.PiledCurve.{PiledCurve}
use Rattle.quotes.specs.declared.piled.PiledCurve.TheVariants.{Bare, Cap, Adder, CapOverAdder, AdderOverCap}

-- The prices of the blocks, changed by what lies on them.
abbrev pub piled_prices : PiledCurve → List ℤ
piled_prices (Bare c) = spread c.blocks.items
piled_prices (Cap c) = capped c.limit (spread c.lower.blocks.items)
piled_prices (Adder c) = raised c.added (spread c.lower.blocks.items)
piled_prices (CapOverAdder c) = capped c.limit (raised c.lower.added (spread c.lower.lower.blocks.items))
piled_prices (AdderOverCap c) = raised c.added (capped c.lower.0.limit (spread c.lower.0.lower.blocks.items))

pub lawful-piled : (p : PiledCurve) → Lawful (piled_prices p)
lawful-piled (Bare c) = lawful-spread c.blocks.items c.faultless
lawful-piled (Cap c) =
    let b = c.lower in
    lawful-capped c.limit (spread b.blocks.items) c.within (lawful-spread b.blocks.items b.faultless)
lawful-piled (Adder c) =
    let b = c.lower in
    lawful-raised c.added (spread b.blocks.items) (lawful-spread b.blocks.items b.faultless)
lawful-piled (CapOverAdder c) =
    let b = c.lower.lower in
    lawful-capped c.limit (raised c.lower.added (spread b.blocks.items)) c.within (lawful-raised c.lower.added (spread b.blocks.items) (lawful-spread b.blocks.items b.faultless))
lawful-piled (AdderOverCap c) =
    let b = c.lower.0.lower in
    lawful-raised c.added (capped c.lower.0.limit (spread b.blocks.items)) (lawful-capped c.lower.0.limit (spread b.blocks.items) c.lower.0.within (lawful-spread b.blocks.items b.faultless))
