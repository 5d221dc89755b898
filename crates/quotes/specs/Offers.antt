-- What an offer asks for, line by line.
use Rattle.std.specs.Prelude.{ℕ, List, [], ◌∷◌, ◌++◌, ℤ, Ok, Err, vec_items, Result}
use Rattle.offers.specs.declared.block.Block.{Block}
use Rattle.quotes.specs.declared.fault.LineFault.{LineFault}
use Rattle.quotes.specs.declared.fault.LineFault.TheVariants.{SecondAdder, SecondCap}
use Rattle.quotes.specs.declared.fault.OfferFault.{OfferFault}
use Rattle.quotes.specs.declared.lines.Item.{Item}
use Rattle.quotes.specs.declared.lines.Item.TheVariants.{Block as BlockItem, Adder as AdderItem, Cap as CapItem, Market as MarketItem}
use Rattle.quotes.specs.declared.offer.Offer.{Offer}
use Rattle.quotes.specs.declared.offer.Pile.{Pile}
use Rattle.quotes.specs.declared.offer.Pile.TheVariants.{Bare, Cap, Adder, CapOverAdder, AdderOverCap}
use Rattle.offers.specs.Answers.{then}
use Rattle.quotes.specs.Answers.{at_line}
use Rattle.quotes.specs.Lines.{item_from}
use Rattle.quotes.specs.Readings.{line_step, read_from}

-- The blocks, what lies on them, and the market prices that are asked about.
pub record Asked : Type 0 where
  pub blocks : List Block
  pub pile : Pile
  pub markets : List ℤ

abbrev pub asked : Offer → Asked
asked o = record { blocks = vec_items o.blocks; pile = o.pile; markets = vec_items o.markets }

abbrev pub nothing : Asked
nothing = record { blocks = []; pile = Bare; markets = [] }

-- A cap lies over what is there. There is at most one.
abbrev pub cap_laid : ℤ → Pile → Result Pile LineFault
cap_laid limit Bare = Ok (Cap limit)
cap_laid limit (Adder added) = Ok (CapOverAdder limit added)
cap_laid limit (Cap _) = Err SecondCap
cap_laid limit (CapOverAdder _ _) = Err SecondCap
cap_laid limit (AdderOverCap _ _) = Err SecondCap

-- The same of an adder.
abbrev pub adder_laid : ℤ → Pile → Result Pile LineFault
adder_laid added Bare = Ok (Adder added)
adder_laid added (Cap limit) = Ok (AdderOverCap added limit)
adder_laid added (Adder _) = Err SecondAdder
adder_laid added (CapOverAdder _ _) = Err SecondAdder
adder_laid added (AdderOverCap _ _) = Err SecondAdder

abbrev pub laid : Asked → Pile → Asked
laid a p = record { blocks = a.blocks; pile = p; markets = a.markets }

-- What an item does to an offer.
abbrev pub taking : Item → Asked → Result Asked LineFault
taking (BlockItem b) a = Ok (record { blocks = a.blocks ++ b ∷ []; pile = a.pile; markets = a.markets })
taking (AdderItem added) a = then (adder_laid added a.pile) (laid a)
taking (CapItem limit) a = then (cap_laid limit a.pile) (laid a)
taking (MarketItem price) a = Ok (record { blocks = a.blocks; pile = a.pile; markets = a.markets ++ price ∷ [] })

-- The same of the item of a line.
abbrev pub item_taken : ℕ → Item → Asked → Result Asked OfferFault
item_taken number item a = at_line number (taking item a)

-- What lines from this number on make of an offer, or the first fault.
abbrev pub offer_read : ℕ → Asked → List (List ℕ) → Result Asked OfferFault
offer_read = read_from (line_step item_from (λ fault. fault) item_taken)
