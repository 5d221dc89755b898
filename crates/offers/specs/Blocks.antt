-- Block curves: the prices that a list of blocks stands for, and which lists are refused.
use Rattle.std.specs.Prelude.{ℕ, ◌+◌, ◌≤◌, cond, not, ◌&&◌, List, [], ◌∷◌, ◌++◌, length, replicate, ℤ, Some, None, Option, Result, ◌==◌, int_le, int_lt, nat_le, nat_lt}
use Rattle.offers.specs.declared.block.Block.{Block}
use Rattle.offers.specs.declared.refusal.CurveRefusal.{CurveRefusal}
use Rattle.offers.specs.declared.refusal.CurveRefusal.TheVariants.{BlockCount, EmptyBlock, TooWide, PriceOutOfRange, PriceFalls}
use Rattle.std.specs.List.{AllByRecursion}
use Rattle.offers.specs.Answers.{or_else, unless}
use Rattle.offers.specs.Prices.{lowest_price, highest_top, in_range, Lawful}

abbrev pub most_blocks : ℕ
most_blocks = 10

-- Each block has as many tenths as it is wide, all at its price.
abbrev pub spread : List Block → List ℤ
spread [] = []
spread (b ∷ bs) = replicate b.width b.price ++ spread bs

-- How many tenths of a block are priced at this price or less.
abbrev pub tenths_up_to : ℤ → Block → ℕ
tenths_up_to price b = cond (int_le b.price price) b.width 0

-- What is wrong with block number i, where so many tenths lie before it and its price may not be below the floor.
abbrev pub block_fault : ℕ → ℕ → ℤ → Block → Option CurveRefusal
block_fault i before floor b =
    cond (b.width == 0) (Some (EmptyBlock i))
    (cond (nat_lt highest_top (before + b.width)) (Some (TooWide i))
    (cond (not (in_range b.price)) (Some (PriceOutOfRange i))
    (cond (int_lt b.price floor) (Some (PriceFalls i)) None)))

-- The first fault of the blocks from number i on, block by block.
abbrev pub fault_from : ℕ → ℕ → ℤ → List Block → Option CurveRefusal
fault_from i before floor [] = None
fault_from i before floor (b ∷ bs) = or_else (block_fault i before floor b) (fault_from (i + 1) (before + b.width) b.price bs)

-- The first fault of an offer. Its first block has no block before it, so that the lowest price is its floor.
abbrev pub fault : List Block → Option CurveRefusal
fault bs = cond (nat_le 1 (length bs) && nat_le (length bs) most_blocks) (fault_from 1 0 lowest_price bs) (Some BlockCount)

-- The blocks that a curve is asked to hold, or its refusal.
abbrev pub blocks_asked : List Block → Result (List Block) CurveRefusal
blocks_asked bs = unless (fault bs) bs

-- The blocks of which a curve can be made, said at once: 1 to 10, none empty, with prices that keep the law of a curve.
pub record Offered (bs : List Block) : Type 0 where
  pub some : 1 ≤ length bs
  pub few : length bs ≤ most_blocks
  pub filled : AllByRecursion (λ b. 1 ≤ b.width) bs
  pub lawful : Lawful (spread bs)
