-- The words of a line, and the item that they give.
use Rattle.std.specs.Prelude.{ℕ, ◌^◌, Bool, cond, ◌&&◌, List, [], ◌∷◌, length, not, filter, ℤ, pos, negsuc, Some, None, Ok, Err, codes, Option, Result, ◌==◌, int_le, nat_lt, slice_index}
use Rattle.std.specs.List.{slice_split}
use Rattle.std.specs.Str.Parse.{digits_value, without_leading_plus, without_leading_sign, signed_digits_value}
use Rattle.std.specs.Str.{all_ascii_digits, bytes_eq}
use Rattle.offers.specs.declared.block.Block.{Block}
use Rattle.quotes.specs.declared.fault.LineFault.{LineFault}
use Rattle.quotes.specs.declared.fault.LineFault.TheVariants.{UnknownItem, WordCount, NotANumber}
use Rattle.quotes.specs.declared.lines.Item.{Item}
use Rattle.quotes.specs.declared.lines.Item.TheVariants.{Block as BlockItem, Adder as AdderItem, Cap as CapItem, Market as MarketItem}
use Rattle.offers.specs.Answers.{bind, then}

-- The words of a line: what stands between blanks.
abbrev pub words_of : List ℕ → List (List ℕ)
words_of bs = filter (λ word. not (length word == 0)) (slice_split (λ c. c == 32) bs)

abbrev pub is_numeral : List ℕ → Bool
is_numeral ds = nat_lt 0 (length ds) && all_ascii_digits ds

-- Whether a number is an i64.
abbrev pub is_short : ℤ → Bool
is_short n = int_le (negsuc 9223372036854775807) n && int_le n (pos 9223372036854775807)

-- A number is its digits, after a sign or none.
unfoldable pub number_of : List ℕ → Result ℤ LineFault
number_of word = cond (is_numeral (without_leading_sign word) && is_short (signed_digits_value 10 word)) (Ok (signed_digits_value 10 word)) (Err NotANumber)

-- A width has no minus, and is a u64.
unfoldable pub width_of : List ℕ → Result ℕ LineFault
width_of word = cond (is_numeral (without_leading_plus word) && nat_lt (digits_value 10 (without_leading_plus word)) (2 ^ 64)) (Ok (digits_value 10 (without_leading_plus word))) (Err NotANumber)

abbrev pub only_number : List (List ℕ) → Result ℤ LineFault
only_number [] = Err WordCount
only_number (word ∷ []) = number_of word
only_number (word ∷ more ∷ rest) = Err WordCount

abbrev pub block_of : List (List ℕ) → Result Block LineFault
block_of [] = Err WordCount
block_of (tenths ∷ []) = Err WordCount
block_of (tenths ∷ price ∷ []) = bind (width_of tenths) (λ w. then (number_of price) (λ p. record { width = w; price = p }))
block_of (tenths ∷ price ∷ more ∷ rest) = Err WordCount

-- The item that a line's first word names, of the words after it.
abbrev pub item_from : List ℕ → List (List ℕ) → Result Item LineFault
item_from kind words =
    cond (bytes_eq kind (codes "block")) (then (block_of words) BlockItem)
    (cond (bytes_eq kind (codes "adder")) (then (only_number words) AdderItem)
    (cond (bytes_eq kind (codes "cap")) (then (only_number words) CapItem)
    (cond (bytes_eq kind (codes "market")) (then (only_number words) MarketItem)
    (Err UnknownItem))))

-- The item that a line's words give, as its kind is read. A blank line and a comment, which begins with #, give none.
abbrev pub item_of : {T : Type 0} → (List ℕ → List (List ℕ) → Result T LineFault) → List (List ℕ) → Result (Option T) LineFault
item_of from_words [] = Ok None
item_of from_words (kind ∷ words) = cond (slice_index kind 0 == 35) (Ok None) (then (from_words kind words) Some)
