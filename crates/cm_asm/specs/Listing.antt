-- The listing of an image: a line for each word, with its address before it.
use Rattle.std.specs.Prelude.{◌≡◌, ℕ, zero, suc, ◌+◌, ◌/◌, ◌%◌, ◌^◌, ◌<◌, ◌≤◌, nat_lt, if◌then◌else◌, List, [], ◌∷◌, ◌++◌, length, take, slice_index}
use Rattle.cm_asm.specs.declared.image.TheConstants.{MAX_WORDS}

-- the character of a hexadecimal digit, in lower case
abbrev pub hex_digit : ℕ → ℕ
hex_digit digit = if nat_lt digit 10 then 48 + digit else 87 + digit

-- a number in so many hexadecimal digits, the highest first
unfoldable pub hex : (digits : ℕ) → ℕ → List ℕ
hex zero number = []
hex (suc digits) number = hex digits (number / 16) ++ hex_digit (number % 16) ∷ []

-- the line of a word: its address, a space, the word and a line feed, both numbers in eight digits
unfoldable pub line : (address word : ℕ) → List ℕ
line address word = hex 8 address ++ (32 ∷ (hex 8 word ++ 10 ∷ []))

-- the lines of words from this address on
abbrev pub listing_from : (address : ℕ) → List ℕ → List ℕ
listing_from address [] = []
listing_from address (word ∷ words) = line address word ++ listing_from (address + 4) words

-- the listing of these words, whose addresses begin at 0
abbrev pub listing : List ℕ → List ℕ
listing words = listing_from 0 words

-- the words of an image that has a listing: there are not too many, of 32 bits each
pub record AreWords (words : List ℕ) : Type 0 where
  pub few : length words ≤ MAX_WORDS
  pub each : (k : ℕ) → slice_index words k < 2 ^ 32

-- the text is the listing of some image
abbrev pub IsListing : List ℕ → Type 0
IsListing text = (words : List ℕ) × AreWords words × (text ≡ listing words)

-- some listing begins with the text
abbrev pub IsFront : List ℕ → Type 0
IsFront text = (words : List ℕ) × AreWords words × (more : List ℕ) × (text ++ more ≡ listing words)

-- the text leaves the listings at this byte: some listing begins with the bytes before it, and none with these
-- and this byte; a text that ends inside a line leaves them at its length
pub record LeavesAt (text : List ℕ) (at : ℕ) : Type 0 where
  pub within : at ≤ length text
  pub front : IsFront (take at text)
  pub byte : at < length text → IsFront (take (at + 1) text) → ⊥
  pub rest : at ≡ length text → IsListing text → ⊥
