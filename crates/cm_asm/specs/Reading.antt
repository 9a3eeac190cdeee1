-- What the parts of a line have in common with a text.
use Rattle.std.specs.Prelude.{◌≡◌, ℕ, ◌^◌, ◌<◌, ◌≤◌, ◌≢◌, List, length, take, slice_index, Result, Ok, Err}
use Rattle.cm_asm.specs.Listing.{hex_digit, hex, line, AreWords, listing, LeavesAt}
use Rattle.cm_asm.specs.declared.image.Image.{Image}
use Rattle.cm_asm.specs.declared.reading.ListRefusal.{ListRefusal}
use Rattle.cm_asm.specs.declared.reading.ListRefusal.TheVariants.{Line, Memory}

-- the text and the expected one agree on so many bytes, and no further
pub record Agrees (text expected : List ℕ) (count : ℕ) : Type 0 where
  pub within : count ≤ length expected
  pub inside : count ≤ length text
  pub same : take count text ≡ take count expected
  pub other : count < length expected → count < length text → slice_index expected count ≢ slice_index text count

-- the byte is the character of a hexadecimal digit
abbrev pub IsHexByte : ℕ → Type 0
IsHexByte byte = (digit : ℕ) × (digit < 16) × (byte ≡ hex_digit digit)

-- the text begins with so many hexadecimal digits, and no more up to eight, and this is their value
pub record IsNumberFront (text : List ℕ) (count value : ℕ) : Type 0 where
  pub within : count ≤ 8
  pub inside : count ≤ length text
  pub digits : take count text ≡ hex count value
  pub small : value < 16 ^ count
  pub other : count < 8 → count < length text → IsHexByte (slice_index text count) → ⊥

-- the text leaves the lines of this address after so many bytes: they begin a line of some word, and the byte
-- behind them, if there is one, is in no line
pub record LeavesLine (address : ℕ) (text : List ℕ) (count : ℕ) : Type 0 where
  pub within : count < 18
  pub inside : count ≤ length text
  pub front : (word : ℕ) × (word < 2 ^ 32) × (take count text ≡ take count (line address word))
  pub other : (word : ℕ) → count < length text → slice_index (line address word) count ≢ slice_index text count

-- the text is answered with an image exactly of its words
abbrev pub Reads : List ℕ → Result Image ListRefusal → Type 0
Reads words (Ok image) = image.words ≡ words
Reads words (Err (Line at)) = ⊥
Reads words (Err Memory) = Unit {0}

-- whichever words the text lists, the answer has them
abbrev pub ReadsEach : List ℕ → Result Image ListRefusal → Type 0
ReadsEach text result = (words : List ℕ) → AreWords words → text ≡ listing words → Reads words result

-- what a refusal says of the text: where it leaves the listings; want of memory says nothing
abbrev pub Refuses : List ℕ → ListRefusal → Type 0
Refuses text (Line at) = LeavesAt text at
Refuses text Memory = Unit {0}

-- the answer is that the text leaves the listings here, or that there was no memory
abbrev pub RefusesAt : ℕ → Result Image ListRefusal → Type 0
RefusesAt at (Ok image) = ⊥
RefusesAt at (Err (Line byte)) = byte ≡ at
RefusesAt at (Err Memory) = Unit {0}
