-- The numbers of standard input: the pieces behind the line of `%%`.
use Rattle.std.specs.Prelude.{◌≡◌, ℕ, ◌+◌, ◌<◌, ◌≤◌, ℤ, Bool, true, false, ◌||◌, ◌==◌, if◌then◌else◌, List, [], ◌∷◌, ◌++◌, length, drop, map}
use Rattle.cm_text.specs.Numeral.{IsNumber, number_value}
use Rattle.cm_meaning.specs.Range.{max_input_numbers}
use Rattle.cilkm.specs.declared.pieces.PieceStop.{PieceStop}
use Rattle.cilkm.specs.declared.pieces.PieceStop.TheVariants as stop

-- the byte is a space, a tab, a line feed or a carriage return
abbrev pub is_separator : ℕ → Bool
is_separator byte = byte == 32 || (byte == 9 || (byte == 10 || byte == 13))

-- a piece: its bytes, and how many bytes stand before it
pub record Piece : Type 0 where
  pub at : ℕ
  pub bytes : List ℕ

-- the bytes up to the first separator, or all of them
abbrev pub up_to_separator : List ℕ → List ℕ
up_to_separator [] = []
up_to_separator (byte ∷ more) = if is_separator byte then [] else byte ∷ up_to_separator more

-- The pieces of a text, before which so many bytes stand, and a separator (or nothing at all) where it is apart. A
-- piece begins at each byte that is no separator and stands first or behind a separator, and goes up to the next
-- separator or the end.
abbrev pub pieces : (at : ℕ) → (apart : Bool) → List ℕ → List Piece
pieces at apart [] = []
pieces at apart (byte ∷ more) =
    if is_separator byte then pieces (at + 1) true more
    else if apart then record { at = at; bytes = up_to_separator (byte ∷ more) } ∷ pieces (at + 1) false more
    else pieces (at + 1) false more

-- The pieces of standard input with this source: those behind the two percent signs of the line that ends the source,
-- whose own end is made of separators. There are none where no line ends it.
abbrev pub pieces_behind : (input source : List ℕ) → List Piece
pieces_behind input source = pieces (length source + 2) true (drop (length source + 2) input)

-- each piece is a number
abbrev pub AreNumbers : List Piece → Type 0
AreNumbers [] = Unit {0}
AreNumbers (piece ∷ more) = IsNumber piece.bytes × AreNumbers more

-- the number of a piece
abbrev pub piece_value : Piece → ℤ
piece_value piece = number_value piece.bytes

-- the pieces are numbers, and not too many, and these are their values
pub record HaveValues (all : List Piece) (values : List ℤ) : Type 0 where
  pub each : AreNumbers all
  pub few : length all ≤ max_input_numbers
  pub values_are : values ≡ map piece_value all

-- behind so many numbers the piece is one more, with this value
pub record IsNext (bytes : List ℕ) (count : ℕ) (value : ℤ) : Type 0 where
  pub number : IsNumber bytes
  pub room : count < max_input_numbers
  pub value_is : value ≡ number_value bytes

-- behind so many numbers the piece isn't one more: it is no number, or one too many
abbrev pub IsNotNext : (bytes : List ℕ) → (count : ℕ) → Type 0
IsNotNext bytes count = IsNumber bytes → max_input_numbers ≤ count

-- The first piece that isn't a number, or the first one too many, stands behind so many bytes.
pub record IsWrongAt (all : List Piece) (at : ℕ) : Type 0 where
  pub before : List Piece
  pub wrong : Piece
  pub behind : List Piece
  pub all_are : all ≡ before ++ wrong ∷ behind
  pub offset : at ≡ wrong.at
  pub each : AreNumbers before
  pub few : length before ≤ max_input_numbers
  pub why : IsNotNext wrong.bytes (length before)

-- why the pieces aren't read to the end: one is wrong, or there was no memory
abbrev pub StopsReading : List Piece → PieceStop → Type 0
StopsReading all (stop.Piece at) = IsWrongAt all at
StopsReading all stop.Memory = Unit {0}
