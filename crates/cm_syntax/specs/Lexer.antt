-- A reader of tokens from the front of a text. It is no definition of the language's tokens, which `Token.antt` has: it
-- is proved to agree with them (`proofs/Lexing.antt`), and the reader's code is proved to agree with it.
use Rattle.std.specs.Prelude.{ℕ, zero, suc, ◌+◌, Bool, false, not, ◌&&◌, ◌||◌, ◌==◌, if◌then◌else◌, List, [], ◌∷◌, length, take, drop, slice_index, Option, None, Some}
use Rattle.std.specs.List.{list_all, find}
use Rattle.std.specs.Char.{is_ascii_digit}
use Rattle.std.specs.Str.Parse.{digits_value}
use Rattle.cm_syntax.specs.declared.token.Keyword.{Keyword}
use Rattle.cm_syntax.specs.declared.token.Keyword.TheVariants as word
use Rattle.cm_syntax.specs.declared.token.Sign.{Sign}
use Rattle.cm_syntax.specs.declared.token.Sign.TheVariants as sign
use Rattle.cm_syntax.specs.Text.{is_space, is_letter, is_word_byte, is_same, keyword_text, sign_text}
use Rattle.cm_syntax.specs.Token.{Token, LocatedToken, begins, is_reserved}

-- ---- texts of words and signs

-- all words of the language
abbrev pub all_keywords : List Keyword
all_keywords = word.Int ∷ word.Void ∷ word.Cilk ∷ word.Spawn ∷ word.Sync ∷ word.If ∷ word.Else ∷ word.While ∷ word.For ∷ word.Return ∷ word.Print ∷ word.Input ∷ word.Inputs ∷ word.Len ∷ word.Split ∷ word.At ∷ word.As ∷ []

-- all signs, the longest first
abbrev pub all_signs : List Sign
all_signs =
    sign.ShiftLeftAssign ∷ sign.ShiftRightAssign ∷ sign.ShiftLeft ∷ sign.ShiftRight ∷ sign.LessEqual ∷ sign.GreaterEqual ∷
    sign.Equal ∷ sign.NotEqual ∷ sign.AndAnd ∷ sign.OrOr ∷ sign.PlusAssign ∷ sign.MinusAssign ∷
    sign.StarAssign ∷ sign.SlashAssign ∷ sign.PercentAssign ∷ sign.AndAssign ∷ sign.CaretAssign ∷ sign.OrAssign ∷
    sign.PlusPlus ∷ sign.MinusMinus ∷ sign.Plus ∷ sign.Minus ∷ sign.Star ∷ sign.Slash ∷
    sign.Percent ∷ sign.Less ∷ sign.Greater ∷ sign.Assign ∷ sign.Exclamation ∷ sign.Tilde ∷
    sign.Ampersand ∷ sign.Caret ∷ sign.Bar ∷ sign.ParenOpen ∷ sign.ParenClose ∷ sign.BraceOpen ∷
    sign.BraceClose ∷ sign.BracketOpen ∷ sign.BracketClose ∷ sign.Comma ∷ sign.Semicolon ∷ []

-- the word that is written so
abbrev pub keyword_written : List ℕ → Option Keyword
keyword_written text = find (λ k. is_same (keyword_text k) text) all_keywords

-- the sign that is written so
abbrev pub sign_written : List ℕ → Option Sign
sign_written text = find (λ s. is_same (sign_text s) text) all_signs

-- ---- the bytes at the front that pass a test, and the others

-- the bytes up to the first that doesn't pass
abbrev pub front : (ℕ → Bool) → List ℕ → List ℕ
front test [] = []
front test (b ∷ bytes) = if test b then b ∷ front test bytes else []

-- the bytes from the first on that doesn't pass
abbrev pub behind : (ℕ → Bool) → List ℕ → List ℕ
behind test [] = []
behind test (b ∷ bytes) = if test b then behind test bytes else b ∷ bytes

-- ---- a run of letters, digits and `_`

-- `0`, or digits that don't begin with `0`
abbrev pub is_number : List ℕ → Bool
is_number text = list_all is_ascii_digit text && (not (slice_index text 0 == 48) || length text == 1)

-- a word that is set aside, a name or a number
abbrev pub run_without_keyword : List ℕ → Option Token
run_without_keyword text =
    if begins is_letter text then (if is_reserved text then Some Token.unfit else Some (Token.name text))
    else (if is_number text then Some (Token.number (digits_value 10 text)) else None)

-- a word of the language, or another run
abbrev pub run_by : Option Keyword → List ℕ → Option Token
run_by (Some k) text = Some (Token.keyword k)
run_by None text = run_without_keyword text

-- the token of a run, where it is one
abbrev pub run_token : List ℕ → Option Token
run_token text = run_by (keyword_written text) text

-- ---- signs

-- the first, where there is one
abbrev pub first_of_two : Option Sign → Option Sign → Option Sign
first_of_two (Some s) other = Some s
first_of_two None other = other

-- the longest sign at the front
abbrev pub sign_there : List ℕ → Option Sign
sign_there bytes = first_of_two (sign_written (take 3 bytes)) (first_of_two (sign_written (take 2 bytes)) (sign_written (take 1 bytes)))

-- ---- comments

-- a byte that is no line feed
abbrev pub in_line : ℕ → Bool
in_line byte = not (byte == 10)

-- these two bytes stand at the front
abbrev pub is_pair : (x y : ℕ) → List ℕ → Bool
is_pair x y [] = false
is_pair x y (a ∷ []) = false
is_pair x y (a ∷ b ∷ bytes) = a == x && b == y

-- `//` stands at the front
abbrev pub opens_line : List ℕ → Bool
opens_line bytes = is_pair 47 47 bytes

-- `/*` stands at the front
abbrev pub opens_block : List ℕ → Bool
opens_block bytes = is_pair 47 42 bytes

-- `*/`, the end of a block comment, stands at the front
abbrev pub closes : List ℕ → Bool
closes bytes = is_pair 42 47 bytes

-- the end of a block comment stands somewhere
abbrev pub has_end : List ℕ → Bool
has_end [] = false
has_end (b ∷ bytes) = closes (b ∷ bytes) || has_end bytes

-- what stands before the first end
abbrev pub before_end : List ℕ → List ℕ
before_end [] = []
before_end (b ∷ bytes) = if closes (b ∷ bytes) then [] else b ∷ before_end bytes

-- what stands behind the first end
abbrev pub behind_end : List ℕ → List ℕ
behind_end [] = []
behind_end (b ∷ bytes) = if closes (b ∷ bytes) then drop 2 (b ∷ bytes) else behind_end bytes

-- ---- what stands next

-- so many bytes of white space or of a comment; a token of so many bytes; or a byte that begins nothing
pub data Next : Type 0 where
  skips : ℕ → Next
  finds : Token → ℕ → Next
  fails : Next

-- a run of so many bytes
abbrev pub run_next : Option Token → ℕ → Next
run_next (Some t) n = finds t n
run_next None n = fails

-- a sign, or nothing
abbrev pub sign_next : Option Sign → Next
sign_next (Some s) = finds (Token.sign s) (length (sign_text s))
sign_next None = fails

-- the bytes of a line comment
abbrev pub line_length : List ℕ → ℕ
line_length bytes = 2 + length (front in_line (drop 2 bytes))

-- the bytes of a block comment that has an end
abbrev pub block_length : List ℕ → ℕ
block_length bytes = 2 + (length (before_end (drop 2 bytes)) + 2)

-- what stands at the front of bytes, of which there are some
abbrev pub next : List ℕ → Next
next bytes =
    if begins is_space bytes then skips 1
    else (if opens_line bytes then skips (line_length bytes)
    else (if opens_block bytes then (if has_end (drop 2 bytes) then skips (block_length bytes) else fails)
    else (if begins is_word_byte bytes then run_next (run_token (front is_word_byte bytes)) (length (front is_word_byte bytes))
    else sign_next (sign_there bytes))))

-- ---- the whole list

-- what stands next, and the tokens behind so many bytes
abbrev pub followed : Next → (at : ℕ) → (ℕ → List LocatedToken) → List LocatedToken
followed (skips n) at more = more n
followed (finds t n) at more = record { token = t; at = at } ∷ more n
followed fails at more = record { token = Token.unfit; at = at } ∷ []

-- the tokens of the bytes from this offset on, in at most so many steps
abbrev pub lexed : (steps at : ℕ) → List ℕ → List LocatedToken
lexed zero at bytes = []
lexed (suc steps) at [] = []
lexed (suc steps) at (b ∷ bytes) = followed (next (b ∷ bytes)) at (λ n. lexed steps (at + n) (drop n (b ∷ bytes)))
