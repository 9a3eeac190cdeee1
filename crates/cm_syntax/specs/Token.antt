-- Tokens of source text, with the white space and the comments between them. The longest token that fits stands
-- at an offset; an offset is the number of bytes before it.
use Rattle.std.specs.Prelude.{◌≡◌, ◌≢◌, ℕ, ◌+◌, ◌≤◌, Bool, true, false, not, ◌==◌, List, [], ◌∷◌, ◌++◌, length, slice_index, ◌⊎◌, ⊤, codes}
use Rattle.std.specs.Char.{is_ascii_digit}
use Rattle.std.specs.List.{list_all, list_any}
use Rattle.std.specs.Str.Parse.{digits_value}
use Rattle.cm_syntax.specs.declared.token.Keyword.{Keyword}
use Rattle.cm_syntax.specs.declared.token.Sign.{Sign}
use Rattle.cm_syntax.specs.Text.{is_space, is_letter, is_word_byte, is_same, keyword_text, reserved_words, sign_text}

-- What a token is. `unfit` fits nowhere: a word that is set aside, or a byte that begins no token.
pub data Token : Type 0 where
  keyword : Keyword → Token
  sign : Sign → Token
  name : List ℕ → Token
  number : ℕ → Token
  unfit : Token

-- a token and its offset
pub record LocatedToken : Type 0 where
  pub token : Token
  pub at : ℕ

abbrev pub token_at : Token → ℕ → LocatedToken
token_at token at = record { token = token; at = at }

-- the text doesn't begin with a byte that passes the test
abbrev pub DoesNotBegin : (ℕ → Bool) → List ℕ → Type 0
DoesNotBegin test [] = ⊤
DoesNotBegin test (byte ∷ bytes) = test byte ≡ false

-- the text begins with a byte that passes the test
abbrev pub begins : (ℕ → Bool) → List ℕ → Bool
begins test [] = false
begins test (byte ∷ bytes) = test byte

-- ---- how a token is spelled

abbrev pub is_reserved : List ℕ → Bool
is_reserved text = list_any (is_same text) reserved_words

-- a letter or `_`, then letters, digits and `_`; no word of the language and none that is set aside
pub record IsName (text : List ℕ) : Type 0 where
  pub begins_so : begins is_letter text ≡ true
  pub word : list_all is_word_byte text ≡ true
  pub free : (k : Keyword) → text ≢ keyword_text k
  pub not_reserved : is_reserved text ≡ false

-- `0`, or digits that don't begin with `0`, and their value
pub record IsNumber (text : List ℕ) (value : ℕ) : Type 0 where
  pub begins_so : begins is_ascii_digit text ≡ true
  pub digits : list_all is_ascii_digit text ≡ true
  pub plain : slice_index text 0 ≡ 48 → length text ≡ 1
  pub same : value ≡ digits_value 10 text

-- the text is written as this token is
abbrev pub Spells : Token → List ℕ → Type 0
Spells (keyword k) text = text ≡ keyword_text k
Spells (sign s) text = text ≡ sign_text s
Spells (name bytes) text = (text ≡ bytes) × IsName text
Spells (number n) text = IsNumber text n
Spells unfit text = is_reserved text ≡ true

-- No letter, digit or `_` follows a number at once.
abbrev pub IsApart : Token → (rest : List ℕ) → Type 0
IsApart (number n) rest = DoesNotBegin is_word_byte rest
IsApart _ rest = ⊤

-- ---- comments

-- `//` and what follows it in its line: a line feed or the end of the text follows, and isn't in it
pub record IsLineComment (text rest : List ℕ) : Type 0 where
  pub line : List ℕ
  pub opens : text ≡ codes "//" ++ line
  pub one_line : list_all (λ byte. not (byte == 10)) line ≡ true
  pub ends : DoesNotBegin (λ byte. not (byte == 10)) rest

-- `/*` and what follows it up to the next `*/`: whichever `*/` stands behind the `/*`, nothing of the comment follows it
pub record IsBlockComment (text : List ℕ) : Type 0 where
  pub inside : List ℕ
  pub opens : text ≡ codes "/*" ++ (inside ++ codes "*/")
  pub first : (front behind : List ℕ) → inside ++ codes "*/" ≡ front ++ (codes "*/" ++ behind) → behind ≡ []

-- the text is a comment, before this rest
abbrev pub IsComment : (text rest : List ℕ) → Type 0
IsComment text rest = IsLineComment text rest ⊎ IsBlockComment text

-- a comment begins, whether it is closed or not
abbrev pub OpensComment : List ℕ → Type 0
OpensComment bytes = (rest : List ℕ) × ((bytes ≡ codes "//" ++ rest) ⊎ (bytes ≡ codes "/*" ++ rest))

-- ---- tokens in a text

-- The bytes begin with this token, whose text is the longest that any token has there, and rest follows.
pub record IsFirstToken (bytes : List ℕ) (token : Token) (text rest : List ℕ) : Type 0 where
  pub parts : bytes ≡ text ++ rest
  pub spelled : Spells token text
  pub longest : (other : Token) (longer less : List ℕ) → Spells other longer → bytes ≡ longer ++ less → length longer ≤ length text
  pub apart : IsApart token rest
  pub no_comment : OpensComment bytes → ⊥

-- The bytes begin with no white space, no comment and no token, and there are some.
pub record IsFaulty (bytes : List ℕ) : Type 0 where
  pub some : bytes ≢ []
  pub no_space : DoesNotBegin is_space bytes
  pub no_comment : (text rest : List ℕ) → bytes ≡ text ++ rest → IsComment text rest → ⊥
  pub no_token : (token : Token) (text rest : List ℕ) → IsFirstToken bytes token text rest → ⊥

-- The tokens of the bytes, the first of which has this offset. White space and comments are passed over. A byte
-- that begins no token is the last thing in the list, and fits nowhere.
pub data Tokens : (at : ℕ) → List ℕ → List LocatedToken → Type 0 where
  end : {at : ℕ} → Tokens at [] []
  space : {at byte : ℕ} {bytes : List ℕ} {tokens : List LocatedToken} →
      is_space byte ≡ true → Tokens (at + 1) bytes tokens → Tokens at (byte ∷ bytes) tokens
  comment : {at : ℕ} {bytes text rest : List ℕ} {tokens : List LocatedToken} →
      bytes ≡ text ++ rest → IsComment text rest → Tokens (at + length text) rest tokens → Tokens at bytes tokens
  token : {at : ℕ} {token : Token} {bytes text rest : List ℕ} {tokens : List LocatedToken} →
      IsFirstToken bytes token text rest → Tokens (at + length text) rest tokens →
      Tokens at bytes (record { token = token; at = at } ∷ tokens)
  fault : {at : ℕ} {bytes : List ℕ} → IsFaulty bytes → Tokens at bytes (record { token = unfit; at = at } ∷ [])
