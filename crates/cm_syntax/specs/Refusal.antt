-- Where a source text is refused: at the first token with which no program begins, or where a limit is passed.
use Rattle.std.specs.Prelude.{◌≡◌, ℕ, ◌-◌, ◌≤◌, ◌<◌, Bool, true, false, ◌⊎◌, List, [], ◌∷◌, ◌++◌, length, count_by}
use Rattle.cm_syntax.specs.declared.token.Sign.TheVariants as sign
use Rattle.cm_syntax.specs.declared.stmt.Tree.{Tree}
use Rattle.cm_syntax.specs.Token.{Token, LocatedToken, Tokens}
use Rattle.cm_syntax.specs.ParseTree as grammar
use Rattle.cm_syntax.specs.Yield.{Quantity, CountedToken, program_tokens, located_tokens}
use Rattle.cm_syntax.specs.Grammar.{IsSourceOf}
use Rattle.cm_syntax.specs.Limit.{max_source_bytes, max_depth, max_open_brackets, max_operators, max_literal, max_array_words}

-- the tokens are those of a program, whatever its size
abbrev pub IsProgram : List LocatedToken → Type 0
IsProgram tokens = (source : grammar.Program) × (located_tokens (program_tokens source) ≡ tokens)

-- some program begins with the tokens, whatever its size
abbrev pub BeginsProgram : List LocatedToken → Type 0
BeginsProgram tokens = (more : List LocatedToken) × IsProgram (tokens ++ more)

-- ---- syntax

-- A program begins with the tokens before this offset, and none with the token that stands there as well.
pub record StopsAtToken (bytes : List ℕ) (at : ℕ) : Type 0 where
  pub before : List LocatedToken
  pub token : LocatedToken
  pub after : List LocatedToken
  pub read : Tokens 0 bytes (before ++ token ∷ after)
  pub offset : at ≡ token.at
  pub so_far : BeginsProgram before
  pub no_further : BeginsProgram (before ++ token ∷ []) → ⊥

-- A program begins with all the tokens, but they are none: the offset is the length.
pub record StopsAtEnd (bytes : List ℕ) (at : ℕ) : Type 0 where
  pub tokens : List LocatedToken
  pub read : Tokens 0 bytes tokens
  pub offset : at ≡ length bytes
  pub so_far : BeginsProgram tokens
  pub unfinished : IsProgram tokens → ⊥

abbrev pub Syntax : (bytes : List ℕ) → (at : ℕ) → Type 0
Syntax bytes at = StopsAtToken bytes at ⊎ StopsAtEnd bytes at

-- ---- sizes

-- what is counted at a token is more than its limit; an array of no words is refused too
abbrev pub IsTooMuch : Quantity → Type 0
IsTooMuch Quantity.nothing = ⊥
IsTooMuch (Quantity.depth d) = max_depth < d
IsTooMuch (Quantity.operators n) = max_operators < n
IsTooMuch (Quantity.literal value) = max_literal < value
IsTooMuch (Quantity.words n) = (n ≡ 0) ⊎ (max_array_words < n)

-- `(` or `[`
abbrev pub is_opening : Token → Bool
is_opening (Token.sign sign.ParenOpen) = true
is_opening (Token.sign sign.BracketOpen) = true
is_opening _ = false

-- `)` or `]`
abbrev pub is_closing : Token → Bool
is_closing (Token.sign sign.ParenClose) = true
is_closing (Token.sign sign.BracketClose) = true
is_closing _ = false

-- How many brackets are open after the tokens. In front of a statement none is, so this counts from the beginning
-- of the statement. Of a function's head at most two are counted, which is no refusal.
abbrev pub open_brackets : List LocatedToken → ℕ
open_brackets tokens = count_by (λ t. is_opening t.token) tokens - count_by (λ t. is_closing t.token) tokens

-- the 65th bracket that is open at once
abbrev pub IsTooNested : (before : List LocatedToken) → LocatedToken → Type 0
IsTooNested before token = (is_opening token.token ≡ true) × (max_open_brackets < open_brackets (before ++ token ∷ []))

-- A program begins with the tokens up to this offset, whatever its size, and what is counted at the token that
-- stands there is more than its limit.
pub record Exceeds (bytes : List ℕ) (at : ℕ) : Type 0 where
  pub before : List CountedToken
  pub token : CountedToken
  pub after : List LocatedToken
  pub read : Tokens 0 bytes (located_tokens before ++ token.located ∷ after)
  pub offset : at ≡ token.located.at
  pub source : grammar.Program
  pub more : List CountedToken
  pub begins : program_tokens source ≡ before ++ token ∷ more
  pub much : IsTooMuch token.quantity ⊎ IsTooNested (located_tokens before) token.located

-- A limit is passed at this offset; that of the source's length is passed behind its last byte that may be read.
abbrev pub Size : (bytes : List ℕ) → (at : ℕ) → Type 0
Size bytes at = Exceeds bytes at ⊎ ((at ≡ max_source_bytes) × (max_source_bytes < length bytes))

-- ---- the answer

pub data Refusal : Type 0 where
  syntax_ : Refusal
  size : Refusal

abbrev pub IsRefused : (bytes : List ℕ) → Refusal → (at : ℕ) → Type 0
IsRefused bytes syntax_ at = Syntax bytes at
IsRefused bytes size at = Size bytes at

-- The least refused offset is answered, and at one offset a size stands before syntax.
pub record IsAnswer (bytes : List ℕ) (refusal : Refusal) (at : ℕ) : Type 0 where
  pub refused : IsRefused bytes refusal at
  pub least : (other : Refusal) (offset : ℕ) → IsRefused bytes other offset → at ≤ offset
  pub size_first : refusal ≡ syntax_ → Size bytes at → ⊥

-- no offset is refused
abbrev pub HasNoRefusal : (bytes : List ℕ) → Type 0
HasNoRefusal bytes = (refusal : Refusal) (at : ℕ) → IsRefused bytes refusal at → ⊥

-- the tree of a source that has no refused offset
abbrev pub IsSoundTree : Tree → Type 0
IsSoundTree tree = (bytes : List ℕ) × IsSourceOf bytes tree × HasNoRefusal bytes
