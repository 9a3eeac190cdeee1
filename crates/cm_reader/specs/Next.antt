-- Tokens as the reader holds them, and what is next among them.
use Rattle.std.specs.Prelude.{ℕ, Bool, true, false, List, [], ◌∷◌, Option, None, Some}
use Rattle.cm_syntax.specs.declared.expr.Op.{Op}
use Rattle.cm_syntax.specs.declared.expr.Op.TheVariants as op
use Rattle.cm_syntax.specs.declared.token.Keyword.{Keyword}
use Rattle.cm_syntax.specs.declared.token.Keyword.TheVariants as keyword
use Rattle.cm_syntax.specs.declared.token.Sign.{Sign}
use Rattle.cm_syntax.specs.declared.token.Sign.TheVariants as sign
use Rattle.cm_syntax.specs.Token.{Token}
use Rattle.cm_syntax.specs.Parser.{NestedToken, is_sign, is_word, operator_of, update_operator}
use Rattle.cm_reader.specs.declared.token.Token.{Token as HeldToken}
use Rattle.cm_reader.specs.declared.token.Token.TheVariants as held
use Rattle.cm_reader.specs.declared.token.LocatedToken.{LocatedToken}
use Rattle.cm_reader.specs.declared.start.PrimaryStart.{PrimaryStart}
use Rattle.cm_reader.specs.declared.start.PrimaryStart.TheVariants as primary
use Rattle.cm_reader.specs.declared.start.StatementStart.{StatementStart}
use Rattle.cm_reader.specs.declared.start.StatementStart.TheVariants as statement
use Rattle.cm_reader.specs.declared.start.FlatStart.TheVariants as flat

-- the token of the language
abbrev pub token_of : HeldToken → Token
token_of (held.Keyword k) = Token.keyword k
token_of (held.Sign s) = Token.sign s
token_of (held.Name x) = Token.name x
token_of (held.Number n) = Token.number n
token_of held.Unfit = Token.unfit

-- a token of the machine
abbrev pub nested_of : LocatedToken → NestedToken
nested_of t = record { located = record { token = token_of t.token; at = t.at }; too_nested = t.too_nested }

-- the tokens as the machine takes them
abbrev pub nested : List LocatedToken → List NestedToken
nested [] = []
nested (t ∷ tokens) = nested_of t ∷ nested tokens

-- the sign of a token
abbrev pub token_sign : Token → Option Sign
token_sign (Token.sign s) = Some s
token_sign _ = None

-- the sign that stands next
abbrev pub sign_of : List LocatedToken → Option Sign
sign_of [] = None
sign_of (t ∷ tokens) = token_sign (token_of t.token)

-- whether this sign stands next
abbrev pub is_next : Sign → List LocatedToken → Bool
is_next s [] = false
is_next s (t ∷ tokens) = is_sign s (token_of t.token)

-- whether this word stands next
abbrev pub is_next_word : Keyword → List LocatedToken → Bool
is_next_word k [] = false
is_next_word k (t ∷ tokens) = is_word k (token_of t.token)

-- the offset of the next token, or 0 where there is none
abbrev pub next_offset : List LocatedToken → ℕ
next_offset [] = 0
next_offset (t ∷ tokens) = t.at

-- the binary operator that stands next
abbrev pub binary_operator : List LocatedToken → Option Op
binary_operator [] = None
binary_operator (t ∷ tokens) = operator_of (token_of t.token)

-- the unary operator of a sign
abbrev pub sign_unary_operator : Sign → Option Op
sign_unary_operator sign.Minus = Some op.Neg
sign_unary_operator sign.Exclamation = Some op.Not
sign_unary_operator sign.Tilde = Some op.Flip
sign_unary_operator _ = None

-- the unary operator of a token
abbrev pub token_unary_operator : Token → Option Op
token_unary_operator (Token.sign s) = sign_unary_operator s
token_unary_operator _ = None

-- the unary operator that stands next
abbrev pub unary_operator : List LocatedToken → Option Op
unary_operator [] = None
unary_operator (t ∷ tokens) = token_unary_operator (token_of t.token)

-- what an assignment does by the operator of its sign, and whether its sign is `=`
abbrev pub assignment_of : Option Op → Bool → Option (Option Op)
assignment_of (Some o) plain = Some (Some o)
assignment_of None true = Some None
assignment_of None false = None

-- what an assignment does that has this sign: the operator of an update, or none for `=`
abbrev pub sign_assignment : Sign → Option (Option Op)
sign_assignment s = assignment_of (update_operator s) (is_sign sign.Assign (Token.sign s))

-- what an assignment does that has this token
abbrev pub token_assignment : Token → Option (Option Op)
token_assignment (Token.sign s) = sign_assignment s
token_assignment _ = None

-- what the assignment does whose sign stands next
abbrev pub next_assignment : List LocatedToken → Option (Option Op)
next_assignment [] = None
next_assignment (t ∷ tokens) = token_assignment (token_of t.token)

-- the number that a token is
abbrev pub token_number : Token → Option ℕ
token_number (Token.number n) = Some n
token_number _ = None

-- the number that stands next
abbrev pub next_number : List LocatedToken → Option ℕ
next_number [] = None
next_number (t ∷ tokens) = token_number (token_of t.token)

-- what an operand begins with where its first token is this sign
abbrev pub sign_primary : Sign → PrimaryStart
sign_primary sign.Star = primary.Pointee
sign_primary sign.ParenOpen = primary.Group
sign_primary _ = primary.Nothing

-- what an operand begins with where its first token is this word
abbrev pub word_primary : Keyword → PrimaryStart
word_primary keyword.Len = primary.Len
word_primary keyword.Input = primary.Input
word_primary keyword.Inputs = primary.Inputs
word_primary _ = primary.Nothing

-- what an operand begins with that has no unary operator
abbrev pub token_primary : Token → PrimaryStart
token_primary (Token.number n) = primary.Number n
token_primary (Token.name x) = primary.Name
token_primary (Token.sign s) = sign_primary s
token_primary (Token.keyword k) = word_primary k
token_primary Token.unfit = primary.Nothing

-- what the operand that stands next begins with
abbrev pub primary_start : List LocatedToken → PrimaryStart
primary_start [] = primary.Nothing
primary_start (t ∷ tokens) = token_primary (token_of t.token)

-- what a statement begins with where its first token is this sign
abbrev pub sign_statement : Sign → StatementStart
sign_statement sign.BraceOpen = statement.Block
sign_statement sign.Semicolon = statement.Flat flat.Empty
sign_statement _ = statement.Flat flat.Simple

-- what a statement begins with where its first token is this word
abbrev pub word_statement : Keyword → StatementStart
word_statement keyword.If = statement.If
word_statement keyword.While = statement.While
word_statement keyword.For = statement.For
word_statement keyword.Split = statement.Split
word_statement keyword.Return = statement.Flat flat.Return
word_statement keyword.Print = statement.Flat flat.Print
word_statement keyword.Sync = statement.Flat flat.Sync
word_statement keyword.Spawn = statement.Flat flat.Spawn
word_statement _ = statement.Flat flat.Simple

-- what a statement begins with
abbrev pub token_statement : Token → StatementStart
token_statement (Token.name x) = statement.Flat flat.Name
token_statement (Token.sign s) = sign_statement s
token_statement (Token.keyword k) = word_statement k
token_statement _ = statement.Flat flat.Simple

-- what the statement that stands next begins with
abbrev pub statement_start : List LocatedToken → StatementStart
statement_start [] = statement.Flat flat.Simple
statement_start (t ∷ tokens) = token_statement (token_of t.token)
