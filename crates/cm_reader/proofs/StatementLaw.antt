-- What the machine does at the first tokens of parts of statements.
use Rattle.std.proofs.Common.{◌≡◌, ℕ, ◌+◌, true, false, List, [], ◌∷◌, ◌++◌, refl, ap, ◌∙◌, Option, None, Some}
use Rattle.std.specs.Prelude.{nat_le}
use Rattle.std.proofs.lemmas.Bool.{false≢true}
use Rattle.cm_syntax.specs.declared.name.Name.{Name}
use Rattle.cm_syntax.specs.declared.expr.Expr.{Expr}
use Rattle.cm_syntax.specs.declared.stmt.Target.TheVariants as target
use Rattle.cm_syntax.specs.declared.stmt.Stmt.{Stmt}
use Rattle.cm_syntax.specs.declared.stmt.Stmt.TheVariants as statement
use Rattle.cm_syntax.specs.declared.token.Keyword.TheVariants as keyword
use Rattle.cm_syntax.specs.declared.token.Sign.TheVariants as sign
use Rattle.cm_syntax.specs.Token.{Token}
use Rattle.cm_syntax.specs.ParseTree.{Mark, Offset}
use Rattle.cm_syntax.specs.Yield.{Quantity}
use Rattle.cm_syntax.specs.Parser.{State, Next, goes, stops, value, declaration, with_semicolon, parenthesized, body, for_parts, split_parts, spawned, plain_step, simple_step}
use Rattle.cm_reader.specs.declared.token.LocatedToken.{LocatedToken}
use Rattle.cm_reader.specs.declared.start.StatementStart.{StatementStart}
use Rattle.cm_reader.specs.declared.start.StatementStart.TheVariants as start
use Rattle.cm_reader.specs.declared.start.FlatStart.TheVariants as flat
use Rattle.cm_reader.specs.Next.{token_of, is_next, is_next_word, next_offset, statement_start, token_statement}
use Rattle.cm_reader.specs.Read.{answer, Goes, TakesName, TakesNameToken, if_parts}
use Rattle.cm_reader.proofs.StepLaw.{step_same}

-- ---- a statement by what it begins with

-- what a statement goes on to by what it begins with
abbrev pub plain_next : StatementStart → Token → Offset → (d inner : ℕ) → (Stmt Name → State) → Next
plain_next start.Block token at d inner k = goes (Quantity.depth d) (State.statements inner [] (λ inside close. k (statement.Block inside)))
plain_next start.If token at d inner k = goes (Quantity.depth d) (if_parts d k)
plain_next start.While token at d inner k = goes (Quantity.depth d) (parenthesized (λ test. body d (λ inside. k (statement.While test inside))))
plain_next start.For token at d inner k = goes (Quantity.depth d) (for_parts d k)
plain_next start.Split token at d inner k = goes (Quantity.depth d) (split_parts d k)
plain_next (start.Flat flat.Name) token at d inner k = plain_step token at d inner k
plain_next (start.Flat flat.Empty) token at d inner k = goes (Quantity.depth d) (k statement.Empty)
plain_next (start.Flat flat.Return) token at d inner k =
    goes (Quantity.depth d) (State.optional_value (λ given. with_semicolon k (statement.Return at given)))
plain_next (start.Flat flat.Print) token at d inner k = goes (Quantity.depth d) (parenthesized (λ e. with_semicolon k (statement.Print e)))
plain_next (start.Flat flat.Sync) token at d inner k = goes (Quantity.depth d) (with_semicolon k (statement.Sync at))
plain_next (start.Flat flat.Spawn) token at d inner k = goes (Quantity.depth d) (spawned at None k)
plain_next (start.Flat flat.Simple) token at d inner k = simple_step token at (Quantity.depth d) (with_semicolon k)

plain_by_start : (token : Token) (at d inner : ℕ) (k : Stmt Name → State) → plain_step token at d inner k ≡ plain_next (token_statement token) token at d inner k
plain_by_start (Token.name x) at d inner k = refl
plain_by_start (Token.sign sign.BraceOpen) at d inner k = refl
plain_by_start (Token.sign sign.Semicolon) at d inner k = refl
plain_by_start (Token.sign _) at d inner k = refl
plain_by_start (Token.keyword keyword.If) at d inner k = refl
plain_by_start (Token.keyword keyword.While) at d inner k = refl
plain_by_start (Token.keyword keyword.For) at d inner k = refl
plain_by_start (Token.keyword keyword.Split) at d inner k = refl
plain_by_start (Token.keyword keyword.Return) at d inner k = refl
plain_by_start (Token.keyword keyword.Print) at d inner k = refl
plain_by_start (Token.keyword keyword.Sync) at d inner k = refl
plain_by_start (Token.keyword keyword.Spawn) at d inner k = refl
plain_by_start (Token.keyword _) at d inner k = refl
plain_by_start (Token.number n) at d inner k = refl
plain_by_start Token.unfit at d inner k = refl

-- a statement that begins with a token of its own
pub plain_goes : (d inner : ℕ) (k : Stmt Name → State) (tokens : List LocatedToken) (begins : StatementStart) (next : State) → statement_start tokens ≡ begins →
    ((token : Token) → plain_next begins token (next_offset tokens) d inner k ≡ goes (Quantity.depth d) next) → Goes (State.plain d inner k) tokens (nat_le d 64) next
plain_goes d inner k [] begins next same takes =
    let absent : stops ≡ goes (Quantity.depth d) next = ap (λ s. plain_next s Token.unfit 0 d inner k) same ∙ takes Token.unfit in absurd (cc)
plain_goes d inner k (t ∷ tokens) begins next same takes =
    (Quantity.depth d, plain_by_start (token_of t.token) t.at d inner k ∙ (ap (λ s. plain_next s (token_of t.token) t.at d inner k) same ∙ takes (token_of t.token)), refl)

pub plain_takes_name : (d inner : ℕ) (k : Stmt Name → State) (tokens : List LocatedToken) → statement_start tokens ≡ start.Flat flat.Name →
    TakesName (State.plain d inner k) tokens (nat_le d 64) (λ x. State.plain_name x k)
plain_takes_name d inner k [] same = refl
plain_takes_name d inner k (t ∷ tokens) same = by_token (token_of t.token) same
  where
    by_token : (token : Token) → token_statement token ≡ start.Flat flat.Name → TakesNameToken (State.plain d inner k) token t.at (nat_le d 64) (λ x. State.plain_name x k)
    by_token (Token.name x) same = (Quantity.depth d, refl, refl)
    by_token (Token.sign sign.BraceOpen) same = absurd (cc)
    by_token (Token.sign sign.Semicolon) same = absurd (cc)
    by_token (Token.sign _) same = absurd (cc)
    by_token (Token.keyword keyword.If) same = absurd (cc)
    by_token (Token.keyword keyword.While) same = absurd (cc)
    by_token (Token.keyword keyword.For) same = absurd (cc)
    by_token (Token.keyword keyword.Split) same = absurd (cc)
    by_token (Token.keyword keyword.Return) same = absurd (cc)
    by_token (Token.keyword keyword.Print) same = absurd (cc)
    by_token (Token.keyword keyword.Sync) same = absurd (cc)
    by_token (Token.keyword keyword.Spawn) same = absurd (cc)
    by_token (Token.keyword _) same = refl
    by_token (Token.number n) same = refl
    by_token Token.unfit same = refl

pub plain_simple_same : (length d inner : ℕ) (k : Stmt Name → State) (tokens : List LocatedToken) → statement_start tokens ≡ start.Flat flat.Simple →
    answer length (State.plain d inner k) tokens ≡ answer length (State.simple (Quantity.depth d) (with_semicolon k)) tokens
plain_simple_same length d inner k [] same = refl
plain_simple_same length d inner k (t ∷ tokens) same =
    step_same length (State.plain d inner k) (State.simple (Quantity.depth d) (with_semicolon k)) t tokens
    (plain_by_start (token_of t.token) t.at d inner k ∙ ap (λ s. plain_next s (token_of t.token) t.at d inner k) same)

-- ---- what follows a name

pub destination_goes : (x : Mark) (k : Stmt Name → State) (tokens : List LocatedToken) → is_next sign.Assign tokens ≡ true →
    Goes (State.plain_name x k) tokens true (State.destination x k)
destination_goes x k [] h = absurd (false≢true h)
destination_goes x k (t ∷ tokens) h = (Quantity.nothing, rw h refl, refl)

pub named_simple_same : (length : ℕ) (x : Mark) (k : Stmt Name → State) (tokens : List LocatedToken) → is_next sign.Assign tokens ≡ false →
    answer length (State.plain_name x k) tokens ≡ answer length (State.simple_name x (with_semicolon k)) tokens
named_simple_same length x k [] absent = refl
named_simple_same length x k (t ∷ tokens) absent = rw absent refl

pub spawn_into_goes : (x : Mark) (k : Stmt Name → State) (tokens : List LocatedToken) → is_next_word keyword.Spawn tokens ≡ true →
    Goes (State.destination x k) tokens true (spawned (next_offset tokens) (Some x) k)
spawn_into_goes x k [] h = absurd (false≢true h)
spawn_into_goes x k (t ∷ tokens) h = (Quantity.nothing, rw h refl, refl)

pub assigned_value_same : (length : ℕ) (x : Mark) (k : Stmt Name → State) (tokens : List LocatedToken) → is_next_word keyword.Spawn tokens ≡ false →
    answer length (State.destination x k) tokens ≡ answer length (value (λ e. with_semicolon k (statement.Assign (target.Scalar x) None e))) tokens
assigned_value_same length x k [] absent = refl
assigned_value_same length x k (t ∷ tokens) absent = rw absent refl

-- ---- optional parts

pub no_value_same : (length : ℕ) (k : Option (Expr Name) → State) (tokens : List LocatedToken) → is_next sign.Semicolon tokens ≡ true →
    answer length (State.optional_value k) tokens ≡ answer length (k None) tokens
no_value_same length k [] h = absurd (false≢true h)
no_value_same length k (t ∷ tokens) h = rw h refl

pub some_value_same : (length : ℕ) (k : Option (Expr Name) → State) (tokens : List LocatedToken) → is_next sign.Semicolon tokens ≡ false →
    answer length (State.optional_value k) tokens ≡ answer length (value (λ e. k (Some e))) tokens
some_value_same length k [] absent = refl
some_value_same length k (t ∷ tokens) absent = rw absent refl

pub no_first_same : (length : ℕ) (k : Stmt Name → State) (tokens : List LocatedToken) → is_next sign.Semicolon tokens ≡ true →
    answer length (State.first_part k) tokens ≡ answer length (k statement.Empty) tokens
no_first_same length k [] h = absurd (false≢true h)
no_first_same length k (t ∷ tokens) h = rw h refl

pub first_declaration_goes : (k : Stmt Name → State) (tokens : List LocatedToken) → is_next sign.Semicolon tokens ≡ false → is_next_word keyword.Int tokens ≡ true →
    Goes (State.first_part k) tokens true (declaration k)
first_declaration_goes k [] absent h = absurd (false≢true h)
first_declaration_goes k (t ∷ tokens) absent h = (Quantity.nothing, rw (absent, h) refl, refl)

pub first_simple_same : (length : ℕ) (k : Stmt Name → State) (tokens : List LocatedToken) → is_next sign.Semicolon tokens ≡ false → is_next_word keyword.Int tokens ≡ false →
    answer length (State.first_part k) tokens ≡ answer length (State.simple Quantity.nothing k) tokens
first_simple_same length k [] absent none = refl
first_simple_same length k (t ∷ tokens) absent none = rw (absent, none) refl

pub no_last_same : (length : ℕ) (k : Stmt Name → State) (tokens : List LocatedToken) → is_next sign.ParenClose tokens ≡ true →
    answer length (State.last_part k) tokens ≡ answer length (k statement.Empty) tokens
no_last_same length k [] h = absurd (false≢true h)
no_last_same length k (t ∷ tokens) h = rw h refl

pub last_simple_same : (length : ℕ) (k : Stmt Name → State) (tokens : List LocatedToken) → is_next sign.ParenClose tokens ≡ false →
    answer length (State.last_part k) tokens ≡ answer length (State.simple Quantity.nothing k) tokens
last_simple_same length k [] absent = refl
last_simple_same length k (t ∷ tokens) absent = rw absent refl

-- ---- statements with statements in them

pub else_goes : (d : ℕ) (test : Expr Name) (chosen : Stmt Name) (k : Stmt Name → State) (tokens : List LocatedToken) → is_next_word keyword.Else tokens ≡ true →
    Goes (State.otherwise d test chosen k) tokens true (body d (λ other. k (statement.If test chosen (Some other))))
else_goes d test chosen k [] h = absurd (false≢true h)
else_goes d test chosen k (t ∷ tokens) h = (Quantity.nothing, rw h refl, refl)

pub no_else_same : (length d : ℕ) (test : Expr Name) (chosen : Stmt Name) (k : Stmt Name → State) (tokens : List LocatedToken) → is_next_word keyword.Else tokens ≡ false →
    answer length (State.otherwise d test chosen k) tokens ≡ answer length (k (statement.If test chosen None)) tokens
no_else_same length d test chosen k [] absent = refl
no_else_same length d test chosen k (t ∷ tokens) absent = rw absent refl

pub close_goes : (d : ℕ) (before : List (Stmt Name)) (k : List (Stmt Name) → Offset → State) (tokens : List LocatedToken) → is_next sign.BraceClose tokens ≡ true →
    Goes (State.statements d before k) tokens true (k before (next_offset tokens))
close_goes d before k [] h = absurd (false≢true h)
close_goes d before k (t ∷ tokens) h = (Quantity.nothing, rw h refl, refl)

pub declaration_goes : (d : ℕ) (before : List (Stmt Name)) (k : List (Stmt Name) → Offset → State) (tokens : List LocatedToken) → is_next sign.BraceClose tokens ≡ false →
    is_next_word keyword.Int tokens ≡ true →
    Goes (State.statements d before k) tokens (nat_le d 64) (declaration (with_semicolon (λ s. State.statements d (before ++ s ∷ []) k)))
declaration_goes d before k [] absent h = absurd (false≢true h)
declaration_goes d before k (t ∷ tokens) absent h = (Quantity.depth d, rw (absent, h) refl, refl)

pub plain_same : (length d : ℕ) (before : List (Stmt Name)) (k : List (Stmt Name) → Offset → State) (tokens : List LocatedToken) → is_next sign.BraceClose tokens ≡ false →
    is_next_word keyword.Int tokens ≡ false →
    answer length (State.statements d before k) tokens ≡ answer length (State.plain d (d + 1) (λ s. State.statements d (before ++ s ∷ []) k)) tokens
plain_same length d before k [] absent none = refl
plain_same length d before k (t ∷ tokens) absent none = rw (absent, none) refl
