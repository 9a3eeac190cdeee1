-- What the machine does at the first tokens of parts of expressions.
use Rattle.std.proofs.Common.{◌≡◌, ℕ, ◌+◌, Bool, true, false, List, [], ◌∷◌, ◌++◌, refl, sym, ap, ◌∙◌, Option, None, Some, pos, arith}
use Rattle.std.specs.Prelude.{nat_lt, nat_le}
use Rattle.std.proofs.lemmas.Bool.{false≢true}
use Rattle.std.proofs.lemmas.Bool.Decides.{nat_tests}
use Rattle.std.proofs.lemmas.Bool.{leb-true}
use Rattle.std.proofs.lemmas.Int.{to_z_pos}
use Rattle.std.proofs.Common.{to_z, w32}
use Rattle.cm_syntax.specs.declared.name.Name.{Name}
use Rattle.cm_syntax.specs.declared.expr.Op.{Op}
use Rattle.cm_syntax.specs.declared.expr.Op.TheVariants as op
use Rattle.cm_syntax.specs.declared.expr.Expr.{Expr}
use Rattle.cm_syntax.specs.declared.expr.Expr.TheVariants as expression
use Rattle.cm_syntax.specs.declared.expr.Arg.{Arg}
use Rattle.cm_syntax.specs.declared.expr.Arg.TheVariants as argument
use Rattle.cm_syntax.specs.declared.token.Keyword.TheVariants as keyword
use Rattle.cm_syntax.specs.declared.token.Sign.TheVariants as sign
use Rattle.cm_syntax.specs.Token.{Token}
use Rattle.cm_syntax.specs.ParseTree.{Mark, Offset, level_of}
use Rattle.cm_syntax.specs.Yield.{Quantity}
use Rattle.cm_syntax.specs.Parser.{State, Next, goes, stops, on, step, is_within, operator_of, operator_step, operand_step, prefix_step, name_step, whole, value, index, call_of, parenthesized, token_answer, run}
use Rattle.cm_reader.specs.declared.token.LocatedToken.{LocatedToken}
use Rattle.cm_reader.specs.declared.start.PrimaryStart.{PrimaryStart}
use Rattle.cm_reader.specs.declared.start.PrimaryStart.TheVariants as primary
use Rattle.cm_reader.specs.Next.{token_of, nested, is_next, unary_operator, token_unary_operator, primary_start, token_primary}
use Rattle.cm_reader.specs.Read.{answer, IsStuck, Goes, TakesName, TakesNameToken, IsOperator, NoOperator, parenthesized_name}
use Rattle.cm_reader.proofs.StepLaw.{step_same}

-- ---- operators

room : (n : ℕ) → nat_le (n + 1) 64 ≡ nat_lt n 64
room n = grind (arith, nat_tests)

pub operator_goes : (level n l : ℕ) (e : Expr Name) (k : Expr Name → ℕ → State) (o : Op) (tokens : List LocatedToken) → l ≡ level_of o → IsOperator level o tokens →
    Goes (State.operators level n e k) tokens (nat_lt n 64) (whole (l + 1) (n + 1) (λ right m. State.operators level m (expression.Binary o e right) k))
operator_goes level n l e k o [] same h = let none : None ≡ Some o = h.0 in absurd (cc)
operator_goes level n l e k o (t ∷ tokens) same h = (Quantity.operators (n + 1), rw (h.0, h.1, same) refl, room n)

pub operators_end : (length level n : ℕ) (e : Expr Name) (k : Expr Name → ℕ → State) (tokens : List LocatedToken) → NoOperator level tokens →
    answer length (State.operators level n e k) tokens ≡ answer length (k e n) tokens
operators_end length level n e k [] h = refl
operators_end length level n e k (t ∷ tokens) h = by_operator (operator_of (token_of t.token)) (λ o same. h o same)
  where
    by_operator : (found : Option Op) → ((o : Op) → found ≡ Some o → nat_lt (level_of o) level ≡ true) →
        token_answer length (operator_step found (step (k e n) (token_of t.token) t.at) level n e k) t.too_nested t.at (λ next. run length next (nested tokens)) ≡
        token_answer length (step (k e n) (token_of t.token) t.at) t.too_nested t.at (λ next. run length next (nested tokens))
    by_operator None h = refl
    by_operator (Some o) h = rw (h o refl) refl

-- ---- operands

pub prefix_goes : (n : ℕ) (k : Expr Name → ℕ → State) (o : Op) (tokens : List LocatedToken) → unary_operator tokens ≡ Some o →
    Goes (State.operand n k) tokens (nat_lt n 64) (State.operand (n + 1) (λ e m. k (expression.Unary o e) m))
prefix_goes n k o [] h = let none : None ≡ Some o = h in absurd (cc)
prefix_goes n k o (t ∷ tokens) h = (Quantity.operators (n + 1), by_token (token_of t.token) h, room n)
  where
    by_token : (token : Token) → token_unary_operator token ≡ Some o → operand_step token t.at n k ≡ prefix_step o n k
    by_token (Token.sign sign.Minus) h = let same : op.Neg ≡ o = cc in rw (← same) refl
    by_token (Token.sign sign.Exclamation) h = let same : op.Not ≡ o = cc in rw (← same) refl
    by_token (Token.sign sign.Tilde) h = let same : op.Flip ≡ o = cc in rw (← same) refl
    by_token (Token.sign _) h = let none : None ≡ Some o = h in absurd (cc)
    by_token (Token.keyword w) h = let none : None ≡ Some o = h in absurd (cc)
    by_token (Token.name x) h = let none : None ≡ Some o = h in absurd (cc)
    by_token (Token.number v) h = let none : None ≡ Some o = h in absurd (cc)
    by_token Token.unfit h = let none : None ≡ Some o = h in absurd (cc)

-- what an operand goes on to by what it begins with, where it has no unary operator
abbrev pub primary_next : PrimaryStart → Token → Offset → (n : ℕ) → (Expr Name → ℕ → State) → Next
primary_next (primary.Number literal) token at n k = goes (Quantity.literal literal) (k (expression.Number (pos literal)) n)
primary_next primary.Name token at n k = name_step token at (λ x. State.operand_name x n k)
primary_next primary.Pointee token at n k = on (State.name_next (λ p. k (expression.Index p (expression.Number (pos 0))) n))
primary_next primary.Group token at n k = on (value (λ e. State.sign_next sign.ParenClose (k e n)))
primary_next primary.Len token at n k = on (parenthesized_name (λ a. k (expression.Len a) n))
primary_next primary.Input token at n k = on (parenthesized (λ e. k (expression.Input e) n))
primary_next primary.Inputs token at n k = on (State.sign_next sign.ParenOpen (State.sign_next sign.ParenClose (k expression.Inputs n)))
primary_next primary.Nothing token at n k = stops

primary_step : (token : Token) (at : Offset) (n : ℕ) (k : Expr Name → ℕ → State) → token_unary_operator token ≡ None →
    operand_step token at n k ≡ primary_next (token_primary token) token at n k
primary_step (Token.number literal) at n k h = refl
primary_step (Token.name x) at n k h = refl
primary_step (Token.keyword keyword.Len) at n k h = refl
primary_step (Token.keyword keyword.Input) at n k h = refl
primary_step (Token.keyword keyword.Inputs) at n k h = refl
primary_step (Token.keyword _) at n k h = refl
primary_step (Token.sign sign.Star) at n k h = refl
primary_step (Token.sign sign.ParenOpen) at n k h = refl
primary_step (Token.sign sign.Minus) at n k h = let some : Some op.Neg ≡ None = h in absurd (cc)
primary_step (Token.sign sign.Exclamation) at n k h = let some : Some op.Not ≡ None = h in absurd (cc)
primary_step (Token.sign sign.Tilde) at n k h = let some : Some op.Flip ≡ None = h in absurd (cc)
primary_step (Token.sign _) at n k h = refl
primary_step Token.unfit at n k h = refl

-- the value of a literal, as a signed number
pub literal_same : (n : ℕ) → nat_le n 2147483647 ≡ true → to_z w32 n ≡ pos n
literal_same n h = to_z_pos w32 n (omega (arith, leb-true n 2147483647 h))

pub primary_goes : (n : ℕ) (k : Expr Name → ℕ → State) (tokens : List LocatedToken) (start : PrimaryStart) (q : Quantity) (next : State) (fits : Bool) →
    unary_operator tokens ≡ None → primary_start tokens ≡ start → ((token : Token) (at : Offset) → primary_next start token at n k ≡ goes q next) → is_within q ≡ fits →
    Goes (State.operand n k) tokens fits next
primary_goes n k [] start q next fits none same takes within =
    let absent : stops ≡ goes q next = ap (λ s. primary_next s Token.unfit 0 n k) same ∙ takes Token.unfit 0 in absurd (cc)
primary_goes n k (t ∷ tokens) start q next fits none same takes within =
    (q, primary_step (token_of t.token) t.at n k none ∙ (ap (λ s. primary_next s (token_of t.token) t.at n k) same ∙ takes (token_of t.token) t.at), within)

-- an operand that begins with a name
pub primary_name : (n : ℕ) (k : Expr Name → ℕ → State) (tokens : List LocatedToken) → primary_start tokens ≡ primary.Name →
    TakesName (State.operand n k) tokens true (λ x. State.operand_name x n k)
primary_name n k [] same = refl
primary_name n k (t ∷ tokens) same = by_token (token_of t.token) same
  where
    by_token : (token : Token) → token_primary token ≡ primary.Name → TakesNameToken (State.operand n k) token t.at true (λ x. State.operand_name x n k)
    by_token (Token.name x) same = (Quantity.nothing, refl, refl)
    by_token (Token.number v) same = let absent : primary.Number v ≡ primary.Name = same in absurd (cc)
    by_token (Token.keyword keyword.Len) same = absurd (cc)
    by_token (Token.keyword keyword.Input) same = absurd (cc)
    by_token (Token.keyword keyword.Inputs) same = absurd (cc)
    by_token (Token.keyword _) same = refl
    by_token (Token.sign sign.Star) same = absurd (cc)
    by_token (Token.sign sign.ParenOpen) same = absurd (cc)
    by_token (Token.sign _) same = absurd (cc)
    by_token Token.unfit same = refl

pub primary_group : (length n : ℕ) (k : Expr Name → ℕ → State) (tokens : List LocatedToken) → unary_operator tokens ≡ None → primary_start tokens ≡ primary.Group →
    answer length (State.operand n k) tokens ≡ answer length (parenthesized (λ e. k e n)) tokens
primary_group length n k [] none same = refl
primary_group length n k (t ∷ tokens) none same =
    step_same length (State.operand n k) (parenthesized (λ e. k e n)) t tokens
    (primary_step (token_of t.token) t.at n k none ∙ (ap (λ s. primary_next s (token_of t.token) t.at n k) same ∙ sym (opening (token_of t.token) same)))
  where
    opening : (token : Token) → token_primary token ≡ primary.Group →
        step (parenthesized (λ e. k e n)) token t.at ≡ on (value (λ e. State.sign_next sign.ParenClose (k e n)))
    opening (Token.sign sign.ParenOpen) same = refl
    opening (Token.sign sign.Star) same = absurd (cc)
    opening (Token.sign _) same = absurd (cc)
    opening (Token.keyword keyword.Len) same = absurd (cc)
    opening (Token.keyword keyword.Input) same = absurd (cc)
    opening (Token.keyword keyword.Inputs) same = absurd (cc)
    opening (Token.keyword _) same = absurd (cc)
    opening (Token.name x) same = absurd (cc)
    opening (Token.number v) same = absurd (cc)
    opening Token.unfit same = absurd (cc)

pub primary_stuck : (n : ℕ) (k : Expr Name → ℕ → State) (tokens : List LocatedToken) → unary_operator tokens ≡ None → primary_start tokens ≡ primary.Nothing →
    IsStuck (State.operand n k) tokens
primary_stuck n k [] none same = refl
primary_stuck n k (t ∷ tokens) none same =
    primary_step (token_of t.token) t.at n k none ∙ ap (λ s. primary_next s (token_of t.token) t.at n k) same

-- ---- names and arguments

pub index_goes : (x : Mark) (n : ℕ) (k : Expr Name → ℕ → State) (tokens : List LocatedToken) → is_next sign.BracketOpen tokens ≡ true →
    Goes (State.operand_name x n k) tokens true (index (λ e. k (expression.Index x e) n))
index_goes x n k [] h = absurd (false≢true h)
index_goes x n k (t ∷ tokens) h = (Quantity.nothing, rw h refl, refl)

pub call_goes : (x : Mark) (n : ℕ) (k : Expr Name → ℕ → State) (tokens : List LocatedToken) → is_next sign.BracketOpen tokens ≡ false → is_next sign.ParenOpen tokens ≡ true →
    Goes (State.operand_name x n k) tokens true (call_of x (λ made. k (expression.Call made) n))
call_goes x n k [] absent h = absurd (false≢true h)
call_goes x n k (t ∷ tokens) absent h = (Quantity.nothing, rw (absent, h) refl, refl)

pub scalar_same : (length : ℕ) (x : Mark) (n : ℕ) (k : Expr Name → ℕ → State) (tokens : List LocatedToken) → is_next sign.BracketOpen tokens ≡ false → is_next sign.ParenOpen tokens ≡ false →
    answer length (State.operand_name x n k) tokens ≡ answer length (k (expression.Scalar x) n) tokens
scalar_same length x n k [] absent none = refl
scalar_same length x n k (t ∷ tokens) absent none = rw (absent, none) refl

pub no_argument_goes : (k : List (Arg Name) → State) (tokens : List LocatedToken) → is_next sign.ParenClose tokens ≡ true →
    Goes (State.first_argument k) tokens true (k [])
no_argument_goes k [] h = absurd (false≢true h)
no_argument_goes k (t ∷ tokens) h = (Quantity.nothing, rw h refl, refl)

pub first_argument_same : (length : ℕ) (k : List (Arg Name) → State) (tokens : List LocatedToken) → is_next sign.ParenClose tokens ≡ false →
    answer length (State.first_argument k) tokens ≡ answer length (State.next_argument [] k) tokens
first_argument_same length k [] absent = refl
first_argument_same length k (t ∷ tokens) absent = rw absent refl

pub address_goes : (before : List (Arg Name)) (k : List (Arg Name) → State) (tokens : List LocatedToken) → is_next sign.Ampersand tokens ≡ true →
    Goes (State.next_argument before k) tokens true (State.name_next (λ x. State.more_arguments (before ++ argument.Address x ∷ []) k))
address_goes before k [] h = absurd (false≢true h)
address_goes before k (t ∷ tokens) h = (Quantity.nothing, rw h refl, refl)

pub value_same : (length : ℕ) (before : List (Arg Name)) (k : List (Arg Name) → State) (tokens : List LocatedToken) → is_next sign.Ampersand tokens ≡ false →
    answer length (State.next_argument before k) tokens ≡ answer length (value (λ e. State.more_arguments (before ++ argument.Value e ∷ []) k)) tokens
value_same length before k [] absent = refl
value_same length before k (t ∷ tokens) absent = rw absent refl

pub argument_comma_goes : (before : List (Arg Name)) (k : List (Arg Name) → State) (tokens : List LocatedToken) → is_next sign.Comma tokens ≡ true →
    Goes (State.more_arguments before k) tokens true (State.next_argument before k)
argument_comma_goes before k [] h = absurd (false≢true h)
argument_comma_goes before k (t ∷ tokens) h = (Quantity.nothing, rw h refl, refl)

pub arguments_end : (length : ℕ) (before : List (Arg Name)) (k : List (Arg Name) → State) (tokens : List LocatedToken) → is_next sign.Comma tokens ≡ false →
    answer length (State.more_arguments before k) tokens ≡ answer length (State.sign_next sign.ParenClose (k before)) tokens
arguments_end length before k [] absent = refl
arguments_end length before k (t ∷ tokens) absent = rw absent refl
