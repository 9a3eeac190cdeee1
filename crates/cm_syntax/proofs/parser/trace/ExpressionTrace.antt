-- The machine takes the tokens of each expression and call with their counts, and goes on with its tree.
use Rattle.std.proofs.Common.{◌≡◌, ℕ, ◌+◌, ◌<◌, ◌≤◌, Bool, true, false, List, [], ◌∷◌, ◌++◌, refl, sym, ap, ◌∙◌, subst, arith, Option, None, Some, append_assoc}
use Rattle.std.specs.Prelude.{nat_lt}
use Rattle.std.proofs.lemmas.Bool.{true≢false, false≢true, le-ltb, lt-ltb, ltb-false}
use Rattle.cm_syntax.specs.declared.name.Name.{Name}
use Rattle.cm_syntax.specs.declared.expr.Op.{Op}
use Rattle.cm_syntax.specs.declared.expr.Op.TheVariants as op
use Rattle.cm_syntax.specs.declared.expr.Expr.{Expr}
use Rattle.cm_syntax.specs.declared.expr.Expr.TheVariants as expression
use Rattle.cm_syntax.specs.declared.expr.Arg.{Arg}
use Rattle.cm_syntax.specs.declared.expr.Arg.TheVariants as argument
use Rattle.cm_syntax.specs.declared.expr.Call.{Call}
use Rattle.cm_syntax.specs.declared.token.Keyword.TheVariants as keyword
use Rattle.cm_syntax.specs.declared.token.Sign.TheVariants as sign
use Rattle.cm_syntax.specs.Token.{Token, LocatedToken}
use Rattle.cm_syntax.specs.ParseTree.{Mark, Offset, is_unary, level_of, Expression, AnyExpression, Arguments, Argument}
use Rattle.cm_syntax.specs.ParseTree as grammar
use Rattle.cm_syntax.specs.Yield.{CountedToken, operators, sign_at, sign_of, operators_of, expression_tokens, any_tokens, call_tokens, arguments_tokens, argument_tokens}
use Rattle.cm_syntax.specs.Lowering.{lower_expression, lower_any, lower_call, lower_arguments, lower_argument}
use Rattle.cm_syntax.specs.Refusal.{is_opening}
use Rattle.cm_syntax.specs.Parser.{State, goes, step, whole, value, call, call_of, operator_of, operator_step, operand_step, prefix_step}
use Rattle.cm_syntax.proofs.YieldLaw.{regroup}
use Rattle.cm_syntax.proofs.parser.trace.Trace.{Leads, none, one, both, passes, left}
use Rattle.cm_syntax.proofs.parser.trace.Front.{begins_value, other_sign, by_front, expression_begins}

-- ---- operators

pub binary_found : (o : Op) → is_unary o ≡ false → operator_of (Token.sign (sign_of o)) ≡ Some o
binary_found op.Neg e = absurd (true≢false e)
binary_found op.Not e = absurd (true≢false e)
binary_found op.Flip e = absurd (true≢false e)
binary_found op.Mul e = refl
binary_found op.Div e = refl
binary_found op.Rem e = refl
binary_found op.Add e = refl
binary_found op.Sub e = refl
binary_found op.Shl e = refl
binary_found op.Shr e = refl
binary_found op.Lt e = refl
binary_found op.Le e = refl
binary_found op.Gt e = refl
binary_found op.Ge e = refl
binary_found op.Eq e = refl
binary_found op.Ne e = refl
binary_found op.And e = refl
binary_found op.Xor e = refl
binary_found op.Or e = refl
binary_found op.Both e = refl
binary_found op.Either e = refl

-- an operator opens nothing
operator_opens : (o : Op) → is_opening (Token.sign (sign_of o)) ≡ false
operator_opens op.Neg = refl
operator_opens op.Not = refl
operator_opens op.Flip = refl
operator_opens op.Mul = refl
operator_opens op.Div = refl
operator_opens op.Rem = refl
operator_opens op.Add = refl
operator_opens op.Sub = refl
operator_opens op.Shl = refl
operator_opens op.Shr = refl
operator_opens op.Lt = refl
operator_opens op.Le = refl
operator_opens op.Gt = refl
operator_opens op.Ge = refl
operator_opens op.Eq = refl
operator_opens op.Ne = refl
operator_opens op.And = refl
operator_opens op.Xor = refl
operator_opens op.Or = refl
operator_opens op.Both = refl
operator_opens op.Either = refl

pub level_bounds : (o : Op) → (1 ≤ level_of o) × (is_unary o ≡ false → level_of o ≤ 10)
level_bounds op.Neg = (omega arith, λ e. absurd (true≢false e))
level_bounds op.Not = (omega arith, λ e. absurd (true≢false e))
level_bounds op.Flip = (omega arith, λ e. absurd (true≢false e))
level_bounds op.Mul = (omega arith, λ e. omega arith)
level_bounds op.Div = (omega arith, λ e. omega arith)
level_bounds op.Rem = (omega arith, λ e. omega arith)
level_bounds op.Add = (omega arith, λ e. omega arith)
level_bounds op.Sub = (omega arith, λ e. omega arith)
level_bounds op.Shl = (omega arith, λ e. omega arith)
level_bounds op.Shr = (omega arith, λ e. omega arith)
level_bounds op.Lt = (omega arith, λ e. omega arith)
level_bounds op.Le = (omega arith, λ e. omega arith)
level_bounds op.Gt = (omega arith, λ e. omega arith)
level_bounds op.Ge = (omega arith, λ e. omega arith)
level_bounds op.Eq = (omega arith, λ e. omega arith)
level_bounds op.Ne = (omega arith, λ e. omega arith)
level_bounds op.And = (omega arith, λ e. omega arith)
level_bounds op.Xor = (omega arith, λ e. omega arith)
level_bounds op.Or = (omega arith, λ e. omega arith)
level_bounds op.Both = (omega arith, λ e. omega arith)
level_bounds op.Either = (omega arith, λ e. omega arith)

pub unary_level : (o : Op) → is_unary o ≡ true → level_of o ≡ 11
unary_level op.Neg e = refl
unary_level op.Not e = refl
unary_level op.Flip e = refl
unary_level _ e = absurd (false≢true e)

pub unary_step : (o : Op) → is_unary o ≡ true → (at : Offset) (n : ℕ) (k : Expr Name → ℕ → State) → operand_step (Token.sign (sign_of o)) at n k ≡ prefix_step o n k
unary_step op.Neg e at n k = refl
unary_step op.Not e at n k = refl
unary_step op.Flip e at n k = refl
unary_step _ e at n k = absurd (false≢true e)

-- ---- what may follow an expression

-- an operator above a level
abbrev pub is_above : ℕ → Option Op → Bool
is_above own None = false
is_above own (Some o) = nat_lt own (level_of o)

-- No bracket follows, and no operator of a higher level, to which the right end of the expression would belong.
pub record Follows (own : ℕ) (t : Token) : Type 0 where
  pub no_opening : is_opening t ≡ false
  pub no_operator : is_above own (operator_of t) ≡ false

-- a token behind which no expression goes on
pub record Ends (t : Token) : Type 0 where
  pub no_operator : operator_of t ≡ None
  pub no_opening : is_opening t ≡ false

pub paren_ends : Ends (Token.sign sign.ParenClose)
paren_ends = record { no_operator = refl; no_opening = refl }

pub bracket_ends : Ends (Token.sign sign.BracketClose)
bracket_ends = record { no_operator = refl; no_opening = refl }

pub comma_ends : Ends (Token.sign sign.Comma)
comma_ends = record { no_operator = refl; no_opening = refl }

pub semicolon_ends : Ends (Token.sign sign.Semicolon)
semicolon_ends = record { no_operator = refl; no_opening = refl }

pub as_ends : Ends (Token.keyword keyword.As)
as_ends = record { no_operator = refl; no_opening = refl }

ends_follows : (own : ℕ) (t : Token) → Ends t → Follows own t
ends_follows own t h = record { no_opening = h.no_opening; no_operator = ap (is_above own) h.no_operator }

above_less : (low high : ℕ) → low < high → (o : Option Op) → is_above low o ≡ false → is_above high o ≡ false
above_less low high lt None h = refl
above_less low high lt (Some o) h = le-ltb high (level_of o) (omega (arith, ltb-false low (level_of o) h))

-- a variable, where no bracket follows
name_passes : (x : Mark) (n : ℕ) (k : Expr Name → ℕ → State) (token : Token) (at : Offset) → is_opening token ≡ false →
    step (State.operand_name x n k) token at ≡ step (k (expression.Scalar x) n) token at
name_passes x n k (Token.sign sign.ParenOpen) at h = absurd (true≢false h)
name_passes x n k (Token.sign sign.BracketOpen) at h = absurd (true≢false h)
name_passes x n k (Token.sign _) at h = refl
name_passes x n k (Token.keyword w) at h = refl
name_passes x n k (Token.name y) at h = refl
name_passes x n k (Token.number v) at h = refl
name_passes x n k Token.unfit at h = refl

-- the operators above a level, where none follows
operators_pass : (level n : ℕ) (e : Expr Name) (k : Expr Name → ℕ → State) (token : Token) (at : Offset) → is_above level (operator_of token) ≡ false →
    step (State.operators (level + 1) n e k) token at ≡ step (k e n) token at
operators_pass level n e k token at h = by_operator (operator_of token) h
  where
    by_operator : (o : Option Op) → is_above level o ≡ false → operator_step o (step (k e n) token at) (level + 1) n e k ≡ step (k e n) token at
    by_operator None h = refl
    by_operator (Some o) h = rw (lt-ltb (level_of o) (level + 1) (omega (arith, ltb-false level (level_of o) h))) refl

operators_take : (level n : ℕ) (e : Expr Name) (k : Expr Name → ℕ → State) (o : Op) (at : Offset) → is_unary o ≡ false → level ≤ level_of o →
    step (State.operators level n e k) (Token.sign (sign_of o)) at ≡
    goes (operators (n + 1)) (whole (level_of o + 1) (n + 1) (λ right m. State.operators level m (expression.Binary o e right) k))
operators_take level n e k o at binary le = rw (binary_found o binary, le-ltb (level_of o) level le) refl

-- ---- expressions

-- what is proved of an expression: it is taken as an operand where it has no binary operator, and else as a whole
pub record Reads {own : ℕ} (e : Expression own) : Type 0 where
  pub operand : (n : ℕ) (k : Expr Name → ℕ → State) → 11 ≤ own → (t : LocatedToken) (rest : List LocatedToken) → is_opening t.token ≡ false →
      Leads (State.operand n k) (expression_tokens n e) (t ∷ rest) (k (lower_expression e) (n + operators_of e))
  pub whole : (level n : ℕ) (k : Expr Name → ℕ → State) → level ≤ own → (t : LocatedToken) (rest : List LocatedToken) → Follows own t.token →
      Leads (whole level n k) (expression_tokens n e) (t ∷ rest) (State.operators level (n + operators_of e) (lower_expression e) k)

from_operand : {own : ℕ} (e : Expression own) →
    ((n : ℕ) (k : Expr Name → ℕ → State) (t : LocatedToken) (rest : List LocatedToken) → is_opening t.token ≡ false →
    Leads (State.operand n k) (expression_tokens n e) (t ∷ rest) (k (lower_expression e) (n + operators_of e))) → Reads e
from_operand e h = record {
  operand = λ n k le t rest follows. h n k t rest follows;
  whole = λ level n k le t rest follows. h n (λ e m. State.operators level m e k) t rest follows.no_opening;
}

-- an operand that has no operator outside of brackets
from_primary : {own : ℕ} (e : Expression own) → operators_of e ≡ 0 →
    ((n : ℕ) (k : Expr Name → ℕ → State) (t : LocatedToken) (rest : List LocatedToken) → is_opening t.token ≡ false →
    Leads (State.operand n k) (expression_tokens n e) (t ∷ rest) (k (lower_expression e) n)) → Reads e
from_primary e alone h = from_operand e (λ n k t rest follows.
    let same : n ≡ n + operators_of e = omega (arith, alone) in
    subst (λ m. Leads (State.operand n k) (expression_tokens n e) (t ∷ rest) (k (lower_expression e) m)) same (h n k t rest follows))

level_positive : {own : ℕ} → Expression own → 1 ≤ own
level_positive (Expression.literal at value) = omega arith
level_positive (Expression.variable x) = omega arith
level_positive (Expression.element a opening index closing) = omega arith
level_positive (Expression.pointee star p) = omega arith
level_positive (Expression.called made) = omega arith
level_positive (Expression.len word opening a closing) = omega arith
level_positive (Expression.input word opening index closing) = omega arith
level_positive (Expression.inputs word opening closing) = omega arith
level_positive (Expression.grouped opening inner closing) = omega arith
level_positive (Expression.prefixed o unary at operand tight) = (level_bounds o).0
level_positive (Expression.joined o binary left_ loose at right tight) = (level_bounds o).0

-- an expression up to a token that ends it
value_leads : {own : ℕ} (e : Expression own) → Reads e → (k : Expr Name → State) (t : LocatedToken) (rest : List LocatedToken) → Ends t.token →
    Leads (value k) (expression_tokens 0 e) (t ∷ rest) (k (lower_expression e))
value_leads {own} e reads k t rest ends =
    left (reads.whole 1 0 (λ e m. k e) (level_positive e) t rest (ends_follows own t.token ends))
    (passes (operators_pass 0 (0 + operators_of e) (lower_expression e) (λ e m. k e) t.token t.at (ap (is_above 0) ends.no_operator)))

prefixed_reads : {own : ℕ} (o : Op) (unary : is_unary o ≡ true) (at : Offset) (e : Expression own) (tight : level_of o ≤ own) → Reads e →
    (n : ℕ) (k : Expr Name → ℕ → State) (t : LocatedToken) (rest : List LocatedToken) → is_opening t.token ≡ false →
    Leads (State.operand n k) (expression_tokens n (Expression.prefixed o unary at e tight)) (t ∷ rest) (k (expression.Unary o (lower_expression e)) (n + (operators_of e + 1)))
prefixed_reads {own} o unary at e tight reads n k t rest h =
    let same : n + 1 + operators_of e ≡ n + (operators_of e + 1) = omega arith in
    one (unary_step o unary at n k)
    (subst (λ m. Leads (State.operand (n + 1) (λ e m. k (expression.Unary o e) m)) (expression_tokens (n + 1) e) (t ∷ rest) (k (expression.Unary o (lower_expression e)) m)) same
    (reads.operand (n + 1) (λ e m. k (expression.Unary o e) m) (omega (arith, unary_level o unary)) t rest h))

joined_reads : {left_level right_level : ℕ} (o : Op) (binary : is_unary o ≡ false) (first : Expression left_level) (loose : level_of o ≤ left_level) (at : Offset) (right : Expression right_level) (tight : level_of o < right_level) →
    Reads first → Reads right → (level n : ℕ) (k : Expr Name → ℕ → State) → level ≤ level_of o → (t : LocatedToken) (rest : List LocatedToken) → Follows (level_of o) t.token →
    Leads (whole level n k) (expression_tokens n (Expression.joined o binary first loose at right tight)) (t ∷ rest)
    (State.operators level (n + (operators_of first + operators_of right + 1)) (expression.Binary o (lower_expression first) (lower_expression right)) k)
joined_reads {left_level} {right_level} o binary first loose at right tight reads_first reads_right level n k le t rest follows =
    let before = n + operators_of first in
    let goes_on : Expr Name → ℕ → State = λ r m. State.operators level m (expression.Binary o (lower_expression first) r) k in
    let same : before + 1 + operators_of right ≡ n + (operators_of first + operators_of right + 1) = omega arith in
    let behind : Leads (whole (level_of o + 1) (before + 1) goes_on) (expression_tokens (before + 1) right) (t ∷ rest) (goes_on (lower_expression right) (before + 1 + operators_of right)) =
    left (reads_right.whole (level_of o + 1) (before + 1) goes_on (omega arith) t rest
    (record { no_opening = follows.no_opening; no_operator = above_less (level_of o) right_level tight (operator_of t.token) follows.no_operator }))
    (passes (operators_pass (level_of o) (before + 1 + operators_of right) (lower_expression right) goes_on t.token t.at follows.no_operator)) in
    both (reads_first.whole level n k (omega arith) _ _
    (record { no_opening = operator_opens o; no_operator = ap (is_above left_level) (binary_found o binary) ∙ le-ltb left_level (level_of o) loose }))
    (one (operators_take level before (lower_expression first) k o at binary le)
    (subst (λ m. Leads (whole (level_of o + 1) (before + 1) goes_on) (expression_tokens (before + 1) right) (t ∷ rest) (goes_on (lower_expression right) m)) same behind))

-- an expression between brackets, with the closing one
enclosed : {own : ℕ} (e : Expression own) → Reads e → (k : Expr Name → State) (next : State) (closing : CountedToken) (rest : List LocatedToken) → Ends closing.located.token →
    step (k (lower_expression e)) closing.located.token closing.located.at ≡ goes closing.quantity next →
    Leads (value k) (expression_tokens 0 e ++ closing ∷ []) rest next
enclosed e reads k next closing rest ends steps = both (value_leads e reads k closing.located rest ends) (one steps none)

-- where an expression begins, an argument is taken as one
argument_value : (before : List (Arg Name)) (k : List (Arg Name) → State) (t : LocatedToken) → begins_value t.token ≡ true →
    step (State.next_argument before k) t.token t.at ≡ step (value (λ e. State.more_arguments (before ++ argument.Value e ∷ []) k)) t.token t.at
argument_value before k t h = rw (other_sign begins_value sign.Ampersand t.token refl h) refl

first_argument_value : (k : List (Arg Name) → State) (t : LocatedToken) → begins_value t.token ≡ true →
    step (State.first_argument k) t.token t.at ≡ step (State.next_argument [] k) t.token t.at
first_argument_value k t h = rw (other_sign begins_value sign.ParenClose t.token refl h) refl

-- the first argument is taken as any other
first_leads : (a : Argument) (k : List (Arg Name) → State) (more : List CountedToken) (rest : List LocatedToken) (last : State) →
    Leads (State.next_argument [] k) (argument_tokens a ++ more) rest last → Leads (State.first_argument k) (argument_tokens a ++ more) rest last
first_leads (Argument.value e) k more rest last h =
    by_front begins_value (rw (regroup (expression_tokens 0 e) more rest) (expression_begins e 0 _)) (first_argument_value k) h
first_leads (Argument.address at x) k more rest last h = record { same = h.same }

firsts_lead : (all : Arguments) (k : List (Arg Name) → State) (closing : CountedToken) (rest : List LocatedToken) (last : State) →
    Leads (State.next_argument [] k) (arguments_tokens all ++ closing ∷ []) rest last → Leads (State.first_argument k) (arguments_tokens all ++ closing ∷ []) rest last
firsts_lead (Arguments.last single) k closing rest last h = first_leads single k (closing ∷ []) rest last h
firsts_lead (Arguments.before first comma more) k closing rest last h =
    let tail : List CountedToken = sign_at sign.Comma comma ∷ arguments_tokens more in
    let grouped = append_assoc (argument_tokens first) tail (closing ∷ []) in
    subst (λ tokens. Leads (State.first_argument k) tokens rest last) (sym grouped)
    (first_leads first k (tail ++ closing ∷ []) rest last (subst (λ tokens. Leads (State.next_argument [] k) tokens rest last) grouped h))

mutual
  pub expression_reads : {own : ℕ} (e : Expression own) → Reads e
  expression_reads (Expression.literal at value) = from_primary (Expression.literal at value) refl (λ n k t rest h. one refl none)
  expression_reads (Expression.variable x) = from_primary (Expression.variable x) refl (λ n k t rest h. one refl (passes (name_passes x n k t.token t.at h)))
  expression_reads (Expression.element a opening index closing) = from_primary (Expression.element a opening index closing) refl
      (λ n k t rest h. one refl (one refl (enclosed index (expression_reads index) _ _ (sign_at sign.BracketClose closing) (t ∷ rest) bracket_ends refl)))
  expression_reads (Expression.pointee star p) = from_primary (Expression.pointee star p) refl (λ n k t rest h. one refl (one refl none))
  expression_reads (Expression.called made) = from_primary (Expression.called made) refl (λ n k t rest h. called_operand made n k (t ∷ rest))
  expression_reads (Expression.len word opening a closing) = from_primary (Expression.len word opening a closing) refl
      (λ n k t rest h. one refl (one refl (one refl (one refl none))))
  expression_reads (Expression.input word opening index closing) = from_primary (Expression.input word opening index closing) refl
      (λ n k t rest h. one refl (one refl (enclosed index (expression_reads index) _ _ (sign_at sign.ParenClose closing) (t ∷ rest) paren_ends refl)))
  expression_reads (Expression.inputs word opening closing) = from_primary (Expression.inputs word opening closing) refl
      (λ n k t rest h. one refl (one refl (one refl none)))
  expression_reads (Expression.grouped opening inner closing) = from_primary (Expression.grouped opening inner closing) refl
      (λ n k t rest h. one refl (enclosed inner (expression_reads inner) _ _ (sign_at sign.ParenClose closing) (t ∷ rest) paren_ends refl))
  expression_reads (Expression.prefixed o unary at operand tight) = from_operand (Expression.prefixed o unary at operand tight)
      (λ n k t rest h. prefixed_reads o unary at operand tight (expression_reads operand) n k t rest h)
  expression_reads (Expression.joined o binary first loose at right tight) = record {
    operand = λ n k le t rest h. absurd (omega (arith, (level_bounds o).1 binary));
    whole = λ level n k le t rest follows. joined_reads o binary first loose at right tight (expression_reads first) (expression_reads right) level n k le t rest follows;
  }

  called_operand : (made : grammar.Call) (n : ℕ) (k : Expr Name → ℕ → State) (rest : List LocatedToken) →
      Leads (State.operand n k) (call_tokens made) rest (k (expression.Call (lower_call made)) n)
  called_operand (grammar.Call.alone f opening closing) n k rest = one refl (one refl (one refl none))
  called_operand (grammar.Call.with_ f opening arguments closing) n k rest =
      let then_called : List (Arg Name) → State = λ found. k (expression.Call (record { function = f; arguments = found })) n in
      one refl (one refl (firsts_lead arguments then_called (sign_at sign.ParenClose closing) rest _ (arguments_lead arguments [] then_called closing rest)))

  -- arguments with the closing parenthesis, behind others
  pub arguments_lead : (all : Arguments) (before : List (Arg Name)) (k : List (Arg Name) → State) (closing : Offset) (rest : List LocatedToken) →
      Leads (State.next_argument before k) (arguments_tokens all ++ sign_at sign.ParenClose closing ∷ []) rest (k (before ++ lower_arguments all))
  arguments_lead (Arguments.last single) before k closing rest = both (argument_leads single before k _ _ paren_ends) (one refl none)
  arguments_lead (Arguments.before first comma more) before k closing rest =
      let tail : List CountedToken = sign_at sign.Comma comma ∷ arguments_tokens more in
      let all = before ++ (lower_argument first ∷ lower_arguments more) in
      subst (λ tokens. Leads (State.next_argument before k) tokens rest (k all)) (sym (append_assoc (argument_tokens first) tail (sign_at sign.ParenClose closing ∷ [])))
      (both (argument_leads first before k _ _ comma_ends)
      (one refl (subst (λ found. Leads (State.next_argument (before ++ lower_argument first ∷ []) k) (arguments_tokens more ++ sign_at sign.ParenClose closing ∷ []) rest (k found))
      (append_assoc before (lower_argument first ∷ []) (lower_arguments more)) (arguments_lead more (before ++ lower_argument first ∷ []) k closing rest))))

  argument_leads : (a : Argument) (before : List (Arg Name)) (k : List (Arg Name) → State) (t : LocatedToken) (rest : List LocatedToken) → Ends t.token →
      Leads (State.next_argument before k) (argument_tokens a) (t ∷ rest) (State.more_arguments (before ++ lower_argument a ∷ []) k)
  argument_leads (Argument.value e) before k t rest ends =
      by_front begins_value (expression_begins e 0 (t ∷ rest)) (argument_value before k)
      (value_leads e (expression_reads e) (λ e. State.more_arguments (before ++ argument.Value e ∷ []) k) t rest ends)
  argument_leads (Argument.address at x) before k t rest ends = one refl (one refl none)

-- an expression of any level, up to a token that ends it
pub any_leads : (e : AnyExpression) (k : Expr Name → State) (t : LocatedToken) (rest : List LocatedToken) → Ends t.token →
    Leads (value k) (any_tokens e) (t ∷ rest) (k (lower_any e))
any_leads (AnyExpression.any e) k t rest ends = value_leads e (expression_reads e) k t rest ends

-- ---- calls

abbrev pub called_name : grammar.Call → Mark
called_name (grammar.Call.alone f opening closing) = f
called_name (grammar.Call.with_ f opening arguments closing) = f

-- the tokens behind the opening parenthesis of a call
abbrev pub behind_opening : grammar.Call → List CountedToken
behind_opening (grammar.Call.alone f opening closing) = sign_at sign.ParenClose closing ∷ []
behind_opening (grammar.Call.with_ f opening arguments closing) = arguments_tokens arguments ++ sign_at sign.ParenClose closing ∷ []

-- a call behind its opening parenthesis
pub call_leads : (made : grammar.Call) (k : Call Name → State) (rest : List LocatedToken) → Leads (call_of (called_name made) k) (behind_opening made) rest (k (lower_call made))
call_leads (grammar.Call.alone f opening closing) k rest = one refl none
call_leads (grammar.Call.with_ f opening arguments closing) k rest =
    let then_called : List (Arg Name) → State = λ found. k (record { function = f; arguments = found }) in
    firsts_lead arguments then_called (sign_at sign.ParenClose closing) rest _ (arguments_lead arguments [] then_called closing rest)

pub named_call_leads : (made : grammar.Call) (k : Call Name → State) (rest : List LocatedToken) → Leads (call k) (call_tokens made) rest (k (lower_call made))
named_call_leads (grammar.Call.alone f opening closing) k rest = one refl (one refl (call_leads (grammar.Call.alone f opening closing) k rest))
named_call_leads (grammar.Call.with_ f opening arguments closing) k rest = one refl (one refl (call_leads (grammar.Call.with_ f opening arguments closing) k rest))
