-- A token that is taken in a state of an expression, with what may follow the next state, may follow the state.
use Rattle.std.proofs.Common.{◌≡◌, ℕ, ◌+◌, ◌<◌, ◌≤◌, Bool, true, false, List, [], ◌∷◌, ◌++◌, refl, sym, ap, ◌∙◌, subst, arith, Option, None, Some, pos}
use Rattle.std.specs.Prelude.{nat_lt, if◌then◌else◌}
use Rattle.std.proofs.lemmas.Bool.{ltb-false, ltb-true}
use Rattle.cm_syntax.specs.declared.name.Name.{Name}
use Rattle.cm_syntax.specs.declared.expr.Op.{Op}
use Rattle.cm_syntax.specs.declared.expr.Op.TheVariants as op
use Rattle.cm_syntax.specs.declared.expr.Expr.{Expr}
use Rattle.cm_syntax.specs.declared.expr.Expr.TheVariants as expression
use Rattle.cm_syntax.specs.declared.expr.Arg.{Arg}
use Rattle.cm_syntax.specs.declared.expr.Arg.TheVariants as argument
use Rattle.cm_syntax.specs.declared.token.Keyword.{Keyword}
use Rattle.cm_syntax.specs.declared.token.Keyword.TheVariants as keyword
use Rattle.cm_syntax.specs.declared.token.Sign.{Sign}
use Rattle.cm_syntax.specs.declared.token.Sign.TheVariants as sign
use Rattle.cm_syntax.specs.Token.{Token, LocatedToken, token_at}
use Rattle.cm_syntax.specs.ParseTree.{Mark, Offset, is_unary, level_of, Expression, Arguments, Argument, AnyExpression}
use Rattle.cm_syntax.specs.ParseTree as grammar
use Rattle.cm_syntax.specs.Yield.{Quantity, sign_of}
use Rattle.cm_syntax.specs.Parser.{State, Next, goes, stops, step, is_sign, is_word, whole, value, operator_step, operand_step, value_step, argument_step, call_of, name_step}
use Rattle.cm_syntax.proofs.parser.trace.Front.{sign_token, word_token}
use Rattle.cm_syntax.proofs.parser.trace.ExpressionTrace.{level_bounds, unary_level}
use Rattle.cm_syntax.proofs.parser.takes.Written.{sign_then, name_then, expression_then, argument_then, any_then}
use Rattle.cm_syntax.proofs.parser.takes.Wanted.{Begins, begins, AtLeast, at_least_then, Tail, tail_then, Closed, closed_then, FirstArguments, first_arguments_then, NextArguments, next_arguments_then, MoreArguments, more_arguments_then, OperandName, operand_name_then, Continues}

-- what may follow behind a token by what the token does
abbrev pub Enters : Next → List LocatedToken → Type 0
Enters (goes q next) w = Continues next w
Enters stops w = ⊥

-- ---- tests of a token

by_test : (b : Bool) (token found : Token) (x y : Next) (w : List LocatedToken) (C : Token → Type 0) →
    (b ≡ true → token ≡ found) → (Enters x w → C found) → (Enters y w → C token) → Enters (if b then x else y) w → C token
by_test true token found x y w C same f g h = subst C (sym (same refl)) (f h)
by_test false token found x y w C same f g h = g h

-- what a token does where it passes a test, and where not
pub by_either : (b : Bool) (x y : Next) (w : List LocatedToken) {C : Type 0} → (Enters x w → C) → (Enters y w → C) → Enters (if b then x else y) w → C
by_either true x y w f g h = f h
by_either false x y w f g h = g h

-- what a token does where it is this sign, and where not
pub by_sign : (s : Sign) (token : Token) (x y : Next) (w : List LocatedToken) (C : Token → Type 0) →
    (Enters x w → C (Token.sign s)) → (Enters y w → C token) → Enters (if is_sign s token then x else y) w → C token
by_sign s token x y w C f g h = by_test (is_sign s token) token (Token.sign s) x y w C (λ e. sign_token s token e) f g h

-- what a token does where it is this word, and where not
pub by_word : (k : Keyword) (token : Token) (x y : Next) (w : List LocatedToken) (C : Token → Type 0) →
    (Enters x w → C (Token.keyword k)) → (Enters y w → C token) → Enters (if is_word k token then x else y) w → C token
by_word k token x y w C f g h = by_test (is_word k token) token (Token.keyword k) x y w C (λ e. word_token k token e) f g h

-- ---- an operator and its operand behind an expression

record Inserted (level : ℕ) {first : ℕ} (e : Expression first) (o : Op) (at : Offset) {last : ℕ} (right : Expression last) : Type 0 where
  own : ℕ
  tight : level ≤ own
  made : Expression own
  same : (rest : List LocatedToken) → expression_then made rest ≡ expression_then e (sign_then (sign_of o) at (expression_then right rest))

module _ (o : Op) (binary : is_unary o ≡ false) (at : Offset) {last : ℕ} (right : Expression last) (loose : level_of o < last) where
  direct : {own : ℕ} (level : ℕ) (e : Expression own) → level_of o ≤ own → level ≤ level_of o → Inserted level e o at right
  direct level e le low = record { own = level_of o; tight = low; made = Expression.joined o binary e le at right loose; same = λ rest. refl }

  insert : {own : ℕ} (level : ℕ) (e : Expression own) → level ≤ own → level ≤ level_of o → Inserted level e o at right
  insert level (Expression.prefixed p unary star operand close) le low =
      direct level (Expression.prefixed p unary star operand close) (omega (arith, (level_bounds o).1 binary, unary_level p unary)) low
  insert level (Expression.joined p other left close offset inner tight) le low =
      by_level (nat_lt (level_of p) (level_of o)) refl (λ deeper. insert (level_of p + 1) inner (omega (arith, tight)) deeper)
    where
      by_level : (b : Bool) → nat_lt (level_of p) (level_of o) ≡ b → (level_of p + 1 ≤ level_of o → Inserted (level_of p + 1) inner o at right) →
          Inserted level (Expression.joined p other left close offset inner tight) o at right
      by_level false b more = direct level (Expression.joined p other left close offset inner tight) (ltb-false (level_of p) (level_of o) b) low
      by_level true b more =
          let deep = more (omega (arith, ltb-true (level_of p) (level_of o) b)) in
          let high : level_of p < deep.own = omega (arith, deep.tight) in record {
            own = level_of p;
            tight = le;
            made = Expression.joined p other left close offset deep.made high;
            same = λ rest. ap (λ x. expression_then left (sign_then (sign_of p) offset x)) (deep.same rest);
          }
  insert level e le low = direct level e (omega (arith, (level_bounds o).1 binary)) low

record Attached (level : ℕ) {first : ℕ} (e : Expression first) (tail : Tail level) : Type 0 where
  own : ℕ
  tight : level ≤ own
  made : Expression own
  same : (rest : List LocatedToken) → expression_then made rest ≡ expression_then e (tail_then tail rest)

attach : {level : ℕ} (tail : Tail level) {own : ℕ} (e : Expression own) → level ≤ own → Attached level e tail
attach Tail.end e le = record { own = _; tight = le; made = e; same = λ rest. refl }
attach {level} (Tail.more o binary low at right loose t) e le =
    let one = insert o binary at right loose level e le low in
    let all = attach t one.made one.tight in
    record { own = all.own; tight = all.tight; made = all.made; same = λ rest. all.same rest ∙ one.same (tail_then t rest) }

-- ---- where an expression is wanted

-- behind an expression a continuation goes on
abbrev pub Behind : (Expr Name → ℕ → State) → List LocatedToken → Type 0
Behind k rest = (e : Expr Name) × (m : ℕ) × Continues (k e m) rest

-- the same where nothing is counted on
abbrev pub BehindValue : (Expr Name → State) → List LocatedToken → Type 0
BehindValue k rest = (e : Expr Name) × Continues (k e) rest

whole_begins : (level n : ℕ) (k : Expr Name → ℕ → State) (w : List LocatedToken) → level ≤ 11 → Continues (whole level n k) w → Begins (at_least_then {level = level}) (Behind k) w
whole_begins level n k w low (begins (AtLeast.at_least tight e) _ (tree, m, begins tail rest h)) =
    let all = attach tail e (omega (arith, tight)) in
    subst (Begins (at_least_then {level = level}) (Behind k)) (all.same rest) (begins (AtLeast.at_least all.tight all.made) rest h)

pub value_begins : (k : Expr Name → State) (w : List LocatedToken) → Continues (value k) w → Begins any_then (BehindValue k) w
value_begins k w h = by_whole w (whole_begins 1 0 (λ e m. k e) w (omega arith) h)
  where
    by_whole : (w : List LocatedToken) → Begins (at_least_then {level = 1}) (Behind (λ e m. k e)) w → Begins any_then (BehindValue k) w
    by_whole w (begins (AtLeast.at_least tight e) rest (tree, m, h)) = begins (AnyExpression.any e) rest (tree, h)

-- an expression and the sign that closes it
pub closed_begins : (s : Sign) (k : Expr Name → State) (w : List LocatedToken) → Continues (value (λ e. State.sign_next s (k e))) w → Begins (closed_then s) (BehindValue k) w
closed_begins s k w h = by_value w (value_begins (λ e. State.sign_next s (k e)) w h)
  where
    by_value : (w : List LocatedToken) → Begins any_then (BehindValue (λ e. State.sign_next s (k e))) w → Begins (closed_then s) (BehindValue k) w
    by_value w (begins e _ (tree, begins closing rest h)) = begins (Closed.closed e closing) rest (tree, h)

-- ---- operands

Operand : (Expr Name → ℕ → State) → Token → Offset → List LocatedToken → Type 0
Operand k token at w = Begins (at_least_then {level = 11}) (Behind k) (token_at token at ∷ w)

named_operand : (x : Mark) (k : Expr Name → ℕ → State) (w : List LocatedToken) → Begins operand_name_then (Behind k) w → Begins (at_least_then {level = 11}) (Behind k) (name_then x w)
named_operand x k w (begins OperandName.nothing rest h) = begins (AtLeast.at_least (omega arith) (Expression.variable x)) rest h
named_operand x k w (begins (OperandName.index opening (Closed.closed (AnyExpression.any e) closing)) rest h) =
    begins (AtLeast.at_least (omega arith) (Expression.element x opening e closing)) rest h
named_operand x k w (begins (OperandName.call opening (FirstArguments.none closing)) rest h) =
    begins (AtLeast.at_least (omega arith) (Expression.called (grammar.Call.alone x opening closing))) rest h
named_operand x k w (begins (OperandName.call opening (FirstArguments.some all closing)) rest h) =
    begins (AtLeast.at_least (omega arith) (Expression.called (grammar.Call.with_ x opening all closing))) rest h

prefixed_operand : (o : Op) → is_unary o ≡ true → (at : Offset) (n : ℕ) (k : Expr Name → ℕ → State) (w : List LocatedToken) →
    Continues (State.operand (n + 1) (λ e m. k (expression.Unary o e) m)) w → Begins (at_least_then {level = 11}) (Behind k) (sign_then (sign_of o) at w)
prefixed_operand o unary at n k w (begins (AtLeast.at_least tight e) rest (tree, m, h)) =
    begins (AtLeast.at_least (omega (arith, unary_level o unary)) (Expression.prefixed o unary at e (omega (arith, unary_level o unary, tight)))) rest (expression.Unary o tree, m, h)

grouped_operand : (at n : ℕ) (k : Expr Name → ℕ → State) (w : List LocatedToken) → Begins (closed_then sign.ParenClose) (BehindValue (λ e. k e n)) w →
    Begins (at_least_then {level = 11}) (Behind k) (sign_then sign.ParenOpen at w)
grouped_operand at n k w (begins (Closed.closed (AnyExpression.any e) closing) rest (tree, h)) =
    begins (AtLeast.at_least (omega arith) (Expression.grouped at e closing)) rest (tree, n, h)

input_operand : (word at n : ℕ) (k : Expr Name → ℕ → State) (w : List LocatedToken) → Begins (closed_then sign.ParenClose) (BehindValue (λ e. k (expression.Input e) n)) w →
    Begins (at_least_then {level = 11}) (Behind k) (token_at (Token.keyword keyword.Input) word ∷ sign_then sign.ParenOpen at w)
input_operand word at n k w (begins (Closed.closed (AnyExpression.any e) closing) rest (tree, h)) =
    begins (AtLeast.at_least (omega arith) (Expression.input word at e closing)) rest (expression.Input tree, n, h)

pub operand_takes : (token : Token) (at n : ℕ) (k : Expr Name → ℕ → State) (w : List LocatedToken) → Enters (operand_step token at n k) w → Continues (State.operand n k) (token_at token at ∷ w)
operand_takes (Token.number literal) at n k w h = begins (AtLeast.at_least (omega arith) (Expression.literal at literal)) w (expression.Number (pos literal), n, h)
operand_takes (Token.name x) at n k w h = named_operand (record { name = x; at = at }) k w h
operand_takes (Token.keyword keyword.Len) at n k w (begins opening _ (begins a _ (tree, begins closing rest h))) =
    begins (AtLeast.at_least (omega arith) (Expression.len at opening a closing)) rest (expression.Len tree, n, h)
operand_takes (Token.keyword keyword.Input) at n k w (begins opening inside h) =
    input_operand at opening n k inside (closed_begins sign.ParenClose (λ e. k (expression.Input e) n) inside h)
operand_takes (Token.keyword keyword.Inputs) at n k w (begins opening _ (begins closing rest h)) =
    begins (AtLeast.at_least (omega arith) (Expression.inputs at opening closing)) rest (expression.Inputs, n, h)
operand_takes (Token.keyword _) at n k w h = absurd h
operand_takes (Token.sign sign.Star) at n k w (begins p rest (tree, h)) =
    begins (AtLeast.at_least (omega arith) (Expression.pointee at p)) rest (expression.Index tree (expression.Number (pos 0)), n, h)
operand_takes (Token.sign sign.ParenOpen) at n k w h = grouped_operand at n k w (closed_begins sign.ParenClose (λ e. k e n) w h)
operand_takes (Token.sign sign.Minus) at n k w h = prefixed_operand op.Neg refl at n k w h
operand_takes (Token.sign sign.Exclamation) at n k w h = prefixed_operand op.Not refl at n k w h
operand_takes (Token.sign sign.Tilde) at n k w h = prefixed_operand op.Flip refl at n k w h
operand_takes (Token.sign _) at n k w h = absurd h
operand_takes Token.unfit at n k w h = absurd h

-- an expression by its first token
pub value_takes : (token : Token) (at : ℕ) (k : Expr Name → State) (w : List LocatedToken) → Enters (value_step token at k) w → Begins any_then (BehindValue k) (token_at token at ∷ w)
value_takes token at k w h = value_begins k (token_at token at ∷ w) (operand_takes token at 0 (λ e m. State.operators 1 m e (λ e m. k e)) w h)

-- ---- behind a name and behind an expression

pub operand_name_takes : (x : Mark) (n : ℕ) (k : Expr Name → ℕ → State) (token : Token) (at : Offset) (w : List LocatedToken) →
    (Enters (step (k (expression.Scalar x) n) token at) w → Continues (k (expression.Scalar x) n) (token_at token at ∷ w)) →
    Enters (step (State.operand_name x n k) token at) w → Continues (State.operand_name x n k) (token_at token at ∷ w)
operand_name_takes x n k token at w passes h =
    by_sign sign.BracketOpen token _ _ w (λ t. Continues (State.operand_name x n k) (token_at t at ∷ w))
    (λ h. by_index w (closed_begins sign.BracketClose (λ e. k (expression.Index x e) n) w h))
    (λ h. by_sign sign.ParenOpen token _ _ w (λ t. Continues (State.operand_name x n k) (token_at t at ∷ w)) (λ h. by_call w h)
    (λ h. begins OperandName.nothing (token_at token at ∷ w) (expression.Scalar x, n, passes h)) h) h
  where
    by_index : (w : List LocatedToken) → Begins (closed_then sign.BracketClose) (BehindValue (λ e. k (expression.Index x e) n)) w → Begins operand_name_then (Behind k) (sign_then sign.BracketOpen at w)
    by_index w (begins i rest (tree, h)) = begins (OperandName.index at i) rest (expression.Index x tree, n, h)

    by_call : (w : List LocatedToken) → Continues (call_of x (λ made. k (expression.Call made) n)) w → Begins operand_name_then (Behind k) (sign_then sign.ParenOpen at w)
    by_call w (begins all rest (trees, h)) = begins (OperandName.call at all) rest (expression.Call (record { function = x; arguments = trees }), n, h)

module _ (level n : ℕ) (e : Expr Name) (k : Expr Name → ℕ → State) (at : Offset) where
  operator_joined : (o : Op) → is_unary o ≡ false → level ≤ level_of o → (w : List LocatedToken) →
      Begins (at_least_then {level = level_of o + 1}) (Behind (λ right m. State.operators level m (expression.Binary o e right) k)) w → Begins (tail_then {level = level}) (Behind k) (sign_then (sign_of o) at w)
  operator_joined o binary low w (begins (AtLeast.at_least tight right) _ (tree, m, begins tail rest h)) =
      begins (Tail.more o binary low at right (omega (arith, tight)) tail) rest h

  operator_takes : (o : Op) → is_unary o ≡ false → (other : Next) (w : List LocatedToken) → (Enters other w → Continues (k e n) (sign_then (sign_of o) at w)) →
      Enters (operator_step (Some o) other level n e k) w → Continues (State.operators level n e k) (sign_then (sign_of o) at w)
  operator_takes o binary other w passes h = by_level (nat_lt (level_of o) level) refl h
    where
      by_level : (b : Bool) → nat_lt (level_of o) level ≡ b → Enters (if b then other else goes (Quantity.operators (n + 1)) (whole (level_of o + 1) (n + 1) (λ right m. State.operators level m (expression.Binary o e right) k))) w →
          Continues (State.operators level n e k) (sign_then (sign_of o) at w)
      by_level true b h = begins Tail.end (sign_then (sign_of o) at w) (e, n, passes h)
      by_level false b h = operator_joined o binary (ltb-false (level_of o) level b) w
          (whole_begins (level_of o + 1) (n + 1) (λ right m. State.operators level m (expression.Binary o e right) k) w (omega (arith, (level_bounds o).1 binary)) h)

pub operators_take : (level n : ℕ) (e : Expr Name) (k : Expr Name → ℕ → State) (token : Token) (at : Offset) (w : List LocatedToken) →
    (Enters (step (k e n) token at) w → Continues (k e n) (token_at token at ∷ w)) →
    Enters (step (State.operators level n e k) token at) w → Continues (State.operators level n e k) (token_at token at ∷ w)
operators_take level n e k (Token.sign sign.Star) at w passes h = operator_takes level n e k at op.Mul refl (step (k e n) (Token.sign sign.Star) at) w passes h
operators_take level n e k (Token.sign sign.Slash) at w passes h = operator_takes level n e k at op.Div refl (step (k e n) (Token.sign sign.Slash) at) w passes h
operators_take level n e k (Token.sign sign.Percent) at w passes h = operator_takes level n e k at op.Rem refl (step (k e n) (Token.sign sign.Percent) at) w passes h
operators_take level n e k (Token.sign sign.Plus) at w passes h = operator_takes level n e k at op.Add refl (step (k e n) (Token.sign sign.Plus) at) w passes h
operators_take level n e k (Token.sign sign.Minus) at w passes h = operator_takes level n e k at op.Sub refl (step (k e n) (Token.sign sign.Minus) at) w passes h
operators_take level n e k (Token.sign sign.ShiftLeft) at w passes h = operator_takes level n e k at op.Shl refl (step (k e n) (Token.sign sign.ShiftLeft) at) w passes h
operators_take level n e k (Token.sign sign.ShiftRight) at w passes h = operator_takes level n e k at op.Shr refl (step (k e n) (Token.sign sign.ShiftRight) at) w passes h
operators_take level n e k (Token.sign sign.Less) at w passes h = operator_takes level n e k at op.Lt refl (step (k e n) (Token.sign sign.Less) at) w passes h
operators_take level n e k (Token.sign sign.LessEqual) at w passes h = operator_takes level n e k at op.Le refl (step (k e n) (Token.sign sign.LessEqual) at) w passes h
operators_take level n e k (Token.sign sign.Greater) at w passes h = operator_takes level n e k at op.Gt refl (step (k e n) (Token.sign sign.Greater) at) w passes h
operators_take level n e k (Token.sign sign.GreaterEqual) at w passes h = operator_takes level n e k at op.Ge refl (step (k e n) (Token.sign sign.GreaterEqual) at) w passes h
operators_take level n e k (Token.sign sign.Equal) at w passes h = operator_takes level n e k at op.Eq refl (step (k e n) (Token.sign sign.Equal) at) w passes h
operators_take level n e k (Token.sign sign.NotEqual) at w passes h = operator_takes level n e k at op.Ne refl (step (k e n) (Token.sign sign.NotEqual) at) w passes h
operators_take level n e k (Token.sign sign.Ampersand) at w passes h = operator_takes level n e k at op.And refl (step (k e n) (Token.sign sign.Ampersand) at) w passes h
operators_take level n e k (Token.sign sign.Caret) at w passes h = operator_takes level n e k at op.Xor refl (step (k e n) (Token.sign sign.Caret) at) w passes h
operators_take level n e k (Token.sign sign.Bar) at w passes h = operator_takes level n e k at op.Or refl (step (k e n) (Token.sign sign.Bar) at) w passes h
operators_take level n e k (Token.sign sign.AndAnd) at w passes h = operator_takes level n e k at op.Both refl (step (k e n) (Token.sign sign.AndAnd) at) w passes h
operators_take level n e k (Token.sign sign.OrOr) at w passes h = operator_takes level n e k at op.Either refl (step (k e n) (Token.sign sign.OrOr) at) w passes h
operators_take level n e k (Token.sign s) at w passes h = begins Tail.end (token_at (Token.sign s) at ∷ w) (e, n, passes h)
operators_take level n e k (Token.keyword word) at w passes h = begins Tail.end (token_at (Token.keyword word) at ∷ w) (e, n, passes h)
operators_take level n e k (Token.name x) at w passes h = begins Tail.end (token_at (Token.name x) at ∷ w) (e, n, passes h)
operators_take level n e k (Token.number v) at w passes h = begins Tail.end (token_at (Token.number v) at ∷ w) (e, n, passes h)
operators_take level n e k Token.unfit at w passes h = begins Tail.end (token_at Token.unfit at ∷ w) (e, n, passes h)

-- ---- names and arguments

pub name_takes : (token : Token) (at : Offset) (k : Mark → State) (w : List LocatedToken) → Enters (name_step token at k) w → Continues (State.name_next k) (token_at token at ∷ w)
name_takes (Token.name x) at k w h = begins (record { name = x; at = at }) w (record { name = x; at = at }, h)
name_takes (Token.sign _) at k w h = absurd h
name_takes (Token.keyword _) at k w h = absurd h
name_takes (Token.number _) at k w h = absurd h
name_takes Token.unfit at k w h = absurd h

-- behind arguments a continuation goes on
abbrev BehindAll : (List (Arg Name) → State) → List LocatedToken → Type 0
BehindAll k rest = (all : List (Arg Name)) × Continues (k all) rest

-- an argument, and what follows it
argument_joined : (a : Argument) (k : List (Arg Name) → State) (w : List LocatedToken) → Begins more_arguments_then (BehindAll k) w → Begins next_arguments_then (BehindAll k) (argument_then a w)
argument_joined a k w (begins (MoreArguments.none closing) rest h) = begins (NextArguments.some (Arguments.last a) closing) rest h
argument_joined a k w (begins (MoreArguments.some comma all closing) rest h) = begins (NextArguments.some (Arguments.before a comma all) closing) rest h

pub argument_takes : (token : Token) (at : Offset) (before : List (Arg Name)) (k : List (Arg Name) → State) (w : List LocatedToken) →
    Enters (argument_step token at before k) w → Continues (State.next_argument before k) (token_at token at ∷ w)
argument_takes token at before k w h =
    by_sign sign.Ampersand token _ _ w (λ t. Begins next_arguments_then (BehindAll k) (token_at t at ∷ w)) (λ h. by_address w h)
    (λ h. by_value (token_at token at ∷ w) (value_takes token at (λ e. State.more_arguments (before ++ argument.Value e ∷ []) k) w h)) h
  where
    by_address : (w : List LocatedToken) → Continues (State.name_next (λ x. State.more_arguments (before ++ argument.Address x ∷ []) k)) w → Begins next_arguments_then (BehindAll k) (sign_then sign.Ampersand at w)
    by_address w (begins x rest (tree, h)) = argument_joined (Argument.address at x) k rest h

    by_value : (w : List LocatedToken) → Begins any_then (BehindValue (λ e. State.more_arguments (before ++ argument.Value e ∷ []) k)) w → Begins next_arguments_then (BehindAll k) w
    by_value w (begins (AnyExpression.any e) rest (tree, h)) = argument_joined (Argument.value e) k rest h

pub first_argument_takes : (token : Token) (at : Offset) (k : List (Arg Name) → State) (w : List LocatedToken) →
    Enters (step (State.first_argument k) token at) w → Continues (State.first_argument k) (token_at token at ∷ w)
first_argument_takes token at k w h =
    by_sign sign.ParenClose token _ _ w (λ t. Continues (State.first_argument k) (token_at t at ∷ w)) (λ h. begins (FirstArguments.none at) w ([], h))
    (λ h. by_next (token_at token at ∷ w) (argument_takes token at [] k w h)) h
  where
    by_next : (w : List LocatedToken) → Begins next_arguments_then (BehindAll k) w → Begins first_arguments_then (BehindAll k) w
    by_next w (begins (NextArguments.some all closing) rest h) = begins (FirstArguments.some all closing) rest h

pub more_arguments_take : (token : Token) (at : Offset) (before : List (Arg Name)) (k : List (Arg Name) → State) (w : List LocatedToken) →
    Enters (step (State.more_arguments before k) token at) w → Continues (State.more_arguments before k) (token_at token at ∷ w)
more_arguments_take token at before k w h =
    by_sign sign.Comma token _ _ w (λ t. Continues (State.more_arguments before k) (token_at t at ∷ w)) (λ h. by_next w h)
    (λ h. by_sign sign.ParenClose token _ _ w (λ t. Continues (State.more_arguments before k) (token_at t at ∷ w))
    (λ h. begins (MoreArguments.none at) w (before, h)) (λ h. absurd h) h) h
  where
    by_next : (w : List LocatedToken) → Begins next_arguments_then (BehindAll k) w → Begins more_arguments_then (BehindAll k) (sign_then sign.Comma at w)
    by_next w (begins (NextArguments.some all closing) rest h) = begins (MoreArguments.some at all closing) rest h

-- an expression or nothing in front of `;`
pub optional_takes : (token : Token) (at : Offset) (k : Option (Expr Name) → State) (w : List LocatedToken) →
    (Enters (step (k None) token at) w → Continues (k None) (token_at token at ∷ w)) →
    Enters (step (State.optional_value k) token at) w → Continues (State.optional_value k) (token_at token at ∷ w)
optional_takes token at k w passes h =
    by_either (is_sign sign.Semicolon token) (step (k None) token at) (value_step token at (λ e. k (Some e))) w (λ h. begins None (token_at token at ∷ w) (None, passes h))
    (λ h. by_value (token_at token at ∷ w) (value_takes token at (λ e. k (Some e)) w h)) h
  where
    by_value : (w : List LocatedToken) → Begins any_then (BehindValue (λ e. k (Some e))) w → Continues (State.optional_value k) w
    by_value w (begins e rest (tree, h)) = begins (Some e) rest (Some tree, h)
