-- The canonical text of each expression has a parse tree, which stands for the expression in all but offsets.
use Rattle.std.proofs.Common.{◌≡◌, ℕ, ◌+◌, ◌≤◌, Bool, true, false, List, [], ◌∷◌, ◌++◌, refl, sym, ap, ◌∙◌, subst, arith}
use Rattle.std.specs.Prelude.{⊤, nat_lt, pos, map}
use Rattle.std.proofs.lemmas.Bool.{ltb-false}
use Rattle.cm_syntax.specs.declared.name.Name.{Name}
use Rattle.cm_syntax.specs.declared.token.Keyword.TheVariants as keyword
use Rattle.cm_syntax.specs.declared.token.Sign.TheVariants as sign
use Rattle.cm_syntax.specs.declared.expr.Op.{Op}
use Rattle.cm_syntax.specs.declared.expr.Op.TheVariants as op
use Rattle.cm_syntax.specs.declared.expr.Expr.{Expr}
use Rattle.cm_syntax.specs.declared.expr.Expr.TheVariants as expression
use Rattle.cm_syntax.specs.declared.expr.Arg.{Arg}
use Rattle.cm_syntax.specs.declared.expr.Arg.TheVariants as argument
use Rattle.cm_syntax.specs.declared.expr.Call.{Call}
use Rattle.cm_syntax.specs.Shape.{Element, Index-Element}
use Rattle.cm_syntax.specs.Token.{Token, token_at}
use Rattle.cm_syntax.specs.ParseTree.{Mark, level_of, Expression, Arguments, Argument}
use Rattle.cm_syntax.specs.ParseTree as grammar
use Rattle.cm_syntax.specs.Yield.{CountedToken, counted_token, Quantity, operators_of, expression_tokens, call_tokens, arguments_tokens, argument_tokens, simple_call_tokens, located_tokens, sign_of}
use Rattle.cm_syntax.specs.Lowering.{lower_expression, lower_call, lower_arguments, lower_argument}
use Rattle.cm_syntax.specs.Canonical.{sign_token, own_level, parenthesize, expression_text, argument_text}
use Rattle.cm_syntax.specs.Offset.{bare, bare_expression, bare_argument, bare_call}
use Rattle.cm_syntax.proofs.YieldLaw.{located-append}
use Rattle.cm_syntax.proofs.printing.Laying.{Writable, AllWritable, behind, laid}
use Rattle.cm_syntax.proofs.printing.TextLaw.{text-Binary, level-Binary, bare-Binary, text-Unary, level-Unary, bare-Unary, bare-Index, text-Input, bare-Input, IndexText, starred, bracketed, index_text, listed, text-Call, bare-Call}

-- ---- tokens laid out

-- the offset behind tokens and the space after each of them
abbrev pub past : ℕ → List Token → ℕ
past at [] = at
past at (t ∷ ts) = past (behind at t) ts

-- the tokens of a parse tree are these, laid out from an offset on, and they can be written
pub record Lays (at : ℕ) (xs : List CountedToken) (ts : List Token) : Type 0 where
  pub places : located_tokens xs ≡ laid at ts
  pub writable : AllWritable ts

pub none : {at : ℕ} → Lays at [] []
none = record { places = refl; writable = tt }

pub one : {at : ℕ} (t : Token) {q : Quantity} → Writable t → {xs : List CountedToken} {ts : List Token} → Lays (behind at t) xs ts → Lays at (counted_token t at q ∷ xs) (t ∷ ts)
one {at} t w h = record { places = ap (λ ps. token_at t at ∷ ps) h.places; writable = (w, h.writable) }

laid-append : (at : ℕ) (ts us : List Token) → laid at (ts ++ us) ≡ laid at ts ++ laid (past at ts) us
laid-append at [] us = refl
laid-append at (t ∷ ts) us = ap (λ ps. token_at t at ∷ ps) (laid-append (behind at t) ts us)

writable-append : (ts us : List Token) → AllWritable ts → AllWritable us → AllWritable (ts ++ us)
writable-append [] us h i = i
writable-append (t ∷ ts) us h i = (h.0, writable-append ts us h.1 i)

pub both : {at : ℕ} {xs ys : List CountedToken} (ts : List Token) {us : List Token} → Lays at xs ts → Lays (past at ts) ys us → Lays at (xs ++ ys) (ts ++ us)
both {at} {xs} {ys} ts {us} h i = record {
  places = located-append xs ys ∙ (ap (λ ps. ps ++ located_tokens ys) h.places ∙ (ap (λ ps. laid at ts ++ ps) i.places ∙ sym (laid-append at ts us)));
  writable = writable-append ts us h.writable i.writable;
}

pub as_text : {at : ℕ} {xs : List CountedToken} {ts us : List Token} → us ≡ ts → Lays at xs ts → Lays at xs us
as_text {at} {xs} same h = subst (Lays at xs) (sym same) h

-- the tokens can be written
abbrev pub AreWritable : List CountedToken → Type 0
AreWritable [] = ⊤
AreWritable (x ∷ xs) = Writable x.located.token × AreWritable xs

pub front_writable : (xs ys : List CountedToken) → AreWritable (xs ++ ys) → AreWritable xs
front_writable [] ys h = tt
front_writable (x ∷ xs) ys h = (h.0, front_writable xs ys h.1)

pub back_writable : (xs ys : List CountedToken) → AreWritable (xs ++ ys) → AreWritable ys
back_writable [] ys h = h
back_writable (x ∷ xs) ys h = back_writable xs ys h.1

-- a name at another offset
abbrev pub moved : Mark → ℕ → Mark
moved x at = record { name = x.name; at = at }

-- ---- expressions

-- a parse tree of the expression's text, laid out from an offset on
pub record PrintedExpression (at : ℕ) (e : Expr Name) : Type 0 where
  pub level : ℕ
  pub own : level ≡ own_level e
  pub parse : Expression level
  pub lays : (n : ℕ) → Lays at (expression_tokens n parse) (expression_text e)
  pub same : bare_expression (lower_expression parse) ≡ bare_expression e

-- the same in parentheses, where the expression's own level is lower than this one
pub record PrintedOperand (at least : ℕ) (e : Expr Name) : Type 0 where
  pub level : ℕ
  pub high : least ≤ level
  pub parse : Expression level
  pub lays : (n : ℕ) → Lays at (expression_tokens n parse) (parenthesize (nat_lt (own_level e) least) (expression_text e))
  pub same : bare_expression (lower_expression parse) ≡ bare_expression e

operand : (at least : ℕ) (e : Expr Name) → least ≤ 12 → ((at : ℕ) → PrintedExpression at e) → PrintedOperand at least e
operand at least e le printed = by_test (nat_lt (own_level e) least) refl
  where
    by_test : (b : Bool) → nat_lt (own_level e) least ≡ b → PrintedOperand at least e
    by_test true low =
        let inner = printed (behind at (Token.sign sign.ParenOpen)) in
        record {
          level = 12;
          high = le;
          parse = Expression.grouped at inner.parse (past (behind at (Token.sign sign.ParenOpen)) (expression_text e));
          lays = λ n. as_text (ap (λ b. parenthesize b (expression_text e)) low)
              (one (Token.sign sign.ParenOpen) tt (both (expression_text e) (inner.lays 0) (one (Token.sign sign.ParenClose) tt none)));
          same = inner.same;
        }
    by_test false high =
        let inner = printed at in
        record {
          level = inner.level;
          high = let le = ltb-false (own_level e) least high in omega (arith, inner.own, le);
          parse = inner.parse;
          lays = λ n. as_text (ap (λ b. parenthesize b (expression_text e)) high) (inner.lays n);
          same = inner.same;
        }

levels : (o : Op) → level_of o + 1 ≤ 12
levels op.Neg = omega arith
levels op.Not = omega arith
levels op.Flip = omega arith
levels op.Mul = omega arith
levels op.Div = omega arith
levels op.Rem = omega arith
levels op.Add = omega arith
levels op.Sub = omega arith
levels op.Shl = omega arith
levels op.Shr = omega arith
levels op.Lt = omega arith
levels op.Le = omega arith
levels op.Gt = omega arith
levels op.Ge = omega arith
levels op.Eq = omega arith
levels op.Ne = omega arith
levels op.And = omega arith
levels op.Xor = omega arith
levels op.Or = omega arith
levels op.Both = omega arith
levels op.Either = omega arith

-- a call, as an expression and as a statement
pub record PrintedCall (at : ℕ) (call : Call Name) : Type 0 where
  pub parse : grammar.Call
  pub lays : Lays at (call_tokens parse) (expression_text (expression.Call call))
  pub begins : (first : Quantity) → Lays at (simple_call_tokens first parse) (expression_text (expression.Call call))
  pub same : bare_call (lower_call parse) ≡ bare_call call

pub record PrintedArguments (at : ℕ) (all : List (Arg Name)) : Type 0 where
  pub parse : Arguments
  pub lays : Lays at (arguments_tokens parse) (listed all)
  pub same : map bare_argument (lower_arguments parse) ≡ map bare_argument all

pub record PrintedArgument (at : ℕ) (one : Arg Name) : Type 0 where
  pub parse : Argument
  pub lays : Lays at (argument_tokens parse) (argument_text one)
  pub same : bare_argument (lower_argument parse) ≡ bare_argument one

listed-more : (first : Arg Name) (more : Arguments) → listed (first ∷ lower_arguments more) ≡ argument_text first ++ (sign_token sign.Comma ∷ listed (lower_arguments more))
listed-more first (Arguments.last second) = refl
listed-more first (Arguments.before second comma more) = refl

-- `* p` for an element whose offset is the literal 0
starred_element : (a : Mark) (e : Expr Name) → Writable (Token.name a.name) → e ≡ expression.Number (pos 0) → (at : ℕ) → PrintedExpression at (expression.Index a e)
starred_element a e w zero_is at = record {
  level = 12;
  own = refl;
  parse = Expression.pointee at (moved a (behind at (Token.sign sign.Star)));
  lays = λ n. as_text (ap expression_text (Index-Element a e) ∙ ap (λ x. expression_text (Element a x)) zero_is) (one (Token.sign sign.Star) tt (one (Token.name a.name) w none));
  same = bare-Index (moved a (behind at (Token.sign sign.Star))) (expression.Number (pos 0)) ∙
      (ap (λ x. expression.Index (bare a) (bare_expression x)) (sym zero_is) ∙ sym (bare-Index a e));
}

element_by : (a : Mark) (e : Expr Name) → Writable (Token.name a.name) → ((at : ℕ) → PrintedExpression at e) → IndexText e → (at : ℕ) → PrintedExpression at (expression.Index a e)
element_by a e w printed (starred zero_is) at = starred_element a e w zero_is at
element_by a e w printed (bracketed text _) at =
    let opening = behind at (Token.name a.name) in
    let inner = printed (behind opening (Token.sign sign.BracketOpen)) in
    record {
      level = 12;
      own = refl;
      parse = Expression.element (moved a at) opening inner.parse (past (behind opening (Token.sign sign.BracketOpen)) (expression_text e));
      lays = λ n. as_text (ap expression_text (Index-Element a e) ∙ text a)
          (one (Token.name a.name) w (one (Token.sign sign.BracketOpen) tt (both (expression_text e) (inner.lays 0) (one (Token.sign sign.BracketClose) tt none))));
      same = bare-Index (moved a at) (lower_expression inner.parse) ∙ (ap (λ x. expression.Index (bare a) x) inner.same ∙ sym (bare-Index a e));
    }

mutual
  pub print_expression : {level : ℕ} (n : ℕ) (p : Expression level) → AreWritable (expression_tokens n p) → (at : ℕ) → PrintedExpression at (lower_expression p)
  print_expression n (Expression.literal _ value) w at =
      record { level = 12; own = refl; parse = Expression.literal at value; lays = λ m. one (Token.number value) w.0 none; same = refl }
  print_expression n (Expression.variable x) w at =
      record { level = 12; own = refl; parse = Expression.variable (moved x at); lays = λ m. one (Token.name x.name) w.0 none; same = refl }
  print_expression n (Expression.element a opening index closing) w at =
      element_by a (lower_expression index) w.0 (print_expression 0 index (front_writable (expression_tokens 0 index) _ w.1.1)) (index_text (lower_expression index)) at
  print_expression n (Expression.pointee star p) w at = starred_element p (expression.Number (pos 0)) w.1.0 refl at
  print_expression n (Expression.called call) w at =
      let printed = print_call call w at in
      record {
        level = 12;
        own = refl;
        parse = Expression.called printed.parse;
        lays = λ m. printed.lays;
        same = bare-Call (lower_call printed.parse) ∙ (ap expression.Call printed.same ∙ sym (bare-Call (lower_call call)));
      }
  print_expression n (Expression.len word opening a closing) w at = record {
    level = 12;
    own = refl;
    parse = Expression.len at _ (moved a _) _;
    lays = λ m. one (Token.keyword keyword.Len) tt (one (Token.sign sign.ParenOpen) tt (one (Token.name a.name) w.1.1.0 (one (Token.sign sign.ParenClose) tt none)));
    same = refl;
  }
  print_expression n (Expression.input word opening index closing) w at =
      let e = lower_expression index in
      let inside = behind (behind at (Token.keyword keyword.Input)) (Token.sign sign.ParenOpen) in
      let inner = print_expression 0 index (front_writable (expression_tokens 0 index) _ w.1.1) inside in
      record {
        level = 12;
        own = refl;
        parse = Expression.input at (behind at (Token.keyword keyword.Input)) inner.parse (past inside (expression_text e));
        lays = λ m. as_text (text-Input e)
            (one (Token.keyword keyword.Input) tt (one (Token.sign sign.ParenOpen) tt (both (expression_text e) (inner.lays 0) (one (Token.sign sign.ParenClose) tt none))));
        same = bare-Input (lower_expression inner.parse) ∙ (ap expression.Input inner.same ∙ sym (bare-Input e));
      }
  print_expression n (Expression.inputs word opening closing) w at = record {
    level = 12;
    own = refl;
    parse = Expression.inputs at _ _;
    lays = λ m. one (Token.keyword keyword.Inputs) tt (one (Token.sign sign.ParenOpen) tt (one (Token.sign sign.ParenClose) tt none));
    same = refl;
  }
  print_expression n (Expression.grouped opening inner closing) w at = print_expression 0 inner (front_writable (expression_tokens 0 inner) _ w.1) at
  print_expression n (Expression.prefixed o unary _ p tight) w at =
      let e = lower_expression p in
      let inner = operand (behind at (Token.sign (sign_of o))) (level_of o) e (let le = levels o in omega (arith, le)) (print_expression (n + 1) p w.1) in
      record {
        level = level_of o;
        own = sym (level-Unary o e);
        parse = Expression.prefixed o unary at inner.parse inner.high;
        lays = λ m. as_text (text-Unary o e) (one (Token.sign (sign_of o)) tt (inner.lays (m + 1)));
        same = bare-Unary o (lower_expression inner.parse) ∙ (ap (λ x. expression.Unary o x) inner.same ∙ sym (bare-Unary o e));
      }
  print_expression n (Expression.joined o binary p loose _ q tight) w at =
      let e = lower_expression p in
      let f = lower_expression q in
      let le = levels o in
      let text = parenthesize (nat_lt (own_level e) (level_of o)) (expression_text e) in
      let behind_left = back_writable (expression_tokens n p) _ w in
      let left = operand at (level_of o) e (omega (arith, le)) (print_expression n p (front_writable (expression_tokens n p) _ w)) in
      let right = operand (behind (past at text) (Token.sign (sign_of o))) (level_of o + 1) f le (print_expression (n + operators_of p + 1) q behind_left.1) in
      record {
        level = level_of o;
        own = sym (level-Binary o e f);
        parse = Expression.joined o binary left.parse left.high (past at text) right.parse (let high = right.high in omega (arith, high));
        lays = λ m. as_text (text-Binary o e f) (both text (left.lays m) (one (Token.sign (sign_of o)) tt (right.lays (m + operators_of left.parse + 1))));
        same = bare-Binary o (lower_expression left.parse) (lower_expression right.parse) ∙ (ap (λ x. expression.Binary o x (bare_expression (lower_expression right.parse))) left.same ∙
            (ap (λ x. expression.Binary o (bare_expression e) x) right.same ∙ sym (bare-Binary o e f)));
      }

  pub print_call : (p : grammar.Call) → AreWritable (call_tokens p) → (at : ℕ) → PrintedCall at (lower_call p)
  print_call (grammar.Call.alone f opening closing) w at =
      let call : Call Name = record { function = f; arguments = [] } in
      let parse = grammar.Call.alone (moved f at) (behind at (Token.name f.name)) (behind (behind at (Token.name f.name)) (Token.sign sign.ParenOpen)) in
      record {
        parse = parse;
        lays = as_text (text-Call call) (one (Token.name f.name) w.0 (one (Token.sign sign.ParenOpen) tt (one (Token.sign sign.ParenClose) tt none)));
        begins = λ first. as_text (text-Call call) (one (Token.name f.name) w.0 (one (Token.sign sign.ParenOpen) tt (one (Token.sign sign.ParenClose) tt none)));
        same = refl;
      }
  print_call (grammar.Call.with_ f opening arguments closing) w at =
      let all = lower_arguments arguments in
      let call : Call Name = record { function = f; arguments = all } in
      let inside = behind (behind at (Token.name f.name)) (Token.sign sign.ParenOpen) in
      let inner = print_arguments arguments (front_writable (arguments_tokens arguments) _ w.1.1) inside in
      record {
        parse = grammar.Call.with_ (moved f at) (behind at (Token.name f.name)) inner.parse (past inside (listed all));
        lays = as_text (text-Call call) (one (Token.name f.name) w.0 (one (Token.sign sign.ParenOpen) tt (both (listed all) inner.lays (one (Token.sign sign.ParenClose) tt none))));
        begins = λ first. as_text (text-Call call) (one (Token.name f.name) w.0 (one (Token.sign sign.ParenOpen) tt (both (listed all) inner.lays (one (Token.sign sign.ParenClose) tt none))));
        same = ap (λ (x : List (Arg Name)). record { function = bare f; arguments = x }) inner.same;
      }

  print_arguments : (p : Arguments) → AreWritable (arguments_tokens p) → (at : ℕ) → PrintedArguments at (lower_arguments p)
  print_arguments (Arguments.last argument) w at =
      let printed = print_argument argument w at in
      record { parse = Arguments.last printed.parse; lays = printed.lays; same = ap (λ x. x ∷ []) printed.same }
  print_arguments (Arguments.before argument comma more) w at =
      let first = lower_argument argument in
      let printed = print_argument argument (front_writable (argument_tokens argument) _ w) at in
      let behind_first = back_writable (argument_tokens argument) _ w in
      let rest = print_arguments more behind_first.1 (behind (past at (argument_text first)) (Token.sign sign.Comma)) in
      record {
        parse = Arguments.before printed.parse (past at (argument_text first)) rest.parse;
        lays = as_text (listed-more first more) (both (argument_text first) printed.lays (one (Token.sign sign.Comma) tt rest.lays));
        same = ap (λ x. x ∷ map bare_argument (lower_arguments rest.parse)) printed.same ∙ ap (λ t. bare_argument first ∷ t) rest.same;
      }

  print_argument : (p : Argument) → AreWritable (argument_tokens p) → (at : ℕ) → PrintedArgument at (lower_argument p)
  print_argument (Argument.value value) w at =
      let printed = print_expression 0 value w at in
      record { parse = Argument.value printed.parse; lays = printed.lays 0; same = ap argument.Value printed.same }
  print_argument (Argument.address _ x) w at = record {
    parse = Argument.address at (moved x (behind at (Token.sign sign.Ampersand)));
    lays = one (Token.sign sign.Ampersand) tt (one (Token.name x.name) w.1.0 none);
    same = refl;
  }
