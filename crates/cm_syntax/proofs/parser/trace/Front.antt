-- The tokens that parts of the grammar begin with.
use Rattle.std.proofs.Common.{◌≡◌, ℕ, ◌+◌, Bool, true, false, not, ◌&&◌, List, [], ◌∷◌, ◌++◌, refl, sym, ap, ◌∙◌, Some, append_assoc}
use Rattle.std.proofs.lemmas.Bool.{true≢false, false≢true}
use Rattle.cm_syntax.specs.declared.expr.Op.{Op}
use Rattle.cm_syntax.specs.declared.expr.Op.TheVariants as op
use Rattle.cm_syntax.specs.declared.token.Keyword.{Keyword}
use Rattle.cm_syntax.specs.declared.token.Keyword.TheVariants as keyword
use Rattle.cm_syntax.specs.declared.token.Sign.{Sign}
use Rattle.cm_syntax.specs.declared.token.Sign.TheVariants as sign
use Rattle.cm_syntax.specs.Text.{keyword_text, sign_text}
use Rattle.cm_syntax.specs.Token.{Token, LocatedToken}
use Rattle.cm_syntax.specs.ParseTree.{is_unary, Expression, AnyExpression, Simple, Plain, Statements, Offset}
use Rattle.cm_syntax.specs.ParseTree as grammar
use Rattle.cm_syntax.specs.Yield.{Quantity, CountedToken, counted_token, operators, sign_of, operators_of, expression_tokens, any_tokens, target_tokens, simple_tokens, plain_tokens, statements_tokens, sign_at, located_tokens}
use Rattle.cm_syntax.specs.Parser.{State, step, is_sign, is_word}
use Rattle.cm_syntax.specs.Lexer.{keyword_written, sign_written}
use Rattle.cm_syntax.proofs.lexing.Spelling.{keyword_written-text, sign_written-text, is_same-equal}
use Rattle.cm_syntax.proofs.YieldLaw.{regroup}
use Rattle.cm_syntax.proofs.parser.trace.Trace.{trace, next_trace, Leads, alike}

-- ---- signs and words

pub sign_token : (s : Sign) (token : Token) → is_sign s token ≡ true → token ≡ Token.sign s
sign_token s (Token.sign t) h =
    let texts : sign_text s ≡ sign_text t = is_same-equal (sign_text s) (sign_text t) h in
    let found : Some t ≡ Some s = sym (sign_written-text t) ∙ (ap sign_written (sym texts) ∙ sign_written-text s) in
    let same : t ≡ s = cc in ap Token.sign same
sign_token s (Token.keyword k) h = absurd (false≢true h)
sign_token s (Token.name x) h = absurd (false≢true h)
sign_token s (Token.number n) h = absurd (false≢true h)
sign_token s Token.unfit h = absurd (false≢true h)

pub word_token : (k : Keyword) (token : Token) → is_word k token ≡ true → token ≡ Token.keyword k
word_token k (Token.keyword j) h =
    let texts : keyword_text k ≡ keyword_text j = is_same-equal (keyword_text k) (keyword_text j) h in
    let found : Some j ≡ Some k = sym (keyword_written-text j) ∙ (ap keyword_written (sym texts) ∙ keyword_written-text k) in
    let same : j ≡ k = cc in ap Token.keyword same
word_token k (Token.sign s) h = absurd (false≢true h)
word_token k (Token.name x) h = absurd (false≢true h)
word_token k (Token.number n) h = absurd (false≢true h)
word_token k Token.unfit h = absurd (false≢true h)

-- a token that passes a test is no sign that doesn't
pub other_sign : (test : Token → Bool) (s : Sign) (token : Token) → test (Token.sign s) ≡ false → test token ≡ true → is_sign s token ≡ false
other_sign test s token fails h = by_sign (is_sign s token) refl
  where
    by_sign : (b : Bool) → is_sign s token ≡ b → b ≡ false
    by_sign true e = absurd (true≢false (sym h ∙ (ap test (sign_token s token e) ∙ fails)))
    by_sign false e = refl

-- a token that passes a test is no word that doesn't
pub other_word : (test : Token → Bool) (k : Keyword) (token : Token) → test (Token.keyword k) ≡ false → test token ≡ true → is_word k token ≡ false
other_word test k token fails h = by_word (is_word k token) refl
  where
    by_word : (b : Bool) → is_word k token ≡ b → b ≡ false
    by_word true e = absurd (true≢false (sym h ∙ (ap test (word_token k token e) ∙ fails)))
    by_word false e = refl

-- ---- the first token

-- the first token passes the test
abbrev pub begins_with : (Token → Bool) → List LocatedToken → Bool
begins_with test [] = false
begins_with test (t ∷ tokens) = test t.token

-- two states that do the same with the first token
pub trace_alike : (s other : State) (test : Token → Bool) (tokens : List LocatedToken) → begins_with test tokens ≡ true →
    ((t : LocatedToken) → test t.token ≡ true → step s t.token t.at ≡ step other t.token t.at) → trace s tokens ≡ trace other tokens
trace_alike s other test [] h e = absurd (false≢true h)
trace_alike s other test (t ∷ tokens) h e = ap (λ x. next_trace x t.at (λ next. trace next tokens)) (e t h)

-- what stands behind the front of one leads as far from the other
pub by_front : {s other last : State} {tokens : List CountedToken} {rest : List LocatedToken} (test : Token → Bool) → begins_with test (located_tokens tokens ++ rest) ≡ true →
    ((t : LocatedToken) → test t.token ≡ true → step s t.token t.at ≡ step other t.token t.at) → Leads other tokens rest last → Leads s tokens rest last
by_front {s} {other} {last} {tokens} {rest} test h e j = alike (trace_alike s other test (located_tokens tokens ++ rest) h e) j

-- a token that an expression may begin with
abbrev pub begins_value : Token → Bool
begins_value (Token.number n) = true
begins_value (Token.name x) = true
begins_value (Token.keyword keyword.Len) = true
begins_value (Token.keyword keyword.Input) = true
begins_value (Token.keyword keyword.Inputs) = true
begins_value (Token.sign sign.Star) = true
begins_value (Token.sign sign.ParenOpen) = true
begins_value (Token.sign sign.Minus) = true
begins_value (Token.sign sign.Exclamation) = true
begins_value (Token.sign sign.Tilde) = true
begins_value _ = false

sign_begins_value : (o : Op) → is_unary o ≡ true → begins_value (Token.sign (sign_of o)) ≡ true
sign_begins_value op.Neg e = refl
sign_begins_value op.Not e = refl
sign_begins_value op.Flip e = refl
sign_begins_value _ e = absurd (false≢true e)

pub expression_begins : {own : ℕ} (e : Expression own) (n : ℕ) (rest : List LocatedToken) → begins_with begins_value (located_tokens (expression_tokens n e) ++ rest) ≡ true
expression_begins (Expression.literal at value) n rest = refl
expression_begins (Expression.variable x) n rest = refl
expression_begins (Expression.element a opening index closing) n rest = refl
expression_begins (Expression.pointee star p) n rest = refl
expression_begins (Expression.called (grammar.Call.alone f opening closing)) n rest = refl
expression_begins (Expression.called (grammar.Call.with_ f opening arguments closing)) n rest = refl
expression_begins (Expression.len word opening a closing) n rest = refl
expression_begins (Expression.input word opening index closing) n rest = refl
expression_begins (Expression.inputs word opening closing) n rest = refl
expression_begins (Expression.grouped opening inner closing) n rest = refl
expression_begins (Expression.prefixed o unary at operand tight) n rest = sign_begins_value o unary
expression_begins (Expression.joined o binary left loose at right tight) n rest =
    let before = n + operators_of left in
    rw (regroup (expression_tokens n left) (counted_token (Token.sign (sign_of o)) at (operators (before + 1)) ∷ expression_tokens (before + 1) right) rest) (expression_begins left n _)

pub any_begins : (value : AnyExpression) (rest : List LocatedToken) → begins_with begins_value (located_tokens (any_tokens value) ++ rest) ≡ true
any_begins (AnyExpression.any e) rest = expression_begins e 0 rest

-- a token that an assignment or a call may begin with
abbrev pub begins_simple : Token → Bool
begins_simple (Token.name x) = true
begins_simple (Token.sign sign.Star) = true
begins_simple (Token.sign sign.PlusPlus) = true
begins_simple (Token.sign sign.MinusMinus) = true
begins_simple _ = false

target_begins : (written : grammar.Target) (first : Quantity) (more : List CountedToken) (rest : List LocatedToken) →
    begins_with begins_simple (located_tokens (target_tokens first written ++ more) ++ rest) ≡ true
target_begins (grammar.Target.scalar x) first more rest = refl
target_begins (grammar.Target.element a opening index closing) first more rest = refl
target_begins (grammar.Target.pointee star p) first more rest = refl

pub simple_begins : (s : Simple) (first : Quantity) (rest : List LocatedToken) → begins_with begins_simple (located_tokens (simple_tokens first s) ++ rest) ≡ true
simple_begins (Simple.assign written at value) first rest = target_begins written first _ rest
simple_begins (Simple.update written o updates at value) first rest = target_begins written first _ rest
simple_begins (Simple.step_after written up at) first rest = target_begins written first _ rest
simple_begins (Simple.step_before true at written) first rest = refl
simple_begins (Simple.step_before false at written) first rest = refl
simple_begins (Simple.call (grammar.Call.alone f opening closing)) first rest = refl
simple_begins (Simple.call (grammar.Call.with_ f opening arguments closing)) first rest = refl

-- a token that a statement of a block may begin with where it is no declaration
abbrev pub begins_plain : Token → Bool
begins_plain token = not (is_sign sign.BraceClose token) && (not (is_word keyword.Int token) && not (is_word keyword.Else token))

simple_plain : (tokens : List LocatedToken) → begins_with begins_simple tokens ≡ true → begins_with begins_plain tokens ≡ true
simple_plain [] h = h
simple_plain (t ∷ tokens) h =
    rw (other_sign begins_simple sign.BraceClose t.token refl h, other_word begins_simple keyword.Int t.token refl h, other_word begins_simple keyword.Else t.token refl h) refl

pub plain_begins : {is_open : Bool} (p : Plain is_open) (d inner : ℕ) (rest : List LocatedToken) → begins_with begins_plain (located_tokens (plain_tokens d inner p) ++ rest) ≡ true
plain_begins (Plain.simple s semicolon) d inner rest =
    simple_plain _ (rw (regroup (simple_tokens (Quantity.depth d) s) _ rest) (simple_begins s (Quantity.depth d) _))
plain_begins (Plain.empty semicolon) d inner rest = refl
plain_begins (Plain.block opening body closing) d inner rest = refl
plain_begins (Plain.if_alone word opening test closing chosen) d inner rest = refl
plain_begins (Plain.if_else word opening test closing chosen at other) d inner rest = refl
plain_begins (Plain.while word opening test closing body) d inner rest = refl
plain_begins (Plain.for word opening first at test second last closing body) d inner rest = refl
plain_begins (Plain.split word whole at index as_ left comma right opening body closing) d inner rest = refl
plain_begins (Plain.return word value semicolon) d inner rest = refl
plain_begins (Plain.print word opening value closing semicolon) d inner rest = refl
plain_begins (Plain.sync word semicolon) d inner rest = refl
plain_begins (Plain.spawn word call semicolon) d inner rest = refl
plain_begins (Plain.spawn_into x assign word call semicolon) d inner rest = refl

-- any token but `else`
abbrev pub no_else : Token → Bool
no_else token = not (is_word keyword.Else token)

plain_no_else : (tokens : List LocatedToken) → begins_with begins_plain tokens ≡ true → begins_with no_else tokens ≡ true
plain_no_else [] h = h
plain_no_else (t ∷ tokens) h = rw (other_word begins_plain keyword.Else t.token refl h) refl

-- the statements of a block begin with no `else`, nor does its closing brace
pub statements_no_else : (all : Statements) (d : ℕ) (closing : Offset) (rest : List LocatedToken) →
    begins_with no_else (located_tokens (statements_tokens d all ++ sign_at sign.BraceClose closing ∷ []) ++ rest) ≡ true
statements_no_else Statements.none d closing rest = refl
statements_no_else (Statements.declare declaration semicolon more) d closing rest = refl
statements_no_else (Statements.plain first more) d closing rest =
    rw (
      append_assoc (plain_tokens d (d + 1) first) (statements_tokens d more) (sign_at sign.BraceClose closing ∷ []),
      regroup (plain_tokens d (d + 1) first) (statements_tokens d more ++ sign_at sign.BraceClose closing ∷ []) rest,
    ) (plain_no_else _ (plain_begins first d (d + 1) _))
