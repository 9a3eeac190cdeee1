-- A token that is taken in a state of a statement, with what may follow the next state, may follow the state.
use Rattle.std.proofs.Common.{◌≡◌, ℕ, ◌+◌, Bool, true, false, List, [], ◌∷◌, ◌++◌, refl, ap, subst, None, Some}
use Rattle.std.proofs.lemmas.Bool.{false≢true}
use Rattle.cm_syntax.specs.declared.name.Name.{Name}
use Rattle.cm_syntax.specs.declared.expr.Expr.{Expr}
use Rattle.cm_syntax.specs.declared.expr.Call.{Call}
use Rattle.cm_syntax.specs.declared.stmt.Target.TheVariants as target
use Rattle.cm_syntax.specs.declared.stmt.Stmt.{Stmt}
use Rattle.cm_syntax.specs.declared.stmt.Stmt.TheVariants as statement
use Rattle.cm_syntax.specs.declared.token.Keyword.TheVariants as keyword
use Rattle.cm_syntax.specs.declared.token.Sign.TheVariants as sign
use Rattle.cm_syntax.specs.Token.{Token, LocatedToken, token_at}
use Rattle.cm_syntax.specs.ParseTree.{Mark, Offset, AnyExpression, Simple, Plain, Statements}
use Rattle.cm_syntax.specs.ParseTree as grammar
use Rattle.cm_syntax.specs.Yield.{Quantity}
use Rattle.cm_syntax.specs.Parser.{State, Next, step, is_sign, is_word, value, value_step, call, declaration, simple_step, with_semicolon, body, for_parts, split_parts, spawned, plain_step, statement_step}
use Rattle.cm_syntax.specs.Parser
use Rattle.cm_syntax.proofs.parser.takes.Written.{sign_then, word_then, name_then, call_then, any_then, optional_then, declaration_then, simple_then, first_part_then, last_part_then, plain_then}
use Rattle.cm_syntax.proofs.parser.takes.Wanted.{Begins, begins, Closed, closed_then, simple_name_then, AnyPlain, any_plain_then, Destination, destination_then, PlainName, plain_name_then, Otherwise, otherwise_then, Block, block_then, Continues}
use Rattle.cm_syntax.proofs.parser.takes.ExpressionTakes.{Enters, by_sign, by_word, BehindValue, value_begins, closed_begins, value_takes}
use Rattle.cm_syntax.proofs.parser.takes.StatementTakes.{BehindStatement, BehindCall, named_call, named_call_same, named_simple, named_simple_same, simple_takes, simple_name_takes, declaration_begins}

-- ---- an `else` belongs to the nearest `if`

-- a statement with an `else` behind it
record WithElse {is_open : Bool} (s : Plain is_open) (at : Offset) {last : Bool} (other : Plain last) : Type 0 where
  own : Bool
  made : Plain own
  same : (rest : List LocatedToken) → plain_then made rest ≡ plain_then s (word_then keyword.Else at (plain_then other rest))

module _ (at : Offset) {last : Bool} (other : Plain last) where
  if_with_else : (word opening : Offset) (test : AnyExpression) (closing : Offset) {is_open : Bool} (chosen : Plain is_open) →
      (is_open ≡ true → WithElse chosen at other) → WithElse (Plain.if_alone word opening test closing chosen) at other
  if_with_else word opening test closing {is_open = false} chosen more = record { own = last; made = Plain.if_else word opening test closing chosen at other; same = λ rest. refl }
  if_with_else word opening test closing {is_open = true} chosen more =
      let deep = more refl in record {
        own = true;
        made = Plain.if_alone word opening test closing deep.made;
        same = λ rest. ap (λ x. word_then keyword.If word (sign_then sign.ParenOpen opening (any_then test (sign_then sign.ParenClose closing x)))) (deep.same rest);
      }

  with_else : {is_open : Bool} (s : Plain is_open) → is_open ≡ true → WithElse s at other
  with_else (Plain.if_alone word opening test closing chosen) e = if_with_else word opening test closing chosen (λ e. with_else chosen e)
  with_else (Plain.if_else word opening test closing chosen offset more) e =
      let deep = with_else more e in record {
        own = deep.own;
        made = Plain.if_else word opening test closing chosen offset deep.made;
        same = λ rest. ap (λ x. word_then keyword.If word (sign_then sign.ParenOpen opening (any_then test (sign_then sign.ParenClose closing
            (plain_then chosen (word_then keyword.Else offset x)))))) (deep.same rest);
      }
  with_else (Plain.while word opening test closing inside) e =
      let deep = with_else inside e in record {
        own = deep.own;
        made = Plain.while word opening test closing deep.made;
        same = λ rest. ap (λ x. word_then keyword.While word (sign_then sign.ParenOpen opening (any_then test (sign_then sign.ParenClose closing x)))) (deep.same rest);
      }
  with_else (Plain.for word opening first semicolon test second last_part closing inside) e =
      let deep = with_else inside e in record {
        own = deep.own;
        made = Plain.for word opening first semicolon test second last_part closing deep.made;
        same = λ rest. ap (λ x. word_then keyword.For word (sign_then sign.ParenOpen opening (first_part_then first (sign_then sign.Semicolon semicolon
            (optional_then test (sign_then sign.Semicolon second (last_part_then last_part (sign_then sign.ParenClose closing x)))))))) (deep.same rest);
      }
  with_else s e = absurd (false≢true e)

-- ---- parts of statements

-- an expression between parentheses
data Parenthesized : Type 0 where
  parenthesized : (opening : Offset) → AnyExpression → (closing : Offset) → Parenthesized

abbrev parenthesized_then : Parenthesized → List LocatedToken → List LocatedToken
parenthesized_then (Parenthesized.parenthesized opening e closing) rest = sign_then sign.ParenOpen opening (any_then e (sign_then sign.ParenClose closing rest))

parenthesized_begins : (k : Expr Name → State) (w : List LocatedToken) → Continues (Parser.parenthesized k) w → Begins parenthesized_then (BehindValue k) w
parenthesized_begins k w (begins opening inside h) = by_closed inside (closed_begins sign.ParenClose k inside h)
  where
    by_closed : (w : List LocatedToken) → Begins (closed_then sign.ParenClose) (BehindValue k) w → Begins parenthesized_then (BehindValue k) (sign_then sign.ParenOpen opening w)
    by_closed w (begins (Closed.closed e closing) rest h) = begins (Parenthesized.parenthesized opening e closing) rest h

call_begins : (k : Call Name → State) (w : List LocatedToken) → Continues (call k) w → Begins call_then (BehindCall k) w
call_begins k w (begins f _ (name, begins opening _ (begins all rest (trees, h)))) =
    subst (Begins call_then (BehindCall k)) (named_call_same f opening all rest) (begins (named_call f opening all) rest (record { function = name; arguments = trees }, h))

-- ---- statements by their first word

abbrev StartsPlain : (Stmt Name → State) → List LocatedToken → Type 0
StartsPlain k w = Begins any_plain_then (BehindStatement k) w

module _ (at d : ℕ) (k : Stmt Name → State) where
  if_takes : (w : List LocatedToken) → Continues (Parser.parenthesized (λ test. body d (λ chosen. State.otherwise d test chosen k))) w → StartsPlain k (word_then keyword.If at w)
  if_takes w h = by_parts w (parenthesized_begins (λ test. body d (λ chosen. State.otherwise d test chosen k)) w h)
    where
      by_parts : (w : List LocatedToken) → Begins parenthesized_then (BehindValue (λ test. body d (λ chosen. State.otherwise d test chosen k))) w → StartsPlain k (word_then keyword.If at w)
      by_parts w (begins (Parenthesized.parenthesized opening e closing) _ (test, begins (AnyPlain.plain chosen) _ (tree, begins Otherwise.none rest h))) =
          begins (AnyPlain.plain (Plain.if_alone at opening e closing chosen)) rest h
      by_parts w (begins (Parenthesized.parenthesized opening e closing) _ (test, begins (AnyPlain.plain chosen) _ (tree, begins (Otherwise.some offset (AnyPlain.plain other)) rest h))) =
          let all = if_with_else offset other at opening e closing chosen (λ e. with_else offset other chosen e) in
          subst (Begins any_plain_then (BehindStatement k)) (all.same rest) (begins (AnyPlain.plain all.made) rest h)

  while_takes : (w : List LocatedToken) → Continues (Parser.parenthesized (λ test. body d (λ inside. k (statement.While test inside)))) w → StartsPlain k (word_then keyword.While at w)
  while_takes w h = by_parts w (parenthesized_begins (λ test. body d (λ inside. k (statement.While test inside))) w h)
    where
      by_parts : (w : List LocatedToken) → Begins parenthesized_then (BehindValue (λ test. body d (λ inside. k (statement.While test inside)))) w → StartsPlain k (word_then keyword.While at w)
      by_parts w (begins (Parenthesized.parenthesized opening e closing) _ (test, begins (AnyPlain.plain inside) rest (tree, h))) =
          begins (AnyPlain.plain (Plain.while at opening e closing inside)) rest (statement.While test tree, h)

  for_takes : (w : List LocatedToken) → Continues (for_parts d k) w → StartsPlain k (word_then keyword.For at w)
  for_takes w (begins opening _ (begins first _ (tree, begins semicolon _ (begins test _ (condition, begins second _ (begins after _ (last, begins closing _ (begins (AnyPlain.plain inside) rest (trees, h))))))))) =
      begins (AnyPlain.plain (Plain.for at opening first semicolon test second after closing inside)) rest (statement.For tree condition last trees, h)

  split_takes : (w : List LocatedToken) → Continues (split_parts d k) w → StartsPlain k (word_then keyword.Split at w)
  split_takes w (begins whole _ (array, begins offset inside h)) = by_value inside (value_begins (λ e. State.word_next keyword.As (halves e)) inside h)
    where
      halves : Expr Name → State
      halves e = State.name_next (λ left. State.sign_next sign.Comma (State.name_next (λ right. State.sign_next sign.BraceOpen
          (State.statements (d + 1) [] (λ inside close. k (statement.Split array e left right inside close))))))

      by_value : (w : List LocatedToken) → Begins any_then (BehindValue (λ e. State.word_next keyword.As (halves e))) w →
          StartsPlain k (word_then keyword.Split at (name_then whole (word_then keyword.At offset w)))
      by_value w (begins e _ (tree, begins as_ _ (begins left _ (l, begins comma _ (begins right _ (r, begins opening _ (begins (Block.block all closing) rest (trees, close, h)))))))) =
          begins (AnyPlain.plain (Plain.split at whole offset e as_ left comma right opening all closing)) rest (statement.Split array tree l r trees close, h)

  return_takes : (w : List LocatedToken) → Continues (State.optional_value (λ given. with_semicolon k (statement.Return at given))) w → StartsPlain k (word_then keyword.Return at w)
  return_takes w (begins e _ (given, begins semicolon rest h)) = begins (AnyPlain.plain (Plain.return at e semicolon)) rest (statement.Return at given, h)

  print_takes : (w : List LocatedToken) → Continues (Parser.parenthesized (λ e. with_semicolon k (statement.Print e))) w → StartsPlain k (word_then keyword.Print at w)
  print_takes w h = by_parts w (parenthesized_begins (λ e. with_semicolon k (statement.Print e)) w h)
    where
      by_parts : (w : List LocatedToken) → Begins parenthesized_then (BehindValue (λ e. with_semicolon k (statement.Print e))) w → StartsPlain k (word_then keyword.Print at w)
      by_parts w (begins (Parenthesized.parenthesized opening e closing) _ (tree, begins semicolon rest h)) =
          begins (AnyPlain.plain (Plain.print at opening e closing semicolon)) rest (statement.Print tree, h)

  spawn_takes : (w : List LocatedToken) → Continues (spawned at None k) w → StartsPlain k (word_then keyword.Spawn at w)
  spawn_takes w h = by_call w (call_begins (λ made. with_semicolon k (statement.Spawn at None made)) w h)
    where
      by_call : (w : List LocatedToken) → Begins call_then (BehindCall (λ made. with_semicolon k (statement.Spawn at None made))) w → StartsPlain k (word_then keyword.Spawn at w)
      by_call w (begins c _ (tree, begins semicolon rest h)) = begins (AnyPlain.plain (Plain.spawn at c semicolon)) rest (statement.Spawn at None tree, h)

  name_takes : (x : Mark) (w : List LocatedToken) → Continues (State.plain_name x k) w → StartsPlain k (name_then x w)
  name_takes x w (begins (PlainName.simple s semicolon) rest h) =
      subst (Begins any_plain_then (BehindStatement k)) (named_simple_same x s (sign_then sign.Semicolon semicolon rest)) (begins (AnyPlain.plain (Plain.simple (named_simple x s) semicolon)) rest h)
  name_takes x w (begins (PlainName.assign offset (Destination.spawn word c semicolon)) rest h) = begins (AnyPlain.plain (Plain.spawn_into x offset word c semicolon)) rest h
  name_takes x w (begins (PlainName.assign offset (Destination.value e semicolon)) rest h) =
      begins (AnyPlain.plain (Plain.simple (Simple.assign (grammar.Target.scalar x) offset e) semicolon)) rest h

  simple_plain : (w : List LocatedToken) → Begins simple_then (BehindStatement (with_semicolon k)) w → StartsPlain k w
  simple_plain w (begins s _ (tree, begins semicolon rest h)) = begins (AnyPlain.plain (Plain.simple s semicolon)) rest (tree, h)

pub plain_takes : (token : Token) (at : Offset) (d inner : ℕ) (k : Stmt Name → State) (w : List LocatedToken) →
    Enters (plain_step token at d inner k) w → Continues (State.plain d inner k) (token_at token at ∷ w)
plain_takes (Token.name x) at d inner k w h = name_takes at d k (record { name = x; at = at }) w h
plain_takes (Token.sign sign.Semicolon) at d inner k w h = begins (AnyPlain.plain (Plain.empty at)) w (statement.Empty, h)
plain_takes (Token.sign sign.BraceOpen) at d inner k w (begins (Block.block all closing) rest (trees, close, h)) = begins (AnyPlain.plain (Plain.block at all closing)) rest (statement.Block trees, h)
plain_takes (Token.sign s) at d inner k w h = simple_plain at d k (token_at (Token.sign s) at ∷ w) (simple_takes (Token.sign s) at (Quantity.depth d) (with_semicolon k) w h)
plain_takes (Token.keyword keyword.If) at d inner k w h = if_takes at d k w h
plain_takes (Token.keyword keyword.While) at d inner k w h = while_takes at d k w h
plain_takes (Token.keyword keyword.For) at d inner k w h = for_takes at d k w h
plain_takes (Token.keyword keyword.Split) at d inner k w h = split_takes at d k w h
plain_takes (Token.keyword keyword.Return) at d inner k w h = return_takes at d k w h
plain_takes (Token.keyword keyword.Print) at d inner k w h = print_takes at d k w h
plain_takes (Token.keyword keyword.Sync) at d inner k w (begins semicolon rest h) = begins (AnyPlain.plain (Plain.sync at semicolon)) rest (statement.Sync at, h)
plain_takes (Token.keyword keyword.Spawn) at d inner k w h = spawn_takes at d k w h
plain_takes (Token.keyword _) at d inner k w h = absurd h
plain_takes (Token.number _) at d inner k w h = absurd h
plain_takes Token.unfit at d inner k w h = absurd h

-- ---- behind parts of statements

pub destination_takes : (x : Mark) (token : Token) (at : Offset) (k : Stmt Name → State) (w : List LocatedToken) →
    Enters (step (State.destination x k) token at) w → Continues (State.destination x k) (token_at token at ∷ w)
destination_takes x token at k w h =
    by_word keyword.Spawn token _ _ w (λ t. Continues (State.destination x k) (token_at t at ∷ w))
    (λ h. by_call w (call_begins (λ made. with_semicolon k (statement.Spawn at (Some x) made)) w h))
    (λ h. by_value (token_at token at ∷ w) (value_takes token at (λ e. with_semicolon k (statement.Assign (target.Scalar x) None e)) w h)) h
  where
    by_call : (w : List LocatedToken) → Begins call_then (BehindCall (λ made. with_semicolon k (statement.Spawn at (Some x) made))) w → Begins destination_then (BehindStatement k) (word_then keyword.Spawn at w)
    by_call w (begins c _ (tree, begins semicolon rest h)) = begins (Destination.spawn at c semicolon) rest (statement.Spawn at (Some x) tree, h)

    by_value : (w : List LocatedToken) → Begins any_then (BehindValue (λ e. with_semicolon k (statement.Assign (target.Scalar x) None e))) w → Begins destination_then (BehindStatement k) w
    by_value w (begins e _ (tree, begins semicolon rest h)) = begins (Destination.value e semicolon) rest (statement.Assign (target.Scalar x) None tree, h)

pub plain_name_takes : (x : Mark) (token : Token) (at : Offset) (k : Stmt Name → State) (w : List LocatedToken) →
    Enters (step (State.plain_name x k) token at) w → Continues (State.plain_name x k) (token_at token at ∷ w)
plain_name_takes x token at k w h =
    by_sign sign.Assign token _ _ w (λ t. Continues (State.plain_name x k) (token_at t at ∷ w)) (λ h. by_destination w h)
    (λ h. by_simple (token_at token at ∷ w) (simple_name_takes x token at (with_semicolon k) w h)) h
  where
    by_destination : (w : List LocatedToken) → Continues (State.destination x k) w → Begins plain_name_then (BehindStatement k) (sign_then sign.Assign at w)
    by_destination w (begins d rest h) = begins (PlainName.assign at d) rest h

    by_simple : (w : List LocatedToken) → Begins simple_name_then (BehindStatement (with_semicolon k)) w → Begins plain_name_then (BehindStatement k) w
    by_simple w (begins s _ (tree, begins semicolon rest h)) = begins (PlainName.simple s semicolon) rest (tree, h)

pub otherwise_takes : (d : ℕ) (test : Expr Name) (chosen : Stmt Name) (token : Token) (at : Offset) (k : Stmt Name → State) (w : List LocatedToken) →
    (Enters (step (k (statement.If test chosen None)) token at) w → Continues (k (statement.If test chosen None)) (token_at token at ∷ w)) →
    Enters (step (State.otherwise d test chosen k) token at) w → Continues (State.otherwise d test chosen k) (token_at token at ∷ w)
otherwise_takes d test chosen token at k w passes h =
    by_word keyword.Else token _ _ w (λ t. Continues (State.otherwise d test chosen k) (token_at t at ∷ w)) (λ h. by_body w h)
    (λ h. begins Otherwise.none (token_at token at ∷ w) (statement.If test chosen None, passes h)) h
  where
    by_body : (w : List LocatedToken) → Continues (body d (λ other. k (statement.If test chosen (Some other)))) w → Begins otherwise_then (BehindStatement k) (word_then keyword.Else at w)
    by_body w (begins other rest (tree, h)) = begins (Otherwise.some at other) rest (statement.If test chosen (Some tree), h)

-- behind statements a continuation goes on
abbrev BehindBlock : (List (Stmt Name) → Offset → State) → List LocatedToken → Type 0
BehindBlock k rest = (all : List (Stmt Name)) × (at : Offset) × Continues (k all at) rest

pub statements_take : (token : Token) (at d : ℕ) (before : List (Stmt Name)) (k : List (Stmt Name) → Offset → State) (w : List LocatedToken) →
    Enters (step (State.statements d before k) token at) w → Continues (State.statements d before k) (token_at token at ∷ w)
statements_take token at d before k w h =
    by_sign sign.BraceClose token _ _ w (λ t. Continues (State.statements d before k) (token_at t at ∷ w)) (λ h. begins (Block.block Statements.none at) w (before, at, h))
    (λ h. by_word keyword.Int token _ _ w (λ t. Continues (State.statements d before k) (token_at t at ∷ w))
    (λ h. by_declaration (word_then keyword.Int at w) (declaration_begins at (with_semicolon (λ s. State.statements d (before ++ s ∷ []) k)) w h))
    (λ h. by_plain (token_at token at ∷ w) (plain_takes token at d (d + 1) (λ s. State.statements d (before ++ s ∷ []) k) w h)) h) h
  where
    by_declaration : (w : List LocatedToken) → Begins declaration_then (BehindStatement (with_semicolon (λ s. State.statements d (before ++ s ∷ []) k))) w → Begins block_then (BehindBlock k) w
    by_declaration w (begins declaration _ (tree, begins semicolon _ (begins (Block.block all closing) rest h))) = begins (Block.block (Statements.declare declaration semicolon all) closing) rest h

    by_plain : (w : List LocatedToken) → Begins any_plain_then (BehindStatement (λ s. State.statements d (before ++ s ∷ []) k)) w → Begins block_then (BehindBlock k) w
    by_plain w (begins (AnyPlain.plain s) _ (tree, begins (Block.block all closing) rest h)) = begins (Block.block (Statements.plain s all) closing) rest h
