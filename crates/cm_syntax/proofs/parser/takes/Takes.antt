-- A token that is taken, with what may follow the next state, may follow the state. So tokens that were taken are the
-- first ones of a program, and where they may end they are one.
use Rattle.std.proofs.Common.{◌≡◌, Bool, true, false, List, [], ◌∷◌, ◌++◌, refl, ap, subst, Option, None, Some}
use Rattle.std.specs.Prelude.{if◌then◌else◌}
use Rattle.cm_syntax.specs.declared.name.Name.{Name}
use Rattle.cm_syntax.specs.declared.expr.Expr.TheVariants as expression
use Rattle.cm_syntax.specs.declared.stmt.Slot.TheVariants as slot
use Rattle.cm_syntax.specs.declared.stmt.Item.{Item}
use Rattle.cm_syntax.specs.declared.stmt.Target.TheVariants as target
use Rattle.cm_syntax.specs.declared.stmt.Stmt.TheVariants as statement
use Rattle.cm_syntax.specs.declared.stmt.Function.{Function}
use Rattle.cm_syntax.specs.declared.token.Keyword.TheVariants as keyword
use Rattle.cm_syntax.specs.declared.token.Sign.TheVariants as sign
use Rattle.cm_syntax.specs.Token.{Token, LocatedToken, token_at}
use Rattle.cm_syntax.specs.ParseTree.{Mark, Offset, Parameter, ParameterList, Parameters}
use Rattle.cm_syntax.specs.ParseTree as grammar
use Rattle.cm_syntax.specs.Parser.{State, step, finish, item, parameter, parameter_step, function_of, type_step, function_step}
use Rattle.cm_syntax.proofs.parser.takes.Written.{sign_then, word_then, parameter_then, parameter_list_then, cilk_then, function_then}
use Rattle.cm_syntax.proofs.parser.takes.Wanted.{Begins, begins, Tail, OperandName, ItemName, MoreItems, TargetName, Otherwise, Block, Declarator, declarator_then, ParameterName, parameter_name_then, FirstParameters, first_parameters_then, MoreParameters, more_parameters_then, ReturnType, Functions, Continues}
use Rattle.cm_syntax.proofs.parser.takes.ExpressionTakes.{Enters, by_sign, by_word, operand_takes, operand_name_takes, operators_take, name_takes, argument_takes, first_argument_takes, more_arguments_take, optional_takes}
use Rattle.cm_syntax.proofs.parser.takes.StatementTakes.{BehindItem, BehindItems, words_take, item_name_takes, more_items_take, target_takes, target_name_takes, writing_takes, simple_takes, simple_name_takes, first_part_takes, last_part_takes}
use Rattle.cm_syntax.proofs.parser.takes.PlainTakes.{plain_takes, destination_takes, plain_name_takes, otherwise_takes, statements_take}

-- ---- parameters

parameter_takes : (token : Token) (at : Offset) (k : Item Name → State) (w : List LocatedToken) → Enters (parameter_step token at k) w → Continues (State.parameter_declarator k) (token_at token at ∷ w)
parameter_takes (Token.name x) at k w h = by_name w h
  where
    by_name : (w : List LocatedToken) → Continues (State.parameter_name (record { name = x; at = at }) k) w → Begins declarator_then (BehindItem k) (token_at (Token.name x) at ∷ w)
    by_name w (begins ParameterName.nothing rest h) = begins (Declarator.scalar (record { name = x; at = at })) rest h
    by_name w (begins (ParameterName.slice opening closing) rest h) = begins (Declarator.slice (record { name = x; at = at }) opening closing) rest h
parameter_takes (Token.sign sign.Star) at k w (begins p rest (tree, h)) = begins (Declarator.pointer at p) rest (item tree slot.Slice, h)
parameter_takes (Token.sign _) at k w h = absurd h
parameter_takes (Token.keyword _) at k w h = absurd h
parameter_takes (Token.number _) at k w h = absurd h
parameter_takes Token.unfit at k w h = absurd h

parameter_name_takes : (x : Mark) (token : Token) (at : Offset) (k : Item Name → State) (w : List LocatedToken) →
    (Enters (step (k (item x slot.Scalar)) token at) w → Continues (k (item x slot.Scalar)) (token_at token at ∷ w)) →
    Enters (step (State.parameter_name x k) token at) w → Continues (State.parameter_name x k) (token_at token at ∷ w)
parameter_name_takes x token at k w passes h =
    by_sign sign.BracketOpen token _ _ w (λ t. Continues (State.parameter_name x k) (token_at t at ∷ w)) (λ h. by_slice w h)
    (λ h. begins ParameterName.nothing (token_at token at ∷ w) (item x slot.Scalar, passes h)) h
  where
    by_slice : (w : List LocatedToken) → Continues (State.sign_next sign.BracketClose (k (item x slot.Slice))) w → Begins parameter_name_then (BehindItem k) (sign_then sign.BracketOpen at w)
    by_slice w (begins closing rest h) = begins (ParameterName.slice at closing) rest (item x slot.Slice, h)

-- a parameter, behind its `int`
typed_parameter : (int_at : Offset) → Declarator → Parameter
typed_parameter int_at (Declarator.scalar x) = Parameter.scalar int_at x
typed_parameter int_at (Declarator.slice a opening closing) = Parameter.slice int_at a opening closing
typed_parameter int_at (Declarator.pointer star p) = Parameter.pointer int_at star p

typed_parameter_same : (int_at : Offset) (d : Declarator) (rest : List LocatedToken) → parameter_then (typed_parameter int_at d) rest ≡ word_then keyword.Int int_at (declarator_then d rest)
unfolding typed_parameter
typed_parameter_same int_at (Declarator.scalar x) rest = refl
typed_parameter_same int_at (Declarator.slice a opening closing) rest = refl
typed_parameter_same int_at (Declarator.pointer star p) rest = refl

-- parameters and `)`
data Listed : Type 0 where
  listed : ParameterList → (closing : Offset) → Listed

abbrev listed_then : Listed → List LocatedToken → List LocatedToken
listed_then (Listed.listed all closing) rest = parameter_list_then all (sign_then sign.ParenClose closing rest)

-- a parameter, and what follows it
parameter_joined : (p : Parameter) (k : List (Item Name) → State) (w : List LocatedToken) → Begins more_parameters_then (BehindItems k) w → Begins listed_then (BehindItems k) (parameter_then p w)
parameter_joined p k w (begins (MoreParameters.none closing) rest h) = begins (Listed.listed (ParameterList.last p) closing) rest h
parameter_joined p k w (begins (MoreParameters.some comma all closing) rest h) = begins (Listed.listed (ParameterList.before p comma all) closing) rest h

parameters_begin : (int_at : Offset) (before : List (Item Name)) (k : List (Item Name) → State) (w : List LocatedToken) →
    Continues (parameter before k) w → Begins listed_then (BehindItems k) (word_then keyword.Int int_at w)
parameters_begin int_at before k w (begins d rest (one, h)) =
    subst (Begins listed_then (BehindItems k)) (typed_parameter_same int_at d rest) (parameter_joined (typed_parameter int_at d) k rest h)

first_parameter_takes : (token : Token) (at : Offset) (k : List (Item Name) → State) (w : List LocatedToken) →
    Enters (step (State.first_parameter k) token at) w → Continues (State.first_parameter k) (token_at token at ∷ w)
first_parameter_takes token at k w h =
    by_sign sign.ParenClose token _ _ w (λ t. Continues (State.first_parameter k) (token_at t at ∷ w)) (λ h. begins (FirstParameters.between Parameters.none at) w ([], h))
    (λ h. by_word keyword.Void token _ _ w (λ t. Continues (State.first_parameter k) (token_at t at ∷ w)) (λ h. by_void w h)
    (λ h. by_word keyword.Int token _ _ w (λ t. Continues (State.first_parameter k) (token_at t at ∷ w))
    (λ h. by_list (word_then keyword.Int at w) (parameters_begin at [] k w h)) (λ h. absurd h) h) h) h
  where
    by_void : (w : List LocatedToken) → Continues (State.sign_next sign.ParenClose (k [])) w → Begins first_parameters_then (BehindItems k) (word_then keyword.Void at w)
    by_void w (begins closing rest h) = begins (FirstParameters.between (Parameters.void at) closing) rest ([], h)

    by_list : (w : List LocatedToken) → Begins listed_then (BehindItems k) w → Begins first_parameters_then (BehindItems k) w
    by_list w (begins (Listed.listed all closing) rest h) = begins (FirstParameters.between (Parameters.list all) closing) rest h

more_parameters_take : (token : Token) (at : Offset) (before : List (Item Name)) (k : List (Item Name) → State) (w : List LocatedToken) →
    Enters (step (State.more_parameters before k) token at) w → Continues (State.more_parameters before k) (token_at token at ∷ w)
more_parameters_take token at before k w h =
    by_sign sign.Comma token _ _ w (λ t. Continues (State.more_parameters before k) (token_at t at ∷ w)) (λ h. by_int w h)
    (λ h. by_sign sign.ParenClose token _ _ w (λ t. Continues (State.more_parameters before k) (token_at t at ∷ w))
    (λ h. begins (MoreParameters.none at) w (before, h)) (λ h. absurd h) h) h
  where
    by_list : (w : List LocatedToken) → Begins listed_then (BehindItems k) w → Begins more_parameters_then (BehindItems k) (sign_then sign.Comma at w)
    by_list w (begins (Listed.listed all closing) rest h) = begins (MoreParameters.some at all closing) rest h

    by_int : (w : List LocatedToken) → Continues (State.word_next keyword.Int (parameter before k)) w → Begins more_parameters_then (BehindItems k) (sign_then sign.Comma at w)
    by_int w (begins int_at rest h) = by_list (word_then keyword.Int int_at rest) (parameters_begin int_at before k rest h)

-- ---- functions

-- behind a function a continuation goes on
abbrev BehindFunction : (Function Name → State) → List LocatedToken → Type 0
BehindFunction k rest = (f : Function Name) × Continues (k f) rest

-- the mark and the type of a function, and what follows them
typed_function : (cilk_at : Option Offset) (gives : Bool) (type_at : Offset) (marked valued : Bool) (k : Function Name → State) (w : List LocatedToken) → Continues (function_of marked valued k) w →
    Begins function_then (BehindFunction k) (cilk_then cilk_at (word_then (if gives then keyword.Int else keyword.Void) type_at w))
typed_function cilk_at gives type_at marked valued k w (begins f _ (name, begins opening _ (begins (FirstParameters.between all closing) _ (items, begins body_opening _ (begins (Block.block inside body_closing) rest (trees, close, h)))))) =
    begins (record {
      cilk_at = cilk_at;
      gives = gives;
      type_at = type_at;
      name = f;
      opening = opening;
      parameters = all;
      closing = closing;
      body_opening = body_opening;
      body = inside;
      body_closing = body_closing;
    }) rest (_, h)

type_takes : (token : Token) (at : Offset) (k : Bool → State) (w : List LocatedToken) → Enters (type_step token k) w → Continues (State.return_type k) (token_at token at ∷ w)
type_takes (Token.keyword keyword.Int) at k w h = begins (ReturnType.int at) w (true, h)
type_takes (Token.keyword keyword.Void) at k w h = begins (ReturnType.void at) w (false, h)
type_takes (Token.keyword _) at k w h = absurd h
type_takes (Token.sign _) at k w h = absurd h
type_takes (Token.name _) at k w h = absurd h
type_takes (Token.number _) at k w h = absurd h
type_takes Token.unfit at k w h = absurd h

unmarked_takes : (token : Token) (at : Offset) (k : Function Name → State) (w : List LocatedToken) → Enters (type_step token (λ gives. function_of false gives k)) w →
    Begins function_then (BehindFunction k) (token_at token at ∷ w)
unmarked_takes (Token.keyword keyword.Int) at k w h = typed_function None true at false true k w h
unmarked_takes (Token.keyword keyword.Void) at k w h = typed_function None false at false false k w h
unmarked_takes (Token.keyword _) at k w h = absurd h
unmarked_takes (Token.sign _) at k w h = absurd h
unmarked_takes (Token.name _) at k w h = absurd h
unmarked_takes (Token.number _) at k w h = absurd h
unmarked_takes Token.unfit at k w h = absurd h

function_takes : (token : Token) (at : Offset) (k : Function Name → State) (w : List LocatedToken) → Enters (function_step token k) w → Begins function_then (BehindFunction k) (token_at token at ∷ w)
function_takes token at k w h =
    by_word keyword.Cilk token _ _ w (λ t. Begins function_then (BehindFunction k) (token_at t at ∷ w)) (λ h. by_type w h) (λ h. unmarked_takes token at k w h) h
  where
    by_type : (w : List LocatedToken) → Continues (State.return_type (λ gives. function_of true gives k)) w → Begins function_then (BehindFunction k) (word_then keyword.Cilk at w)
    by_type w (begins (ReturnType.int type_at) rest (gives, h)) = typed_function (Some at) true type_at true gives k rest h
    by_type w (begins (ReturnType.void type_at) rest (gives, h)) = typed_function (Some at) false type_at true gives k rest h

next_function_takes : (token : Token) (at : Offset) (before : List (Function Name)) (w : List LocatedToken) →
    Enters (step (State.functions_next before) token at) w → Continues (State.functions_next before) (token_at token at ∷ w)
next_function_takes token at before w h = by_function (token_at token at ∷ w) (function_takes token at (λ f. State.functions_next (before ++ f ∷ [])) w h)
  where
    by_more : (f : grammar.Function) (tree : Function Name) (rest : List LocatedToken) → Continues (State.functions_next (before ++ tree ∷ [])) rest → Continues (State.functions_next before) (function_then f rest)
    by_more f tree rest (Functions.none, can, same) = (Functions.some (grammar.Program.last f), tt, ap (function_then f) same)
    by_more f tree rest (Functions.some p, can, same) = (Functions.some (grammar.Program.before f p), tt, ap (function_then f) same)

    by_function : (w : List LocatedToken) → Begins function_then (BehindFunction (λ f. State.functions_next (before ++ f ∷ []))) w → Continues (State.functions_next before) w
    by_function w (begins f rest (tree, h)) = by_more f tree rest h

-- ---- all states

-- a step is a left quotient
pub takes : (s : State) (token : Token) (at : Offset) (w : List LocatedToken) → Enters (step s token at) w → Continues s (token_at token at ∷ w)
takes (State.sign_next s next) token at w h =
    by_sign s token _ _ w (λ t. Continues (State.sign_next s next) (token_at t at ∷ w)) (λ h. begins at w h) (λ h. absurd h) h
takes (State.word_next k next) token at w h =
    by_word k token _ _ w (λ t. Continues (State.word_next k next) (token_at t at ∷ w)) (λ h. begins at w h) (λ h. absurd h) h
takes (State.name_next k) token at w h = name_takes token at k w h
takes (State.operand n k) token at w h = operand_takes token at n k w h
takes (State.operand_name x n k) token at w h = operand_name_takes x n k token at w (λ h. takes (k (expression.Scalar x) n) token at w h) h
takes (State.operators level n e k) token at w h = operators_take level n e k token at w (λ h. takes (k e n) token at w h) h
takes (State.first_argument k) token at w h = first_argument_takes token at k w h
takes (State.next_argument before k) token at w h = argument_takes token at before k w h
takes (State.more_arguments before k) token at w h = more_arguments_take token at before k w h
takes (State.optional_value k) token at w h = optional_takes token at k w (λ h. takes (k None) token at w h) h
takes (State.item_name x k) token at w h = item_name_takes x token at k w (λ h. takes (k (item x slot.Scalar)) token at w h) h
takes (State.array_words k) token at w h = words_take token at k w h
takes (State.more_items before k) token at w h = more_items_take token at before k w (λ h. takes (k before) token at w h) h
takes (State.target_next k) token at w h = target_takes token at k w h
takes (State.target_name x k) token at w h = target_name_takes x token at k w (λ h. takes (k (target.Scalar x)) token at w h) h
takes (State.writing written k) token at w h = writing_takes token at written k w h
takes (State.simple first k) token at w h = simple_takes token at first k w h
takes (State.simple_name x k) token at w h = simple_name_takes x token at k w h
takes (State.first_part k) token at w h = first_part_takes token at k w (λ h. takes (k statement.Empty) token at w h) h
takes (State.last_part k) token at w h = last_part_takes token at k w (λ h. takes (k statement.Empty) token at w h) h
takes (State.plain d inner k) token at w h = plain_takes token at d inner k w h
takes (State.plain_name x k) token at w h = plain_name_takes x token at k w h
takes (State.destination x k) token at w h = destination_takes x token at k w h
takes (State.otherwise d test chosen k) token at w h = otherwise_takes d test chosen token at k w (λ h. takes (k (statement.If test chosen None)) token at w h) h
takes (State.statements d before k) token at w h = statements_take token at d before k w h
takes (State.first_parameter k) token at w h = first_parameter_takes token at k w h
takes (State.parameter_declarator k) token at w h = parameter_takes token at k w h
takes (State.parameter_name x k) token at w h = parameter_name_takes x token at k w (λ h. takes (k (item x slot.Scalar)) token at w h) h
takes (State.more_parameters before k) token at w h = more_parameters_take token at before k w h
takes (State.function_next k) token at w h = function_takes token at k w h
takes (State.return_type k) token at w h = type_takes token at k w h
takes (State.functions_next before) token at w h = next_function_takes token at before w h

-- the text may end
abbrev pub Ends : Option (List (Function Name)) → Type 0
Ends None = ⊥
Ends (Some functions) = Unit {0}

-- where a text may end nothing has to follow
pub finishes : (s : State) → Ends (finish s) → Continues s []
finishes (State.operand_name x n k) h = begins OperandName.nothing [] (expression.Scalar x, n, finishes (k (expression.Scalar x) n) h)
finishes (State.operators level n e k) h = begins Tail.end [] (e, n, finishes (k e n) h)
finishes (State.item_name x k) h = begins ItemName.nothing [] (item x slot.Scalar, finishes (k (item x slot.Scalar)) h)
finishes (State.more_items before k) h = begins MoreItems.none [] (before, finishes (k before) h)
finishes (State.target_name x k) h = begins TargetName.nothing [] (target.Scalar x, finishes (k (target.Scalar x)) h)
finishes (State.otherwise d test chosen k) h = begins Otherwise.none [] (statement.If test chosen None, finishes (k (statement.If test chosen None)) h)
finishes (State.parameter_name x k) h = begins ParameterName.nothing [] (item x slot.Scalar, finishes (k (item x slot.Scalar)) h)
finishes (State.functions_next []) h = absurd h
finishes (State.functions_next (f ∷ before)) h = (Functions.none, tt, refl)
finishes _ h = absurd h
