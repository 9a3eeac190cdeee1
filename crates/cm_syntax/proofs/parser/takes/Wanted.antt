-- What may follow in each state of the machine, up to the end of a text: the parts that are wanted one after another.
-- It is said of tokens alone. A continuation goes on behind some tree of the part that is read.
use Rattle.std.proofs.Common.{◌≡◌, ℕ, ◌≤◌, ◌<◌, Bool, true, false, List, [], ◌∷◌, refl, arith, Option, None}
use Rattle.cm_syntax.specs.declared.name.Name.{Name}
use Rattle.cm_syntax.specs.declared.expr.Op.{Op}
use Rattle.cm_syntax.specs.declared.expr.Expr.{Expr}
use Rattle.cm_syntax.specs.declared.expr.Expr.TheVariants as expression
use Rattle.cm_syntax.specs.declared.expr.Arg.{Arg}
use Rattle.cm_syntax.specs.declared.stmt.Slot.TheVariants as slot
use Rattle.cm_syntax.specs.declared.stmt.Item.{Item}
use Rattle.cm_syntax.specs.declared.stmt.Target.{Target}
use Rattle.cm_syntax.specs.declared.stmt.Target.TheVariants as target
use Rattle.cm_syntax.specs.declared.stmt.Stmt.{Stmt}
use Rattle.cm_syntax.specs.declared.stmt.Stmt.TheVariants as statement
use Rattle.cm_syntax.specs.declared.stmt.Function.{Function}
use Rattle.cm_syntax.specs.declared.token.Keyword.TheVariants as keyword
use Rattle.cm_syntax.specs.declared.token.Sign.{Sign}
use Rattle.cm_syntax.specs.declared.token.Sign.TheVariants as sign
use Rattle.cm_syntax.specs.Token.{Token, LocatedToken, token_at}
use Rattle.cm_syntax.specs.ParseTree.{Mark, Offset, is_unary, is_update, level_of, Expression, Arguments, Argument, AnyExpression, Simple, FirstPart, Plain, Statements, ParameterList, Parameters}
use Rattle.cm_syntax.specs.ParseTree as grammar
use Rattle.cm_syntax.specs.Yield.{sign_of, update_sign, step_sign}
use Rattle.cm_syntax.specs.Parser.{State, item}
use Rattle.cm_syntax.proofs.parser.takes.Written.{sign_then, word_then, name_then, expression_then, call_then, arguments_then, any_then, optional_then, items_then, target_then, simple_then, first_part_then, last_part_then, plain_then, statements_then, parameter_list_then, parameters_then, function_then, program_then}

-- the tokens are those of some x, and what follows them is so
pub data Begins {X : Type 0} (write : X → List LocatedToken → List LocatedToken) (next : List LocatedToken → Type 0) : List LocatedToken → Type 0 where
  begins : (x : X) (rest : List LocatedToken) → next rest → Begins write next (write x rest)

-- ---- parts of expressions

-- an expression of this level or a higher one
pub data AtLeast (level : ℕ) : Type 0 where
  at_least : {own : ℕ} → level ≤ own → Expression own → AtLeast level

abbrev pub at_least_then : {level : ℕ} → AtLeast level → List LocatedToken → List LocatedToken
at_least_then (AtLeast.at_least tight e) rest = expression_then e rest

-- operators of at least this level, each with its right operand
pub data Tail (level : ℕ) : Type 0 where
  end : Tail level
  more : {own : ℕ} (o : Op) → is_unary o ≡ false → level ≤ level_of o → Offset → Expression own → level_of o < own → Tail level → Tail level

abbrev pub tail_then : {level : ℕ} → Tail level → List LocatedToken → List LocatedToken
tail_then Tail.end rest = rest
tail_then (Tail.more o binary low at e tight t) rest = sign_then (sign_of o) at (expression_then e (tail_then t rest))

-- an expression and what closes it
pub data Closed : Type 0 where
  closed : AnyExpression → Offset → Closed

abbrev pub closed_then : Sign → Closed → List LocatedToken → List LocatedToken
closed_then s (Closed.closed e closing) rest = any_then e (sign_then s closing rest)

-- arguments, where there are some, and `)`
pub data FirstArguments : Type 0 where
  none : (closing : Offset) → FirstArguments
  some : Arguments → (closing : Offset) → FirstArguments

abbrev pub first_arguments_then : FirstArguments → List LocatedToken → List LocatedToken
first_arguments_then (FirstArguments.none closing) rest = sign_then sign.ParenClose closing rest
first_arguments_then (FirstArguments.some all closing) rest = arguments_then all (sign_then sign.ParenClose closing rest)

-- arguments and `)`
pub data NextArguments : Type 0 where
  some : Arguments → (closing : Offset) → NextArguments

abbrev pub next_arguments_then : NextArguments → List LocatedToken → List LocatedToken
next_arguments_then (NextArguments.some all closing) rest = arguments_then all (sign_then sign.ParenClose closing rest)

-- `)`, or a comma, arguments and `)`
pub data MoreArguments : Type 0 where
  none : (closing : Offset) → MoreArguments
  some : (comma : Offset) → Arguments → (closing : Offset) → MoreArguments

abbrev pub more_arguments_then : MoreArguments → List LocatedToken → List LocatedToken
more_arguments_then (MoreArguments.none closing) rest = sign_then sign.ParenClose closing rest
more_arguments_then (MoreArguments.some comma all closing) rest = sign_then sign.Comma comma (arguments_then all (sign_then sign.ParenClose closing rest))

-- what stands behind a name in an expression
pub data OperandName : Type 0 where
  nothing : OperandName
  index : (opening : Offset) → Closed → OperandName
  call : (opening : Offset) → FirstArguments → OperandName

abbrev pub operand_name_then : OperandName → List LocatedToken → List LocatedToken
operand_name_then OperandName.nothing rest = rest
operand_name_then (OperandName.index opening i) rest = sign_then sign.BracketOpen opening (closed_then sign.BracketClose i rest)
operand_name_then (OperandName.call opening all) rest = sign_then sign.ParenOpen opening (first_arguments_then all rest)

-- ---- parts of declarations and simple statements

-- what stands behind the name of a declarator
pub data ItemName : Type 0 where
  nothing : ItemName
  set : (assign : Offset) → AnyExpression → ItemName
  array : (opening at : Offset) (words : ℕ) (closing : Offset) → ItemName

abbrev pub item_name_then : ItemName → List LocatedToken → List LocatedToken
item_name_then ItemName.nothing rest = rest
item_name_then (ItemName.set assign e) rest = sign_then sign.Assign assign (any_then e rest)
item_name_then (ItemName.array opening at words closing) rest = sign_then sign.BracketOpen opening (token_at (Token.number words) at ∷ sign_then sign.BracketClose closing rest)

-- the words of an array
pub data Words : Type 0 where
  words : Offset → ℕ → Words

abbrev pub words_then : Words → List LocatedToken → List LocatedToken
words_then (Words.words at n) rest = token_at (Token.number n) at ∷ rest

-- a comma and declarators, or nothing
pub data MoreItems : Type 0 where
  none : MoreItems
  some : (comma : Offset) → grammar.Items → MoreItems

abbrev pub more_items_then : MoreItems → List LocatedToken → List LocatedToken
more_items_then MoreItems.none rest = rest
more_items_then (MoreItems.some comma all) rest = sign_then sign.Comma comma (items_then all rest)

-- what stands behind the name of a target
pub data TargetName : Type 0 where
  nothing : TargetName
  index : (opening : Offset) → Closed → TargetName

abbrev pub target_name_then : TargetName → List LocatedToken → List LocatedToken
target_name_then TargetName.nothing rest = rest
target_name_then (TargetName.index opening i) rest = sign_then sign.BracketOpen opening (closed_then sign.BracketClose i rest)

-- what stands behind the target of an assignment
pub data Writing : Type 0 where
  assign : Offset → AnyExpression → Writing
  update : (o : Op) → is_update o ≡ true → Offset → AnyExpression → Writing
  step : (up : Bool) → Offset → Writing

abbrev pub writing_then : Writing → List LocatedToken → List LocatedToken
writing_then (Writing.assign at e) rest = sign_then sign.Assign at (any_then e rest)
writing_then (Writing.update o updates at e) rest = sign_then (update_sign o) at (any_then e rest)
writing_then (Writing.step up at) rest = sign_then (step_sign up) at rest

-- what stands behind the name that begins an assignment or a call
pub data SimpleName : Type 0 where
  writes : TargetName → Writing → SimpleName
  call : (opening : Offset) → FirstArguments → SimpleName

abbrev pub simple_name_then : SimpleName → List LocatedToken → List LocatedToken
simple_name_then (SimpleName.writes target w) rest = target_name_then target (writing_then w rest)
simple_name_then (SimpleName.call opening all) rest = sign_then sign.ParenOpen opening (first_arguments_then all rest)

-- ---- parts of statements

-- a statement that may be a body
pub data AnyPlain : Type 0 where
  plain : {is_open : Bool} → Plain is_open → AnyPlain

abbrev pub any_plain_then : AnyPlain → List LocatedToken → List LocatedToken
any_plain_then (AnyPlain.plain s) rest = plain_then s rest

-- what stands behind a name and `=` that begin a statement
pub data Destination : Type 0 where
  spawn : (word : Offset) → grammar.Call → (semicolon : Offset) → Destination
  value : AnyExpression → (semicolon : Offset) → Destination

abbrev pub destination_then : Destination → List LocatedToken → List LocatedToken
destination_then (Destination.spawn word made semicolon) rest = word_then keyword.Spawn word (call_then made (sign_then sign.Semicolon semicolon rest))
destination_then (Destination.value e semicolon) rest = any_then e (sign_then sign.Semicolon semicolon rest)

-- what stands behind the name that begins a statement
pub data PlainName : Type 0 where
  simple : SimpleName → (semicolon : Offset) → PlainName
  assign : Offset → Destination → PlainName

abbrev pub plain_name_then : PlainName → List LocatedToken → List LocatedToken
plain_name_then (PlainName.simple s semicolon) rest = simple_name_then s (sign_then sign.Semicolon semicolon rest)
plain_name_then (PlainName.assign at d) rest = sign_then sign.Assign at (destination_then d rest)

-- `else` and a statement, or nothing
pub data Otherwise : Type 0 where
  none : Otherwise
  some : Offset → AnyPlain → Otherwise

abbrev pub otherwise_then : Otherwise → List LocatedToken → List LocatedToken
otherwise_then Otherwise.none rest = rest
otherwise_then (Otherwise.some at s) rest = word_then keyword.Else at (any_plain_then s rest)

-- statements and `}`
pub data Block : Type 0 where
  block : Statements → (closing : Offset) → Block

abbrev pub block_then : Block → List LocatedToken → List LocatedToken
block_then (Block.block all closing) rest = statements_then all (sign_then sign.BraceClose closing rest)

-- ---- parts of functions

-- what stands behind the `int` of a parameter
pub data Declarator : Type 0 where
  scalar : Mark → Declarator
  slice : Mark → (opening closing : Offset) → Declarator
  pointer : (star : Offset) → Mark → Declarator

abbrev pub declarator_then : Declarator → List LocatedToken → List LocatedToken
declarator_then (Declarator.scalar x) rest = name_then x rest
declarator_then (Declarator.slice a opening closing) rest = name_then a (sign_then sign.BracketOpen opening (sign_then sign.BracketClose closing rest))
declarator_then (Declarator.pointer star p) rest = sign_then sign.Star star (name_then p rest)

-- what stands behind the name of a parameter
pub data ParameterName : Type 0 where
  nothing : ParameterName
  slice : (opening closing : Offset) → ParameterName

abbrev pub parameter_name_then : ParameterName → List LocatedToken → List LocatedToken
parameter_name_then ParameterName.nothing rest = rest
parameter_name_then (ParameterName.slice opening closing) rest = sign_then sign.BracketOpen opening (sign_then sign.BracketClose closing rest)

-- what stands between the parentheses of a function's head, and `)`
pub data FirstParameters : Type 0 where
  between : Parameters → (closing : Offset) → FirstParameters

abbrev pub first_parameters_then : FirstParameters → List LocatedToken → List LocatedToken
first_parameters_then (FirstParameters.between p closing) rest = parameters_then p (sign_then sign.ParenClose closing rest)

-- `)`, or a comma, parameters and `)`
pub data MoreParameters : Type 0 where
  none : (closing : Offset) → MoreParameters
  some : (comma : Offset) → ParameterList → (closing : Offset) → MoreParameters

abbrev pub more_parameters_then : MoreParameters → List LocatedToken → List LocatedToken
more_parameters_then (MoreParameters.none closing) rest = sign_then sign.ParenClose closing rest
more_parameters_then (MoreParameters.some comma all closing) rest = sign_then sign.Comma comma (parameter_list_then all (sign_then sign.ParenClose closing rest))

-- `int` or `void`
pub data ReturnType : Type 0 where
  int : Offset → ReturnType
  void : Offset → ReturnType

abbrev pub return_type_then : ReturnType → List LocatedToken → List LocatedToken
return_type_then (ReturnType.int at) rest = word_then keyword.Int at rest
return_type_then (ReturnType.void at) rest = word_then keyword.Void at rest

-- functions up to the end of the text
pub data Functions : Type 0 where
  none : Functions
  some : grammar.Program → Functions

abbrev pub functions_then : Functions → List LocatedToken → List LocatedToken
functions_then Functions.none rest = rest
functions_then (Functions.some p) rest = program_then p rest

-- the text may end so behind these functions: there is one, before or now
abbrev pub CanEnd : List (Function Name) → Functions → Type 0
CanEnd before (Functions.some p) = Unit {0}
CanEnd [] Functions.none = ⊥
CanEnd (f ∷ before) Functions.none = Unit {0}

-- ---- what may follow

abbrev pub Continues : State → List LocatedToken → Type 0
Continues (State.sign_next s next) w = Begins (sign_then s) (λ rest. Continues next rest) w
Continues (State.word_next k next) w = Begins (word_then k) (λ rest. Continues next rest) w
Continues (State.name_next k) w = Begins name_then (λ rest. (x : Mark) × Continues (k x) rest) w
Continues (State.operand n k) w = Begins (at_least_then {level = 11}) (λ rest. (e : Expr Name) × (m : ℕ) × Continues (k e m) rest) w
Continues (State.operand_name x n k) w = Begins operand_name_then (λ rest. (e : Expr Name) × (m : ℕ) × Continues (k e m) rest) w
Continues (State.operators level n e k) w = Begins (tail_then {level = level}) (λ rest. (e : Expr Name) × (m : ℕ) × Continues (k e m) rest) w
Continues (State.first_argument k) w = Begins first_arguments_then (λ rest. (all : List (Arg Name)) × Continues (k all) rest) w
Continues (State.next_argument before k) w = Begins next_arguments_then (λ rest. (all : List (Arg Name)) × Continues (k all) rest) w
Continues (State.more_arguments before k) w = Begins more_arguments_then (λ rest. (all : List (Arg Name)) × Continues (k all) rest) w
Continues (State.optional_value k) w = Begins optional_then (λ rest. (e : Option (Expr Name)) × Continues (k e) rest) w
Continues (State.item_name x k) w = Begins item_name_then (λ rest. (i : Item Name) × Continues (k i) rest) w
Continues (State.array_words k) w = Begins words_then (λ rest. (n : ℕ) × Continues (k n) rest) w
Continues (State.more_items before k) w = Begins more_items_then (λ rest. (all : List (Item Name)) × Continues (k all) rest) w
Continues (State.target_next k) w = Begins target_then (λ rest. (t : Target Name) × Continues (k t) rest) w
Continues (State.target_name x k) w = Begins target_name_then (λ rest. (t : Target Name) × Continues (k t) rest) w
Continues (State.writing written k) w = Begins writing_then (λ rest. (s : Stmt Name) × Continues (k s) rest) w
Continues (State.simple first k) w = Begins simple_then (λ rest. (s : Stmt Name) × Continues (k s) rest) w
Continues (State.simple_name x k) w = Begins simple_name_then (λ rest. (s : Stmt Name) × Continues (k s) rest) w
Continues (State.first_part k) w = Begins first_part_then (λ rest. (s : Stmt Name) × Continues (k s) rest) w
Continues (State.last_part k) w = Begins last_part_then (λ rest. (s : Stmt Name) × Continues (k s) rest) w
Continues (State.plain d inner k) w = Begins any_plain_then (λ rest. (s : Stmt Name) × Continues (k s) rest) w
Continues (State.plain_name x k) w = Begins plain_name_then (λ rest. (s : Stmt Name) × Continues (k s) rest) w
Continues (State.destination x k) w = Begins destination_then (λ rest. (s : Stmt Name) × Continues (k s) rest) w
Continues (State.otherwise d test chosen k) w = Begins otherwise_then (λ rest. (s : Stmt Name) × Continues (k s) rest) w
Continues (State.statements d before k) w = Begins block_then (λ rest. (all : List (Stmt Name)) × (at : Offset) × Continues (k all at) rest) w
Continues (State.first_parameter k) w = Begins first_parameters_then (λ rest. (all : List (Item Name)) × Continues (k all) rest) w
Continues (State.parameter_declarator k) w = Begins declarator_then (λ rest. (i : Item Name) × Continues (k i) rest) w
Continues (State.parameter_name x k) w = Begins parameter_name_then (λ rest. (i : Item Name) × Continues (k i) rest) w
Continues (State.more_parameters before k) w = Begins more_parameters_then (λ rest. (all : List (Item Name)) × Continues (k all) rest) w
Continues (State.function_next k) w = Begins function_then (λ rest. (f : Function Name) × Continues (k f) rest) w
Continues (State.return_type k) w = Begins return_type_then (λ rest. (gives : Bool) × Continues (k gives) rest) w
Continues (State.functions_next before) w = (all : Functions) × CanEnd before all × (w ≡ functions_then all [])

-- ---- each state can go on

name : Mark
name = record { name = []; at = 0 }

call_ : grammar.Call
call_ = grammar.Call.alone name 0 0

function_ : grammar.Function
function_ = record {
  cilk_at = None;
  gives = true;
  type_at = 0;
  name = name;
  opening = 0;
  parameters = Parameters.none;
  closing = 0;
  body_opening = 0;
  body = Statements.none;
  body_closing = 0;
}

-- what may follow a state
abbrev pub CanGoOn : State → Type 0
CanGoOn s = (w : List LocatedToken) × Continues s w

pub can_go_on : (s : State) → CanGoOn s
unfolding name call_ function_
can_go_on (State.sign_next s next) = let more = can_go_on next in (_, begins 0 more.0 more.1)
can_go_on (State.word_next k next) = let more = can_go_on next in (_, begins 0 more.0 more.1)
can_go_on (State.name_next k) = let more = can_go_on (k name) in (_, begins name more.0 (name, more.1))
can_go_on (State.operand n k) =
    let more = can_go_on (k expression.Inputs n) in (_, begins (AtLeast.at_least (omega arith) (Expression.inputs 0 0 0)) more.0 (expression.Inputs, n, more.1))
can_go_on (State.operand_name x n k) = let more = can_go_on (k (expression.Scalar x) n) in (_, begins OperandName.nothing more.0 (expression.Scalar x, n, more.1))
can_go_on (State.operators level n e k) = let more = can_go_on (k e n) in (_, begins Tail.end more.0 (e, n, more.1))
can_go_on (State.first_argument k) = let more = can_go_on (k []) in (_, begins (FirstArguments.none 0) more.0 ([], more.1))
can_go_on (State.next_argument before k) =
    let more = can_go_on (k []) in (_, begins (NextArguments.some (Arguments.last (Argument.address 0 name)) 0) more.0 ([], more.1))
can_go_on (State.more_arguments before k) = let more = can_go_on (k []) in (_, begins (MoreArguments.none 0) more.0 ([], more.1))
can_go_on (State.optional_value k) = let more = can_go_on (k None) in (_, begins None more.0 (None, more.1))
can_go_on (State.item_name x k) = let more = can_go_on (k (item x slot.Scalar)) in (_, begins ItemName.nothing more.0 (item x slot.Scalar, more.1))
can_go_on (State.array_words k) = let more = can_go_on (k 0) in (_, begins (Words.words 0 0) more.0 (0, more.1))
can_go_on (State.more_items before k) = let more = can_go_on (k []) in (_, begins MoreItems.none more.0 ([], more.1))
can_go_on (State.target_next k) = let more = can_go_on (k (target.Scalar name)) in (_, begins (grammar.Target.scalar name) more.0 (target.Scalar name, more.1))
can_go_on (State.target_name x k) = let more = can_go_on (k (target.Scalar x)) in (_, begins TargetName.nothing more.0 (target.Scalar x, more.1))
can_go_on (State.writing written k) = let more = can_go_on (k statement.Empty) in (_, begins (Writing.step true 0) more.0 (statement.Empty, more.1))
can_go_on (State.simple first k) = let more = can_go_on (k statement.Empty) in (_, begins (Simple.call call_) more.0 (statement.Empty, more.1))
can_go_on (State.simple_name x k) = let more = can_go_on (k statement.Empty) in (_, begins (SimpleName.call 0 (FirstArguments.none 0)) more.0 (statement.Empty, more.1))
can_go_on (State.first_part k) = let more = can_go_on (k statement.Empty) in (_, begins FirstPart.nothing more.0 (statement.Empty, more.1))
can_go_on (State.last_part k) = let more = can_go_on (k statement.Empty) in (_, begins None more.0 (statement.Empty, more.1))
can_go_on (State.plain d inner k) = let more = can_go_on (k statement.Empty) in (_, begins (AnyPlain.plain (Plain.empty 0)) more.0 (statement.Empty, more.1))
can_go_on (State.plain_name x k) =
    let more = can_go_on (k statement.Empty) in (_, begins (PlainName.simple (SimpleName.call 0 (FirstArguments.none 0)) 0) more.0 (statement.Empty, more.1))
can_go_on (State.destination x k) = let more = can_go_on (k statement.Empty) in (_, begins (Destination.spawn 0 call_ 0) more.0 (statement.Empty, more.1))
can_go_on (State.otherwise d test chosen k) = let more = can_go_on (k statement.Empty) in (_, begins Otherwise.none more.0 (statement.Empty, more.1))
can_go_on (State.statements d before k) = let more = can_go_on (k [] 0) in (_, begins (Block.block Statements.none 0) more.0 ([], 0, more.1))
can_go_on (State.first_parameter k) = let more = can_go_on (k []) in (_, begins (FirstParameters.between Parameters.none 0) more.0 ([], more.1))
can_go_on (State.parameter_declarator k) = let more = can_go_on (k (item name slot.Scalar)) in (_, begins (Declarator.scalar name) more.0 (item name slot.Scalar, more.1))
can_go_on (State.parameter_name x k) = let more = can_go_on (k (item x slot.Scalar)) in (_, begins ParameterName.nothing more.0 (item x slot.Scalar, more.1))
can_go_on (State.more_parameters before k) = let more = can_go_on (k []) in (_, begins (MoreParameters.none 0) more.0 ([], more.1))
can_go_on (State.function_next k) =
    let f : Function Name = record { name = name; cilk = false; gives = true; parameters = []; body = []; slots = [] } in
    let more = can_go_on (k f) in (_, begins function_ more.0 (f, more.1))
can_go_on (State.return_type k) = let more = can_go_on (k true) in (_, begins (ReturnType.int 0) more.0 (true, more.1))
can_go_on (State.functions_next before) = (_, (Functions.some (grammar.Program.last function_), tt, refl))
