-- What the grammar gives to the tree of a sound source: operators stand where they belong, and variables are of the
-- kinds that can be written.
use Rattle.std.proofs.Common.{◌≡◌, Bool, true, false, List, [], ◌∷◌, refl, sym, subst, Option, None, Some, All, Contains}
use Rattle.std.proofs.lemmas.List.Elements.{All-nil, All-cons, All-contains}
use Rattle.cm_syntax.specs.declared.name.Name.{Name}
use Rattle.cm_syntax.specs.declared.expr.Mark.{Mark}
use Rattle.cm_syntax.specs.declared.expr.Op.{Op}
use Rattle.cm_syntax.specs.declared.expr.Op.TheVariants as op
use Rattle.cm_syntax.specs.declared.expr.Expr.{Expr}
use Rattle.cm_syntax.specs.declared.expr.Expr.TheVariants as expression
use Rattle.cm_syntax.specs.declared.expr.Arg.{Arg}
use Rattle.cm_syntax.specs.declared.expr.Arg.TheVariants as arg
use Rattle.cm_syntax.specs.declared.expr.Call.{Call, Row_of-Arg, end_of-Arg, more_of-Arg, items-the_row-Arg, items_hidden-the_row-Arg-1}
use Rattle.cm_syntax.specs.declared.stmt.Slot.{Slot}
use Rattle.cm_syntax.specs.declared.stmt.Slot.TheVariants as slot
use Rattle.cm_syntax.specs.declared.stmt.Item as items
use Rattle.cm_syntax.specs.declared.stmt.Target.{Target}
use Rattle.cm_syntax.specs.declared.stmt.Target.TheVariants as targets
use Rattle.cm_syntax.specs.declared.stmt.Stmt.{Stmt, Row_of-Stmt, end_of-Stmt, more_of-Stmt, items-the_row-Stmt, items_hidden-the_row-Stmt-1}
use Rattle.cm_syntax.specs.declared.stmt.Stmt.TheVariants as statement
use Rattle.cm_syntax.specs.declared.stmt.Function.{Function}
use Rattle.cm_syntax.specs.declared.stmt.Tree.{Tree}
use Rattle.cm_syntax.specs.Shape.{Joined, Prefixed, Element, InputAt, IfAlone, IfElse, WhileLoop, ForLoop, Binary-Joined, Unary-Prefixed, Index-Element, Input-InputAt}
use Rattle.cm_syntax.specs.ParseTree.{is_unary, is_update, Expression, Arguments, Argument, AnyExpression, Simple, FirstPart, Plain, Statements, Parameter, ParameterList, Parameters}
use Rattle.cm_syntax.specs.ParseTree as grammar
use Rattle.cm_syntax.specs.Lowering.{lower_expression, lower_call, lower_arguments, lower_argument, lower_any, lower_optional, lower_item, lower_items, lower_target, lower_step, lower_simple, lower_first_part, lower_last_part, lower_plain, lower_statements, lower_parameter, lower_parameter_list, lower_parameters, lower_function, lower_program}
use Rattle.cm_syntax.specs.Refusal.{IsSoundTree}
use Rattle.cm_syntax.proofs.StatementLaw.{If-Alone, If-Else, While-Loop, For-Loop}
use Rattle.cm_syntax.proofs.Rows.{row_of_call, row_of_block}
use Rattle.cm_meaning.specs.Typing.{is_arithmetic, IsUpdate, IsParameter}

-- ---- definitions

abbrev mutual
  -- in the expression each operator has as many operands as it wants, and no argument is told to be a slice
  pub FormedExpression : Expr Name → Type 0
  FormedExpression (Prefixed o e) = (is_unary o ≡ true) × FormedExpression e
  FormedExpression (Joined o l r) = (is_unary o ≡ false) × FormedExpression l × FormedExpression r
  FormedExpression (Element a place) = FormedExpression place
  FormedExpression (InputAt place) = FormedExpression place
  FormedExpression (expression.Call' f _ row) = FormedArguments row
  FormedExpression _ = Unit {0}

  -- each of a call's arguments is formed
  pub FormedArguments : {n : _} → Row_of-Arg Name n → Type 0
  FormedArguments end_of-Arg = Unit {0}
  FormedArguments (more_of-Arg first more) = FormedArgument first × FormedArguments more

  -- an expression or an address; only a resolved program has slices
  pub FormedArgument : Arg Name → Type 0
  FormedArgument (arg.Value e) = FormedExpression e
  FormedArgument (arg.Slice a) = ⊥
  FormedArgument (arg.Address x) = Unit {0}

-- an expression that may not be there
abbrev pub FormedOptional : Option (Expr Name) → Type 0
FormedOptional None = Unit {0}
FormedOptional (Some e) = FormedExpression e

-- a declared variable: a scalar perhaps with a value, or an array
abbrev pub FormedItem : Slot → Option (Expr Name) → Type 0
FormedItem slot.Scalar first = FormedOptional first
FormedItem (slot.Array words) first = Unit {0}
FormedItem slot.Slice first = ⊥

-- the items of a declaration
abbrev pub FormedItems : List (items.Item Name) → Type 0
FormedItems [] = Unit {0}
FormedItems (x ∷ more) = FormedItem x.slot x.first × FormedItems more

-- what an assignment writes
abbrev pub FormedTarget : Target Name → Type 0
FormedTarget (targets.Scalar x) = Unit {0}
FormedTarget (targets.Index a place) = FormedExpression place

abbrev mutual
  -- every part of the statement is formed, and an update has an operator that updates may have
  pub FormedStatement : Stmt Name → Type 0
  FormedStatement statement.Empty = Unit {0}
  FormedStatement (statement.Declare row) = FormedItems row
  FormedStatement (statement.Assign written o e) = FormedTarget written × IsUpdate o × FormedExpression e
  FormedStatement (statement.Call call) = FormedExpression (expression.Call call)
  FormedStatement (statement.Spawn at x call) = FormedExpression (expression.Call call)
  FormedStatement (statement.Sync at) = Unit {0}
  FormedStatement (IfAlone t s) = FormedExpression t × FormedStatement s
  FormedStatement (IfElse t s o) = FormedExpression t × FormedStatement s × FormedStatement o
  FormedStatement (WhileLoop t b) = FormedExpression t × FormedStatement b
  FormedStatement (ForLoop first t s b) = FormedStatement first × FormedOptional t × FormedStatement s × FormedStatement b
  FormedStatement (statement.Split' whole place l r _ row close) = FormedExpression place × FormedSequence row
  FormedStatement (statement.Return at e) = FormedOptional e
  FormedStatement (statement.Print e) = FormedExpression e
  FormedStatement (statement.Block' _ row) = FormedSequence row

  -- the statements of a block
  pub FormedSequence : {n : _} → Row_of-Stmt Name n → Type 0
  FormedSequence end_of-Stmt = Unit {0}
  FormedSequence (more_of-Stmt first more) = FormedStatement first × FormedSequence more

-- the statements of a function's body
abbrev pub FormedBody : List (Stmt Name) → Type 0
FormedBody [] = Unit {0}
FormedBody (first ∷ more) = FormedStatement first × FormedBody more

-- A function whose parameters are scalars and slices, and whose body is formed.
pub record FormedFunction (f : Function Name) : Type 0 where
  pub parameters : (item : items.Item Name) → Contains f.parameters item → IsParameter item.slot
  pub body : FormedBody f.body

-- ---- operators

-- both operands of an update's operator are always evaluated
update_arithmetic : (o : Op) → is_update o ≡ true → is_arithmetic o ≡ true
update_arithmetic op.Neg h = h
update_arithmetic op.Not h = h
update_arithmetic op.Flip h = h
update_arithmetic op.Either h = h
update_arithmetic op.Both h = h
update_arithmetic _ h = refl

-- ---- each variant as the lowering makes it

-- the arguments of a call, as a list
abbrev FormedList : List (Arg Name) → Type 0
FormedList [] = Unit {0}
FormedList (first ∷ more) = FormedArgument first × FormedList more

row_formed : (n : _) (row : Row_of-Arg Name n) → FormedList (items-the_row-Arg Name n row) → FormedArguments row
row_formed n end_of-Arg h = h
row_formed n (more_of-Arg first more) h = (h.0, row_formed _ more h.1)

formed-Call : (call : Call Name) → FormedList call.arguments → FormedExpression (expression.Call call)
formed-Call call h =
    let row = row_of_call (expression.Call call) in
    row_formed row.0 row.1 (subst FormedList (sym (items_hidden-the_row-Arg-1 Name call.arguments)) h)

sequence_formed : (n : _) (row : Row_of-Stmt Name n) → FormedBody (items-the_row-Stmt Name n row) → FormedSequence row
sequence_formed n end_of-Stmt h = h
sequence_formed n (more_of-Stmt first more) h = (h.0, sequence_formed _ more h.1)

formed-Block : (body : List (Stmt Name)) → FormedBody body → FormedStatement (statement.Block body)
formed-Block body h =
    let row = row_of_block (statement.Block body) in
    sequence_formed row.0 row.1 (subst FormedBody (sym (items_hidden-the_row-Stmt-1 Name body)) h)

formed-Split : (whole : Mark Name) (place : Expr Name) (l r : Mark Name) (body : List (Stmt Name)) (close : _) →
    FormedExpression place → FormedBody body → FormedStatement (statement.Split whole place l r body close)
formed-Split whole place l r body close p h =
    let row = row_of_block (statement.Split whole place l r body close) in
    (p, sequence_formed row.0 row.1 (subst FormedBody (sym (items_hidden-the_row-Stmt-1 Name body)) h))

-- ---- what the grammar's parts stand for

mutual
  expression_formed : {level : _} (e : Expression level) → FormedExpression (lower_expression e)
  expression_formed (Expression.literal at value) = tt
  expression_formed (Expression.variable x) = tt
  expression_formed (Expression.element a opening index closing) =
      subst FormedExpression (sym (Index-Element a (lower_expression index))) (expression_formed index)
  expression_formed (Expression.pointee star p) = subst FormedExpression (sym (Index-Element p _)) tt
  expression_formed (Expression.called call) = call_formed call
  expression_formed (Expression.len word opening a closing) = tt
  expression_formed (Expression.input word opening index closing) =
      subst FormedExpression (sym (Input-InputAt (lower_expression index))) (expression_formed index)
  expression_formed (Expression.inputs word opening closing) = tt
  expression_formed (Expression.grouped opening inner closing) = expression_formed inner
  expression_formed (Expression.prefixed o unary at operand tight) =
      subst FormedExpression (sym (Unary-Prefixed o (lower_expression operand))) (unary, expression_formed operand)
  expression_formed (Expression.joined o binary left loose at right tight) =
      subst FormedExpression (sym (Binary-Joined o (lower_expression left) (lower_expression right)))
      (binary, expression_formed left, expression_formed right)

  call_formed : (call : grammar.Call) → FormedExpression (expression.Call (lower_call call))
  call_formed (grammar.Call.alone f opening closing) = formed-Call (lower_call (grammar.Call.alone f opening closing)) tt
  call_formed (grammar.Call.with_ f opening arguments closing) =
      formed-Call (lower_call (grammar.Call.with_ f opening arguments closing)) (arguments_formed arguments)

  arguments_formed : (arguments : Arguments) → FormedList (lower_arguments arguments)
  arguments_formed (Arguments.last one) = (argument_formed one, tt)
  arguments_formed (Arguments.before one comma more) = (argument_formed one, arguments_formed more)

  argument_formed : (one : Argument) → FormedArgument (lower_argument one)
  argument_formed (Argument.value value) = expression_formed value
  argument_formed (Argument.address at x) = tt

any_formed : (e : AnyExpression) → FormedExpression (lower_any e)
any_formed (AnyExpression.any value) = expression_formed value

optional_formed : (e : Option AnyExpression) → FormedOptional (lower_optional e)
optional_formed None = tt
optional_formed (Some value) = any_formed value

item_formed : (x : grammar.Item) → FormedItem (lower_item x).slot (lower_item x).first
item_formed (grammar.Item.scalar x) = tt
item_formed (grammar.Item.set x assign value) = any_formed value
item_formed (grammar.Item.array a opening at size closing) = tt

items_formed : (row : grammar.Items) → FormedItems (lower_items row)
items_formed (grammar.Items.last one) = (item_formed one, tt)
items_formed (grammar.Items.before one comma more) = (item_formed one, items_formed more)

target_formed : (t : grammar.Target) → FormedTarget (lower_target t)
target_formed (grammar.Target.scalar x) = tt
target_formed (grammar.Target.element a opening index closing) = any_formed index
target_formed (grammar.Target.pointee star p) = tt

step_formed : (up : Bool) (t : grammar.Target) → FormedStatement (lower_step up t)
step_formed true t = (target_formed t, refl, tt)
step_formed false t = (target_formed t, refl, tt)

simple_formed : (s : Simple) → FormedStatement (lower_simple s)
simple_formed (Simple.assign t at value) = (target_formed t, tt, any_formed value)
simple_formed (Simple.update t o updates at value) = (target_formed t, update_arithmetic o updates, any_formed value)
simple_formed (Simple.step_after t up at) = step_formed up t
simple_formed (Simple.step_before up at t) = step_formed up t
simple_formed (Simple.call call) = call_formed call

first_formed : (s : FirstPart) → FormedStatement (lower_first_part s)
first_formed FirstPart.nothing = tt
first_formed (FirstPart.declare declaration) = items_formed declaration.items
first_formed (FirstPart.simple s) = simple_formed s

last_formed : (s : Option Simple) → FormedStatement (lower_last_part s)
last_formed None = tt
last_formed (Some s) = simple_formed s

mutual
  plain_formed : {is_open : Bool} (s : Plain is_open) → FormedStatement (lower_plain s)
  plain_formed (Plain.simple s semicolon) = simple_formed s
  plain_formed (Plain.empty semicolon) = tt
  plain_formed (Plain.block opening body closing) = formed-Block (lower_statements body) (statements_formed body)
  plain_formed (Plain.if_alone word opening test closing chosen) =
      subst FormedStatement (sym (If-Alone (lower_any test) (lower_plain chosen))) (any_formed test, plain_formed chosen)
  plain_formed (Plain.if_else word opening test closing chosen at other) =
      subst FormedStatement (sym (If-Else (lower_any test) (lower_plain chosen) (lower_plain other)))
      (any_formed test, plain_formed chosen, plain_formed other)
  plain_formed (Plain.while word opening test closing body) =
      subst FormedStatement (sym (While-Loop (lower_any test) (lower_plain body))) (any_formed test, plain_formed body)
  plain_formed (Plain.for word opening first semicolon test second step closing body) =
      subst FormedStatement (sym (For-Loop (lower_first_part first) (lower_optional test) (lower_last_part step) (lower_plain body)))
      (first_formed first, optional_formed test, last_formed step, plain_formed body)
  plain_formed (Plain.split word whole at index as_ left comma right opening body closing) =
      formed-Split whole (lower_any index) left right (lower_statements body) closing (any_formed index) (statements_formed body)
  plain_formed (Plain.return word value semicolon) = optional_formed value
  plain_formed (Plain.print word opening value closing semicolon) = any_formed value
  plain_formed (Plain.sync word semicolon) = tt
  plain_formed (Plain.spawn word call semicolon) = call_formed call
  plain_formed (Plain.spawn_into x assign word call semicolon) = call_formed call

  statements_formed : (body : Statements) → FormedBody (lower_statements body)
  statements_formed Statements.none = tt
  statements_formed (Statements.declare declaration semicolon more) = (items_formed declaration.items, statements_formed more)
  statements_formed (Statements.plain first more) = (plain_formed first, statements_formed more)

-- ---- functions

-- a scalar or a slice
abbrev IsTaken : items.Item Name → Type 0
IsTaken item = IsParameter item.slot

parameter_taken : (x : Parameter) → IsTaken (lower_parameter x)
parameter_taken (Parameter.scalar int_at x) = tt
parameter_taken (Parameter.slice int_at a opening closing) = tt
parameter_taken (Parameter.pointer int_at star p) = tt

list_taken : (all : ParameterList) → All IsTaken (lower_parameter_list all)
list_taken (ParameterList.last one) = All-cons IsTaken (lower_parameter one) [] (parameter_taken one) (All-nil IsTaken)
list_taken (ParameterList.before one comma more) =
    All-cons IsTaken (lower_parameter one) (lower_parameter_list more) (parameter_taken one) (list_taken more)

parameters_taken : (all : Parameters) → All IsTaken (lower_parameters all)
parameters_taken Parameters.none = All-nil IsTaken
parameters_taken (Parameters.void at) = All-nil IsTaken
parameters_taken (Parameters.list all) = list_taken all

function_formed : (f : grammar.Function) → FormedFunction (lower_function f)
function_formed f = record {
  parameters = λ item among. All-contains IsTaken (lower_parameters f.parameters) item (parameters_taken f.parameters) among;
  body = statements_formed f.body;
}

program_formed : (source : grammar.Program) → All FormedFunction (lower_program source)
program_formed (grammar.Program.last f) = All-cons FormedFunction (lower_function f) [] (function_formed f) (All-nil FormedFunction)
program_formed (grammar.Program.before f more) =
    All-cons FormedFunction (lower_function f) (lower_program more) (function_formed f) (program_formed more)

-- each function in the tree of a sound source is formed
pub sound_formed : (tree : Tree) → IsSoundTree tree → (f : Function Name) → Contains tree.functions f → FormedFunction f
sound_formed tree (bytes, (tokens, read, (source, yields, is), counted), sound) f among =
    All-contains FormedFunction tree.functions f (subst (All FormedFunction) is (program_formed source)) among
