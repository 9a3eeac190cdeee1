-- The weight of a state: how many steps without a tick there are, at most, before the next tick. An item that stands
-- behind the next tick of its frame weighs nothing, unless a `return` can lead to it.
use Rattle.std.specs.Prelude.{ℕ, ◌+◌, Option, None, Some, List, [], ◌∷◌, slice_get}
use Rattle.cm_syntax.specs.declared.expr.Expr.{Expr}
use Rattle.cm_syntax.specs.declared.expr.Expr.TheVariants as expression
use Rattle.cm_syntax.specs.declared.expr.Arg.{Arg}
use Rattle.cm_syntax.specs.declared.expr.Arg.TheVariants as arg
use Rattle.cm_syntax.specs.declared.expr.Call.{Row_of-Arg, end_of-Arg, more_of-Arg}
use Rattle.cm_syntax.specs.declared.stmt.Item as items
use Rattle.cm_syntax.specs.declared.stmt.Target.TheVariants as target
use Rattle.cm_syntax.specs.declared.stmt.Stmt.{Stmt, Row_of-Stmt, end_of-Stmt, more_of-Stmt}
use Rattle.cm_syntax.specs.declared.stmt.Stmt.TheVariants as statement
use Rattle.cm_syntax.specs.declared.stmt.Function.{Function}
use Rattle.cm_syntax.specs.declared.stmt.Program.{Program}
use Rattle.cm_syntax.specs.Shape.{Joined, Prefixed, Element, InputAt, IfAlone, IfElse, WhileLoop, ForLoop}
use Rattle.cm_syntax.specs.Rest.{Item, Hand, Control, entering, framing, evaluate, right, both, either, arguments, pass, perform, sequence, body, declare, locate, branch, turn, test, part, tick, exit, join, end}

abbrev mutual
  -- of an expression, up to its value or to the call that stands in it
  pub expression_weight : Expr ℕ → ℕ
  expression_weight (Element a place) = expression_weight place + 2
  expression_weight (InputAt place) = expression_weight place + 2
  expression_weight (Prefixed o e) = expression_weight e + 2
  expression_weight (Joined o l r) = expression_weight l + (expression_weight r + 3)
  expression_weight (expression.Call' f _ row) = arguments_weight row + 2
  expression_weight _ = 1

  -- of the arguments of a call, one after another
  pub arguments_weight : {n : _} → Row_of-Arg ℕ n → ℕ
  arguments_weight end_of-Arg = 1
  arguments_weight (more_of-Arg first more) = argument_weight first + (arguments_weight more + 2)

  -- of one argument
  pub argument_weight : Arg ℕ → ℕ
  argument_weight (arg.Value e) = expression_weight e
  argument_weight _ = 0

-- of an expression that may not be there
abbrev pub optional_weight : Option (Expr ℕ) → ℕ
optional_weight None = 0
optional_weight (Some e) = expression_weight e

-- of the items of a declaration
abbrev pub declare_weight : List (items.Item ℕ) → ℕ
declare_weight [] = 1
declare_weight (x ∷ more) = optional_weight x.first + (declare_weight more + 2)

abbrev mutual
  -- of a statement; a loop's body stands behind a tick
  pub statement_weight : Stmt ℕ → ℕ
  statement_weight (statement.Declare row) = declare_weight row + 1
  statement_weight (statement.Assign (target.Scalar x) o e) = expression_weight e + 2
  statement_weight (statement.Assign (target.Index a place) o e) = expression_weight place + (expression_weight e + 3)
  statement_weight (statement.Call call) = expression_weight (expression.Call call) + 1
  statement_weight (statement.Spawn at x call) = expression_weight (expression.Call call)
  statement_weight (IfAlone t s) = expression_weight t + (statement_weight s + 2)
  statement_weight (IfElse t s o) = expression_weight t + (statement_weight s + (statement_weight o + 3))
  statement_weight (WhileLoop t b) = expression_weight t + 4
  statement_weight (ForLoop first t s b) = statement_weight first + (optional_weight t + 4)
  statement_weight (statement.Split' whole place l r _ row close) = expression_weight place + (sequence_weight row + 2)
  statement_weight (statement.Return at e) = optional_weight e + 2
  statement_weight (statement.Print e) = expression_weight e + 2
  statement_weight (statement.Block' _ row) = sequence_weight row + 1
  statement_weight _ = 1

  -- of the statements of a block
  pub sequence_weight : {n : _} → Row_of-Stmt ℕ n → ℕ
  sequence_weight end_of-Stmt = 1
  sequence_weight (more_of-Stmt first more) = statement_weight first + (sequence_weight more + 1)

-- of the statements of a function
abbrev pub body_weight : List (Stmt ℕ) → ℕ
body_weight [] = 1
body_weight (first ∷ more) = statement_weight first + (body_weight more + 1)

-- of what an `if` does where its condition is 0
abbrev pub other_weight : Option (Stmt ℕ) → ℕ
other_weight None = 0
other_weight (Some s) = statement_weight s + 1

-- of one item
abbrev pub item_weight : Item → ℕ
item_weight (evaluate e) = expression_weight e
item_weight (right o r) = expression_weight r + 2
item_weight (both r) = expression_weight r + 2
item_weight (either r) = expression_weight r + 2
item_weight (arguments u f ws row) = arguments_weight row
item_weight (pass u f ws row) = arguments_weight row + 1
item_weight (perform s) = statement_weight s
item_weight (sequence row) = sequence_weight row
item_weight (body row) = body_weight row
item_weight (declare row) = declare_weight row
item_weight (locate a o e) = expression_weight e + 2
item_weight (branch s o) = statement_weight s + (other_weight o + 1)
item_weight (turn t s b) = optional_weight t + 3
item_weight (test t s b) = 2
item_weight (part a l r row) = sequence_weight row + 1
item_weight _ = 1

abbrev mutual
  -- of a rest up to its next tick, or behind a `return` from the join on
  pub rest_weight : List Item → ℕ
  rest_weight [] = 0
  rest_weight (tick ∷ k) = 1 + join_weight k
  rest_weight (exit ∷ k) = 1 + join_weight k
  rest_weight (i ∷ k) = item_weight i + rest_weight k

  -- of a rest from the join of its function on
  pub join_weight : List Item → ℕ
  join_weight [] = 0
  join_weight (join ∷ k) = 1 + rest_weight k
  join_weight (end ∷ k) = 0
  join_weight (_ ∷ k) = join_weight k

-- of a call behind its tick
abbrev pub function_weight : Option (Function ℕ) → ℕ
function_weight None = 0
function_weight (Some function) = body_weight function.body + 4

-- of a rest with what is at hand; a call that is to take its tick weighs nothing
abbrev pub weight_by : (program : Program) → Hand → List Item → ℕ
weight_by program (entering f ws) k = 0
weight_by program (framing f ws) k = function_weight (slice_get program.functions f) + rest_weight k
weight_by program _ k = rest_weight k

-- of a state
abbrev pub weight : (program : Program) → Control → ℕ
weight program c = weight_by program c.hand c.rest
