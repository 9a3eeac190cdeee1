-- The order of evaluation of a function's text: of its mentions, its calls, its spawns, and of what ends a path.
use Rattle.std.specs.Prelude.{ℕ, if◌then◌else◌, List, [], ◌∷◌, ◌++◌, Option, None, Some}
use Rattle.cm_syntax.specs.declared.expr.Mark.{Mark}
use Rattle.cm_syntax.specs.declared.expr.Op.{Op}
use Rattle.cm_syntax.specs.declared.expr.Expr.{Expr}
use Rattle.cm_syntax.specs.declared.expr.Expr.TheVariants as expression
use Rattle.cm_syntax.specs.declared.expr.Arg.{Arg}
use Rattle.cm_syntax.specs.declared.expr.Arg.TheVariants as argument
use Rattle.cm_syntax.specs.declared.expr.Call.{Call, Row_of-Arg, end_of-Arg, more_of-Arg}
use Rattle.cm_syntax.specs.declared.stmt.Item.{Item}
use Rattle.cm_syntax.specs.declared.stmt.Target.{Target}
use Rattle.cm_syntax.specs.declared.stmt.Target.TheVariants as target
use Rattle.cm_syntax.specs.declared.stmt.Stmt.{Stmt, Row_of-Stmt, end_of-Stmt, more_of-Stmt}
use Rattle.cm_syntax.specs.declared.stmt.Stmt.TheVariants as statement
use Rattle.cm_syntax.specs.declared.stmt.Function.{Function}
use Rattle.cm_syntax.specs.Shape.{Joined, Prefixed, Element, InputAt, IfAlone, IfElse, WhileLoop, ForLoop}
use Rattle.cm_syntax.specs.Frame.{is_short_circuit}
use Rattle.cm_syntax.specs.Walk.{mentions, calls, spawns, ends, Order, nothing, event, next, choice, turns}

-- ---- expressions

-- a mention at its offset
abbrev pub mention_order : Mark ℕ → Order
mention_order x = event (mentions x.name x.at)

-- `&&` and `||` may leave out their right operand
abbrev pub joined_order : Op → (left right : Order) → Order
joined_order op left right = next left (if is_short_circuit op then choice nothing right else right)

-- what an argument passes as a slice, if it does
abbrev pub slice_of : Arg ℕ → List (Mark ℕ)
slice_of (argument.Value value) = []
slice_of (argument.Slice a) = a ∷ []
slice_of (argument.Address x) = x ∷ []

-- the slices of a row of arguments
abbrev pub row_slices : {n : _} → Row_of-Arg ℕ n → List (Mark ℕ)
row_slices end_of-Arg = []
row_slices (more_of-Arg first more) = slice_of first ++ row_slices more

abbrev mutual
  -- an index stands before its array, the arguments of a call before the call
  pub expression_order : Expr ℕ → Order
  expression_order (expression.Number value) = nothing
  expression_order (expression.Scalar x) = mention_order x
  expression_order (Element a index) = next (expression_order index) (mention_order a)
  expression_order (expression.Len a) = mention_order a
  expression_order (InputAt index) = expression_order index
  expression_order expression.Inputs = nothing
  expression_order (Prefixed op operand) = expression_order operand
  expression_order (Joined op left right) = joined_order op (expression_order left) (expression_order right)
  expression_order (expression.Call' f _ arguments) = next (row_order arguments) (event (calls (row_slices arguments)))

  -- the arguments of a call one after another
  pub row_order : {n : _} → Row_of-Arg ℕ n → Order
  row_order end_of-Arg = nothing
  row_order (more_of-Arg first more) = next (argument_order first) (row_order more)

  pub argument_order : Arg ℕ → Order
  argument_order (argument.Value value) = expression_order value
  argument_order (argument.Slice a) = mention_order a
  argument_order (argument.Address x) = mention_order x

-- an expression that may not be there
abbrev pub optional_order : Option (Expr ℕ) → Order
optional_order None = nothing
optional_order (Some value) = expression_order value

-- ---- statements without statements in them

-- a declaration mentions its name, behind its value
abbrev pub items_order : List (Item ℕ) → Order
items_order [] = nothing
items_order (item ∷ more) = next (next (optional_order item.first) (mention_order item.name)) (items_order more)

-- an assignment mentions its target once, an element before the value
abbrev pub assignment_order : Target ℕ → (value : Order) → Order
assignment_order (target.Scalar x) value = next value (mention_order x)
assignment_order (target.Index a index) value = next (expression_order index) (next (mention_order a) value)

-- the arguments of a spawned call one after another
abbrev pub arguments_order : List (Arg ℕ) → Order
arguments_order [] = nothing
arguments_order (first ∷ more) = next (argument_order first) (arguments_order more)

-- their slices
abbrev pub slices : List (Arg ℕ) → List (Mark ℕ)
slices [] = []
slices (first ∷ more) = slice_of first ++ slices more

abbrev pub destination_order : Option (Mark ℕ) → Order
destination_order None = nothing
destination_order (Some x) = mention_order x

abbrev pub destination_of : Option (Mark ℕ) → List (Mark ℕ)
destination_of None = []
destination_of (Some x) = x ∷ []

-- A spawn lends its destination, which stands first in the text, and the slices of its call. All mentions of the
-- statement stand before the spawn.
abbrev pub spawn_order : (at : ℕ) → (destination : Option (Mark ℕ)) → Call ℕ → Order
spawn_order at destination call =
    next (arguments_order call.arguments) (next (destination_order destination)
    (event (spawns at (destination_of destination ++ slices call.arguments))))

-- ---- statements

-- The turns of a loop, each behind its condition, which is evaluated once more behind the last turn. Where there is
-- none, no path leads behind the loop.
abbrev pub rounds_order : (test : Option (Expr ℕ)) → (turn : Order) → Order
rounds_order (Some test) turn = next (turns (next (expression_order test) turn)) (expression_order test)
rounds_order None turn = next (turns turn) (event ends)

-- The naming of the parts mentions them, and so does the closing brace.
abbrev pub split_order : (whole : Mark ℕ) → (index : Order) → (left right : Mark ℕ) → (body : Order) → (close : ℕ) → Order
split_order whole index left right body close =
    next index (next (mention_order whole) (next (mention_order left) (next (mention_order right)
    (next body (next (event (mentions left.name close)) (event (mentions right.name close)))))))

abbrev mutual
  pub statement_order : Stmt ℕ → Order
  statement_order statement.Empty = nothing
  statement_order (statement.Declare items) = items_order items
  statement_order (statement.Assign written op value) = assignment_order written (expression_order value)
  statement_order (statement.Call call) = expression_order (expression.Call call)
  statement_order (statement.Spawn at destination call) = spawn_order at destination call
  statement_order (statement.Sync at) = event ends
  statement_order (IfAlone test chosen) = next (expression_order test) (choice (statement_order chosen) nothing)
  statement_order (IfElse test chosen other) = next (expression_order test) (choice (statement_order chosen) (statement_order other))
  statement_order (WhileLoop test body) = rounds_order (Some test) (statement_order body)
  statement_order (ForLoop first test step body) =
      next (statement_order first) (rounds_order test (next (statement_order body) (statement_order step)))
  statement_order (statement.Split' whole index left right _ body close) =
      split_order whole (expression_order index) left right (statements_order body) close
  statement_order (statement.Return at value) = next (optional_order value) (event ends)
  statement_order (statement.Print value) = expression_order value
  statement_order (statement.Block' _ body) = statements_order body

  -- the statements of a block one after another
  pub statements_order : {n : _} → Row_of-Stmt ℕ n → Order
  statements_order end_of-Stmt = nothing
  statements_order (more_of-Stmt first more) = next (statement_order first) (statements_order more)

-- statements one after another
abbrev pub body_order : List (Stmt ℕ) → Order
body_order [] = nothing
body_order (first ∷ more) = next (statement_order first) (body_order more)

-- A function's text is its body: a parameter's declaration mentions nothing.
abbrev pub function_order : Function ℕ → Order
function_order f = body_order f.body
