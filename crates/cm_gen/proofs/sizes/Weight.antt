-- A weight of what is written: at most the number of its tokens.
use Rattle.std.proofs.Common.{ℕ, ◌+◌, Option, None, Some, List, [], ◌∷◌, length}
use Rattle.cm_syntax.specs.declared.name.Name.{Name}
use Rattle.cm_syntax.specs.declared.expr.Expr.{Expr}
use Rattle.cm_syntax.specs.declared.expr.Expr.TheVariants as expression
use Rattle.cm_syntax.specs.declared.expr.Arg.{Arg}
use Rattle.cm_syntax.specs.declared.expr.Arg.TheVariants as argument
use Rattle.cm_syntax.specs.declared.expr.Call.{Row_of-Arg, end_of-Arg, more_of-Arg}
use Rattle.cm_syntax.specs.declared.stmt.Item.{Item}
use Rattle.cm_syntax.specs.declared.stmt.Target.{Target}
use Rattle.cm_syntax.specs.declared.stmt.Target.TheVariants as target
use Rattle.cm_syntax.specs.declared.stmt.Stmt.{Stmt, Row_of-Stmt, end_of-Stmt, more_of-Stmt}
use Rattle.cm_syntax.specs.declared.stmt.Stmt.TheVariants as statement
use Rattle.cm_syntax.specs.declared.stmt.Function.{Function}
use Rattle.cm_syntax.specs.Shape.{Joined, Prefixed, Element, InputAt, IfAlone, IfElse, WhileLoop, ForLoop}

abbrev mutual
  -- of an expression
  pub expression_weight : Expr Name → ℕ
  expression_weight (Element a index) = expression_weight index + 1
  expression_weight (InputAt index) = expression_weight index + 1
  expression_weight (Prefixed o operand) = expression_weight operand + 1
  expression_weight (Joined o left right) = expression_weight left + expression_weight right + 1
  expression_weight (expression.Call' f _ arguments) = row_weight arguments + 1
  expression_weight _ = 1

  -- of arguments
  pub row_weight : {n : _} → Row_of-Arg Name n → ℕ
  row_weight end_of-Arg = 0
  row_weight (more_of-Arg first more) = argument_weight first + row_weight more

  pub argument_weight : Arg Name → ℕ
  argument_weight (argument.Value value) = expression_weight value
  argument_weight _ = 1

abbrev pub list_weight : List (Arg Name) → ℕ
list_weight [] = 0
list_weight (first ∷ more) = argument_weight first + list_weight more

abbrev pub optional_weight : Option (Expr Name) → ℕ
optional_weight None = 0
optional_weight (Some value) = expression_weight value

abbrev pub items_weight : List (Item Name) → ℕ
items_weight [] = 0
items_weight (item ∷ more) = 1 + optional_weight item.first + items_weight more

abbrev pub target_weight : Target Name → ℕ
target_weight (target.Scalar x) = 1
target_weight (target.Index a index) = expression_weight index + 1

abbrev mutual
  -- of a statement
  pub statement_weight : Stmt Name → ℕ
  statement_weight statement.Empty = 0
  statement_weight (statement.Declare items) = items_weight items
  statement_weight (statement.Assign written o value) = target_weight written + expression_weight value
  statement_weight (statement.Call c) = expression_weight (expression.Call c)
  statement_weight (statement.Spawn at destination c) = expression_weight (expression.Call c)
  statement_weight (statement.Sync at) = 1
  statement_weight (IfAlone test chosen) = expression_weight test + statement_weight chosen + 1
  statement_weight (IfElse test chosen other) = expression_weight test + (statement_weight chosen + statement_weight other) + 1
  statement_weight (WhileLoop test body) = expression_weight test + statement_weight body + 1
  statement_weight (ForLoop first test step body) =
      statement_weight first + (optional_weight test + (statement_weight step + statement_weight body)) + 1
  statement_weight (statement.Split' whole index left right _ body close) = expression_weight index + row_of_statements_weight body + 1
  statement_weight (statement.Return at value) = optional_weight value + 1
  statement_weight (statement.Print value) = expression_weight value + 1
  statement_weight (statement.Block' _ body) = row_of_statements_weight body

  -- of the statements of a block
  pub row_of_statements_weight : {n : _} → Row_of-Stmt Name n → ℕ
  row_of_statements_weight end_of-Stmt = 0
  row_of_statements_weight (more_of-Stmt first more) = statement_weight first + row_of_statements_weight more

abbrev pub body_weight : List (Stmt Name) → ℕ
body_weight [] = 0
body_weight (first ∷ more) = statement_weight first + body_weight more

abbrev pub function_weight : Function Name → ℕ
function_weight f = length f.parameters + body_weight f.body + 2

abbrev pub functions_weight : List (Function Name) → ℕ
functions_weight [] = 0
functions_weight (f ∷ more) = function_weight f + functions_weight more
