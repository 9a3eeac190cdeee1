-- The numbers in a program, in which each name is its number, and the numbers that the uses of names have.
use Rattle.std.specs.Prelude.{ℕ, List, [], ◌∷◌, ◌++◌, Option, None, Some}
use Rattle.cm_syntax.specs.declared.name.Name.{Name}
use Rattle.cm_syntax.specs.declared.expr.Mark.{Mark}
use Rattle.cm_syntax.specs.declared.expr.Expr.{Expr}
use Rattle.cm_syntax.specs.declared.expr.Expr.TheVariants as expression
use Rattle.cm_syntax.specs.declared.expr.Arg.{Arg}
use Rattle.cm_syntax.specs.declared.expr.Arg.TheVariants as argument
use Rattle.cm_syntax.specs.declared.expr.Call.{Row_of-Arg, end_of-Arg, more_of-Arg}
use Rattle.cm_syntax.specs.declared.stmt.Item.{Item}
use Rattle.cm_syntax.specs.declared.stmt.Target.{Target}
use Rattle.cm_syntax.specs.declared.stmt.Target.TheVariants as target
use Rattle.cm_syntax.specs.declared.stmt.Stmt.{Stmt, Row_of-Stmt, end_of-Stmt, more_of-Stmt}
use Rattle.cm_syntax.specs.declared.stmt.Stmt.TheVariants as statement
use Rattle.cm_syntax.specs.declared.stmt.Function.{Function}
use Rattle.cm_syntax.specs.Shape.{Joined, Prefixed, Element, InputAt, IfAlone, IfElse, WhileLoop, ForLoop}
use Rattle.cm_syntax.specs.Resolution.{Use, mention, call_use, redeclaration, parallel_keyword, return_keyword, function_number}

-- ---- the numbers of mentions in a program, of variables and of functions that are called, in the order of the text

abbrev mutual
  pub expression_numbers : Expr ℕ → List ℕ
  expression_numbers (expression.Number value) = []
  expression_numbers (expression.Scalar x) = x.name ∷ []
  expression_numbers (Element a index) = a.name ∷ expression_numbers index
  expression_numbers (expression.Len a) = a.name ∷ []
  expression_numbers (InputAt index) = expression_numbers index
  expression_numbers expression.Inputs = []
  expression_numbers (Prefixed op operand) = expression_numbers operand
  expression_numbers (Joined op left right) = expression_numbers left ++ expression_numbers right
  expression_numbers (expression.Call' f _ arguments) = f.name ∷ arguments_numbers arguments

  pub arguments_numbers : {n : _} → Row_of-Arg ℕ n → List ℕ
  arguments_numbers end_of-Arg = []
  arguments_numbers (more_of-Arg first more) = argument_numbers first ++ arguments_numbers more

  pub argument_numbers : Arg ℕ → List ℕ
  argument_numbers (argument.Value value) = expression_numbers value
  argument_numbers (argument.Slice a) = a.name ∷ []
  argument_numbers (argument.Address x) = x.name ∷ []

abbrev pub optional_numbers : Option (Expr ℕ) → List ℕ
optional_numbers None = []
optional_numbers (Some value) = expression_numbers value

abbrev pub target_numbers : Target ℕ → List ℕ
target_numbers (target.Scalar x) = x.name ∷ []
target_numbers (target.Index a index) = a.name ∷ expression_numbers index

abbrev pub destination_numbers : Option (Mark ℕ) → List ℕ
destination_numbers None = []
destination_numbers (Some x) = x.name ∷ []

-- the names of items are declared and not mentioned
abbrev pub items_numbers : List (Item ℕ) → List ℕ
items_numbers [] = []
items_numbers (item ∷ more) = optional_numbers item.first ++ items_numbers more

abbrev mutual
  pub statement_numbers : Stmt ℕ → List ℕ
  statement_numbers statement.Empty = []
  statement_numbers (statement.Declare items) = items_numbers items
  statement_numbers (statement.Assign written op value) = target_numbers written ++ expression_numbers value
  statement_numbers (statement.Call call) = expression_numbers (expression.Call call)
  statement_numbers (statement.Spawn at destination call) = destination_numbers destination ++ expression_numbers (expression.Call call)
  statement_numbers (statement.Sync at) = []
  statement_numbers (IfAlone test chosen) = expression_numbers test ++ statement_numbers chosen
  statement_numbers (IfElse test chosen other) = expression_numbers test ++ (statement_numbers chosen ++ statement_numbers other)
  statement_numbers (WhileLoop test body) = expression_numbers test ++ statement_numbers body
  statement_numbers (ForLoop first test step body) =
      statement_numbers first ++ (optional_numbers test ++ (statement_numbers step ++ statement_numbers body))
  statement_numbers (statement.Split' whole index left right _ body close) =
      whole.name ∷ (expression_numbers index ++ statements_numbers body)
  statement_numbers (statement.Return at value) = optional_numbers value
  statement_numbers (statement.Print value) = expression_numbers value
  statement_numbers (statement.Block' _ body) = statements_numbers body

  pub statements_numbers : {n : _} → Row_of-Stmt ℕ n → List ℕ
  statements_numbers end_of-Stmt = []
  statements_numbers (more_of-Stmt first more) = statement_numbers first ++ statements_numbers more

abbrev pub body_numbers : List (Stmt ℕ) → List ℕ
body_numbers [] = []
body_numbers (first ∷ more) = statement_numbers first ++ body_numbers more

abbrev pub function_numbers : Function ℕ → List ℕ
function_numbers f = items_numbers f.parameters ++ body_numbers f.body

-- ---- the numbers of declared names, in the order of the text

abbrev pub declared_items : List (Item ℕ) → List ℕ
declared_items [] = []
declared_items (item ∷ more) = item.name.name ∷ declared_items more

abbrev mutual
  pub declared_statement : Stmt ℕ → List ℕ
  declared_statement (statement.Declare items) = declared_items items
  declared_statement (IfAlone test chosen) = declared_statement chosen
  declared_statement (IfElse test chosen other) = declared_statement chosen ++ declared_statement other
  declared_statement (WhileLoop test body) = declared_statement body
  declared_statement (ForLoop first test step body) = declared_statement first ++ (declared_statement step ++ declared_statement body)
  declared_statement (statement.Split' whole index left right _ body close) = left.name ∷ right.name ∷ declared_statements body
  declared_statement (statement.Block' _ body) = declared_statements body
  declared_statement _ = []

  pub declared_statements : {n : _} → Row_of-Stmt ℕ n → List ℕ
  declared_statements end_of-Stmt = []
  declared_statements (more_of-Stmt first more) = declared_statement first ++ declared_statements more

abbrev pub declared_body : List (Stmt ℕ) → List ℕ
declared_body [] = []
declared_body (first ∷ more) = declared_statement first ++ declared_body more

-- the numbers of a function's own names: of its parameters, its items and the parts of its splits
abbrev pub declared_numbers : Function ℕ → List ℕ
declared_numbers f = declared_items f.parameters ++ declared_body f.body

-- ---- the numbers of uses

-- the number of a mention or a call: the slot of the variable that it stands for, or the index of the function; 0
-- where it stands for nothing
abbrev pub use_numbers : List (Function Name) → Use → List ℕ
use_numbers functions (mention x role None) = 0 ∷ []
use_numbers functions (mention x role (Some v)) = v.slot ∷ []
use_numbers functions (call_use f arguments wanted) = function_number functions f.name ∷ []
use_numbers functions (redeclaration at) = []
use_numbers functions (parallel_keyword at) = []
use_numbers functions (return_keyword at has_value) = []

abbrev pub uses_numbers : List (Function Name) → List Use → List ℕ
uses_numbers functions [] = []
uses_numbers functions (first ∷ more) = use_numbers functions first ++ uses_numbers functions more
