-- A tree without its offsets: what two sources have in common that are written differently.
use Rattle.std.specs.Prelude.{List, [], ◌∷◌, map, None, Some, option_map}
use Rattle.cm_syntax.specs.declared.name.Name.{Name}
use Rattle.cm_syntax.specs.declared.expr.Mark.{Mark}
use Rattle.cm_syntax.specs.declared.expr.Expr.{Expr}
use Rattle.cm_syntax.specs.declared.expr.Expr.TheVariants as expression
use Rattle.cm_syntax.specs.declared.expr.Arg.{Arg}
use Rattle.cm_syntax.specs.declared.expr.Arg.TheVariants as argument
use Rattle.cm_syntax.specs.declared.expr.Call.{Call, Row_of-Arg, end_of-Arg, more_of-Arg}
use Rattle.cm_syntax.specs.declared.stmt.Item.{Item}
use Rattle.cm_syntax.specs.declared.stmt.Target.{Target}
use Rattle.cm_syntax.specs.declared.stmt.Target.TheVariants as target
use Rattle.cm_syntax.specs.declared.stmt.Stmt.{Stmt, Row_of-Stmt, end_of-Stmt, more_of-Stmt}
use Rattle.cm_syntax.specs.declared.stmt.Stmt.TheVariants as statement
use Rattle.cm_syntax.specs.declared.stmt.Function.{Function}
use Rattle.cm_syntax.specs.declared.stmt.Tree.{Tree}
use Rattle.cm_syntax.specs.Shape.{Joined, Prefixed, Element, InputAt, IfAlone, IfElse, WhileLoop, ForLoop}

-- a name at offset 0
abbrev pub bare : Mark Name → Mark Name
bare x = record { name = x.name; at = 0 }

abbrev mutual
  pub bare_expression : Expr Name → Expr Name
  bare_expression (expression.Number value) = expression.Number value
  bare_expression (expression.Scalar x) = expression.Scalar (bare x)
  bare_expression (Element a index) = expression.Index (bare a) (bare_expression index)
  bare_expression (expression.Len a) = expression.Len (bare a)
  bare_expression (InputAt index) = expression.Input (bare_expression index)
  bare_expression expression.Inputs = expression.Inputs
  bare_expression (Prefixed op operand) = expression.Unary op (bare_expression operand)
  bare_expression (Joined op left right) = expression.Binary op (bare_expression left) (bare_expression right)
  bare_expression (expression.Call' f _ arguments) = expression.Call (record { function = bare f; arguments = bare_row arguments })

  -- the arguments of a call
  pub bare_row : {n : _} → Row_of-Arg Name n → List (Arg Name)
  bare_row end_of-Arg = []
  bare_row (more_of-Arg first more) = bare_argument first ∷ bare_row more

  pub bare_argument : Arg Name → Arg Name
  bare_argument (argument.Value value) = argument.Value (bare_expression value)
  bare_argument (argument.Slice a) = argument.Slice (bare a)
  bare_argument (argument.Address x) = argument.Address (bare x)

abbrev pub bare_call : Call Name → Call Name
bare_call call = record { function = bare call.function; arguments = map bare_argument call.arguments }

abbrev pub bare_item : Item Name → Item Name
bare_item item = record { name = bare item.name; slot = item.slot; first = option_map bare_expression item.first }

abbrev pub bare_target : Target Name → Target Name
bare_target (target.Scalar x) = target.Scalar (bare x)
bare_target (target.Index a index) = target.Index (bare a) (bare_expression index)

abbrev mutual
  pub bare_statement : Stmt Name → Stmt Name
  bare_statement statement.Empty = statement.Empty
  bare_statement (statement.Declare items) = statement.Declare (map bare_item items)
  bare_statement (statement.Assign written op value) = statement.Assign (bare_target written) op (bare_expression value)
  bare_statement (statement.Call call) = statement.Call (bare_call call)
  bare_statement (statement.Spawn at destination call) = statement.Spawn 0 (option_map bare destination) (bare_call call)
  bare_statement (statement.Sync at) = statement.Sync 0
  bare_statement (IfAlone test chosen) = statement.If (bare_expression test) (bare_statement chosen) None
  bare_statement (IfElse test chosen other) = statement.If (bare_expression test) (bare_statement chosen) (Some (bare_statement other))
  bare_statement (WhileLoop test body) = statement.While (bare_expression test) (bare_statement body)
  bare_statement (ForLoop first test step body) =
      statement.For (bare_statement first) (option_map bare_expression test) (bare_statement step) (bare_statement body)
  bare_statement (statement.Split' whole index left right _ body close) =
      statement.Split (bare whole) (bare_expression index) (bare left) (bare right) (bare_statements body) 0
  bare_statement (statement.Return at value) = statement.Return 0 (option_map bare_expression value)
  bare_statement (statement.Print value) = statement.Print (bare_expression value)
  bare_statement (statement.Block' _ body) = statement.Block (bare_statements body)

  -- the statements of a block
  pub bare_statements : {n : _} → Row_of-Stmt Name n → List (Stmt Name)
  bare_statements end_of-Stmt = []
  bare_statements (more_of-Stmt first more) = bare_statement first ∷ bare_statements more

abbrev pub bare_function : Function Name → Function Name
bare_function f = record {
  name = bare f.name;
  cilk = f.cilk;
  gives = f.gives;
  parameters = map bare_item f.parameters;
  body = map bare_statement f.body;
  slots = f.slots;
}

-- the tree with each offset and its length set to 0
abbrev pub without_offsets : Tree → Tree
without_offsets tree = record { functions = map bare_function tree.functions; length = 0 }
