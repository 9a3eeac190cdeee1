-- The literals of expressions and statements are words, and no array is empty.
use Rattle.std.specs.Prelude.{◌<◌, Option, None, Some, FitsSigned, List, [], ◌∷◌}
use Rattle.std.specs.Int.{w32}
use Rattle.cm_syntax.specs.declared.expr.Expr.{Expr}
use Rattle.cm_syntax.specs.declared.expr.Expr.TheVariants as expression
use Rattle.cm_syntax.specs.declared.expr.Arg.{Arg}
use Rattle.cm_syntax.specs.declared.expr.Arg.TheVariants as argument
use Rattle.cm_syntax.specs.declared.expr.Call.{Row_of-Arg, end_of-Arg, more_of-Arg}
use Rattle.cm_syntax.specs.declared.stmt.Slot.{Slot}
use Rattle.cm_syntax.specs.declared.stmt.Slot.TheVariants as slot
use Rattle.cm_syntax.specs.declared.stmt.Item as items
use Rattle.cm_syntax.specs.declared.stmt.Target.{Target}
use Rattle.cm_syntax.specs.declared.stmt.Target.TheVariants as target
use Rattle.cm_syntax.specs.declared.stmt.Stmt.{Stmt, Row_of-Stmt, end_of-Stmt, more_of-Stmt}
use Rattle.cm_syntax.specs.declared.stmt.Stmt.TheVariants as statement
use Rattle.cm_syntax.specs.Shape.{Joined, Prefixed, Element, InputAt, IfAlone, IfElse, WhileLoop, ForLoop}

abbrev mutual
  -- of an expression
  pub LiteralsFit : {N : Type 0} → Expr N → Type 0
  LiteralsFit (expression.Number n) = FitsSigned w32 n
  LiteralsFit (Element a index) = LiteralsFit index
  LiteralsFit (InputAt index) = LiteralsFit index
  LiteralsFit (Prefixed o e) = LiteralsFit e
  LiteralsFit (Joined o l r) = LiteralsFit l × LiteralsFit r
  LiteralsFit (expression.Call' f _ row) = RowLiteralsFit row
  LiteralsFit _ = Unit {0}

  -- of arguments
  pub RowLiteralsFit : {N : Type 0} {n : _} → Row_of-Arg N n → Type 0
  RowLiteralsFit end_of-Arg = Unit {0}
  RowLiteralsFit (more_of-Arg first more) = ArgumentLiteralsFit first × RowLiteralsFit more

  -- of one argument
  pub ArgumentLiteralsFit : {N : Type 0} → Arg N → Type 0
  ArgumentLiteralsFit (argument.Value e) = LiteralsFit e
  ArgumentLiteralsFit _ = Unit {0}

-- of an expression that may not be there
abbrev pub OptionLiteralsFit : {N : Type 0} → Option (Expr N) → Type 0
OptionLiteralsFit None = Unit {0}
OptionLiteralsFit (Some e) = LiteralsFit e

-- an array has at least one word
abbrev pub HasSize : Slot → Type 0
HasSize (slot.Array n) = 0 < n
HasSize _ = Unit {0}

-- of the items of a declaration, each of which has at least one word
abbrev pub ItemsLiteralsFit : {N : Type 0} → List (items.Item N) → Type 0
ItemsLiteralsFit [] = Unit {0}
ItemsLiteralsFit (x ∷ more) = OptionLiteralsFit x.first × ItemsLiteralsFit more × HasSize x.slot

-- of what an assignment writes
abbrev pub TargetLiteralsFit : {N : Type 0} → Target N → Type 0
TargetLiteralsFit (target.Scalar x) = Unit {0}
TargetLiteralsFit (target.Index a index) = LiteralsFit index

abbrev mutual
  -- of a statement
  pub StatementLiteralsFit : {N : Type 0} → Stmt N → Type 0
  StatementLiteralsFit (statement.Declare row) = ItemsLiteralsFit row
  StatementLiteralsFit (statement.Assign written o e) = TargetLiteralsFit written × LiteralsFit e
  StatementLiteralsFit (statement.Call call) = LiteralsFit (expression.Call call)
  StatementLiteralsFit (statement.Spawn at x call) = LiteralsFit (expression.Call call)
  StatementLiteralsFit (IfAlone t s) = LiteralsFit t × StatementLiteralsFit s
  StatementLiteralsFit (IfElse t s o) = LiteralsFit t × StatementLiteralsFit s × StatementLiteralsFit o
  StatementLiteralsFit (WhileLoop t b) = LiteralsFit t × StatementLiteralsFit b
  StatementLiteralsFit (ForLoop first t s b) = StatementLiteralsFit first × OptionLiteralsFit t × StatementLiteralsFit s × StatementLiteralsFit b
  StatementLiteralsFit (statement.Split' whole e l r _ row close) = LiteralsFit e × SequenceLiteralsFit row
  StatementLiteralsFit (statement.Return at e) = OptionLiteralsFit e
  StatementLiteralsFit (statement.Print e) = LiteralsFit e
  StatementLiteralsFit (statement.Block' _ row) = SequenceLiteralsFit row
  StatementLiteralsFit _ = Unit {0}

  -- of the statements of a block
  pub SequenceLiteralsFit : {N : Type 0} {n : _} → Row_of-Stmt N n → Type 0
  SequenceLiteralsFit end_of-Stmt = Unit {0}
  SequenceLiteralsFit (more_of-Stmt first more) = StatementLiteralsFit first × SequenceLiteralsFit more

-- and of a function's body
abbrev pub BodyLiteralsFit : {N : Type 0} → List (Stmt N) → Type 0
BodyLiteralsFit [] = Unit {0}
BodyLiteralsFit (first ∷ more) = StatementLiteralsFit first × BodyLiteralsFit more
