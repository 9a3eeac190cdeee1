-- The rows of a call and of a block as the code makes them: the row that the tree holds, of which the items are the list.
use mathlib.Core.Former.{Count}
use Rattle.cm_syntax.specs.declared.expr.Expr.{Expr}
use Rattle.cm_syntax.specs.declared.expr.Expr.TheVariants as expression
use Rattle.cm_syntax.specs.declared.expr.Call.{Row_of-Arg, end_of-Arg}
use Rattle.cm_syntax.specs.declared.stmt.Stmt.{Stmt, Row_of-Stmt, end_of-Stmt}
use Rattle.cm_syntax.specs.declared.stmt.Stmt.TheVariants as statement

-- the arguments of a call
abbrev pub row_of_call : {N : Type 0} → Expr N → (n : Count) × Row_of-Arg N n
row_of_call (expression.Call' _ _ row) = (_, row)
row_of_call _ = (_, end_of-Arg)

-- the statements of a block or a split
abbrev pub row_of_block : {N : Type 0} → Stmt N → (n : Count) × Row_of-Stmt N n
row_of_block (statement.Block' _ row) = (_, row)
row_of_block (statement.Split' _ _ _ _ _ row _) = (_, row)
row_of_block _ = (_, end_of-Stmt)
