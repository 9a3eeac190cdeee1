use Rattle.std.specs.Prelude.{[]}
use Rattle.std.specs.Int.{int_wrap}
use Rattle.std.proofs.Common.{refl, arith}
use Rattle.cm_syntax.specs.Stack.{empty_stack}
use Rattle.cm_meaning.specs.Meaning.{begun, main_ask, first_control}
use Rattle.cm_meaning.specs.Piece.{itself}
use Rattle.cm_meaning.specs.Row as row
use Rattle.cm_meaning.proofs.RowLaw.{done}
use Rattle.cm_meaning.proofs.PieceRow.{ahead, reaches}
use Rattle.cm_meaning.proofs.row.returned_before_waiting.Goals as goal

pub returns-clause-stuck : goal.returns-clause-stuck
unfolding int_wrap Rattle.cm_syntax.specs.declared.expr.Arg.TheBlock.shape-the_row-Expr-0 Rattle.cm_syntax.specs.declared.expr.Arg.TheBlock.hidden-the_row-Expr-0 Rattle.cm_syntax.specs.declared.expr.Arg.TheBlock.shape-the_row-Arg-1 Rattle.cm_syntax.specs.declared.expr.Arg.TheBlock.hidden-the_row-Arg-1 Rattle.cm_syntax.specs.declared.stmt.Stmt.TheBlock.shape-the_row-Stmt-0 Rattle.cm_syntax.specs.declared.stmt.Stmt.TheBlock.hidden-the_row-Stmt-0 Rattle.cm_syntax.specs.declared.stmt.Stmt.TheBlock.shape-the_row-Stmt-1 Rattle.cm_syntax.specs.declared.stmt.Stmt.TheBlock.hidden-the_row-Stmt-1 denote.Hole.Carrier.hidden
returns-clause-stuck c = λ never.
    let limits = row.with_ticks 2 in
    let first = begun (main_ask row.returns_awaited limits) in
    let control = first_control row.returns_awaited limits in
    never (ahead row.returns_awaited 256 [] 60 2 0 control empty_stack []) (reaches row.returns_awaited 256 [] first 60 2 0 control empty_stack [] refl itself) refl

pub returns-clause-serial : goal.returns-clause-serial
unfolding int_wrap Rattle.cm_syntax.specs.declared.expr.Arg.TheBlock.shape-the_row-Expr-0 Rattle.cm_syntax.specs.declared.expr.Arg.TheBlock.hidden-the_row-Expr-0 Rattle.cm_syntax.specs.declared.expr.Arg.TheBlock.shape-the_row-Arg-1 Rattle.cm_syntax.specs.declared.expr.Arg.TheBlock.hidden-the_row-Arg-1 Rattle.cm_syntax.specs.declared.stmt.Stmt.TheBlock.shape-the_row-Stmt-0 Rattle.cm_syntax.specs.declared.stmt.Stmt.TheBlock.hidden-the_row-Stmt-0 Rattle.cm_syntax.specs.declared.stmt.Stmt.TheBlock.shape-the_row-Stmt-1 Rattle.cm_syntax.specs.declared.stmt.Stmt.TheBlock.hidden-the_row-Stmt-1 denote.Hole.Carrier.hidden
returns-clause-serial c = done row.returns_awaited [] (row.with_ticks 2) 250 refl (omega arith)
