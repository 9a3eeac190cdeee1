use Rattle.std.specs.Prelude.{[]}
use Rattle.std.specs.Int.{int_wrap}
use Rattle.std.proofs.Common.{refl}
use Rattle.cm_syntax.specs.Stack.{empty_stack}
use Rattle.cm_meaning.specs.Piece.{itself, by_trap}
use Rattle.cm_meaning.specs.Meaning.{begun, main_ask, first_control}
use Rattle.cm_meaning.specs.Row as row
use Rattle.cm_meaning.proofs.PieceRow.{ahead, reaches}
use Rattle.cm_meaning.proofs.piece_row.traps_beside_awaited.Goals as goal

pub returns : goal.returns
unfolding int_wrap Rattle.cm_syntax.specs.declared.expr.Arg.TheBlock.shape-the_row-Expr-0 Rattle.cm_syntax.specs.declared.expr.Arg.TheBlock.hidden-the_row-Expr-0 Rattle.cm_syntax.specs.declared.expr.Arg.TheBlock.shape-the_row-Arg-1 Rattle.cm_syntax.specs.declared.expr.Arg.TheBlock.hidden-the_row-Arg-1 Rattle.cm_syntax.specs.declared.stmt.Stmt.TheBlock.shape-the_row-Stmt-0 Rattle.cm_syntax.specs.declared.stmt.Stmt.TheBlock.hidden-the_row-Stmt-0 Rattle.cm_syntax.specs.declared.stmt.Stmt.TheBlock.shape-the_row-Stmt-1 Rattle.cm_syntax.specs.declared.stmt.Stmt.TheBlock.hidden-the_row-Stmt-1 denote.Hole.Carrier.hidden
returns c =
    let limits = row.with_ticks 12 in
    let first = begun (main_ask row.loop_beside_trap limits) in
    let control = first_control row.loop_beside_trap limits in
    (ahead row.loop_beside_trap 256 [] 60 12 0 control empty_stack [], _, reaches row.loop_beside_trap 256 [] first 60 12 0 control empty_stack [] refl itself, refl, by_trap refl)
