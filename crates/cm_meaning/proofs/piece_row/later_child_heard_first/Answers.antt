use Rattle.std.proofs.Common.{[], refl}
use Rattle.std.specs.Int.{int_wrap}
use Rattle.cm_syntax.specs.Stack.{empty_stack}
use Rattle.cm_meaning.specs.Piece.{itself}
use Rattle.cm_meaning.specs.Meaning.{Piece, begun, main_ask, first_control}
use Rattle.cm_meaning.specs.Row as row
use Rattle.cm_meaning.proofs.PieceRow.{ahead, reaches}
use Rattle.cm_meaning.proofs.ReachedRow.{heard, reaches_heard}
use Rattle.cm_meaning.proofs.piece_row.later_child_heard_first.Goals as goal

abbrev first : Piece
first = begun (main_ask row.spawns_twice (row.with_ticks 5))

-- behind both spawns
abbrev spawned : Piece
spawned = ahead row.spawns_twice 256 [] 8 5 0 (first_control row.spawns_twice (row.with_ticks 5)) empty_stack []

pub returns : goal.returns
unfolding int_wrap Rattle.cm_syntax.specs.declared.expr.Arg.TheBlock.shape-the_row-Expr-0 Rattle.cm_syntax.specs.declared.expr.Arg.TheBlock.hidden-the_row-Expr-0 Rattle.cm_syntax.specs.declared.expr.Arg.TheBlock.shape-the_row-Arg-1 Rattle.cm_syntax.specs.declared.expr.Arg.TheBlock.hidden-the_row-Arg-1 Rattle.cm_syntax.specs.declared.stmt.Stmt.TheBlock.shape-the_row-Stmt-0 Rattle.cm_syntax.specs.declared.stmt.Stmt.TheBlock.hidden-the_row-Stmt-0 Rattle.cm_syntax.specs.declared.stmt.Stmt.TheBlock.shape-the_row-Stmt-1 Rattle.cm_syntax.specs.declared.stmt.Stmt.TheBlock.hidden-the_row-Stmt-1 denote.Hole.Carrier.hidden
returns c =
    (heard row.spawns_twice 256 [] spawned, _, _, _, reaches_heard row.spawns_twice 256 [] first spawned (reaches row.spawns_twice 256 [] first 8 5 0 (first_control row.spawns_twice (row.with_ticks 5)) empty_stack [] refl itself), refl)
