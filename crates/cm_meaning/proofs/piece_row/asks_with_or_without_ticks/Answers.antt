use Rattle.std.specs.Int.{int_wrap}
use Rattle.std.proofs.Common.{[], refl}
use Rattle.cm_syntax.specs.Stack.{empty_stack}
use Rattle.cm_meaning.specs.Piece.{itself, parting, none, counted, skipped}
use Rattle.cm_meaning.specs.Meaning.{Piece, Reached, begun, main_ask, first_control}
use Rattle.cm_meaning.specs.Row as row
use Rattle.cm_meaning.proofs.PieceRow.{ahead, reaches}
use Rattle.cm_meaning.proofs.ReachedRow.{heard, reaches_heard}
use Rattle.cm_meaning.proofs.piece_row.asks_with_or_without_ticks.Goals as goal

abbrev first : Piece
first = begun (main_ask row.spawns_twice (row.with_ticks 5))

-- behind the first spawn, and where its child is heard of
abbrev spawned : Piece
spawned = ahead row.spawns_twice 256 [] 5 5 0 (first_control row.spawns_twice (row.with_ticks 5)) empty_stack []

abbrev told_ : Piece
told_ = heard row.spawns_twice 256 [] spawned

-- at the second spawn
abbrev at_spawn : Piece
at_spawn = ahead row.spawns_twice 256 [] 2 told_.start told_.own told_.control told_.held told_.log

told_reached : Reached row.spawns_twice 256 [] first told_
told_reached = reaches_heard row.spawns_twice 256 [] first spawned (reaches row.spawns_twice 256 [] first 5 5 0 (first_control row.spawns_twice (row.with_ticks 5)) empty_stack [] refl itself)

pub returns : goal.returns
unfolding int_wrap Rattle.cm_syntax.specs.declared.expr.Arg.TheBlock.shape-the_row-Expr-0 Rattle.cm_syntax.specs.declared.expr.Arg.TheBlock.hidden-the_row-Expr-0 Rattle.cm_syntax.specs.declared.expr.Arg.TheBlock.shape-the_row-Arg-1 Rattle.cm_syntax.specs.declared.expr.Arg.TheBlock.hidden-the_row-Arg-1 Rattle.cm_syntax.specs.declared.stmt.Stmt.TheBlock.shape-the_row-Stmt-0 Rattle.cm_syntax.specs.declared.stmt.Stmt.TheBlock.hidden-the_row-Stmt-0 Rattle.cm_syntax.specs.declared.stmt.Stmt.TheBlock.shape-the_row-Stmt-1 Rattle.cm_syntax.specs.declared.stmt.Stmt.TheBlock.hidden-the_row-Stmt-1 denote.Hole.Carrier.hidden
returns c = (
  at_spawn,
  _,
  _,
  _,
  _,
  _,
  _,
  reaches row.spawns_twice 256 [] first 2 told_.start told_.own told_.control told_.held told_.log refl told_reached,
  refl,
  parting refl (skipped none),
  refl,
  refl,
  parting refl (counted none),
  refl,
  refl,
)
