use Rattle.std.specs.Prelude.{pos, ◌∷◌}
use Rattle.std.specs.Int.{int_wrap}
use Rattle.std.proofs.Common.{[], refl}
use Rattle.cm_syntax.specs.Stack.{empty_stack}
use Rattle.cm_syntax.specs.Trap as kind
use Rattle.cm_meaning.specs.Piece.{itself, by_child, showing}
use Rattle.cm_meaning.specs.Meaning.{Piece, begun, main_ask, first_control}
use Rattle.cm_meaning.specs.Row as row
use Rattle.cm_meaning.proofs.PieceRow.{ahead, reaches, fallen}
use Rattle.cm_meaning.proofs.ReachedRow.{heard, reaches_heard, stops_by_child}
use Rattle.cm_meaning.proofs.piece_row.decides_or_goes_on.Goals as goal

abbrev first : Piece
first = begun (main_ask row.traps_behind_print (row.with_ticks 9))

-- before main's print, and the child is heard of
abbrev before_print : Piece
before_print = ahead row.traps_behind_print 256 [] 12 9 0 (first_control row.traps_behind_print (row.with_ticks 9)) empty_stack []

abbrev told_ : Piece
told_ = heard row.traps_behind_print 256 [] before_print

abbrev printed_ : Piece
printed_ = ahead row.traps_behind_print 256 [] 1 told_.start told_.own told_.control told_.held told_.log

pub returns : goal.returns
unfolding int_wrap Rattle.cm_syntax.specs.declared.expr.Arg.TheBlock.shape-the_row-Expr-0 Rattle.cm_syntax.specs.declared.expr.Arg.TheBlock.hidden-the_row-Expr-0 Rattle.cm_syntax.specs.declared.expr.Arg.TheBlock.shape-the_row-Arg-1 Rattle.cm_syntax.specs.declared.expr.Arg.TheBlock.hidden-the_row-Arg-1 Rattle.cm_syntax.specs.declared.stmt.Stmt.TheBlock.shape-the_row-Stmt-0 Rattle.cm_syntax.specs.declared.stmt.Stmt.TheBlock.hidden-the_row-Stmt-0 Rattle.cm_syntax.specs.declared.stmt.Stmt.TheBlock.shape-the_row-Stmt-1 Rattle.cm_syntax.specs.declared.stmt.Stmt.TheBlock.hidden-the_row-Stmt-1 denote.Hole.Carrier.hidden
returns c = (
  told_,
  printed_,
  told_.held,
  printed_.held,
  reaches_heard row.traps_behind_print 256 [] first before_print (reaches row.traps_behind_print 256 [] first 12 9 0 (first_control row.traps_behind_print (row.with_ticks 9)) empty_stack [] refl itself),
  by_child (fallen told_.log refl),
  stops_by_child row.traps_behind_print 256 [] told_ (pos 7 ∷ []) kind.Index 3 refl tt refl,
  showing refl,
  refl,
  stops_by_child row.traps_behind_print 256 [] printed_ (pos 7 ∷ []) kind.Index 3 refl tt refl,
)
