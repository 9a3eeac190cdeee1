use Rattle.std.specs.Prelude.{false, pos, Some, ◌∷◌}
use Rattle.std.specs.Int.{int_wrap}
use Rattle.std.proofs.Common.{[], refl}
use Rattle.cm_syntax.specs.Stack.{Stack, word, empty_stack, lent_stack, push_frame, pop_frame}
use Rattle.cm_meaning.specs.End.{Done}
use Rattle.cm_meaning.specs.Piece.{itself, awaited, here}
use Rattle.cm_meaning.specs.Meaning.{Ask, Piece, Answers, begun, main_ask, first_control}
use Rattle.cm_meaning.specs.Row as row
use Rattle.cm_meaning.proofs.PieceRow.{ahead, reaches, followed}
use Rattle.cm_meaning.proofs.JoinRow.{before, x, low, pushed_popped}
use Rattle.cm_meaning.proofs.ReachedRow.{ask_in, same_cells}
use Rattle.cm_meaning.proofs.piece_row.answer_of_child.Goals as goal

-- at the sync
abbrev waiting : Piece
waiting = ahead row.spawns_and_syncs 256 [] 60 2 0 (first_control row.spawns_and_syncs (row.with_ticks 2)) empty_stack []

abbrev ask : Ask
ask = ask_in waiting.log (main_ask row.spawns_and_syncs (row.with_ticks 2))

abbrev lent : Stack
lent = lent_stack before (Some x) (word (pos 4) ∷ [])

abbrev back : Stack
back = pop_frame (push_frame lent 1 (word (pos 4) ∷ [])) 1

answers : Answers row.spawns_and_syncs [] (row.with_ticks 2) ask (Done [] (Some (pos 4)) 1) back
unfolding int_wrap Rattle.cm_syntax.specs.declared.expr.Arg.TheBlock.shape-the_row-Expr-0 Rattle.cm_syntax.specs.declared.expr.Arg.TheBlock.hidden-the_row-Expr-0 Rattle.cm_syntax.specs.declared.expr.Arg.TheBlock.shape-the_row-Arg-1 Rattle.cm_syntax.specs.declared.expr.Arg.TheBlock.hidden-the_row-Arg-1 Rattle.cm_syntax.specs.declared.stmt.Stmt.TheBlock.shape-the_row-Stmt-0 Rattle.cm_syntax.specs.declared.stmt.Stmt.TheBlock.hidden-the_row-Stmt-0 Rattle.cm_syntax.specs.declared.stmt.Stmt.TheBlock.shape-the_row-Stmt-1 Rattle.cm_syntax.specs.declared.stmt.Stmt.TheBlock.hidden-the_row-Stmt-1 denote.Hole.Carrier.hidden
answers = record {
  parent = waiting;
  reached = reaches row.spawns_and_syncs 256 [] (begun (main_ask row.spawns_and_syncs (row.with_ticks 2))) 60 2 0 (first_control row.spawns_and_syncs (row.with_ticks 2)) empty_stack [] refl itself;
  asked = (0, 1, Some x, false, awaited, here);
  allowed = followed row.spawns_and_syncs 256 [] 250 ask.start 0 ask.call ask.lent [] tt refl;
  cells = same_cells lent back (pushed_popped 1 lent (word (pos 4) ∷ []) low);
}

pub returns : goal.returns
returns c = (ask, back, answers)
