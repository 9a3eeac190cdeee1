use Rattle.std.specs.Prelude.{pos, Some, None, [], ◌∷◌, ◌≡◌}
use Rattle.std.specs.Int.{int_wrap}
use Rattle.std.proofs.Common.{refl, arith}
use Rattle.cm_syntax.specs.Stack.{Stack, IsUnder, lent_stack, kept_stack, empty_stack, push_frame}
use Rattle.cm_meaning.specs.End.{Done, Spent}
use Rattle.cm_meaning.specs.Piece.{past, none}
use Rattle.cm_meaning.specs.Meaning.{first_control, SerialEnd}
use Rattle.cm_meaning.specs.Row as row
use Rattle.cm_meaning.proofs.SumLaw.{part_sum}
use Rattle.cm_meaning.proofs.RowLaw.{done, spent}
use Rattle.cm_meaning.proofs.ForkMeaning.{only_end}
use Rattle.cm_meaning.proofs.PrintRow.{joined_prints}
use Rattle.cm_meaning.proofs.row.prints_in_the_order_of_spawns.Goals as goal

-- main's stack at the spawn
abbrev before : Stack
before = push_frame empty_stack 0 []

low : IsUnder 1 (lent_stack before None [])
low = record { words = λ d s i l. refl; references = λ d s l. refl }

serial : SerialEnd row.prints_in_order [] (row.with_ticks 6) (Done (pos 1 ∷ pos 2 ∷ pos 3 ∷ pos 4 ∷ []) (Some (pos 0)) 6)
unfolding int_wrap Rattle.cm_syntax.specs.declared.expr.Arg.TheBlock.shape-the_row-Expr-0 Rattle.cm_syntax.specs.declared.expr.Arg.TheBlock.hidden-the_row-Expr-0 Rattle.cm_syntax.specs.declared.expr.Arg.TheBlock.shape-the_row-Arg-1 Rattle.cm_syntax.specs.declared.expr.Arg.TheBlock.hidden-the_row-Arg-1 Rattle.cm_syntax.specs.declared.stmt.Stmt.TheBlock.shape-the_row-Stmt-0 Rattle.cm_syntax.specs.declared.stmt.Stmt.TheBlock.hidden-the_row-Stmt-0 Rattle.cm_syntax.specs.declared.stmt.Stmt.TheBlock.shape-the_row-Stmt-1 Rattle.cm_syntax.specs.declared.stmt.Stmt.TheBlock.hidden-the_row-Stmt-1 denote.Hole.Carrier.hidden
serial = done row.prints_in_order [] (row.with_ticks 6) 250 refl (omega arith)

pub returns-clause-serial : goal.returns-clause-serial
returns-clause-serial c = serial

pub returns-clause-end : goal.returns-clause-end
unfolding int_wrap Rattle.cm_syntax.specs.declared.expr.Arg.TheBlock.shape-the_row-Expr-0 Rattle.cm_syntax.specs.declared.expr.Arg.TheBlock.hidden-the_row-Expr-0 Rattle.cm_syntax.specs.declared.expr.Arg.TheBlock.shape-the_row-Arg-1 Rattle.cm_syntax.specs.declared.expr.Arg.TheBlock.hidden-the_row-Arg-1 Rattle.cm_syntax.specs.declared.stmt.Stmt.TheBlock.shape-the_row-Stmt-0 Rattle.cm_syntax.specs.declared.stmt.Stmt.TheBlock.hidden-the_row-Stmt-0 Rattle.cm_syntax.specs.declared.stmt.Stmt.TheBlock.shape-the_row-Stmt-1 Rattle.cm_syntax.specs.declared.stmt.Stmt.TheBlock.hidden-the_row-Stmt-1 denote.Hole.Carrier.hidden
returns-clause-end c = joined_prints row.prints_in_order 256 [] 6 (first_control row.prints_in_order (row.with_ticks 6)) _ _ _ empty_stack (lent_stack before None []) (kept_stack before None []) _ _ (pos 2 ∷ []) 2 (pos 3) (Done (pos 1 ∷ pos 2 ∷ pos 3 ∷ pos 4 ∷ []) (Some (pos 0)) 6)
    refl refl refl refl refl (part_sum before None []) low refl refl refl refl refl refl (past none) (omega arith) _ refl refl tt

pub returns-clause-alone : goal.returns-clause-alone
returns-clause-alone c = λ e f. only_end row.prints_in_order [] (row.with_ticks 6) (Done (pos 1 ∷ pos 2 ∷ pos 3 ∷ pos 4 ∷ []) (Some (pos 0)) 6) e serial f

pub returns-clause-no_other : goal.returns-clause-no_other
returns-clause-no_other c = λ f. differ (only_end row.prints_in_order [] (row.with_ticks 6) (Done (pos 1 ∷ pos 2 ∷ pos 3 ∷ pos 4 ∷ []) (Some (pos 0)) 6) (Done (pos 1 ∷ pos 3 ∷ pos 2 ∷ pos 4 ∷ []) (Some (pos 0)) 6) serial f)
  where
    differ : Done (pos 1 ∷ pos 3 ∷ pos 2 ∷ pos 4 ∷ []) (Some (pos 0)) 6 ≡ Done (pos 1 ∷ pos 2 ∷ pos 3 ∷ pos 4 ∷ []) (Some (pos 0)) 6 → ⊥
    differ e = cc e

pub returns-clause-spent : goal.returns-clause-spent
unfolding int_wrap Rattle.cm_syntax.specs.declared.expr.Arg.TheBlock.shape-the_row-Expr-0 Rattle.cm_syntax.specs.declared.expr.Arg.TheBlock.hidden-the_row-Expr-0 Rattle.cm_syntax.specs.declared.expr.Arg.TheBlock.shape-the_row-Arg-1 Rattle.cm_syntax.specs.declared.expr.Arg.TheBlock.hidden-the_row-Arg-1 Rattle.cm_syntax.specs.declared.stmt.Stmt.TheBlock.shape-the_row-Stmt-0 Rattle.cm_syntax.specs.declared.stmt.Stmt.TheBlock.hidden-the_row-Stmt-0 Rattle.cm_syntax.specs.declared.stmt.Stmt.TheBlock.shape-the_row-Stmt-1 Rattle.cm_syntax.specs.declared.stmt.Stmt.TheBlock.hidden-the_row-Stmt-1 denote.Hole.Carrier.hidden
returns-clause-spent c = λ e f. only_end row.prints_in_order [] (row.with_ticks 5) Spent e (spent row.prints_in_order [] (row.with_ticks 5) 250 (omega arith)) f
