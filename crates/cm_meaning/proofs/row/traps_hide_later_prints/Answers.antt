use Rattle.std.specs.Prelude.{pos, [], ◌∷◌, ◌≡◌}
use Rattle.std.specs.Int.{int_wrap}
use Rattle.std.proofs.Common.{refl, arith}
use Rattle.cm_syntax.specs.Stack.{empty_stack}
use Rattle.cm_syntax.specs.Trap as kind
use Rattle.cm_meaning.specs.End.{Trapped}
use Rattle.cm_meaning.specs.Meaning.{first_control, SerialEnd}
use Rattle.cm_meaning.specs.Row as row
use Rattle.cm_meaning.proofs.RowLaw.{trapped}
use Rattle.cm_meaning.proofs.PieceRow.{allowed}
use Rattle.cm_meaning.proofs.ForkMeaning.{only_end}
use Rattle.cm_meaning.proofs.row.traps_hide_later_prints.Goals as goal

serial : SerialEnd row.traps_behind_print [] (row.with_ticks 9) (Trapped (pos 7 ∷ []) kind.Index 3)
unfolding int_wrap Rattle.cm_syntax.specs.declared.expr.Arg.TheBlock.shape-the_row-Expr-0 Rattle.cm_syntax.specs.declared.expr.Arg.TheBlock.hidden-the_row-Expr-0 Rattle.cm_syntax.specs.declared.expr.Arg.TheBlock.shape-the_row-Arg-1 Rattle.cm_syntax.specs.declared.expr.Arg.TheBlock.hidden-the_row-Arg-1 Rattle.cm_syntax.specs.declared.stmt.Stmt.TheBlock.shape-the_row-Stmt-0 Rattle.cm_syntax.specs.declared.stmt.Stmt.TheBlock.hidden-the_row-Stmt-0 Rattle.cm_syntax.specs.declared.stmt.Stmt.TheBlock.shape-the_row-Stmt-1 Rattle.cm_syntax.specs.declared.stmt.Stmt.TheBlock.hidden-the_row-Stmt-1 denote.Hole.Carrier.hidden
serial = trapped row.traps_behind_print [] (row.with_ticks 9) 250 refl (omega arith)

pub returns-clause-serial : goal.returns-clause-serial
returns-clause-serial c = serial

pub returns-clause-end : goal.returns-clause-end
unfolding int_wrap Rattle.cm_syntax.specs.declared.expr.Arg.TheBlock.shape-the_row-Expr-0 Rattle.cm_syntax.specs.declared.expr.Arg.TheBlock.hidden-the_row-Expr-0 Rattle.cm_syntax.specs.declared.expr.Arg.TheBlock.shape-the_row-Arg-1 Rattle.cm_syntax.specs.declared.expr.Arg.TheBlock.hidden-the_row-Arg-1 Rattle.cm_syntax.specs.declared.stmt.Stmt.TheBlock.shape-the_row-Stmt-0 Rattle.cm_syntax.specs.declared.stmt.Stmt.TheBlock.hidden-the_row-Stmt-0 Rattle.cm_syntax.specs.declared.stmt.Stmt.TheBlock.shape-the_row-Stmt-1 Rattle.cm_syntax.specs.declared.stmt.Stmt.TheBlock.hidden-the_row-Stmt-1 denote.Hole.Carrier.hidden
returns-clause-end c = allowed row.traps_behind_print 256 [] 250 9 (first_control row.traps_behind_print (row.with_ticks 9)) empty_stack (Trapped (pos 7 ∷ []) kind.Index 3) _ refl refl

pub returns-clause-alone : goal.returns-clause-alone
returns-clause-alone c = λ e f. only_end row.traps_behind_print [] (row.with_ticks 9) (Trapped (pos 7 ∷ []) kind.Index 3) e serial f

pub returns-clause-no_other : goal.returns-clause-no_other
returns-clause-no_other c = λ f. differ (only_end row.traps_behind_print [] (row.with_ticks 9) (Trapped (pos 7 ∷ []) kind.Index 3) (Trapped (pos 7 ∷ pos 8 ∷ []) kind.Index 4) serial f)
  where
    differ : Trapped (pos 7 ∷ pos 8 ∷ []) kind.Index 4 ≡ Trapped (pos 7 ∷ []) kind.Index 3 → ⊥
    differ e = cc e
