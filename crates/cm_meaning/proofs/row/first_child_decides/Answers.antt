use Rattle.std.specs.Prelude.{[]}
use Rattle.std.specs.Int.{int_wrap}
use Rattle.std.proofs.Common.{refl, arith}
use Rattle.cm_syntax.specs.Stack.{empty_stack}
use Rattle.cm_syntax.specs.Trap as kind
use Rattle.cm_meaning.specs.End.{Trapped}
use Rattle.cm_meaning.specs.Meaning.{first_control}
use Rattle.cm_meaning.specs.Row as row
use Rattle.cm_meaning.proofs.RowLaw.{trapped}
use Rattle.cm_meaning.proofs.PieceRow.{allowed}
use Rattle.cm_meaning.proofs.ForkMeaning.{only_end}
use Rattle.cm_meaning.proofs.row.first_child_decides.Goals as goal

pub returns-clause-end : goal.returns-clause-end
unfolding int_wrap Rattle.cm_syntax.specs.declared.expr.Arg.TheBlock.shape-the_row-Expr-0 Rattle.cm_syntax.specs.declared.expr.Arg.TheBlock.hidden-the_row-Expr-0 Rattle.cm_syntax.specs.declared.expr.Arg.TheBlock.shape-the_row-Arg-1 Rattle.cm_syntax.specs.declared.expr.Arg.TheBlock.hidden-the_row-Arg-1 Rattle.cm_syntax.specs.declared.stmt.Stmt.TheBlock.shape-the_row-Stmt-0 Rattle.cm_syntax.specs.declared.stmt.Stmt.TheBlock.hidden-the_row-Stmt-0 Rattle.cm_syntax.specs.declared.stmt.Stmt.TheBlock.shape-the_row-Stmt-1 Rattle.cm_syntax.specs.declared.stmt.Stmt.TheBlock.hidden-the_row-Stmt-1 denote.Hole.Carrier.hidden
returns-clause-end c = allowed row.two_traps 256 [] 250 20 (first_control row.two_traps (row.with_ticks 20)) empty_stack (Trapped [] kind.Divide 5) _ refl refl

pub returns-clause-alone : goal.returns-clause-alone
unfolding int_wrap Rattle.cm_syntax.specs.declared.expr.Arg.TheBlock.shape-the_row-Expr-0 Rattle.cm_syntax.specs.declared.expr.Arg.TheBlock.hidden-the_row-Expr-0 Rattle.cm_syntax.specs.declared.expr.Arg.TheBlock.shape-the_row-Arg-1 Rattle.cm_syntax.specs.declared.expr.Arg.TheBlock.hidden-the_row-Arg-1 Rattle.cm_syntax.specs.declared.stmt.Stmt.TheBlock.shape-the_row-Stmt-0 Rattle.cm_syntax.specs.declared.stmt.Stmt.TheBlock.hidden-the_row-Stmt-0 Rattle.cm_syntax.specs.declared.stmt.Stmt.TheBlock.shape-the_row-Stmt-1 Rattle.cm_syntax.specs.declared.stmt.Stmt.TheBlock.hidden-the_row-Stmt-1 denote.Hole.Carrier.hidden
returns-clause-alone c = λ e f. only_end row.two_traps [] (row.with_ticks 20) (Trapped [] kind.Divide 5) e (trapped row.two_traps [] (row.with_ticks 20) 250 refl (omega arith)) f

pub returns-clause-serial : goal.returns-clause-serial
unfolding int_wrap Rattle.cm_syntax.specs.declared.expr.Arg.TheBlock.shape-the_row-Expr-0 Rattle.cm_syntax.specs.declared.expr.Arg.TheBlock.hidden-the_row-Expr-0 Rattle.cm_syntax.specs.declared.expr.Arg.TheBlock.shape-the_row-Arg-1 Rattle.cm_syntax.specs.declared.expr.Arg.TheBlock.hidden-the_row-Arg-1 Rattle.cm_syntax.specs.declared.stmt.Stmt.TheBlock.shape-the_row-Stmt-0 Rattle.cm_syntax.specs.declared.stmt.Stmt.TheBlock.hidden-the_row-Stmt-0 Rattle.cm_syntax.specs.declared.stmt.Stmt.TheBlock.shape-the_row-Stmt-1 Rattle.cm_syntax.specs.declared.stmt.Stmt.TheBlock.hidden-the_row-Stmt-1 denote.Hole.Carrier.hidden
returns-clause-serial c = trapped row.two_traps [] (row.with_ticks 20) 250 refl (omega arith)
