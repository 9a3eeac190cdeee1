use Rattle.std.specs.Prelude.{pos, Some, [], ◌∷◌}
use Rattle.std.specs.Int.{int_wrap}
use Rattle.std.proofs.Common.{refl, arith}
use Rattle.cm_syntax.specs.Stack.{word, empty_stack}
use Rattle.cm_meaning.specs.End.{Done, Spent}
use Rattle.cm_meaning.specs.Meaning.{first_control}
use Rattle.cm_meaning.specs.Row as row
use Rattle.cm_meaning.proofs.SumLaw.{part_sum}
use Rattle.cm_meaning.proofs.RowLaw.{done, spent}
use Rattle.cm_meaning.proofs.ForkMeaning.{only_end}
use Rattle.cm_meaning.proofs.JoinRow.{before, x, low, joined_once}
use Rattle.cm_meaning.proofs.row.joins_count_once.Goals as goal

pub returns-clause-enough : goal.returns-clause-enough
unfolding int_wrap Rattle.cm_syntax.specs.declared.expr.Arg.TheBlock.shape-the_row-Expr-0 Rattle.cm_syntax.specs.declared.expr.Arg.TheBlock.hidden-the_row-Expr-0 Rattle.cm_syntax.specs.declared.expr.Arg.TheBlock.shape-the_row-Arg-1 Rattle.cm_syntax.specs.declared.expr.Arg.TheBlock.hidden-the_row-Arg-1 Rattle.cm_syntax.specs.declared.stmt.Stmt.TheBlock.shape-the_row-Stmt-0 Rattle.cm_syntax.specs.declared.stmt.Stmt.TheBlock.hidden-the_row-Stmt-0 Rattle.cm_syntax.specs.declared.stmt.Stmt.TheBlock.shape-the_row-Stmt-1 Rattle.cm_syntax.specs.declared.stmt.Stmt.TheBlock.hidden-the_row-Stmt-1 denote.Hole.Carrier.hidden
returns-clause-enough c = joined_once row.spawns_and_syncs 256 [] 2 (first_control row.spawns_and_syncs (row.with_ticks 2)) _ _ empty_stack before _ x (pos 4) (word (pos 4) ∷ []) 1 (Done [] (Some (pos 4)) 2) refl refl (part_sum before (Some x) (word (pos 4) ∷ [])) low refl refl refl refl refl (omega arith) _ refl refl

pub returns-clause-spent : goal.returns-clause-spent
unfolding int_wrap Rattle.cm_syntax.specs.declared.expr.Arg.TheBlock.shape-the_row-Expr-0 Rattle.cm_syntax.specs.declared.expr.Arg.TheBlock.hidden-the_row-Expr-0 Rattle.cm_syntax.specs.declared.expr.Arg.TheBlock.shape-the_row-Arg-1 Rattle.cm_syntax.specs.declared.expr.Arg.TheBlock.hidden-the_row-Arg-1 Rattle.cm_syntax.specs.declared.stmt.Stmt.TheBlock.shape-the_row-Stmt-0 Rattle.cm_syntax.specs.declared.stmt.Stmt.TheBlock.hidden-the_row-Stmt-0 Rattle.cm_syntax.specs.declared.stmt.Stmt.TheBlock.shape-the_row-Stmt-1 Rattle.cm_syntax.specs.declared.stmt.Stmt.TheBlock.hidden-the_row-Stmt-1 denote.Hole.Carrier.hidden
returns-clause-spent c = λ e f. only_end row.spawns_and_syncs [] (row.with_ticks 1) Spent e (spent row.spawns_and_syncs [] (row.with_ticks 1) 250 (omega arith)) f

pub returns-clause-serial : goal.returns-clause-serial
unfolding int_wrap Rattle.cm_syntax.specs.declared.expr.Arg.TheBlock.shape-the_row-Expr-0 Rattle.cm_syntax.specs.declared.expr.Arg.TheBlock.hidden-the_row-Expr-0 Rattle.cm_syntax.specs.declared.expr.Arg.TheBlock.shape-the_row-Arg-1 Rattle.cm_syntax.specs.declared.expr.Arg.TheBlock.hidden-the_row-Arg-1 Rattle.cm_syntax.specs.declared.stmt.Stmt.TheBlock.shape-the_row-Stmt-0 Rattle.cm_syntax.specs.declared.stmt.Stmt.TheBlock.hidden-the_row-Stmt-0 Rattle.cm_syntax.specs.declared.stmt.Stmt.TheBlock.shape-the_row-Stmt-1 Rattle.cm_syntax.specs.declared.stmt.Stmt.TheBlock.hidden-the_row-Stmt-1 denote.Hole.Carrier.hidden
returns-clause-serial c = done row.spawns_and_syncs [] (row.with_ticks 2) 250 refl (omega arith)
