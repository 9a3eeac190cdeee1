use Rattle.std.proofs.Common.{refl}
use Rattle.std.specs.Fmt.{digits}
use Rattle.cm_lend.proofs.Computing.{has_answer}
use Rattle.cm_lend.proofs.law.accepted_sources.Goals as goal

pub returns-clause-synced_round : goal.returns-clause-synced_round
unfolding digits Rattle.cm_syntax.specs.declared.expr.Arg.TheBlock.shape-the_row-Expr-0 Rattle.cm_syntax.specs.declared.expr.Arg.TheBlock.hidden-the_row-Expr-0 Rattle.cm_syntax.specs.declared.expr.Arg.TheBlock.shape-the_row-Arg-1 Rattle.cm_syntax.specs.declared.expr.Arg.TheBlock.hidden-the_row-Arg-1 Rattle.cm_syntax.specs.declared.stmt.Stmt.TheBlock.shape-the_row-Stmt-0 Rattle.cm_syntax.specs.declared.stmt.Stmt.TheBlock.hidden-the_row-Stmt-0 Rattle.cm_syntax.specs.declared.stmt.Stmt.TheBlock.shape-the_row-Stmt-1 Rattle.cm_syntax.specs.declared.stmt.Stmt.TheBlock.hidden-the_row-Stmt-1 denote.Hole.Carrier.hidden
returns-clause-synced_round c = has_answer _ (refl, refl)

pub returns-clause-other_branch : goal.returns-clause-other_branch
unfolding digits Rattle.cm_syntax.specs.declared.expr.Arg.TheBlock.shape-the_row-Expr-0 Rattle.cm_syntax.specs.declared.expr.Arg.TheBlock.hidden-the_row-Expr-0 Rattle.cm_syntax.specs.declared.expr.Arg.TheBlock.shape-the_row-Arg-1 Rattle.cm_syntax.specs.declared.expr.Arg.TheBlock.hidden-the_row-Arg-1 Rattle.cm_syntax.specs.declared.stmt.Stmt.TheBlock.shape-the_row-Stmt-0 Rattle.cm_syntax.specs.declared.stmt.Stmt.TheBlock.hidden-the_row-Stmt-0 Rattle.cm_syntax.specs.declared.stmt.Stmt.TheBlock.shape-the_row-Stmt-1 Rattle.cm_syntax.specs.declared.stmt.Stmt.TheBlock.hidden-the_row-Stmt-1 denote.Hole.Carrier.hidden
returns-clause-other_branch c = has_answer _ (refl, refl)

pub returns-clause-returned : goal.returns-clause-returned
unfolding digits Rattle.cm_syntax.specs.declared.expr.Arg.TheBlock.shape-the_row-Expr-0 Rattle.cm_syntax.specs.declared.expr.Arg.TheBlock.hidden-the_row-Expr-0 Rattle.cm_syntax.specs.declared.expr.Arg.TheBlock.shape-the_row-Arg-1 Rattle.cm_syntax.specs.declared.expr.Arg.TheBlock.hidden-the_row-Arg-1 Rattle.cm_syntax.specs.declared.stmt.Stmt.TheBlock.shape-the_row-Stmt-0 Rattle.cm_syntax.specs.declared.stmt.Stmt.TheBlock.hidden-the_row-Stmt-0 Rattle.cm_syntax.specs.declared.stmt.Stmt.TheBlock.shape-the_row-Stmt-1 Rattle.cm_syntax.specs.declared.stmt.Stmt.TheBlock.hidden-the_row-Stmt-1 denote.Hole.Carrier.hidden
returns-clause-returned c = has_answer _ (refl, refl)

pub returns-clause-endless : goal.returns-clause-endless
unfolding digits Rattle.cm_syntax.specs.declared.expr.Arg.TheBlock.shape-the_row-Expr-0 Rattle.cm_syntax.specs.declared.expr.Arg.TheBlock.hidden-the_row-Expr-0 Rattle.cm_syntax.specs.declared.expr.Arg.TheBlock.shape-the_row-Arg-1 Rattle.cm_syntax.specs.declared.expr.Arg.TheBlock.hidden-the_row-Arg-1 Rattle.cm_syntax.specs.declared.stmt.Stmt.TheBlock.shape-the_row-Stmt-0 Rattle.cm_syntax.specs.declared.stmt.Stmt.TheBlock.hidden-the_row-Stmt-0 Rattle.cm_syntax.specs.declared.stmt.Stmt.TheBlock.shape-the_row-Stmt-1 Rattle.cm_syntax.specs.declared.stmt.Stmt.TheBlock.hidden-the_row-Stmt-1 denote.Hole.Carrier.hidden
returns-clause-endless c = has_answer _ (refl, refl)

pub returns-clause-before : goal.returns-clause-before
unfolding digits Rattle.cm_syntax.specs.declared.expr.Arg.TheBlock.shape-the_row-Expr-0 Rattle.cm_syntax.specs.declared.expr.Arg.TheBlock.hidden-the_row-Expr-0 Rattle.cm_syntax.specs.declared.expr.Arg.TheBlock.shape-the_row-Arg-1 Rattle.cm_syntax.specs.declared.expr.Arg.TheBlock.hidden-the_row-Arg-1 Rattle.cm_syntax.specs.declared.stmt.Stmt.TheBlock.shape-the_row-Stmt-0 Rattle.cm_syntax.specs.declared.stmt.Stmt.TheBlock.hidden-the_row-Stmt-0 Rattle.cm_syntax.specs.declared.stmt.Stmt.TheBlock.shape-the_row-Stmt-1 Rattle.cm_syntax.specs.declared.stmt.Stmt.TheBlock.hidden-the_row-Stmt-1 denote.Hole.Carrier.hidden
returns-clause-before c = has_answer _ (refl, refl)

pub returns-clause-returned_in_split : goal.returns-clause-returned_in_split
unfolding digits Rattle.cm_syntax.specs.declared.expr.Arg.TheBlock.shape-the_row-Expr-0 Rattle.cm_syntax.specs.declared.expr.Arg.TheBlock.hidden-the_row-Expr-0 Rattle.cm_syntax.specs.declared.expr.Arg.TheBlock.shape-the_row-Arg-1 Rattle.cm_syntax.specs.declared.expr.Arg.TheBlock.hidden-the_row-Arg-1 Rattle.cm_syntax.specs.declared.stmt.Stmt.TheBlock.shape-the_row-Stmt-0 Rattle.cm_syntax.specs.declared.stmt.Stmt.TheBlock.hidden-the_row-Stmt-0 Rattle.cm_syntax.specs.declared.stmt.Stmt.TheBlock.shape-the_row-Stmt-1 Rattle.cm_syntax.specs.declared.stmt.Stmt.TheBlock.hidden-the_row-Stmt-1 denote.Hole.Carrier.hidden
returns-clause-returned_in_split c = has_answer _ (refl, refl)

pub returns-clause-other_part : goal.returns-clause-other_part
unfolding digits Rattle.cm_syntax.specs.declared.expr.Arg.TheBlock.shape-the_row-Expr-0 Rattle.cm_syntax.specs.declared.expr.Arg.TheBlock.hidden-the_row-Expr-0 Rattle.cm_syntax.specs.declared.expr.Arg.TheBlock.shape-the_row-Arg-1 Rattle.cm_syntax.specs.declared.expr.Arg.TheBlock.hidden-the_row-Arg-1 Rattle.cm_syntax.specs.declared.stmt.Stmt.TheBlock.shape-the_row-Stmt-0 Rattle.cm_syntax.specs.declared.stmt.Stmt.TheBlock.hidden-the_row-Stmt-0 Rattle.cm_syntax.specs.declared.stmt.Stmt.TheBlock.shape-the_row-Stmt-1 Rattle.cm_syntax.specs.declared.stmt.Stmt.TheBlock.hidden-the_row-Stmt-1 denote.Hole.Carrier.hidden
returns-clause-other_part c = has_answer _ (refl, refl)

pub returns-clause-nested_call : goal.returns-clause-nested_call
unfolding digits Rattle.cm_syntax.specs.declared.expr.Arg.TheBlock.shape-the_row-Expr-0 Rattle.cm_syntax.specs.declared.expr.Arg.TheBlock.hidden-the_row-Expr-0 Rattle.cm_syntax.specs.declared.expr.Arg.TheBlock.shape-the_row-Arg-1 Rattle.cm_syntax.specs.declared.expr.Arg.TheBlock.hidden-the_row-Arg-1 Rattle.cm_syntax.specs.declared.stmt.Stmt.TheBlock.shape-the_row-Stmt-0 Rattle.cm_syntax.specs.declared.stmt.Stmt.TheBlock.hidden-the_row-Stmt-0 Rattle.cm_syntax.specs.declared.stmt.Stmt.TheBlock.shape-the_row-Stmt-1 Rattle.cm_syntax.specs.declared.stmt.Stmt.TheBlock.hidden-the_row-Stmt-1 denote.Hole.Carrier.hidden
returns-clause-nested_call c = has_answer _ (refl, refl)

pub returns-clause-nested_argument : goal.returns-clause-nested_argument
unfolding digits Rattle.cm_syntax.specs.declared.expr.Arg.TheBlock.shape-the_row-Expr-0 Rattle.cm_syntax.specs.declared.expr.Arg.TheBlock.hidden-the_row-Expr-0 Rattle.cm_syntax.specs.declared.expr.Arg.TheBlock.shape-the_row-Arg-1 Rattle.cm_syntax.specs.declared.expr.Arg.TheBlock.hidden-the_row-Arg-1 Rattle.cm_syntax.specs.declared.stmt.Stmt.TheBlock.shape-the_row-Stmt-0 Rattle.cm_syntax.specs.declared.stmt.Stmt.TheBlock.hidden-the_row-Stmt-0 Rattle.cm_syntax.specs.declared.stmt.Stmt.TheBlock.shape-the_row-Stmt-1 Rattle.cm_syntax.specs.declared.stmt.Stmt.TheBlock.hidden-the_row-Stmt-1 denote.Hole.Carrier.hidden
returns-clause-nested_argument c = has_answer _ (refl, refl)

pub returns-clause-shadowed : goal.returns-clause-shadowed
unfolding digits Rattle.cm_syntax.specs.declared.expr.Arg.TheBlock.shape-the_row-Expr-0 Rattle.cm_syntax.specs.declared.expr.Arg.TheBlock.hidden-the_row-Expr-0 Rattle.cm_syntax.specs.declared.expr.Arg.TheBlock.shape-the_row-Arg-1 Rattle.cm_syntax.specs.declared.expr.Arg.TheBlock.hidden-the_row-Arg-1 Rattle.cm_syntax.specs.declared.stmt.Stmt.TheBlock.shape-the_row-Stmt-0 Rattle.cm_syntax.specs.declared.stmt.Stmt.TheBlock.hidden-the_row-Stmt-0 Rattle.cm_syntax.specs.declared.stmt.Stmt.TheBlock.shape-the_row-Stmt-1 Rattle.cm_syntax.specs.declared.stmt.Stmt.TheBlock.hidden-the_row-Stmt-1 denote.Hole.Carrier.hidden
returns-clause-shadowed c = has_answer _ (refl, refl)
