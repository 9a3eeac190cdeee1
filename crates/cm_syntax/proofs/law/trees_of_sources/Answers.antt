use Rattle.std.proofs.Common.{refl}
use Rattle.std.specs.Fmt.{digits}
use Rattle.cm_syntax.proofs.parser.SourceText.{has_tree, has_function}
use Rattle.cm_syntax.proofs.law.trees_of_sources.Goals as goal

pub returns-clause-nearest_else : goal.returns-clause-nearest_else
returns-clause-nearest_else c = has_function refl

pub returns-clause-pointer : goal.returns-clause-pointer
unfolding digits Rattle.cm_syntax.specs.declared.expr.Arg.TheBlock.shape-the_row-Expr-0 Rattle.cm_syntax.specs.declared.expr.Arg.TheBlock.hidden-the_row-Expr-0 Rattle.cm_syntax.specs.declared.expr.Arg.TheBlock.shape-the_row-Arg-1 Rattle.cm_syntax.specs.declared.expr.Arg.TheBlock.hidden-the_row-Arg-1 Rattle.cm_syntax.specs.declared.stmt.Stmt.TheBlock.shape-the_row-Stmt-0 Rattle.cm_syntax.specs.declared.stmt.Stmt.TheBlock.hidden-the_row-Stmt-0 Rattle.cm_syntax.specs.declared.stmt.Stmt.TheBlock.shape-the_row-Stmt-1 Rattle.cm_syntax.specs.declared.stmt.Stmt.TheBlock.hidden-the_row-Stmt-1 denote.Hole.Carrier.hidden
returns-clause-pointer c = has_tree refl

pub returns-clause-grouped : goal.returns-clause-grouped
unfolding digits Rattle.cm_syntax.specs.declared.expr.Arg.TheBlock.shape-the_row-Expr-0 Rattle.cm_syntax.specs.declared.expr.Arg.TheBlock.hidden-the_row-Expr-0 Rattle.cm_syntax.specs.declared.expr.Arg.TheBlock.shape-the_row-Arg-1 Rattle.cm_syntax.specs.declared.expr.Arg.TheBlock.hidden-the_row-Arg-1 Rattle.cm_syntax.specs.declared.stmt.Stmt.TheBlock.shape-the_row-Stmt-0 Rattle.cm_syntax.specs.declared.stmt.Stmt.TheBlock.hidden-the_row-Stmt-0 Rattle.cm_syntax.specs.declared.stmt.Stmt.TheBlock.shape-the_row-Stmt-1 Rattle.cm_syntax.specs.declared.stmt.Stmt.TheBlock.hidden-the_row-Stmt-1 denote.Hole.Carrier.hidden
returns-clause-grouped c = has_tree refl

pub returns-clause-loop_ : goal.returns-clause-loop_
unfolding digits Rattle.cm_syntax.specs.declared.expr.Arg.TheBlock.shape-the_row-Expr-0 Rattle.cm_syntax.specs.declared.expr.Arg.TheBlock.hidden-the_row-Expr-0 Rattle.cm_syntax.specs.declared.expr.Arg.TheBlock.shape-the_row-Arg-1 Rattle.cm_syntax.specs.declared.expr.Arg.TheBlock.hidden-the_row-Arg-1 Rattle.cm_syntax.specs.declared.stmt.Stmt.TheBlock.shape-the_row-Stmt-0 Rattle.cm_syntax.specs.declared.stmt.Stmt.TheBlock.hidden-the_row-Stmt-0 Rattle.cm_syntax.specs.declared.stmt.Stmt.TheBlock.shape-the_row-Stmt-1 Rattle.cm_syntax.specs.declared.stmt.Stmt.TheBlock.hidden-the_row-Stmt-1 denote.Hole.Carrier.hidden
returns-clause-loop_ c = has_tree refl

pub returns-clause-spawned : goal.returns-clause-spawned
unfolding digits Rattle.cm_syntax.specs.declared.expr.Arg.TheBlock.shape-the_row-Expr-0 Rattle.cm_syntax.specs.declared.expr.Arg.TheBlock.hidden-the_row-Expr-0 Rattle.cm_syntax.specs.declared.expr.Arg.TheBlock.shape-the_row-Arg-1 Rattle.cm_syntax.specs.declared.expr.Arg.TheBlock.hidden-the_row-Arg-1 Rattle.cm_syntax.specs.declared.stmt.Stmt.TheBlock.shape-the_row-Stmt-0 Rattle.cm_syntax.specs.declared.stmt.Stmt.TheBlock.hidden-the_row-Stmt-0 Rattle.cm_syntax.specs.declared.stmt.Stmt.TheBlock.shape-the_row-Stmt-1 Rattle.cm_syntax.specs.declared.stmt.Stmt.TheBlock.hidden-the_row-Stmt-1 denote.Hole.Carrier.hidden
returns-clause-spawned c = has_tree refl

pub returns-clause-constructs : goal.returns-clause-constructs
unfolding digits Rattle.cm_syntax.specs.declared.expr.Arg.TheBlock.shape-the_row-Expr-0 Rattle.cm_syntax.specs.declared.expr.Arg.TheBlock.hidden-the_row-Expr-0 Rattle.cm_syntax.specs.declared.expr.Arg.TheBlock.shape-the_row-Arg-1 Rattle.cm_syntax.specs.declared.expr.Arg.TheBlock.hidden-the_row-Arg-1 Rattle.cm_syntax.specs.declared.stmt.Stmt.TheBlock.shape-the_row-Stmt-0 Rattle.cm_syntax.specs.declared.stmt.Stmt.TheBlock.hidden-the_row-Stmt-0 Rattle.cm_syntax.specs.declared.stmt.Stmt.TheBlock.shape-the_row-Stmt-1 Rattle.cm_syntax.specs.declared.stmt.Stmt.TheBlock.hidden-the_row-Stmt-1 denote.Hole.Carrier.hidden
returns-clause-constructs c = has_tree refl
