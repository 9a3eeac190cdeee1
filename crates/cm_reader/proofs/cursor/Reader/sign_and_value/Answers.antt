use Rattle.std.proofs.Common.{sym, ◌∙◌}
use Rattle.cm_syntax.specs.declared.stmt.Stmt.TheVariants as statement
use Rattle.cm_syntax.specs.Parser.{State}
use Rattle.cm_reader.proofs.StepLaw.{err_same, refused_on}
use Rattle.cm_reader.proofs.SimpleLaw.{up_goes, down_goes, assignment_goes}
use Rattle.cm_reader.proofs.cursor.Reader.sign_and_value.Goals as goal

pub returns-in_err-rest-clause-err : goal.returns-in_err-rest-clause-err
returns-in_err-rest-clause-err c =
    err_same _ c.from_residual.result c.in_err-rest.field-0.0 c.from_residual.ensures.1
    (λ written k. c.in_err-rest.ensures.err (State.writing written k) _ (up_goes written k c.args.tokens.now (sym c.is_next.ensures ∙ c.if-is_next.true)))

pub returns-in_ok-rest-clause-ok : goal.returns-in_ok-rest-clause-ok
returns-in_ok-rest-clause-ok c =
    λ written k. c.in_ok-rest.ensures.ok (State.writing written k) _ (up_goes written k c.args.tokens.now (sym c.is_next.ensures ∙ c.if-is_next.true))

pub returns-in_err-rest-2-clause-err : goal.returns-in_err-rest-2-clause-err
returns-in_err-rest-2-clause-err c =
    err_same _ c.from_residual-in_err-rest-2.result c.in_err-rest-2.field-0.0 c.from_residual-in_err-rest-2.ensures.1
    (λ written k. c.in_err-rest-2.ensures.err (State.writing written k) _ (down_goes written k c.args.tokens.now (sym c.is_next-else-is_next.ensures ∙ c.if-is_next-2.true)))

pub returns-in_ok-rest-2-clause-ok : goal.returns-in_ok-rest-2-clause-ok
returns-in_ok-rest-2-clause-ok c =
    λ written k. c.in_ok-rest-2.ensures.ok (State.writing written k) _ (down_goes written k c.args.tokens.now (sym c.is_next-else-is_next.ensures ∙ c.if-is_next-2.true))

pub returns-in_err-rest-3-clause-err : goal.returns-in_err-rest-3-clause-err
returns-in_err-rest-3-clause-err c =
    err_same _ c.from_residual-in_err-rest-3.result c.in_err-rest-3.field-0.0 c.from_residual-in_err-rest-3.ensures.1
    (λ written k. c.in_err-rest-3.ensures.err (State.writing written k) _ (assignment_goes written k c.in-Some.op c.args.tokens.now (sym c.is_next.ensures ∙ c.if-is_next.false) (sym c.is_next-else-is_next.ensures ∙ c.if-is_next-2.false) (sym c.next_assignment.ensures ∙ c.in-Some.is)))

pub returns-in_err-value-clause-err : goal.returns-in_err-value-clause-err
returns-in_err-value-clause-err c =
    err_same _ c.from_residual-in_err-value.result c.in_err-value.field-0.0 c.from_residual-in_err-value.ensures.1
    (λ written k. refused_on _ (c.in_ok-rest-3.ensures.ok (State.writing written k) _ (assignment_goes written k c.in-Some.op c.args.tokens.now (sym c.is_next.ensures ∙ c.if-is_next.false) (sym c.is_next-else-is_next.ensures ∙ c.if-is_next-2.false) (sym c.next_assignment.ensures ∙ c.in-Some.is))) (c.in_err-value.ensures.err (λ e. k (statement.Assign written c.in-Some.op e))))

pub returns-in_ok-value-clause-ok : goal.returns-in_ok-value-clause-ok
returns-in_ok-value-clause-ok c =
    λ written k. c.in_ok-rest-3.ensures.ok (State.writing written k) _ (assignment_goes written k c.in-Some.op c.args.tokens.now (sym c.is_next.ensures ∙ c.if-is_next.false) (sym c.is_next-else-is_next.ensures ∙ c.if-is_next-2.false) (sym c.next_assignment.ensures ∙ c.in-Some.is)) ∙ c.in_ok-value.ensures.ok (λ e. k (statement.Assign written c.in-Some.op e))
