use Rattle.std.proofs.Common.{sym, ◌∙◌}
use Rattle.cm_syntax.specs.Parser.{State}
use Rattle.cm_reader.proofs.StepLaw.{err_same, refused_on}
use Rattle.cm_reader.proofs.SimpleLaw.{pointee_goes, target_takes_name}
use Rattle.cm_reader.proofs.cursor.Reader.target.Goals as goal

pub returns-in_err-rest-clause-err : goal.returns-in_err-rest-clause-err
returns-in_err-rest-clause-err c =
    err_same _ c.from_residual.result c.in_err-rest.field-0.0 c.from_residual.ensures.1
    (λ k. c.in_err-rest.ensures.err (State.target_next k) _ (pointee_goes k c.args.tokens.now (sym c.is_next.ensures ∙ c.if-is_next.true)))

pub returns-in_err-target-clause-err : goal.returns-in_err-target-clause-err
returns-in_err-target-clause-err c =
    err_same _ c.from_residual-in_err-target.result c.in_err-target.field-0.0 c.from_residual-in_err-target.ensures.1
    (λ k. refused_on _ (c.in_ok-rest.ensures.ok (State.target_next k) _ (pointee_goes k c.args.tokens.now (sym c.is_next.ensures ∙ c.if-is_next.true))) (c.in_err-target.ensures.err k))

pub returns-in_ok-target-clause-ok : goal.returns-in_ok-target-clause-ok
returns-in_ok-target-clause-ok c =
    λ k. c.in_ok-rest.ensures.ok (State.target_next k) _ (pointee_goes k c.args.tokens.now (sym c.is_next.ensures ∙ c.if-is_next.true)) ∙ c.in_ok-target.ensures.ok k

pub returns-in_err-name-clause-err : goal.returns-in_err-name-clause-err
returns-in_err-name-clause-err c =
    err_same _ c.from_residual-in_err-name.result c.in_err-name.field-0.0 c.from_residual-in_err-name.ensures.1
    (λ k. c.in_err-name.ensures.err (State.target_next k) (λ x. State.target_name x k) (target_takes_name k c.args.tokens.now (sym c.is_next.ensures ∙ c.if-is_next.false)))

pub returns-in_err-target-2-clause-err : goal.returns-in_err-target-2-clause-err
returns-in_err-target-2-clause-err c =
    err_same _ c.from_residual-in_err-target-2.result c.in_err-target-2.field-0.0 c.from_residual-in_err-target-2.ensures.1
    (λ k. refused_on _ (c.in_ok-name.ensures.ok (State.target_next k) (λ x. State.target_name x k) (target_takes_name k c.args.tokens.now (sym c.is_next.ensures ∙ c.if-is_next.false))) (c.in_err-target-2.ensures.err k))

pub returns-in_ok-target-2-clause-ok : goal.returns-in_ok-target-2-clause-ok
returns-in_ok-target-2-clause-ok c =
    λ k. c.in_ok-name.ensures.ok (State.target_next k) (λ x. State.target_name x k) (target_takes_name k c.args.tokens.now (sym c.is_next.ensures ∙ c.if-is_next.false)) ∙ c.in_ok-target-2.ensures.ok k
