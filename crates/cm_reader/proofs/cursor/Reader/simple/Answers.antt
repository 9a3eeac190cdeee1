use Rattle.std.proofs.Common.{sym, ap, ◌∙◌, true, false}
use Rattle.cm_syntax.specs.Parser.{State, count_on}
use Rattle.cm_reader.specs.Read.{answer}
use Rattle.cm_reader.proofs.StepLaw.{err_same, refused_on}
use Rattle.cm_reader.proofs.SimpleLaw.{simple_pointee_goes, simple_up_goes, simple_down_goes, simple_takes_name}
use Rattle.cm_reader.proofs.cursor.Reader.simple.Goals as goal

pub returns-in_err-rest-clause-err : goal.returns-in_err-rest-clause-err
returns-in_err-rest-clause-err c =
    err_same _ c.from_residual.result c.in_err-rest.field-0.0 c.from_residual.ensures.1
    (λ q within k. c.in_err-rest.ensures.err (State.simple q k) _ (simple_pointee_goes q k c.args.fits c.args.tokens.now within (sym c.is_next.ensures ∙ c.if-is_next.true)))

pub returns-in_err-target-clause-err : goal.returns-in_err-target-clause-err
returns-in_err-target-clause-err c =
    err_same _ c.from_residual-in_err-target.result c.in_err-target.field-0.0 c.from_residual-in_err-target.ensures.1
    (λ q within k. refused_on _ (c.in_ok-rest.ensures.ok (State.simple q k) _ (simple_pointee_goes q k c.args.fits c.args.tokens.now within (sym c.is_next.ensures ∙ c.if-is_next.true))) (c.in_err-target.ensures.err (λ written. State.writing written k)))

pub returns-in_err-assignment-clause-err : goal.returns-in_err-assignment-clause-err
returns-in_err-assignment-clause-err c =
    err_same _ c.from_residual-in_err-assignment.result c.in_err-assignment.field-0.0 c.from_residual-in_err-assignment.ensures.1
    (λ q within k. refused_on _ (c.in_ok-rest.ensures.ok (State.simple q k) _ (simple_pointee_goes q k c.args.fits c.args.tokens.now within (sym c.is_next.ensures ∙ c.if-is_next.true)) ∙ c.in_ok-target.ensures.ok (λ written. State.writing written k)) (c.in_err-assignment.ensures.err k))

pub returns-in_ok-assignment-clause-ok : goal.returns-in_ok-assignment-clause-ok
returns-in_ok-assignment-clause-ok c =
    λ q within k. c.in_ok-rest.ensures.ok (State.simple q k) _ (simple_pointee_goes q k c.args.fits c.args.tokens.now within (sym c.is_next.ensures ∙ c.if-is_next.true)) ∙ (c.in_ok-target.ensures.ok (λ written. State.writing written k) ∙ c.in_ok-assignment.ensures.ok k)

pub returns-in_err-rest-2-clause-err : goal.returns-in_err-rest-2-clause-err
returns-in_err-rest-2-clause-err c =
    err_same _ c.from_residual-in_err-rest-2.result c.in_err-rest-2.field-0.0 c.from_residual-in_err-rest-2.ensures.1
    (λ q within k. c.in_err-rest-2.ensures.err (State.simple q k) _ (simple_up_goes q k c.args.fits c.args.tokens.now within (sym c.is_next-else-is_next.ensures ∙ c.if-is_next-2.true)))

pub returns-in_err-target-2-clause-err : goal.returns-in_err-target-2-clause-err
returns-in_err-target-2-clause-err c =
    err_same _ c.from_residual-in_err-target-2.result c.in_err-target-2.field-0.0 c.from_residual-in_err-target-2.ensures.1
    (λ q within k. refused_on _ (c.in_ok-rest-2.ensures.ok (State.simple q k) _ (simple_up_goes q k c.args.fits c.args.tokens.now within (sym c.is_next-else-is_next.ensures ∙ c.if-is_next-2.true))) (c.in_err-target-2.ensures.err (λ written. k (count_on true written))))

pub returns-in_ok-target-2-clause-ok : goal.returns-in_ok-target-2-clause-ok
returns-in_ok-target-2-clause-ok c =
    λ q within k. c.in_ok-rest-2.ensures.ok (State.simple q k) _ (simple_up_goes q k c.args.fits c.args.tokens.now within (sym c.is_next-else-is_next.ensures ∙ c.if-is_next-2.true)) ∙ (c.in_ok-target-2.ensures.ok (λ written. k (count_on true written)) ∙ ap (λ s. answer c.args.self.length (k s) c.in_ok-target-2.rest.now) (sym c.count_on.ensures))

pub returns-in_err-rest-3-clause-err : goal.returns-in_err-rest-3-clause-err
returns-in_err-rest-3-clause-err c =
    err_same _ c.from_residual-in_err-rest-3.result c.in_err-rest-3.field-0.0 c.from_residual-in_err-rest-3.ensures.1
    (λ q within k. c.in_err-rest-3.ensures.err (State.simple q k) _ (simple_down_goes q k c.args.fits c.args.tokens.now within (sym c.is_next-else-is_next-2.ensures ∙ c.if-is_next-3.true)))

pub returns-in_err-target-3-clause-err : goal.returns-in_err-target-3-clause-err
returns-in_err-target-3-clause-err c =
    err_same _ c.from_residual-in_err-target-3.result c.in_err-target-3.field-0.0 c.from_residual-in_err-target-3.ensures.1
    (λ q within k. refused_on _ (c.in_ok-rest-3.ensures.ok (State.simple q k) _ (simple_down_goes q k c.args.fits c.args.tokens.now within (sym c.is_next-else-is_next-2.ensures ∙ c.if-is_next-3.true))) (c.in_err-target-3.ensures.err (λ written. k (count_on false written))))

pub returns-in_ok-target-3-clause-ok : goal.returns-in_ok-target-3-clause-ok
returns-in_ok-target-3-clause-ok c =
    λ q within k. c.in_ok-rest-3.ensures.ok (State.simple q k) _ (simple_down_goes q k c.args.fits c.args.tokens.now within (sym c.is_next-else-is_next-2.ensures ∙ c.if-is_next-3.true)) ∙ (c.in_ok-target-3.ensures.ok (λ written. k (count_on false written)) ∙ ap (λ s. answer c.args.self.length (k s) c.in_ok-target-3.rest.now) (sym c.count_on-then-is_next-3.ensures))

pub returns-in_err-name-clause-err : goal.returns-in_err-name-clause-err
returns-in_err-name-clause-err c =
    err_same _ c.from_residual-in_err-name.result c.in_err-name.field-0.0 c.from_residual-in_err-name.ensures.1
    (λ q within k. c.in_err-name.ensures.err (State.simple q k) (λ x. State.simple_name x k) (simple_takes_name q k c.args.fits c.args.tokens.now within (sym c.is_next.ensures ∙ c.if-is_next.false) (sym c.is_next-else-is_next.ensures ∙ c.if-is_next-2.false) (sym c.is_next-else-is_next-2.ensures ∙ c.if-is_next-3.false)))

pub returns-in_err-simple-clause-err : goal.returns-in_err-simple-clause-err
returns-in_err-simple-clause-err c =
    err_same _ c.from_residual-in_err-simple.result c.in_err-simple.field-0.0 c.from_residual-in_err-simple.ensures.1
    (λ q within k. refused_on _ (c.in_ok-name.ensures.ok (State.simple q k) (λ x. State.simple_name x k) (simple_takes_name q k c.args.fits c.args.tokens.now within (sym c.is_next.ensures ∙ c.if-is_next.false) (sym c.is_next-else-is_next.ensures ∙ c.if-is_next-2.false) (sym c.is_next-else-is_next-2.ensures ∙ c.if-is_next-3.false))) (c.in_err-simple.ensures.err k))

pub returns-in_ok-simple-clause-ok : goal.returns-in_ok-simple-clause-ok
returns-in_ok-simple-clause-ok c =
    λ q within k. c.in_ok-name.ensures.ok (State.simple q k) (λ x. State.simple_name x k) (simple_takes_name q k c.args.fits c.args.tokens.now within (sym c.is_next.ensures ∙ c.if-is_next.false) (sym c.is_next-else-is_next.ensures ∙ c.if-is_next-2.false) (sym c.is_next-else-is_next-2.ensures ∙ c.if-is_next-3.false)) ∙ c.in_ok-simple.ensures.ok k
