use Rattle.std.proofs.Common.{◌∙◌}
use Rattle.cm_syntax.specs.declared.token.Sign.TheVariants as sign
use Rattle.cm_syntax.specs.Parser.{State}
use Rattle.cm_reader.proofs.StepLaw.{err_same, refused_on}
use Rattle.cm_reader.proofs.cursor.Reader.turn_test.Goals as goal

pub returns-in_err-test-clause-err : goal.returns-in_err-test-clause-err
returns-in_err-test-clause-err c =
    err_same _ c.from_residual.result c.in_err-test.field-0.0 c.from_residual.ensures.1
    (λ k. c.in_err-test.ensures.err (λ test. State.sign_next sign.Semicolon (k test)))

pub returns-in_err-rest-clause-err : goal.returns-in_err-rest-clause-err
returns-in_err-rest-clause-err c =
    err_same _ c.from_residual-in_err-rest.result c.in_err-rest.field-0.0 c.from_residual-in_err-rest.ensures.1
    (λ k. refused_on _ (c.in_ok-test.ensures.ok (λ test. State.sign_next sign.Semicolon (k test))) (c.in_err-rest.ensures.err (k c.in_ok-test.test)))

pub returns-clause-ok : goal.returns-clause-ok
returns-clause-ok c = λ k. c.in_ok-test.ensures.ok (λ test. State.sign_next sign.Semicolon (k test)) ∙ (c.in_ok-rest.ensures.ok (k c.in_ok-test.test))
