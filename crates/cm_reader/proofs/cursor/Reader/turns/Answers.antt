use Rattle.std.proofs.Common.{◌∙◌}
use Rattle.cm_reader.specs.Read.{turn_test, last_turn}
use Rattle.cm_reader.proofs.StepLaw.{err_same, refused_on}
use Rattle.cm_reader.proofs.cursor.Reader.turns.Goals as goal

pub returns-in_err-first-clause-err : goal.returns-in_err-first-clause-err
returns-in_err-first-clause-err c =
    err_same _ c.from_residual.result c.in_err-first.field-0.0 c.from_residual.ensures.1
    (λ k. c.in_err-first.ensures.err (λ first. turn_test (λ test. last_turn (λ last. k first test last))))

pub returns-in_err-test-clause-err : goal.returns-in_err-test-clause-err
returns-in_err-test-clause-err c =
    err_same _ c.from_residual-in_err-test.result c.in_err-test.field-0.0 c.from_residual-in_err-test.ensures.1
    (λ k. refused_on _ (c.in_ok-first.ensures.ok (λ first. turn_test (λ test. last_turn (λ last. k first test last)))) (c.in_err-test.ensures.err (λ test. last_turn (λ last. k c.in_ok-first.first test last))))

pub returns-in_err-step-clause-err : goal.returns-in_err-step-clause-err
returns-in_err-step-clause-err c =
    err_same _ c.from_residual-in_err-step.result c.in_err-step.field-0.0 c.from_residual-in_err-step.ensures.1
    (λ k. refused_on _ (c.in_ok-first.ensures.ok (λ first. turn_test (λ test. last_turn (λ last. k first test last))) ∙ (c.in_ok-test.ensures.ok (λ test. last_turn (λ last. k c.in_ok-first.first test last)))) (c.in_err-step.ensures.err (λ last. k c.in_ok-first.first c.in_ok-test.test last)))

pub returns-clause-ok : goal.returns-clause-ok
returns-clause-ok c = λ k. c.in_ok-first.ensures.ok (λ first. turn_test (λ test. last_turn (λ last. k first test last))) ∙ (c.in_ok-test.ensures.ok (λ test. last_turn (λ last. k c.in_ok-first.first test last)) ∙ (c.in_ok-step.ensures.ok (λ last. k c.in_ok-first.first c.in_ok-test.test last)))
