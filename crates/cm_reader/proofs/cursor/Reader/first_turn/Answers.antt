use Rattle.std.proofs.Common.{◌∙◌}
use Rattle.cm_syntax.specs.declared.token.Sign.TheVariants as sign
use Rattle.cm_syntax.specs.Parser.{State}
use Rattle.cm_reader.proofs.StepLaw.{err_same, refused_on}
use Rattle.cm_reader.proofs.cursor.Reader.first_turn.Goals as goal

pub returns-in_err-rest-clause-err : goal.returns-in_err-rest-clause-err
returns-in_err-rest-clause-err c =
    err_same _ c.from_residual.result c.in_err-rest.field-0.0 c.from_residual.ensures.1
    (λ k. c.in_err-rest.ensures.err (State.first_part (λ first. State.sign_next sign.Semicolon (k first))))

pub returns-in_err-first-clause-err : goal.returns-in_err-first-clause-err
returns-in_err-first-clause-err c =
    err_same _ c.from_residual-in_err-first.result c.in_err-first.field-0.0 c.from_residual-in_err-first.ensures.1
    (λ k. refused_on _ (c.in_ok-rest.ensures.ok (State.first_part (λ first. State.sign_next sign.Semicolon (k first)))) (c.in_err-first.ensures.err (λ first. State.sign_next sign.Semicolon (k first))))

pub returns-in_err-rest-2-clause-err : goal.returns-in_err-rest-2-clause-err
returns-in_err-rest-2-clause-err c =
    err_same _ c.from_residual-in_err-rest-2.result c.in_err-rest-2.field-0.0 c.from_residual-in_err-rest-2.ensures.1
    (λ k. refused_on _ (c.in_ok-rest.ensures.ok (State.first_part (λ first. State.sign_next sign.Semicolon (k first))) ∙ (c.in_ok-first.ensures.ok (λ first. State.sign_next sign.Semicolon (k first)))) (c.in_err-rest-2.ensures.err (k c.in_ok-first.first)))

pub returns-clause-ok : goal.returns-clause-ok
returns-clause-ok c = λ k. c.in_ok-rest.ensures.ok (State.first_part (λ first. State.sign_next sign.Semicolon (k first))) ∙ (c.in_ok-first.ensures.ok (λ first. State.sign_next sign.Semicolon (k first)) ∙ (c.in_ok-rest-2.ensures.ok (k c.in_ok-first.first)))
