use Rattle.std.proofs.Common.{◌∙◌}
use Rattle.cm_syntax.specs.declared.token.Sign.TheVariants as sign
use Rattle.cm_syntax.specs.Parser.{State}
use Rattle.cm_reader.proofs.StepLaw.{err_same, refused_on}
use Rattle.cm_reader.proofs.cursor.Reader.part_names.Goals as goal

pub returns-in_err-left-clause-err : goal.returns-in_err-left-clause-err
returns-in_err-left-clause-err c =
    err_same _ c.from_residual.result c.in_err-left.field-0.0 c.from_residual.ensures.1
    (λ k. c.in_err-left.ensures.err (λ left. State.sign_next sign.Comma (State.name_next (λ right. State.sign_next sign.BraceOpen (k left right)))))

pub returns-in_err-rest-clause-err : goal.returns-in_err-rest-clause-err
returns-in_err-rest-clause-err c =
    err_same _ c.from_residual-in_err-rest.result c.in_err-rest.field-0.0 c.from_residual-in_err-rest.ensures.1
    (λ k. refused_on _ (c.in_ok-left.ensures.ok (λ left. State.sign_next sign.Comma (State.name_next (λ right. State.sign_next sign.BraceOpen (k left right))))) (c.in_err-rest.ensures.err (State.name_next (λ right. State.sign_next sign.BraceOpen (k c.in_ok-left.left right)))))

pub returns-in_err-right-clause-err : goal.returns-in_err-right-clause-err
returns-in_err-right-clause-err c =
    err_same _ c.from_residual-in_err-right.result c.in_err-right.field-0.0 c.from_residual-in_err-right.ensures.1
    (λ k. refused_on _ (c.in_ok-left.ensures.ok (λ left. State.sign_next sign.Comma (State.name_next (λ right. State.sign_next sign.BraceOpen (k left right)))) ∙ (c.in_ok-rest.ensures.ok (State.name_next (λ right. State.sign_next sign.BraceOpen (k c.in_ok-left.left right))))) (c.in_err-right.ensures.err (λ right. State.sign_next sign.BraceOpen (k c.in_ok-left.left right))))

pub returns-in_err-rest-2-clause-err : goal.returns-in_err-rest-2-clause-err
returns-in_err-rest-2-clause-err c =
    err_same _ c.from_residual-in_err-rest-2.result c.in_err-rest-2.field-0.0 c.from_residual-in_err-rest-2.ensures.1
    (λ k. refused_on _ (c.in_ok-left.ensures.ok (λ left. State.sign_next sign.Comma (State.name_next (λ right. State.sign_next sign.BraceOpen (k left right)))) ∙ (c.in_ok-rest.ensures.ok (State.name_next (λ right. State.sign_next sign.BraceOpen (k c.in_ok-left.left right))) ∙ (c.in_ok-right.ensures.ok (λ right. State.sign_next sign.BraceOpen (k c.in_ok-left.left right))))) (c.in_err-rest-2.ensures.err (k c.in_ok-left.left c.in_ok-right.right)))

pub returns-clause-ok : goal.returns-clause-ok
returns-clause-ok c = λ k. c.in_ok-left.ensures.ok (λ left. State.sign_next sign.Comma (State.name_next (λ right. State.sign_next sign.BraceOpen (k left right)))) ∙ (c.in_ok-rest.ensures.ok (State.name_next (λ right. State.sign_next sign.BraceOpen (k c.in_ok-left.left right))) ∙ (c.in_ok-right.ensures.ok (λ right. State.sign_next sign.BraceOpen (k c.in_ok-left.left right)) ∙ (c.in_ok-rest-2.ensures.ok (k c.in_ok-left.left c.in_ok-right.right))))
