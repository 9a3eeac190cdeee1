use Rattle.std.proofs.Common.{◌∙◌}
use Rattle.cm_syntax.specs.declared.token.Keyword.TheVariants as keyword
use Rattle.cm_syntax.specs.Parser.{State, value}
use Rattle.cm_reader.proofs.StepLaw.{err_same, refused_on}
use Rattle.cm_reader.proofs.cursor.Reader.split_place.Goals as goal

pub returns-in_err-whole-clause-err : goal.returns-in_err-whole-clause-err
returns-in_err-whole-clause-err c =
    err_same _ c.from_residual.result c.in_err-whole.field-0.0 c.from_residual.ensures.1
    (λ k. c.in_err-whole.ensures.err (λ whole. State.word_next keyword.At (value (λ e. State.word_next keyword.As (k whole e)))))

pub returns-in_err-rest-clause-err : goal.returns-in_err-rest-clause-err
returns-in_err-rest-clause-err c =
    err_same _ c.from_residual-in_err-rest.result c.in_err-rest.field-0.0 c.from_residual-in_err-rest.ensures.1
    (λ k. refused_on _ (c.in_ok-whole.ensures.ok (λ whole. State.word_next keyword.At (value (λ e. State.word_next keyword.As (k whole e))))) (c.in_err-rest.ensures.err (value (λ e. State.word_next keyword.As (k c.in_ok-whole.whole e)))))

pub returns-in_err-place-clause-err : goal.returns-in_err-place-clause-err
returns-in_err-place-clause-err c =
    err_same _ c.from_residual-in_err-place.result c.in_err-place.field-0.0 c.from_residual-in_err-place.ensures.1
    (λ k. refused_on _ (c.in_ok-whole.ensures.ok (λ whole. State.word_next keyword.At (value (λ e. State.word_next keyword.As (k whole e)))) ∙ (c.in_ok-rest.ensures.ok (value (λ e. State.word_next keyword.As (k c.in_ok-whole.whole e))))) (c.in_err-place.ensures.err (λ e. State.word_next keyword.As (k c.in_ok-whole.whole e))))

pub returns-in_err-rest-2-clause-err : goal.returns-in_err-rest-2-clause-err
returns-in_err-rest-2-clause-err c =
    err_same _ c.from_residual-in_err-rest-2.result c.in_err-rest-2.field-0.0 c.from_residual-in_err-rest-2.ensures.1
    (λ k. refused_on _ (c.in_ok-whole.ensures.ok (λ whole. State.word_next keyword.At (value (λ e. State.word_next keyword.As (k whole e)))) ∙ (c.in_ok-rest.ensures.ok (value (λ e. State.word_next keyword.As (k c.in_ok-whole.whole e))) ∙ (c.in_ok-place.ensures.ok (λ e. State.word_next keyword.As (k c.in_ok-whole.whole e))))) (c.in_err-rest-2.ensures.err (k c.in_ok-whole.whole c.in_ok-place.place)))

pub returns-clause-ok : goal.returns-clause-ok
returns-clause-ok c = λ k. c.in_ok-whole.ensures.ok (λ whole. State.word_next keyword.At (value (λ e. State.word_next keyword.As (k whole e)))) ∙ (c.in_ok-rest.ensures.ok (value (λ e. State.word_next keyword.As (k c.in_ok-whole.whole e))) ∙ (c.in_ok-place.ensures.ok (λ e. State.word_next keyword.As (k c.in_ok-whole.whole e)) ∙ (c.in_ok-rest-2.ensures.ok (k c.in_ok-whole.whole c.in_ok-place.place))))
