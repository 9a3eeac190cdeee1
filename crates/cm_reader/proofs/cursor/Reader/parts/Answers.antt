use Rattle.std.proofs.Common.{◌∙◌}
use Rattle.cm_reader.specs.Read.{part_names}
use Rattle.cm_reader.proofs.StepLaw.{err_same, refused_on}
use Rattle.cm_reader.proofs.cursor.Reader.parts.Goals as goal

pub returns-in_err-whole-clause-err : goal.returns-in_err-whole-clause-err
returns-in_err-whole-clause-err c =
    err_same _ c.from_residual.result c.in_err-whole.field-0.0 c.from_residual.ensures.1
    (λ k. c.in_err-whole.ensures.err (λ whole e. part_names (λ left right. k whole e left right)))

pub returns-in_err-left-clause-err : goal.returns-in_err-left-clause-err
returns-in_err-left-clause-err c =
    err_same _ c.from_residual-in_err-left.result c.in_err-left.field-0.0 c.from_residual-in_err-left.ensures.1
    (λ k. refused_on _ (c.in_ok-whole.ensures.ok (λ whole e. part_names (λ left right. k whole e left right))) (c.in_err-left.ensures.err (λ left right. k c.in_ok-whole.whole c.in_ok-whole.place left right)))

pub returns-clause-ok : goal.returns-clause-ok
returns-clause-ok c = λ k. c.in_ok-whole.ensures.ok (λ whole e. part_names (λ left right. k whole e left right)) ∙ (c.in_ok-left.ensures.ok (λ left right. k c.in_ok-whole.whole c.in_ok-whole.place left right))
