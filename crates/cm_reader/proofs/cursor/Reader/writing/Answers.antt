use Rattle.cm_reader.proofs.StepLaw.{err_same}
use Rattle.cm_reader.proofs.cursor.Reader.writing.Goals as goal

pub returns-in_err-op-clause-err : goal.returns-in_err-op-clause-err
returns-in_err-op-clause-err c =
    err_same _ c.from_residual.result c.in_err-op.field-0.0 c.from_residual.ensures.1 (λ k. c.in_err-op.ensures.err c.args.target k)

pub returns-clause-ok : goal.returns-clause-ok
returns-clause-ok c = λ k. c.in_ok-op.ensures.ok c.args.target k
