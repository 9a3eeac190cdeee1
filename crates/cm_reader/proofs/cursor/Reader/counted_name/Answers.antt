use Rattle.cm_reader.proofs.StepLaw.{err_same, name_goes}
use Rattle.cm_reader.proofs.cursor.Reader.counted_name.Goals as goal

pub returns-in_err-rest-clause-err : goal.returns-in_err-rest-clause-err
returns-in_err-rest-clause-err c =
    err_same _ c.from_residual.result c.in_err-rest.field-0.0 c.from_residual.ensures.1
    (λ s k h. c.in_err-rest.ensures.err s _ (name_goes s k c.args.fits c.in-Some.first.now _ c.args.tokens.now c.in-Some.field-0-1.now c.in-Some.ensures.cases.0 c.in-Name.is h))

pub returns-clause-ok : goal.returns-clause-ok
returns-clause-ok c = λ s k h.
    rw (c.in_ok-name.ensures, c.bytes.ensures) (c.in_ok-rest.ensures.ok s _
    (name_goes s k c.args.fits c.in-Some.first.now _ c.args.tokens.now c.in-Some.field-0-1.now c.in-Some.ensures.cases.0 c.in-Name.is h))
