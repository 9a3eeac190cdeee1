use Rattle.std.proofs.Common.{refl}
use Rattle.cm_syntax.specs.Parser.{State}
use Rattle.cm_reader.proofs.StepLaw.{err_same}
use Rattle.cm_reader.proofs.StatementLaw.{plain_goes}
use Rattle.cm_reader.specs.declared.start.StatementStart.TheVariants as start
use Rattle.cm_reader.specs.declared.start.FlatStart.TheVariants as flat
use Rattle.cm_reader.proofs.cursor.Reader.empty_statement.Goals as goal

pub returns-in_err-rest-clause-err : goal.returns-in_err-rest-clause-err
returns-in_err-rest-clause-err c =
    err_same _ c.from_residual.result c.in_err-rest.field-0.0 c.from_residual.ensures.1
    (λ inner k. c.in_err-rest.ensures.err (State.plain c.args.depth inner k) _ (plain_goes c.args.depth inner k c.args.tokens.now (start.Flat flat.Empty) _ c.requires (λ token. refl)))

pub returns-clause-ok : goal.returns-clause-ok
returns-clause-ok c =
    λ inner k. c.in_ok-rest.ensures.ok (State.plain c.args.depth inner k) _ (plain_goes c.args.depth inner k c.args.tokens.now (start.Flat flat.Empty) _ c.requires (λ token. refl))
