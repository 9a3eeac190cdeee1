use Rattle.std.proofs.Common.{◌∙◌}
use Rattle.cm_syntax.specs.Parser.{State}
use Rattle.cm_reader.proofs.StepLaw.{err_same, refused_on}
use Rattle.cm_reader.proofs.StatementLaw.{plain_takes_name}
use Rattle.cm_reader.proofs.cursor.Reader.named_statement.Goals as goal

pub returns-in_err-name-clause-err : goal.returns-in_err-name-clause-err
returns-in_err-name-clause-err c =
    err_same _ c.from_residual.result c.in_err-name.field-0.0 c.from_residual.ensures.1
    (λ inner k. c.in_err-name.ensures.err (State.plain c.args.depth inner k) (λ x. State.plain_name x k) (plain_takes_name c.args.depth inner k c.args.tokens.now c.requires))

pub returns-in_err-statement-clause-err : goal.returns-in_err-statement-clause-err
returns-in_err-statement-clause-err c =
    err_same _ c.from_residual-in_err-statement.result c.in_err-statement.field-0.0 c.from_residual-in_err-statement.ensures.1
    (λ inner k. refused_on _ (c.in_ok-name.ensures.ok (State.plain c.args.depth inner k) (λ x. State.plain_name x k) (plain_takes_name c.args.depth inner k c.args.tokens.now c.requires)) (c.in_err-statement.ensures.err k))

pub returns-clause-ok : goal.returns-clause-ok
returns-clause-ok c =
    λ inner k. c.in_ok-name.ensures.ok (State.plain c.args.depth inner k) (λ x. State.plain_name x k) (plain_takes_name c.args.depth inner k c.args.tokens.now c.requires) ∙ c.in_ok-statement.ensures.ok k
