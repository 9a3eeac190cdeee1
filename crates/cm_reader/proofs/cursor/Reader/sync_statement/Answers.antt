use Rattle.std.proofs.Common.{sym, ap, refl, ◌∙◌}
use Rattle.cm_syntax.specs.declared.stmt.Stmt.TheVariants as statement
use Rattle.cm_syntax.specs.Parser.{State}
use Rattle.cm_reader.specs.Read.{answer}
use Rattle.cm_reader.proofs.StepLaw.{err_same, refused_on}
use Rattle.cm_reader.proofs.StatementLaw.{plain_goes}
use Rattle.cm_reader.specs.declared.start.StatementStart.TheVariants as start
use Rattle.cm_reader.specs.declared.start.FlatStart.TheVariants as flat
use Rattle.cm_reader.specs.Next.{next_offset}
use Rattle.cm_reader.proofs.cursor.Reader.sync_statement.Goals as goal

pub returns-in_err-rest-clause-err : goal.returns-in_err-rest-clause-err
returns-in_err-rest-clause-err c =
    err_same _ c.from_residual.result c.in_err-rest.field-0.0 c.from_residual.ensures.1
    (λ inner k. c.in_err-rest.ensures.err (State.plain c.args.depth inner k) _ (plain_goes c.args.depth inner k c.args.tokens.now (start.Flat flat.Sync) _ c.requires (λ token. refl)))

pub returns-in_err-rest-2-clause-err : goal.returns-in_err-rest-2-clause-err
returns-in_err-rest-2-clause-err c =
    err_same _ c.from_residual-in_err-rest-2.result c.in_err-rest-2.field-0.0 c.from_residual-in_err-rest-2.ensures.1
    (λ inner k. refused_on _ (c.in_ok-rest.ensures.ok (State.plain c.args.depth inner k) _ (plain_goes c.args.depth inner k c.args.tokens.now (start.Flat flat.Sync) _ c.requires (λ token. refl))) (c.in_err-rest-2.ensures.err (k (statement.Sync (next_offset c.args.tokens.now)))))

pub returns-clause-ok : goal.returns-clause-ok
returns-clause-ok c =
    λ inner k. c.in_ok-rest.ensures.ok (State.plain c.args.depth inner k) _ (plain_goes c.args.depth inner k c.args.tokens.now (start.Flat flat.Sync) _ c.requires (λ token. refl)) ∙ (c.in_ok-rest-2.ensures.ok (k (statement.Sync (next_offset c.args.tokens.now))) ∙ ap (λ at. answer c.args.self.length (k (statement.Sync at)) c.in_ok-rest-2.rest.now) (sym c.next_offset-at.ensures))
