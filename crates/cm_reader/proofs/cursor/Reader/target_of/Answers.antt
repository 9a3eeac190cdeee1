use Rattle.std.proofs.Common.{sym, ◌∙◌}
use Rattle.cm_syntax.specs.declared.stmt.Target.TheVariants as target
use Rattle.cm_syntax.specs.Parser.{State}
use Rattle.cm_reader.proofs.StepLaw.{err_same, refused_on}
use Rattle.cm_reader.proofs.SimpleLaw.{target_index_goes, target_scalar_same}
use Rattle.cm_reader.proofs.cursor.Reader.target_of.Goals as goal

pub returns-in_err-rest-clause-err : goal.returns-in_err-rest-clause-err
returns-in_err-rest-clause-err c =
    err_same _ c.from_residual.result c.in_err-rest.field-0.0 c.from_residual.ensures.1
    (λ k. c.in_err-rest.ensures.err (State.target_name c.args.name k) _ (target_index_goes c.args.name k c.args.tokens.now (sym c.is_next.ensures ∙ c.if-is_next.true)))

pub returns-in_err-place-clause-err : goal.returns-in_err-place-clause-err
returns-in_err-place-clause-err c =
    err_same _ c.from_residual-in_err-place.result c.in_err-place.field-0.0 c.from_residual-in_err-place.ensures.1
    (λ k. refused_on _ (c.in_ok-rest.ensures.ok (State.target_name c.args.name k) _ (target_index_goes c.args.name k c.args.tokens.now (sym c.is_next.ensures ∙ c.if-is_next.true))) (c.in_err-place.ensures.err (λ e. k (target.Index c.args.name e))))

pub returns-in_ok-place-clause-ok : goal.returns-in_ok-place-clause-ok
returns-in_ok-place-clause-ok c =
    λ k. c.in_ok-rest.ensures.ok (State.target_name c.args.name k) _ (target_index_goes c.args.name k c.args.tokens.now (sym c.is_next.ensures ∙ c.if-is_next.true)) ∙ c.in_ok-place.ensures.ok (λ e. k (target.Index c.args.name e))

pub returns-else-is_next-clause-ok : goal.returns-else-is_next-clause-ok
returns-else-is_next-clause-ok c =
    λ k. target_scalar_same c.args.self.length c.args.name k c.args.tokens.now (sym c.is_next.ensures ∙ c.if-is_next.false)
