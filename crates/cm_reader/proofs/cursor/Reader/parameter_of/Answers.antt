use Rattle.std.proofs.Common.{sym, ◌∙◌}
use Rattle.cm_syntax.specs.declared.stmt.Slot.TheVariants as slot
use Rattle.cm_syntax.specs.Parser.{State, item}
use Rattle.cm_reader.proofs.StepLaw.{err_same, refused_on}
use Rattle.cm_reader.proofs.FunctionLaw.{slice_goes, parameter_scalar_same}
use Rattle.cm_reader.proofs.cursor.Reader.parameter_of.Goals as goal

pub returns-in_err-rest-clause-err : goal.returns-in_err-rest-clause-err
returns-in_err-rest-clause-err c =
    err_same _ c.from_residual.result c.in_err-rest.field-0.0 c.from_residual.ensures.1
    (λ k. c.in_err-rest.ensures.err (State.parameter_name c.args.name k) _ (slice_goes c.args.name k c.args.tokens.now (sym c.is_next.ensures ∙ c.if-is_next.true)))

pub returns-in_err-rest-2-clause-err : goal.returns-in_err-rest-2-clause-err
returns-in_err-rest-2-clause-err c =
    err_same _ c.from_residual-in_err-rest-2.result c.in_err-rest-2.field-0.0 c.from_residual-in_err-rest-2.ensures.1
    (λ k. refused_on _ (c.in_ok-rest.ensures.ok (State.parameter_name c.args.name k) _ (slice_goes c.args.name k c.args.tokens.now (sym c.is_next.ensures ∙ c.if-is_next.true))) (c.in_err-rest-2.ensures.err (k (item c.args.name slot.Slice))))

pub returns-in_ok-rest-2-clause-ok : goal.returns-in_ok-rest-2-clause-ok
returns-in_ok-rest-2-clause-ok c =
    λ k. c.in_ok-rest.ensures.ok (State.parameter_name c.args.name k) _ (slice_goes c.args.name k c.args.tokens.now (sym c.is_next.ensures ∙ c.if-is_next.true)) ∙ c.in_ok-rest-2.ensures.ok (k (item c.args.name slot.Slice))

pub returns-else-is_next-clause-ok : goal.returns-else-is_next-clause-ok
returns-else-is_next-clause-ok c =
    λ k. parameter_scalar_same c.args.self.length c.args.name k c.args.tokens.now (sym c.is_next.ensures ∙ c.if-is_next.false)
