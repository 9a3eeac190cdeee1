use Rattle.std.proofs.Common.{sym, ◌∙◌}
use Rattle.cm_syntax.specs.declared.stmt.Slot.TheVariants as slot
use Rattle.cm_syntax.specs.Parser.{State, item}
use Rattle.cm_reader.proofs.StepLaw.{err_same, refused_on}
use Rattle.cm_reader.proofs.FunctionLaw.{pointer_goes, parameter_takes_name}
use Rattle.cm_reader.proofs.cursor.Reader.parameter_declarator.Goals as goal

pub returns-in_err-rest-clause-err : goal.returns-in_err-rest-clause-err
returns-in_err-rest-clause-err c =
    err_same _ c.from_residual.result c.in_err-rest.field-0.0 c.from_residual.ensures.1
    (λ k. c.in_err-rest.ensures.err (State.parameter_declarator k) _ (pointer_goes k c.args.tokens.now (sym c.is_next.ensures ∙ c.if-is_next.true)))

pub returns-in_err-name-clause-err : goal.returns-in_err-name-clause-err
returns-in_err-name-clause-err c =
    err_same _ c.from_residual-in_err-name.result c.in_err-name.field-0.0 c.from_residual-in_err-name.ensures.1
    (λ k. refused_on _ (c.in_ok-rest.ensures.ok (State.parameter_declarator k) _ (pointer_goes k c.args.tokens.now (sym c.is_next.ensures ∙ c.if-is_next.true))) (c.in_err-name.ensures.err (λ p. k (item p slot.Slice))))

pub returns-in_ok-name-clause-ok : goal.returns-in_ok-name-clause-ok
returns-in_ok-name-clause-ok c =
    λ k. c.in_ok-rest.ensures.ok (State.parameter_declarator k) _ (pointer_goes k c.args.tokens.now (sym c.is_next.ensures ∙ c.if-is_next.true)) ∙ c.in_ok-name.ensures.ok (λ p. k (item p slot.Slice))

pub returns-in_err-name-2-clause-err : goal.returns-in_err-name-2-clause-err
returns-in_err-name-2-clause-err c =
    err_same _ c.from_residual-in_err-name-2.result c.in_err-name-2.field-0.0 c.from_residual-in_err-name-2.ensures.1
    (λ k. c.in_err-name-2.ensures.err (State.parameter_declarator k) (λ x. State.parameter_name x k) (parameter_takes_name k c.args.tokens.now (sym c.is_next.ensures ∙ c.if-is_next.false)))

pub returns-in_err-parameter-clause-err : goal.returns-in_err-parameter-clause-err
returns-in_err-parameter-clause-err c =
    err_same _ c.from_residual-in_err-parameter.result c.in_err-parameter.field-0.0 c.from_residual-in_err-parameter.ensures.1
    (λ k. refused_on _ (c.in_ok-name-2.ensures.ok (State.parameter_declarator k) (λ x. State.parameter_name x k) (parameter_takes_name k c.args.tokens.now (sym c.is_next.ensures ∙ c.if-is_next.false))) (c.in_err-parameter.ensures.err k))

pub returns-in_ok-parameter-clause-ok : goal.returns-in_ok-parameter-clause-ok
returns-in_ok-parameter-clause-ok c =
    λ k. c.in_ok-name-2.ensures.ok (State.parameter_declarator k) (λ x. State.parameter_name x k) (parameter_takes_name k c.args.tokens.now (sym c.is_next.ensures ∙ c.if-is_next.false)) ∙ c.in_ok-parameter.ensures.ok k
