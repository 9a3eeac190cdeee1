use Rattle.std.proofs.Common.{sym, ap, ◌∙◌, []}
use Rattle.cm_syntax.specs.Parser.{State}
use Rattle.cm_reader.specs.Read.{answer}
use Rattle.cm_reader.proofs.StepLaw.{err_same, refused_on}
use Rattle.cm_reader.proofs.FunctionLaw.{no_parameter_goes, void_goes, some_parameters_same}
use Rattle.cm_reader.proofs.cursor.Reader.parameters.Goals as goal

pub returns-in_err-rest-clause-err : goal.returns-in_err-rest-clause-err
returns-in_err-rest-clause-err c =
    err_same _ c.from_residual.result c.in_err-rest.field-0.0 c.from_residual.ensures.1
    (λ k. c.in_err-rest.ensures.err (State.first_parameter k) _ (no_parameter_goes k c.args.tokens.now (sym c.is_next.ensures ∙ c.if-is_next.true)))

pub returns-in_ok-rest-clause-ok : goal.returns-in_ok-rest-clause-ok
returns-in_ok-rest-clause-ok c =
    λ k. c.in_ok-rest.ensures.ok (State.first_parameter k) _ (no_parameter_goes k c.args.tokens.now (sym c.is_next.ensures ∙ c.if-is_next.true)) ∙ ap (λ xs. answer c.args.self.length (k xs) c.in_ok-rest.rest.now) (sym c.new.ensures)

pub returns-in_err-rest-2-clause-err : goal.returns-in_err-rest-2-clause-err
returns-in_err-rest-2-clause-err c =
    err_same _ c.from_residual-in_err-rest-2.result c.in_err-rest-2.field-0.0 c.from_residual-in_err-rest-2.ensures.1
    (λ k. c.in_err-rest-2.ensures.err (State.first_parameter k) _ (void_goes k c.args.tokens.now (sym c.is_next.ensures ∙ c.if-is_next.false) (sym c.is_next_word.ensures ∙ c.if-is_next_word.true)))

pub returns-in_err-rest-3-clause-err : goal.returns-in_err-rest-3-clause-err
returns-in_err-rest-3-clause-err c =
    err_same _ c.from_residual-in_err-rest-3.result c.in_err-rest-3.field-0.0 c.from_residual-in_err-rest-3.ensures.1
    (λ k. refused_on _ (c.in_ok-rest-2.ensures.ok (State.first_parameter k) _ (void_goes k c.args.tokens.now (sym c.is_next.ensures ∙ c.if-is_next.false) (sym c.is_next_word.ensures ∙ c.if-is_next_word.true))) (c.in_err-rest-3.ensures.err (k [])))

pub returns-in_ok-rest-3-clause-ok : goal.returns-in_ok-rest-3-clause-ok
returns-in_ok-rest-3-clause-ok c =
    λ k. c.in_ok-rest-2.ensures.ok (State.first_parameter k) _ (void_goes k c.args.tokens.now (sym c.is_next.ensures ∙ c.if-is_next.false) (sym c.is_next_word.ensures ∙ c.if-is_next_word.true)) ∙ (c.in_ok-rest-3.ensures.ok (k []) ∙ ap (λ xs. answer c.args.self.length (k xs) c.in_ok-rest-3.rest.now) (sym c.new-then-is_next_word.ensures))

pub returns-in_err-parameters-clause-err : goal.returns-in_err-parameters-clause-err
returns-in_err-parameters-clause-err c =
    err_same _ c.from_residual-in_err-parameters.result c.in_err-parameters.field-0.0 c.from_residual-in_err-parameters.ensures.1
    (λ k. refused_on _ (some_parameters_same c.args.self.length k c.args.tokens.now (sym c.is_next.ensures ∙ c.if-is_next.false) (sym c.is_next_word.ensures ∙ c.if-is_next_word.false)) (c.in_err-parameters.ensures.err k))

pub returns-in_ok-parameters-clause-ok : goal.returns-in_ok-parameters-clause-ok
returns-in_ok-parameters-clause-ok c =
    λ k. some_parameters_same c.args.self.length k c.args.tokens.now (sym c.is_next.ensures ∙ c.if-is_next.false) (sym c.is_next_word.ensures ∙ c.if-is_next_word.false) ∙ c.in_ok-parameters.ensures.ok k
