use Rattle.std.proofs.Common.{sym, ap, ◌∙◌, ◌++◌, ◌∷◌, [], arith}
use Rattle.cm_syntax.specs.Parser.{State}
use Rattle.cm_reader.specs.Read.{answer}
use Rattle.cm_reader.proofs.StepLaw.{err_same, refused_on}
use Rattle.cm_reader.proofs.FunctionLaw.{parameter_comma_goes, parameters_end}
use Rattle.cm_reader.proofs.cursor.Reader.some_parameters.Goals as goal

pub returns-in_err-behind-clause-err : goal.returns-in_err-behind-clause-err
returns-in_err-behind-clause-err c =
    err_same _ c.from_residual-in_err-behind.result c.in_err-behind.field-0.0 c.from_residual-in_err-behind.ensures.1
    (λ k. refused_on _ (c.loop-rest.invariant.reads k) (c.in_err-behind.ensures.err (State.more_parameters c.loop-rest.parameters k) _ (parameter_comma_goes c.loop-rest.parameters k c.loop-rest.rest.now (sym c.is_next.ensures ∙ c.loop-rest-test.true))))

pub returns-in_err-more-clause-err : goal.returns-in_err-more-clause-err
returns-in_err-more-clause-err c =
    err_same _ c.from_residual-in_err-more.result c.in_err-more.field-0.0 c.from_residual-in_err-more.ensures.1
    (λ k. refused_on _ (c.loop-rest.invariant.reads k ∙ c.in_ok-behind.ensures.ok (State.more_parameters c.loop-rest.parameters k) _ (parameter_comma_goes c.loop-rest.parameters k c.loop-rest.rest.now (sym c.is_next.ensures ∙ c.loop-rest-test.true))) (c.in_err-more.ensures.err (λ one. State.more_parameters (c.loop-rest.parameters ++ one ∷ []) k)))

pub loop-rest-preserved : goal.loop-rest-preserved
loop-rest-preserved c =
    record {
      reads = λ k. c.loop-rest.invariant.reads k ∙ (c.in_ok-behind.ensures.ok (State.more_parameters c.loop-rest.parameters k) _ (parameter_comma_goes c.loop-rest.parameters k c.loop-rest.rest.now (sym c.is_next.ensures ∙ c.loop-rest-test.true)) ∙ (c.in_ok-more.ensures.ok (λ one. State.more_parameters (c.loop-rest.parameters ++ one ∷ []) k) ∙ ap (λ xs. answer c.args.self.length (State.more_parameters xs k) c.in_ok-more.end.now) (sym c.in_ok-push-2.ensures.ok)));
      shorter = omega (arith, c.in_ok-more.ensures.shorter, c.in_ok-behind.ensures.shorter, c.loop-rest.invariant.shorter);
    }

pub returns-in_err-rest-clause-err : goal.returns-in_err-rest-clause-err
returns-in_err-rest-clause-err c =
    err_same _ c.from_residual-in_err-rest.result c.in_err-rest.field-0.0 c.from_residual-in_err-rest.ensures.1
    (λ k. refused_on _ (c.loop-rest.invariant.reads k ∙ parameters_end c.args.self.length c.loop-rest.parameters k c.loop-rest.rest.now (sym c.is_next.ensures ∙ c.loop-rest-test.false)) (c.in_err-rest.ensures.err (k c.loop-rest.parameters)))
