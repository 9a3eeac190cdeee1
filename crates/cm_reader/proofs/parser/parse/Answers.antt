use Rattle.std.proofs.Common.{sym, ap, ◌∙◌, ◌++◌, ◌∷◌, []}
use Rattle.cm_syntax.specs.Parser.{State}
use Rattle.cm_reader.specs.Read.{answer}
use Rattle.cm_reader.proofs.StepLaw.{err_same, refused_on, ok_map, err_map}
use Rattle.cm_reader.proofs.FunctionLaw.{functions_go_on, functions_finish}
use Rattle.cm_reader.proofs.parser.parse.Goals as goal

pub returns-in_err-function-clause-err : goal.returns-in_err-function-clause-err
returns-in_err-function-clause-err c =
    err_same _ c.from_residual.result c.in_err-function.field-0.0 c.from_residual.ensures.1
    (refused_on _ (c.loop-rest.invariant ∙ functions_go_on c.args.length c.loop-rest.functions c.loop-rest.rest.now (sym c.is_empty.ensures ∙ c.loop-rest-test.true)) (c.in_err-function.ensures.err (λ f. State.functions_next (c.loop-rest.functions ++ f ∷ []))))

pub loop-rest-preserved : goal.loop-rest-preserved
loop-rest-preserved c =
    c.loop-rest.invariant ∙ (functions_go_on c.args.length c.loop-rest.functions c.loop-rest.rest.now (sym c.is_empty.ensures ∙ c.loop-rest-test.true) ∙ (c.in_ok-function.ensures.ok (λ f. State.functions_next (c.loop-rest.functions ++ f ∷ [])) ∙ ap (λ xs. answer c.args.length (State.functions_next xs) c.in_ok-function.end.now) (sym c.in_ok-push.ensures.ok)))

pub returns-clause-ok : goal.returns-clause-ok
returns-clause-ok c =
    ok_map c.finish.result (λ read h. c.loop-rest.invariant ∙ (functions_finish c.args.length c.loop-rest.functions c.loop-rest.rest.now (sym c.is_empty.ensures ∙ c.loop-rest-test.false) ∙ h)) c.finish.ensures.ok

pub returns-clause-err : goal.returns-clause-err
returns-clause-err c =
    err_map c.finish.result (λ refusal h. refused_on _ (c.loop-rest.invariant ∙ functions_finish c.args.length c.loop-rest.functions c.loop-rest.rest.now (sym c.is_empty.ensures ∙ c.loop-rest-test.false)) h) c.finish.ensures.err
