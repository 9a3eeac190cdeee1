use Rattle.std.proofs.Common.{sym, ◌∙◌}
use Rattle.cm_syntax.specs.Parser.{State}
use Rattle.cm_reader.proofs.StepLaw.{err_same}
use Rattle.cm_reader.proofs.FunctionLaw.{mark_goes, no_mark_same}
use Rattle.cm_reader.proofs.cursor.Reader.mark.Goals as goal

pub returns-in_err-rest-clause-err : goal.returns-in_err-rest-clause-err
returns-in_err-rest-clause-err c =
    err_same _ c.from_residual.result c.in_err-rest.field-0.0 c.from_residual.ensures.1
    (λ k. c.in_err-rest.ensures.err (State.function_next k) _ (mark_goes k c.args.tokens.now (sym c.is_next_word.ensures ∙ c.if-is_next_word.true)))

pub returns-in_ok-rest-clause-ok : goal.returns-in_ok-rest-clause-ok
returns-in_ok-rest-clause-ok c =
    λ k. c.in_ok-rest.ensures.ok (State.function_next k) _ (mark_goes k c.args.tokens.now (sym c.is_next_word.ensures ∙ c.if-is_next_word.true))

pub returns-else-is_next_word-clause-ok : goal.returns-else-is_next_word-clause-ok
returns-else-is_next_word-clause-ok c =
    λ k. no_mark_same c.args.self.length k c.args.tokens.now (sym c.is_next_word.ensures ∙ c.if-is_next_word.false)
