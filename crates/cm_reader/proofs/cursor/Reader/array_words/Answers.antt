use Rattle.std.proofs.Common.{subst, sym, ◌∙◌}
use Rattle.cm_syntax.specs.Parser.{State}
use Rattle.cm_reader.specs.Read.{Goes}
use Rattle.cm_reader.proofs.StepLaw.{err_same}
use Rattle.cm_reader.proofs.SimpleLaw.{words_goes}
use Rattle.cm_reader.proofs.cursor.Reader.array_words.Goals as goal

pub returns-in_err-rest-clause-err : goal.returns-in_err-rest-clause-err
returns-in_err-rest-clause-err c =
    err_same _ c.from_residual.result c.in_err-rest.field-0.0 c.from_residual.ensures.1
    (λ k. c.in_err-rest.ensures.err (State.array_words k) _ (subst (λ fits. Goes (State.array_words k) c.args.tokens.now fits (k c.in-Some.words)) (sym c.is_array_size.ensures) (words_goes c.in-Some.words k c.args.tokens.now (sym c.next_number.ensures ∙ c.in-Some.is))))

pub returns-clause-ok : goal.returns-clause-ok
returns-clause-ok c =
    λ k. c.in_ok-rest.ensures.ok (State.array_words k) _ (subst (λ fits. Goes (State.array_words k) c.args.tokens.now fits (k c.in-Some.words)) (sym c.is_array_size.ensures) (words_goes c.in-Some.words k c.args.tokens.now (sym c.next_number.ensures ∙ c.in-Some.is)))
