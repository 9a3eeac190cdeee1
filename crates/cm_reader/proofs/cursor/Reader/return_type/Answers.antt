use Rattle.std.proofs.Common.{sym, ◌∙◌, false}
use Rattle.cm_syntax.specs.Parser.{State}
use Rattle.cm_reader.proofs.StepLaw.{err_same, refused_on}
use Rattle.cm_reader.proofs.FunctionLaw.{int_goes, void_same}
use Rattle.cm_reader.proofs.cursor.Reader.return_type.Goals as goal

pub returns-in_err-rest-clause-err : goal.returns-in_err-rest-clause-err
returns-in_err-rest-clause-err c =
    err_same _ c.from_residual.result c.in_err-rest.field-0.0 c.from_residual.ensures.1
    (λ k. c.in_err-rest.ensures.err (State.return_type k) _ (int_goes k c.args.tokens.now (sym c.is_next_word.ensures ∙ c.if-is_next_word.true)))

pub returns-in_ok-rest-clause-ok : goal.returns-in_ok-rest-clause-ok
returns-in_ok-rest-clause-ok c =
    λ k. c.in_ok-rest.ensures.ok (State.return_type k) _ (int_goes k c.args.tokens.now (sym c.is_next_word.ensures ∙ c.if-is_next_word.true))

pub returns-in_err-rest-2-clause-err : goal.returns-in_err-rest-2-clause-err
returns-in_err-rest-2-clause-err c =
    err_same _ c.from_residual-in_err-rest-2.result c.in_err-rest-2.field-0.0 c.from_residual-in_err-rest-2.ensures.1
    (λ k. refused_on _ (void_same c.args.self.length k c.args.tokens.now (sym c.is_next_word.ensures ∙ c.if-is_next_word.false)) (c.in_err-rest-2.ensures.err (k false)))

pub returns-in_ok-rest-2-clause-ok : goal.returns-in_ok-rest-2-clause-ok
returns-in_ok-rest-2-clause-ok c =
    λ k. void_same c.args.self.length k c.args.tokens.now (sym c.is_next_word.ensures ∙ c.if-is_next_word.false) ∙ c.in_ok-rest-2.ensures.ok (k false)
