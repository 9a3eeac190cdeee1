use Rattle.std.proofs.Common.{sym, ◌∙◌}
use Rattle.cm_syntax.specs.declared.stmt.Stmt.TheVariants as statement
use Rattle.cm_syntax.specs.declared.stmt.Target.TheVariants as target
use Rattle.cm_syntax.specs.Parser.{State}
use Rattle.cm_reader.proofs.StepLaw.{err_same, refused_on}
use Rattle.cm_reader.proofs.SimpleLaw.{simple_index_goes, simple_call_goes, simple_writing_same}
use Rattle.cm_reader.proofs.cursor.Reader.simple_of.Goals as goal

pub returns-in_err-rest-clause-err : goal.returns-in_err-rest-clause-err
returns-in_err-rest-clause-err c =
    err_same _ c.from_residual.result c.in_err-rest.field-0.0 c.from_residual.ensures.1
    (λ k. c.in_err-rest.ensures.err (State.simple_name c.args.name k) _ (simple_index_goes c.args.name k c.args.tokens.now (sym c.is_next.ensures ∙ c.if-is_next.true)))

pub returns-in_err-place-clause-err : goal.returns-in_err-place-clause-err
returns-in_err-place-clause-err c =
    err_same _ c.from_residual-in_err-place.result c.in_err-place.field-0.0 c.from_residual-in_err-place.ensures.1
    (λ k. refused_on _ (c.in_ok-rest.ensures.ok (State.simple_name c.args.name k) _ (simple_index_goes c.args.name k c.args.tokens.now (sym c.is_next.ensures ∙ c.if-is_next.true))) (c.in_err-place.ensures.err (λ e. State.writing (target.Index c.args.name e) k)))

pub returns-in_err-assignment-clause-err : goal.returns-in_err-assignment-clause-err
returns-in_err-assignment-clause-err c =
    err_same _ c.from_residual-in_err-assignment.result c.in_err-assignment.field-0.0 c.from_residual-in_err-assignment.ensures.1
    (λ k. refused_on _ (c.in_ok-rest.ensures.ok (State.simple_name c.args.name k) _ (simple_index_goes c.args.name k c.args.tokens.now (sym c.is_next.ensures ∙ c.if-is_next.true)) ∙ c.in_ok-place.ensures.ok (λ e. State.writing (target.Index c.args.name e) k)) (c.in_err-assignment.ensures.err k))

pub returns-in_ok-assignment-clause-ok : goal.returns-in_ok-assignment-clause-ok
returns-in_ok-assignment-clause-ok c =
    λ k. c.in_ok-rest.ensures.ok (State.simple_name c.args.name k) _ (simple_index_goes c.args.name k c.args.tokens.now (sym c.is_next.ensures ∙ c.if-is_next.true)) ∙ (c.in_ok-place.ensures.ok (λ e. State.writing (target.Index c.args.name e) k) ∙ c.in_ok-assignment.ensures.ok k)

pub returns-in_err-rest-2-clause-err : goal.returns-in_err-rest-2-clause-err
returns-in_err-rest-2-clause-err c =
    err_same _ c.from_residual-in_err-rest-2.result c.in_err-rest-2.field-0.0 c.from_residual-in_err-rest-2.ensures.1
    (λ k. c.in_err-rest-2.ensures.err (State.simple_name c.args.name k) _ (simple_call_goes c.args.name k c.args.tokens.now (sym c.is_next.ensures ∙ c.if-is_next.false) (sym c.is_next-else-is_next.ensures ∙ c.if-is_next-2.true)))

pub returns-in_err-call-clause-err : goal.returns-in_err-call-clause-err
returns-in_err-call-clause-err c =
    err_same _ c.from_residual-in_err-call.result c.in_err-call.field-0.0 c.from_residual-in_err-call.ensures.1
    (λ k. refused_on _ (c.in_ok-rest-2.ensures.ok (State.simple_name c.args.name k) _ (simple_call_goes c.args.name k c.args.tokens.now (sym c.is_next.ensures ∙ c.if-is_next.false) (sym c.is_next-else-is_next.ensures ∙ c.if-is_next-2.true))) (c.in_err-call.ensures.err (λ made. k (statement.Call made))))

pub returns-in_ok-call-clause-ok : goal.returns-in_ok-call-clause-ok
returns-in_ok-call-clause-ok c =
    λ k. c.in_ok-rest-2.ensures.ok (State.simple_name c.args.name k) _ (simple_call_goes c.args.name k c.args.tokens.now (sym c.is_next.ensures ∙ c.if-is_next.false) (sym c.is_next-else-is_next.ensures ∙ c.if-is_next-2.true)) ∙ c.in_ok-call.ensures.ok (λ made. k (statement.Call made))

pub returns-in_err-assignment-2-clause-err : goal.returns-in_err-assignment-2-clause-err
returns-in_err-assignment-2-clause-err c =
    err_same _ c.from_residual-in_err-assignment-2.result c.in_err-assignment-2.field-0.0 c.from_residual-in_err-assignment-2.ensures.1
    (λ k. refused_on _ (simple_writing_same c.args.self.length c.args.name k c.args.tokens.now (sym c.is_next.ensures ∙ c.if-is_next.false) (sym c.is_next-else-is_next.ensures ∙ c.if-is_next-2.false)) (c.in_err-assignment-2.ensures.err k))

pub returns-in_ok-assignment-2-clause-ok : goal.returns-in_ok-assignment-2-clause-ok
returns-in_ok-assignment-2-clause-ok c =
    λ k. simple_writing_same c.args.self.length c.args.name k c.args.tokens.now (sym c.is_next.ensures ∙ c.if-is_next.false) (sym c.is_next-else-is_next.ensures ∙ c.if-is_next-2.false) ∙ c.in_ok-assignment-2.ensures.ok k
