use Rattle.std.proofs.Common.{sym, ap, ◌∙◌, None, Some}
use Rattle.cm_syntax.specs.declared.stmt.Stmt.TheVariants as statement
use Rattle.cm_syntax.specs.declared.stmt.Target.TheVariants as target
use Rattle.cm_syntax.specs.Parser.{State, with_semicolon}
use Rattle.cm_reader.specs.Read.{answer}
use Rattle.cm_reader.proofs.StepLaw.{err_same, refused_on}
use Rattle.cm_reader.proofs.StatementLaw.{spawn_into_goes, assigned_value_same}
use Rattle.cm_syntax.specs.Parser.{spawned}
use Rattle.cm_reader.proofs.cursor.Reader.destination.Goals as goal

pub returns-in_err-rest-clause-err : goal.returns-in_err-rest-clause-err
returns-in_err-rest-clause-err c =
    err_same _ c.from_residual.result c.in_err-rest.field-0.0 c.from_residual.ensures.1
    (λ k. c.in_err-rest.ensures.err (State.destination c.args.name k) _ (spawn_into_goes c.args.name k c.args.tokens.now (sym c.is_next_word.ensures ∙ c.if-is_next_word.true)))

pub returns-in_err-spawn-clause-err : goal.returns-in_err-spawn-clause-err
returns-in_err-spawn-clause-err c =
    err_same _ c.from_residual-in_err-spawn.result c.in_err-spawn.field-0.0 c.from_residual-in_err-spawn.ensures.1
    (λ k. refused_on _ (c.in_ok-rest.ensures.ok (State.destination c.args.name k) _ (spawn_into_goes c.args.name k c.args.tokens.now (sym c.is_next_word.ensures ∙ c.if-is_next_word.true)) ∙ ap (λ at. answer c.args.self.length (spawned at (Some c.args.name) k) c.in_ok-rest.rest.now) (sym c.next_offset-at.ensures)) (c.in_err-spawn.ensures.err k))

pub returns-in_ok-spawn-clause-ok : goal.returns-in_ok-spawn-clause-ok
returns-in_ok-spawn-clause-ok c =
    λ k. c.in_ok-rest.ensures.ok (State.destination c.args.name k) _ (spawn_into_goes c.args.name k c.args.tokens.now (sym c.is_next_word.ensures ∙ c.if-is_next_word.true)) ∙ (ap (λ at. answer c.args.self.length (spawned at (Some c.args.name) k) c.in_ok-rest.rest.now) (sym c.next_offset-at.ensures) ∙ c.in_ok-spawn.ensures.ok k)

pub returns-in_err-value-clause-err : goal.returns-in_err-value-clause-err
returns-in_err-value-clause-err c =
    err_same _ c.from_residual-in_err-value.result c.in_err-value.field-0.0 c.from_residual-in_err-value.ensures.1
    (λ k. refused_on _ (assigned_value_same c.args.self.length c.args.name k c.args.tokens.now (sym c.is_next_word.ensures ∙ c.if-is_next_word.false)) (c.in_err-value.ensures.err (λ e. with_semicolon k (statement.Assign (target.Scalar c.args.name) None e))))

pub returns-in_err-rest-2-clause-err : goal.returns-in_err-rest-2-clause-err
returns-in_err-rest-2-clause-err c =
    err_same _ c.from_residual-in_err-rest-2.result c.in_err-rest-2.field-0.0 c.from_residual-in_err-rest-2.ensures.1
    (λ k. refused_on _ (assigned_value_same c.args.self.length c.args.name k c.args.tokens.now (sym c.is_next_word.ensures ∙ c.if-is_next_word.false) ∙ c.in_ok-value.ensures.ok (λ e. with_semicolon k (statement.Assign (target.Scalar c.args.name) None e))) (c.in_err-rest-2.ensures.err (k (statement.Assign (target.Scalar c.args.name) None c.in_ok-value.value))))

pub returns-in_ok-rest-2-clause-ok : goal.returns-in_ok-rest-2-clause-ok
returns-in_ok-rest-2-clause-ok c =
    λ k. assigned_value_same c.args.self.length c.args.name k c.args.tokens.now (sym c.is_next_word.ensures ∙ c.if-is_next_word.false) ∙ (c.in_ok-value.ensures.ok (λ e. with_semicolon k (statement.Assign (target.Scalar c.args.name) None e)) ∙ c.in_ok-rest-2.ensures.ok (k (statement.Assign (target.Scalar c.args.name) None c.in_ok-value.value)))
