use Rattle.std.proofs.Common.{sym, ap, ◌∙◌}
use Rattle.cm_syntax.specs.Parser.{State, with_semicolon}
use Rattle.cm_reader.specs.Read.{answer}
use Rattle.cm_reader.proofs.StepLaw.{err_same, refused_on}
use Rattle.cm_reader.proofs.StatementLaw.{destination_goes, named_simple_same}
use Rattle.cm_reader.specs.Read.{statement_of}
use Rattle.cm_reader.proofs.cursor.Reader.named_parts.Goals as goal

pub returns-in_err-rest-clause-err : goal.returns-in_err-rest-clause-err
returns-in_err-rest-clause-err c =
    err_same _ c.from_residual.result c.in_err-rest.field-0.0 c.from_residual.ensures.1
    (λ k. c.in_err-rest.ensures.err (State.plain_name c.args.name k) _ (destination_goes c.args.name k c.args.tokens.now (sym c.is_next.ensures ∙ c.if-is_next.true)))

pub returns-in_err-statement-clause-err : goal.returns-in_err-statement-clause-err
returns-in_err-statement-clause-err c =
    err_same _ c.from_residual-in_err-statement.result c.in_err-statement.field-0.0 c.from_residual-in_err-statement.ensures.1
    (λ k. refused_on _ (c.in_ok-rest.ensures.ok (State.plain_name c.args.name k) _ (destination_goes c.args.name k c.args.tokens.now (sym c.is_next.ensures ∙ c.if-is_next.true))) (c.in_err-statement.ensures.err k))

pub returns-in_ok-statement-clause-ok : goal.returns-in_ok-statement-clause-ok
returns-in_ok-statement-clause-ok c =
    λ k. c.in_ok-rest.ensures.ok (State.plain_name c.args.name k) _ (destination_goes c.args.name k c.args.tokens.now (sym c.is_next.ensures ∙ c.if-is_next.true)) ∙ c.in_ok-statement.ensures.ok k

pub returns-in_err-simple-clause-err : goal.returns-in_err-simple-clause-err
returns-in_err-simple-clause-err c =
    err_same _ c.from_residual-in_err-simple.result c.in_err-simple.field-0.0 c.from_residual-in_err-simple.ensures.1
    (λ k. refused_on _ (named_simple_same c.args.self.length c.args.name k c.args.tokens.now (sym c.is_next.ensures ∙ c.if-is_next.false)) (c.in_err-simple.ensures.err (with_semicolon k)))

pub returns-in_err-rest-2-clause-err : goal.returns-in_err-rest-2-clause-err
returns-in_err-rest-2-clause-err c =
    err_same _ c.from_residual-in_err-rest-2.result c.in_err-rest-2.field-0.0 c.from_residual-in_err-rest-2.ensures.1
    (λ k. refused_on _ (named_simple_same c.args.self.length c.args.name k c.args.tokens.now (sym c.is_next.ensures ∙ c.if-is_next.false) ∙ c.in_ok-simple.ensures.ok (with_semicolon k)) (c.in_err-rest-2.ensures.err (k (statement_of c.in_ok-simple.simple))))

pub returns-in_ok-rest-2-clause-ok : goal.returns-in_ok-rest-2-clause-ok
returns-in_ok-rest-2-clause-ok c =
    λ k. named_simple_same c.args.self.length c.args.name k c.args.tokens.now (sym c.is_next.ensures ∙ c.if-is_next.false) ∙ (c.in_ok-simple.ensures.ok (with_semicolon k) ∙ (c.in_ok-rest-2.ensures.ok (k (statement_of c.in_ok-simple.simple)) ∙ ap (λ s. answer c.args.self.length (k s) c.in_ok-rest-2.rest.now) (sym c.statement_of.ensures)))
