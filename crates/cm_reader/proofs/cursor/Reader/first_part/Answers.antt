use Rattle.std.proofs.Common.{sym, refl, ◌∙◌}
use Rattle.cm_syntax.specs.declared.stmt.Stmt.TheVariants as statement
use Rattle.cm_syntax.specs.Yield.{Quantity}
use Rattle.cm_syntax.specs.Parser.{State}
use Rattle.cm_reader.proofs.StepLaw.{err_same, refused_on}
use Rattle.cm_reader.proofs.StatementLaw.{no_first_same, first_declaration_goes, first_simple_same}
use Rattle.cm_reader.proofs.cursor.Reader.first_part.Goals as goal

pub returns-in_ok-empty-clause-ok : goal.returns-in_ok-empty-clause-ok
returns-in_ok-empty-clause-ok c =
    λ k. rw (c.in_ok-empty.ensures) (no_first_same c.args.self.length k c.args.tokens.now (sym c.is_next.ensures ∙ c.if-is_next.true))

pub returns-in_err-rest-clause-err : goal.returns-in_err-rest-clause-err
returns-in_err-rest-clause-err c =
    err_same _ c.from_residual-in_err-rest.result c.in_err-rest.field-0.0 c.from_residual-in_err-rest.ensures.1
    (λ k. c.in_err-rest.ensures.err (State.first_part k) _ (first_declaration_goes k c.args.tokens.now (sym c.is_next.ensures ∙ c.if-is_next.false) (sym c.is_next_word.ensures ∙ c.if-is_next_word.true)))

pub returns-in_err-items-clause-err : goal.returns-in_err-items-clause-err
returns-in_err-items-clause-err c =
    err_same _ c.from_residual-in_err-items.result c.in_err-items.field-0.0 c.from_residual-in_err-items.ensures.1
    (λ k. refused_on _ (c.in_ok-rest.ensures.ok (State.first_part k) _ (first_declaration_goes k c.args.tokens.now (sym c.is_next.ensures ∙ c.if-is_next.false) (sym c.is_next_word.ensures ∙ c.if-is_next_word.true))) (c.in_err-items.ensures.err (λ items. k (statement.Declare items))))

pub returns-in_ok-declaration-clause-ok : goal.returns-in_ok-declaration-clause-ok
returns-in_ok-declaration-clause-ok c =
    λ k. rw (c.in_ok-declaration.ensures) (c.in_ok-rest.ensures.ok (State.first_part k) _ (first_declaration_goes k c.args.tokens.now (sym c.is_next.ensures ∙ c.if-is_next.false) (sym c.is_next_word.ensures ∙ c.if-is_next_word.true)) ∙ c.in_ok-items.ensures.ok (λ items. k (statement.Declare items)))

pub returns-in_err-simple-clause-err : goal.returns-in_err-simple-clause-err
returns-in_err-simple-clause-err c =
    err_same _ c.from_residual-in_err-simple.result c.in_err-simple.field-0.0 c.from_residual-in_err-simple.ensures.1
    (λ k. refused_on _ (first_simple_same c.args.self.length k c.args.tokens.now (sym c.is_next.ensures ∙ c.if-is_next.false) (sym c.is_next_word.ensures ∙ c.if-is_next_word.false)) (c.in_err-simple.ensures.err Quantity.nothing refl k))

pub returns-in_ok-statement-clause-ok : goal.returns-in_ok-statement-clause-ok
returns-in_ok-statement-clause-ok c =
    λ k. rw (c.in_ok-statement.ensures, c.statement_of.ensures) (first_simple_same c.args.self.length k c.args.tokens.now (sym c.is_next.ensures ∙ c.if-is_next.false) (sym c.is_next_word.ensures ∙ c.if-is_next_word.false) ∙ c.in_ok-simple.ensures.ok Quantity.nothing refl k)
