use Rattle.std.proofs.Common.{sym, ap, refl, ◌∙◌}
use Rattle.cm_syntax.specs.Yield.{Quantity}
use Rattle.cm_syntax.specs.Parser.{with_semicolon}
use Rattle.cm_reader.specs.Read.{answer}
use Rattle.cm_reader.proofs.StepLaw.{err_same, refused_on}
use Rattle.cm_reader.proofs.StatementLaw.{plain_simple_same}
use Rattle.cm_reader.specs.Read.{statement_of}
use Rattle.cm_reader.proofs.cursor.Reader.simple_statement.Goals as goal

pub returns-in_err-simple-clause-err : goal.returns-in_err-simple-clause-err
returns-in_err-simple-clause-err c =
    err_same _ c.from_residual.result c.in_err-simple.field-0.0 c.from_residual.ensures.1
    (λ inner k. refused_on _ (plain_simple_same c.args.self.length c.args.depth inner k c.args.tokens.now c.requires) (c.in_err-simple.ensures.err (Quantity.depth c.args.depth) refl (with_semicolon k)))

pub returns-in_err-rest-clause-err : goal.returns-in_err-rest-clause-err
returns-in_err-rest-clause-err c =
    err_same _ c.from_residual-in_err-rest.result c.in_err-rest.field-0.0 c.from_residual-in_err-rest.ensures.1
    (λ inner k. refused_on _ (plain_simple_same c.args.self.length c.args.depth inner k c.args.tokens.now c.requires ∙ c.in_ok-simple.ensures.ok (Quantity.depth c.args.depth) refl (with_semicolon k)) (c.in_err-rest.ensures.err (k (statement_of c.in_ok-simple.simple))))

pub returns-clause-ok : goal.returns-clause-ok
returns-clause-ok c =
    λ inner k. plain_simple_same c.args.self.length c.args.depth inner k c.args.tokens.now c.requires ∙ (c.in_ok-simple.ensures.ok (Quantity.depth c.args.depth) refl (with_semicolon k) ∙ (c.in_ok-rest.ensures.ok (k (statement_of c.in_ok-simple.simple)) ∙ ap (λ s. answer c.args.self.length (k s) c.in_ok-rest.rest.now) (sym c.statement_of.ensures)))
