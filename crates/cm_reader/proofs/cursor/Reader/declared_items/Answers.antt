use Rattle.std.proofs.Common.{◌∙◌, ◌++◌, ◌∷◌, []}
use Rattle.cm_syntax.specs.declared.stmt.Stmt.TheVariants as statement
use Rattle.cm_syntax.specs.declared.token.Sign.TheVariants as sign
use Rattle.cm_syntax.specs.Parser.{State}
use Rattle.cm_reader.proofs.StepLaw.{err_same, refused_on}
use Rattle.cm_reader.proofs.StatementLaw.{declaration_goes}
use Rattle.cm_reader.proofs.cursor.Reader.declared_items.Goals as goal

pub returns-in_err-rest-clause-err : goal.returns-in_err-rest-clause-err
returns-in_err-rest-clause-err c =
    err_same _ c.from_residual.result c.in_err-rest.field-0.0 c.from_residual.ensures.1
    (λ before k. c.in_err-rest.ensures.err (State.statements c.args.depth before k) _ (declaration_goes c.args.depth before k c.args.tokens.now c.requires.more c.requires.int))

pub returns-in_err-items-clause-err : goal.returns-in_err-items-clause-err
returns-in_err-items-clause-err c =
    err_same _ c.from_residual-in_err-items.result c.in_err-items.field-0.0 c.from_residual-in_err-items.ensures.1
    (λ before k. refused_on _ (c.in_ok-rest.ensures.ok (State.statements c.args.depth before k) _ (declaration_goes c.args.depth before k c.args.tokens.now c.requires.more c.requires.int)) (c.in_err-items.ensures.err (λ items. State.sign_next sign.Semicolon (State.statements c.args.depth (before ++ statement.Declare items ∷ []) k))))

pub returns-in_err-rest-2-clause-err : goal.returns-in_err-rest-2-clause-err
returns-in_err-rest-2-clause-err c =
    err_same _ c.from_residual-in_err-rest-2.result c.in_err-rest-2.field-0.0 c.from_residual-in_err-rest-2.ensures.1
    (λ before k. refused_on _ (c.in_ok-rest.ensures.ok (State.statements c.args.depth before k) _ (declaration_goes c.args.depth before k c.args.tokens.now c.requires.more c.requires.int) ∙ c.in_ok-items.ensures.ok (λ items. State.sign_next sign.Semicolon (State.statements c.args.depth (before ++ statement.Declare items ∷ []) k))) (c.in_err-rest-2.ensures.err (State.statements c.args.depth (before ++ statement.Declare c.in_ok-items.items ∷ []) k)))

pub returns-clause-ok : goal.returns-clause-ok
returns-clause-ok c =
    λ before k. c.in_ok-rest.ensures.ok (State.statements c.args.depth before k) _ (declaration_goes c.args.depth before k c.args.tokens.now c.requires.more c.requires.int) ∙ (c.in_ok-items.ensures.ok (λ items. State.sign_next sign.Semicolon (State.statements c.args.depth (before ++ statement.Declare items ∷ []) k)) ∙ c.in_ok-rest-2.ensures.ok (State.statements c.args.depth (before ++ statement.Declare c.in_ok-items.items ∷ []) k))
