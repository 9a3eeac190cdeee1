use Rattle.std.proofs.Common.{sym, ◌∙◌, Some}
use Rattle.cm_syntax.specs.declared.stmt.Slot.TheVariants as slot
use Rattle.cm_syntax.specs.declared.token.Sign.TheVariants as sign
use Rattle.cm_syntax.specs.Parser.{State, item}
use Rattle.cm_reader.proofs.StepLaw.{err_same, refused_on}
use Rattle.cm_reader.proofs.SimpleLaw.{item_value_goes, item_array_goes, item_scalar_same}
use Rattle.cm_reader.proofs.cursor.Reader.item_of.Goals as goal

pub returns-in_err-rest-clause-err : goal.returns-in_err-rest-clause-err
returns-in_err-rest-clause-err c =
    err_same _ c.from_residual.result c.in_err-rest.field-0.0 c.from_residual.ensures.1
    (λ k. c.in_err-rest.ensures.err (State.item_name c.args.name k) _ (item_value_goes c.args.name k c.args.tokens.now (sym c.is_next.ensures ∙ c.if-is_next.true)))

pub returns-in_err-value-clause-err : goal.returns-in_err-value-clause-err
returns-in_err-value-clause-err c =
    err_same _ c.from_residual-in_err-value.result c.in_err-value.field-0.0 c.from_residual-in_err-value.ensures.1
    (λ k. refused_on _ (c.in_ok-rest.ensures.ok (State.item_name c.args.name k) _ (item_value_goes c.args.name k c.args.tokens.now (sym c.is_next.ensures ∙ c.if-is_next.true))) (c.in_err-value.ensures.err (λ e. k (record { name = c.args.name; slot = slot.Scalar; first = Some e }))))

pub returns-in_ok-value-clause-ok : goal.returns-in_ok-value-clause-ok
returns-in_ok-value-clause-ok c =
    λ k. c.in_ok-rest.ensures.ok (State.item_name c.args.name k) _ (item_value_goes c.args.name k c.args.tokens.now (sym c.is_next.ensures ∙ c.if-is_next.true)) ∙ c.in_ok-value.ensures.ok (λ e. k (record { name = c.args.name; slot = slot.Scalar; first = Some e }))

pub returns-in_err-rest-2-clause-err : goal.returns-in_err-rest-2-clause-err
returns-in_err-rest-2-clause-err c =
    err_same _ c.from_residual-in_err-rest-2.result c.in_err-rest-2.field-0.0 c.from_residual-in_err-rest-2.ensures.1
    (λ k. c.in_err-rest-2.ensures.err (State.item_name c.args.name k) _ (item_array_goes c.args.name k c.args.tokens.now (sym c.is_next.ensures ∙ c.if-is_next.false) (sym c.is_next-else-is_next.ensures ∙ c.if-is_next-2.true)))

pub returns-in_err-words-clause-err : goal.returns-in_err-words-clause-err
returns-in_err-words-clause-err c =
    err_same _ c.from_residual-in_err-words.result c.in_err-words.field-0.0 c.from_residual-in_err-words.ensures.1
    (λ k. refused_on _ (c.in_ok-rest-2.ensures.ok (State.item_name c.args.name k) _ (item_array_goes c.args.name k c.args.tokens.now (sym c.is_next.ensures ∙ c.if-is_next.false) (sym c.is_next-else-is_next.ensures ∙ c.if-is_next-2.true))) (c.in_err-words.ensures.err (λ words. State.sign_next sign.BracketClose (k (item c.args.name (slot.Array words))))))

pub returns-in_err-rest-3-clause-err : goal.returns-in_err-rest-3-clause-err
returns-in_err-rest-3-clause-err c =
    err_same _ c.from_residual-in_err-rest-3.result c.in_err-rest-3.field-0.0 c.from_residual-in_err-rest-3.ensures.1
    (λ k. refused_on _ (c.in_ok-rest-2.ensures.ok (State.item_name c.args.name k) _ (item_array_goes c.args.name k c.args.tokens.now (sym c.is_next.ensures ∙ c.if-is_next.false) (sym c.is_next-else-is_next.ensures ∙ c.if-is_next-2.true)) ∙ c.in_ok-words.ensures.ok (λ words. State.sign_next sign.BracketClose (k (item c.args.name (slot.Array words))))) (c.in_err-rest-3.ensures.err (k (item c.args.name (slot.Array c.in_ok-words.words)))))

pub returns-in_ok-rest-3-clause-ok : goal.returns-in_ok-rest-3-clause-ok
returns-in_ok-rest-3-clause-ok c =
    λ k. c.in_ok-rest-2.ensures.ok (State.item_name c.args.name k) _ (item_array_goes c.args.name k c.args.tokens.now (sym c.is_next.ensures ∙ c.if-is_next.false) (sym c.is_next-else-is_next.ensures ∙ c.if-is_next-2.true)) ∙ (c.in_ok-words.ensures.ok (λ words. State.sign_next sign.BracketClose (k (item c.args.name (slot.Array words)))) ∙ c.in_ok-rest-3.ensures.ok (k (item c.args.name (slot.Array c.in_ok-words.words))))

pub returns-else-is_next-2-clause-ok : goal.returns-else-is_next-2-clause-ok
returns-else-is_next-2-clause-ok c =
    λ k. item_scalar_same c.args.self.length c.args.name k c.args.tokens.now (sym c.is_next.ensures ∙ c.if-is_next.false) (sym c.is_next-else-is_next.ensures ∙ c.if-is_next-2.false)
