use Rattle.std.proofs.Common.{sym, ap, ◌∙◌, ◌++◌, ◌∷◌, [], arith}
use Rattle.cm_syntax.specs.Parser.{State}
use Rattle.cm_reader.specs.Read.{answer}
use Rattle.cm_reader.proofs.StepLaw.{err_same, refused_on}
use Rattle.cm_reader.proofs.SimpleLaw.{item_comma_goes, items_end}
use Rattle.cm_reader.proofs.cursor.Reader.declaration.Goals as goal

pub returns-in_err-first-clause-err : goal.returns-in_err-first-clause-err
returns-in_err-first-clause-err c =
    err_same _ c.from_residual.result c.in_err-first.field-0.0 c.from_residual.ensures.1
    (λ k. c.in_err-first.ensures.err (λ one. State.more_items (one ∷ []) k))

pub loop-self-init : goal.loop-self-init
loop-self-init c =
    record {
      reads = λ k. c.in_ok-first.ensures.ok (λ one. State.more_items (one ∷ []) k) ∙ ap (λ xs. answer c.args.self.length (State.more_items xs k) c.in_ok-first.rest.now) (sym (c.in_ok-push.ensures.ok ∙ ap (λ xs. xs ++ c.in_ok-first.first ∷ []) c.new-items.ensures));
      shorter = c.in_ok-first.ensures.shorter;
    }

pub returns-in_err-behind-clause-err : goal.returns-in_err-behind-clause-err
returns-in_err-behind-clause-err c =
    err_same _ c.from_residual-in_err-behind.result c.in_err-behind.field-0.0 c.from_residual-in_err-behind.ensures.1
    (λ k. refused_on _ (c.loop-self.invariant.reads k) (c.in_err-behind.ensures.err (State.more_items c.loop-self.items k) _ (item_comma_goes c.loop-self.items k c.loop-self.rest.now (sym c.is_next.ensures ∙ c.loop-self-test.true))))

pub returns-in_err-more-clause-err : goal.returns-in_err-more-clause-err
returns-in_err-more-clause-err c =
    err_same _ c.from_residual-in_err-more.result c.in_err-more.field-0.0 c.from_residual-in_err-more.ensures.1
    (λ k. refused_on _ (c.loop-self.invariant.reads k ∙ c.in_ok-behind.ensures.ok (State.more_items c.loop-self.items k) _ (item_comma_goes c.loop-self.items k c.loop-self.rest.now (sym c.is_next.ensures ∙ c.loop-self-test.true))) (c.in_err-more.ensures.err (λ one. State.more_items (c.loop-self.items ++ one ∷ []) k)))

pub loop-self-preserved : goal.loop-self-preserved
loop-self-preserved c =
    record {
      reads = λ k. c.loop-self.invariant.reads k ∙ (c.in_ok-behind.ensures.ok (State.more_items c.loop-self.items k) _ (item_comma_goes c.loop-self.items k c.loop-self.rest.now (sym c.is_next.ensures ∙ c.loop-self-test.true)) ∙ (c.in_ok-more.ensures.ok (λ one. State.more_items (c.loop-self.items ++ one ∷ []) k) ∙ ap (λ xs. answer c.args.self.length (State.more_items xs k) c.in_ok-more.end.now) (sym c.in_ok-push-2.ensures.ok)));
      shorter = omega (arith, c.in_ok-more.ensures.shorter, c.in_ok-behind.ensures.shorter, c.loop-self.invariant.shorter);
    }

pub returns-clause-ok : goal.returns-clause-ok
returns-clause-ok c =
    λ k. c.loop-self.invariant.reads k ∙ items_end c.args.self.length c.loop-self.items k c.loop-self.rest.now (sym c.is_next.ensures ∙ c.loop-self-test.false)
