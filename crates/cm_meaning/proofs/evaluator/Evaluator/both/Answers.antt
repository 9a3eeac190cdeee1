use Rattle.std.proofs.Common.{◌≡◌, [], ◌∷◌, refl, ap, ◌∙◌, arith}
use Rattle.std.specs.Prelude.{pos}
use Rattle.std.proofs.lemmas.Int.{ints}
use Rattle.cm_meaning.specs.declared.work.Hand.TheVariants as hands
use Rattle.cm_meaning.specs.declared.work.Work.TheVariants as works
use Rattle.cm_meaning.specs.declared.work.Outcome.TheVariants as outcomes
use Rattle.cm_meaning.proofs.EvaluatorLaw.{puts_does, puts_held, reverse_push}
use Rattle.cm_meaning.proofs.evaluator.Evaluator.both.Goals as goal

pub returns-in_ok-push : goal.returns-in_ok-push
returns-in_ok-push c =
    let zero : c.value.result ≡ pos 0 = omega (arith, ints, c.value.type_inv, c.if-value-eq0.true) in
    let is = c.value.ensures ∙ ap hands.Value zero in
    puts_does c.args.self.now _ (works.Both c.args.right) (hands.Value (pos 0)) outcomes.Going (works.Truth ∷ []) (hands.Value (pos 0)) c.requires is refl
    (puts_held c.args.self.now _ (works.Truth ∷ []) (hands.Value (pos 0)) is (refl, reverse_push _ _ works.Truth (c.in_ok-push.ensures.items))) (λ h at. refl)
