use Rattle.std.proofs.Common.{[], ◌∷◌, refl}
use Rattle.cm_meaning.specs.declared.work.Hand.TheVariants as hands
use Rattle.cm_meaning.specs.declared.work.Work.TheVariants as works
use Rattle.cm_meaning.specs.declared.work.Outcome.TheVariants as outcomes
use Rattle.cm_meaning.proofs.EvaluatorLaw.{puts_does, puts_held, reverse_push, word_is_true}
use Rattle.cm_meaning.proofs.evaluator.Evaluator.either.Goals as goal

pub returns-in_ok-push : goal.returns-in_ok-push
returns-in_ok-push c =
    let test = word_is_true c.value.result c.if-value-eq0.false in
    puts_does c.args.self.now _ (works.Either c.args.right) (hands.Value c.value.result) outcomes.Going (works.Truth ∷ []) (hands.Value c.value.result) c.requires c.value.ensures refl
    (puts_held c.args.self.now _ (works.Truth ∷ []) (hands.Value c.value.result) c.value.ensures (refl, reverse_push _ _ works.Truth (c.in_ok-push.ensures.items))) (λ h at. rw test refl)
