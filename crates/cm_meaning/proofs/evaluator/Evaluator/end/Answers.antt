use Rattle.std.proofs.Common.{◌≡◌, ◌+◌, refl, sym, ap, ◌∙◌, Some, rules}
use Rattle.cm_meaning.specs.declared.work.Hand.TheVariants as hands
use Rattle.cm_meaning.proofs.CallLaw.{back_hand, back_other, end_does}
use Rattle.cm_meaning.proofs.evaluator.Evaluator.end.Goals.{in-Value, in_default}
use Rattle.cm_meaning.proofs.evaluator.Evaluator.end.Goals as goal

pub returns : goal.returns
returns c =
    let hand : c.match-self.self ≡ back_hand c.args.self.now.hand = elim c.match-self.branch [
      | in-Value w ↦ w.self-is ∙ ap (λ v. hands.Returned (Some v)) (search rules) ∙ ap back_hand (sym w.in-Value.is)
      | in_default w ↦ w.self-is ∙ back_other c.args.self.now.hand w.in_default.not-Value
    ] in
    end_does c.args.self.now _ c.function-index.result c.requires refl hand c.function-index.ensures (ap (λ n. c.args.self.now.account + n) c.call_bytes.ensures)
    c.pop.ensures.laid c.pop.ensures.place c.pop.ensures.calls c.pop.ensures.shows
