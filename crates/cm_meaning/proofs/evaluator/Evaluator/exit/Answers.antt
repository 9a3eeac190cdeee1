use Rattle.std.proofs.Common.{◌-◌, ◌++◌, ◌∷◌, [], length, take, refl, ap, ◌∙◌}
use Rattle.cm_meaning.proofs.CallLaw.{nothing_popped, popped_more, popped_does}
use Rattle.cm_meaning.proofs.evaluator.Evaluator.exit.Goals as goal

pub loop-work-init : goal.loop-work-init
loop-work-init c = nothing_popped c.args.self.now c.requires

pub loop-work-preserved : goal.loop-work-preserved
loop-work-preserved c =
    let passed = c.loop-work.self.passed in
    let kept = c.saturating_sub-kept.ensures ∙ ap (λ n. n - c.count.result) (c.len.ensures ∙ passed.ok.0) ∙ ap (λ n. length passed.items - n) c.count.ensures in
    popped_more c.args.self.now _ _ c.in-Some.work c.loop-work.invariant c.in_default-work.not-Join refl c.in-Some.ensures.items
    (c.truncate.ensures.items ∙ ap (λ n. take n passed.items) kept)

pub returns-in-Join : goal.returns-in-Join
returns-in-Join c = popped_does c.args.self.now c.loop-work.self _ c.pop.new.self.items c.requires c.loop-work.invariant
    (c.in-Some.ensures.items ∙ ap (λ work. c.pop.new.self.items ++ work ∷ []) c.in-Join.is) refl
    (c.in_ok-push.ensures.items ∙ ap (λ work. c.pop.new.self.items ++ work ∷ []) c.in-Join.is)
