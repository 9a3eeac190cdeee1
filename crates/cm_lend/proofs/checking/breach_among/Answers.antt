use Rattle.std.proofs.Common.{◌++◌, ◌∷◌, [], ◌∙◌, ap, sym, subst, take}
use Rattle.std.proofs.lemmas.List.{take_all}
use Rattle.cm_syntax.specs.Evaluation.{body_order}
use Rattle.cm_lend.specs.Breach.{IsBest, Breaks, BreaksAmong}
use Rattle.cm_lend.proofs.SummaryLaw.{take_more}
use Rattle.cm_lend.proofs.AnswerLaw.{none_breaks, one_more_function}
use Rattle.cm_lend.proofs.checking.breach_among.Goals as goal

pub loop-function-init : goal.loop-function-init
loop-function-init c = none_breaks

pub loop-function-preserved : goal.loop-function-preserved
loop-function-preserved c =
    let functions = c.args.functions.now in
    let i = c.loop-function.function-index in
    let f = c.function-item.result in
    subst (λ fs. IsBest (BreaksAmong fs) c.better-best.result)
    (ap (λ x. take i functions ++ x ∷ []) c.function-item.is ∙ sym (take_more functions i f c.loop-function-test.true))
    (one_more_function (take i functions) f c.loop-function.best c.in_ok-one.one.found c.better-best.result c.loop-function.invariant
    (subst (λ body. IsBest (Breaks (body_order body)) c.in_ok-one.one.found) c.items.ensures c.in_ok-one.ensures.found) c.better-best.ensures)

pub returns : goal.returns
returns c =
    subst (λ fs. IsBest (BreaksAmong fs) c.loop-function.best) (take_all c.loop-function.function-index c.args.functions.now c.loop-function-test.false)
    c.loop-function.invariant
