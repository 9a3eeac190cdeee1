use Rattle.std.proofs.Common.{take, sym, subst}
use Rattle.std.proofs.lemmas.List.{take_all}
use Rattle.cm_lend.specs.Breach.{IsBest, IsOnceMore}
use Rattle.cm_lend.proofs.SummaryLaw.{take_more}
use Rattle.cm_lend.proofs.AgainLaw.{none_again, once_more, once_other}
use Rattle.cm_lend.proofs.breach.once_more.Goals.{then-mark-variable, else-mark-variable}
use Rattle.cm_lend.proofs.breach.once_more.Goals as goal

pub loop-mark-init : goal.loop-mark-init
loop-mark-init c = none_again c.args.variable

pub loop-mark-preserved : goal.loop-mark-preserved
loop-mark-preserved c =
    let more = c.args.more.now in
    let i = c.loop-mark.mark-index in
    subst (λ xs. IsBest (IsOnceMore c.args.variable xs) c.if-mark-variable.best) (sym (take_more more i _ c.loop-mark-test.true))
    (elim c.if-mark-variable.branch [
      | then-mark-variable w ↦
          subst (IsBest (IsOnceMore c.args.variable _)) (sym w.best-is)
          (once_more c.args.variable (take i more) _ c.loop-mark.best w.better-best.result c.loop-mark.invariant w.if-mark-variable.true w.better-best.ensures)
      | else-mark-variable w ↦
          subst (IsBest (IsOnceMore c.args.variable _)) (sym w.best-is)
          (once_other c.args.variable (take i more) _ c.loop-mark.best c.loop-mark.invariant w.if-mark-variable.false)
    ])

pub returns : goal.returns
returns c =
    subst (λ xs. IsBest (IsOnceMore c.args.variable xs) c.loop-mark.best) (take_all c.loop-mark.mark-index c.args.more.now c.loop-mark-test.false)
    c.loop-mark.invariant
