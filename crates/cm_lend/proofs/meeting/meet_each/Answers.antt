use Rattle.std.proofs.Common.{take, sym, subst}
use Rattle.std.proofs.lemmas.List.{take_all}
use Rattle.cm_lend.specs.Summary.{MeetsAt, IsBetter}
use Rattle.cm_lend.proofs.SummaryLaw.{take_more, each_none, each_more, each_other}
use Rattle.cm_lend.proofs.meeting.meet_each.Goals.{then-loan-mention, else-loan-mention}
use Rattle.cm_lend.proofs.meeting.meet_each.Goals as goal

pub loop-loan-init : goal.loop-loan-init
loop-loan-init c = each_none c.args.mention c.args.before

pub loop-loan-preserved : goal.loop-loan-preserved
loop-loan-preserved c =
    let leaving = c.args.leaving.now in
    let m = c.args.mention in
    let i = c.loop-loan.loan-index in
    subst (λ xs. IsBetter (MeetsAt xs m) c.args.before c.if-loan-mention.best) (sym (take_more leaving i _ c.loop-loan-test.true))
    (elim c.if-loan-mention.branch [
      | then-loan-mention w ↦
          subst (IsBetter (MeetsAt _ m) c.args.before) (sym w.best-is)
          (each_more (take i leaving) _ m c.args.before c.loop-loan.best w.better-best.result c.loop-loan.invariant w.if-loan-mention.true w.better-best.ensures)
      | else-loan-mention w ↦
          subst (IsBetter (MeetsAt _ m) c.args.before) (sym w.best-is)
          (each_other (take i leaving) _ m c.args.before c.loop-loan.best c.loop-loan.invariant w.if-loan-mention.false)
    ])

pub returns : goal.returns
returns c =
    subst (λ xs. IsBetter (MeetsAt xs c.args.mention) c.args.before c.loop-loan.best) (take_all c.loop-loan.loan-index c.args.leaving.now c.loop-loan-test.false)
    c.loop-loan.invariant
