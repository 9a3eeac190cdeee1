use Rattle.std.proofs.Common.{take, sym, subst}
use Rattle.std.proofs.lemmas.List.{take_all}
use Rattle.cm_lend.specs.Summary.{AreMarked}
use Rattle.cm_lend.proofs.SummaryLaw.{take_more, marked_none, marked_more}
use Rattle.cm_lend.proofs.meeting.mark_all.Goals as goal

pub loop-loan-init : goal.loop-loan-init
loop-loan-init c = marked_none c.args.marks.now

pub loop-loan-preserved : goal.loop-loan-preserved
loop-loan-preserved c =
    let loans = c.args.loans.now in
    let i = c.loop-loan.loan-index in
    subst (λ xs. AreMarked xs c.mark.new.marks) (sym (take_more loans i _ c.loop-loan-test.true))
    (marked_more (take i loans) _ c.loop-loan.marks c.mark.new.marks c.loop-loan.invariant c.mark.ensures.kept c.mark.ensures.marked)

pub returns : goal.returns
returns c = subst (λ xs. AreMarked xs c.loop-loan.marks) (take_all c.loop-loan.loan-index c.args.loans.now c.loop-loan-test.false) c.loop-loan.invariant
