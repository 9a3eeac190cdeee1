use Rattle.std.proofs.Common.{take, sym, subst}
use Rattle.std.proofs.lemmas.List.{take_all}
use Rattle.cm_lend.specs.Summary.{Meets, IsBetter}
use Rattle.cm_lend.proofs.SummaryLaw.{take_more, all_none, all_more}
use Rattle.cm_lend.proofs.meeting.meet_all.Goals as goal

pub loop-mention-init : goal.loop-mention-init
loop-mention-init c = all_none c.args.leaving.now c.args.before

pub loop-mention-preserved : goal.loop-mention-preserved
loop-mention-preserved c =
    let leaving = c.args.leaving.now in
    let entering = c.args.entering.now in
    let i = c.loop-mention.mention-index in
    subst (λ xs. IsBetter (Meets leaving xs) c.args.before c.meet_one-best.result) (sym (take_more entering i _ c.loop-mention-test.true))
    (all_more leaving (take i entering) _ c.args.before c.loop-mention.best c.meet_one-best.result c.loop-mention.invariant c.meet_one-best.ensures)

pub returns : goal.returns
returns c =
    subst (λ xs. IsBetter (Meets c.args.leaving.now xs) c.args.before c.loop-mention.best)
    (take_all c.loop-mention.mention-index c.args.entering.now c.loop-mention-test.false) c.loop-mention.invariant
