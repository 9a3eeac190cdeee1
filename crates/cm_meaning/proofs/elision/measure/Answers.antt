use Rattle.std.proofs.Common.{subst}
use Rattle.cm_meaning.specs.End.{Trapped, Spent}
use Rattle.cm_meaning.specs.Ended.{end_of, limits_of}
use Rattle.cm_meaning.specs.Meaning.{SerialEnd}
use Rattle.cm_meaning.specs.Measure.{cilk_frames}
use Rattle.cm_meaning.specs.Progress.{HasMost}
use Rattle.cm_meaning.proofs.CheckedLaw.{checked_pages, checked_bound, some_page}
use Rattle.cm_meaning.proofs.ProgressLaw.{no_value}
use Rattle.cm_meaning.proofs.elision.measure.Goals as goal

pub returns-in-Done-clause-value : goal.returns-in-Done-clause-value
returns-in-Done-clause-value c = (_, _, _, subst (λ e. SerialEnd c.args.program.now c.args.input.now (limits_of c.args.limits.now) (end_of e)) c.in-Done.is c.in_ok-finished.ensures.end)

pub returns-in-Trap-clause-value : goal.returns-in-Trap-clause-value
returns-in-Trap-clause-value c = no_value c.args.program.now c.args.input.now (limits_of c.args.limits.now) (Trapped _ _ _)
    (subst (λ e. SerialEnd c.args.program.now c.args.input.now (limits_of c.args.limits.now) (end_of e)) c.in-Trap.is c.in_ok-finished.ensures.end) (λ q. q)

pub returns-clause-value : goal.returns-clause-value
returns-clause-value c = no_value c.args.program.now c.args.input.now (limits_of c.args.limits.now) Spent
    (subst (λ e. SerialEnd c.args.program.now c.args.input.now (limits_of c.args.limits.now) (end_of e)) c.in-Spent.is c.in_ok-finished.ensures.end) (λ q. q)

pub returns-in-Done-clause-piece_pages : goal.returns-in-Done-clause-piece_pages
returns-in-Done-clause-piece_pages c = λ p r.
    let limits = limits_of c.args.limits.now in
    let serial = subst (λ e. SerialEnd c.args.program.now c.args.input.now limits (end_of e)) c.in-Done.is c.in_ok-finished.ensures.end in
    let most = subst (λ e. HasMost c.args.program.now c.args.input.now limits e c.in_ok-finished.finished.most) c.in-Done.is c.in_ok-finished.ensures.most in
    checked_pages c.args.program.now c.args.input.now limits c.in_ok-finished.ensures.sound c.in_ok-finished.ensures.accepted _ _ _ serial p r c.pages.result
    (some_page c.args.limits.now.page c.requires.limits.page) (c.in_ok-finished.finished.most.bytes, most.0, c.pages.ensures)

pub returns-in-Done-clause-piece_depth : goal.returns-in-Done-clause-piece_depth
returns-in-Done-clause-piece_depth c = λ p r.
    let limits = limits_of c.args.limits.now in
    let serial = subst (λ e. SerialEnd c.args.program.now c.args.input.now limits (end_of e)) c.in-Done.is c.in_ok-finished.ensures.end in
    let most = subst (λ e. HasMost c.args.program.now c.args.input.now limits e c.in_ok-finished.finished.most) c.in-Done.is c.in_ok-finished.ensures.most in
    checked_bound c.args.program.now c.args.input.now limits c.in_ok-finished.ensures.sound c.in_ok-finished.ensures.accepted _ _ _ serial p r (cilk_frames c.args.program.now) _ most.1
