use Rattle.cm_meaning.specs.Ended.{limits_of}
use Rattle.cm_meaning.proofs.CheckedLaw.{program_end}
use Rattle.cm_meaning.proofs.ForkMeaning.{only_end}
use Rattle.cm_meaning.proofs.elision.elide.Goals as goal

pub returns-clause-fork : goal.returns-clause-fork
returns-clause-fork c = program_end c.args.program.now c.args.input.now (limits_of c.args.limits.now) c.in_ok-finished.ensures.sound c.in_ok-finished.ensures.accepted _ c.in_ok-finished.ensures.end

pub returns-clause-only : goal.returns-clause-only
returns-clause-only c = λ e f. only_end c.args.program.now c.args.input.now (limits_of c.args.limits.now) _ e c.in_ok-finished.ensures.end f
