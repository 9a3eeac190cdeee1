use Rattle.std.proofs.Common.{rules}
use Rattle.cm_worker.proofs.WordsLaw.{by_grant}
use Rattle.cm_worker.proofs.stepping.step_over.Goals as goal

pub returns-clause-machine : goal.returns-clause-machine
returns-clause-machine c = by_grant c.args.low c.args.map.now c.args.grant.now.cells _ c.step.new.words.low c.step.new.words.map.now c.step.new.words.grant.now.cells _ c.args.hart.now _ _ c.step.ensures.machine (search rules)
