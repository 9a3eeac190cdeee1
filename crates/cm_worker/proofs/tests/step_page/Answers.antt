use Rattle.std.proofs.Common.{◌∙◌}
use Rattle.cm_worker.proofs.WholeLaw.{every_same, may_step}
use Rattle.cm_worker.proofs.tests.step_page.Goals as goal

pub step_over-requires-clause-may : goal.step_over-requires-clause-may
step_over-requires-clause-may c = may_step _ c.args.map.now c.args.grant.now.cells _ _ c.requires.page c.requires.pages c.requires.whole

pub returns-clause-whole : goal.returns-clause-whole
returns-clause-whole c = every_same 1 64 64 c.step_over.new.grant.cells c.args.grant.now.cells c.step_over.ensures.shares ∙ c.requires.whole
