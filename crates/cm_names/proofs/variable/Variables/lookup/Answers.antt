use Rattle.cm_names.proofs.VariableLaw.{shown}
use Rattle.cm_names.proofs.variable.Variables.lookup.Goals as goal

pub returns-clause-shown : goal.returns-clause-shown
returns-clause-shown c visible h = shown _ visible _ _ h c.nearest.ensures
