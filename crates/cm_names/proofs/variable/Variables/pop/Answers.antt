use Rattle.cm_names.proofs.VariableLaw.{writes, popped, without_last}
use Rattle.cm_names.proofs.variable.Variables.pop.Goals as goal

pub returns-clause-rest : goal.returns-clause-rest
returns-clause-rest c x =
    popped c.args.self.now _ c.args.name.now x _ c.pop.new.self c.in_ok-get_mut.ensures.value (without_last _ _ _ c.pop.ensures)
    (writes c.args.self.now _ c.args.name.now _ _ c.in_ok-get_mut.ensures.value (c.get_mut.follows.holds c.pop.new.self))
