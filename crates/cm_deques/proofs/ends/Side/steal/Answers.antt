use Rattle.cm_deques.proofs.Steps.{takes}
use Rattle.cm_deques.proofs.ends.Side.steal.Goals as goal

pub steal_as-requires-clause-takes : goal.steal_as-requires-clause-takes
steal_as-requires-clause-takes g c = takes g.T.Task.lies _ _ c.args.self.now.housed
