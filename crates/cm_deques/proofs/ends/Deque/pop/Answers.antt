use Rattle.cm_deques.proofs.Steps.{pops}
use Rattle.cm_deques.proofs.ends.Deque.pop.Goals as goal

pub pop_as-requires-clause-lifo : goal.pop_as-requires-clause-lifo
pop_as-requires-clause-lifo g c _ = pops g.T.Task.lies _ _ c.args.self.now.owns
