use Rattle.cm_deques.proofs.Steps.{pushes}
use Rattle.cm_deques.proofs.ends.Deque.push.Goals as goal

pub push_as-requires-clause-pushes : goal.push_as-requires-clause-pushes
push_as-requires-clause-pushes g c = pushes g.T.Task.lies _ _ _ c.args.self.now.owns c.requires.lies
