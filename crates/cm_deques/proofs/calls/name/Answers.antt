use Rattle.std.proofs.Common.{sym, subst, false, []}
use Rattle.crossbeam_deque.specs.Tasks.{Forks}
use Rattle.crossbeam_deque.specs.Handles.{worker_port, worker_view}
use Rattle.cm_deques.specs.Rule.{known, Kept}
use Rattle.cm_deques.proofs.Steps.{names}
use Rattle.cm_deques.proofs.calls.name.Goals as goal

pub another-requires : goal.another-requires
another-requires g c =
    let v = worker_view c.args.worker.now in
    subst (λ o. Forks (Kept g.T.Task.lies) (worker_port c.args.worker.now) v (known o v.is_owner v.pushed v.stolen) (known o false [] [])) (sym c.requires.picked)
    (names g.T.Task.lies _ _ c.args.home.now c.requires.owner c.requires.home)
