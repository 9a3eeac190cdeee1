use Rattle.std.proofs.Common.{◌≡◌}
use Rattle.cm_deques.specs.Seen.{home_of}
use Rattle.cm_deques.proofs.tests.push_all.Given as goal

abbrev pub invariant-loop-value : goal.invariant-loop-value
invariant-loop-value l = home_of l.deque ≡ home_of l.fn.deque
