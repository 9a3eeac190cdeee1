use Rattle.std.proofs.Common.{◌≡◌, ℕ, zero, ◌+◌, ◌*◌, ◌/◌, ◌%◌, ◌<◌, arith, refl, sym}
use Rattle.std.proofs.Math.Nat.{add-mul-mod_self_right, add-mul-div_right, div-add-mod}
use Rattle.cm_replay.specs.Pair.{round_robin}
use Rattle.cm_replay.proofs.round_robin.RoundRobinSchedule.next.Goals as goal

-- the pairs of as many turns as the square of the number of workers come again
pairs_again : (workers turn again : ℕ) → zero < workers → round_robin workers (turn + again * workers * workers) ≡ round_robin workers turn
pairs_again workers turn again some =
    rw (add-mul-mod_self_right turn (again * workers) workers, add-mul-div_right turn (again * workers) some, add-mul-mod_self_right (turn / workers) again workers) refl

pub returns-clause-later : goal.returns-clause-later
returns-clause-later c = λ turn.
    let workers = c.args.self.now.workers in
    let next = c.args.self.now.turn + 1 in
    let all = workers * workers in
    let split : c.args.self.now.turn + (turn + 1) ≡ (next % all + turn) + next / all * workers * workers = omega (arith, div-add-mod next all) in
    rw split (sym (pairs_again workers (next % all + turn) (next / all) (omega (arith, c.args.self.now.count))))
