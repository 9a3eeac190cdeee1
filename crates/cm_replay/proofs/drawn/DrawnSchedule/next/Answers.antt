use Rattle.std.proofs.Common.{◌≡◌, ℕ, suc, ◌+◌, ◌*◌, arith, refl}
use Rattle.cm_big.specs.Draw.{next_value}
use Rattle.cm_replay.specs.Pair.{drawn}
use Rattle.cm_replay.proofs.drawn.DrawnSchedule.next.Goals as goal

-- two draws later it is one turn later
drawn_later : (value workers turn : ℕ) → drawn (next_value (next_value value)) workers turn ≡ drawn value workers (turn + 1)
drawn_later value workers turn =
    let victim : 2 * (turn + 1) + 1 ≡ suc (suc (2 * turn + 1)) = omega arith in
    let worker : 2 * (turn + 1) ≡ suc (suc (2 * turn)) = omega arith in
    rw (victim, worker) refl

pub returns-clause-later : goal.returns-clause-later
returns-clause-later c = λ turn. rw (c.draw-2.ensures.value, c.draw.ensures.value) (drawn_later _ _ turn)
