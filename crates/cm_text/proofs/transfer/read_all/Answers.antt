use Rattle.std.proofs.lemmas.Result.{err_from_is_err_and}
use Rattle.std.proofs.KnownBytes.{Consumes-trans}
use Rattle.cm_text.proofs.transfer.read_all.Goals as goal

pub returns-in_err-append-clause-given : goal.returns-in_err-append-clause-given
returns-in_err-append-clause-given g c =
    let p = err_from_is_err_and c.from_residual-in_err-append.result c.from_residual-in_err-append.ensures.1 in
    rw (p.1, p.2) (_, Consumes-trans _ _ _ _ _ c.loop-room.invariant.gave c.in_ok-count.ensures.bytes.0, tt)
