use Rattle.std.proofs.Common.{rules, subst}
use Rattle.cm_board.specs.Play.{begun}
use Rattle.cm_board.proofs.CalledLaw.{begins_at, fills_at}
use Rattle.cm_board.proofs.ReadingLaw.{after_exchange}
use Rattle.cm_board.proofs.board.Board.deposit.Goals as goal

pub compare_exchange-requires : goal.compare_exchange-requires
compare_exchange-requires g c = (c.requires.table, search rules, begins_at _ _ _ _ _ _ _ _ _ c.requires.child.0)

pub swap-requires : goal.swap-requires
swap-requires g c =
    let t = subst (λ x. begun x.0.scope x.1 x.0.role c.compare_exchange.result c.compare_exchange.new.seat.me) c.requires.child.0 c.compare_exchange.ensures.2 in
    (search rules, search rules, fills_at _ _ _ _ _ _ _ _ _ _ c.requires.answer (after_exchange _ _ _ _ _ _ t.1 c.exchange.ensures.3))
