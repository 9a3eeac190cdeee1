use Rattle.std.proofs.Common.{rules, ◌≡◌, subst, sym, None}
use mathlib.Core.Option.{some}
use lib.ListN.{get_elem?}
use Rattle.cm_board.specs.Slots.{lead_at}
use Rattle.cm_board.proofs.CalledLaw.{adds_at, parts_at}
use Rattle.cm_board.proofs.ReadingLaw.{added_at, owner_parted, child_parted}
use Rattle.cm_board.proofs.board.Board.add.Goals as goal

pub fetch_add-requires : goal.fetch_add-requires
fetch_add-requires g c = let unused = subst (λ k. get_elem? (lead_at c.args.seat.now.me).asks k ≡ some None) (sym c.requires.names.0) c.requires.place in
    (c.requires.table, search rules, adds_at _ _ _ _ _ _ _ _ _ _ _ c.requires.names.1 c.requires.owner.1 unused c.requires.room c.requires.owner.0)

pub split_seat-requires : goal.split_seat-requires
split_seat-requires g c = let t = added_at _ _ _ _ _ _ _ c.requires.owner.0 c.requires.names.1 c.fetch_add.ensures.2 in
    (search rules, search rules, parts_at _ _ _ _ 0 _ _ _ _ _ t)

pub returns-clause-seat : goal.returns-clause-seat
returns-clause-seat g c = let t = added_at _ _ _ _ _ _ _ c.requires.owner.0 c.requires.names.1 c.fetch_add.ensures.2 in owner_parted _ _ _ _ _ _ _ t c.split_seat.ensures.2 c.requires.names.0

pub returns-clause-child : goal.returns-clause-child
returns-clause-child g c = let t = added_at _ _ _ _ _ _ _ c.requires.owner.0 c.requires.names.1 c.fetch_add.ensures.2 in child_parted _ _ _ _ _ _ _ t c.split_seat.ensures.4 c.requires.names.0
