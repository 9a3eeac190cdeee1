use Rattle.std.proofs.Common.{◌≡◌, ℕ, ◌<◌, subst, get_or, true, false, List, Bool, length, sym}
use Rattle.cm_board.specs.Slots.{lead_at}
use Rattle.cm_board.proofs.MarkLaw.{used_at, unused_at}
use Rattle.cm_board.proofs.owner.Owner.used.Goals as goal

pub returns-clause-used : goal.returns-clause-used
returns-clause-used g c e = used_at (lead_at c.args.self.now.seat.me).asks c.args.place (subst (λ (bs : List Bool). get_or bs c.args.place false ≡ true) c.args.self.now.marked e)

pub returns-clause-unused : goal.returns-clause-unused
returns-clause-unused g c e = let long = c.args.self.now.whole in unused_at (lead_at c.args.self.now.seat.me).asks c.args.place
    (subst (λ (bs : List Bool). c.args.place < length bs) c.args.self.now.marked (subst (λ (n : ℕ). c.args.place < n) (sym long) c.requires))
    (subst (λ (bs : List Bool). get_or bs c.args.place false ≡ false) c.args.self.now.marked e)
