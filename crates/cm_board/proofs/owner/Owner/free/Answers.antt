use Rattle.std.proofs.Common.{◌≡◌, length, arith, sym, ap, ◌∙◌}
use Rattle.cm_board.specs.Slots.{first_false}
use Rattle.cm_board.proofs.MarkLaw.{first_is, none_is}
use Rattle.cm_board.proofs.owner.Owner.free.Goals as goal

pub returns-then-not-self-at : goal.returns-then-not-self-at
returns-then-not-self-at g c = let long : length c.args.self.now.marks ≡ 16 = c.args.self.now.whole in let less = c.loop-at-test.true in
    first_is c.args.self.now.marks c.loop-at.at c.loop-at.invariant (omega arith) c.if-not-self-at.true ∙ ap first_false c.args.self.now.marked

pub returns : goal.returns
returns g c = let long : length c.args.self.now.marks ≡ 16 = c.args.self.now.whole in let all = c.loop-at-test.false in
    sym long ∙ (none_is c.args.self.now.marks (λ k l. c.loop-at.invariant k (omega arith)) ∙ ap first_false c.args.self.now.marked)
