use Rattle.std.proofs.Common.{rules, ◌≡◌, ◌+◌, ap, ◌∙◌, sym, None, subst, map, [], length-set}
use Rattle.cm_board.specs.declared.view.Role.TheVariants.{Owner}
use Rattle.cm_board.specs.Rule.{view, with_entry}
use Rattle.cm_board.specs.Play.{noted}
use Rattle.cm_board.specs.Slots.{lead_at, is_used}
use Rattle.cm_board.proofs.MarkLaw.{marked, is_owner}
use Rattle.cm_board.proofs.calls.collect.Goals as goal

pub invariant_of-owner-2 : goal.invariant_of-owner-2
invariant_of-owner-2 g c =
    let e = subst (λ x. c.collect.new.seat.me ≡ (view x.table.shared.key (Owner (with_entry (noted (lead_at c.args.owner.now.seat.me) (c.args.place + 1) 2) c.args.place None)), [])) c.deref.ensures c.in_ok-answer.ensures.told.0 in record {
      whole = length-set c.args.owner.now.marks c.args.place _ ∙ c.args.owner.now.whole;
      seated = search rules;
      leads = is_owner _ _ _ e;
      opened = ap (λ m. (lead_at m).is_open) e ∙ c.args.owner.now.opened;
      counted = ap (λ m. (lead_at m).spawned) e ∙ c.args.owner.now.counted;
      marked = marked _ _ _ None c.args.owner.now.marked ∙ ap (λ m. map is_used (lead_at m).asks) (sym e);
    }
