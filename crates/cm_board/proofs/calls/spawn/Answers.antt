use Rattle.std.proofs.Common.{rules, ◌≡◌, ◌<◌, ◌+◌, ℕ, ap, ◌∙◌, sym, None, Some, subst, map, [], length, length-set}
use mathlib.Core.Option.{some}
use lib.ListN.{get_elem?}
use Rattle.cm_board.specs.declared.view.Role.TheVariants.{Owner}
use Rattle.cm_board.specs.Rule.{view}
use Rattle.cm_board.specs.Slots.{lead_at, is_used, spawned_into, first_free}
use Rattle.cm_board.proofs.MarkLaw.{marked, is_owner, first_unused}
use Rattle.cm_board.proofs.calls.spawn.Goals as goal

pub add-seat-requires-clause-place : goal.add-seat-requires-clause-place
add-seat-requires-clause-place g c =
    let long : length c.args.owner.now.marks ≡ 16 = c.args.owner.now.whole in
    let asks = (lead_at c.args.owner.now.seat.me).asks in
    subst (λ (k : ℕ). get_elem? asks k ≡ some None) (sym c.free-place.ensures)
    (first_unused asks (subst (λ (n : ℕ). first_free asks < n) (sym long ∙ ap length c.args.owner.now.marked) c.requires.room))

pub invariant_of-owner : goal.invariant_of-owner
invariant_of-owner g c =
    let b = c.deref.ensures ∙ c.in-Ok.ensures in
    let e = subst (λ x. c.add-seat.new.seat.me ≡ (view x.table.shared.key (Owner (spawned_into (lead_at c.args.owner.now.seat.me) c.free-place.result c.args.ask)), [])) b c.add-seat.ensures.seat in record {
      whole = length-set c.args.owner.now.marks c.free-place.result _ ∙ c.args.owner.now.whole;
      seated = search rules;
      leads = is_owner _ _ _ e;
      opened = ap (λ m. (lead_at m).is_open) e ∙ c.args.owner.now.opened;
      counted = ap (λ m. (lead_at m).spawned) e ∙ ap (λ (n : ℕ). n + 1) c.args.owner.now.counted;
      marked = marked _ _ _ (Some c.args.ask) c.args.owner.now.marked ∙ ap (λ m. map is_used (lead_at m).asks) (sym e);
    }
