-- One seat leads, and beside one that is not open none may arrive.
use Rattle.std.proofs.Common.{ℕ, List, Option, sym, ap, ◌∙◌, arith}
use mathlib.Core.Option.{some-injective}
use Rattle.cm_board.specs.Rule.{holder_seat}
use Rattle.cm_board.specs.Law.{OneLeads, NoneArrives}
use Rattle.cm_board.proofs.CountLaw.{total_one, lead_holder, holder_seat_of}

module _ {H A B T : Type 0} (answers : A → B → Type 0) (belongs : H → ℕ → List (Option A) → T → Type 0) (lies_in : H → ℕ → T → Type 0) where
  pub one_leads : OneLeads answers belongs lies_in
  one_leads key s i j v w l m r at_i at_j leads_i leads_j =
      let d = lead_holder i v.role l leads_i in let e = lead_holder j w.role m leads_j in
      some-injective i j (sym (holder_seat_of i v.role d.0 d.1) ∙ (ap holder_seat (sym ((r.seats i v at_i).leads d.0 d.1) ∙ (r.seats j w at_j).leads e.0 e.1) ∙ holder_seat_of j w.role e.0 e.1))

  pub none_arrives : NoneArrives answers belongs lies_in
  none_arrives key s i j v w l r at_i at_j leads shut =
      let zero_ = ((r.seats i v at_i).tallies l leads).2 shut in let counted = r.count in let one = total_one s.views j w at_j in omega arith
