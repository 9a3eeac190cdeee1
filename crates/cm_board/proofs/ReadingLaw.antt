-- What a seat is after a step, from what it was.
use Rattle.std.proofs.Common.{◌≡◌, ℕ, ◌+◌, ◌-◌, Bool, true, false, MatchBool, List, [], ◌∷◌, sym, ap, ◌∙◌, subst, arith, Option, Some, None}
use Rattle.cm_board.specs.declared.view.Scope.{Scope}
use Rattle.cm_board.specs.declared.view.Lead.{Lead}
use Rattle.cm_board.specs.declared.view.View.{View}
use Rattle.cm_board.specs.declared.view.Role.TheVariants.{Child, Deposited, Owner, Adding, Backing, Emptying, Moving, Parked, Last, Posting, Left, Fetching}
use Rattle.cm_board.specs.declared.view.Content.{Content}
use Rattle.cm_board.specs.declared.view.Content.TheVariants.{Task}
use mathlib.Core.Option.{some}
use lib.ListN.{get_elem?}
use Rattle.cm_board.specs.Rule.{view, lead, with_entry}
use Rattle.cm_board.specs.Play.{in_role, closed, owner_part, child_part, back, uncounted, arrived, added, tried, emptied, lifted, parked_as, taken, laid, post_tried, posted, fetch_tried, fetched}
use Rattle.cm_board.specs.Slots.{IsOwner, IsLast, lead_at}
use Rattle.atomic_table.specs.Table.{Me, rest}

pub after_exchange : {S V : Type 0} (v : V) (k : ℕ) (x y : S) (m n : Me S V) → m ≡ (v, (k, x) ∷ []) → n ≡ (m.0, (k, y) ∷ rest m.1) → n ≡ (v, (k, y) ∷ [])
after_exchange {S = S} {V = V} v k x y m n e f = f ∙ ap (λ (z : Me S V). (z.0, (k, y) ∷ rest z.1)) e

head_or : {X : Type 0} → X → List X → X
head_or d [] = d
head_or d (x ∷ xs) = x

-- what was in the slot
pub slot_was : {S : Type 0} (k : ℕ) (x y : S) (l : List (ℕ × S)) → l ≡ (k, x) ∷ [] → l ≡ (k, y) ∷ rest l → y ≡ x
unfolding head_or
slot_was {S = S} k x y l e f = ap (λ (l : List (ℕ × S)). (head_or (k, x) l).1) (sym f ∙ e)

-- a surplus slot, by its word
pub same_slot : (k : ℕ) → k ≡ (k + 18) - 18
same_slot k = omega arith

-- a place, by its word
pub same_place : (at : ℕ) → at ≡ (at + 1) - 1
same_place at = omega arith

module _ {H A B T : Type 0} where
  pub tried_at : (answers : A → B → Type 0) (key : Scope H) (at r : ℕ) (m n : Me (Option (Content B T)) (View H A)) → IsOwner key m → tried answers ((at + 1) - 1) m.0.scope m.1 m.0.role r n → tried answers at (Some key) [] (Owner (lead_at m)) r n
  tried_at answers key at r m n e t = subst (λ (x : Me (Option (Content B T)) (View H A) × ℕ). tried answers x.1 x.0.0.scope x.0.1 x.0.0.role r n) (λ z. (e z, sym (same_place at) z)) t

  pub emptied_at : (key : Scope H) (at r : ℕ) (a : A) (l : Lead A) (m n : Me (Option (Content B T)) (View H A)) → m ≡ (view key (Emptying at a l), (at, None) ∷ []) → emptied m.0.scope m.1 m.0.role r n → n ≡ (view key (Owner (with_entry l at None)), [])
  emptied_at key at r a l m n e t = subst (λ (x : Me (Option (Content B T)) (View H A)). emptied x.0.scope x.1 x.0.role r n) e t

  pub lifted_at : (key : Scope H) (r : ℕ) (m n : Me (Option (Content B T)) (View H A)) → IsOwner key m → lifted m.0.scope m.1 m.0.role r n → n ≡ (view key (Moving (lead_at m)), (16, None) ∷ [])
  lifted_at key r m n e t = (subst (λ (x : Me (Option (Content B T)) (View H A)). lifted x.0.scope x.1 x.0.role r n) e t).1

  pub parked_at : (key : Scope H) (r : ℕ) (l : Lead A) (t : T) (m n : Me (Option (Content B T)) (View H A)) → m ≡ (view key (Moving l), (16, Some (Task t)) ∷ []) → parked_as m.0.scope m.1 m.0.role r n → n ≡ (view key (Parked l), [])
  parked_at key r l t m n e p = subst (λ (x : Me (Option (Content B T)) (View H A)). parked_as x.0.scope x.1 x.0.role r n) e p

  pub taken_at : (belongs : H → ℕ → List (Option A) → T → Type 0) (key : Scope H) (r : ℕ) (m n : Me (Option (Content B T)) (View H A)) → m ≡ (view key (Last (lead_at m)), []) → taken belongs m.0.scope m.1 m.0.role r n
      → (t : T) × (n ≡ (view key (Moving (lead_at m)), (16, Some (Task t)) ∷ [])) × belongs key.home key.pages (lead_at m).asks t
  taken_at belongs key r m n e t = let u = subst (λ (x : Me (Option (Content B T)) (View H A)). taken belongs x.0.scope x.1 x.0.role r n) e t in (u.1.0, u.1.1, u.1.2)

  pub laid_at : (key : Scope H) (r : ℕ) (l : Lead A) (m n : Me (Option (Content B T)) (View H A)) → m ≡ (view key (Moving l), (16, None) ∷ []) → laid m.0.scope m.1 m.0.role r n → n ≡ (view key (Owner l), [])
  laid_at key r l m n e t = subst (λ (x : Me (Option (Content B T)) (View H A)). laid x.0.scope x.1 x.0.role r n) e t

  pub added_at : (key : Scope H) (at r : ℕ) (ask : Option A) (a : A) (m n : Me (Option (Content B T)) (View H A)) → IsOwner key m → ask ≡ Some a → added at ask m.0.scope m.1 m.0.role r n
      → n ≡ (view key (Adding at a (lead (lead_at m).is_open (lead_at m).asks ((lead_at m).spawned + 1) (lead_at m).log)), [])
  added_at key at r ask a m n e is t = subst (λ (x : Me (Option (Content B T)) (View H A) × Option A). added at x.1 x.0.0.scope x.0.1 x.0.0.role r n) (λ z. (e z, is z)) t

  pub arrived_at : (key : Scope H) (r : ℕ) (m n : Me (Option (Content B T)) (View H A)) → m ≡ (view key Deposited, []) → arrived m.0.scope m.1 m.0.role r n → arrived (Some key) [] Deposited r n
  arrived_at key r m n e t = subst (λ (x : Me (Option (Content B T)) (View H A)). arrived x.0.scope x.1 x.0.role r n) e t

  pub arrived_parked_at : (key : Scope H) (r : ℕ) (l : Lead A) (m n : Me (Option (Content B T)) (View H A)) → m ≡ (view key (Parked l), []) → arrived m.0.scope m.1 m.0.role r n → arrived (Some key) [] (Parked l) r n
  arrived_parked_at key r l m n e t = subst (λ (x : Me (Option (Content B T)) (View H A)). arrived x.0.scope x.1 x.0.role r n) e t

pub slot_there : {S V : Type 0} (v : V) (k : ℕ) (x : S) (m : Me S V) → m ≡ (v, (k, x) ∷ []) → m.1 ≡ (k, x) ∷ rest m.1
slot_there {S = S} {V = V} v k x m e = ap (λ (z : Me S V). z.1) e ∙ ap (λ (z : Me S V). (k, x) ∷ rest z.1) (sym e)

-- what an exchange found
pub found_there : {S V : Type 0} (v : V) (k : ℕ) (x y : S) (m : Me S V) → m ≡ (v, (k, x) ∷ []) → m.1 ≡ (k, y) ∷ rest m.1 → y ≡ x
found_there {S = S} {V = V} v k x y m e f = slot_was k x y m.1 (ap (λ (z : Me S V). z.1) e) f

module _ {H A B T : Type 0} where
  pub backed_at : (key : Scope H) (k : ℕ) (a : A) (m w n : Me (Option (Content B T)) (View H A)) → IsOwner key m → w ≡ (view key (Child k a), []) → n ≡ (back m.0 w.0, m.1)
      → n ≡ (view key (Backing k a (lead_at m)), [])
  backed_at key k a m w n e f h = h ∙ (λ z. (back (e z).0 (f z).0, (e z).1))

  pub uncounted_at : (key : Scope H) (r at : ℕ) (a : A) (l : Lead A) (m n : Me (Option (Content B T)) (View H A)) → m ≡ (view key (Backing at a l), []) → uncounted m.0.scope m.1 m.0.role r n
      → (get_elem? l.asks at ≡ some (Some a)) × (n ≡ (view key (Owner (with_entry l at None)), []))
  uncounted_at key r at a l m n e t = subst (λ (x : Me (Option (Content B T)) (View H A)). uncounted x.0.scope x.1 x.0.role r n) e t

  pub owner_parted : (key : Scope H) (k k' : ℕ) (a : A) (l : Lead A) (m n : Me (Option (Content B T)) (View H A)) → m ≡ (view key (Adding k a l), []) → n ≡ (owner_part m.0, m.1) → k ≡ k' → n ≡ (view key (Owner (with_entry l k' (Some a))), [])
  owner_parted key k k' a l m n e h is = h ∙ ((λ z. (owner_part (e z).0, (e z).1)) ∙ (λ z. (view key (Owner (with_entry l (is z) (Some a))), [])))

  pub child_parted : (key : Scope H) (k k' : ℕ) (a : A) (l : Lead A) (m n : Me (Option (Content B T)) (View H A)) → m ≡ (view key (Adding k a l), []) → n ≡ (child_part m.0, []) → k ≡ k' → n ≡ (view key (Child k' a), [])
  child_parted key k k' a l m n e h is = h ∙ ((λ z. (child_part (e z).0, [])) ∙ (λ z. (view key (Child (is z) a), [])))

  pub post_tried_at : (key : Scope H) (k r : ℕ) (m n : Me (Option (Content B T)) (View H A)) → IsOwner key m → post_tried ((k + 18) - 18) m.0.scope m.1 m.0.role r n → post_tried k (Some key) [] (Owner (lead_at m)) r n
  post_tried_at key k r m n e t = subst (λ (x : Me (Option (Content B T)) (View H A) × ℕ). post_tried x.1 x.0.0.scope x.0.1 x.0.0.role r n) (λ z. (e z, sym (same_slot k) z)) t

  pub posted_at : (key : Scope H) (k r : ℕ) (t : T) (l : Lead A) (m n : Me (Option (Content B T)) (View H A)) → m ≡ (view key (Posting k l), (k + 17, Some (Task t)) ∷ []) → posted m.0.scope m.1 m.0.role r n → n ≡ (view key (Owner l), [])
  posted_at key k r t l m n e p = subst (λ (x : Me (Option (Content B T)) (View H A)). posted x.0.scope x.1 x.0.role r n) e p

  pub fetch_tried_at : (lies_in : H → ℕ → T → Type 0) (key : Scope H) (k r : ℕ) (log : List (ℕ × ℕ)) (m n : Me (Option (Content B T)) (View H A)) → m ≡ (view key (Left log), []) → fetch_tried lies_in ((k + 18) - 18) m.0.scope m.1 m.0.role r n → fetch_tried {A = A} lies_in k (Some key) [] (Left log) r n
  fetch_tried_at lies_in key k r log m n e t = subst (λ (x : Me (Option (Content B T)) (View H A) × ℕ). fetch_tried lies_in x.1 x.0.0.scope x.0.1 x.0.0.role r n) (λ z. (e z, sym (same_slot k) z)) t

  pub fetched_at : (key : Scope H) (k r : ℕ) (log : List (ℕ × ℕ)) (m n : Me (Option (Content B T)) (View H A)) → m ≡ (view key (Fetching k log), (k + 17, None) ∷ []) → fetched m.0.scope m.1 m.0.role r n → n ≡ (in_role None (Left log), [])
  fetched_at key k r log m n e t = subst (λ (x : Me (Option (Content B T)) (View H A)). fetched x.0.scope x.1 x.0.role r n) e t

-- a child that arrived is the last, or has left
pub last_or_left : {S H A : Type 0} (key : Scope H) (r : ℕ) (b : Bool) (n : Me S (View H A)) → MatchBool b ((asks : List (Option A)) × (n ≡ (in_role (Some key) (Last (closed (lead true asks 0 []))), []))) (n ≡ (in_role (Some key) (Left ((0, r) ∷ [])), []))
    → MatchBool b (IsLast key n × ((lead_at n).log ≡ (0, 1) ∷ [])) (n ≡ (view key (Left ((0, r) ∷ [])), []))
last_or_left key r true n t = ((t.1 ∙ (λ z. (view key (Last (lead_at (sym t.1 z))), [])), ap (λ m. (lead_at m).is_open) t.1, ap (λ m. (lead_at m).spawned) t.1), ap (λ m. (lead_at m).log) t.1)
last_or_left key r false n t = t
