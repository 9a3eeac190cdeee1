-- What lies in the slots, and who holds them.
use Rattle.std.proofs.Common.{◌≡◌, ℕ, ◌+◌, ◌-◌, ◌<◌, ◌≤◌, ⊎_elim, List, map, sym, refl, ap, ◌∙◌, subst, arith, get_or, Option, Some}
use Rattle.std.proofs.lemmas.Bool.{cases_lt}
use mathlib.Core.Logic.{dite}
use native.Mathlib.Decide.{ℕ_discrete}
use mathlib.Core.Option as opt
use mathlib.Core.Option.{some, none, some-injective}
use lib.ListN.{get_elem?}
use Rattle.atomic_table.specs.Table.{State}
use Rattle.atomic_table.proofs.Lists.{at_map}
use Rattle.cm_board.specs.declared.view.Scope.{Scope}
use Rattle.cm_board.specs.declared.view.View.{View}
use Rattle.cm_board.specs.declared.view.Content.{Content}
use Rattle.cm_board.specs.Rule.{Place, free, out, filling, full, emptying, Holder, led, moving, parked, waiting, last, Surplus, bare, handled, stored, surplus_seat, entry_of, seat_of, holder_seat, Lies, TaskLies, SurplusLies, Ruled}
use Rattle.cm_board.specs.Law.{IsHandled, Holds, at_place, at_task, at_surplus, IsLed, OneHolder, IsHeld, TaskWaits, AsksAgree, IsIn}
use Rattle.cm_board.proofs.CountLaw.{there, some_at, claim_seat}
use Rattle.cm_board.proofs.PartLaw.{map_at}
use Rattle.cm_board.proofs.LeadLaw.{is_full}

module _ {H A B T : Type 0} (answers : A → B → Type 0) (belongs : H → ℕ → List (Option A) → T → Type 0) (lies_in : H → ℕ → T → Type 0) where
  abbrev Ru : Scope H → State (Option (Content B T)) (View H A) → Type 0
  Ru = Ruled answers belongs lies_in

  handled_is_one : (p : Place A) (n : ℕ) (h : opt.Option (opt.Option (Option (Content B T)))) → IsHandled p → Lies answers p n h → n ≡ 1
  handled_is_one free n h in_hand lies = absurd in_hand
  handled_is_one (out j a) n h in_hand lies = absurd in_hand
  handled_is_one (filling j a) n h in_hand lies = lies.0
  handled_is_one (full a) n h in_hand lies = absurd in_hand
  handled_is_one (emptying j a) n h in_hand lies = lies.0

  word_is_one : (key : Scope H) (s : State (Option (Content B T)) (View H A)) (r : Ru key s) (j k : ℕ) (v : View H A) → get_elem? s.views j ≡ some v → Holds j v.role k → get_or s.words k 0 ≡ 1
  word_is_one key s r j k v at (at_place i p e c in_hand) = ap (λ (n : ℕ). get_or s.words n 0) e ∙ handled_is_one p _ _ in_hand (r.slots i p ((r.seats j v at).claims i p c))
  word_is_one key s r j k v at (at_task e c) = ap (λ (n : ℕ). get_or s.words n 0) e
      ∙ (subst (λ (d : Holder). TaskLies (belongs key.home key.pages (map entry_of r.places)) d (get_or s.words 17 0) (get_elem? s.homes 16)) ((r.seats j v at).leads (moving j) c) r.task).0
  word_is_one key s r j k v at (at_surplus i e c) = ap (λ (n : ℕ). get_or s.words n 0) e ∙ (r.surplus_slots i (handled j) (r.handles j v at i (handled j) c)).0

  same_seat : (key : Scope H) (s : State (Option (Content B T)) (View H A)) (r : Ru key s) (i j k : ℕ) (v w : View H A) → get_elem? s.views i ≡ some v → get_elem? s.views j ≡ some w → Holds i v.role k → Holds j w.role k → i ≡ j
  same_seat key s r i j k v w at_i at_j (at_place x p e c a) (at_place y q f d b) =
      let same : x ≡ y = omega (arith, e, f) in let here = (r.seats i v at_i).claims x p c in let here' = (r.seats j w at_j).claims y q d in
      some-injective i j (sym (claim_seat i v.role x p c) ∙ (ap seat_of (some-injective p q (sym here ∙ (ap (get_elem? r.places) same ∙ here'))) ∙ claim_seat j w.role y q d))
  same_seat key s r i j k v w at_i at_j (at_task e c) (at_task f d) = some-injective i j (ap holder_seat (sym ((r.seats i v at_i).leads (moving i) c) ∙ (r.seats j w at_j).leads (moving j) d))
  same_seat key s r i j k v w at_i at_j (at_surplus x e c) (at_surplus y f d) =
      let same : x ≡ y = omega (arith, e, f) in let here = r.handles i v at_i x (handled i) c in let here' = r.handles j w at_j y (handled j) d in
      some-injective i j (ap surplus_seat (some-injective (handled i) (handled j) (sym here ∙ (ap (get_elem? r.surpluses) same ∙ here'))))
  same_seat key s r i j k v w at_i at_j (at_place x p e c a) (at_task f d) = let small = there r.places x p ((r.seats i v at_i).claims x p c) in let many = r.sixteen in absurd (omega (arith, e, f, small, many))
  same_seat key s r i j k v w at_i at_j (at_place x p e c a) (at_surplus y f d) = let small = there r.places x p ((r.seats i v at_i).claims x p c) in let many = r.sixteen in absurd (omega (arith, e, f, small, many))
  same_seat key s r i j k v w at_i at_j (at_task e c) (at_place y q f d b) = let small = there r.places y q ((r.seats j w at_j).claims y q d) in let many = r.sixteen in absurd (omega (arith, e, f, small, many))
  same_seat key s r i j k v w at_i at_j (at_surplus x e c) (at_place y q f d b) = let small = there r.places y q ((r.seats j w at_j).claims y q d) in let many = r.sixteen in absurd (omega (arith, e, f, small, many))
  same_seat key s r i j k v w at_i at_j (at_task e c) (at_surplus y f d) = absurd (omega (arith, e, f))
  same_seat key s r i j k v w at_i at_j (at_surplus x e c) (at_task f d) = absurd (omega (arith, e, f))

  pub one_holder : OneHolder answers belongs lies_in
  one_holder key s i j k v w r at_i at_j h g = (same_seat key s r i j k v w at_i at_j h g, word_is_one key s r i k v at_i h)

  abbrev IsWith : State (Option (Content B T)) (View H A) → ℕ → Type 0
  IsWith s k = (j : ℕ) × (v : View H A) × (get_elem? s.views j ≡ some v) × Holds j v.role k

  place_held : (key : Scope H) (s : State (Option (Content B T)) (View H A)) (r : Ru key s) (i k n : ℕ) (h : opt.Option (opt.Option (Option (Content B T)))) (p : Place A) → k ≡ i + 1 → get_elem? r.places i ≡ some p → Lies answers p n h → n ≡ 1 → IsWith s k
  place_held key s r i k n h free is at lies one = let zero_ = lies.0 in absurd (omega (arith, zero_, one))
  place_held key s r i k n h (out j a) is at lies one = let zero_ = lies.0 in absurd (omega (arith, zero_, one))
  place_held key s r i k n h (filling j a) is at lies one = let u = r.held i (filling j a) j at refl in (j, u.0, u.1, at_place i (filling j a) is u.2 tt)
  place_held key s r i k n h (full a) is at lies one = let two = lies.0 in absurd (omega (arith, two, one))
  place_held key s r i k n h (emptying j a) is at lies one = let u = r.held i (emptying j a) j at refl in (j, u.0, u.1, at_place i (emptying j a) is u.2 tt)

  surplus_slot_held : (key : Scope H) (s : State (Option (Content B T)) (View H A)) (r : Ru key s) (i k n : ℕ) (h : opt.Option (opt.Option (Option (Content B T)))) (q : Surplus) → k ≡ i + 18 → get_elem? r.surpluses i ≡ some q → SurplusLies (lies_in key.home key.pages) q n h → n ≡ 1 → IsWith s k
  surplus_slot_held key s r i k n h bare is at lies one = let zero_ = lies.0 in absurd (omega (arith, zero_, one))
  surplus_slot_held key s r i k n h (handled j) is at lies one = let u = r.surplus_held i (handled j) j at refl in (j, u.0, u.1, at_surplus i is u.2)
  surplus_slot_held key s r i k n h stored is at lies one = let two = lies.0 in absurd (omega (arith, two, one))

  task_held : (key : Scope H) (s : State (Option (Content B T)) (View H A)) (r : Ru key s) (F : T → Type 0) (k n : ℕ) (h : opt.Option (opt.Option (Option (Content B T)))) (d : Holder) → k ≡ 17 → r.holder ≡ d → TaskLies F d n h → n ≡ 1 → IsWith s k
  task_held key s r F k n h (led j) is at lies one = let zero_ = lies.0 in absurd (omega (arith, zero_, one))
  task_held key s r F k n h (moving j) is at lies one = let u = r.lent j (ap holder_seat at) in (j, u.0, u.1, at_task is (u.2 ∙ ap some at))
  task_held key s r F k n h (parked j) is at lies one = let two = lies.0 in absurd (omega (arith, two, one))
  task_held key s r F k n h waiting is at lies one = let two = lies.0 in absurd (omega (arith, two, one))
  task_held key s r F k n h (last j) is at lies one = let two = lies.0 in absurd (omega (arith, two, one))

  pub is_held : IsHeld answers belongs lies_in
  is_held key s k r some_ below one = dite (ℕ_discrete k 17)
      (λ is. task_held key s r (belongs key.home key.pages (map entry_of r.places)) k _ _ r.holder is refl r.task (ap (λ (n : ℕ). get_or s.words n 0) (sym is) ∙ one))
      (λ other. ⊎_elim
      (λ (less : k < 17). let i : ℕ = k - 1 in let is : k ≡ i + 1 = omega (arith, some_) in let many = r.sixteen in let p = some_at r.places i (omega (arith, less, some_, many)) in
      place_held key s r i k _ _ p.0 is p.1 (r.slots i p.0 p.1) (ap (λ (n : ℕ). get_or s.words n 0) (sym is) ∙ one))
      (λ (more : 17 ≤ k). let i : ℕ = k - 18 in let is : k ≡ i + 18 = omega (arith, more, other) in let many = r.surplus_count in let q = some_at r.surpluses i (omega (arith, below, more, many)) in
      surplus_slot_held key s r i k _ _ q.0 is q.1 (r.surplus_slots i q.0 q.1) (ap (λ (n : ℕ). get_or s.words n 0) (sym is) ∙ one))
      (cases_lt k 17))

  pub asks_agree : AsksAgree answers belongs lies_in
  asks_agree key s i j at v w p l r at_i at_j claim leads =
      ap (λ (es : List (Option A)). get_elem? es at) ((r.seats j w at_j).tallies l leads).0 ∙ at_map entry_of r.places at p ((r.seats i v at_i).claims at p claim)

  pub is_in : IsIn answers belongs lies_in
  is_in key s j at w l a r at_j leads used alone =
      let t = map_at entry_of r.places at (Some a) (sym (ap (λ (es : List (Option A)). get_elem? es at) ((r.seats j w at_j).tallies l leads).0) ∙ used) in
      let is : t.0 ≡ full a = is_full answers belongs lies_in key t.0 a t.2 (λ i own. let u = r.held at t.0 i t.1 own in alone i u.0 t.0 u.1 u.2) in
      subst (λ (p : Place A). Lies answers p (get_or s.words (at + 1) 0) (get_elem? s.homes at)) is (r.slots at t.0 t.1)

  task_there : (key : Scope H) (s : State (Option (Content B T)) (View H A)) (r : Ru key s) (F : T → Type 0) (n : ℕ) (h : opt.Option (opt.Option (Option (Content B T)))) (d : Holder) → r.holder ≡ d → TaskLies F d n h
      → ((j : ℕ) (v : View H A) → get_elem? s.views j ≡ some v → ¬ IsLed j v.role × ¬ Holds j v.role 17) → n ≡ 2
  task_there key s r F n h (led j) at lies nobody = let u = r.lent j (ap holder_seat at) in absurd ((nobody j u.0 u.1).0 (u.2 ∙ ap some at))
  task_there key s r F n h (moving j) at lies nobody = let u = r.lent j (ap holder_seat at) in absurd ((nobody j u.0 u.1).1 (at_task refl (u.2 ∙ ap some at)))
  task_there key s r F n h (parked j) at lies nobody = lies.0
  task_there key s r F n h waiting at lies nobody = lies.0
  task_there key s r F n h (last j) at lies nobody = lies.0

  pub task_waits : TaskWaits answers belongs lies_in
  task_waits key s r = (
    λ two j v at. (
      (λ leads. let zero_ = (subst (λ (d : Holder). TaskLies (belongs key.home key.pages (map entry_of r.places)) d (get_or s.words 17 0) (get_elem? s.homes 16)) ((r.seats j v at).leads (led j) leads) r.task).0 in omega (arith, two, zero_)),
      (λ holds. let one = word_is_one key s r j 17 v at holds in omega (arith, two, one)),
    ),
    λ nobody. task_there key s r (belongs key.home key.pages (map entry_of r.places)) _ _ r.holder refl r.task nobody,
  )
