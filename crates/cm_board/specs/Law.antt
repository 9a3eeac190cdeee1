-- What the rule says of every moment.
use Rattle.std.specs.Prelude.{◌≡◌, ℕ, ◌<◌, ◌↔◌, false, List, slice_index, Option, Some}
use mathlib.Core.Option.{some}
use lib.ListN.{get_elem?}
use Rattle.atomic_table.specs.Table.{State}
use Rattle.cm_board.specs.declared.view.Scope.{Scope}
use Rattle.cm_board.specs.declared.view.Lead.{Lead}
use Rattle.cm_board.specs.declared.view.View.{View}
use Rattle.cm_board.specs.declared.view.Role.{Role}
use Rattle.cm_board.specs.declared.view.Content.{Content}
use Rattle.cm_board.specs.declared.view.Content.TheVariants.{Answer}
use Rattle.cm_board.specs.Rule.{Place, filling, emptying, led, moving, handled, entry_of, claim_of, holder_of, lead_of, weight, surplus_claim, Ruled}
use Rattle.cm_board.specs.Slots.{place_word, task_word, surplus_word, full_mark, held_mark}

-- the slot of a place is with its child or with the owner
abbrev pub IsHandled : {A : Type 0} → Place A → Type 0
IsHandled (filling j a) = Unit {0}
IsHandled (emptying j a) = Unit {0}
IsHandled _ = ⊥

-- the seat j holds, in its role, the slot beside the word k: a place's, the task's, or a surplus slot
pub data Holds {A : Type 0} (j : ℕ) (r : Role A) (k : ℕ) : Type 0 where
  at_place : (i : ℕ) (p : Place A) → k ≡ place_word i → claim_of j r ≡ some (i, p) → IsHandled p → Holds j r k
  at_task : k ≡ task_word → holder_of j r ≡ some (moving j) → Holds j r k
  at_surplus : (i : ℕ) → k ≡ surplus_word i → surplus_claim j r ≡ some (i, handled j) → Holds j r k

-- the seat j is an owner, which holds no task's slot
abbrev pub IsLed : {A : Type 0} → ℕ → Role A → Type 0
IsLed j r = holder_of j r ≡ some (led j)

module _ {H A B T : Type 0} (answers : A → B → Type 0) (belongs : H → ℕ → List (Option A) → T → Type 0) (lies_in : H → ℕ → T → Type 0) where
  -- at most one seat leads
  abbrev pub OneLeads : Type 0
  OneLeads = (key : Scope H) (s : State (Option (Content B T)) (View H A)) (i j : ℕ) (v w : View H A) (l m : Lead A) → Ruled answers belongs lies_in key s
      → get_elem? s.views i ≡ some v → get_elem? s.views j ≡ some w → lead_of v.role ≡ some l → lead_of w.role ≡ some m → i ≡ j

  -- beside a leader that is not open, no seat may arrive any more
  abbrev pub NoneArrives : Type 0
  NoneArrives = (key : Scope H) (s : State (Option (Content B T)) (View H A)) (i j : ℕ) (v w : View H A) (l : Lead A) → Ruled answers belongs lies_in key s
      → get_elem? s.views i ≡ some v → get_elem? s.views j ≡ some w → lead_of v.role ≡ some l → l.is_open ≡ false → weight w.role ≡ 0

  -- no two seats hold one slot, and its word is 1 meanwhile
  abbrev pub OneHolder : Type 0
  OneHolder = (key : Scope H) (s : State (Option (Content B T)) (View H A)) (i j k : ℕ) (v w : View H A) → Ruled answers belongs lies_in key s
      → get_elem? s.views i ≡ some v → get_elem? s.views j ≡ some w → Holds i v.role k → Holds j w.role k → (i ≡ j) × (slice_index s.words k ≡ held_mark)

  -- a slot whose word is 1 is held by a seat
  abbrev pub IsHeld : Type 0
  IsHeld = (key : Scope H) (s : State (Option (Content B T)) (View H A)) (k : ℕ) → Ruled answers belongs lies_in key s
      → 0 < k → k < 34 → slice_index s.words k ≡ held_mark → (j : ℕ) × (v : View H A) × (get_elem? s.views j ≡ some v) × Holds j v.role k

  -- the task is there exactly while no seat is an owner and none holds the task's slot
  abbrev pub TaskWaits : Type 0
  TaskWaits = (key : Scope H) (s : State (Option (Content B T)) (View H A)) → Ruled answers belongs lies_in key s
      → (slice_index s.words task_word ≡ full_mark) ↔ ((j : ℕ) (v : View H A) → get_elem? s.views j ≡ some v → ¬ IsLed j v.role × ¬ Holds j v.role task_word)

  -- what a child or an owner has of a place is what the lead has of it: the place is in use, with the same ask
  abbrev pub AsksAgree : Type 0
  AsksAgree = (key : Scope H) (s : State (Option (Content B T)) (View H A)) (i j at : ℕ) (v w : View H A) (p : Place A) (l : Lead A) → Ruled answers belongs lies_in key s
      → get_elem? s.views i ≡ some v → get_elem? s.views j ≡ some w → claim_of i v.role ≡ some (at, p) → lead_of w.role ≡ some l → get_elem? l.asks at ≡ some (entry_of p)

  -- a place in use that no child and no owner has is filled, with an answer to its ask
  abbrev pub IsIn : Type 0
  IsIn = (key : Scope H) (s : State (Option (Content B T)) (View H A)) (j at : ℕ) (w : View H A) (l : Lead A) (a : A) → Ruled answers belongs lies_in key s
      → get_elem? s.views j ≡ some w → lead_of w.role ≡ some l → get_elem? l.asks at ≡ some (Some a)
      → ((i : ℕ) (v : View H A) (p : Place A) → get_elem? s.views i ≡ some v → ¬ (claim_of i v.role ≡ some (at, p)))
      → (slice_index s.words (place_word at) ≡ full_mark) × ((b : B) × (get_elem? s.homes at ≡ some (some (Some (Answer b)))) × answers a b)
