-- What each step on a board's table tells the seat that takes it, by the role it had.
use Rattle.std.specs.Prelude.{◌≡◌, ◌≢◌, ℕ, ◌+◌, ◌≤◌, ◌==◌, true, false, List, [], ◌∷◌, Option, Some, None, IfSome, MatchBool}
use mathlib.Core.Option.{some}
use lib.ListN.{get_elem?}
use Rattle.atomic_table.specs.Table.{Me, rest}
use Rattle.cm_board.specs.declared.view.Scope.{Scope}
use Rattle.cm_board.specs.declared.view.Lead.{Lead}
use Rattle.cm_board.specs.declared.view.View.{View}
use Rattle.cm_board.specs.declared.view.Role.{Role}
use Rattle.cm_board.specs.declared.view.Role.TheVariants.{Spent, Child, Filling, Deposited, Owner, Adding, Backing, Emptying, Moving, Parked, Last, Posting, Left, Fetching}
use Rattle.cm_board.specs.declared.view.Content.{Content}
use Rattle.cm_board.specs.declared.view.Content.TheVariants.{Answer, Task}
use Rattle.cm_board.specs.Rule.{lead, with_entry}

-- an owner that no child is out of any more
abbrev pub closed : {A : Type 0} → Lead A → Lead A
closed l = lead false l.asks 0 ((0, 1) ∷ l.log)

-- an owner after a step that found n in the word i
abbrev pub noted : {A : Type 0} → Lead A → ℕ → ℕ → Lead A
noted l i n = lead l.is_open l.asks l.spawned ((i, n) ∷ l.log)

-- a seat in this role
abbrev pub in_role : {H A : Type 0} → Option (Scope H) → Role A → View H A
in_role scope role = record { scope = scope; role = role }

module _ {H A B T : Type 0} where
  -- a child begins its deposit
  abbrev pub begun : Option (Scope H) → List (ℕ × Option (Content B T)) → Role A → ℕ → Me (Option (Content B T)) (View H A) → Type 0
  begun scope held (Child at a) found after = (found ≡ 0) × (after ≡ (in_role scope (Filling at a), (at, None) ∷ held))
  begun scope held _ found after = Unit {0}

  -- a child ends its deposit
  abbrev pub filled : Option (Scope H) → List (ℕ × Option (Content B T)) → Role A → ℕ → Me (Option (Content B T)) (View H A) → Type 0
  filled scope held (Filling at a) found after = after ≡ (in_role scope Deposited, rest held)
  filled scope held _ found after = Unit {0}

  -- a child or a parked owner leaves the count, and is the last where it finds one
  abbrev pub arrived : Option (Scope H) → List (ℕ × Option (Content B T)) → Role A → ℕ → Me (Option (Content B T)) (View H A) → Type 0
  arrived scope held Deposited found after = (1 ≤ found) × MatchBool (found == 1) ((asks : List (Option A)) × (after ≡ (in_role scope (Last (closed (lead true asks 0 []))), held))) (after ≡ (in_role scope (Left ((0, found) ∷ [])), held))
  arrived scope held (Parked l) found after = (1 ≤ found) × MatchBool (found == 1) (after ≡ (in_role scope (Last (closed l)), held)) (after ≡ (in_role scope (Left ((0, found) ∷ l.log)), held))
  arrived scope held _ found after = Unit {0}

  -- an owner counts a child for the place `at`
  abbrev pub added : ℕ → Option A → Option (Scope H) → List (ℕ × Option (Content B T)) → Role A → ℕ → Me (Option (Content B T)) (View H A) → Type 0
  added at ask scope held (Owner l) found after = IfSome ask (λ a. after ≡ (in_role scope (Adding at a (lead l.is_open l.asks (l.spawned + 1) l.log)), held))
  added at ask scope held _ found after = Unit {0}

  -- an owner takes a child from the count that came back, and learns that the place was in use with the child's ask
  abbrev pub uncounted : Option (Scope H) → List (ℕ × Option (Content B T)) → Role A → ℕ → Me (Option (Content B T)) (View H A) → Type 0
  uncounted scope held (Backing at a l) found after = (get_elem? l.asks at ≡ some (Some a)) × (after ≡ (in_role scope (Owner (with_entry l at None)), held))
  uncounted scope held _ found after = Unit {0}

  -- an owner tries a place in use: it holds the slot where it found it filled, and one that is not open always does
  abbrev pub tried : (A → B → Type 0) → ℕ → Option (Scope H) → List (ℕ × Option (Content B T)) → Role A → ℕ → Me (Option (Content B T)) (View H A) → Type 0
  tried answers at scope held (Owner l) found after =
      (found ≡ 2 → (a : A) × (b : B) × (get_elem? l.asks at ≡ some (Some a)) × answers a b × (after ≡ (in_role scope (Emptying at a (noted l (at + 1) 2)), (at, Some (Answer b)) ∷ held)))
      × (found ≢ 2 → after ≡ (in_role scope (Owner (noted l (at + 1) found)), held)) × (l.is_open ≡ false → found ≡ 2)
  tried answers at scope held _ found after = Unit {0}

  -- an owner frees a place whose answer it took
  abbrev pub emptied : Option (Scope H) → List (ℕ × Option (Content B T)) → Role A → ℕ → Me (Option (Content B T)) (View H A) → Type 0
  emptied scope held (Emptying at a l) found after = after ≡ (in_role scope (Owner (with_entry l at None)), rest held)
  emptied scope held _ found after = Unit {0}

  -- an owner holds the task's slot
  abbrev pub lifted : Option (Scope H) → List (ℕ × Option (Content B T)) → Role A → ℕ → Me (Option (Content B T)) (View H A) → Type 0
  lifted scope held (Owner l) found after = (found ≡ 0) × (after ≡ (in_role scope (Moving l), (16, None) ∷ held))
  lifted scope held _ found after = Unit {0}

  -- an owner has put its task down
  abbrev pub parked_as : Option (Scope H) → List (ℕ × Option (Content B T)) → Role A → ℕ → Me (Option (Content B T)) (View H A) → Type 0
  parked_as scope held (Moving l) found after = after ≡ (in_role scope (Parked l), rest held)
  parked_as scope held _ found after = Unit {0}

  -- the last to arrive holds the task's slot, and the task in it belongs to it
  abbrev pub taken : (H → ℕ → List (Option A) → T → Type 0) → Option (Scope H) → List (ℕ × Option (Content B T)) → Role A → ℕ → Me (Option (Content B T)) (View H A) → Type 0
  taken belongs scope held (Last l) found after = (found ≡ 2) × ((t : T) × (after ≡ (in_role scope (Moving l), (16, Some (Task t)) ∷ held)) × IfSome scope (λ sc. belongs sc.home sc.pages l.asks t))
  taken belongs scope held _ found after = Unit {0}

  -- the last to arrive has taken the task, and is the owner
  abbrev pub laid : Option (Scope H) → List (ℕ × Option (Content B T)) → Role A → ℕ → Me (Option (Content B T)) (View H A) → Type 0
  laid scope held (Moving l) found after = after ≡ (in_role scope (Owner l), rest held)
  laid scope held _ found after = Unit {0}

  -- an owner tries a surplus slot, and holds it where it found it empty
  abbrev pub post_tried : ℕ → Option (Scope H) → List (ℕ × Option (Content B T)) → Role A → ℕ → Me (Option (Content B T)) (View H A) → Type 0
  post_tried at scope held (Owner l) found after = (found ≡ 0 → after ≡ (in_role scope (Posting at (noted l (at + 18) 0)), (at + 17, None) ∷ held)) × (found ≢ 0 → after ≡ (in_role scope (Owner (noted l (at + 18) found)), held))
  post_tried at scope held _ found after = Unit {0}

  -- an owner gives a surplus slot back, filled
  abbrev pub posted : Option (Scope H) → List (ℕ × Option (Content B T)) → Role A → ℕ → Me (Option (Content B T)) (View H A) → Type 0
  posted scope held (Posting at l) found after = after ≡ (in_role scope (Owner l), rest held)
  posted scope held _ found after = Unit {0}

  -- a leaver tries a surplus slot, and holds it where it found it filled
  abbrev pub fetch_tried : (H → ℕ → T → Type 0) → ℕ → Option (Scope H) → List (ℕ × Option (Content B T)) → Role A → ℕ → Me (Option (Content B T)) (View H A) → Type 0
  fetch_tried lies_in at scope held (Left log) found after =
      (found ≡ 2 → (t : T) × (after ≡ (in_role scope (Fetching at ((at + 18, 2) ∷ log)), (at + 17, Some (Task t)) ∷ held)) × IfSome scope (λ sc. lies_in sc.home sc.pages t)) × (found ≢ 2 → after ≡ (in_role scope (Left ((at + 18, found) ∷ log)), held))
  fetch_tried lies_in at scope held _ found after = Unit {0}

  -- a leaver gives a surplus slot back, empty, and is spent
  abbrev pub fetched : Option (Scope H) → List (ℕ × Option (Content B T)) → Role A → ℕ → Me (Option (Content B T)) (View H A) → Type 0
  fetched scope held (Fetching at log) found after = after ≡ (in_role None (Left log), rest held)
  fetched scope held _ found after = Unit {0}

-- what an owner that counted a child is once the child has a seat
abbrev pub owner_role : {A : Type 0} → Role A → Role A
owner_role (Adding at a l) = Owner (with_entry l at (Some a))
owner_role _ = Spent

-- the child of an owner that counted it
abbrev pub child_role : {A : Type 0} → Role A → Role A
child_role (Adding at a l) = Child at a
child_role _ = Spent

-- an owner that takes a child back
abbrev pub freed : {A : Type 0} → Lead A → Role A → Role A
freed l (Child at a) = Backing at a l
freed l _ = Spent

-- an owner and its child, made one
abbrev pub back_role : {A : Type 0} → Role A → Role A → Role A
back_role (Owner l) child = freed l child
back_role _ child = Spent

-- the seat of the owner after its child has left it
abbrev pub owner_part : {H A : Type 0} → View H A → View H A
owner_part v = in_role v.scope (owner_role v.role)

-- the seat of the child that has left its owner
abbrev pub child_part : {H A : Type 0} → View H A → View H A
child_part v = in_role v.scope (child_role v.role)

-- the seat of an owner that took a child back
abbrev pub back : {H A : Type 0} → View H A → View H A → View H A
back v w = in_role v.scope (back_role v.role w.role)
