-- The rule of a board.
-- Word 0 is the count. Word i + 1 and slot i are those of the place i, and word 17 and slot 16 those of the task.
-- A word is 0 where its slot is empty, 1 while one seat holds the slot, and 2 where it is filled.
use Rattle.std.specs.Prelude.{◌≡◌, ℕ, ◌+◌, ◌≤◌, Bool, true, false, List, [], ◌∷◌, map, length, replicate, slice_index, slice_set, Option, Some, None}
use mathlib.Core.Option as opt
use mathlib.Core.Option.{some, none}
use lib.ListN.{get_elem?}
use Rattle.atomic_table.specs.Table.{State}
use Rattle.cm_board.specs.declared.view.Scope.{Scope}
use Rattle.cm_board.specs.declared.view.Lead.{Lead}
use Rattle.cm_board.specs.declared.view.View.{View}
use Rattle.cm_board.specs.declared.view.Role.{Role}
use Rattle.cm_board.specs.declared.view.Role.TheVariants.{Spent, Child, Filling, Deposited, Owner, Adding, Backing, Emptying, Moving, Parked, Last, Posting, Left, Fetching}
use Rattle.cm_board.specs.declared.view.Content.{Content}
use Rattle.cm_board.specs.declared.view.Content.TheVariants.{Answer, Task}

-- What a place is, as the rule knows it: not in use, its child has not begun, its child holds the slot, filled, its owner holds the slot.
pub data Place (A : Type 0) : Type 0 where
  free : Place A
  out : ℕ → A → Place A
  filling : ℕ → A → Place A
  full : A → Place A
  emptying : ℕ → A → Place A

-- Where the lead is: with a seat, with a seat that holds the task's slot, with one that has put the task down, with the task alone, with the last to arrive.
pub data Holder : Type 0 where
  led : ℕ → Holder
  moving : ℕ → Holder
  parked : ℕ → Holder
  waiting : Holder
  last : ℕ → Holder

-- What a surplus slot is: empty, held by a seat, filled.
pub data Surplus : Type 0 where
  bare : Surplus
  handled : ℕ → Surplus
  stored : Surplus

-- the seat that a surplus slot belongs to at the moment
abbrev pub surplus_seat : Surplus → opt.Option ℕ
surplus_seat bare = none
surplus_seat (handled j) = some j
surplus_seat stored = none

-- the surplus slot that the seat j holds in its role
abbrev pub surplus_claim : {A : Type 0} → ℕ → Role A → opt.Option (ℕ × Surplus)
surplus_claim j (Posting at l) = some (at, handled j)
surplus_claim j (Fetching at log) = some (at, handled j)
surplus_claim j _ = none

-- what is in a surplus slot, by its word
abbrev pub SurplusLies : {B T : Type 0} → (T → Type 0) → Surplus → ℕ → opt.Option (opt.Option (Option (Content B T))) → Type 0
SurplusLies lies_in bare n h = (n ≡ 0) × (h ≡ some (some None))
SurplusLies lies_in (handled j) n h = (n ≡ 1) × (h ≡ some none)
SurplusLies lies_in stored n h = (n ≡ 2) × ((t : _) × (h ≡ some (some (Some (Task t)))) × lies_in t)

-- what an owner knows: whether it is open, the asks, how often it spawned, and its log
abbrev pub lead : {A : Type 0} → Bool → List (Option A) → ℕ → List (ℕ × ℕ) → Lead A
lead is_open asks spawned log = record { is_open = is_open; asks = asks; spawned = spawned; log = log }

-- an owner whose place k has this entry
abbrev pub with_entry : {A : Type 0} → Lead A → ℕ → Option A → Lead A
with_entry l k e = lead l.is_open (slice_set l.asks k e) l.spawned l.log

-- the seat that has the lead
abbrev pub holder_seat : Holder → opt.Option ℕ
holder_seat (led j) = some j
holder_seat (moving j) = some j
holder_seat (parked j) = some j
holder_seat waiting = none
holder_seat (last j) = some j

-- what an owner weighs, by whether it is open
abbrev pub one_if : Bool → ℕ
one_if true = 1
one_if false = 0

module _ {H A : Type 0} where
  -- a seat of this scope in this role
  abbrev pub view : Scope H → Role A → View H A
  view scope role = record { scope = Some scope; role = role }

  -- a seat with no part in the scope any more
  abbrev pub spent : View H A
  spent = record { scope = None; role = Spent }

  -- the first seat: an open owner with no place in use
  abbrev pub opening_view : Scope H → View H A
  opening_view scope = view scope (Owner (lead true (replicate 16 None) 0 []))

module _ {A : Type 0} where
  -- the ask of a place in use
  abbrev pub entry_of : Place A → Option A
  entry_of free = None
  entry_of (out j a) = Some a
  entry_of (filling j a) = Some a
  entry_of (full a) = Some a
  entry_of (emptying j a) = Some a

  -- the seat that a place belongs to at the moment
  abbrev pub seat_of : Place A → opt.Option ℕ
  seat_of free = none
  seat_of (out j a) = some j
  seat_of (filling j a) = some j
  seat_of (full a) = none
  seat_of (emptying j a) = some j

  -- the place that the seat j claims in its role
  abbrev pub claim_of : ℕ → Role A → opt.Option (ℕ × Place A)
  claim_of j (Child at a) = some (at, out j a)
  claim_of j (Filling at a) = some (at, filling j a)
  claim_of j (Emptying at a l) = some (at, emptying j a)
  claim_of j _ = none

  -- where the lead is, by the role of the seat j that has it
  abbrev pub holder_of : ℕ → Role A → opt.Option Holder
  holder_of j (Owner l) = some (led j)
  holder_of j (Adding at a l) = some (led j)
  holder_of j (Backing at a l) = some (led j)
  holder_of j (Emptying at a l) = some (led j)
  holder_of j (Moving l) = some (moving j)
  holder_of j (Parked l) = some (parked j)
  holder_of j (Last l) = some (last j)
  holder_of j (Posting at l) = some (led j)
  holder_of j _ = none

  -- what a seat that leads knows of the places and the count
  abbrev pub lead_of : Role A → opt.Option (Lead A)
  lead_of (Owner l) = some l
  lead_of (Adding at a l) = some l
  lead_of (Backing at a l) = some (with_entry l at None)
  lead_of (Emptying at a l) = some l
  lead_of (Moving l) = some l
  lead_of (Parked l) = some l
  lead_of (Last l) = some l
  lead_of (Posting at l) = some l
  lead_of _ = none

  -- how much of the count is a seat's
  abbrev pub weight : Role A → ℕ
  weight Spent = 0
  weight (Child at a) = 1
  weight (Filling at a) = 1
  weight Deposited = 1
  weight (Owner l) = one_if l.is_open
  weight (Adding at a l) = 1 + one_if l.is_open
  weight (Backing at a l) = 1 + one_if l.is_open
  weight (Emptying at a l) = one_if l.is_open
  weight (Moving l) = one_if l.is_open
  weight (Parked l) = one_if l.is_open
  weight (Last l) = one_if l.is_open
  weight (Posting at l) = one_if l.is_open
  weight (Left log) = 0
  weight (Fetching at log) = 0

-- what is in a slot, by its word
abbrev pub Lies : {A B T : Type 0} → (A → B → Type 0) → Place A → ℕ → opt.Option (opt.Option (Option (Content B T))) → Type 0
Lies answers free n h = (n ≡ 0) × (h ≡ some (some None))
Lies answers (out j a) n h = (n ≡ 0) × (h ≡ some (some None))
Lies answers (filling j a) n h = (n ≡ 1) × (h ≡ some none)
Lies answers (full a) n h = (n ≡ 2) × ((b : _) × (h ≡ some (some (Some (Answer b)))) × answers a b)
Lies answers (emptying j a) n h = (n ≡ 1) × (h ≡ some none)

-- what is in the task's slot, by its word and by where the lead is
abbrev pub TaskLies : {B T : Type 0} → (T → Type 0) → Holder → ℕ → opt.Option (opt.Option (Option (Content B T))) → Type 0
TaskLies fits (led j) n h = (n ≡ 0) × (h ≡ some (some None))
TaskLies fits (moving j) n h = (n ≡ 1) × (h ≡ some none)
TaskLies fits (parked j) n h = (n ≡ 2) × ((t : _) × (h ≡ some (some (Some (Task t)))) × fits t)
TaskLies fits waiting n h = (n ≡ 2) × ((t : _) × (h ≡ some (some (Some (Task t)))) × fits t)
TaskLies fits (last j) n h = (n ≡ 2) × ((t : _) × (h ≡ some (some (Some (Task t)))) × fits t)

-- what an owner knows of the places and the count
abbrev pub Tallies : {A : Type 0} → List (Option A) → ℕ → Lead A → Type 0
Tallies asks n l = (l.asks ≡ asks) × (l.is_open ≡ true → n ≤ l.spawned + 1) × (l.is_open ≡ false → n ≡ 0)

-- it names a scope
abbrev pub IsNamed : {H : Type 0} → Option (Scope H) → Type 0
IsNamed None = ⊥
IsNamed (Some scope) = Unit {0}

-- What a role comes with. Each but a spent one and one that has left names its scope.
-- The place of a child that is counted and has no seat is not in use yet, and one that was taken back was in use with the child's ask.
-- Who has put the task down is open until it arrives, and the last to arrive is not.
abbrev pub Stands : {H A : Type 0} → Option (Scope H) → Role A → Type 0
Stands scope Spent = Unit {0}
Stands scope (Left log) = Unit {0}
Stands scope (Adding at a l) = IsNamed scope × (get_elem? l.asks at ≡ some None)
Stands scope (Backing at a l) = IsNamed scope × (get_elem? l.asks at ≡ some (Some a))
Stands scope (Parked l) = IsNamed scope × (l.is_open ≡ true)
Stands scope (Last l) = IsNamed scope × (l.is_open ≡ false)
Stands scope _ = IsNamed scope

module _ {H A : Type 0} where
  -- the parts of all seats in the count
  abbrev pub total : List (View H A) → ℕ
  total [] = 0
  total (v ∷ vs) = weight v.role + total vs

  -- what the seat j knows
  pub record Knows (key : Scope H) (places : List (Place A)) (holder : Holder) (n j : ℕ) (v : View H A) : Type 0 where
    pub in_scope : (scope : Scope H) → v.scope ≡ Some scope → scope ≡ key
    pub stands : Stands v.scope v.role
    pub claims : (at : ℕ) (p : Place A) → claim_of j v.role ≡ some (at, p) → get_elem? places at ≡ some p
    pub leads : (d : Holder) → holder_of j v.role ≡ some d → holder ≡ d
    pub tallies : (l : Lead A) → lead_of v.role ≡ some l → Tallies (map entry_of places) n l

  -- a surplus slot that belongs to a seat is claimed by it
  abbrev pub SurplusHeld : List Surplus → List (View H A) → Type 0
  SurplusHeld surpluses views = (i : ℕ) (q : Surplus) (j : ℕ) → get_elem? surpluses i ≡ some q → surplus_seat q ≡ some j → (v : View H A) × (get_elem? views j ≡ some v) × (surplus_claim j v.role ≡ some (i, q))

  -- what a seat claims of the surplus slots is so
  abbrev pub Handles : List Surplus → List (View H A) → Type 0
  Handles surpluses views = (j : ℕ) (v : View H A) → get_elem? views j ≡ some v → (i : ℕ) (q : Surplus) → surplus_claim j v.role ≡ some (i, q) → get_elem? surpluses i ≡ some q

  -- The rule, of every moment. `held` and `seats`, `lent` and `seats`, `surplus_held` and `handles` together: what belongs to a seat belongs to exactly one.
  pub record Ruled {B T : Type 0} (answers : A → B → Type 0) (belongs : H → ℕ → List (Option A) → T → Type 0) (lies_in : H → ℕ → T → Type 0) (key : Scope H) (s : State (Option (Content B T)) (View H A)) : Type 0 where
    pub places : List (Place A)
    pub holder : Holder
    pub wide : length s.words ≡ 34
    pub sixteen : length places ≡ 16
    pub count : slice_index s.words 0 ≡ total s.views
    pub slots : (i : ℕ) (p : Place A) → get_elem? places i ≡ some p → Lies answers p (slice_index s.words (i + 1)) (get_elem? s.homes i)
    pub task : TaskLies (belongs key.home key.pages (map entry_of places)) holder (slice_index s.words 17) (get_elem? s.homes 16)
    pub held : (i : ℕ) (p : Place A) (j : ℕ) → get_elem? places i ≡ some p → seat_of p ≡ some j → (v : View H A) × (get_elem? s.views j ≡ some v) × (claim_of j v.role ≡ some (i, p))
    pub lent : (j : ℕ) → holder_seat holder ≡ some j → (v : View H A) × (get_elem? s.views j ≡ some v) × (holder_of j v.role ≡ some holder)
    pub seats : (j : ℕ) (v : View H A) → get_elem? s.views j ≡ some v → Knows key places holder (slice_index s.words 0) j v
    pub surpluses : List Surplus
    pub surplus_count : length surpluses ≡ 16
    pub surplus_slots : (i : ℕ) (q : Surplus) → get_elem? surpluses i ≡ some q → SurplusLies (lies_in key.home key.pages) q (slice_index s.words (i + 18)) (get_elem? s.homes (i + 17))
    pub surplus_held : SurplusHeld surpluses s.views
    pub handles : Handles surpluses s.views
