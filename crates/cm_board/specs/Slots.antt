-- What an owner's parked task brings with it, and how the seats of owners, children and leaves are read.
use Rattle.std.specs.Prelude.{◌≡◌, ℕ, ◌+◌, slice_set, Bool, true, false, List, [], ◌∷◌, map, Option, Some, None}
use Rattle.atomic_table.specs.Table.{Me}
use Rattle.cm_board.specs.declared.view.Scope.{Scope}
use Rattle.cm_board.specs.declared.view.Lead.{Lead}
use Rattle.cm_board.specs.declared.view.Parked.{Parked}
use Rattle.cm_board.specs.declared.view.Cargo.{Cargo}
use Rattle.cm_board.specs.declared.view.Cargo.TheVariants.{Task, Surplus}
use Rattle.cm_board.specs.declared.view.View.{View}
use Rattle.cm_board.specs.declared.view.Role.{Role}
use Rattle.cm_board.specs.declared.view.Role.TheVariants.{Child, Deposited, Owner, Last, Left}
use Rattle.cm_board.specs.Rule.{view, lead}
use Rattle.cm_board.specs.Play.{in_role}

-- whether a place is in use, by its entry
abbrev pub is_used : {A : Type 0} → Option A → Bool
is_used None = false
is_used (Some a) = true

-- the parked task belongs to the owner, and its marks are those of the places in use
abbrev pub fits : {H A T : Type 0} → (H → ℕ → List (Option A) → T → Type 0) → H → ℕ → List (Option A) → Parked T → Type 0
fits belongs home pages asks p = belongs home pages asks p.task × (p.marks ≡ map is_used asks)

-- what lies in the task's slot is a task that belongs
abbrev pub cargo_fits : {H A T S : Type 0} → (H → ℕ → List (Option A) → T → Type 0) → H → ℕ → List (Option A) → Cargo T S → Type 0
cargo_fits belongs home pages asks (Task p) = fits belongs home pages asks p
cargo_fits belongs home pages asks (Surplus s) = ⊥

-- what lies in a surplus slot is surplus that lies in the home
abbrev pub cargo_lies_in : {H T S : Type 0} → (H → ℕ → S → Type 0) → H → ℕ → Cargo T S → Type 0
cargo_lies_in lies_in home pages (Task p) = ⊥
cargo_lies_in lies_in home pages (Surplus s) = lies_in home pages s

-- a leaver's seat: it names no scope once it is spent
abbrev pub leaver : {H A : Type 0} → Scope H → Bool → List (ℕ × ℕ) → View H A
leaver scope true log = in_role None (Left log)
leaver scope false log = view scope (Left log)

-- what the steps of a leaver found, by its role
abbrev pub role_log : {A : Type 0} → Role A → List (ℕ × ℕ)
role_log (Left log) = log
role_log _ = []

-- what the steps of a leaver found
abbrev pub log_at : {S H A : Type 0} → Me S (View H A) → List (ℕ × ℕ)
log_at me = role_log me.0.role

-- the seat of a leaver, which holds nothing
abbrev pub IsLeaver : {S H A : Type 0} → Scope H → Bool → Me S (View H A) → Type 0
IsLeaver scope is_spent me = me ≡ (leaver scope is_spent (log_at me), [])

-- what an owner or the last to arrive knows, by its role
abbrev pub role_lead : {A : Type 0} → Role A → Lead A
role_lead (Owner l) = l
role_lead (Last l) = l
role_lead _ = lead false [] 0 []

-- what an owner or the last to arrive knows
abbrev pub lead_at : {S H A : Type 0} → Me S (View H A) → Lead A
lead_at me = role_lead me.0.role

-- the seat of an owner, which holds nothing
abbrev pub IsOwner : {S H A : Type 0} → Scope H → Me S (View H A) → Type 0
IsOwner scope me = me ≡ (view scope (Owner (lead_at me)), [])

-- the seat of the last to arrive, before it has the task
abbrev pub IsLast : {S H A : Type 0} → Scope H → Me S (View H A) → Type 0
IsLast scope me = (me ≡ (view scope (Last (lead_at me)), [])) × ((lead_at me).is_open ≡ false) × ((lead_at me).spawned ≡ 0)

-- one more spawned, into the place k
abbrev pub spawned_into : {A : Type 0} → Lead A → ℕ → A → Lead A
spawned_into l k a = lead l.is_open (slice_set l.asks k (Some a)) (l.spawned + 1) l.log

-- a child before its deposit, and after it
abbrev pub child_stage : {A : Type 0} → Bool → ℕ → A → Role A
child_stage true at a = Deposited
child_stage false at a = Child at a

-- the first that is false
abbrev pub first_false : List Bool → ℕ
first_false [] = 0
first_false (false ∷ bs) = 0
first_false (true ∷ bs) = first_false bs + 1

-- the least place that is not in use, or their number
abbrev pub first_free : {A : Type 0} → List (Option A) → ℕ
first_free asks = first_false (map is_used asks)

-- the word of the join counter
abbrev pub counter_word : ℕ
counter_word = 0

-- the word of a place
abbrev pub place_word : (place : ℕ) → ℕ
place_word place = place + 1

-- the word of the task's slot
abbrev pub task_word : ℕ
task_word = 17

-- the word of a surplus slot
abbrev pub surplus_word : (slot : ℕ) → ℕ
surplus_word slot = slot + 18

-- the number of a word whose slot a seat holds
abbrev pub held_mark : ℕ
held_mark = 1

-- the number of a word whose slot is filled; it is 0 where that is empty
abbrev pub full_mark : ℕ
full_mark = 2
