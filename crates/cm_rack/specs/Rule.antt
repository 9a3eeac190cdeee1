-- The rule of a rack.
-- Word i and slot i are those of the place i. A word is 0 where its slot is empty, 1 while one seat holds the slot, and 2 where it is filled.
use Rattle.std.specs.Prelude.{◌≡◌, ℕ, ◌+◌, ◌<◌, List, length, slice_index, Option, Some, None}
use mathlib.Core.Option as opt
use mathlib.Core.Option.{some, none}
use lib.ListN.{get_elem?}
use Rattle.atomic_table.specs.Table.{State}
use Rattle.cm_rack.specs.declared.view.View.{View}
use Rattle.cm_rack.specs.declared.view.View.TheVariants.{Putting, Holding, Placed, Taking}

-- What a place is: empty, its slot held by a seat, filled and named by a seat with this tag.
pub data Place (G : Type 0) : Type 0 where
  bare : Place G
  held : ℕ → Place G
  full : ℕ → G → Place G

module _ {G : Type 0} where
  -- the seat that a place belongs to at the moment
  abbrev pub seat_of : Place G → opt.Option ℕ
  seat_of bare = none
  seat_of (held j) = some j
  seat_of (full j g) = some j

  -- the place that the seat j claims by what it knows
  abbrev pub claim_of : ℕ → View G → opt.Option (ℕ × Place G)
  claim_of j (Putting k log) = some (k, held j)
  claim_of j (Holding k g log) = some (k, full j g)
  claim_of j (Placed k g) = some (k, full j g)
  claim_of j (Taking k) = some (k, held j)
  claim_of j _ = none

  -- the place that a seat names, with the tag
  abbrev pub name_of : View G → opt.Option (ℕ × G)
  name_of (Holding k g log) = some (k, g)
  name_of (Placed k g) = some (k, g)
  name_of _ = none

  -- the place whose slot a seat holds
  abbrev pub hold_of : View G → opt.Option ℕ
  hold_of (Putting k log) = some k
  hold_of (Taking k) = some k
  hold_of _ = none

-- what is in a slot, by its word
abbrev pub Lies : {T G : Type 0} → (T → G) → Place G → ℕ → opt.Option (opt.Option (Option T)) → Type 0
Lies tag bare n h = (n ≡ 0) × (h ≡ some (some None))
Lies tag (held j) n h = (n ≡ 1) × (h ≡ some none)
Lies tag (full j g) n h = (n ≡ 2) × ((t : _) × (h ≡ some (some (Some t))) × (tag t ≡ g))

module _ {T G : Type 0} (tag : T → G) where
  -- The rule, of every moment. `owned` and `claims` together: each place that belongs to a seat belongs to exactly one
  pub record Ruled (s : State (Option T) (View G)) : Type 0 where
    pub places : List (Place G)
    pub sized : length s.homes ≡ length places
    pub wide : length s.words ≡ length places + 1
    pub slots : (i : ℕ) (p : Place G) → get_elem? places i ≡ some p → Lies tag p (slice_index s.words i) (get_elem? s.homes i)
    pub owned : (i : ℕ) (p : Place G) (j : ℕ) → get_elem? places i ≡ some p → seat_of p ≡ some j → (v : View G) × (get_elem? s.views j ≡ some v) × (claim_of j v ≡ some (i, p))
    pub claims : (j : ℕ) (v : View G) → get_elem? s.views j ≡ some v → (i : ℕ) (p : Place G) → claim_of j v ≡ some (i, p) → get_elem? places i ≡ some p

  -- no two seats name one place
  abbrev pub OneTicket : Type 0
  OneTicket = (s : State (Option T) (View G)) (i j k : ℕ) (v w : View G) (g h : G) → Ruled s
      → get_elem? s.views i ≡ some v → get_elem? s.views j ≡ some w → name_of v ≡ some (k, g) → name_of w ≡ some (k, h) → i ≡ j

  -- a place that a seat names is filled with a task of this tag
  abbrev pub IsThere : Type 0
  IsThere = (s : State (Option T) (View G)) (j k : ℕ) (v : View G) (g : G) → Ruled s → get_elem? s.views j ≡ some v → name_of v ≡ some (k, g)
      → (slice_index s.words k ≡ 2) × ((t : T) × (get_elem? s.homes k ≡ some (some (Some t))) × (tag t ≡ g))

  -- a filled place is named by a seat
  abbrev pub IsNamed : Type 0
  IsNamed = (s : State (Option T) (View G)) (k : ℕ) (t : T) → Ruled s → get_elem? s.homes k ≡ some (some (Some t))
      → (j : ℕ) × (v : View G) × (get_elem? s.views j ≡ some v) × (name_of v ≡ some (k, tag t))

  -- no two seats hold one slot, and its word is 1 meanwhile
  abbrev pub OneHolder : Type 0
  OneHolder = (s : State (Option T) (View G)) (i j k : ℕ) (v w : View G) → Ruled s
      → get_elem? s.views i ≡ some v → get_elem? s.views j ≡ some w → hold_of v ≡ some k → hold_of w ≡ some k → (i ≡ j) × (slice_index s.words k ≡ 1)

  -- a place whose word is 1 is held by a seat
  abbrev pub IsHeld : Type 0
  IsHeld = (s : State (Option T) (View G)) (k : ℕ) → Ruled s → k < length s.homes → slice_index s.words k ≡ 1
      → (j : ℕ) × (v : View G) × (get_elem? s.views j ≡ some v) × (hold_of v ≡ some k)
