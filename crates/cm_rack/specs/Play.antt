-- What each step on a rack's table tells the seat that takes it, by what it knew.
use Rattle.std.specs.Prelude.{◌≡◌, ◌≢◌, ℕ, List, [], ◌∷◌, Option, Some, None}
use Rattle.atomic_table.specs.Table.{Me, rest}
use Rattle.cm_rack.specs.declared.view.View.{View}
use Rattle.cm_rack.specs.declared.view.View.TheVariants.{Spent, Idle, Putting, Holding, Placed, Taking}

module _ {T G : Type 0} where
  -- a hand tries a place, and holds its slot where it found it empty
  abbrev pub put_tried : ℕ → List (ℕ × Option T) → View G → ℕ → Me (Option T) (View G) → Type 0
  put_tried at held (Idle log) found after = (found ≡ 0 → after ≡ (Putting at ((at, 0) ∷ log), (at, None) ∷ held)) × (found ≢ 0 → after ≡ (Idle ((at, found) ∷ log), held))
  put_tried at held _ found after = Unit {0}

  -- a hand has put this task down, and knows its tag
  abbrev pub put_down : (T → G) → ℕ → List (ℕ × ℕ) → List (ℕ × Option T) → Option T → Me (Option T) (View G) → Type 0
  put_down tag k log held (Some t) after = after ≡ (Holding k (tag t) log, held)
  put_down tag k log held None after = Unit {0}

  -- a hand has put down what was in the first slot that it held
  abbrev pub put_first : (T → G) → ℕ → List (ℕ × ℕ) → List (ℕ × Option T) → Me (Option T) (View G) → Type 0
  put_first tag k log [] after = Unit {0}
  put_first tag k log (x ∷ held) after = put_down tag k log held x.1 after

  -- a hand gives the slot back, filled
  abbrev pub filled : (T → G) → List (ℕ × Option T) → View G → ℕ → Me (Option T) (View G) → Type 0
  filled tag held (Putting k log) found after = put_first tag k log held after
  filled tag held _ found after = Unit {0}

  -- a ticket holds the slot of its place, with a task of its tag
  abbrev pub take_tried : (T → G) → List (ℕ × Option T) → View G → ℕ → Me (Option T) (View G) → Type 0
  take_tried tag held (Placed k g) found after = (t : T) × (after ≡ (Taking k, (k, Some t) ∷ held)) × (tag t ≡ g)
  take_tried tag held _ found after = Unit {0}

  -- a ticket gives the slot back, empty
  abbrev pub emptied : List (ℕ × Option T) → View G → ℕ → Me (Option T) (View G) → Type 0
  emptied held (Taking k) found after = after ≡ (Spent, rest held)
  emptied held _ found after = Unit {0}

-- a hand that has filled a place, once the ticket has left it
abbrev pub hand_part : {G : Type 0} → View G → View G
hand_part (Holding k g log) = Idle log
hand_part _ = Spent

-- the ticket of a hand that has filled a place
abbrev pub ticket_part : {G : Type 0} → View G → View G
ticket_part (Holding k g log) = Placed k g
ticket_part _ = Spent
