-- How hands and tickets are read.
use Rattle.std.specs.Prelude.{◌≡◌, ℕ, List, [], ◌∷◌, Option, Some, None}
use Rattle.atomic_table.specs.Table.{Me}
use Rattle.cm_rack.specs.declared.view.View.{View}
use Rattle.cm_rack.specs.declared.view.View.TheVariants.{Idle, Placed}

module _ {G : Type 0} where
  -- what the takes of a hand found, by its view
  abbrev pub view_log : View G → List (ℕ × ℕ)
  view_log (Idle log) = log
  view_log _ = []

  -- what the takes of a hand found: the place and the number, the latest first
  abbrev pub log_of : {S : Type 0} → Me S (View G) → List (ℕ × ℕ)
  log_of me = view_log me.0

  -- the seat of a hand, which names nothing and holds nothing
  abbrev pub IsIdle : {S : Type 0} → Me S (View G) → Type 0
  IsIdle me = me ≡ (Idle (log_of me), [])

  -- a hand after a take of this place that found n
  abbrev pub noted : {S : Type 0} → Me S (View G) → ℕ → ℕ → View G
  noted me k n = Idle ((k, n) ∷ log_of me)

  -- the place that a ticket names, by its view
  abbrev pub view_place : View G → Option ℕ
  view_place (Placed k g) = Some k
  view_place _ = None

  -- the place that a badge of one view names
  abbrev pub only_place : View G → List (View G) → Option ℕ
  only_place v [] = view_place v
  only_place v (w ∷ vs) = None

  -- the place that a ticket names
  abbrev pub place_of : List (View G) → Option ℕ
  place_of [] = None
  place_of (v ∷ vs) = only_place v vs

  -- the tag that a ticket names, by its view
  abbrev pub view_tag : View G → Option G
  view_tag (Placed k g) = Some g
  view_tag _ = None

  -- the tag that a ticket names
  abbrev pub tag_in : List (View G) → Option G
  tag_in [] = None
  tag_in (v ∷ vs) = view_tag v
