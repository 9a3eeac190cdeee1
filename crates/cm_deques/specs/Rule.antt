-- The rule of a deque: what its owner pushed and didn't pop is what lies there, the last one first, and then what was stolen.
use Rattle.std.specs.Prelude.{◌≡◌, ◌⊎◌, ◌+◌, ℕ, Bool, true, Option, Some, None, List, ◌++◌, All, reverse}
use mathlib.Core.Option.{some}
use lib.ListN.{get_elem?}
use Rattle.std.specs.List.{sum_by}
use Rattle.cm_deques.specs.declared.known.Known.{Known}

-- what an end knows: home, whether it is the owner's, what was pushed and not popped, and what it stole
abbrev pub known : {T H : Type 0} → Option H → Bool → List T → List T → Known T H
known home owner pushed stolen = record { home = home; is_owner = owner; pushed = pushed; stolen = stolen }

module _ {T H : Type 0} where
  -- the task lies in this home; nothing lies in none
  abbrev pub lies_at : (H → T → Type 0) → Option H → T → Type 0
  lies_at lies (Some home) x = lies home x
  lies_at lies None x = ⊥

  -- the one owner knows what was pushed, and an end that knows a home knows this one
  abbrev pub Fits : Option H → ℕ → List T → ℕ → Known T H → Type 0
  Fits home owner pushed port v =
      (v.is_owner ≡ true → (port ≡ owner) × (v.pushed ≡ pushed) × (v.home ≡ home))
      × ((v.home ≡ None) ⊎ (v.home ≡ home))

  -- what the ends stole, however tasks are weighed
  abbrev pub stolen_weight : (T → ℕ) → List (Known T H) → ℕ
  stolen_weight f = sum_by (λ v. sum_by f v.stolen)

  -- the tasks that lie there, the oldest first, lie in the home; with those that are gone they are all that was pushed and
  -- not popped; and what is gone is what the ends stole, each once
  unfoldable pub Kept : (H → T → Type 0) → List T → List (Known T H) → Type 0
  Kept lies items views =
      (home : Option H) × (owner : ℕ) × (pushed : List T) × (gone : List T)
      × (pushed ≡ reverse items ++ gone)
      × All (lies_at lies home) items
      × ((port : ℕ) (v : Known T H) → get_elem? views port ≡ some v → Fits home owner pushed port v)
      × ((f : T → ℕ) → sum_by f gone ≡ stolen_weight f views)

  -- at every moment the latest of what was pushed and not popped lies there, in the order of the pushes
  abbrev pub InOrder : (H → T → Type 0) → Type 0
  InOrder lies =
      (items : List T) (views : List (Known T H)) (port : ℕ) (v : Known T H)
      → Kept lies items views → get_elem? views port ≡ some v → v.is_owner ≡ true
      → (gone : List T) × (v.pushed ≡ reverse items ++ gone)

  -- at every moment what was pushed and not popped is what lies there and what the ends stole, each once
  abbrev pub NoneLost : (H → T → Type 0) → Type 0
  NoneLost lies =
      (items : List T) (views : List (Known T H)) (port : ℕ) (v : Known T H)
      → Kept lies items views → get_elem? views port ≡ some v → v.is_owner ≡ true
      → (f : T → ℕ) → sum_by f v.pushed ≡ sum_by f items + stolen_weight f views
