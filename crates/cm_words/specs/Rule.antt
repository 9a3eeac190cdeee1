-- The rule of a region: no point of a place lies with two grants, and the word that a grant gives is the word there.
use Rattle.std.specs.Prelude.{◌≡◌, ◌≢◌, ℕ, ◌^◌, ◌<◌, Bool, true, ◌||◌, List, [], length, replicate, slice_index}
use mathlib.Core.Option.{some}
use lib.ListN.{get_elem?}
use Rattle.atomic_table.specs.Table.{State}
use Rattle.cm_share.specs.Share.{whole, Point}
use Rattle.cm_words.specs.Held.{Held, held, cell, has}
use Rattle.cm_words.specs.declared.view.View.{View}

-- a view of these two lists
abbrev pub view : List Held → List Held → View
view cells more = record { cells = cells; more = more }

-- the whole of each place, with a 0 there
abbrev pub all_words : ℕ → View
all_words n = view (replicate n (held whole 0)) []

-- one of its two lists has this point of the place i
abbrev pub view_has : View → ℕ → Point → Bool
view_has v i x = has (cell v.cells i) x || has (cell v.more i) x

-- the words that a list gives are the words there, at places of the region
abbrev pub Tells : ℕ → List ℕ → List Held → Type 0
Tells n words cells = (i : ℕ) (q : _) (w : ℕ) → cell cells i ≡ held q w → (i < n) × (slice_index words i ≡ w)

-- they have no point in common
abbrev pub Apart : Held → Held → Type 0
Apart a b = (x : Point) → has a x ≡ true → has b x ≡ true → ⊥

-- What a view has fits the region's words: its words are the words there, and its two lists are apart.
pub record Fits (n : ℕ) (words : List ℕ) (v : View) : Type 0 where
  pub tells : Tells n words v.cells
  pub more_tells : Tells n words v.more
  pub lists_apart : (i : ℕ) → Apart (cell v.cells i) (cell v.more i)

-- The rule: as many words as the region was made with, each of 32 bits; each view fits them; and no two seats have a point
-- of a place in common.
pub record Ruled {S : Type 0} (n : ℕ) (s : State S View) : Type 0 where
  pub wide : length s.words ≡ n
  pub small : (i : ℕ) → slice_index s.words i < 2 ^ 32
  pub fits : (j : ℕ) (v : View) → get_elem? s.views j ≡ some v → Fits n s.words v
  pub apart : (j k : ℕ) (v u : View) → get_elem? s.views j ≡ some v → get_elem? s.views k ≡ some u → j ≢ k → (i : ℕ) (x : Point) → view_has v i x ≡ true → view_has u i x ≡ true → ⊥
