-- What each step on a region's table tells the grant that takes it.
use Rattle.std.specs.Prelude.{◌≡◌, ℕ, Bool, ◌^◌, ◌<◌, ◌≤◌, length, List, [], slice_set}
use Rattle.atomic_table.specs.Table.{Me}
use Rattle.cm_share.specs.Share.{whole}
use Rattle.cm_words.specs.Held.{Held, nothing, held, cell, HeldSum, each, kept_of, parted_of, kept_half_of, lent_half_of}
use Rattle.cm_words.specs.Rule.{view}
use Rattle.cm_words.specs.declared.view.View.{View}

-- the number found is the word that it gives
abbrev pub Told : Held → ℕ → Type 0
Told nothing found = Unit {0}
Told (held q w) found = (found ≡ w) × (found < 2 ^ 32)

module _ {S : Type 0} where
  -- a load changes nothing, and finds the word that is held
  abbrev pub read : ℕ → Me S View → ℕ → Me S View → Type 0
  read at m found after = (after ≡ m) × Told (cell m.0.cells at) found

  -- a store changes what is held of its place
  abbrev pub written : ℕ → ℕ → Me S View → Me S View → Type 0
  written at word m after = after ≡ (view (slice_set m.0.cells at (held whole word)) m.0.more, m.1)

  -- the two lists were apart and of the same words, and become one
  abbrev pub merged : Me S View → Me S View → Type 0
  merged m after = (cells : List Held) × (after ≡ (view cells [], m.1)) × ((i : ℕ) → HeldSum (cell m.0.cells i) (cell m.0.more i) (cell cells i)) × ((k : ℕ) → length m.0.cells ≤ k → length m.0.more ≤ k → length cells ≤ k)

-- what stays and what goes where some places are taken out of a grant, and where their shares are halved
abbrev pub kept_span : (ℕ → Bool) → View → View
kept_span inside v = view (each (kept_of inside) 0 v.cells) []

abbrev pub parted_span : (ℕ → Bool) → View → View
parted_span inside v = view (each (parted_of inside) 0 v.cells) []

abbrev pub kept_halves : (ℕ → Bool) → View → View
kept_halves inside v = view (each (kept_half_of inside) 0 v.cells) []

abbrev pub lent_halves : (ℕ → Bool) → View → View
lent_halves inside v = view (each (lent_half_of inside) 0 v.cells) []

-- one seat's list beside that of another, which is spent
abbrev pub both_lists : View → View → View
both_lists v w = view v.cells w.cells

abbrev pub nothing_left : View
nothing_left = view [] []
