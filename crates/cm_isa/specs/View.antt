-- A memory as an instruction sees it: words of 32 bits in places, which addresses show.
use Rattle.std.specs.Prelude.{◌≡◌, ◌≢◌, ℕ, ◌/◌, Bool, true, false, ◌==◌, nat_lt, if◌then◌else◌, List, length, slice_index}
use Rattle.cm_isa.specs.declared.memory.Shown.{Shown}
use Rattle.cm_isa.specs.declared.memory.Shown.TheVariants.{Place, Outside}

-- What the caller may do with a place: nothing, read its word, or read and write it.
pub data Access : Type 0 where
  no_access : Access
  read_access : Access
  full_access : Access

-- a load takes any access, a store takes the full one
abbrev pub may_load : Access → Bool
may_load no_access = false
may_load read_access = true
may_load full_access = true

abbrev pub may_store : Access → Bool
may_store no_access = false
may_store read_access = false
may_store full_access = true

-- full access where this holds, and else none
abbrev pub full_where : Bool → Access
full_where true = full_access
full_where false = no_access

-- what is shown at each address, what the caller may do with each place, and the word in it
pub record View : Type 0 where
  pub shown : (address : ℕ) → Shown
  pub access : (place : ℕ) → Access
  pub word_at : (place : ℕ) → ℕ

-- the view with a word put in a place
abbrev pub with_place : View → (place word : ℕ) → View
with_place view place word = record { shown = view.shown; access = view.access; word_at = λ p. if p == place then word else view.word_at p }

-- the same addresses show the same places, and each place may be used as before
pub record SameMap (old new : View) : Type 0 where
  pub shown : new.shown ≡ old.shown
  pub access : new.access ≡ old.access

-- the word is in the place, and every other place has the word that it had
pub record Puts (old new : View) (place word : ℕ) : Type 0 where
  pub there : new.word_at place ≡ word
  pub others : (q : ℕ) → q ≢ place → new.word_at q ≡ old.word_at q

-- the words of a list at the addresses from 0 on, each of which may be read and written
abbrev pub slice_view : List ℕ → View
slice_view words = record {
  shown = λ a. if nat_lt (a / 4) (length words) then Place (a / 4) else Outside;
  access = λ place. full_where (nat_lt place (length words));
  word_at = slice_index words;
}
