-- The words of a grant as a hart sees them: at the addresses that a page map shows, each by the share that the grant has.
use Rattle.std.specs.Prelude.{ℕ, ◌+◌, ◌-◌, ◌*◌, ◌/◌, ◌%◌, nat_lt, if◌then◌else◌, List, [], ◌∷◌, Option, None, Some, slice_get}
use Rattle.atomic_table.specs.Seated.{TableId}
use Rattle.cm_isa.specs.View.{View, Access, no_access, read_access, full_access}
use Rattle.cm_isa.specs.declared.memory.Shown.{Shown}
use Rattle.cm_isa.specs.declared.memory.Shown.TheVariants.{Place, Page, Outside}
use Rattle.cm_maps.specs.Pages.{MapState}
use Rattle.cm_maps.specs.declared.map.TheConstants.{STACK_TOP}
use Rattle.cm_share.specs.Share.{Share, whole, part}
use Rattle.cm_words.specs.Held.{Held, nothing, held, cell}

-- what is shown at an address below STACK_TOP that is in no page of the map
abbrev pub unmapped_shown : (low address : ℕ) → Shown
unmapped_shown low address = if nat_lt address low then Outside else Page

-- what is shown at an address below STACK_TOP by the number of its page
abbrev pub page_shown : Option ℕ → (low page address : ℕ) → Shown
page_shown (Some number) low page address = Place (number * (page / 4) + address % page / 4)
page_shown None low page address = unmapped_shown low address

-- what a page map shows at an address, where the stack has the addresses from `low` up to STACK_TOP
abbrev pub map_shown : (low : ℕ) → MapState → (address : ℕ) → Shown
map_shown low map address =
    if nat_lt address STACK_TOP then page_shown (slice_get map.pages ((STACK_TOP - 1 - address) / map.page)) low map.page address else Outside

-- a word of which the whole is held may be read and written, one of which a part is held may be read
abbrev pub held_access : Held → Access
held_access nothing = no_access
held_access (held whole word) = full_access
held_access (held (part p) word) = read_access

-- the word that is held
abbrev pub held_word : Held → ℕ
held_word nothing = 0
held_word (held share word) = word

-- the words of a grant as an instruction sees them through a page map
abbrev pub grant_view : (low : ℕ) → MapState → List Held → View
grant_view low map cells = record {
  shown = map_shown low map;
  access = λ place. held_access (cell cells place);
  word_at = λ place. held_word (cell cells place);
}

-- the share of a place, whatever word is there
abbrev pub held_share : Held → Option Share
held_share nothing = None
held_share (held share word) = Some share

-- the shares of a grant, by its places
abbrev pub shares : List Held → List (Option Share)
shares [] = []
shares (c ∷ cells) = held_share c ∷ shares cells

-- What the owner of the words knows beside them: the grant's name as a reference, its region, its shares, and the map.
pub record Known : Type 0 where
  pub name : ℕ
  pub region : TableId
  pub shares_of : List (Option Share)
  pub low : ℕ
  pub map : MapState
