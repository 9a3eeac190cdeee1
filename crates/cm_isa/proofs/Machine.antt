-- The machine of registers in a list and words in places takes the step that the outcome of the instruction says, and no other.
use Rattle.std.proofs.Common.{◌≡◌, ◌≢◌, ℕ, ◌%◌, ◌<◌, List, length, Option, None, Some, refl, sym, ap, ◌∙◌, subst, arith, inl, inr, eq-eqb, length-set}
use Rattle.std.proofs.lemmas.Bool.Decides.{eqb_tells}
use Rattle.std.proofs.lemmas.List.{get_or-set_same, get_or-set_other}
use Rattle.std.proofs.lemmas.Option.{none-some, same_Some}
use Rattle.std.specs.Prelude.{Bool, true, false, ◌==◌, if◌then◌else◌, ◌⊎◌, slice_index, slice_set, IsTrue}
use Rattle.cm_isa.specs.Operation.{Operation}
use Rattle.cm_isa.specs.Register.{put, put_result, with_register, with_result}
use Rattle.cm_isa.specs.View.{View, Access, no_access, read_access, full_access, may_load, may_store, with_place}
use Rattle.cm_isa.specs.Action.{Size, Action, Sets, Passes, Goes, Links, Loads, Stores, Serves, Breaks, action_at}
use Rattle.cm_isa.specs.Effect.{Change, goes_on, stops, load_change, store_change, action_change, cell_at, shown_cell, put_write, outcome, is_aligned, stored_word, MayAccess}
use Rattle.cm_isa.specs.Machine.{Machine, with_word, with_write, word_address, word_cell, mapped_cell, next_machine, machine_after, Stored, writable, reads, writes, readable_words, writable_words, stored_in, shown_word, view_words, machine_of, IsMap}
use Rattle.cm_isa.specs.declared.memory.Shown.{Shown}
use Rattle.cm_isa.specs.declared.memory.Shown.TheVariants as shown
use Rattle.cm_isa.specs.declared.execution.FaultKind.{FaultKind}
use Rattle.cm_isa.specs.declared.execution.FaultKind.TheVariants as faults
use Rattle.cm_isa.specs.declared.execution.Next.{Next}
use Rattle.cm_isa.specs.declared.execution.Next.TheVariants.{At, Service, PageFault, Fault}

-- ---- machines

-- equal parts make equal machines
pub same_machine : (a b : Machine) → a.registers ≡ b.registers → a.counter ≡ b.counter → a.words ≡ b.words → a ≡ b
same_machine a b p q r = λ i. record { registers = p i; counter = q i; words = r i }

-- ---- registers

-- a word in a register of a list
pub put_register : (rs : List ℕ) (rd v : ℕ) → rd < length rs → (q : ℕ) → slice_index (put rs rd v) q ≡ with_register (slice_index rs) rd v q
put_register rs rd v within q = elim (rd == 0) as (λ z. slice_index (if z then rs else slice_set rs rd v) q ≡ (if z then slice_index rs q else if q == rd then v else slice_index rs q)) [
  | true ↦ refl
  | false ↦ written (eqb_tells q rd)
]
  where
    written : ((q == rd) ≡ true × (q ≡ rd)) ⊎ ((q == rd) ≡ false × (q ≢ rd)) → slice_index (slice_set rs rd v) q ≡ (if q == rd then v else slice_index rs q)
    written (inl h) = rw h.0 (ap (slice_index (slice_set rs rd v)) h.1 ∙ get_or-set_same rs rd v 0 within)
    written (inr h) = rw h.0 (get_or-set_other rs rd q v 0 h.1)

pub put_result_register : (rs : List ℕ) (rd : ℕ) (result : Option ℕ) → rd < length rs → slice_index (put_result rs rd result) ≡ with_result (slice_index rs) rd result
put_result_register rs rd (Some v) within = λ i q. put_register rs rd v within q i
put_result_register rs rd None within = refl

-- a list in which a register was put is as long as before
pub length-put : (rs : List ℕ) (rd v : ℕ) → length (put rs rd v) ≡ length rs
length-put rs rd v = elim (rd == 0) as (λ z. length (if z then rs else slice_set rs rd v) ≡ length rs) [ true ↦ refl | false ↦ length-set rs rd v ]

-- ---- words

word_address_aligned : (a : ℕ) → word_address a % 4 ≡ 0
word_address_aligned a = omega arith

word_address_whole : (a : ℕ) → a % 4 ≡ 0 → word_address a ≡ a
word_address_whole a h = omega arith

-- what a view lets the machine read and write, and read
abbrev view_own : View → ℕ → Option ℕ
view_own view = writable_words (view_words view)

abbrev view_readable : View → ℕ → Option ℕ
view_readable view = readable_words (view_words view)

-- an address shows an allowed place, whose word the machine has to be read
record Touches (view : View) (address place : ℕ) : Type 0 where
  pub shows : view.shown address ≡ shown.Place place
  pub allows : may_load (view.access place) ≡ true
  pub mapped : view_readable view (word_address address) ≡ Some (view.word_at place)

-- and to be written
record Owns (view : View) (address place : ℕ) : Type 0 where
  pub shows : view.shown address ≡ shown.Place place
  pub allows : may_store (view.access place) ≡ true
  pub mapped : view_own view (word_address address) ≡ Some (view.word_at place)

same_place : (p q : ℕ) → shown.Place p ≡ shown.Place q → q ≡ p
same_place p q e = cc

reads_stored : (c : Access) (v w : ℕ) → reads (stored_in c v) ≡ Some w → may_load c ≡ true
reads_stored no_access v w e = absurd (none-some w e)
reads_stored read_access v w e = refl
reads_stored full_access v w e = refl

writes_stored : (c : Access) (v w : ℕ) → writes (stored_in c v) ≡ Some w → may_store c ≡ true
writes_stored no_access v w e = absurd (none-some w e)
writes_stored read_access v w e = absurd (none-some w e)
writes_stored full_access v w e = refl

stored_reads : (c : Access) (v : ℕ) → may_load c ≡ true → reads (stored_in c v) ≡ Some v
stored_reads no_access v e = cc
stored_reads read_access v e = refl
stored_reads full_access v e = refl

stored_writes : (c : Access) (v : ℕ) → may_store c ≡ true → stored_in c v ≡ writable v
stored_writes no_access v e = cc
stored_writes read_access v e = cc
stored_writes full_access v e = refl

-- what an address shows whose word may be read, or written
read_place : (view : View) (a w : ℕ) (s : Shown) → view.shown a ≡ s → reads (shown_word s view) ≡ Some w → (place : ℕ) × (view.shown a ≡ shown.Place place) × (may_load (view.access place) ≡ true)
read_place view a w (shown.Place place) is e = (place, is, reads_stored (view.access place) (view.word_at place) w e)
read_place view a w shown.Page is e = absurd (none-some w e)
read_place view a w shown.Outside is e = absurd (none-some w e)

own_place : (view : View) (a w : ℕ) (s : Shown) → view.shown a ≡ s → writes (shown_word s view) ≡ Some w → (place : ℕ) × (view.shown a ≡ shown.Place place) × (may_store (view.access place) ≡ true)
own_place view a w (shown.Place place) is e = (place, is, writes_stored (view.access place) (view.word_at place) w e)
own_place view a w shown.Page is e = absurd (none-some w e)
own_place view a w shown.Outside is e = absurd (none-some w e)

touches_shown : (view : View) → IsMap view → (a place : ℕ) → view.shown a ≡ shown.Place place → may_load (view.access place) ≡ true → Touches view a place
touches_shown view map a place is allows =
    let test : (word_address a % 4 == 0) ≡ true = eq-eqb (word_address a % 4) 0 (word_address_aligned a) in
    let there : view.shown (word_address a) ≡ shown.Place place = sym (map.whole a) ∙ is in
    record { shows = is; allows = allows; mapped = rw (test, there) (stored_reads (view.access place) (view.word_at place) allows) }

owns_shown : (view : View) → IsMap view → (a place : ℕ) → view.shown a ≡ shown.Place place → may_store (view.access place) ≡ true → Owns view a place
owns_shown view map a place is allows =
    let test : (word_address a % 4 == 0) ≡ true = eq-eqb (word_address a % 4) 0 (word_address_aligned a) in
    let there : view.shown (word_address a) ≡ shown.Place place = sym (map.whole a) ∙ is in
    record { shows = is; allows = allows; mapped = rw (test, there) (ap (λ (s : Stored). writes s) (stored_writes (view.access place) (view.word_at place) allows)) }

touches_mapped : (view : View) → IsMap view → (a w : ℕ) → view_readable view (word_address a) ≡ Some w → (place : ℕ) × Touches view a place
touches_mapped view map a w e =
    let test : (word_address a % 4 == 0) ≡ true = eq-eqb (word_address a % 4) 0 (word_address_aligned a) in
    let there = read_place view (word_address a) w (view.shown (word_address a)) refl (rw test at e) in
    (there.0, touches_shown view map a there.0 (map.whole a ∙ there.1) there.2)

owns_mapped : (view : View) → IsMap view → (a w : ℕ) → view_own view (word_address a) ≡ Some w → (place : ℕ) × Owns view a place
owns_mapped view map a w e =
    let test : (word_address a % 4 == 0) ≡ true = eq-eqb (word_address a % 4) 0 (word_address_aligned a) in
    let there = own_place view (word_address a) w (view.shown (word_address a)) refl (rw test at e) in
    (there.0, owns_shown view map a there.0 (map.whole a ∙ there.1) there.2)

-- a word that is put in its place is put at its address
words_put : (view : View) (a place x : ℕ) → IsMap view → Owns view a place → view_words (with_place view place x) ≡ with_word (view_words view) (word_address a) x
words_put view a place x map touches = λ i b. at b i
  where
    after : View
    after = with_place view place x

    there : view.shown (word_address a) ≡ shown.Place place
    there = sym (map.whole a) ∙ touches.shows

    in_other : (q : ℕ) → q ≢ place → shown_word (shown.Place q) after ≡ shown_word (shown.Place q) view
    in_other q other = elim (eqb_tells q place) [
      | inl h ↦ absurd (other h.1)
      | inr h ↦ rw h.0 refl
    ]

    other_word : (s : Shown) (b : ℕ) → view.shown b ≡ s → b % 4 ≡ 0 → b ≢ word_address a → shown_word s after ≡ shown_word s view
    other_word (shown.Place q) b is whole other =
        in_other q (λ e. other (sym (word_address_whole b whole) ∙ map.apart b a place (is ∙ ap shown.Place e) touches.shows))
    other_word shown.Page b is whole other = refl
    other_word shown.Outside b is whole other = refl

    at_other : (b : ℕ) → b ≢ word_address a → ((b % 4 == 0) ≡ true × (b % 4 ≡ 0)) ⊎ ((b % 4 == 0) ≡ false × (b % 4 ≢ 0)) → view_words after b ≡ view_words view b
    at_other b other (inl h) = rw h.0 (other_word (view.shown b) b refl h.1 other)
    at_other b other (inr h) = rw h.0 refl

    at : (b : ℕ) → view_words after b ≡ with_word (view_words view) (word_address a) x b
    at b = elim (eqb_tells b (word_address a)) [
      | inl h ↦
          let test : (word_address a % 4 == 0) ≡ true = eq-eqb (word_address a % 4) 0 (word_address_aligned a) in
          let here : (place == place) ≡ true = eq-eqb place place refl in
          let right : with_word (view_words view) (word_address a) x b ≡ writable x = rw h.0 refl in
          let left : view_words after (word_address a) ≡ writable x = rw (test, there, stored_writes (view.access place) (if place == place then x else view.word_at place) touches.allows, here) refl in
          ap (view_words after) h.1 ∙ left ∙ sym right
      | inr h ↦
          let right : with_word (view_words view) (word_address a) x b ≡ view_words view b = rw h.0 refl in
          at_other b h.1 (eqb_tells (b % 4) 0) ∙ sym right
    ]

-- ---- changes

-- a change of a view and a change of its words are the same
record SameChange (view : View) (of_words of_view : Change) : Type 0 where
  pub same_result : of_view.result ≡ of_words.result
  pub same_next : of_view.next ≡ of_words.next
  pub same_write : view_words (put_write view of_view.write) ≡ with_write (view_words view) of_words.write

same_goes : (view : View) (result : Option ℕ) (address : ℕ) → SameChange view (goes_on result address) (goes_on result address)
same_goes view result address = record { same_result = refl; same_next = refl; same_write = refl }

same_stop : (view : View) (next : Next) → SameChange view (stops next) (stops next)
same_stop view next = record { same_result = refl; same_next = refl; same_write = refl }

same_choice : (view : View) (b : Bool) (c d : Change) → SameChange view c c → SameChange view d d → SameChange view (if b then c else d) (if b then c else d)
same_choice view true c d first second = first
same_choice view false c d first second = second

same_load : (view : View) (size : Size) (sign : Bool) (a place pc : ℕ) → Touches view a place
    → SameChange view (load_change (mapped_cell (view_readable view) a) size sign a pc) (load_change (cell_at view a) size sign a pc)
same_load view size sign a place pc touches = rw (touches.mapped, touches.shows) (same_goes view _ _)

same_store : (view : View) (size : Size) (a value place pc : ℕ) → IsMap view → Owns view a place
    → SameChange view (store_change (mapped_cell (view_own view) a) size a value pc) (store_change (cell_at view a) size a value pc)
same_store view size a value place pc map touches = rw (touches.mapped, touches.shows) (record {
  same_result = refl;
  same_next = refl;
  same_write = words_put view a place (stored_word size a (view.word_at place) value) map touches;
})

fault_is_no_address : (kind : FaultKind) (a address : ℕ) → Fault kind a ≡ At address → ⊥
fault_is_no_address kind a address e = cc

-- where an access goes on, its word is mapped
load_mapped : (word : Option ℕ) (size : Size) (sign : Bool) (a address pc : ℕ) → (load_change (word_cell word (word_address a)) size sign a pc).next ≡ At address → (w : ℕ) × (word ≡ Some w)
load_mapped (Some w) size sign a address pc e = (w, refl)
load_mapped None size sign a address pc e = absurd (fault_is_no_address faults.Place a address e)

store_mapped : (word : Option ℕ) (size : Size) (a value address pc : ℕ) → (store_change (word_cell word (word_address a)) size a value pc).next ≡ At address → (w : ℕ) × (word ≡ Some w)
store_mapped (Some w) size a value address pc e = (w, refl)
store_mapped None size a value address pc e = absurd (fault_is_no_address faults.Place a address e)

-- and a place is shown
load_shown : (view : View) (s : Shown) (size : Size) (sign : Bool) (a address pc : ℕ) → (load_change (shown_cell s view.word_at) size sign a pc).next ≡ At address → (place : ℕ) × (s ≡ shown.Place place)
load_shown view (shown.Place place) size sign a address pc e = (place, refl)
load_shown view shown.Page size sign a address pc e = absurd (page_is_no_address e)
  where
    page_is_no_address : PageFault a ≡ At address → ⊥
    page_is_no_address e = cc
load_shown view shown.Outside size sign a address pc e = absurd (fault_is_no_address faults.Place a address e)

store_shown : (view : View) (s : Shown) (size : Size) (a value address pc : ℕ) → (store_change (shown_cell s view.word_at) size a value pc).next ≡ At address → (place : ℕ) × (s ≡ shown.Place place)
store_shown view (shown.Place place) size a value address pc e = (place, refl)
store_shown view shown.Page size a value address pc e = absurd (page_is_no_address e)
  where
    page_is_no_address : PageFault a ≡ At address → ⊥
    page_is_no_address e = cc
store_shown view shown.Outside size a value address pc e = absurd (fault_is_no_address faults.Place a address e)

module _ (view : View) (map : IsMap view) (pc : ℕ) where
  abbrev word_change : Action → Change
  word_change asks = action_change (mapped_cell (view_readable view)) (mapped_cell (view_own view)) asks pc

  abbrev view_change : Action → Change
  view_change asks = action_change (cell_at view) (cell_at view) asks pc

  -- the word of an access that goes on is mapped
  access_by_mapped : (size : Size) (a address : ℕ) (b : Bool) (c : Change) → ((e : c.next ≡ At address) → (w : ℕ) × (view_readable view (word_address a) ≡ Some w))
      → (if b then c else stops (Fault faults.Align a)).next ≡ At address → (b ≡ true) × ((place : ℕ) × Touches view a place)
  access_by_mapped size a address true c found e = let word = found e in (refl, touches_mapped view map a word.0 word.1)
  access_by_mapped size a address false c found e = absurd (fault_is_no_address faults.Align a address e)

  put_by_mapped : (size : Size) (a address : ℕ) (b : Bool) (c : Change) → ((e : c.next ≡ At address) → (w : ℕ) × (view_own view (word_address a) ≡ Some w))
      → (if b then c else stops (Fault faults.Align a)).next ≡ At address → (b ≡ true) × ((place : ℕ) × Owns view a place)
  put_by_mapped size a address true c found e = let word = found e in (refl, owns_mapped view map a word.0 word.1)
  put_by_mapped size a address false c found e = absurd (fault_is_no_address faults.Align a address e)

  -- where the machine goes on, the view changes as its words do
  same_by_words : (asks : Action) (address : ℕ) → (word_change asks).next ≡ At address → SameChange view (word_change asks) (view_change asks)
  same_by_words (Sets v) address e = same_goes view _ _
  same_by_words Passes address e = same_goes view _ _
  same_by_words (Goes t) address e = same_choice view (t % 4 == 0) _ _ (same_goes view _ _) (same_stop view _)
  same_by_words (Links t) address e = same_choice view (t % 4 == 0) _ _ (same_goes view _ _) (same_stop view _)
  same_by_words (Loads size sign a) address e =
      let there = access_by_mapped size a address (is_aligned size a) _ (load_mapped (view_readable view (word_address a)) size sign a address pc) e in
      rw there.0 (same_load view size sign a there.1.0 pc there.1.1)
  same_by_words (Stores size a v) address e =
      let there = put_by_mapped size a address (is_aligned size a) _ (store_mapped (view_own view (word_address a)) size a v address pc) e in
      rw there.0 (same_store view size a v there.1.0 pc map there.1.1)
  same_by_words Serves address e = same_stop view _
  same_by_words Breaks address e = same_stop view _

  -- and what it touches is allowed
  access_by_words : (asks : Action) (address : ℕ) → (word_change asks).next ≡ At address → MayAccess view asks
  access_by_words (Sets v) address e = tt
  access_by_words Passes address e = tt
  access_by_words (Goes t) address e = tt
  access_by_words (Links t) address e = tt
  access_by_words (Loads size sign a) address e =
      let there = access_by_mapped size a address (is_aligned size a) _ (load_mapped (view_readable view (word_address a)) size sign a address pc) e in
      λ aligned place is. subst (λ p. IsTrue (may_load (view.access p))) (sym (same_place there.1.0 place (sym there.1.1.shows ∙ is))) there.1.1.allows
  access_by_words (Stores size a v) address e =
      let there = put_by_mapped size a address (is_aligned size a) _ (store_mapped (view_own view (word_address a)) size a v address pc) e in
      λ aligned place is. subst (λ p. IsTrue (may_store (view.access p))) (sym (same_place there.1.0 place (sym there.1.1.shows ∙ is))) there.1.1.allows
  access_by_words Serves address e = tt
  access_by_words Breaks address e = tt

  -- an access that is allowed and goes on
  access_by_shown : (a address : ℕ) (b : Bool) (c : Change) → (IsTrue b → (place : ℕ) → view.shown a ≡ shown.Place place → IsTrue (may_load (view.access place)))
      → (c.next ≡ At address → (place : ℕ) × (view.shown a ≡ shown.Place place)) → (if b then c else stops (Fault faults.Align a)).next ≡ At address
      → (b ≡ true) × ((place : ℕ) × Touches view a place)
  access_by_shown a address true c may found e = let at = found e in (refl, (at.0, touches_shown view map a at.0 at.1 (may refl at.0 at.1)))
  access_by_shown a address false c may found e = absurd (fault_is_no_address faults.Align a address e)

  put_by_shown : (a address : ℕ) (b : Bool) (c : Change) → (IsTrue b → (place : ℕ) → view.shown a ≡ shown.Place place → IsTrue (may_store (view.access place)))
      → (c.next ≡ At address → (place : ℕ) × (view.shown a ≡ shown.Place place)) → (if b then c else stops (Fault faults.Align a)).next ≡ At address
      → (b ≡ true) × ((place : ℕ) × Owns view a place)
  put_by_shown a address true c may found e = let at = found e in (refl, (at.0, owns_shown view map a at.0 at.1 (may refl at.0 at.1)))
  put_by_shown a address false c may found e = absurd (fault_is_no_address faults.Align a address e)

  -- where the view goes on and may be access_by_mapped, its words change as it does
  same_by_view : (asks : Action) (address : ℕ) → MayAccess view asks → (view_change asks).next ≡ At address → SameChange view (word_change asks) (view_change asks)
  same_by_view (Sets v) address may e = same_goes view _ _
  same_by_view Passes address may e = same_goes view _ _
  same_by_view (Goes t) address may e = same_choice view (t % 4 == 0) _ _ (same_goes view _ _) (same_stop view _)
  same_by_view (Links t) address may e = same_choice view (t % 4 == 0) _ _ (same_goes view _ _) (same_stop view _)
  same_by_view (Loads size sign a) address may e =
      let there = access_by_shown a address (is_aligned size a) _ may (load_shown view (view.shown a) size sign a address pc) e in
      rw there.0 (same_load view size sign a there.1.0 pc there.1.1)
  same_by_view (Stores size a v) address may e =
      let there = put_by_shown a address (is_aligned size a) _ may (store_shown view (view.shown a) size a v address pc) e in
      rw there.0 (same_store view size a v there.1.0 pc map there.1.1)
  same_by_view Serves address may e = same_stop view _
  same_by_view Breaks address may e = same_stop view _

-- ---- one instruction

-- where a machine goes on, and what it is then
next_is : (next : Next) (result : Option ℕ) (rd : ℕ) (write : Option (ℕ × ℕ)) (m last : Machine) → next_machine next result rd write m ≡ Some last
    → (next ≡ At last.counter) × (record { registers = with_result m.registers rd result; counter = last.counter; words = with_write m.words write } ≡ last)
next_is (At address) result rd write m last e =
    let made = same_Some _ last e in
    let here : address ≡ last.counter = ap (λ (n : Machine). n.counter) made in
    (ap At here, ap (λ c. record { registers = with_result m.registers rd result; counter = c; words = with_write m.words write }) (sym here) ∙ made)
next_is Service result rd write m last e = absurd (none-some last e)
next_is (PageFault a) result rd write m last e = absurd (none-some last e)
next_is (Fault kind a) result rd write m last e = absurd (none-some last e)

module _ (view : View) (map : IsMap view) (rs : List ℕ) (pc : ℕ) (i : Operation) (within : i.rd < length rs) where
  abbrev before : Machine
  before = machine_of view rs pc

  abbrev asks : Action
  asks = action_at i (slice_index rs) pc

  -- the outcome's machine, where the changes are the same
  changed_machine : (address : ℕ) → SameChange view (word_change view map pc asks) (view_change view map pc asks)
      → machine_of (outcome view i rs pc).memory (outcome view i rs pc).registers address
      ≡ record { registers = with_result (slice_index rs) i.rd (word_change view map pc asks).result; counter = address; words = with_write (view_words view) (word_change view map pc asks).write }
  changed_machine address same =
      same_machine _ _ (put_result_register rs i.rd (view_change view map pc asks).result within ∙ ap (with_result (slice_index rs) i.rd) same.same_result) refl same.same_write

  -- a step of the machine is that of the outcome
  pub outcome_by_machine : (m : Machine) → machine_after i before ≡ Some m
      → ((outcome view i rs pc).next ≡ At m.counter) × (machine_of (outcome view i rs pc).memory (outcome view i rs pc).registers m.counter ≡ m)
  outcome_by_machine m e =
      let change = word_change view map pc asks in
      let goes = next_is change.next change.result i.rd change.write before m e in
      let same = same_by_words view map pc asks m.counter goes.0 in
      (same.same_next ∙ goes.0, changed_machine m.counter same ∙ goes.1)

  -- an outcome that goes on is a step of the machine
  pub machine_by_outcome : (address : ℕ) → MayAccess view asks → (outcome view i rs pc).next ≡ At address
      → machine_after i before ≡ Some (machine_of (outcome view i rs pc).memory (outcome view i rs pc).registers address)
  machine_by_outcome address may e =
      let change = word_change view map pc asks in
      let same = same_by_view view map pc asks address may e in
      let next : change.next ≡ At address = sym same.same_next ∙ e in
      ap (λ (n : Next). next_machine n change.result i.rd change.write before) next ∙ ap Some (sym (changed_machine address same))

-- a step of the machine touches what is allowed
pub access_by_machine : (view : View) → IsMap view → (rs : List ℕ) (pc : ℕ) (i : Operation) (m : Machine) → machine_after i (machine_of view rs pc) ≡ Some m
    → MayAccess view (action_at i (slice_index rs) pc)
access_by_machine view map rs pc i m e =
    let asks = action_at i (slice_index rs) pc in
    let change = word_change view map pc asks in
    access_by_words view map pc asks m.counter (next_is change.next change.result i.rd change.write (machine_of view rs pc) m e).0
