-- What a page map shows, and what a store leaves of a grant.
use Rattle.std.proofs.Common.{◌≡◌, ◌↔◌, ℕ, zero, suc, ◌+◌, ◌-◌, ◌*◌, ◌/◌, ◌%◌, ◌<◌, List, [], ◌∷◌, sym, refl, ap, ◌∙◌, subst, Bool, true, false}
use Rattle.std.proofs.lemmas.Bool.{false≢true, lt-ltb, ltb-true}
use Rattle.std.specs.Prelude.{Option, None, Some, nat_lt, if◌then◌else◌, slice_get, slice_set, IsTrue}
use Rattle.atomic_table.specs.Seated.{TableId}
use Rattle.cm_hart.specs.Step.{hart_machine}
use Rattle.cm_hart.specs.declared.hart.Halt.{Halt}
use Rattle.cm_hart.specs.declared.hart.Halt.TheVariants.{Going}
use Rattle.cm_hart.specs.declared.hart.Hart.{Hart}
use Rattle.cm_isa.specs.Address.{InstructionAt}
use Rattle.cm_isa.specs.Machine.{IsMap, Machine, StepsTo}
use Rattle.cm_isa.specs.View.{View, may_store}
use Rattle.cm_isa.specs.declared.memory.Shown.{Shown}
use Rattle.cm_isa.specs.declared.memory.Shown.TheVariants.{Place, Page, Outside}
use Rattle.cm_maps.specs.Pages.{MapState}
use Rattle.cm_maps.specs.Shown.{Shows}
use Rattle.cm_maps.specs.declared.map.TheConstants.{STACK_TOP}
use Rattle.cm_share.specs.Share.{Share, whole, part}
use Rattle.cm_words.specs.Held.{Held, nothing, held, cell}
use Rattle.cm_worker.specs.GrantView.{Known, unmapped_shown, page_shown, map_shown, held_access, held_share, shares, grant_view}

by_number : (o : Option ℕ) (low page address : ℕ) → ((number : ℕ) → o ≡ Some number → ⊥) → page_shown o low page address ≡ unmapped_shown low address
by_number None low page address h = refl
by_number (Some number) low page address h = absurd (h number refl)

-- where no place is shown
pub no_place : (low : ℕ) (map : MapState) (address : ℕ) → address < STACK_TOP → ((place : ℕ) → Shows map address place → ⊥) → map_shown low map address ≡ unmapped_shown low address
no_place low map address less h =
    let e : nat_lt address STACK_TOP ≡ true = lt-ltb address STACK_TOP less in
    rw e (by_number (slice_get map.pages ((STACK_TOP - 1 - address) / map.page)) low map.page address (λ number there. h _ (less, (number, there, refl))))

abbrev place_or : Shown → ℕ
place_or (Place place) = place
place_or Page = 0
place_or Outside = 0

abbrev IsPlace : Shown → Type 0
IsPlace (Place place) = Unit {0}
IsPlace Page = ⊥
IsPlace Outside = ⊥

abbrev pub number_or : Option ℕ → ℕ
number_or None = 0
number_or (Some number) = number

abbrev pub IsNumber : Option ℕ → Type 0
IsNumber None = ⊥
IsNumber (Some number) = Unit {0}

unmapped_none : (b : Bool) (place : ℕ) → (if b then Outside else Page) ≡ Place place → ⊥
unmapped_none true place e = subst IsPlace (sym e) tt
unmapped_none false place e = subst IsPlace (sym e) tt

placed_by : (b : Bool) (o : Option ℕ) (low page address place : ℕ) → (if b then page_shown o low page address else Outside) ≡ Place place
    → (b ≡ true) × ((number : ℕ) × (o ≡ Some number) × (number * (page / 4) + address % page / 4 ≡ place))
placed_by false o low page address place e = absurd (subst IsPlace (sym e) tt)
placed_by true None low page address place e = absurd (unmapped_none (nat_lt address low) place e)
placed_by true (Some number) low page address place e = (refl, (number, refl, ap place_or e))

-- where a place is shown: the address is below STACK_TOP, in a page of the map
pub placed : (low : ℕ) (map : MapState) (address place : ℕ) → map_shown low map address ≡ Place place
    → (address < STACK_TOP) × (number : ℕ) × (slice_get map.pages ((STACK_TOP - 1 - address) / map.page) ≡ Some number) × (number * (map.page / 4) + address % map.page / 4 ≡ place)
placed low map address place e =
    let p = placed_by (nat_lt address STACK_TOP) (slice_get map.pages ((STACK_TOP - 1 - address) / map.page)) low map.page address place e in
    (ltb-true address STACK_TOP p.0, p.1.0, p.1.1, p.1.2)

-- a word that may be written is held whole
whole_of : (c : Held) → IsTrue (may_store (held_access c)) → (old : ℕ) × (c ≡ held whole old)
whole_of nothing h = absurd (false≢true h)
whole_of (held whole word) h = (word, refl)
whole_of (held (part p) word) h = absurd (false≢true h)

same_shares : (cells : List Held) (at old word : ℕ) → cell cells at ≡ held whole old → shares (slice_set cells at (held whole word)) ≡ shares cells
same_shares [] at old word e = refl
same_shares (c ∷ cells) zero old word e = ap (λ z. z ∷ shares cells) (sym (ap held_share e))
same_shares (c ∷ cells) (suc at) old word e = ap (λ z. held_share c ∷ z) (same_shares cells at old word e)

-- a store keeps all shares
pub stored_shares : (cells new : List Held) (at word : ℕ) → IsTrue (may_store (held_access (cell cells at))) → new ≡ slice_set cells at (held whole word) → shares new ≡ shares cells
stored_shares cells new at word may e = ap shares e ∙ same_shares cells at (whole_of (cell cells at) may).0 word (whole_of (cell cells at) may).1

-- what the owner knows, with the same region and the same shares
pub same_known : (name low : ℕ) (map : MapState) (r s : TableId) (a b : List (Option Share)) → r ≡ s → a ≡ b
    → ◌≡◌ {A = Known} (record { name = name; region = r; shares_of = a; low = low; map = map }) (record { name = name; region = s; shares_of = b; low = low; map = map })
same_known name low map r s a b d e i = record { name = name; region = d i; shares_of = e i; low = low; map = map }

-- what a step of the machine leaves, with the words of a grant
abbrev Steps : (image : List ℕ) (old new : View) (hart after : Hart) (answer : Halt) → Type 0
Steps image old new hart after answer = IsMap old → (m : Machine) → StepsTo (InstructionAt image) (hart_machine old hart) m ↔ ((answer ≡ Going) × (m ≡ hart_machine new after))

pub by_grant : (low : ℕ) (map : MapState) (old new : List Held) (other_low : ℕ) (other_map : MapState) (other : List Held) (image : List ℕ) (hart after : Hart) (answer : Halt)
    → Steps image (grant_view low map old) (grant_view other_low other_map other) hart after answer → grant_view other_low other_map other ≡ grant_view low map new
    → Steps image (grant_view low map old) (grant_view low map new) hart after answer
by_grant low map old new other_low other_map other image hart after answer h e = subst (λ z. Steps image (grant_view low map old) z hart after answer) e h
