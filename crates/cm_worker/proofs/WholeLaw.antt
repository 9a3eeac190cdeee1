-- A grant that has the whole of each word of page 1, of pages of 256 bytes, where a map shows this page alone.
use Rattle.std.proofs.Common.{◌≡◌, ℕ, zero, suc, ◌+◌, ◌-◌, ◌*◌, ◌/◌, ◌%◌, ◌<◌, ◌≤◌, List, [], ◌∷◌, sym, refl, ap, ◌∙◌, subst, Bool, true, false, arith}
use Rattle.std.proofs.lemmas.Bool.{false≢true}
use Rattle.std.specs.Prelude.{Option, None, Some, ◌&&◌, slice_get, slice_index_or, IsTrue}
use Rattle.cm_isa.specs.declared.execution.Action.{Action}
use Rattle.cm_isa.specs.declared.execution.Action.TheVariants.{Sets, Passes, Goes, Links, Loads, Stores, Serves, Breaks}
use Rattle.cm_isa.specs.Effect.{MayAccess}
use Rattle.cm_isa.specs.View.{View, full_access, may_load, may_store}
use Rattle.cm_isa.specs.declared.memory.Shown.TheVariants.{Place}
use Rattle.cm_hart.specs.Step.{MayStep}
use Rattle.cm_hart.specs.declared.hart.Hart.{Hart}
use Rattle.cm_maps.specs.Pages.{MapState}
use Rattle.cm_maps.specs.declared.map.TheConstants.{STACK_TOP}
use Rattle.cm_share.specs.Share.{Share, whole, part}
use Rattle.cm_words.specs.Every.{every}
use Rattle.cm_words.specs.Held.{Held, nothing, held, cell, HeldSum, IsHeld, is_whole}
use Rattle.cm_words.proofs.EveryLaw.{each_of, held_right}
use Rattle.cm_worker.proofs.WordsLaw.{IsNumber, number_or, placed}
use Rattle.cm_worker.specs.GrantView.{map_shown, held_access, held_share, shares, grant_view}

-- ---- any instruction may be done where each place that is shown may be written

may_access : (view : View) → ((a place : ℕ) → view.shown a ≡ Place place → view.access place ≡ full_access) → (x : Action) → MayAccess view x
may_access view full (Loads size sign address) = λ aligned place there. subst (λ z. IsTrue (may_load z)) (sym (full address place there)) refl
may_access view full (Stores size address value) = λ aligned place there. subst (λ z. IsTrue (may_store z)) (sym (full address place there)) refl
may_access view full (Sets value) = tt
may_access view full Passes = tt
may_access view full (Goes target) = tt
may_access view full (Links target) = tt
may_access view full Serves = tt
may_access view full Breaks = tt

-- ---- the places of the page

only_one : (index number : ℕ) → slice_get (1 ∷ []) index ≡ Some number → number ≡ 1
only_one zero number e = sym (ap number_or e)
only_one (suc index) number e = absurd (subst IsNumber (sym e) tt)

in_page : (number page address place : ℕ) → number ≡ 1 → page ≡ 256 → number * (page / 4) + address % page / 4 ≡ place → (64 ≤ place) × (place < 128)
in_page number page address place one size at =
    let it : 1 * (256 / 4) + address % 256 / 4 ≡ place = subst (λ z. z * (256 / 4) + address % 256 / 4 ≡ place) one (subst (λ z. number * (z / 4) + address % z / 4 ≡ place) size at) in
    (omega (arith, it), omega (arith, it))

whole_access : (c : Held) → is_whole c ≡ true → held_access c ≡ full_access
whole_access nothing h = absurd (false≢true h)
whole_access (held whole word) h = refl
whole_access (held (part p) word) h = absurd (false≢true h)

whole_at : (cells : List Held) → every is_whole 1 64 64 cells ≡ true → (place : ℕ) → 64 ≤ place → place < 128 → is_whole (cell cells place) ≡ true
whole_at cells h place low high =
    let e : 64 + 1 * (place - 64) ≡ place = omega arith in
    subst (λ z. is_whole (cell cells z) ≡ true) e (each_of is_whole 1 64 64 cells h (place - 64) (omega arith))

page_access : (low : ℕ) (map : MapState) (cells : List Held) → map.page ≡ 256 → map.pages ≡ 1 ∷ [] → every is_whole 1 64 64 cells ≡ true
    → (a place : ℕ) → map_shown low map a ≡ Place place → held_access (cell cells place) ≡ full_access
page_access low map cells size pages h a place e =
    let p = placed low map a place e in
    let inside = in_page p.1 map.page a place (only_one _ p.1 (ap (λ z. slice_get z ((STACK_TOP - 1 - a) / map.page)) (sym pages) ∙ p.2)) size p.3 in
    whole_access (cell cells place) (whole_at cells h place inside.0 inside.1)

pub may_step : (low : ℕ) (map : MapState) (cells : List Held) (image : List ℕ) (hart : Hart) → map.page ≡ 256 → map.pages ≡ 1 ∷ [] → every is_whole 1 64 64 cells ≡ true
    → MayStep (grant_view low map cells) image hart
may_step low map cells image hart size pages h i there = may_access (grant_view low map cells) (page_access low map cells size pages h) _

-- ---- what the same shares are the whole of

abbrev whole_share : Option Share → Bool
whole_share None = false
whole_share (Some whole) = true
whole_share (Some (part p)) = false

by_share : (c : Held) → is_whole c ≡ whole_share (held_share c)
by_share nothing = refl
by_share (held whole word) = refl
by_share (held (part p) word) = refl

share_at : (cells : List Held) (i : ℕ) → held_share (cell cells i) ≡ slice_index_or (shares cells) i None
share_at [] i = refl
share_at (c ∷ cells) zero = refl
share_at (c ∷ cells) (suc i) = share_at cells i

same_whole : (a b : List Held) (i : ℕ) → shares a ≡ shares b → is_whole (cell a i) ≡ is_whole (cell b i)
same_whole a b i e = by_share (cell a i) ∙ ap whole_share (share_at a i ∙ ap (λ z. slice_index_or z i None) e ∙ sym (share_at b i)) ∙ sym (by_share (cell b i))

pub every_same : (step count at : ℕ) (a b : List Held) → shares a ≡ shares b → every is_whole step count at a ≡ every is_whole step count at b
every_same step zero at a b e = refl
every_same step (suc count) at a b e =
    let first = same_whole a b at e in
    let others = every_same step count (at + step) a b e in
    λ i. first i && others i

-- ---- the grant with others again

pub held_again : (a b c : List Held) → ((i : ℕ) → HeldSum (cell a i) (cell b i) (cell c i)) → every is_whole 1 64 64 b ≡ true → IsHeld (cell c 126)
held_again a b c s h = held_right (cell a 126) (cell b 126) (cell c 126) (s 126) (whole_at b h 126 (omega arith) (omega arith))
