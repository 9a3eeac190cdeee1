-- A map whose pages are distinct shows each place at the four bytes of one word.
use Rattle.std.proofs.Common.{◌≡◌, ℕ, zero, suc, ◌+◌, ◌-◌, ◌*◌, ◌/◌, ◌%◌, ◌<◌, ◌≤◌, ◌⊎◌, inl, inr, List, [], ◌∷◌, length, sym, refl, ap, ◌∙◌, subst, arith}
use Rattle.std.proofs.lemmas.Bool.{lt-ltb, le-ltb, cases_lt}
use Rattle.std.specs.Prelude.{Option, None, Some, nat_lt, if◌then◌else◌, slice_get, slice_index_or}
use Rattle.cm_isa.specs.Machine.{IsMap, word_address}
use Rattle.cm_isa.specs.declared.memory.Shown.TheVariants.{Place, Page, Outside}
use Rattle.cm_maps.specs.Pages.{IsPage, MapState, AreDistinct}
use Rattle.cm_maps.specs.declared.map.TheConstants.{STACK_TOP}
use Rattle.cm_words.specs.Held.{Held}
use Rattle.cm_worker.proofs.WordsLaw.{IsNumber, number_or, placed}
use Rattle.cm_worker.specs.GrantView.{page_shown, map_shown, grant_view}

-- ---- the numbers, for each size of pages

by_page : (P : ℕ → Type 0) → P 256 → P 1024 → P 4096 → (page : ℕ) → IsPage page → P page
by_page P a b c page (inl e) = subst P (sym e) a
by_page P a b c page (inr (inl e)) = subst P (sym e) b
by_page P a b c page (inr (inr e)) = subst P (sym e) c

same_index : (a page : ℕ) → IsPage page → (1073741824 - 1 - a) / page ≡ (1073741824 - 1 - (a - a % 4)) / page
same_index a = by_page (λ page. (1073741824 - 1 - a) / page ≡ (1073741824 - 1 - (a - a % 4)) / page) (omega arith) (omega arith) (omega arith)

same_offset : (a page : ℕ) → IsPage page → a % page / 4 ≡ (a - a % 4) % page / 4
same_offset a = by_page (λ page. a % page / 4 ≡ (a - a % 4) % page / 4) (omega arith) (omega arith) (omega arith)

same_number : (n m a b page : ℕ) → IsPage page → n * (page / 4) + a % page / 4 ≡ m * (page / 4) + b % page / 4 → n ≡ m
same_number n m a b = by_page (λ page. n * (page / 4) + a % page / 4 ≡ m * (page / 4) + b % page / 4 → n ≡ m) (λ h. omega (arith, h)) (λ h. omega (arith, h)) (λ h. omega (arith, h))

same_word : (n a b page : ℕ) → IsPage page → a < 1073741824 → b < 1073741824 → (1073741824 - 1 - a) / page ≡ (1073741824 - 1 - b) / page
    → n * (page / 4) + a % page / 4 ≡ n * (page / 4) + b % page / 4 → a - a % 4 ≡ b - b % 4
same_word n a b = by_page
    (λ page. a < 1073741824 → b < 1073741824 → (1073741824 - 1 - a) / page ≡ (1073741824 - 1 - b) / page → n * (page / 4) + a % page / 4 ≡ n * (page / 4) + b % page / 4 → a - a % 4 ≡ b - b % 4)
    (λ f g h k. omega (arith, f, g, h, k))
    (λ f g h k. omega (arith, f, g, h, k))
    (λ f g h k. omega (arith, f, g, h, k))

same_side : (a limit : ℕ) → limit % 4 ≡ 0 → nat_lt a limit ≡ nat_lt (a - a % 4) limit
same_side a limit h = by (cases_lt a limit)
  where
    by : (a < limit) ⊎ (limit ≤ a) → nat_lt a limit ≡ nat_lt (a - a % 4) limit
    by (inl less) = lt-ltb a limit less ∙ sym (lt-ltb (a - a % 4) limit (omega (arith, less)))
    by (inr more) = le-ltb a limit more ∙ sym (le-ltb (a - a % 4) limit (omega (arith, more, h)))

-- ---- one word at its four bytes

same_page : (o : Option ℕ) (low page a b : ℕ) → a % page / 4 ≡ b % page / 4 → nat_lt a low ≡ nat_lt b low → page_shown o low page a ≡ page_shown o low page b
same_page None low page a b e t = ap (λ z. if z then Outside else Page) t
same_page (Some number) low page a b e t = ap (λ z. Place (number * (page / 4) + z)) e

whole : (low : ℕ) (map : MapState) (a : ℕ) → low % 4 ≡ 0 → IsPage map.page → map_shown low map a ≡ map_shown low map (word_address a)
whole low map a even size =
    let top = same_side a STACK_TOP refl in
    let page = ap (λ z. page_shown (slice_get map.pages z) low map.page a) (same_index a map.page size)
    ∙ same_page (slice_get map.pages ((STACK_TOP - 1 - word_address a) / map.page)) low map.page a (word_address a) (same_offset a map.page size) (same_side a low even) in
    λ i. if top i then page i else Outside

-- ---- one word at each place

got : (pages : List ℕ) (i number : ℕ) → slice_get pages i ≡ Some number → (i < length pages) × (slice_index_or pages i 0 ≡ number)
got [] i number e = absurd (subst IsNumber (sym e) tt)
got (page ∷ pages) zero number e = (omega arith, ap (λ o. number_or o) e)
got (page ∷ pages) (suc i) number e = let t = got pages i number e in (let l = t.0 in omega (arith, l), t.1)

one_index : (pages : List ℕ) (i j number : ℕ) → AreDistinct pages → slice_get pages i ≡ Some number → slice_get pages j ≡ Some number → i ≡ j
one_index pages i j number distinct e f = by (cases_lt i j) (cases_lt j i)
  where
    by : (i < j) ⊎ (j ≤ i) → (j < i) ⊎ (i ≤ j) → i ≡ j
    by (inl less) o = absurd (distinct i j 0 less (got pages j number f).0 ((got pages i number e).1 ∙ sym (got pages j number f).1))
    by (inr most) (inl less) = absurd (distinct j i 0 less (got pages i number e).0 ((got pages j number f).1 ∙ sym (got pages i number e).1))
    by (inr most) (inr least) = omega (arith, most, least)

apart : (low : ℕ) (map : MapState) (a b place : ℕ) → IsPage map.page → AreDistinct map.pages → map_shown low map a ≡ Place place → map_shown low map b ≡ Place place → word_address a ≡ word_address b
apart low map a b place size distinct e f =
    let p = placed low map a place e in
    let q = placed low map b place f in
    let n = same_number p.1 q.1 a b map.page size (p.3 ∙ sym q.3) in
    let there = subst (λ z. slice_get map.pages ((STACK_TOP - 1 - b) / map.page) ≡ Some z) (sym n) q.2 in
    same_word p.1 a b map.page size p.0 q.0
    (one_index map.pages ((STACK_TOP - 1 - a) / map.page) ((STACK_TOP - 1 - b) / map.page) p.1 distinct p.2 there)
    (p.3 ∙ sym (subst (λ z. z * (map.page / 4) + b % map.page / 4 ≡ place) (sym n) q.3))

pub grant_is_map : (low : ℕ) (map : MapState) (cells : List Held) → low % 4 ≡ 0 → IsPage map.page → AreDistinct map.pages → IsMap (grant_view low map cells)
grant_is_map low map cells even size distinct = record { whole = λ a. whole low map a even size; apart = λ a b place. apart low map a b place size distinct }
