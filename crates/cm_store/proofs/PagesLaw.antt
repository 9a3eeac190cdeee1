-- Two pages: what their grants have, and where they are when one was moved to another store.
use Rattle.std.proofs.Common.{◌≡◌, ℕ, zero, suc, ◌+◌, ◌≤◌, List, [], ◌∷◌, ◌++◌, length, sym, refl, ap, ◌∙◌, subst, Bool, true, false, arith}
use Rattle.std.proofs.lemmas.Bool.{le-ltb, leb-true, and_parts}
use Rattle.std.proofs.lemmas.List.{length-append}
use Rattle.std.specs.Prelude.{◌&&◌, nat_lt, nat_le, reverse, drop}
use Rattle.cm_store.specs.PageWords.{PageState}
use Rattle.cm_store.specs.StoreState.{StoreState}
use Rattle.cm_words.specs.Held.{Held, cell, is_held, is_whole, in_span}

-- ---- a page's words, found by computing

abbrev same : Bool → Bool → Bool
same true b = b
same false true = false
same false false = true

same_is : (a b : Bool) → same a b ≡ true → a ≡ b
same_is true b e = sym e
same_is false true e = e
same_is false false e = refl

-- of the places from k on, exactly those of the span are held, and wholly
abbrev pub are_held : (first count k : ℕ) → List Held → Bool
are_held first count k [] = nat_le (first + count) k
are_held first count k (c ∷ cells) = (same (is_held c) (in_span first count k) && same (is_whole c) (in_span first count k)) && are_held first count (suc k) cells

abbrev IsExactAt : (first count : ℕ) → Held → ℕ → Type 0
IsExactAt first count c i = (is_held c ≡ in_span first count i) × (is_whole c ≡ in_span first count i)

none_false : (a : Bool) → (a && false) ≡ false
none_false true = refl
none_false false = refl

beyond : (first count i : ℕ) → first + count ≤ i → false ≡ in_span first count i
beyond first count i h = let e : nat_lt i (first + count) ≡ false = le-ltb i (first + count) h in sym (ap (λ z. nat_le first i && z) e ∙ none_false (nat_le first i))

exact_at : (first count k : ℕ) (cells : List Held) → are_held first count k cells ≡ true → (i : ℕ) → IsExactAt first count (cell cells i) (k + i)
exact_at first count k [] h i = let l = leb-true (first + count) k h in let e = beyond first count (k + i) (omega (arith, l)) in (e, e)
exact_at first count k (c ∷ cells) h zero =
    let e : k ≡ k + 0 = omega arith in
    let t = and_parts _ _ (and_parts _ _ h).0 in
    subst (λ z. IsExactAt first count c z) e (same_is _ _ t.0, same_is _ _ t.1)
exact_at first count k (c ∷ cells) h (suc i) =
    let e : suc k + i ≡ k + suc i = omega arith in
    subst (λ z. IsExactAt first count (cell cells i) z) e (exact_at first count (suc k) cells (and_parts _ _ h).1 i)

-- a grant whose places are known
pub exact_of : (first count : ℕ) (cells known : List Held) → cells ≡ known → are_held first count 0 known ≡ true → (i : ℕ) → (is_held (cell cells i) ≡ in_span first count i) × (is_whole (cell cells i) ≡ in_span first count i)
exact_of first count cells known e h i =
    let z : 0 + i ≡ i = omega arith in
    subst (λ j. IsExactAt first count (cell cells i) j) z (exact_at first count 0 cells (ap (are_held first count 0) e ∙ h) i)

-- ---- two pages, of which the last one is moved

abbrev first_or : PageState → List PageState → PageState
first_or d [] = d
first_or d (x ∷ xs) = x

parted : (a b : PageState) (xs ys : List PageState) → a ∷ b ∷ [] ≡ xs ++ ys → length ys ≡ 1 → (xs ≡ a ∷ []) × (ys ≡ b ∷ [])
parted a b [] ys e one = let l = ap length e in absurd (omega (arith, l, one))
parted a b (x ∷ []) ys e one = (ap (λ z. first_or a z ∷ []) (sym e), sym (ap (drop 1) e))
parted a b (x ∷ y ∷ xs) ys e one = let l = ap length e ∙ ap (λ z. suc (suc z)) (length-append xs ys) in absurd (omega (arith, l, one))

-- the last page of a list of one
pub only_page : (a r : PageState) (old new : List PageState) → old ≡ a ∷ [] → old ≡ new ++ r ∷ [] → r ≡ a
only_page a r old [] d e = ap (first_or a) (sym e ∙ d)
only_page a r old (x ∷ new) d e = let l = ap length (sym d ∙ e) ∙ ap suc (length-append new (r ∷ [])) in absurd (omega (arith, l))

pub put_two : (a b : PageState) (s t u : StoreState) → s.pages ≡ [] → t ≡ record s { pages = s.pages ++ a ∷ [] } → u ≡ record t { pages = t.pages ++ b ∷ [] } → u.pages ≡ a ∷ b ∷ []
put_two a b s t u d e f = ap (λ z. z.pages) f ∙ ap (λ z. z.pages ++ b ∷ []) e ∙ ap (λ z. (z ++ a ∷ []) ++ b ∷ []) d

abbrev Moved : (old new into_old into_new : List PageState) → Type 0
Moved old new into_old into_new = (moved : List PageState) × (length moved ≡ 1) × (old ≡ new ++ moved) × (into_new ≡ into_old ++ reverse moved)

-- what was moved, and what stays
pub moved_last : (a b : PageState) (old new into_old into_new : List PageState) → old ≡ a ∷ b ∷ [] → into_old ≡ [] → Moved old new into_old into_new → into_new ≡ b ∷ []
moved_last a b old new into_old into_new d none h =
    let p = parted a b new h.0 (sym d ∙ h.2) h.1 in
    h.3 ∙ ap (λ z. z ++ reverse h.0) none ∙ ap reverse p.1

pub kept_first : (a b : PageState) (old new into_old into_new : List PageState) → old ≡ a ∷ b ∷ [] → Moved old new into_old into_new → new ≡ a ∷ []
kept_first a b old new into_old into_new d h = (parted a b new h.0 (sym d ∙ h.2) h.1).0
