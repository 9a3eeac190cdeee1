-- The source in a text: one front of it at most, and how a search from its start finds it.
use Rattle.std.proofs.Common.{◌≡◌, ℕ, ◌≤◌, List, [], ◌++◌, length, take, refl, sym, ap, ◌∙◌, arith, inl, inr, length-append, append-nil}
use Rattle.std.proofs.lemmas.List.{take_at}
use Rattle.cilkm.specs.Cut.{MarkBehind, IsCut}

-- the source is a front of the text
front_of_cut : (bytes source : List ℕ) → IsCut bytes source → (rest : List ℕ) × (bytes ≡ source ++ rest)
front_of_cut bytes source cut = elim cut.here [
  | inl mark ↦ (mark.rest, mark.text)
  | inr all ↦ ([], sym all ∙ sym (append-nil source))
]

taken : (bytes front rest : List ℕ) → bytes ≡ front ++ rest → take (length front) bytes ≡ front
taken bytes front rest e = ap (take (length front)) e ∙ take_at front rest _ refl

-- no cut is longer than another
no_longer : (bytes a b : List ℕ) → IsCut bytes a → IsCut bytes b → length a ≤ length b
no_longer bytes a b x y =
    let front = front_of_cut bytes a x in
    let whole = simp length-append at (ap length front.1) in
    elim y.here [
      | inl mark ↦ x.first b mark
      | inr all ↦ (let same = ap length all in omega (arith, whole, same))
    ]

-- a text has one source
pub IsCut-one : (bytes a b : List ℕ) → IsCut bytes a → IsCut bytes b → a ≡ b
IsCut-one bytes a b x y =
    let forth = no_longer bytes a b x y in
    let back = no_longer bytes b a y x in
    let same : length a ≡ length b = omega arith in
    let first = front_of_cut bytes a x in
    let second = front_of_cut bytes b y in
    sym (taken bytes a first.0 first.1) ∙ ap (λ n. take n bytes) same ∙ taken bytes b second.0 second.1

-- ---- the search

-- no line of `%%` stands behind fewer bytes
abbrev pub NoneBefore : (bytes : List ℕ) → (at : ℕ) → Type 0
NoneBefore bytes at = (front : List ℕ) → MarkBehind bytes front → at ≤ length front
