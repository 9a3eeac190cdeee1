-- A source has one answer at most, and so has a tree.
use Rattle.std.proofs.Common.{◌≡◌, ℕ, List, [], ◌∷◌, Some, refl, sym, ap, ◌∙◌, subst, arith}
use Rattle.std.specs.Prelude.{slice_get}
use Rattle.cm_syntax.specs.declared.stmt.Tree.{Tree}
use Rattle.cm_syntax.specs.Refusal.{Refusal, syntax_, size, IsAnswer}
use Rattle.cm_syntax.specs.Fault.{Variant, unknown, twice, arity, kind, no_main, frame, count, rank, IsNameAnswer}

-- ---- of a source

same_place : (bytes : List ℕ) (r s : Refusal) (i j : ℕ) → IsAnswer bytes r i → IsAnswer bytes s j → i ≡ j
same_place bytes r s i j x y =
    let forth = x.least s j y.refused in
    let back = y.least r i x.refused in
    omega (arith, forth, back)

same_refusal : (bytes : List ℕ) (r s : Refusal) (at : ℕ) → IsAnswer bytes r at → IsAnswer bytes s at → r ≡ s
same_refusal bytes syntax_ syntax_ at x y = refl
same_refusal bytes syntax_ size at x y = absurd (x.size_first refl y.refused)
same_refusal bytes size syntax_ at x y = absurd (y.size_first refl x.refused)
same_refusal bytes size size at x y = refl

pub IsAnswer-one : (bytes : List ℕ) (r s : Refusal) (i j : ℕ) → IsAnswer bytes r i → IsAnswer bytes s j → (r ≡ s) × (i ≡ j)
IsAnswer-one bytes r s i j x y =
    let same = same_place bytes r s i j x y in
    (same_refusal bytes r s j (subst (IsAnswer bytes r) same x) y, same)

-- ---- of a tree

-- the variants in their order
abbrev variants : List Variant
variants = unknown ∷ twice ∷ arity ∷ kind ∷ no_main ∷ frame ∷ count ∷ []

at_rank : (v : Variant) → slice_get variants (rank v) ≡ Some v
at_rank unknown = refl
at_rank twice = refl
at_rank arity = refl
at_rank kind = refl
at_rank no_main = refl
at_rank frame = refl
at_rank count = refl

rank_one : (u v : Variant) → rank u ≡ rank v → u ≡ v
rank_one u v same = let both : Some u ≡ Some v = sym (at_rank u) ∙ (ap (slice_get variants) same ∙ at_rank v) in cc

same_fault : (tree : Tree) (u v : Variant) (i j : ℕ) → IsNameAnswer tree i u → IsNameAnswer tree j v → i ≡ j
same_fault tree u v i j x y =
    let forth = x.least j v y.faulty in
    let back = y.least i u x.faulty in
    omega (arith, forth, back)

same_variant : (tree : Tree) (u v : Variant) (at : ℕ) → IsNameAnswer tree at u → IsNameAnswer tree at v → u ≡ v
same_variant tree u v at x y =
    let forth = x.foremost v y.faulty in
    let back = y.foremost u x.faulty in
    rank_one u v (omega (arith, forth, back))

pub IsNameAnswer-one : (tree : Tree) (i j : ℕ) (u v : Variant) → IsNameAnswer tree i u → IsNameAnswer tree j v → (i ≡ j) × (u ≡ v)
IsNameAnswer-one tree i j u v x y =
    let same = same_fault tree u v i j x y in
    (same, same_variant tree u v j (subst (λ at. IsNameAnswer tree at u) same x) y)
