-- The places of slots, from a list of where each one ends.
use Rattle.std.proofs.lemmas.Option.{none-some, same_Some}
use Rattle.std.proofs.Common.{◌≡◌, ℕ, zero, suc, ◌+◌, ◌<◌, ◌≤◌, List, [], ◌∷◌, ◌++◌, length, refl, sym, ap, ◌∙◌, arith}
use Rattle.std.specs.Prelude.{get_or, slice_get, IfSome, Option, Some, None}
use Rattle.cm_syntax.specs.declared.stmt.Slot.{Slot}
use Rattle.cm_syntax.specs.Frame.{slot_words, slots_words}
use Rattle.cm_gen.specs.Expression.{words_through}
use Rattle.cm_gen.specs.Builder.{ends_of}

pub length_ends : (before : ℕ) (slots : List Slot) → length (ends_of before slots) ≡ length slots
length_ends before [] = refl
length_ends before (first ∷ more) = ap suc (length_ends (before + slot_words first) more)

pub ends_in : (before : ℕ) (slots : List Slot) (x d : ℕ) → x < length slots → get_or (ends_of before slots) x d ≡ before + words_through slots x
ends_in before [] x d lt = absurd (omega arith)
ends_in before (first ∷ more) zero d lt = refl
ends_in before (first ∷ more) (suc x) d lt = omega (arith, ends_in (before + slot_words first) more x d (omega arith))

pub ends_past : (slots : List Slot) (x : ℕ) → length slots ≤ x → words_through slots x ≡ slots_words slots
ends_past [] x le = refl
ends_past (first ∷ more) zero le = absurd (omega arith)
ends_past (first ∷ more) (suc x) le = ap (λ n. slot_words first + n) (ends_past more x (omega arith))

pub through_below : (slots : List Slot) (x : ℕ) → words_through slots x ≤ slots_words slots
through_below [] x = omega arith
through_below (first ∷ more) zero = omega arith
through_below (first ∷ more) (suc x) = omega (arith, through_below more x)

pub slots_words_more : (xs : List Slot) (x : Slot) → slots_words (xs ++ x ∷ []) ≡ slots_words xs + slot_words x
slots_words_more [] x = omega arith
slots_words_more (y ∷ xs) x = omega (arith, slots_words_more xs x)

pub ends_of_more : (before : ℕ) (xs : List Slot) (x : Slot) → ends_of before (xs ++ x ∷ []) ≡ ends_of before xs ++ ((before + (slots_words xs + slot_words x)) ∷ [])
ends_of_more before [] x = ap (λ n. n ∷ []) (omega arith)
ends_of_more before (y ∷ xs) x =
    ap (λ l. (before + slot_words y) ∷ l) (ends_of_more (before + slot_words y) xs x ∙ ap (λ n. ends_of (before + slot_words y) xs ++ (n ∷ [])) (omega arith))

pub words_of_front : (xs ys : List Slot) → slots_words xs ≤ slots_words (xs ++ ys)
words_of_front [] ys = omega arith
words_of_front (x ∷ xs) ys = omega (arith, words_of_front xs ys)

pub slot_below : (slots : List Slot) (x : ℕ) (s : Slot) → slice_get slots x ≡ Some s → slot_words s ≤ slots_words slots
slot_below [] x s at = absurd (none-some _ at)
slot_below (first ∷ more) zero s at = omega (arith, ap slot_words (same_Some _ _ at))
slot_below (first ∷ more) (suc x) s at = omega (arith, slot_below more x s at)

pub kind_small : (slots : List Slot) (x most : ℕ) (kind : Option Slot) → kind ≡ slice_get slots x → slots_words slots ≤ most → IfSome kind (λ k. slot_words k ≤ most)
kind_small slots x most None at le = tt
kind_small slots x most (Some k) at le = omega (arith, slot_below slots x k (sym at))

pub ends_of_next : (xs : List Slot) (x : Slot) → ends_of 0 (xs ++ x ∷ []) ≡ ends_of 0 xs ++ ((slots_words xs + slot_words x) ∷ [])
ends_of_next xs x = ends_of_more 0 xs x ∙ ap (λ n. ends_of 0 xs ++ (n ∷ [])) (omega arith)

-- where a slot of a list of ends ends
pub end_at : (slots : List Slot) (ends : List ℕ) (x d : ℕ) → ends ≡ ends_of 0 slots → x < length ends → get_or ends x d ≡ words_through slots x
end_at slots ends x d is lt =
    let found : get_or ends x d ≡ 0 + words_through slots x =
    ap (λ (l : List ℕ). get_or l x d) is ∙ ends_in 0 slots x d (omega (arith, lt, ap length is, length_ends 0 slots)) in
    omega (arith, found)
