-- Which signs can be written so.
use Rattle.std.proofs.Common.{◌≡◌, ℕ, Bool, true, false, List, [], ◌∷◌, refl, sym, subst, ◌∙◌}
use Rattle.std.proofs.lemmas.Bool.{and_parts, true≢false}
use Rattle.std.specs.Prelude.{◌==◌, cond, Some}
use Rattle.std.specs.List.{find, filter}
use Rattle.cm_syntax.specs.Text.{is_same, sign_text}
use Rattle.cm_syntax.specs.Token.{begins}
use Rattle.cm_syntax.specs.Lexer.{all_signs, sign_written}
use Rattle.cm_reader.specs.Spelling.{signs_from}

-- a search may leave out what fails it
find-filter : {X : Type 0} (p q : X → Bool) → ((x : X) → p x ≡ true → q x ≡ true) → (xs : List X) → find p (filter q xs) ≡ find p xs
find-filter p q kept [] = refl
find-filter p q kept (x ∷ xs) = by_tests (p x) (q x) refl refl (find-filter p q kept xs)
  where
    by_tests : (b c : Bool) → p x ≡ b → q x ≡ c → find p (filter q xs) ≡ find p xs →
        find p (cond c (x ∷ filter q xs) (filter q xs)) ≡ cond b (Some x) (find p xs)
    by_tests true true passes goes same = rw passes refl
    by_tests true false passes goes same = absurd (true≢false (sym (kept x passes) ∙ goes))
    by_tests false true fails goes same = rw fails same
    by_tests false false fails goes same = same

-- a text that is this one begins with its first byte
begins_so : (first : ℕ) (rest text : List ℕ) → is_same text (first ∷ rest) ≡ true → begins (λ byte. byte == first) text ≡ true
begins_so first rest [] same = absurd (true≢false (sym same))
begins_so first rest (byte ∷ text) same = (and_parts (byte == first) (is_same text rest) same).0

-- only signs that begin with the first byte can be written so
pub sign_written-from : (text : List ℕ) (first : ℕ) (rest : List ℕ) → text ≡ first ∷ rest →
    find (λ s. is_same (sign_text s) text) (signs_from first) ≡ sign_written text
sign_written-from text first rest same =
    find-filter (λ s. is_same (sign_text s) text) (λ s. begins (λ byte. byte == first) (sign_text s))
    (λ s h. begins_so first rest (sign_text s) (subst (λ bytes. is_same (sign_text s) bytes ≡ true) same h)) all_signs
