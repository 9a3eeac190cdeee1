-- Tokens that are put one after another.
use Rattle.std.proofs.Common.{◌≡◌, ℕ, ◌+◌, ◌<◌, ◌≤◌, Bool, true, false, List, [], ◌∷◌, ◌++◌, length, get_or, drop, refl, ap, ◌∙◌, sym, append_assoc, append-nil, arith}
use Rattle.std.specs.Prelude.{◌==◌}
use Rattle.std.proofs.lemmas.List.{at_drop_all}
use Rattle.std.proofs.lemmas.Bool.Decides.{nat_tests}
use Rattle.cm_syntax.specs.Token.{Token}
use Rattle.cm_syntax.specs.Canonical.{token_text}
use Rattle.cm_syntax.proofs.FrameLaw.{next}
use Rattle.cm_reader.specs.Spaced.{spaced, comma}

pub spaced-append : (xs ys : List Token) → spaced (xs ++ ys) ≡ spaced xs ++ spaced ys
spaced-append [] ys = refl
spaced-append (x ∷ xs) ys =
    ap (λ t. token_text x ++ (32 ∷ t)) (spaced-append xs ys) ∙ sym (append_assoc (token_text x) (32 ∷ spaced xs) (spaced ys))

-- what is put one after another is put as one
pub ruleset spaced_laws = (append_assoc, spaced-append)

-- two, three and four parts put one after another
pub put_both : (t u v : List ℕ) (xs ys : List Token) → u ≡ t ++ spaced xs → v ≡ u ++ spaced ys → v ≡ t ++ spaced (xs ++ ys)
put_both t u v xs ys p q = q ∙ ap (λ w. w ++ spaced ys) p ∙ append_assoc t (spaced xs) (spaced ys) ∙ ap (λ w. t ++ w) (sym (spaced-append xs ys))

pub put_three : (t u v w : List ℕ) (xs ys zs : List Token) → u ≡ t ++ spaced xs → v ≡ u ++ spaced ys → w ≡ v ++ spaced zs →
    w ≡ t ++ spaced (xs ++ (ys ++ zs))
put_three t u v w xs ys zs p q r = put_both t u w xs (ys ++ zs) p (put_both u v w ys zs q r)

pub put_four : (t u v w x : List ℕ) (xs ys zs us : List Token) → u ≡ t ++ spaced xs → v ≡ u ++ spaced ys → w ≡ v ++ spaced zs → x ≡ w ++ spaced us →
    x ≡ t ++ spaced (xs ++ (ys ++ (zs ++ us)))
put_four t u v w x xs ys zs us p q r s = put_both t u x xs (ys ++ (zs ++ us)) p (put_three u v w x ys zs us q r s)

-- ---- lists that a loop goes through

module _ {X : Type 0} (f : X → List Token) (listed : List X → List Token) where
  -- the tokens of a list are those of its items, one behind the other
  pub record Lists : Type 0 where
    pub none : listed [] ≡ []
    pub more : (x : X) (xs : List X) → listed (x ∷ xs) ≡ f x ++ listed xs

  -- with the items that are left, what was put comes to the whole
  pub list_step : Lists → (xs : List X) (i : ℕ) (x : X) (t u whole : List ℕ) → i < length xs → x ≡ get_or xs i x →
      t ++ spaced (listed (drop i xs)) ≡ whole → u ≡ t ++ spaced (f x) → u ++ spaced (listed (drop (i + 1) xs)) ≡ whole
  list_step h xs i x t u whole lt is all p =
      let left = ap (λ (ys : List X). t ++ spaced (listed ys)) (next xs i x lt is) ∙ ap (λ ts. t ++ spaced ts) (h.more x (drop (i + 1) xs)) in
      put_both t u (u ++ spaced (listed (drop (i + 1) xs))) (f x) (listed (drop (i + 1) xs)) p refl ∙ (sym left ∙ all)

  pub list_end : Lists → (xs : List X) (i : ℕ) (t whole : List ℕ) → length xs ≤ i → t ++ spaced (listed (drop i xs)) ≡ whole → t ≡ whole
  list_end h xs i t whole le all =
      let none = ap (λ ts. t ++ spaced ts) (at_drop_all listed xs i le ∙ h.none) in
      sym (append-nil t) ∙ (sym none ∙ all)

-- ---- lists with commas

not_first : (i : ℕ) → (i + 1 == 0) ≡ false
not_first i = grind (arith, nat_tests)

module _ {X : Type 0} (f : X → List Token) where
  -- the items with commas between them, and one in front unless they are the first
  abbrev pub separated : (is_first : Bool) → List X → List Token
  separated is_first [] = []
  separated is_first (x ∷ xs) = comma is_first ++ (f x ++ separated false xs)

  -- with the items that are left, what was put comes to the whole
  pub separated_step : (xs : List X) (i : ℕ) (x : X) (t u v whole : List ℕ) → i < length xs → x ≡ get_or xs i x →
      t ++ spaced (separated (i == 0) (drop i xs)) ≡ whole → u ≡ t ++ spaced (comma (i == 0)) → v ≡ u ++ spaced (f x) →
      v ++ spaced (separated (i + 1 == 0) (drop (i + 1) xs)) ≡ whole
  separated_step xs i x t u v whole lt is all p q =
      let rest = separated false (drop (i + 1) xs) in
      let left = ap (λ (ys : List X). t ++ spaced (separated (i == 0) ys)) (next xs i x lt is) in
      let later = ap (λ b. v ++ spaced (separated b (drop (i + 1) xs))) (not_first i) in
      later ∙ (put_three t u v (v ++ spaced rest) (comma (i == 0)) (f x) rest p q refl ∙ (sym left ∙ all))

  pub separated_end : (xs : List X) (i : ℕ) (t whole : List ℕ) → length xs ≤ i → t ++ spaced (separated (i == 0) (drop i xs)) ≡ whole → t ≡ whole
  separated_end xs i t whole le all =
      let none = ap (λ ts. t ++ spaced ts) (at_drop_all (separated (i == 0)) xs i le) in
      sym (append-nil t) ∙ (sym none ∙ all)

  module _ (listed : List X → List Token) where
    -- the tokens of a list are those of its items with commas between them
    pub record Separates : Type 0 where
      pub none : listed [] ≡ []
      pub one : (x : X) → listed (x ∷ []) ≡ f x
      pub more : (x y : X) (xs : List X) → listed (x ∷ y ∷ xs) ≡ f x ++ (comma false ++ listed (y ∷ xs))

    later : Separates → (x : X) (xs : List X) → separated false (x ∷ xs) ≡ comma false ++ listed (x ∷ xs)
    later h x [] = ap (λ ts. comma false ++ ts) (append-nil (f x) ∙ sym (h.one x))
    later h x (y ∷ xs) = ap (λ ts. comma false ++ ts) (ap (λ ts. f x ++ ts) (later h y xs) ∙ sym (h.more x y xs))

    pub separated-listed : Separates → (xs : List X) → separated true xs ≡ listed xs
    separated-listed h [] = sym h.none
    separated-listed h (x ∷ []) = append-nil (f x) ∙ sym (h.one x)
    separated-listed h (x ∷ y ∷ xs) = ap (λ ts. f x ++ ts) (later h y xs) ∙ sym (h.more x y xs)
