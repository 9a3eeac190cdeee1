-- The first function of a name, of functions that are gone through in their order.
use Rattle.std.proofs.Common.{◌≡◌, ℕ, zero, suc, ◌+◌, ◌<◌, ◌≤◌, Bool, true, false, not, cond, if◌then◌else◌, List, [], ◌∷◌, ◌++◌, length, length-append, get_or, take, Option, None, Some, refl, sym, ap, ◌∙◌, arith}
use Rattle.std.specs.Prelude.{nat_lt, ◌&&◌, ◌||◌, position, slice_get, option_map}
use Rattle.std.specs.List.{find, list_any, position_or_len}
use Rattle.std.specs.Option.{option_or, is_none}
use Rattle.std.proofs.Math.Dec.{eqb}
use Rattle.std.proofs.lemmas.List.{take_more, take_all, length-take}
use Rattle.std.proofs.lemmas.List.Folds.{find_at, position_or_len_push}
use Rattle.std.specs.Borrow.{Bor}
use Rattle.std.specs.Slice.{IsItemAt}
use Rattle.std.proofs.lemmas.Bool.{ltb-false, ltb-true}
use Rattle.std.proofs.lemmas.Option.{slice_get_past, slice_get_read}
use Rattle.std.proofs.lemmas.Bool.Decides.{nat_tests}

module _ {X : Type 0} (p : X → Bool) where
  first_within : (xs : List X) → position_or_len p xs ≤ length xs
  first_within [] = omega arith
  first_within (x ∷ xs) = by (p x) (first_within xs)
    where
      by : (b : Bool) → position_or_len p xs ≤ length xs → cond (not b) (1 + position_or_len p xs) 0 ≤ length (x ∷ xs)
      by true le = omega arith
      by false le = omega arith

  pushed : (b : Bool) (first n : ℕ) → first ≤ n →
      cond (nat_lt (cond (eqb first n) (n + cond b 0 1) first) (n + 1)) (Some (cond (eqb first n) (n + cond b 0 1) first)) None ≡
      option_or (cond (nat_lt first n) (Some first) None) (if b then Some n else None)
  pushed true first n le = grind (arith, nat_tests)
  pushed false first n le = grind (arith, nat_tests)

  -- the place of the first that passes, of one more
  pub position-push : (xs : List X) (y : X) → position p (xs ++ y ∷ []) ≡ option_or (position p xs) (if p y then Some (length xs) else None)
  position-push xs y =
      let place = position_or_len_push p xs y in
      let longer : length (xs ++ y ∷ []) ≡ length xs + 1 = length-append xs (y ∷ []) in
      rw (place, longer) (pushed (p y) (position_or_len p xs) (length xs) (first_within xs))

  -- of the first i + 1 of them
  pub position-more : (xs : List X) (i : ℕ) (y : X) → i < length xs → y ≡ get_or xs i y →
      position p (take (i + 1) xs) ≡ option_or (position p (take i xs)) (if p y then Some i else None)
  position-more xs i y lt is =
      let short : length (take i xs) ≡ i = omega (arith, length-take i xs) in
      ap (position p) (take_more xs i y lt) ∙ rw (← is) (position-push (take i xs) y ∙ rw short refl)

  -- whether one of the first i passes
  earlier : (xs : List X) (i : ℕ) → list_any p (take i xs) ≡ (nat_lt (position_or_len p xs) (length xs) && nat_lt (position_or_len p xs) i)
  earlier [] zero = refl
  earlier [] (suc i) = refl
  earlier (x ∷ xs) zero = sym (none (nat_lt (position_or_len p (x ∷ xs)) (length (x ∷ xs))) (position_or_len p (x ∷ xs)))
    where
      none : (b : Bool) (n : ℕ) → (b && nat_lt n 0) ≡ false
      none true n = grind (arith, nat_tests)
      none false n = refl
  earlier (x ∷ xs) (suc i) = by (p x) (earlier xs i)
    where
      by : (b : Bool) → list_any p (take i xs) ≡ (nat_lt (position_or_len p xs) (length xs) && nat_lt (position_or_len p xs) i) →
          (b || list_any p (take i xs)) ≡ (nat_lt (cond (not b) (1 + position_or_len p xs) 0) (length (x ∷ xs)) && nat_lt (cond (not b) (1 + position_or_len p xs) 0) (suc i))
      by true same = grind (arith, nat_tests)
      by false same = grind (arith, nat_tests)

  pub earlier-None : (xs : List X) (i : ℕ) → None ≡ position p xs → false ≡ list_any p (take i xs)
  earlier-None xs i is = sym (earlier xs i ∙ by (nat_lt (position_or_len p xs) (length xs)) is)
    where
      by : (b : Bool) → None ≡ cond b (Some (position_or_len p xs)) None → (b && nat_lt (position_or_len p xs) i) ≡ false
      by true none = absurd (cc)
      by false none = refl

  pub earlier-Some : (xs : List X) (i first : ℕ) → Some first ≡ position p xs → nat_lt first i ≡ list_any p (take i xs)
  earlier-Some xs i first is = sym (earlier xs i ∙ by (nat_lt (position_or_len p xs) (length xs)) is)
    where
      by : (b : Bool) → Some first ≡ cond b (Some (position_or_len p xs)) None → (b && nat_lt (position_or_len p xs) i) ≡ nat_lt first i
      by true some = let same : first ≡ position_or_len p xs = cc in ap (λ n. nat_lt n i) (sym same)
      by false some = absurd (cc)

  pub missing : (xs : List X) (o : Option ℕ) → o ≡ position p xs → is_none o ≡ not (list_any p xs)
  missing xs None is = ap not (earlier-None xs (length xs) is ∙ ap (list_any p) (take_all (length xs) xs (omega arith)))
  missing xs (Some first) is =
      let inside = within (nat_lt (position_or_len p xs) (length xs)) refl is in
      ap not (sym inside ∙ (earlier-Some xs (length xs) first is ∙ ap (list_any p) (take_all (length xs) xs (omega arith))))
    where
      within : (b : Bool) → nat_lt (position_or_len p xs) (length xs) ≡ b → Some first ≡ cond b (Some (position_or_len p xs)) None → nat_lt first (length xs) ≡ true
      within true less some = let same : first ≡ position_or_len p xs = cc in ap (λ n. nat_lt n (length xs)) same ∙ less
      within false less some = absurd (cc)

  -- what stands at the first place that passes is the first that passes
  pub find-Some : (xs : List X) (i : ℕ) → Some i ≡ position p xs → find p xs ≡ slice_get xs i
  find-Some xs i is = find_at p xs ∙ ap (slice_get xs) (same (nat_lt (position_or_len p xs) (length xs)) is)
    where
      same : (b : Bool) → Some i ≡ cond b (Some (position_or_len p xs)) None → position_or_len p xs ≡ i
      same true e = cc
      same false e = cc

  pub find-None : (xs : List X) → None ≡ position p xs → find p xs ≡ None
  find-None xs is = find_at p xs ∙ slice_get_past xs (position_or_len p xs) (past (nat_lt (position_or_len p xs) (length xs)) refl is)
    where
      past : (b : Bool) → nat_lt (position_or_len p xs) (length xs) ≡ b → None ≡ cond b (Some (position_or_len p xs)) None → length xs ≤ position_or_len p xs
      past true e none = cc
      past false e none = grind (arith, nat_tests)

-- what `get` lends is the element at that place
pub is_item : {X : Type 0} (xs : List X) (i : ℕ) (r : Option (Bor X)) → IsItemAt xs i r → option_map (λ x. x.now) r ≡ slice_get xs i
is_item xs i None got = sym (slice_get_past xs i (ltb-false i (length xs) (sym got.0)))
is_item xs i (Some x) got = sym (slice_get_read xs (length xs) i x.now refl (ltb-true i (length xs) (sym got.0)) got.1)
