-- Laws of lists: fronts, the first element that passes a test, and one element more.
use Rattle.std.proofs.Common.{◌≡◌, ℕ, zero, suc, ◌+◌, ◌^◌, ◌<◌, ◌≤◌, Bool, true, false, cond, not, eqb, ltb, List, [], ◌∷◌, ◌++◌, length, get_or, take, drop, Option, Some, None, IsSome, slice_get, ap, sym, ◌∙◌, arith, ⊎_elim}
use Rattle.std.specs.List.{position, position_or_len}
use Rattle.std.specs.Option.{option_or}
use Rattle.std.proofs.lemmas.Bool.{cases_lt, false≢true, lt-ltb, le-ltb, eq-eqb, ne_eqb, cond-true, cond-false}
use Rattle.std.proofs.lemmas.Bool.Decides.{nat_tests}
use Rattle.std.proofs.lemmas.List.{length_push, length-take, get_or-take, take_more, take-append-drop, take-take, drop-take}
use Rattle.std.proofs.lemmas.List.Sums.{prefix_len-le-length, fails_before_first}
use Rattle.std.proofs.lemmas.List.Folds.{position_or_len_push}
use Rattle.std.proofs.lemmas.List.Quantifiers.{position-Some}
use Rattle.std.proofs.lemmas.Option.{slice_get_within, get_or_from_slice_get}

-- ---- fronts

pub take-add : (m n : ℕ) (xs : List ℕ) → take (m + n) xs ≡ take m xs ++ take n (drop m xs)
take-add m n xs =
    let a = take-append-drop m (take (m + n) xs) in
    let b = take-take m (m + n) xs (omega arith) in
    let d = drop-take m n xs in
    cc

pub take-one_more : {A : Type 0} (items : List A) (k : ℕ) (item : A) → slice_get items k ≡ Some item → take (k + 1) items ≡ take k items ++ item ∷ []
take-one_more items k item e =
    take_more items k item (slice_get_within items k item e) ∙ ap (λ it. take k items ++ it ∷ []) (get_or_from_slice_get items k item item e)

-- one number more that is small
pub each-push : (words : List ℕ) (w : ℕ) → ((k : ℕ) → get_or words k 0 < 2 ^ 32) → w < 2 ^ 32 → (k : ℕ) → get_or (words ++ w ∷ []) k 0 < 2 ^ 32
each-push [] w each small zero = small
each-push [] w each small (suc k) = omega arith
each-push (v ∷ words) w each small zero = each 0
each-push (v ∷ words) w each small (suc k) = each-push words w (λ j. each (suc j)) small k

-- ---- the first element that passes a test

pushed_end : (q n : ℕ) (b : Bool) → q ≡ n → cond (ltb (n + cond b 0 1) (n + 1)) (Some (n + cond b 0 1)) None ≡ option_or (cond (ltb q n) (Some q) None) (cond b (Some n) None)
pushed_end q n true e =
    let t : ltb q n ≡ false = le-ltb q n (omega arith) in
    let u : ltb (n + 0) (n + 1) ≡ true = lt-ltb (n + 0) (n + 1) (omega arith) in
    let v : n + 0 ≡ n = omega arith in
    cond-true (ltb (n + 0) (n + 1)) (Some (n + 0)) None u ∙ ap (λ m. Some m) v ∙ ap (λ c. option_or (cond c (Some q) None) (Some n)) (sym t)
pushed_end q n false e =
    let t : ltb q n ≡ false = le-ltb q n (omega arith) in
    let u : ltb (n + 1) (n + 1) ≡ false = le-ltb (n + 1) (n + 1) (omega arith) in
    cond-false (ltb (n + 1) (n + 1)) (Some (n + 1)) None u ∙ ap (λ c. option_or (cond c (Some q) None) None) (sym t)

pushed_at : (q q' n n' : ℕ) (b : Bool) → n' ≡ n + 1 → q ≤ n → q' ≡ cond (eqb q n) (n + cond b 0 1) q
    → cond (ltb q' n') (Some q') None ≡ option_or (cond (ltb q n) (Some q) None) (cond b (Some n) None)
pushed_at q q' n n' b size le e =
    ⊎_elim
    (λ lt.
    let s : q' ≡ q = e ∙ cond-false (eqb q n) (n + cond b 0 1) q (ne_eqb q n (λ same. omega arith)) in
    let t : ltb q n ≡ true = lt-ltb q n lt in
    let u : ltb q' n' ≡ true = lt-ltb q' n' (omega arith) in
    cond-true (ltb q' n') (Some q') None u ∙ ap (λ m. Some m) s ∙ ap (λ c. option_or (cond c (Some q) None) (cond b (Some n) None)) (sym t))
    (λ ge.
    let same : q ≡ n = omega arith in
    let s : q' ≡ n + cond b 0 1 = e ∙ cond-true (eqb q n) (n + cond b 0 1) q (eq-eqb q n same) in
    rw (s, size) (pushed_end q n b same))
    (cases_lt q n)

pub position-push : {A : Type 0} (p : A → Bool) (xs : List A) (x : A) → position p (xs ++ x ∷ []) ≡ option_or (position p xs) (cond (p x) (Some (length xs)) None)
position-push p xs x =
    pushed_at (position_or_len p xs) (position_or_len p (xs ++ x ∷ [])) (length xs) (length (xs ++ x ∷ [])) (p x) (length_push xs x)
    (prefix_len-le-length (λ y. not (p y)) xs) (position_or_len_push p xs x)

-- which element before the one with index k passes
pub some-before : {A : Type 0} (p : A → Bool) (items : List A) (k : ℕ) (d : A) (o : Option ℕ) → position p (take k items) ≡ o → IsSome o
    → (j : ℕ) × (j < k) × (j < length items) × (p (get_or items j d) ≡ true)
some-before p items k d None e some = absurd (false≢true some)
some-before p items k d (Some j) e some =
    let at = position-Some p (take k items) j d e in
    let lt : j < length (take k items) = at.0 in
    let short = length-take k items in
    let below : j < k = omega arith in
    (j, below, omega arith, sym (ap p (get_or-take k items j d below)) ∙ at.1)

pub position-None : {A : Type 0} (p : A → Bool) (items : List A) (j : ℕ) (d : A) → position p items ≡ None → j < length items → p (get_or items j d) ≡ false
position-None p items j d e inside =
    let past : length items ≤ position_or_len p items = grind (arith, nat_tests) in
    fails_before_first p items j d (omega arith)
