-- Laws of tables: entries, sums, and least entries.
use Rattle.std.proofs.Common.{◌≡◌, ℕ, zero, suc, ◌+◌, ◌<◌, ◌≤◌, ◌≢◌, ◌⊎◌, Bool, true, false, ◌==◌, if◌then◌else◌, List, [], ◌∷◌, ◌++◌, Option, Some, None, refl, sym, ap, ◌∙◌, subst, arith, inl, inr, eqb-true, eq-eqb, ne_eqb, length, take, drop, length-append, take-append-drop, append_assoc, get_or}
use Rattle.std.proofs.lemmas.Bool.{cases_eq, eqb-false}
use Rattle.cm_core.specs.Table.{least, put, total, weigh}
use Rattle.cm_core.specs.Valid.{IsFront}

-- a claim at each number, where one number's entries are changed
pub at_split : (n : ℕ) (G : ℕ → Bool → Type 0) → G n true → ((m : ℕ) → m ≢ n → G m false) → (m : ℕ) → G m (m == n)
at_split n G here there m = by (m == n) refl
  where
    by : (b : Bool) → (m == n) ≡ b → G m b
    by true e = subst (λ u. G u true) (sym (eqb-true m n e)) here
    by false e = there m (eqb-false m n e)

pub at_put : {A : Type 0} (Q : ℕ → A → Type 0) (f : ℕ → A) (w : ℕ) (x : A) → Q w x → ((v : ℕ) → v ≢ w → Q v (f v)) → (v : ℕ) → Q v (put f w x v)
at_put Q f w x here there = at_split w (λ v b. Q v (if b then x else f v)) here there

pub put_self : {A : Type 0} (f : ℕ → A) (n : ℕ) (x : A) → put f n x n ≡ x
put_self f n x = let e : (n == n) ≡ true = eq-eqb n n refl in rw e refl

pub put_other : {A : Type 0} (f : ℕ → A) (n : ℕ) (x : A) (m : ℕ) → m ≢ n → put f n x m ≡ f m
put_other f n x m other = let e : (m == n) ≡ false = ne_eqb m n other in rw e refl

pub total_same : (n : ℕ) (f g : ℕ → ℕ) → ((m : ℕ) → m < n → f m ≡ g m) → total n f ≡ total n g
total_same zero f g same = refl
total_same (suc n) f g same = let a = total_same n f g (λ m l. same m (omega (arith, l))) in let b = same n (omega arith) in omega (arith, a, b)

-- two tables that differ at one number
pub total_at : (n w : ℕ) (f g : ℕ → ℕ) → w < n → ((m : ℕ) → m ≢ w → f m ≡ g m) → total n f + g w ≡ total n g + f w
total_at zero w f g l same = absurd (omega (arith, l))
total_at (suc n) w f g l same = by (λ k. total_at n w f g k same) (cases_eq n w)
  where
    by : (w < n → total n f + g w ≡ total n g + f w) → (n ≡ w) ⊎ (n ≡ w → ⊥) → total n f + f n + g w ≡ total n g + g n + f w
    by go (inl e) = let a = total_same n f g (λ m k. same m (λ d. omega (arith, k, d, e))) in let b = ap f e in let c = ap g e in omega (arith, a, b, c)
    by go (inr other) = let a = go (omega (arith, l, other)) in let b = same n other in omega (arith, a, b)

pub total_put : {A : Type 0} (n w : ℕ) (F : A → ℕ) (f : ℕ → A) (x : A) → w < n
    → total n (λ m. F (put f w x m)) + F (f w) ≡ total n (λ m. F (f m)) + F x
total_put n w F f x l =
    let a = total_at n w (λ m. F (put f w x m)) (λ m. F (f m)) l (λ m other. ap F (put_other f w x m other)) in
    let b = ap F (put_self f w x) in omega (arith, a, b)

-- one entry is at most the sum
pub at_most_total : (n w : ℕ) (f : ℕ → ℕ) → w < n → f w ≤ total n f
at_most_total zero w f l = absurd (omega (arith, l))
at_most_total (suc n) w f l = by (λ k. at_most_total n w f k) (cases_eq n w)
  where
    by : (w < n → f w ≤ total n f) → (n ≡ w) ⊎ (n ≡ w → ⊥) → f w ≤ total n f + f n
    by go (inl e) = let a = ap f e in omega (arith, a)
    by go (inr other) = let a = go (omega (arith, l, other)) in omega (arith, a)

pub total_zero : (n : ℕ) (f : ℕ → ℕ) → ((m : ℕ) → m < n → f m ≡ 0) → total n f ≡ 0
total_zero zero f z = refl
total_zero (suc n) f z = let a = total_zero n f (λ m l. z m (omega (arith, l))) in let b = z n (omega arith) in omega (arith, a, b)

-- ---- the least number
abbrev pub IsLeastAt : (ℕ → Bool) → ℕ → Option ℕ → Type 0
IsLeastAt test n None = (m : ℕ) → m < n → test m ≡ false
IsLeastAt test n (Some m) = (m < n) × (test m ≡ true)

pub least_law : (test : ℕ → Bool) (n : ℕ) → IsLeastAt test n (least test n)
least_law test zero = λ m l. absurd (omega (arith, l))
least_law test (suc n) = by (least test n) (least_law test n)
  where
    last : (b : Bool) → test n ≡ b → ((m : ℕ) → m < n → test m ≡ false) → IsLeastAt test (suc n) (if b then Some n else None)
    last true e all = (omega arith, e)
    last false e all = λ m l. at m l (cases_eq m n)
      where
        at : (m : ℕ) → m < suc n → (m ≡ n) ⊎ (m ≡ n → ⊥) → test m ≡ false
        at m l (inl d) = ap test d ∙ e
        at m l (inr other) = all m (omega (arith, l, other))

    by : (o : Option ℕ) → IsLeastAt test n o → IsLeastAt test (suc n) (elim o [ Some m ↦ Some m | None ↦ (if test n then Some n else None) ])
    by None all = last (test n) refl all
    by (Some m) found = (omega (arith, found.0), found.1)

-- ---- fronts of lists
pub drop_append : (xs ys : List ℕ) → drop (length xs) (xs ++ ys) ≡ ys
drop_append [] ys = refl
drop_append (x ∷ xs) ys = drop_append xs ys

pub front_of : (xs ys : List ℕ) → IsFront xs (xs ++ ys)
front_of xs ys = ap (λ z. xs ++ z) (sym (drop_append xs ys))

pub front_more : (xs ys zs : List ℕ) → IsFront xs ys → IsFront xs (ys ++ zs)
front_more xs ys zs f = subst (IsFront xs) (sym (append_assoc xs (drop (length xs) ys) zs) ∙ ap (λ l. l ++ zs) (sym f)) (front_of xs (drop (length xs) ys ++ zs))

pub front_front : (xs ys zs : List ℕ) → IsFront xs ys → IsFront ys zs → IsFront xs zs
front_front xs ys zs f g = subst (IsFront xs) (sym g) (front_more xs ys (drop (length ys) zs) f)

pub front_self : (xs : List ℕ) → IsFront xs xs
front_self [] = refl
front_self (x ∷ xs) = ap (λ l. x ∷ l) (front_self xs)

pub front_length : (xs ys : List ℕ) → IsFront xs ys → length xs ≤ length ys
front_length xs ys f = let a = ap length f in let b = length-append xs (drop (length xs) ys) in omega (arith, a, b)

-- a longer front begins with a shorter one
pub front_take : (xs ys : List ℕ) (k : ℕ) → length xs ≤ k → IsFront xs ys → IsFront xs (take k ys)
front_take [] ys k l f = refl
front_take (x ∷ xs) [] k l f = absurd (omega (arith, ap length f))
front_take (x ∷ xs) (y ∷ ys) zero l f = absurd (omega (arith, l))
front_take (x ∷ xs) (y ∷ ys) (suc k) l f = ap₂' (front_take xs ys k (omega (arith, l)) (tail f)) (head f)
  where
    head : (y ∷ ys) ≡ (x ∷ xs) ++ drop (length xs) ys → y ≡ x
    head e = ap (λ l. get_or l 0 0) e

    tail : (y ∷ ys) ≡ (x ∷ xs) ++ drop (length xs) ys → ys ≡ xs ++ drop (length xs) ys
    tail e = ap (drop 1) e

    ap₂' : take k ys ≡ xs ++ drop (length xs) (take k ys) → y ≡ x → (y ∷ take k ys) ≡ (x ∷ xs) ++ drop (length xs) (take k ys)
    ap₂' e d = ap (λ z. z ∷ take k ys) d ∙ ap (λ l. x ∷ l) e

pub take_front : (xs ys : List ℕ) → IsFront xs ys → take (length xs) ys ≡ xs
take_front [] ys f = refl
take_front (x ∷ xs) [] f = absurd (omega (arith, ap length f))
take_front (x ∷ xs) (y ∷ ys) f = ap (λ l. y ∷ l) (take_front xs ys (ap (drop 1) f)) ∙ ap (λ z. z ∷ xs) (ap (λ l. get_or l 0 0) f)

pub sum_append : (h : ℕ → ℕ) (xs ys : List ℕ) → weigh h (xs ++ ys) ≡ weigh h xs + weigh h ys
sum_append h [] ys = omega arith
sum_append h (x ∷ xs) ys = let a = sum_append h xs ys in omega (arith, a)

pub sum_front : (h : ℕ → ℕ) (xs ys : List ℕ) → IsFront xs ys → weigh h ys ≡ weigh h xs + weigh h (drop (length xs) ys)
sum_front h xs ys f = ap (weigh h) f ∙ sum_append h xs (drop (length xs) ys)

pub sum_cut : (h : ℕ → ℕ) (k : ℕ) (xs : List ℕ) → weigh h xs ≡ weigh h (take k xs) + weigh h (drop k xs)
sum_cut h k xs = ap (weigh h) (sym (take-append-drop k xs)) ∙ sum_append h (take k xs) (drop k xs)

-- from a longer front on, and from a shorter one on
pub sum_between : (h : ℕ → ℕ) (xs ys zs : List ℕ) → IsFront xs ys → IsFront ys zs
    → weigh h (drop (length xs) zs) ≡ weigh h (drop (length xs) ys) + weigh h (drop (length ys) zs)
sum_between h xs ys zs f g =
    let a = sum_front h xs ys f in let b = sum_front h ys zs g in let c = sum_front h xs zs (front_front xs ys zs f g) in omega (arith, a, b, c)
