-- Places at equal distances: each one of them, a store at a place, and the sum of two grants.
use Rattle.std.proofs.Common.{◌≡◌, ℕ, zero, suc, ◌+◌, ◌-◌, ◌*◌, ◌<◌, ⊎_elim, List, [], ◌∷◌, sym, refl, ap, ◌∙◌, subst, arith, Bool, true, false, true≢false}
use Rattle.std.proofs.lemmas.Bool.{leb-true, ltb-true}
use Rattle.std.specs.Prelude.{◌&&◌, slice_set}
use Rattle.cm_share.specs.Share.{whole, part}
use Rattle.cm_words.specs.Held.{Held, nothing, held, cell, IsHeld, HeldSum, InSpan, in_span, is_held, is_whole, each, kept_half_of, lent_half_of}
use Rattle.cm_words.specs.Spans.{in_spans}
use Rattle.cm_words.specs.declared.region.Span.{Span}
use Rattle.cm_words.proofs.HeldLaw.{or_cases, sum_same, half_sums}
use Rattle.cm_words.specs.Every.{every}

and_left : (a b : Bool) → (a && b) ≡ true → a ≡ true
and_left true b e = refl
and_left false b e = absurd (true≢false (sym e))

and_right : (a b : Bool) → (a && b) ≡ true → b ≡ true
and_right true b e = e
and_right false b e = absurd (true≢false (sym e))

and_both : (a b : Bool) → a ≡ true → b ≡ true → (a && b) ≡ true
and_both true b e f = f
and_both false b e f = absurd (true≢false (sym e))

-- each one of them
pub each_of : (p : Held → Bool) (step count at : ℕ) (cells : List Held) → every p step count at cells ≡ true → (i : ℕ) → i < count → p (cell cells (at + step * i)) ≡ true
each_of p step zero at cells h i less = absurd (omega arith)
each_of p step (suc count) at cells h zero less = let e : at ≡ at + step * 0 = grind arith in subst (λ k. p (cell cells k) ≡ true) e (and_left _ _ h)
each_of p step (suc count) at cells h (suc i) less = let e : (at + step) + step * i ≡ at + step * suc i = grind arith in subst (λ k. p (cell cells k) ≡ true) e (each_of p step count (at + step) cells (and_right _ _ h) i (omega arith))

pub held_is : (c : Held) → is_held c ≡ true → IsHeld c
held_is nothing h = true≢false (sym h)
held_is (held q w) h = tt

is_of : (c : Held) → IsHeld c → is_held c ≡ true
is_of nothing h = absurd h
is_of (held q w) h = refl

pub whole_is : (c : Held) → is_whole c ≡ true → (old : ℕ) × (c ≡ held whole old)
whole_is nothing h = absurd (true≢false (sym h))
whole_is (held whole w) h = (w, refl)
whole_is (held (part p) w) h = absurd (true≢false (sym h))

-- a span of places that are held
pub span_held : (count first : ℕ) (cells : List Held) → every is_held 1 count first cells ≡ true → (i : ℕ) → InSpan first count i → IsHeld (cell cells i)
span_held zero first cells h i s = absurd (let a = s.0 in let b = s.1 in omega arith)
span_held (suc count) first cells h i s =
    let a = s.0 in
    let b = s.1 in
    let e : first + 1 * (i - first) ≡ i = omega arith in
    subst (λ k. IsHeld (cell cells k)) e (held_is _ (each_of is_held 1 (suc count) first cells h (i - first) (omega arith)))

-- the same of cells that are known
pub span_of : (count first : ℕ) (cells known : List Held) → cells ≡ known → every is_held 1 count first known ≡ true → (i : ℕ) → InSpan first count i → IsHeld (cell cells i)
span_of count first cells known e h = span_held count first cells (ap (every is_held 1 count first) e ∙ h)

-- the place `i` behind the first one
pub next_held : (count at : ℕ) (cells : List Held) → every is_held 1 count at cells ≡ true → (i : ℕ) → i < count → IsHeld (cell cells (at + i))
next_held count at cells h i less = let e : at + 1 * i ≡ at + i = omega arith in subst (λ k. IsHeld (cell cells k)) e (held_is _ (each_of is_held 1 count at cells h i less))

-- a whole word put at a place
put_at : (cells : List Held) (at word k : ℕ) → is_whole (cell cells k) ≡ true → is_whole (cell (slice_set cells at (held whole word)) k) ≡ true
put_at [] at word k h = h
put_at (c ∷ cs) zero word zero h = refl
put_at (c ∷ cs) zero word (suc k) h = h
put_at (c ∷ cs) (suc at) word zero h = h
put_at (c ∷ cs) (suc at) word (suc k) h = put_at cs at word k h

pub put_every : (step count first : ℕ) (cells : List Held) (at word : ℕ) → every is_whole step count first cells ≡ true → every is_whole step count first (slice_set cells at (held whole word)) ≡ true
put_every step zero first cells at word h = refl
put_every step (suc count) first cells at word h = and_both _ _ (put_at cells at word first (and_left _ _ h)) (put_every step count (first + step) cells at word (and_right _ _ h))

-- of two grants, one of which holds the place
pub held_left : (a b c : Held) → HeldSum a b c → is_whole a ≡ true → IsHeld c
held_left nothing b c s h = absurd (true≢false (sym h))
held_left (held q v) nothing c s h = subst IsHeld (sym s) tt
held_left (held q v) (held p w) c s h = subst IsHeld (sym s.3) tt

pub held_right : (a b c : Held) → HeldSum a b c → is_whole b ≡ true → IsHeld c
held_right a nothing c s h = absurd (true≢false (sym h))
held_right nothing (held p w) c s h = subst IsHeld (sym s) tt
held_right (held q v) (held p w) c s h = subst IsHeld (sym s.3) tt

-- places of which one grant has the whole are held in the sum
pub every_left : (step count at : ℕ) (a b c : List Held) → ((i : ℕ) → HeldSum (cell a i) (cell b i) (cell c i)) → every is_whole step count at a ≡ true → every is_held step count at c ≡ true
every_left step zero at a b c s h = refl
every_left step (suc count) at a b c s h = and_both _ _ (is_of _ (held_left _ _ _ (s at) (and_left _ _ h))) (every_left step count (at + step) a b c s (and_right _ _ h))

pub every_right : (step count at : ℕ) (a b c : List Held) → ((i : ℕ) → HeldSum (cell a i) (cell b i) (cell c i)) → every is_whole step count at b ≡ true → every is_held step count at c ≡ true
every_right step zero at a b c s h = refl
every_right step (suc count) at a b c s h = and_both _ _ (is_of _ (held_right _ _ _ (s at) (and_left _ _ h))) (every_right step count (at + step) a b c s (and_right _ _ h))

pub even_held : (count : ℕ) (cells : List Held) → every is_held 2 count 0 cells ≡ true → (i : ℕ) → i < count → IsHeld (cell cells (2 * i))
even_held count cells h i less = let e : 0 + 2 * i ≡ 2 * i = omega arith in subst (λ k. IsHeld (cell cells k)) e (held_is _ (each_of is_held 2 count 0 cells h i less))

pub odd_held : (count : ℕ) (cells : List Held) → every is_held 2 count 1 cells ≡ true → (i : ℕ) → i < count → IsHeld (cell cells (2 * i + 1))
odd_held count cells h i less = let e : 1 + 2 * i ≡ 2 * i + 1 = omega arith in subst (λ k. IsHeld (cell cells k)) e (held_is _ (each_of is_held 2 count 1 cells h i less))

-- spans whose places are all held
abbrev pub all_held : List Span → List Held → Bool
all_held [] cells = true
all_held (span ∷ spans) cells = every is_held 1 span.count span.first cells && all_held spans cells

in_it : (first count i : ℕ) → in_span first count i ≡ true → InSpan first count i
in_it first count i h = (leb-true _ _ (and_left _ _ h), ltb-true _ _ (and_right _ _ h))

spans_held : (spans : List Span) (cells : List Held) → all_held spans cells ≡ true → (i : ℕ) → in_spans spans i ≡ true → IsHeld (cell cells i)
spans_held [] cells h i e = absurd (true≢false (sym e))
spans_held (span ∷ spans) cells h i e = ⊎_elim
    (λ t. span_held span.count span.first cells (and_left _ _ h) i (in_it span.first span.count i t))
    (λ t. spans_held spans cells (and_right _ _ h) i t)
    (or_cases _ _ e)

pub spans_of : (spans : List Span) (cells known : List Held) → cells ≡ known → all_held spans known ≡ true → (i : ℕ) → in_spans spans i ≡ true → IsHeld (cell cells i)
spans_of spans cells known e h = spans_held spans cells (ap (all_held spans) e ∙ h)

-- so many spans of one place, each two behind the one before it
abbrev pub every_other : (count first : ℕ) → List Span
every_other zero first = []
every_other (suc count) first = record { first = first; count = 1 } ∷ every_other count (2 + first)

-- the places of a grant by those of another one that has the same there
every_same : (p : Held → Bool) (step count at : ℕ) (a b : List Held) → ((i : ℕ) → cell a i ≡ cell b i) → every p step count at a ≡ every p step count at b
every_same p step zero at a b e = refl
every_same p step (suc count) at a b e = let rest = every_same p step count (at + step) a b e in λ i. p (e at i) && rest i

-- a grant that was halved and is united again
pub every_again : (p : Held → Bool) (step count at : ℕ) (inside : ℕ → Bool) (known base a b c : List Held) → a ≡ each (kept_half_of inside) 0 base → b ≡ each (lent_half_of inside) 0 base
    → ((i : ℕ) → HeldSum (cell a i) (cell b i) (cell c i)) → base ≡ known → every p step count at known ≡ true → every p step count at c ≡ true
every_again p step count at inside known base a b c l r s e h = every_same p step count at c base same ∙ ap (every p step count at) e ∙ h
  where
    same : (i : ℕ) → cell c i ≡ cell base i
    same i = sum_same _ _ _ _ (s i) (subst (λ (t : List Held × List Held). HeldSum (cell t.0 i) (cell t.1 i) (cell base i)) (λ z. (sym l z, sym r z)) (half_sums inside base i))

pub whole_held : (count at : ℕ) (cells : List Held) → every is_whole 2 count at cells ≡ true → (i : ℕ) → i < count → IsHeld (cell cells (at + 2 * i))
whole_held count at cells h i less = let w = whole_is _ (each_of is_whole 2 count at cells h i less) in subst IsHeld (sym w.1) tt
