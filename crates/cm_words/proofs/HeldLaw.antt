-- Places of grants: sums and halves, and lists of them.
use Rattle.std.proofs.Common.{◌≡◌, ℕ, zero, suc, ◌+◌, ◌<◌, ◌≤◌, ◌⊎◌, inl, inr, List, [], ◌∷◌, length, sym, refl, ap, ◌∙◌, subst, arith, Bool, true, false, true≢false}
use Rattle.std.specs.Prelude.{◌||◌, if◌then◌else◌, Some}
use Rattle.cm_share.specs.Share.{Share, OneOf, Point, has_point}
use Rattle.cm_share.specs.Together.{together}
use Rattle.cm_share.proofs.ShareLaw.{has_together, share_halves, share_same, share_comm}
use Rattle.cm_words.specs.Held.{Held, nothing, held, cell, has, HeldSum, IsHeld, each, kept_of, parted_of, kept_part_of, lent_part_of, kept_half_of, lent_half_of}
use Rattle.cm_words.specs.Rule.{Apart}

abbrev IsThere : Held → Type 0
IsThere nothing = ⊥
IsThere (held q w) = Unit {0}

pub nothing_there : {q : Share} {w : ℕ} → nothing ≡ held q w → ⊥
nothing_there e = subst IsThere (sym e) tt

abbrev word_or : Held → ℕ
word_or nothing = 0
word_or (held q w) = w

pub same_word : {q p : Share} {v w : ℕ} → held q v ≡ held p w → v ≡ w
same_word e = ap word_or e

pub or_left : (a b : Bool) → a ≡ true → (a || b) ≡ true
or_left true b e = refl
or_left false b e = absurd (true≢false (sym e))

pub or_right : (a b : Bool) → b ≡ true → (a || b) ≡ true
or_right true b e = refl
or_right false b e = e

pub or_none : (a : Bool) → (a || false) ≡ true → a ≡ true
or_none true e = refl
or_none false e = e

pub or_cases : (a b : Bool) → (a || b) ≡ true → (a ≡ true) ⊎ (b ≡ true)
or_cases true b e = inl refl
or_cases false b e = inr e

one_or : (a b c : Bool) → OneOf a b c → c ≡ (a || b)
one_or true true c e = absurd e
one_or true false c e = e
one_or false b c e = e

one_not_both : (a b c : Bool) → OneOf a b c → a ≡ true → b ≡ true → ⊥
one_not_both true true c e f g = e
one_not_both true false c e f g = true≢false (sym g)
one_not_both false b c e f g = true≢false (sym f)

one_of : (a b : Bool) → (a ≡ true → b ≡ true → ⊥) → OneOf a b (a || b)
one_of true true h = h refl refl
one_of true false h = refl
one_of false b h = refl

-- ---- sums

pub sum_none : (a : Held) → HeldSum a nothing a
sum_none nothing = refl
sum_none (held q v) = refl

pub sum_has : (a b c : Held) → HeldSum a b c → (x : Point) → has c x ≡ (has a x || has b x)
sum_has nothing b c e x = ap (λ z. has z x) e
sum_has (held q v) nothing c e x = ap (λ z. has z x) e ∙ with_false (has_point q x)
  where
    with_false : (b : Bool) → b ≡ (b || false)
    with_false true = refl
    with_false false = refl
sum_has (held q v) (held p w) c e x = ap (λ z. has z x) e.3 ∙ one_or _ _ _ (e.2.points x)

pub sum_apart : (a b c : Held) → HeldSum a b c → Apart a b
sum_apart nothing b c e x f g = true≢false (sym f)
sum_apart (held q v) nothing c e x f g = true≢false (sym g)
sum_apart (held q v) (held p w) c e x f g = one_not_both _ _ _ (e.2.points x) f g

-- the words of a sum are those of its parts
pub left_word : (a b c : Held) → HeldSum a b c → (q : Share) (w : ℕ) → a ≡ held q w → (p : Share) × (c ≡ held p w)
left_word nothing b c e q w f = absurd (nothing_there f)
left_word (held r v) nothing c e q w f = (q, e ∙ f)
left_word (held r v) (held p u) c e q w f = (e.1, e.3 ∙ ap (held e.1) (same_word f))

pub right_word : (a b c : Held) → HeldSum a b c → (q : Share) (w : ℕ) → b ≡ held q w → (p : Share) × (c ≡ held p w)
right_word nothing b c e q w f = (q, e ∙ f)
right_word (held r v) nothing c e q w f = absurd (nothing_there f)
right_word (held r v) (held p u) c e q w f = (e.1, e.3 ∙ ap (held e.1) (sym e.0 ∙ same_word f))

pub sum_word : (a b c : Held) → HeldSum a b c → (q : Share) (w : ℕ) → c ≡ held q w → ((p : Share) × (a ≡ held p w)) ⊎ ((p : Share) × (b ≡ held p w))
sum_word nothing b c e q w f = inr (q, sym e ∙ f)
sum_word (held r v) nothing c e q w f = inl (q, sym e ∙ f)
sum_word (held r v) (held p u) c e q w f = inl (r, ap (held r) (same_word (sym e.3 ∙ f)))

pub sum_same : (a b c d : Held) → HeldSum a b c → HeldSum a b d → c ≡ d
sum_same nothing b c d e f = e ∙ sym f
sum_same (held q v) nothing c d e f = e ∙ sym f
sum_same (held q v) (held p w) c d e f = e.3 ∙ ap (λ r. held r v) (share_same e.2 f.2) ∙ sym f.3

pub sum_comm : (a b c : Held) → HeldSum a b c → HeldSum b a c
sum_comm nothing nothing c e = e
sum_comm nothing (held p w) c e = e
sum_comm (held q v) nothing c e = e
sum_comm (held q v) (held p w) c e = (sym e.0, e.1, share_comm e.2, e.3 ∙ ap (held e.1) (sym e.0))

-- two that are apart and of one word have a sum
pub sum_of : (a b : Held) → Apart a b → ((q p : Share) (v w : ℕ) → a ≡ held q v → b ≡ held p w → w ≡ v) → (c : Held) × HeldSum a b c
sum_of nothing b h same = (b, refl)
sum_of (held q v) nothing h same = (held q v, refl)
sum_of (held q v) (held p w) h same = (
  held (together q (Some p)) v,
  (
    same q p v w refl refl,
    together q (Some p),
    record { points = λ x. subst (λ z. OneOf (has_point q x) (has_point p x) z) (sym (has_together q (Some p) x)) (one_of _ _ (h x)) },
    refl,
  ),
)

-- ---- lists of places

pub cell_there : (cs : List Held) (i : ℕ) (q : Share) (w : ℕ) → cell cs i ≡ held q w → i < length cs
cell_there [] i q w e = absurd (nothing_there e)
cell_there (c ∷ cs) zero q w e = omega arith
cell_there (c ∷ cs) (suc i) q w e = let t = cell_there cs i q w e in omega arith

longer : (c d : Held) (cs ds : List Held) → (e : Held) × HeldSum c d e → (n : List Held) × ((i : ℕ) → HeldSum (cell cs i) (cell ds i) (cell n i)) × ((k : ℕ) → length (cs) ≤ k → length (ds) ≤ k → length n ≤ k)
    → (n : List Held) × ((i : ℕ) → HeldSum (cell (c ∷ cs) i) (cell (d ∷ ds) i) (cell n i)) × ((k : ℕ) → length (c ∷ cs) ≤ k → length (d ∷ ds) ≤ k → length n ≤ k)
longer c d cs ds e r = (e.0 ∷ r.0, by, short)
  where
    by : (i : ℕ) → HeldSum (cell (c ∷ cs) i) (cell (d ∷ ds) i) (cell (e.0 ∷ r.0) i)
    by zero = e.1
    by (suc i) = r.1 i

    short : (k : ℕ) → suc (length cs) ≤ k → suc (length ds) ≤ k → suc (length r.0) ≤ k
    short zero a b = absurd (omega arith)
    short (suc k) a b = let t = r.2 k (omega arith) (omega arith) in omega arith

pub sum_cells : (l m : List Held) → ((i : ℕ) → (c : Held) × HeldSum (cell l i) (cell m i) c) → (n : List Held) × ((i : ℕ) → HeldSum (cell l i) (cell m i) (cell n i)) × ((k : ℕ) → length (l) ≤ k → length (m) ≤ k → length n ≤ k)
sum_cells [] m h = (m, (λ i. refl), (λ k a b. b))
sum_cells (c ∷ cs) [] h = (c ∷ cs, (λ i. sum_none (cell (c ∷ cs) i)), (λ k a b. a))
sum_cells (c ∷ cs) (d ∷ ds) h = longer c d cs ds (h 0) (sum_cells cs ds (λ i. h (suc i)))

pub held_there : (cs : List Held) (i : ℕ) → IsHeld (cell cs i) → i < length cs
held_there [] i h = absurd h
held_there (c ∷ cs) zero h = omega arith
held_there (c ∷ cs) (suc i) h = let t = held_there cs i h in omega arith

pub length_each : (f : ℕ → Held → Held) (k : ℕ) (cs : List Held) → length (each f k cs) ≡ length cs
length_each f k [] = refl
length_each f k (c ∷ cs) = ap suc (length_each f (suc k) cs)

pub cell_each : (f : ℕ → Held → Held) → ((k : ℕ) → f k nothing ≡ nothing) → (k : ℕ) (cs : List Held) (i : ℕ) → cell (each f k cs) i ≡ f (k + i) (cell cs i)
cell_each f h k [] i = sym (h (k + i))
cell_each f h k (c ∷ cs) zero = let e : k ≡ k + 0 = omega arith in ap (λ z. f z c) e
cell_each f h k (c ∷ cs) (suc i) = let e : suc k + i ≡ k + suc i = omega arith in cell_each f h (suc k) cs i ∙ ap (λ z. f z (cell cs i)) e

pub cell_of_each : (f : ℕ → Held → Held) → ((k : ℕ) → f k nothing ≡ nothing) → (cs : List Held) (i : ℕ) → cell (each f 0 cs) i ≡ f i (cell cs i)
cell_of_each f h cs i = let e : 0 + i ≡ i = omega arith in cell_each f h 0 cs i ∙ ap (λ z. f z (cell cs i)) e

-- ---- the two parts of a place

-- a place that was halved, together again
pub halves_sum : (c : Held) → HeldSum (kept_part_of c) (lent_part_of c) c
halves_sum nothing = refl
halves_sum (held q w) = (refl, q, share_halves q, refl)

pub halves_back : (c d : Held) → HeldSum (kept_part_of c) (lent_part_of c) d → d ≡ c
halves_back c d e = sum_same _ _ _ _ e (halves_sum c)

cut : (b : Bool) (c : Held) → HeldSum (if b then nothing else c) (if b then c else nothing) c
cut true c = refl
cut false c = sum_none c

halves : (b : Bool) (c : Held) → HeldSum (if b then kept_part_of c else c) (if b then lent_part_of c else nothing) c
halves true c = halves_sum c
halves false c = sum_none c

none : (b : Bool) → (if b then nothing else nothing) ≡ nothing
none true = refl
none false = refl

-- parted, and halved, the two parts are what there was
pub cut_sums : (inside : ℕ → Bool) (cs : List Held) (i : ℕ) → HeldSum (cell (each (kept_of inside) 0 cs) i) (cell (each (parted_of inside) 0 cs) i) (cell cs i)
cut_sums inside cs i =
    subst (λ (t : Held × Held). HeldSum t.0 t.1 (cell cs i))
    (λ z. (sym (cell_of_each (kept_of inside) (λ k. none (inside k)) cs i) z, sym (cell_of_each (parted_of inside) (λ k. none (inside k)) cs i) z))
    (cut (inside i) (cell cs i))

pub half_sums : (inside : ℕ → Bool) (cs : List Held) (i : ℕ) → HeldSum (cell (each (kept_half_of inside) 0 cs) i) (cell (each (lent_half_of inside) 0 cs) i) (cell cs i)
half_sums inside cs i =
    subst (λ (t : Held × Held). HeldSum t.0 t.1 (cell cs i))
    (λ z. (sym (cell_of_each (kept_half_of inside) (λ k. none (inside k)) cs i) z, sym (cell_of_each (lent_half_of inside) (λ k. none (inside k)) cs i) z))
    (halves (inside i) (cell cs i))

pub parted_places : (inside : ℕ → Bool) (cs : List Held) (i : ℕ)
    → (cell (each (kept_of inside) 0 cs) i ≡ kept_of inside i (cell cs i)) × (cell (each (parted_of inside) 0 cs) i ≡ parted_of inside i (cell cs i))
parted_places inside cs i = (cell_of_each (kept_of inside) (λ k. none (inside k)) cs i, cell_of_each (parted_of inside) (λ k. none (inside k)) cs i)

pub halved_places : (inside : ℕ → Bool) (cs : List Held) (i : ℕ)
    → (cell (each (kept_half_of inside) 0 cs) i ≡ kept_half_of inside i (cell cs i)) × (cell (each (lent_half_of inside) 0 cs) i ≡ lent_half_of inside i (cell cs i))
halved_places inside cs i = (cell_of_each (kept_half_of inside) (λ k. none (inside k)) cs i, cell_of_each (lent_half_of inside) (λ k. none (inside k)) cs i)

pub shares_apart : (q p : Share) (v w : ℕ) (c : Held) → HeldSum (held q v) (held p w) c → (v ≡ w) × ((x : Point) → has_point q x ≡ true → has_point p x ≡ true → ⊥)
shares_apart q p v w c e = (sym e.0, sum_apart (held q v) (held p w) c e)
