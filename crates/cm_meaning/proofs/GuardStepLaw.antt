-- What calls, spawns, joins and splits do to the guards of a call.
use Rattle.std.proofs.Common.{◌≡◌, ℕ, suc, ◌+◌, ◌<◌, ◌≤◌, List, [], ◌∷◌, ◌++◌, length, None, Some, refl, sym, ap, ◌∙◌, subst, arith, inl, inr}
use Rattle.std.proofs.lemmas.Bool.{lt-ltb, ltb-true, ltb-false, le-leb, leb-true, eq-eqb, eqb-true}
use Rattle.std.proofs.lemmas.Bool.Decides.{eqb_tells}
use Rattle.std.specs.Prelude.{◌⊎◌, Bool, true, false, ◌==◌, ◌&&◌, ◌||◌, if◌then◌else◌, nat_le, nat_lt, ℤ}
use Rattle.cm_syntax.specs.Cell.{Cell, value_in, is_held, unlent, to_write, lent_cell, kept_cell}
use Rattle.cm_syntax.specs.Stack.{Reference, Stack, Scalar, Argument, word, slice, Destination, covers, lends_word, lends, loan_of, write_parts, slice_parameter, push_frame}
use Rattle.cm_meaning.specs.Visible.{Among, IsOpen, IsFresh}
use Rattle.cm_meaning.proofs.LendingLaw.{among_left, among_right, Distinct}
use Rattle.cm_meaning.proofs.TypedFramesLaw.{same_number, left_part, right_part}
use Rattle.cm_meaning.proofs.GuardLaw.{Access, reads, writes, Serves, Named, names, Covers, Refers, StandsFor, Stand, Ghost, Guards, CoveredBy, Passes, Passed, onto, IsFree, Closing}

-- ---- numbers and tests

pub both_true : (x y : Bool) → (x && y) ≡ true → (x ≡ true) × (y ≡ true)
both_true true y h = (refl, h)
both_true false y h = cc h

either_true : (x y : Bool) → (x || y) ≡ true → (x ≡ true) ⊎ (y ≡ true)
either_true true y h = inl refl
either_true false y h = inr h

pub both_and : (x y : Bool) → x ≡ true → y ≡ true → (x && y) ≡ true
both_and x y h l = rw h l

pub covers_true : (r : Reference) (e t j : ℕ) → covers r e t j ≡ true → Covers r e t j
covers_true r e t j h =
    let a = both_true (e == r.depth) (t == r.slot && (nat_le r.start j && nat_lt j (r.start + r.length))) h in
    let b = both_true (t == r.slot) (nat_le r.start j && nat_lt j (r.start + r.length)) a.1 in
    let c = both_true (nat_le r.start j) (nat_lt j (r.start + r.length)) b.1 in
    record { depth = eqb-true e r.depth a.0; slot = eqb-true t r.slot b.0; from = leb-true r.start j c.0; to = ltb-true j (r.start + r.length) c.1 }

pub true_covers : (r : Reference) (e t j : ℕ) → Covers r e t j → covers r e t j ≡ true
true_covers r e t j c =
    both_and (e == r.depth) (t == r.slot && (nat_le r.start j && nat_lt j (r.start + r.length))) (eq-eqb e r.depth c.depth)
    (both_and (t == r.slot) (nat_le r.start j && nat_lt j (r.start + r.length)) (eq-eqb t r.slot c.slot)
    (both_and (nat_le r.start j) (nat_lt j (r.start + r.length)) (le-leb r.start j c.from) (lt-ltb j (r.start + r.length) c.to)))

covered_true : (ws : List Argument) (e t j : ℕ) → lends_word ws e t j ≡ true → CoveredBy ws e t j
covered_true [] e t j h = absurd (differ h)
  where
    differ : false ≡ true → ⊥
    differ e = cc e
covered_true (word v ∷ ws) e t j h = covered_true ws e t j h
covered_true (slice r ∷ ws) e t j h = elim (either_true (covers r e t j) (lends_word ws e t j) h) [
  | inl a ↦ inl (covers_true r e t j a)
  | inr b ↦ inr (covered_true ws e t j b)
]

or_true : (x y : Bool) → y ≡ true → (x || y) ≡ true
or_true true y h = refl
or_true false y h = h

true_or : (x y : Bool) → x ≡ true → (x || y) ≡ true
true_or x y h = rw h refl

lends_covered : (x : Destination) (ws : List Argument) (e t j : ℕ) → CoveredBy ws e t j → lends x ws e t j ≡ true
lends_covered x ws e t j c = by x (among_slices ws c)
  where
    among_slices : (ws : List Argument) → CoveredBy ws e t j → lends_word ws e t j ≡ true
    among_slices [] c = absurd c
    among_slices (word v ∷ ws) c = among_slices ws c
    among_slices (slice r ∷ ws) (inl a) = true_or (covers r e t j) (lends_word ws e t j) (true_covers r e t j a)
    among_slices (slice r ∷ ws) (inr b) = or_true (covers r e t j) (lends_word ws e t j) (among_slices ws b)

    by : (x : Destination) → lends_word ws e t j ≡ true → lends x ws e t j ≡ true
    by None h = h
    by (Some x) h = or_true (e == x.depth && (t == x.slot && j == 0)) (lends_word ws e t j) h

-- a word that a spawn lends is its destination, or one of its slices covers it
lends_true : (x : Destination) (ws : List Argument) (e t j : ℕ) → lends x ws e t j ≡ true
    → ((y : Scalar) × (x ≡ Some y) × (e ≡ y.depth) × (t ≡ y.slot)) ⊎ CoveredBy ws e t j
lends_true None ws e t j h = inr (covered_true ws e t j h)
lends_true (Some y) ws e t j h = elim (either_true (e == y.depth && (t == y.slot && j == 0)) (lends_word ws e t j) h) [
  | inl a ↦ let b = both_true (e == y.depth) (t == y.slot && j == 0) a in let c = both_true (t == y.slot) (j == 0) b.1 in inl (y, refl, eqb-true e y.depth b.0, eqb-true t y.slot c.0)
  | inr b ↦ inr (covered_true ws e t j b)
]

-- a spawn lends for writing what it lends, and the rest not at all
loan_covered : (x : Destination) (ws : List Argument) (e t j : ℕ) → CoveredBy ws e t j → loan_of x ws e t j ≡ to_write
loan_covered x ws e t j c = ap (λ b. if b then to_write else unlent) (lends_covered x ws e t j c)

loan_none : (x : Destination) (ws : List Argument) (e t j : ℕ) → lends x ws e t j ≡ false → loan_of x ws e t j ≡ unlent
loan_none x ws e t j h = ap (λ b. if b then to_write else unlent) h

-- a word that a slice of a spawn covers serves the child as it served here
pub lent_serves : (access : Access) (x : Destination) (ws : List Argument) (e t j : ℕ) (c : Cell ℤ) → CoveredBy ws e t j → Serves access c → Serves access (lent_cell (loan_of x ws e t j) c)
lent_serves access x ws e t j c w s = subst (λ l. Serves access (lent_cell l c)) (sym (loan_covered x ws e t j w)) s

-- what a spawn takes from the continuation: to write, all that the child has a share of; to read, where no share is kept
abbrev pub Takes : {A : Type 0} → Access → (lent kept : Cell A) → Type 0
Takes reads l k = (is_held l ≡ true) × (is_held k ≡ true → ⊥)
Takes writes l k = is_held l ≡ true

-- what a spawn takes is its destination, or one of its slices covers it
pub taken_true : (access : Access) (x : Destination) (ws : List Argument) (e t j : ℕ) (c : Cell ℤ) → Takes access (lent_cell (loan_of x ws e t j) c) (kept_cell (loan_of x ws e t j) c)
    → ((y : Scalar) × (x ≡ Some y) × (e ≡ y.depth) × (t ≡ y.slot)) ⊎ CoveredBy ws e t j
taken_true access x ws e t j c h = by (lends x ws e t j) refl
  where
    nothing : (access : Access) → Takes access (lent_cell unlent c) (kept_cell unlent c) → false ≡ true
    nothing reads h = h.0
    nothing writes h = h

    by : (b : Bool) → lends x ws e t j ≡ b → ((y : Scalar) × (x ≡ Some y) × (e ≡ y.depth) × (t ≡ y.slot)) ⊎ CoveredBy ws e t j
    by true q = lends_true x ws e t j q
    by false q = absurd (cc (nothing access (subst (λ l. Takes access (lent_cell l c) (kept_cell l c)) (loan_none x ws e t j q) h)))

-- ---- names

pub onto_rest : (xs ys : List ℕ) (x : ℕ) → Among ys x → Among (onto xs ys) x
onto_rest [] ys x a = a
onto_rest (y ∷ xs) ys x a = onto_rest xs (y ∷ ys) x (inr a)

pub onto_first : (xs ys : List ℕ) (x : ℕ) → Among xs x → Among (onto xs ys) x
onto_first [] ys x a = absurd a
onto_first (y ∷ xs) ys x (inl e) = onto_rest xs (y ∷ ys) x (inl e)
onto_first (y ∷ xs) ys x (inr a) = onto_first xs (y ∷ ys) x a

-- the parts of a list without a number twice
pub distinct_onto : (xs ys : List ℕ) → Distinct (onto xs ys) → Distinct xs × Distinct ys × ((x : ℕ) → Among xs x → Among ys x → ⊥)
distinct_onto [] ys d = (tt, d, λ x a. absurd a)
distinct_onto (y ∷ xs) ys d =
    let r = distinct_onto xs (y ∷ ys) d in
    ((λ a. r.2 y a (inl refl), r.0), r.1.1, λ x a b. elim a [ inl e ↦ r.1.0 (subst (Among ys) (sym e) b) | inr c ↦ r.2 x c (inr b) ])

refers_named : (known : List Named) (x e t j : ℕ) → Refers known x e t j → Among (names known) x
refers_named [] x e t j r = absurd r
refers_named (n ∷ known) x e t j (inl r) = inl r.0
refers_named (n ∷ known) x e t j (inr r) = inr (refers_named known x e t j r)

-- what stands in a frame is what its slice stands for
pub refer_stands : (row : ℕ → Cell Reference) (known : List Named) (x e t j : ℕ) (r : Reference) → Stand row known → value_in (row x) ≡ Some r → Among (names known) x → Covers r e t j → Refers known x e t j
refer_stands row [] x e t j r s q a h = absurd a
refer_stands row (n ∷ known) x e t j r s q (inl a) h = inl (a, subst (λ z. Covers z e t j) (cc (sym q ∙ ap (λ y. value_in (row y)) (sym a) ∙ s.0)) h)
refer_stands row (n ∷ known) x e t j r s q (inr a) h = inr (refer_stands row known x e t j r s.1 q a h)

pub stand_same : (row other : ℕ → Cell Reference) (known : List Named) → ((s : ℕ) → Among (names known) s → other s ≡ row s) → Stand row known → Stand other known
stand_same row other [] e s = tt
stand_same row other (n ∷ known) e s = (ap value_in (e n.slot (inl refl)) ∙ s.0, stand_same row other known (λ s a. e s (inr a)) s.1)

-- ---- less is away

pub guards_less : (Away Less : (n e t j : ℕ) → Type 0) (depth : ℕ) (g : Ghost) → ((n e t j : ℕ) → n ≤ suc depth → Less n e t j → Away n e t j) → Guards Away depth g → Guards Less depth g
guards_less Away Less depth g f w = record {
  near = λ x e t j s a. w.near x e t j s (f depth e t j (omega arith) a);
  free = λ x e t j o l s a. w.free x e t j o l s (f (suc depth) e t j (omega arith) a);
  quiet = λ x e t j s q a. w.quiet x e t j s q (f (suc depth) e t j (omega arith) a);
  apart = w.apart;
}

-- all children of the call are joined, and nothing of it is lent
pub guards_joined : (Away Less : (n e t j : ℕ) → Type 0) (depth : ℕ) (known : List Named) (hidden lent : List ℕ) → ((e t j : ℕ) → Less depth e t j → Away depth e t j) → ((e t j : ℕ) → Less (suc depth) e t j → Away depth e t j)
    → Guards Away depth (record { known = known; hidden = hidden; lent = lent }) → Guards Less depth (record { known = known; hidden = hidden; lent = [] })
guards_joined Away Less depth known hidden lent f g w = record {
  near = λ x e t j s a. w.near x e t j s (f e t j a);
  free = λ x e t j o l s a. w.near x e t j s (g e t j a);
  quiet = λ x e t j s q a. w.near x e t j s (g e t j a);
  apart = w.apart;
}

-- ---- a spawn

-- what a spawn lends, an open name stands for, which is lent then
pub named_word : (depth : ℕ) (known : List Named) (hidden : List ℕ) (xs : List ℕ) (ws : List Argument) (e t j : ℕ) → Passed depth known hidden xs ws → CoveredBy ws e t j → (x : ℕ) × Among xs x × IsOpen hidden x × StandsFor depth known x e t j
named_word depth known hidden [] [] e t j p c = absurd c
named_word depth known hidden (x ∷ xs) [] e t j p c = absurd p
named_word depth known hidden xs (word v ∷ ws) e t j p c = named_word depth known hidden xs ws e t j p c
named_word depth known hidden [] (slice r ∷ ws) e t j p c = absurd p
named_word depth known hidden (x ∷ xs) (slice r ∷ ws) e t j p (inl c) = (x, inl refl, p.1, p.0 e t j c)
named_word depth known hidden (x ∷ xs) (slice r ∷ ws) e t j p (inr c) = let y = named_word depth known hidden xs ws e t j p.2 c in (y.0, inr y.1, y.2, y.3)

-- with those that a new child takes
abbrev pub With : (Away : (n e t j : ℕ) → Type 0) → (depth : ℕ) → (Taken : (e t j : ℕ) → Type 0) → (n e t j : ℕ) → Type 0
With Away depth Taken n e t j = Away n e t j ⊎ ((depth < n) × Taken e t j)

pub guards_spawned : (Away : (n e t j : ℕ) → Type 0) (Taken : (e t j : ℕ) → Type 0) (depth : ℕ) (known : List Named) (hidden lent xs : List ℕ)
    → ((e t j : ℕ) → Taken e t j → (x : ℕ) × Among xs x × IsOpen hidden x × StandsFor depth known x e t j)
    → Guards Away depth (record { known = known; hidden = hidden; lent = lent }) → Guards (With Away depth Taken) depth (record { known = known; hidden = hidden; lent = xs ++ lent })
guards_spawned Away Taken depth known hidden lent xs named w = record {
  near = λ x e t j s a. elim a [ inl b ↦ w.near x e t j s b | inr b ↦ itself depth b.0 ];
  free = λ x e t j o l s a. elim a [
    | inl b ↦ w.free x e t j o (λ m. l (among_right xs lent x m)) s b
    | inr b ↦ let y = named e t j b.1 in w.apart x y.0 e t j o y.2 (λ q. l (among_left xs lent x (subst (Among xs) (sym q) y.1))) s y.3
  ];
  quiet = λ x e t j s q a. elim a [ inl b ↦ w.quiet x e t j s q b | inr b ↦ let y = named e t j b.1 in q y.0 y.2 y.3 ];
  apart = w.apart;
}
  where
    itself : (n : ℕ) → n < n → ⊥
    itself n l = omega (arith, l)

-- what is passed is at hand, and nothing of it overlaps
pub passes_named : (Away : (n e t j : ℕ) → Type 0) (depth : ℕ) (known : List Named) (hidden lent xs : List ℕ) (ws : List Argument) → Guards Away depth (record { known = known; hidden = hidden; lent = lent })
    → Passed depth known hidden xs ws → IsFree xs lent → Distinct xs → Passes (Away (suc depth)) ws
passes_named Away depth known hidden lent [] [] w p f d = tt
passes_named Away depth known hidden lent (x ∷ xs) [] w p f d = absurd p
passes_named Away depth known hidden lent xs (word v ∷ ws) w p f d = passes_named Away depth known hidden lent xs ws w p f d
passes_named Away depth known hidden lent [] (slice r ∷ ws) w p f d = absurd p
passes_named Away depth known hidden lent (x ∷ xs) (slice r ∷ ws) w p f d = (
  λ e t j c. w.free x e t j p.1 (λ m. f x (inl refl) m) (p.0 e t j c),
  λ e t j c b. (let y = named_word depth known hidden xs ws e t j p.2 b in w.apart x y.0 e t j p.1 y.2 (λ q. d.0 (subst (Among xs) (sym q) y.1)) (p.0 e t j c) y.3),
  passes_named Away depth known hidden lent xs ws w p.2 (λ y a m. f y (inr a) m) d.1,
)

-- what is passed to a child is with it
pub passes_less : (Away Less : (e t j : ℕ) → Type 0) (ws : List Argument) → ((e t j : ℕ) → CoveredBy ws e t j → (Away e t j → ⊥) → Less e t j → ⊥) → Passes Away ws → Passes Less ws
passes_less Away Less [] f p = tt
passes_less Away Less (word v ∷ ws) f p = passes_less Away Less ws f p
passes_less Away Less (slice r ∷ ws) f p =
    (λ e t j c. f e t j (inl c) (p.0 e t j c), p.1, passes_less Away Less ws (λ e t j c. f e t j (inr c)) p.2)

-- ---- a split

module _ (depth : ℕ) (known : List Named) (hidden : List ℕ) (x l r n : ℕ) (whole : Reference) (small : n ≤ whole.length) (fresh : IsFresh (names known) hidden x l r) where
  abbrev pub left_of : Named
  left_of = record { slot = l; reference = left_part whole n }

  abbrev pub right_of : Named
  right_of = record { slot = r; reference = right_part whole n }

  abbrev pub split_known : List Named
  split_known = right_of ∷ left_of ∷ known

  left_whole : (e t j : ℕ) → Covers (left_part whole n) e t j → Covers whole e t j
  left_whole e t j c = record { depth = c.depth; slot = c.slot; from = c.from; to = (let a = c.to in omega (arith, a, small)) }

  right_whole : (e t j : ℕ) → Covers (right_part whole n) e t j → Covers whole e t j
  right_whole e t j c = record { depth = c.depth; slot = c.slot; from = (let a = c.from in omega (arith, a)); to = (let a = c.to in omega (arith, a, small)) }

  pub part_of : (e t j : ℕ) → Covers whole e t j → Covers (left_part whole n) e t j ⊎ Covers (right_part whole n) e t j
  part_of e t j c = by (nat_lt j (whole.start + n)) refl
    where
      by : (b : Bool) → nat_lt j (whole.start + n) ≡ b → Covers (left_part whole n) e t j ⊎ Covers (right_part whole n) e t j
      by true q = inl (record { depth = c.depth; slot = c.slot; from = c.from; to = ltb-true j (whole.start + n) q })
      by false q = inr (record { depth = c.depth; slot = c.slot; from = (let a = ltb-false j (whole.start + n) q in omega (arith, a)); to = (let a = c.to in omega (arith, a, small)) })

  not_both : (e t j : ℕ) → Covers (left_part whole n) e t j → Covers (right_part whole n) e t j → ⊥
  not_both e t j c d = let a = c.to in let b = d.from in omega (arith, a, b)

  -- where the words of a name come from: they were its own before, or the whole's
  pub data Origin (y e t j : ℕ) : Type 0 where
    before : StandsFor depth known y e t j → Origin y e t j
    of_left : l ≡ y → Covers (left_part whole n) e t j → Origin y e t j
    of_right : r ≡ y → Covers (right_part whole n) e t j → Origin y e t j

  pub origin : (y e t j : ℕ) → StandsFor depth split_known y e t j → Origin y e t j
  origin y e t j (inl s) = before (inl s)
  origin y e t j (inr (inl s)) = of_right s.0 s.1
  origin y e t j (inr (inr (inl s))) = of_left s.0 s.1
  origin y e t j (inr (inr (inr s))) = before (inr s)

  -- a name that was there stands for what it stood for
  pub still : (y e t j : ℕ) → StandsFor depth known y e t j → StandsFor depth split_known y e t j
  still y e t j (inl s) = inl s
  still y e t j (inr s) = inr (inr (inr s))

  module _ (stands : (e t j : ℕ) → Covers whole e t j → StandsFor depth known x e t j) where
    open_before : (y : ℕ) → IsOpen (x ∷ hidden) y → IsOpen hidden y
    open_before y o a = o (inr a)

    not_whole : (y : ℕ) → IsOpen (x ∷ hidden) y → x ≡ y → ⊥
    not_whole y o e = o (inl e)

    pub guards_split : (Away : (n e t j : ℕ) → Type 0) (lent : List ℕ) → IsOpen hidden x → (Among lent x → ⊥) → Guards Away depth (record { known = known; hidden = hidden; lent = lent })
        → Guards Away depth (record { known = split_known; hidden = x ∷ hidden; lent = lent })
    guards_split Away lent o m w = record {
      near = λ y e t j s a. near_ y e t j (origin y e t j s) a;
      free = λ y e t j p q s a. free_ y e t j p q (origin y e t j s) a;
      quiet = λ y e t j s q a. quiet_ y e t j (origin y e t j s) q a;
      apart = λ y z e t j p q ne s u. apart_ y z e t j p q ne (origin y e t j s) (origin z e t j u);
    }
      where
        near_ : (y e t j : ℕ) → Origin y e t j → Away depth e t j → ⊥
        near_ y e t j (before s) a = w.near y e t j s a
        near_ y e t j (of_left q s) a = w.near x e t j (stands e t j (left_whole e t j s)) a
        near_ y e t j (of_right q s) a = w.near x e t j (stands e t j (right_whole e t j s)) a

        free_ : (y e t j : ℕ) → IsOpen (x ∷ hidden) y → (Among lent y → ⊥) → Origin y e t j → Away (suc depth) e t j → ⊥
        free_ y e t j p q (before s) a = w.free y e t j (open_before y p) q s a
        free_ y e t j p q (of_left z s) a = w.free x e t j o m (stands e t j (left_whole e t j s)) a
        free_ y e t j p q (of_right z s) a = w.free x e t j o m (stands e t j (right_whole e t j s)) a

        none_before : (e t j : ℕ) → ((y : ℕ) → IsOpen (x ∷ hidden) y → StandsFor depth split_known y e t j → ⊥) → Away (suc depth) e t j → (y : ℕ) → IsOpen hidden y → StandsFor depth known y e t j → ⊥
        none_before e t j q a y p s = elim (eqb_tells x y) [
          | inl one ↦ w.free y e t j p (λ b. m (subst (Among lent) (sym one.1) b)) s a
          | inr ne ↦ q y (λ b. elim b [ inl d ↦ ne.1 d | inr d ↦ p d ]) (still y e t j s)
        ]

        quiet_ : (y e t j : ℕ) → Origin y e t j → ((z : ℕ) → IsOpen (x ∷ hidden) z → StandsFor depth split_known z e t j → ⊥) → Away (suc depth) e t j → ⊥
        quiet_ y e t j (before s) q a = w.quiet y e t j s (none_before e t j q a) a
        quiet_ y e t j (of_left z s) q a = w.free x e t j o m (stands e t j (left_whole e t j s)) a
        quiet_ y e t j (of_right z s) q a = w.free x e t j o m (stands e t j (right_whole e t j s)) a

        apart_ : (y z e t j : ℕ) → IsOpen (x ∷ hidden) y → IsOpen (x ∷ hidden) z → (y ≡ z → ⊥) → Origin y e t j → Origin z e t j → ⊥
        apart_ y z e t j p q ne (before s) (before u) = w.apart y z e t j (open_before y p) (open_before z q) ne s u
        apart_ y z e t j p q ne (before s) (of_left i u) = w.apart x y e t j o (open_before y p) (not_whole y p) (stands e t j (left_whole e t j u)) s
        apart_ y z e t j p q ne (before s) (of_right i u) = w.apart x y e t j o (open_before y p) (not_whole y p) (stands e t j (right_whole e t j u)) s
        apart_ y z e t j p q ne (of_left i s) (before u) = w.apart x z e t j o (open_before z q) (not_whole z q) (stands e t j (left_whole e t j s)) u
        apart_ y z e t j p q ne (of_right i s) (before u) = w.apart x z e t j o (open_before z q) (not_whole z q) (stands e t j (right_whole e t j s)) u
        apart_ y z e t j p q ne (of_left i s) (of_left k u) = ne (sym i ∙ k)
        apart_ y z e t j p q ne (of_right i s) (of_right k u) = ne (sym i ∙ k)
        apart_ y z e t j p q ne (of_left i s) (of_right k u) = not_both e t j s u
        apart_ y z e t j p q ne (of_right i s) (of_left k u) = not_both e t j u s

    -- at the end of the block the parts cover the whole
    pub split_covered : IsOpen hidden x → ((y z e t j : ℕ) → IsOpen hidden y → IsOpen hidden z → (y ≡ z → ⊥) → StandsFor depth known y e t j → StandsFor depth known z e t j → ⊥)
        → (e t j : ℕ) → StandsFor depth known x e t j
        → (StandsFor depth split_known l e t j ⊎ StandsFor depth split_known r e t j) ⊎ ((y : ℕ) → IsOpen (x ∷ hidden) y → StandsFor depth split_known y e t j → ⊥)
    split_covered o apart_ e t j s = by e t j s (covers whole e t j) refl
      where
        none : (e t j : ℕ) → (Covers whole e t j → ⊥) → StandsFor depth known x e t j → (y : ℕ) → IsOpen (x ∷ hidden) y → Origin y e t j → ⊥
        none e t j c s y p (before u) = apart_ x y e t j o (open_before y p) (not_whole y p) s u
        none e t j c s y p (of_left i u) = c (left_whole e t j u)
        none e t j c s y p (of_right i u) = c (right_whole e t j u)

        by : (e t j : ℕ) → StandsFor depth known x e t j → (b : Bool) → covers whole e t j ≡ b
            → (StandsFor depth split_known l e t j ⊎ StandsFor depth split_known r e t j) ⊎ ((y : ℕ) → IsOpen (x ∷ hidden) y → StandsFor depth split_known y e t j → ⊥)
        by e t j s true q = elim (part_of e t j (covers_true whole e t j q)) [
          | inl c ↦ inl (inl (inr (inr (inl (refl, c)))))
          | inr c ↦ inl (inr (inr (inl (refl, c))))
        ]
        by e t j s false q = inr (λ y p u. none e t j (λ c. differ (sym (true_covers whole e t j c) ∙ q)) s y p (origin y e t j u))
          where
            differ : true ≡ false → ⊥
            differ e = cc e

-- what was hidden is open again
pub guards_closed : (Away : (n e t j : ℕ) → Type 0) (depth : ℕ) (known : List Named) (hidden lent : List ℕ) (c : Closing depth known hidden) → (Among lent c.left.slot → ⊥) → (Among lent c.right.slot → ⊥)
    → Guards Away depth (record { known = known; hidden = hidden; lent = lent }) → Guards Away depth (record { known = c.outer_known; hidden = c.outer_hidden; lent = lent })
guards_closed Away depth known hidden lent c free_left free_right w = record {
  near = λ x e t j s a. v.near x e t j (still_ x e t j s) a;
  free = λ x e t j o m s a. elim (eqb_tells c.whole x) [
    | inl one ↦ whole_free e t j (subst (λ z. StandsFor depth c.outer_known z e t j) (sym one.1) s) a
    | inr ne ↦ v.free x e t j (λ b. elim b [ inl d ↦ ne.1 d | inr d ↦ o d ]) m (still_ x e t j s) a
  ];
  quiet = λ x e t j s q a. v.quiet x e t j (still_ x e t j s) (λ y p u. by y e t j p q a u) a;
  apart = c.outer_apart;
}
  where
    v : Guards Away depth (record { known = c.right ∷ c.left ∷ c.outer_known; hidden = c.whole ∷ c.outer_hidden; lent = lent })
    v = subst (λ z. Guards Away depth (record { known = z; hidden = c.whole ∷ c.outer_hidden; lent = lent })) c.known_is (subst (λ z. Guards Away depth (record { known = known; hidden = z; lent = lent })) c.hidden_is w)

    still_ : (y e t j : ℕ) → StandsFor depth c.outer_known y e t j → StandsFor depth (c.right ∷ c.left ∷ c.outer_known) y e t j
    still_ y e t j (inl s) = inl s
    still_ y e t j (inr s) = inr (inr (inr s))

    whole_free : (e t j : ℕ) → StandsFor depth c.outer_known c.whole e t j → Away (suc depth) e t j → ⊥
    whole_free e t j s a = elim (c.covered e t j s) [
      | inl b ↦ elim b [ inl d ↦ v.free c.left.slot e t j c.left_open free_left d a | inr d ↦ v.free c.right.slot e t j c.right_open free_right d a ]
      | inr none ↦ v.quiet c.whole e t j (still_ c.whole e t j s) none a
    ]

    by : (y e t j : ℕ) → IsOpen (c.whole ∷ c.outer_hidden) y → ((z : ℕ) → IsOpen c.outer_hidden z → StandsFor depth c.outer_known z e t j → ⊥) → Away (suc depth) e t j → StandsFor depth (c.right ∷ c.left ∷ c.outer_known) y e t j → ⊥
    by y e t j p q a (inl s) = q y (λ b. p (inr b)) (inl s)
    by y e t j p q a (inr (inl s)) = v.free c.right.slot e t j c.right_open free_right (inr (inl (refl, s.1))) a
    by y e t j p q a (inr (inr (inl s))) = v.free c.left.slot e t j c.left_open free_left (inr (inr (inl (refl, s.1)))) a
    by y e t j p q a (inr (inr (inr s))) = q y (λ b. p (inr b)) (inr s)

pub stand_closed : (row : ℕ → Cell Reference) (depth : ℕ) (known : List Named) (hidden : List ℕ) (c : Closing depth known hidden) → Stand row known → Stand row c.outer_known
stand_closed row depth known hidden c s = let t : Stand row (c.right ∷ c.left ∷ c.outer_known) = subst (Stand row) c.known_is s in t.1.1

-- the references of a frame behind a split
pub other_number : (a b : ℕ) → (a ≡ b → ⊥) → (a == b) ≡ false
other_number a b ne = elim (eqb_tells a b) [ inl one ↦ absurd (ne one.1) | inr d ↦ d.0 ]

pub stand_split : (h : Stack) (depth : ℕ) (known : List Named) (hidden : List ℕ) (x l r n : ℕ) (whole : Reference) → IsFresh (names known) hidden x l r → Stand (h.references depth) known
    → Stand ((write_parts h depth l r whole n).references depth) (record { slot = r; reference = right_part whole n } ∷ record { slot = l; reference = left_part whole n } ∷ known)
stand_split h depth known hidden x l r n whole fresh s = (at_right, (at_left, stand_same (h.references depth) ((write_parts h depth l r whole n).references depth) known others s))
  where
    at_right : value_in ((write_parts h depth l r whole n).references depth r) ≡ Some (right_part whole n)
    at_right = let a = same_number depth in let b = same_number r in rw (a, b) refl

    at_left : value_in ((write_parts h depth l r whole n).references depth l) ≡ Some (left_part whole n)
    at_left = let a = same_number depth in let b = same_number l in let c : (l == r) ≡ false = other_number l r fresh.apart in rw (a, c, b) refl

    others : (t : ℕ) → Among (names known) t → (write_parts h depth l r whole n).references depth t ≡ h.references depth t
    others t a =
        let b : (t == r) ≡ false = other_number t r (λ e. fresh.right_unknown (subst (Among (names known)) e a)) in
        let c : (t == l) ≡ false = other_number t l (λ e. fresh.left_unknown (subst (Among (names known)) e a)) in
        let d = same_number depth in rw (d, b, c) refl

-- ---- a call

-- the slices of a new frame
abbrev pub known_of : List Argument → List Named
known_of [] = []
known_of (word v ∷ ws) = known_of ws
known_of (slice r ∷ ws) = record { slot = length ws; reference = r } ∷ known_of ws

pub known_low : (ws : List Argument) (x : ℕ) → Among (names (known_of ws)) x → x < length ws
known_low [] x a = absurd a
known_low (word v ∷ ws) x a = let l = known_low ws x a in omega (arith, l)
known_low (slice r ∷ ws) x (inl e) = omega (arith, e)
known_low (slice r ∷ ws) x (inr a) = let l = known_low ws x a in omega (arith, l)

known_covered : (ws : List Argument) (x e t j : ℕ) → Refers (known_of ws) x e t j → CoveredBy ws e t j
known_covered [] x e t j r = absurd r
known_covered (word v ∷ ws) x e t j r = known_covered ws x e t j r
known_covered (slice q ∷ ws) x e t j (inl r) = inl r.1
known_covered (slice q ∷ ws) x e t j (inr r) = inr (known_covered ws x e t j r)

passes_covered : (Away : (e t j : ℕ) → Type 0) (ws : List Argument) (e t j : ℕ) → Passes Away ws → CoveredBy ws e t j → Away e t j → ⊥
passes_covered Away [] e t j p c a = c
passes_covered Away (word v ∷ ws) e t j p c a = passes_covered Away ws e t j p c a
passes_covered Away (slice r ∷ ws) e t j p (inl c) a = p.0 e t j c a
passes_covered Away (slice r ∷ ws) e t j p (inr c) a = passes_covered Away ws e t j p.2 c a

passes_apart : (Away : (e t j : ℕ) → Type 0) (ws : List Argument) (x y e t j : ℕ) → Passes Away ws → (x ≡ y → ⊥) → Refers (known_of ws) x e t j → Refers (known_of ws) y e t j → ⊥
passes_apart Away [] x y e t j p ne r s = r
passes_apart Away (word v ∷ ws) x y e t j p ne r s = passes_apart Away ws x y e t j p ne r s
passes_apart Away (slice q ∷ ws) x y e t j p ne (inl r) (inl s) = ne (sym r.0 ∙ s.0)
passes_apart Away (slice q ∷ ws) x y e t j p ne (inl r) (inr s) = p.1 e t j r.1 (known_covered ws y e t j s)
passes_apart Away (slice q ∷ ws) x y e t j p ne (inr r) (inl s) = p.1 e t j s.1 (known_covered ws x e t j r)
passes_apart Away (slice q ∷ ws) x y e t j p ne (inr r) (inr s) = passes_apart Away ws x y e t j p.2 ne r s

later_parameter : (ws : List Argument) (s : ℕ) → s < length ws → (z : Argument) → slice_parameter (z ∷ ws) s ≡ slice_parameter ws s
later_parameter ws s l (word v) = refl
later_parameter ws s l (slice r) = let b : (s == length ws) ≡ false = other_number s (length ws) (λ e. below_itself s (length ws) l e) in rw b refl
  where
    below_itself : (a b : ℕ) → a < b → a ≡ b → ⊥
    below_itself a b l e = omega (arith, l, e)

parameters_stand : (ws : List Argument) → Stand (slice_parameter ws) (known_of ws)
parameters_stand [] = tt
parameters_stand (word v ∷ ws) = stand_same (slice_parameter ws) (slice_parameter (word v ∷ ws)) (known_of ws) (λ s a. refl) (parameters_stand ws)
parameters_stand (slice r ∷ ws) = (
  (let b = same_number (length ws) in rw b refl),
  stand_same (slice_parameter ws) (slice_parameter (slice r ∷ ws)) (known_of ws) (λ s a. later_parameter ws s (known_low ws s a) (slice r)) (parameters_stand ws),
)

pub pushed_stand : (h : Stack) (n : ℕ) (ws : List Argument) → Stand ((push_frame h n ws).references n) (known_of ws)
pushed_stand h n ws = stand_same (slice_parameter ws) ((push_frame h n ws).references n) (known_of ws) (λ s a. (let b = same_number n in rw b refl)) (parameters_stand ws)

pub guards_pushed : (Away : (n e t j : ℕ) → Type 0) (n : ℕ) (ws : List Argument) → ((t j : ℕ) → Away n n t j → ⊥) → ((e t j : ℕ) → Away (suc n) e t j → Away n e t j) → ((e t j : ℕ) → CoveredBy ws e t j → e ≡ n → ⊥)
    → Passes (Away n) ws → Guards Away n (record { known = known_of ws; hidden = []; lent = [] })
guards_pushed Away n ws new no_child older p = record {
  near = near_;
  free = λ x e t j o l s a. near_ x e t j s (no_child e t j a);
  quiet = λ x e t j s q a. near_ x e t j s (no_child e t j a);
  apart = λ x y e t j o q ne s u. apart_ x y e t j ne s u;
}
  where
    near_ : (x e t j : ℕ) → StandsFor n (known_of ws) x e t j → Away n e t j → ⊥
    near_ x e t j (inl s) a = new t j (subst (λ z. Away n z t j) s.0 a)
    near_ x e t j (inr s) a = passes_covered (Away n) ws e t j p (known_covered ws x e t j s) a

    apart_ : (x y e t j : ℕ) → (x ≡ y → ⊥) → StandsFor n (known_of ws) x e t j → StandsFor n (known_of ws) y e t j → ⊥
    apart_ x y e t j ne (inl s) (inl u) = ne (sym s.1 ∙ u.1)
    apart_ x y e t j ne (inl s) (inr u) = older e t j (known_covered ws y e t j u) s.0
    apart_ x y e t j ne (inr s) (inl u) = older e t j (known_covered ws x e t j s) u.0
    apart_ x y e t j ne (inr s) (inr u) = passes_apart (Away n) ws x y e t j p ne s u
