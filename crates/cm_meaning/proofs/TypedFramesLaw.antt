-- Stacks whose frames are all held, with references to set words: what a step writes keeps that.
use Rattle.std.proofs.Common.{◌≡◌, ◌≢◌, ℕ, zero, suc, ◌+◌, ◌<◌, ◌≤◌, List, [], ◌∷◌, ◌++◌, length, Option, None, Some, refl, sym, ap, ◌∙◌, subst, arith, inl, inr}
use Rattle.std.proofs.lemmas.Bool.{eq-eqb, lt-ltb, ltb-true, ltb-false}
use Rattle.std.proofs.lemmas.Bool.Decides.{eqb_tells}
use Rattle.std.specs.Prelude.{◌⊎◌, Bool, true, false, ◌==◌, ◌&&◌, if◌then◌else◌, nat_lt, ◌-◌, ℤ, pos, Contains, slice_get}
use Rattle.cm_syntax.specs.declared.stmt.Slot.{Slot}
use Rattle.cm_syntax.specs.declared.stmt.Slot.TheVariants as slot
use Rattle.cm_syntax.specs.declared.stmt.Extent.{Extent}
use Rattle.cm_syntax.specs.declared.stmt.Extent.TheVariants as extent
use Rattle.cm_syntax.specs.Extent.{extent_at}
use Rattle.cm_syntax.specs.declared.stmt.Program.{Program}
use Rattle.cm_syntax.specs.Cell.{Cell, absent, unset, present, may_write, shared}
use Rattle.cm_syntax.specs.Stack.{Reference, Stack, Argument, word, slice, write_word, clear_words, write_reference, word_parameter, slice_parameter, push_frame, pop_frame, IsUnder}
use Rattle.cm_syntax.specs.Rest.{Item, Hand, idle, holds, returned, entering, framing, end, Control, control}
use Rattle.cm_syntax.specs.Step.{slots_in}
use Rattle.cm_meaning.specs.Typing.{numbers_below}
use Rattle.cm_meaning.specs.TypedState.{IsPresent, row_words, IsSet, AreSet, at_hand, slots_at, IsReference, FitParameters, Outer, Ready, TypedState, IsThere, FitsExtent}
use Rattle.cm_meaning.proofs.WeakeningLaw.{contains_cases}
use Rattle.cm_meaning.proofs.GrowthLaw.{KeepsWords, Grows, set_moves, reference_moves}

-- every cell of the live frames is held, nothing beyond is, and a reference is to set words of its frame or one before
pub record Frames (program : Program) (calls : List ℕ) (h : Stack) : Type 0 where
  pub words : (d s i : ℕ) → d < length calls → may_write (h.words d s i) ≡ true
  pub references : (d s : ℕ) → d < length calls → may_write (h.references d s) ≡ true
  pub below : IsUnder (length calls) h
  pub refers : (d s : ℕ) (r : Reference) → h.references d s ≡ present r → (r.depth ≤ d) × IsReference program h calls r

-- the second stack has a value in some words of the frames before this depth, and is the first one elsewhere
pub record Wider (n : ℕ) (h g : Stack) : Type 0 where
  pub words : (d s i : ℕ) → (g.words d s i ≡ h.words d s i) ⊎ ((d < n) × IsPresent (g.words d s i))
  pub references : (d s : ℕ) → h.references d s ≡ g.references d s

-- the value that is there
pub present_value : {A : Type 0} (c : Cell A) → IsPresent c → (v : A) × (c ≡ present v)
present_value absent p = absurd p
present_value unset p = absurd p
present_value (present v) p = (v, refl)
present_value (shared q v) p = absurd p

pub present_held : {A : Type 0} (c : Cell A) → IsPresent c → may_write c ≡ true
present_held c p = ap may_write (present_value c p).1

present_if : {A : Type 0} (q : Bool) (c : Cell A) (v : A) → IsPresent c → IsPresent (if q then present v else c)
present_if true c v p = tt
present_if false c v p = p

absent_free : {A : Type 0} (c : Cell A) → c ≡ absent → IsPresent c → ⊥
absent_free c e p = subst IsPresent e p

is_present : {A : Type 0} (c : Cell A) (v : A) → c ≡ present v → IsPresent c
is_present c v e = subst IsPresent (sym e) tt

pub same_number : (n : ℕ) → (n == n) ≡ true
same_number n = eq-eqb n n refl

-- a number is not one that is more, nor one that is less
below_apart : (a b : ℕ) → a < b → (a == b) ≡ false
below_apart a b l = elim (eqb_tells a b) [ inl one ↦ absurd (none a b l one.1) | inr ne ↦ ne.0 ]
  where
    none : (a b : ℕ) → a < b → a ≡ b → ⊥
    none a b l e = omega (arith, l, e)

above_apart : (a b : ℕ) → b < a → (a == b) ≡ false
above_apart a b l = elim (eqb_tells a b) [ inl one ↦ absurd (none a b l one.1) | inr ne ↦ ne.0 ]
  where
    none : (a b : ℕ) → b < a → a ≡ b → ⊥
    none a b l e = omega (arith, l, e)

-- no number is less than 0
pub no_less : (i : ℕ) → i < 0 → ⊥
no_less i l = omega (arith, l)

-- what holds of 0 holds of each number below 1
pub only_zero : (P : ℕ → Type 0) → P 0 → (i : ℕ) → i < 1 → P i
only_zero P p zero l = p
only_zero P p (suc i) l = absurd (no_less i (omega (arith, l)))

pub wider_grows : (n m : ℕ) (h g : Stack) → Wider n h g → Grows m h g
wider_grows n m h g w = record {
  words = λ d s i l p. elim (w.words d s i) [ inl e ↦ subst IsPresent (sym e) p | inr q ↦ q.1 ];
  references = λ d s l. w.references d s;
}

pub wider_frames : (program : Program) (calls : List ℕ) (h g : Stack) → Wider (length calls) h g → Frames program calls h → Frames program calls g
wider_frames program calls h g w f = record {
  words = λ d s i l. elim (w.words d s i) [ inl e ↦ ap may_write e ∙ f.words d s i l | inr q ↦ present_held (g.words d s i) q.1 ];
  references = λ d s l. ap may_write (sym (w.references d s)) ∙ f.references d s l;
  below = record {
    words = λ d s i l. elim (w.words d s i) [ inl e ↦ e ∙ f.below.words d s i l | inr q ↦ absurd (far d (length calls) q.0 l) ];
    references = λ d s l. sym (w.references d s) ∙ f.below.references d s l;
  };
  refers = λ d s r e. let x = f.refers d s r (w.references d s ∙ e) in (x.0, reference_moves program h g calls r (wider_grows (length calls) (length calls) h g w).words x.1);
}
  where
    far : (d n : ℕ) → d < n → n ≤ d → ⊥
    far d n l m = omega (arith, l, m)

-- ---- words

wide_if : (q : Bool) (n d : ℕ) (c : Cell ℤ) (v : ℤ) → d < n → ((if q then present v else c) ≡ c) ⊎ ((d < n) × IsPresent (if q then present v else c))
wide_if true n d c v l = inr (l, tt)
wide_if false n d c v l = inl refl

-- words of one frame that pass a test have a value now
wide_at : (q : Bool) (n d e : ℕ) (c : Cell ℤ) (v : ℤ) → d < n → ((if e == d && q then present v else c) ≡ c) ⊎ ((e < n) × IsPresent (if e == d && q then present v else c))
wide_at q n d e c v l = elim (eqb_tells e d) [
  | inl one ↦ let x : (e == d) ≡ true = one.0 in let m : e < n = subst (λ z. z < n) (sym one.1) l in rw x (wide_if q n e c v m)
  | inr ne ↦ let x : (e == d) ≡ false = ne.0 in rw x (inl refl)
]

pub written_wider : (n : ℕ) (h : Stack) (d s i : ℕ) (v : ℤ) → d < n → Wider n h (write_word h d s i v)
written_wider n h d s i v l = record {
  words = λ e t j. wide_at (t == s && j == i) n d e (h.words e t j) v l;
  references = λ e t. refl;
}

pub cleared_wider : (n : ℕ) (h : Stack) (d s count : ℕ) → d < n → Wider n h (clear_words h d s count)
cleared_wider n h d s count l = record {
  words = λ e t j. wide_at (t == s && nat_lt j count) n d e (h.words e t j) (pos 0) l;
  references = λ e t. refl;
}

pub written_there : (h : Stack) (d s i : ℕ) (v : ℤ) → IsPresent ((write_word h d s i v).words d s i)
written_there h d s i v = let x = same_number d in let y = same_number s in let z = same_number i in rw (x, y, z) tt

pub cleared_there : (h : Stack) (d s count i : ℕ) → i < count → IsPresent ((clear_words h d s count).words d s i)
cleared_there h d s count i l = let x = same_number d in let y = same_number s in let z : nat_lt i count ≡ true = lt-ltb i count l in rw (x, y, z) tt

-- one more slot is set
pub one_more_set : (h : Stack) (depth : ℕ) (slots : List Slot) (set : List ℕ) (x : ℕ) → IsSet h depth x (slice_get slots x) → AreSet h depth slots set → AreSet h depth slots (x ∷ set)
one_more_set h depth slots set x here are y c = elim (contains_cases x y set c) [
  | inl e ↦ subst (λ q. IsSet h depth q (slice_get slots q)) e here
  | inr d ↦ are y d
]

pub scalar_set : (h : Stack) (depth x : ℕ) (z : Option Slot) → z ≡ Some slot.Scalar → IsPresent (h.words depth x 0) → IsSet h depth x z
scalar_set h depth x z e p = subst (IsSet h depth x) (sym e) (only_zero (λ i. IsPresent (h.words depth x i)) p)

pub scalar_present : (h : Stack) (depth x : ℕ) (z : Option Slot) → z ≡ Some slot.Scalar → IsSet h depth x z → IsPresent (h.words depth x 0)
scalar_present h depth x z e s = let w : IsSet h depth x (Some slot.Scalar) = subst (IsSet h depth x) e s in w 0 (omega arith)

pub slice_set : (h : Stack) (depth x : ℕ) (z : Option Slot) → z ≡ Some slot.Slice → IsPresent (h.references depth x) → IsSet h depth x z
slice_set h depth x z e p = subst (IsSet h depth x) (sym e) p

pub array_set : (h : Stack) (depth x n : ℕ) (z : Option Slot) → z ≡ Some (slot.Array n) → ((i : ℕ) → i < n → IsPresent (h.words depth x i)) → IsSet h depth x z
array_set h depth x n z e p = subst (IsSet h depth x) (sym e) p

-- ---- references

pub reference_there : (h : Stack) (d s : ℕ) (r : Reference) → IsPresent ((write_reference h d s r).references d s)
reference_there h d s r = let x = same_number d in let y = same_number s in rw (x, y) tt

pub reference_grows : (h : Stack) (d s : ℕ) (r : Reference) → Grows d h (write_reference h d s r)
reference_grows h d s r = record {
  words = λ e t i l p. p;
  references = λ e t l. let x : (e == d) ≡ false = below_apart e d l in rw x refl;
}

-- the slices of the frame are set as before, and one more is
pub reference_sets : (h : Stack) (depth x : ℕ) (r : Reference) (slots : List Slot) (set : List ℕ) → slice_get slots x ≡ Some slot.Slice → AreSet h depth slots set → AreSet (write_reference h depth x r) depth slots (x ∷ set)
reference_sets h depth x r slots set e are = one_more_set (write_reference h depth x r) depth slots set x (slice_set (write_reference h depth x r) depth x (slice_get slots x) e (reference_there h depth x r))
    (λ y c. set_moves h (write_reference h depth x r) depth y (extent_at slots y) (λ i p. p) (present_if (depth == depth && y == x) (h.references depth y) r) (are y c))

-- what is at a place where a reference was written, or not
written_reference : (program : Program) (calls : List ℕ) (h : Stack) (d s : ℕ) (r : Reference) → Frames program calls h → r.depth ≤ d → IsReference program h calls r
    → (e t : ℕ) (q : Bool) (x : Reference) → e ≡ d ⊎ (q ≡ false) → (if q then present r else h.references e t) ≡ present x → (x.depth ≤ e) × IsReference program h calls x
written_reference program calls h d s r f l i e t false x m k = f.refers e t x k
written_reference program calls h d s r f l i e t true x (inr m) k = cc m
written_reference program calls h d s r f l i e t true x (inl m) k = by x (same r x k)
  where
    same : (r x : Reference) → present r ≡ present x → r ≡ x
    same r x k = cc k

    by : (x : Reference) → r ≡ x → (x.depth ≤ e) × IsReference program h calls x
    by x k = subst (λ z. (z.depth ≤ e) × IsReference program h calls z) k (subst (λ z. r.depth ≤ z) (sym m) l, i)

pub reference_frames : (program : Program) (calls : List ℕ) (h : Stack) (d s : ℕ) (r : Reference) → d < length calls → r.depth ≤ d → IsReference program h calls r → Frames program calls h → Frames program calls (write_reference h d s r)
reference_frames program calls h d s r l m i f = record {
  words = f.words;
  references = λ e t k. held (e == d && t == s) e t k;
  below = record {
    words = f.below.words;
    references = λ e t k. let x : (e == d) ≡ false = above_apart e d (omega (arith, l, k)) in rw x (f.below.references e t k);
  };
  refers = λ e t x k. let y = written_reference program calls h d s r f m i e t (e == d && t == s) x (at e t) k in (y.0, reference_moves program h (write_reference h d s r) calls x (λ a b c j p. p) y.1);
}
  where
    held : (q : Bool) (e t : ℕ) → e < length calls → may_write (if q then present r else h.references e t) ≡ true
    held true e t k = refl
    held false e t k = f.references e t k

    at : (e t : ℕ) → e ≡ d ⊎ ((e == d && t == s) ≡ false)
    at e t = elim (eqb_tells e d) [ inl one ↦ inl one.1 | inr ne ↦ let x : (e == d) ≡ false = ne.0 in inr (rw x refl) ]

-- the parts of a split
abbrev pub left_part : Reference → ℕ → Reference
left_part x n = record { depth = x.depth; slot = x.slot; start = x.start; length = n }

abbrev pub right_part : Reference → ℕ → Reference
right_part x n = record { depth = x.depth; slot = x.slot; start = x.start + n; length = x.length - n }

pub left_reference : (program : Program) (h : Stack) (calls : List ℕ) (x : Reference) (n : ℕ) → n ≤ x.length → IsReference program h calls x → IsReference program h calls (left_part x n)
left_reference program h calls x n l q = record {
  live = q.live;
  within = let w = q.within in omega (arith, w, l);
  set = λ i a b. q.set i a (omega (arith, b, l));
}

pub right_reference : (program : Program) (h : Stack) (calls : List ℕ) (x : Reference) (n : ℕ) → n ≤ x.length → IsReference program h calls x → IsReference program h calls (right_part x n)
right_reference program h calls x n l q = record {
  live = q.live;
  within = let w = q.within in omega (arith, w, l);
  set = λ i a b. q.set i (omega (arith, a)) (omega (arith, b, l));
}

-- ---- frames that begin and end

-- the slots of a frame that isn't the last one
pub slots_before : (program : Program) (f : ℕ) (calls : List ℕ) (d : ℕ) → d < length calls → slots_at program (f ∷ calls) d ≡ slots_at program calls d
slots_before program f calls d l = let x : (d == length calls) ≡ false = below_apart d (length calls) l in rw x refl

pub slots_last : (program : Program) (f : ℕ) (calls : List ℕ) → slots_at program (f ∷ calls) (length calls) ≡ slots_in (slice_get program.functions f)
slots_last program f calls = let x = same_number (length calls) in rw x refl

-- a reference to a frame before the last one is one before that begins, and after it has ended
pub reference_in_more : (program : Program) (h g : Stack) (f : ℕ) (calls : List ℕ) (r : Reference) → KeepsWords (length calls) h g → IsReference program h calls r → IsReference program g (f ∷ calls) r
reference_in_more program h g f calls r k i = record {
  live = let l = i.live in omega (arith, l);
  within = subst (λ z. r.start + r.length ≤ row_words (slice_get z r.slot)) (sym (slots_before program f calls r.depth i.live)) i.within;
  set = λ j l m. k r.depth r.slot j i.live (i.set j l m);
}

pub reference_in_fewer : (program : Program) (h g : Stack) (f : ℕ) (calls : List ℕ) (r : Reference) → r.depth < length calls → KeepsWords (length calls) h g → IsReference program h (f ∷ calls) r → IsReference program g calls r
reference_in_fewer program h g f calls r live k i = record {
  live = live;
  within = subst (λ z. r.start + r.length ≤ row_words (slice_get z r.slot)) (slots_before program f calls r.depth live) i.within;
  set = λ j l m. k r.depth r.slot j live (i.set j l m);
}

pub popped_grows : (n : ℕ) (h : Stack) → Grows n h (pop_frame h n)
popped_grows n h = record {
  words = λ d s i l p. let x : (d == n) ≡ false = below_apart d n l in rw x p;
  references = λ d s l. let x : (d == n) ≡ false = below_apart d n l in rw x refl;
}

pub pushed_grows : (n : ℕ) (h : Stack) (ws : List Argument) → Grows n h (push_frame h n ws)
pushed_grows n h ws = record {
  words = λ d s i l p. let x : (d == n) ≡ false = below_apart d n l in rw x p;
  references = λ d s l. let x : (d == n) ≡ false = below_apart d n l in rw x refl;
}

less_or_not : (d n : ℕ) → (d < n) ⊎ (n ≤ d)
less_or_not d n = by (nat_lt d n) refl
  where
    by : (q : Bool) → nat_lt d n ≡ q → (d < n) ⊎ (n ≤ d)
    by true e = inl (ltb-true d n e)
    by false e = inr (let l = ltb-false d n e in omega (arith, l))

pub popped_frames : (program : Program) (f : ℕ) (calls : List ℕ) (h : Stack) → Frames program (f ∷ calls) h → Frames program calls (pop_frame h (length calls))
popped_frames program f calls h w = record {
  words = λ d s i l. let x : (d == length calls) ≡ false = below_apart d (length calls) l in rw x (w.words d s i (omega (arith, l)));
  references = λ d s l. let x : (d == length calls) ≡ false = below_apart d (length calls) l in rw x (w.references d s (omega (arith, l)));
  below = record {
    words = λ d s i l. elim (eqb_tells d (length calls)) [
      | inl one ↦ let x : (d == length calls) ≡ true = one.0 in rw x refl
      | inr ne ↦ let x : (d == length calls) ≡ false = ne.0 in rw x (w.below.words d s i (above d (length calls) ne.1 l))
    ];
    references = λ d s l. elim (eqb_tells d (length calls)) [
      | inl one ↦ let x : (d == length calls) ≡ true = one.0 in rw x refl
      | inr ne ↦ let x : (d == length calls) ≡ false = ne.0 in rw x (w.below.references d s (above d (length calls) ne.1 l))
    ];
  };
  refers = λ d s r e. elim (eqb_tells d (length calls)) [
    | inl one ↦ absurd (gone r (subst (λ q. (if q then absent else h.references d s) ≡ present r) one.0 e))
    | inr ne ↦ kept d s r ne.1 (subst (λ q. (if q then absent else h.references d s) ≡ present r) ne.0 e)
  ];
}
  where
    above : (d n : ℕ) → d ≢ n → n ≤ d → suc n ≤ d
    above d n e l = omega (arith, e, l)

    gone : (r : Reference) → absent ≡ present r → ⊥
    gone r e = cc e

    deep : (a d n : ℕ) → a ≤ d → d < n → a < n
    deep a d n l m = omega (arith, l, m)

    kept : (d s : ℕ) (r : Reference) → d ≢ length calls → h.references d s ≡ present r → (r.depth ≤ d) × IsReference program (pop_frame h (length calls)) calls r
    kept d s r ne e = let x = w.refers d s r e in elim (less_or_not d (length calls)) [
      | inl l ↦ (x.0, reference_in_fewer program h (pop_frame h (length calls)) f calls r (deep r.depth d (length calls) x.0 l) (popped_grows (length calls) h).words x.1)
      | inr l ↦ absurd (absent_free (h.references d s) (w.below.references d s (above d (length calls) ne l)) (is_present (h.references d s) r e))
    ]

-- ---- parameters

-- what has this extent has what the arguments hand over
abbrev Handed : List Argument → (x : ℕ) → Option Extent → Type 0
Handed ws x (Some extent.Word) = IsPresent (word_parameter ws x)
Handed ws x (Some extent.Reference) = IsPresent (slice_parameter ws x)
Handed ws x _ = ⊥

handed_later : (w : Argument) (ws : List Argument) (x : ℕ) (z : Option Extent) → Handed ws x z → Handed (w ∷ ws) x z
handed_later (word v) ws x (Some extent.Word) p = present_if (x == length ws) (word_parameter ws x) v p
handed_later (slice r) ws x (Some extent.Word) p = p
handed_later (word v) ws x (Some extent.Reference) p = p
handed_later (slice r) ws x (Some extent.Reference) p = present_if (x == length ws) (slice_parameter ws x) r p
handed_later w ws x (Some (extent.Words n)) p = absurd p
handed_later w ws x None p = absurd p

module _ (program : Program) (h : Stack) (calls : List ℕ) where
  handed_first : (w : Argument) (ws : List Argument) (z : Option Extent) → FitsExtent program h calls w z → Handed (w ∷ ws) (length ws) z
  handed_first (word v) ws (Some extent.Word) f = let x = same_number (length ws) in rw x tt
  handed_first (slice r) ws (Some extent.Reference) f = let x = same_number (length ws) in rw x tt
  handed_first (word v) ws (Some _) f = absurd f
  handed_first (slice v) ws (Some _) f = absurd f
  handed_first (word v) ws None f = absurd f
  handed_first (slice v) ws None f = absurd f

  handed : (ws : List Argument) (parameters : List Slot) (x : ℕ) → x < length ws → FitParameters program h calls ws parameters → Handed ws x (extent_at parameters x)
  handed [] parameters x l f = absurd (no_less x l)
  handed (w ∷ ws) parameters x l f = elim (eqb_tells x (length ws)) [
    | inl one ↦ subst (λ y. Handed (w ∷ ws) y (extent_at parameters y)) (sym one.1) (handed_first w ws (extent_at parameters (length ws)) f.0)
    | inr ne ↦ handed_later w ws x (extent_at parameters x) (handed ws parameters x (omega (arith, l, ne.1)) f.1)
  ]

  -- a slice that is handed over is one of the arguments
  handed_reference : (ws : List Argument) (parameters : List Slot) (x : ℕ) (r : Reference) → FitParameters program h calls ws parameters → slice_parameter ws x ≡ present r → IsReference program h calls r
  handed_reference [] parameters x r f e = absurd (unheld e)
    where
      unheld : unset ≡ present r → ⊥
      unheld e = cc e
  handed_reference (word v ∷ ws) parameters x r f e = handed_reference ws parameters x r f.1 e
  handed_reference (slice q ∷ ws) parameters x r f e = by (x == length ws) (handed_reference ws parameters x r f.1) e
    where
      fits : (z : Option Extent) → FitsExtent program h calls (slice q) z → IsReference program h calls q
      fits (Some extent.Reference) p = p
      fits (Some extent.Word) p = absurd p
      fits (Some (extent.Words n)) p = absurd p
      fits None p = absurd p

      same : present q ≡ present r → q ≡ r
      same e = cc e

      by : (b : Bool) → (slice_parameter ws x ≡ present r → IsReference program h calls r) → (if b then present q else slice_parameter ws x) ≡ present r → IsReference program h calls r
      by true later e = subst (IsReference program h calls) (same e) (fits (extent_at parameters (length ws)) f.0)
      by false later e = later e

held_if : {A : Type 0} (q : Bool) (c : Cell A) (v : A) → may_write c ≡ true → may_write (if q then present v else c) ≡ true
held_if true c v e = refl
held_if false c v e = e

word_held : (ws : List Argument) (s : ℕ) → may_write (word_parameter ws s) ≡ true
word_held [] s = refl
word_held (word v ∷ ws) s = held_if (s == length ws) (word_parameter ws s) v (word_held ws s)
word_held (slice r ∷ ws) s = word_held ws s

slice_held : (ws : List Argument) (s : ℕ) → may_write (slice_parameter ws s) ≡ true
slice_held [] s = refl
slice_held (slice r ∷ ws) s = held_if (s == length ws) (slice_parameter ws s) r (slice_held ws s)
slice_held (word v ∷ ws) s = slice_held ws s

first_held : (q : Bool) (ws : List Argument) (s : ℕ) → may_write (if q then word_parameter ws s else unset) ≡ true
first_held true ws s = word_held ws s
first_held false ws s = refl

pub pushed_frames : (program : Program) (f : ℕ) (calls : List ℕ) (h : Stack) (ws : List Argument) (parameters : List Slot) → FitParameters program h calls ws parameters → Frames program calls h → Frames program (f ∷ calls) (push_frame h (length calls) ws)
pushed_frames program f calls h ws parameters fits w = record {
  words = λ d s i l. elim (eqb_tells d (length calls)) [
    | inl one ↦ let x : (d == length calls) ≡ true = one.0 in rw x (first_held (i == 0) ws s)
    | inr ne ↦ let x : (d == length calls) ≡ false = ne.0 in rw x (w.words d s i (lower d (length calls) ne.1 l))
  ];
  references = λ d s l. elim (eqb_tells d (length calls)) [
    | inl one ↦ let x : (d == length calls) ≡ true = one.0 in rw x (slice_held ws s)
    | inr ne ↦ let x : (d == length calls) ≡ false = ne.0 in rw x (w.references d s (lower d (length calls) ne.1 l))
  ];
  below = record {
    words = λ d s i l. let x : (d == length calls) ≡ false = above_apart d (length calls) l in rw x (w.below.words d s i (omega (arith, l)));
    references = λ d s l. let x : (d == length calls) ≡ false = above_apart d (length calls) l in rw x (w.below.references d s (omega (arith, l)));
  };
  refers = λ d s r e. elim (eqb_tells d (length calls)) [
    | inl one ↦ passed d r one.1 (handed_reference program h calls ws parameters s r fits (subst (λ q. (if q then slice_parameter ws s else h.references d s) ≡ present r) one.0 e))
    | inr ne ↦ kept d s r (subst (λ q. (if q then slice_parameter ws s else h.references d s) ≡ present r) ne.0 e)
  ];
}
  where
    lower : (d n : ℕ) → d ≢ n → d < suc n → d < n
    lower d n e l = omega (arith, e, l)

    grown : (r : Reference) → IsReference program h calls r → IsReference program (push_frame h (length calls) ws) (f ∷ calls) r
    grown r i = reference_in_more program h (push_frame h (length calls) ws) f calls r (pushed_grows (length calls) h ws).words i

    passed : (d : ℕ) (r : Reference) → d ≡ length calls → IsReference program h calls r → (r.depth ≤ d) × IsReference program (push_frame h (length calls) ws) (f ∷ calls) r
    passed d r e i = (by r.depth i.live, grown r i)
      where
        by : (a : ℕ) → a < length calls → a ≤ d
        by a l = omega (arith, e, l)

    kept : (d s : ℕ) (r : Reference) → h.references d s ≡ present r → (r.depth ≤ d) × IsReference program (push_frame h (length calls) ws) (f ∷ calls) r
    kept d s r e = let x = w.refers d s r e in (x.0, grown r x.1)

in_numbers : (n x : ℕ) → Contains (numbers_below n) x → x < n
in_numbers zero x c = absurd (no_less c.0 c.1)
in_numbers (suc n) x c = elim (contains_cases n x (numbers_below n) c) [
  | inl e ↦ omega (arith, e)
  | inr d ↦ let l = in_numbers n x d in omega (arith, l)
]

pub slot_left : (xs ys : List Slot) (x : ℕ) → x < length xs → slice_get (xs ++ ys) x ≡ slice_get xs x
slot_left [] ys x l = absurd (no_less x l)
slot_left (z ∷ xs) ys zero l = refl
slot_left (z ∷ xs) ys (suc x) l = slot_left xs ys x (omega (arith, l))

handed_set : (h : Stack) (n : ℕ) (ws : List Argument) (x : ℕ) (z : Option Extent) → Handed ws x z → IsThere (push_frame h n ws) n x z
handed_set h n ws x (Some extent.Reference) p = let y = same_number n in rw y p
handed_set h n ws x (Some extent.Word) p = let y = same_number n in only_zero (λ i. IsPresent ((push_frame h n ws).words n x i)) (rw y p)
handed_set h n ws x (Some (extent.Words m)) p = absurd p
handed_set h n ws x None p = absurd p

-- the first slots of a new frame are set, if the arguments fit them
pub pushed_sets : (program : Program) (h : Stack) (calls : List ℕ) (ws : List Argument) (parameters others : List Slot) → length ws ≡ length parameters
    → FitParameters program h calls ws parameters → AreSet (push_frame h (length calls) ws) (length calls) (parameters ++ others) (numbers_below (length parameters))
pushed_sets program h calls ws parameters others e f x c =
    let l = in_numbers (length parameters) x c in
    let m : x < length ws = subst (λ q. x < q) (sym e) l in
    subst (IsSet (push_frame h (length calls) ws) (length calls) x) (sym (slot_left parameters others x l)) (handed_set h (length calls) ws x (extent_at parameters x) (handed program h calls ws parameters x m f))

-- ---- states

-- a rest with an item is not empty
pub cons_empty : (x : Item) (k : List Item) → (x ∷ k) ≡ [] → ⊥
cons_empty x k e = cc e

-- no call is at hand
abbrev pub IsPlain : Hand → Type 0
IsPlain (entering f vs) = ⊥
IsPlain (framing f vs) = ⊥
IsPlain _ = Unit {0}

module _ (program : Program) (gives : Bool) where
  -- a state, by its frames and its rest
  pub state : (calls : List ℕ) (account : ℕ) (hand : Hand) (k : List Item) (h : Stack) → Frames program calls h → Ready program h gives calls hand k → TypedState program gives (control calls account hand k) h
  state calls account hand k h f r = record { words = f.words; references = f.references; below = f.below; refers = f.refers; rest = r }

  pub frames_of : (c : Control) (h : Stack) → TypedState program gives c h → Frames program c.calls h
  frames_of c h t = record { words = t.words; references = t.references; below = t.below; refers = t.refers }

  -- a rest with frames, whose first item isn't the end of a call
  pub running : (calls : List ℕ) (h : Stack) (hand : Hand) (k : List Item) → IsPlain hand → Outer program h gives calls (at_hand hand) k → Ready program h gives calls hand k
  running calls h (entering f ws) k p o = absurd p
  running calls h (framing f ws) k p o = absurd p
  running [] h idle k p o = o
  running [] h (holds v) k p o = o
  running [] h (returned v) k p o = o
  running (f ∷ calls) h idle (end ∷ k) p o = absurd o.4
  running (f ∷ calls) h (holds v) (end ∷ k) p o = absurd o.4
  running (f ∷ calls) h (returned v) (end ∷ k) p o = absurd o.4
  running (f ∷ calls) h idle k p o = o
  running (f ∷ calls) h (holds v) k p o = o
  running (f ∷ calls) h (returned v) k p o = o
