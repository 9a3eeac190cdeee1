-- What each change of the words and references that are kept does to what they show.
use Rattle.std.proofs.Common.{◌≡◌, ◌≢◌, ℕ, zero, suc, ◌+◌, ◌<◌, ◌≤◌, List, [], ◌∷◌, ◌++◌, length, take, map, reverse, Option, None, Some, refl, sym, ap, ◌∙◌, subst, arith, inl, inr, length-set, option_map}
use Rattle.std.specs.Prelude.{◌-◌, Bool, true, ◌==◌, ◌&&◌, if◌then◌else◌, nat_lt, ℤ, pos, slice_get, slice_index}
use Rattle.std.proofs.Math.ListN.{set}
use Rattle.std.proofs.lemmas.Option.{slice_get-map, slice_get_within}
use Rattle.std.proofs.lemmas.Grind.{reverse_onto}
use Rattle.std.proofs.lemmas.List.{length-map, length-reverse, reverse-reverse, reverse-append, map_push}
use Rattle.std.proofs.lemmas.Bool.{cases_lt, cases_eq, cases_Bool, eqb-true, eq-eqb, ltb-true, lt-ltb}
use Rattle.std.proofs.lemmas.Bool.Decides.{eqb_tells}
use Rattle.cm_syntax.specs.declared.stmt.Slot.{Slot}
use Rattle.cm_syntax.specs.declared.stmt.Extent.{Extent}
use Rattle.cm_syntax.specs.declared.stmt.Extent.TheVariants as extent
use Rattle.cm_syntax.specs.Extent.{extent_of, extent_at}
use Rattle.cm_syntax.specs.declared.stmt.Program.{Program}
use Rattle.cm_syntax.specs.Frame.{slot_words, slots_words, extent_words}
use Rattle.cm_syntax.specs.Stack as stack
use Rattle.cm_syntax.specs.Cell.{Cell, unset, present}
use Rattle.cm_syntax.specs.Stack.{words_with, word_parameter, slice_parameter, push_frame}
use Rattle.cm_syntax.specs.Fault.{parameter_slots}
use Rattle.cm_syntax.specs.Step.{slots_in}
use Rattle.cm_meaning.specs.TypedState.{slots_at, row_words}
use Rattle.cm_meaning.specs.declared.reference.Reference as declared
use Rattle.cm_meaning.specs.declared.reference.Argument as argument
use Rattle.cm_meaning.specs.declared.reference.Argument.TheVariants as arguments
use Rattle.cm_meaning.specs.declared.frames.Frame as frame
use Rattle.cm_meaning.specs.declared.frames.Frames.{Frames}
use Rattle.cm_meaning.specs.Layout.{reference_of, argument_of, words_in, address, frames_words, offsets_from, layout_of, frames_of, place_words, taken_words, program_in, calls_in, room_in, FitFrames, AreKnown, AreOfKinds, AreOfExtents, IsLaidOut, TakesArguments, Shows, ArePlaces, ArePut, AreCleared}
use Rattle.cm_meaning.proofs.BesideLaw.{and_true}
use Rattle.cm_meaning.proofs.FramesLaw.{get_set, get_set_other, get_push, get_front, row_place, frame_holds, at_slot, offset_read, offset_count, slot_within, slots_apart, IsPlace, one_address, address_within, base_below, base_top, slots_below, slots_top}
use Rattle.cm_meaning.specs.Range.{max_stack_words}

-- ---- words are cleared

pub clear_step : (start i : ℕ) (old words : List ℤ) → AreCleared start i old words → start + i < length words
    → AreCleared start (i + 1) old (set words (start + i) (pos 0))
clear_step start i old words h low = record {
  same_length = length-set words (start + i) (pos 0) ∙ h.same_length;
  before = λ a l. get_set_other words (start + i) a (pos 0) (λ e. omega arith) ∙ h.before a l;
  behind = λ a l. get_set_other words (start + i) a (pos 0) (λ e. omega arith) ∙ h.behind a (omega arith);
  cleared = λ j l. elim (cases_eq j i) [
    | inl same ↦ subst (λ q. slice_get (set words (start + i) (pos 0)) (start + q) ≡ Some (pos 0)) (sym same) (get_set words (start + i) (pos 0) low)
    | inr ne ↦ get_set_other words (start + i) (start + j) (pos 0) (λ e. ne (omega arith)) ∙ h.cleared j (omega (arith, ne))
  ];
}

pub cleared_none : (start : ℕ) (words : List ℤ) → AreCleared start 0 words words
cleared_none start words = record { same_length = refl; before = λ a l. refl; behind = λ a l. refl; cleared = λ i l. absurd (omega arith) }

-- ---- arguments are put

-- what was put stays where a later argument is put
put_other : {A : Type 0} (offsets : List ℕ) (base count limit : ℕ) → ArePlaces offsets base count limit → (xs : List A) (v w : A) (x n : ℕ) → x < n → n < count
    → slice_get xs (base + slice_index offsets x) ≡ Some w → slice_get (set xs (base + slice_index offsets n) v) (base + slice_index offsets x) ≡ Some w
put_other offsets base count limit places xs v w x n l m e =
    let up = places.ascend x n l m in get_set_other xs (base + slice_index offsets n) (base + slice_index offsets x) v (λ q. omega arith) ∙ e

module _ (offsets : List ℕ) (base count : ℕ) (ws : List argument.Argument) (old words : List ℤ) (old_references references : List declared.Reference)
    (places : ArePlaces offsets base count (length old)) (n : ℕ) (low : n < count) (h : ArePut offsets base n ws old words old_references references) where
  pub put_word : (v : ℤ) → slice_get ws n ≡ Some (arguments.Word v)
      → ArePut offsets base (n + 1) ws old (set words (base + slice_index offsets n) v) old_references references
  put_word v is = record {
    words_length = length-set words (base + slice_index offsets n) v ∙ h.words_length;
    references_length = h.references_length;
    words_kept = λ a l. get_set_other words (base + slice_index offsets n) a v (λ e. omega arith) ∙ h.words_kept a l;
    references_kept = h.references_kept;
    words_put = λ x w l e. elim (cases_eq x n) [
      | inl same ↦
          let one : w ≡ v = cc (e, is, ap (λ q. slice_get ws q) same) in
          let there : base + slice_index offsets n < length words = omega (arith, places.below n low, h.words_length) in
          subst (λ q. slice_get (set words (base + slice_index offsets n) v) (base + slice_index offsets q) ≡ Some w) (sym same)
          (get_set words (base + slice_index offsets n) v there ∙ ap Some (sym one))
      | inr ne ↦ let less : x < n = omega (arith, ne) in put_other offsets base count (length old) places words v w x n less low (h.words_put x w less e)
    ];
    references_put = λ x r l e. elim (cases_eq x n) [
      | inl same ↦ absurd (cc (e, is, ap (λ q. slice_get ws q) same))
      | inr ne ↦ h.references_put x r (omega (arith, ne)) e
    ];
  }

  pub put_reference : (r : declared.Reference) → length old_references ≡ length old → slice_get ws n ≡ Some (arguments.Slice r)
      → ArePut offsets base (n + 1) ws old words old_references (set references (base + slice_index offsets n) r)
  put_reference v paired is = record {
    words_length = h.words_length;
    references_length = length-set references (base + slice_index offsets n) v ∙ h.references_length;
    words_kept = h.words_kept;
    references_kept = λ a l. get_set_other references (base + slice_index offsets n) a v (λ e. omega arith) ∙ h.references_kept a l;
    words_put = λ x w l e. elim (cases_eq x n) [
      | inl same ↦ absurd (cc (e, is, ap (λ q. slice_get ws q) same))
      | inr ne ↦ h.words_put x w (omega (arith, ne)) e
    ];
    references_put = λ x w l e. elim (cases_eq x n) [
      | inl same ↦
          let one : w ≡ v = cc (e, is, ap (λ q. slice_get ws q) same) in
          let there : base + slice_index offsets n < length references = omega (arith, places.below n low, h.references_length, paired) in
          subst (λ q. slice_get (set references (base + slice_index offsets n) v) (base + slice_index offsets q) ≡ Some w) (sym same)
          (get_set references (base + slice_index offsets n) v there ∙ ap Some (sym one))
      | inr ne ↦ let less : x < n = omega (arith, ne) in put_other offsets base count (length old) places references v w x n less low (h.references_put x w less e)
    ];
  }

-- ---- what is shown

-- a test on a place, and what it tells
test_same : (d x i e y j : ℕ) → e ≡ d → y ≡ x → j ≡ i → (e == d && (y == x && j == i)) ≡ true
test_same d x i e y j p q r =
    let a : (e == d) ≡ true = eq-eqb e d p in let b : (y == x) ≡ true = eq-eqb y x q in let c : (j == i) ≡ true = eq-eqb j i r in rw (a, b, c) refl

test_tells : (d x e y : ℕ) (b : Bool) → (e == d && (y == x && b)) ≡ true → (e ≡ d) × (y ≡ x) × (b ≡ true)
test_tells d x e y b h = let p = and_true (e == d) (y == x && b) h in let q = and_true (y == x) b p.1 in (eqb-true e d p.0, eqb-true y x q.0, q.1)

map_set : {A B : Type 0} (f : A → B) (xs : List A) (i : ℕ) (v : A) → map f (set xs i v) ≡ set (map f xs) i (f v)
map_set f [] i v = refl
map_set f (x ∷ xs) zero v = refl
map_set f (x ∷ xs) (suc i) v = ap (λ rest. f x ∷ rest) (map_set f xs i v)

slice_there : (slots : List Slot) (x : ℕ) → extent_at slots x ≡ Some extent.Reference → 0 < place_words (slice_get slots x)
slice_there slots x kind = omega (arith, ap taken_words kind)

-- what has an extent is there
slot_there : (slots : List Slot) (x : ℕ) (e : Extent) → extent_at slots x ≡ Some e → (k : Slot) × (slice_get slots x ≡ Some k)
slot_there slots x e is = by (slice_get slots x) refl is
  where
    by : (o : Option Slot) → slice_get slots x ≡ o → option_map extent_of o ≡ Some e → (k : Slot) × (slice_get slots x ≡ Some k)
    by None at is = absurd (cc is)
    by (Some k) at is = (k, at)

module _ (program : Program) (calls : List ℕ) where
  -- a word of a scalar or an array
  abbrev pub IsWord : (depth x index : ℕ) → Type 0
  IsWord d x i = (d < length calls) × (i < row_words (slice_get (slots_at program calls d) x))

  -- the words that are present are kept
  abbrev pub ShowWords : ((depth x index : ℕ) → Cell ℤ) → List ℤ → Type 0
  ShowWords cells words = (d x i : ℕ) (v : ℤ) → IsWord d x i → cells d x i ≡ present v → slice_get words (address program calls d x i) ≡ Some v

  -- the references that are present are kept
  abbrev pub ShowReferences : ((depth x : ℕ) → Cell stack.Reference) → List declared.Reference → Type 0
  ShowReferences cells references = (d x : ℕ) (r : stack.Reference) → d < length calls → extent_at (slots_at program calls d) x ≡ Some extent.Reference
      → cells d x ≡ present r → slice_get (map reference_of references) (address program calls d x 0) ≡ Some r

  pub word_place : (d x i : ℕ) → IsWord d x i → IsPlace program calls d x i
  word_place d x i at = (at.0, omega (arith, at.1, row_place (slice_get (slots_at program calls d) x)))

  pub same_address : (d x i e y j : ℕ) → e ≡ d → y ≡ x → j ≡ i → address program calls e y j ≡ address program calls d x i
  same_address d x i e y j p q r =
      ap (λ z. address program calls z y j) p ∙ ap (λ z. address program calls d z j) q ∙ ap (λ z. address program calls d x z) r

  pub written : (cells : (depth x index : ℕ) → Cell ℤ) (words : List ℤ) (d x i : ℕ) (v : ℤ) → IsWord d x i → frames_words program calls ≤ length words
      → ShowWords cells words → ShowWords (words_with cells d x i v) (set words (address program calls d x i) v)
  written cells words d x i v here room shown = λ e y j w at is. elim (cases_Bool (e == d && (y == x && j == i))) [
    | inl same ↦
        let q = test_tells d x e y (j == i) same in
        let p : present v ≡ present w = subst (λ b. (if b then present v else cells e y j) ≡ present w) same is in
        let one : v ≡ w = cc p in
        ap (λ a. slice_get (set words (address program calls d x i) v) a) (same_address d x i e y j q.0 q.1 (eqb-true j i q.2))
        ∙ get_set words (address program calls d x i) v (omega (arith, address_within program calls d x i (word_place d x i here))) ∙ ap Some one
    | inr other ↦
        let p : cells e y j ≡ present w = subst (λ b. (if b then present v else cells e y j) ≡ present w) other is in
        let apart : address program calls e y j ≢ address program calls d x i = λ a.
        let q = one_address program calls e y j d x i (word_place e y j at) (word_place d x i here) a in
        cc (test_same d x i e y j q.0 q.1 q.2, other) in
        get_set_other words (address program calls d x i) (address program calls e y j) v apart ∙ shown e y j w at p
  ]

  pub cleared : (cells : (depth x index : ℕ) → Cell ℤ) (old words : List ℤ) (d x n : ℕ) → d < length calls
      → extent_at (slots_at program calls d) x ≡ Some (extent.Words n) → AreCleared (address program calls d x 0) n old words
      → ShowWords cells old → ShowWords (λ e y j. if e == d && (y == x && nat_lt j n) then present (pos 0) else cells e y j) words
  cleared cells old words d x n low kind clear shown = λ e y j w at is. elim (cases_Bool (e == d && (y == x && nat_lt j n))) [
    | inl same ↦
        let q = test_tells d x e y (nat_lt j n) same in
        let p : present (pos 0) ≡ present w = subst (λ b. (if b then present (pos 0) else cells e y j) ≡ present w) same is in
        let one : pos 0 ≡ w = cc p in
        let here : address program calls e y j ≡ address program calls d x 0 + j = omega (arith, same_address d x j e y j q.0 q.1 refl) in
        ap (λ a. slice_get words a) here ∙ clear.cleared j (ltb-true j n q.2) ∙ ap Some one
    | inr other ↦
        let p : cells e y j ≡ present w = subst (λ b. (if b then present (pos 0) else cells e y j) ≡ present w) other is in
        elim (cases_lt (address program calls e y j) (address program calls d x 0)) [
          | inl less ↦ clear.before (address program calls e y j) less ∙ shown e y j w at p
          | inr more ↦ elim (cases_lt (address program calls e y j) (address program calls d x 0 + n)) [
            | inr far ↦ clear.behind (address program calls e y j) far ∙ shown e y j w at p
            | inl near ↦
                let k = address program calls e y j - address program calls d x 0 in
                let few : k < n = omega arith in
                let there : k < place_words (slice_get (slots_at program calls d) x) = subst (λ o. k < taken_words o) (sym kind) few in
                let same : address program calls e y j ≡ address program calls d x k = omega arith in
                let q = one_address program calls e y j d x k (word_place e y j at) (low, there) same in
                let a : (e == d) ≡ true = eq-eqb e d q.0 in let b : (y == x) ≡ true = eq-eqb y x q.1 in let c : nat_lt j n ≡ true = lt-ltb j n (omega (arith, q.2)) in
                let yes : (e == d && (y == x && nat_lt j n)) ≡ true = rw (a, b, c) refl in
                absurd (cc (yes, other))
          ]
        ]
  ]

  pub referred : (cells : (depth x : ℕ) → Cell stack.Reference) (references : List declared.Reference) (d x : ℕ) (r : declared.Reference) → d < length calls
      → extent_at (slots_at program calls d) x ≡ Some extent.Reference → frames_words program calls ≤ length references
      → ShowReferences cells references
      → ShowReferences (λ e y. if e == d && y == x then present (reference_of r) else cells e y) (set references (address program calls d x 0) r)
  referred cells references d x r low kind room shown =
      λ e y w at slice is.
      let moved = map_set reference_of references (address program calls d x 0) r in
      elim (cases_Bool (e == d && y == x)) [
        | inl same ↦
            let q = and_true (e == d) (y == x) same in
            let p : present (reference_of r) ≡ present w = subst (λ b. (if b then present (reference_of r) else cells e y) ≡ present w) same is in
            let one : reference_of r ≡ w = cc p in
            ap (λ a. slice_get (map reference_of (set references (address program calls d x 0) r)) a) (same_address d x 0 e y 0 (eqb-true e d q.0) (eqb-true y x q.1) refl)
            ∙ ap (λ xs. slice_get xs (address program calls d x 0)) moved
            ∙ get_set (map reference_of references) (address program calls d x 0) (reference_of r)
            (omega (arith, address_within program calls d x 0 (low, slice_there (slots_at program calls d) x kind), length-map references reference_of)) ∙ ap Some one
        | inr other ↦
            let p : cells e y ≡ present w = subst (λ b. (if b then present (reference_of r) else cells e y) ≡ present w) other is in
            let apart : address program calls e y 0 ≢ address program calls d x 0 = λ a.
            let q = one_address program calls e y 0 d x 0 (at, slice_there (slots_at program calls e) y slice) (low, slice_there (slots_at program calls d) x kind) a in
            let a : (e == d) ≡ true = eq-eqb e d q.0 in let b : (y == x) ≡ true = eq-eqb y x q.1 in
            let yes : (e == d && y == x) ≡ true = rw (a, b) refl in
            cc (yes, other) in
            ap (λ xs. slice_get xs (address program calls e y 0)) moved
            ∙ get_set_other (map reference_of references) (address program calls d x 0) (address program calls e y 0) (reference_of r) apart ∙ shown e y w at slice p
      ]

-- ---- the parameters of a call

get_keep : {A : Type 0} (xs ys : List A) (i : ℕ) (x : A) → slice_get xs i ≡ Some x → slice_get (xs ++ ys) i ≡ Some x
get_keep xs ys i x h = get_front xs ys i (slice_get_within xs i x h) ∙ h

last_first : {A : Type 0} (xs : List A) (x : A) (s : ℕ) → s ≡ length xs → slice_get (reverse (x ∷ xs)) s ≡ Some x
last_first xs x s at =
    ap (λ z. slice_get z s) (reverse_onto xs x []) ∙ ap (slice_get (reverse xs ++ x ∷ [])) (at ∙ sym (length-reverse xs)) ∙ get_push (reverse xs) x

others_first : {A : Type 0} (xs : List A) (x y : A) (s : ℕ) → slice_get (reverse xs) s ≡ Some y → slice_get (reverse (x ∷ xs)) s ≡ Some y
others_first xs x y s h = ap (λ z. slice_get z s) (reverse_onto xs x []) ∙ get_keep (reverse xs) (x ∷ []) s y h

pub word_given : (ws : List stack.Argument) (s : ℕ) (v : ℤ) → word_parameter ws s ≡ present v → slice_get (reverse ws) s ≡ Some (stack.word v)
word_given [] s v h = absurd (cc h)
word_given (stack.word w ∷ ws) s v h = elim (cases_Bool (s == length ws)) [
  | inl same ↦
      let p : present w ≡ present v = subst (λ b. (if b then present w else word_parameter ws s) ≡ present v) same h in
      let one : w ≡ v = cc p in
      last_first ws (stack.word w) s (eqb-true s (length ws) same) ∙ ap (λ z. Some (stack.word z)) one
  | inr other ↦
      let p : word_parameter ws s ≡ present v = subst (λ b. (if b then present w else word_parameter ws s) ≡ present v) other h in
      others_first ws (stack.word w) (stack.word v) s (word_given ws s v p)
]
word_given (stack.slice r ∷ ws) s v h = others_first ws (stack.slice r) (stack.word v) s (word_given ws s v h)

pub slice_given : (ws : List stack.Argument) (s : ℕ) (r : stack.Reference) → slice_parameter ws s ≡ present r → slice_get (reverse ws) s ≡ Some (stack.slice r)
slice_given [] s r h = absurd (cc h)
slice_given (stack.word w ∷ ws) s r h = others_first ws (stack.word w) (stack.slice r) s (slice_given ws s r h)
slice_given (stack.slice q ∷ ws) s r h = elim (cases_Bool (s == length ws)) [
  | inl same ↦
      let p : present q ≡ present r = subst (λ b. (if b then present q else slice_parameter ws s) ≡ present r) same h in
      let one : q ≡ r = cc p in
      last_first ws (stack.slice q) s (eqb-true s (length ws) same) ∙ ap (λ z. Some (stack.slice z)) one
  | inr other ↦
      let p : slice_parameter ws s ≡ present r = subst (λ b. (if b then present q else slice_parameter ws s) ≡ present r) other h in
      others_first ws (stack.slice q) (stack.slice r) s (slice_given ws s r p)
]

-- the argument that is seen is the one that is kept
given_back : (ws : List argument.Argument) (s : ℕ) (a : stack.Argument) → slice_get (reverse (reverse (map argument_of ws))) s ≡ Some a
    → (w : argument.Argument) × (slice_get ws s ≡ Some w) × (argument_of w ≡ a)
given_back ws s a h = by (slice_get ws s) refl
  where
    by : (o : Option argument.Argument) → slice_get ws s ≡ o → (w : argument.Argument) × (slice_get ws s ≡ Some w) × (argument_of w ≡ a)
    by o e =
        let seen : option_map argument_of o ≡ Some a =
        ap (option_map argument_of) (sym e) ∙ sym (slice_get-map argument_of ws s) ∙ ap (λ z. slice_get z s) (sym (reverse-reverse (map argument_of ws))) ∙ h in
        at o e seen
      where
        at : (o : Option argument.Argument) → slice_get ws s ≡ o → option_map argument_of o ≡ Some a → (w : argument.Argument) × (slice_get ws s ≡ Some w) × (argument_of w ≡ a)
        at None e seen = absurd (cc seen)
        at (Some w) e seen = (w, e, cc seen)

pub word_kept : (ws : List argument.Argument) (s : ℕ) (v : ℤ) → word_parameter (reverse (map argument_of ws)) s ≡ present v → slice_get ws s ≡ Some (arguments.Word v)
word_kept ws s v h = by given.0 given.1 given.2
  where
    given : (w : argument.Argument) × (slice_get ws s ≡ Some w) × (argument_of w ≡ stack.word v)
    given = given_back ws s (stack.word v) (word_given (reverse (map argument_of ws)) s v h)

    by : (w : argument.Argument) → slice_get ws s ≡ Some w → argument_of w ≡ stack.word v → slice_get ws s ≡ Some (arguments.Word v)
    by (arguments.Word w) e is = let one : w ≡ v = cc is in e ∙ ap (λ z. Some (arguments.Word z)) one
    by (arguments.Slice r) e is = absurd (cc is)

pub slice_kept : (ws : List argument.Argument) (s : ℕ) (r : stack.Reference) → slice_parameter (reverse (map argument_of ws)) s ≡ present r
    → (q : declared.Reference) × (slice_get ws s ≡ Some (arguments.Slice q)) × (reference_of q ≡ r)
slice_kept ws s r h = by given.0 given.1 given.2
  where
    given : (w : argument.Argument) × (slice_get ws s ≡ Some w) × (argument_of w ≡ stack.slice r)
    given = given_back ws s (stack.slice r) (slice_given (reverse (map argument_of ws)) s r h)

    by : (w : argument.Argument) → slice_get ws s ≡ Some w → argument_of w ≡ stack.slice r → (q : declared.Reference) × (slice_get ws s ≡ Some (arguments.Slice q)) × (reference_of q ≡ r)
    by (arguments.Word w) e is = absurd (cc is)
    by (arguments.Slice q) e is = let one : reference_of q ≡ r = cc is in (q, e, one)

-- an argument of a kind takes words
first_kind : (w : argument.Argument) (e : Extent) (ws : List argument.Argument) (more : List Extent) → AreOfExtents (w ∷ ws) (e ∷ more) → (1 ≤ extent_words e) × AreOfExtents ws more
first_kind (arguments.Word v) extent.Word ws more kinds = (omega arith, kinds)
first_kind (arguments.Slice r) extent.Reference ws more kinds = (omega arith, kinds)
first_kind (arguments.Word v) extent.Reference ws more kinds = absurd kinds
first_kind (arguments.Word v) (extent.Words n) ws more kinds = absurd kinds
first_kind (arguments.Slice r) extent.Word ws more kinds = absurd kinds
first_kind (arguments.Slice r) (extent.Words n) ws more kinds = absurd kinds

-- the slots of arguments are parameters, and none is without words
kinds_at : (ws : List argument.Argument) (slots : List Slot) → AreOfKinds ws slots → (x : ℕ) → x < length ws → (k : Slot) × (slice_get slots x ≡ Some k) × (1 ≤ slot_words k)
kinds_at [] slots kinds x low = absurd (omega arith)
kinds_at (w ∷ ws) [] kinds x low = absurd (none w kinds)
  where
    none : (w : argument.Argument) → AreOfExtents (w ∷ ws) [] → ⊥
    none (arguments.Word v) kinds = kinds
    none (arguments.Slice r) kinds = kinds
kinds_at (w ∷ ws) (k ∷ slots) kinds zero low = (k, refl, (first_kind w (extent_of k) ws (map extent_of slots) kinds).0)
kinds_at (w ∷ ws) (k ∷ slots) kinds (suc x) low = kinds_at ws slots (first_kind w (extent_of k) ws (map extent_of slots) kinds).1 x (omega arith)

-- ---- a call begins

module _ (program : Program) (calls : List ℕ) (f : ℕ) (ws : List argument.Argument) (call : TakesArguments program f ws) where
  slot_of : (x : ℕ) → x < length ws → (k : Slot) × (slice_get call.function.slots x ≡ Some k) × (1 ≤ slot_words k)
  slot_of x low =
      let p = kinds_at ws (parameter_slots call.function) call.kinds x low in
      (p.0, ap (λ z. slice_get z x) call.slots ∙ get_keep (parameter_slots call.function) call.others x p.0 p.1, p.2)

  few_slots : length ws ≤ length call.function.slots
  few_slots = by ws refl
    where
      by : (vs : List argument.Argument) → vs ≡ ws → length ws ≤ length call.function.slots
      by [] e = omega (arith, ap length e)
      by (v ∷ vs) e =
          let size : length vs < length ws = omega (arith, ap length e) in
          let p = slot_of (length vs) size in omega (arith, ap length e, slice_get_within call.function.slots (length vs) p.0 p.1)

  pub places_of : (limit : ℕ) → frames_words program (f ∷ calls) ≤ limit
      → ArePlaces (offsets_from 0 call.function.slots) (frames_words program calls) (length ws) limit
  places_of limit room = record {
    there = omega (arith, few_slots, offset_count 0 call.function.slots);
    below = λ x low. let p = slot_of x low in
        omega (
          arith,
          room,
          offset_read call.function.slots x p.0 p.1,
          slot_within call.function.slots x p.0 p.1,
          p.2,
          frame_holds (Some call.function),
          ap words_in call.there,
        );
    ascend = λ x y less low.
        let p = slot_of x (omega arith) in let q = slot_of y low in
        omega (arith, offset_read call.function.slots x p.0 p.1, offset_read call.function.slots y q.0 q.1, slots_apart call.function.slots x y p.0 p.1 less, p.2);
  }

  old_address : (d x i : ℕ) → d < length calls → address program (f ∷ calls) d x i ≡ address program calls d x i
  old_address d x i low = omega (arith, base_below program f calls d low, ap (λ z. slots_words (take x z)) (slots_below program f calls d low))

  new_address : (x : ℕ) (k : Slot) → slice_get (slots_at program (f ∷ calls) (length calls)) x ≡ Some k
      → address program (f ∷ calls) (length calls) x 0 ≡ frames_words program calls + slice_index (offsets_from 0 call.function.slots) x
  new_address x k kind =
      let slots : slots_at program (f ∷ calls) (length calls) ≡ call.function.slots = slots_top program f calls ∙ ap slots_in call.there in
      omega (
        arith,
        base_top program f calls,
        ap (λ z. slots_words (take x z)) slots,
        offset_read call.function.slots x k (ap (λ z. slice_get z x) (sym slots) ∙ kind),
      )

  module _ (old words : List ℤ) (old_references references : List declared.Reference)
      (put : ArePut (offsets_from 0 call.function.slots) (frames_words program calls) (length ws) ws old words old_references references) (h : stack.Stack) where
    pub pushed_words : ShowWords program calls h.words old
        → ShowWords program (f ∷ calls) (push_frame h (length calls) (reverse (map argument_of ws))).words words
    pushed_words shown = λ d x i v at is. elim (eqb_tells d (length calls)) [
      | inl top ↦
          let new : (if i == 0 then word_parameter (reverse (map argument_of ws)) x else unset) ≡ present v =
          subst (λ b. (if b then (if i == 0 then word_parameter (reverse (map argument_of ws)) x else unset) else h.words d x i) ≡ present v) top.0 is in
          elim (cases_Bool (i == 0)) [
            | inl zeroth ↦
                let given : word_parameter (reverse (map argument_of ws)) x ≡ present v =
                subst (λ b. (if b then word_parameter (reverse (map argument_of ws)) x else unset) ≡ present v) zeroth new in
                let kept = word_kept ws x v given in
                let there = at_slot (slots_at program (f ∷ calls) d) x i (word_place program (f ∷ calls) d x i at).1 in
                let kind : slice_get (slots_at program (f ∷ calls) (length calls)) x ≡ Some there.0 =
                ap (λ z. slice_get (slots_at program (f ∷ calls) z) x) (sym top.1) ∙ there.1 in
                ap (λ a. slice_get words a) (same_address program (f ∷ calls) (length calls) x 0 d x i top.1 refl (eqb-true i 0 zeroth) ∙ new_address x there.0 kind)
                ∙ put.words_put x v (slice_get_within ws x _ kept) kept
            | inr later ↦ absurd (none (subst (λ b. (if b then word_parameter (reverse (map argument_of ws)) x else unset) ≡ present v) later new))
          ]
      | inr other ↦
          let low : d < length calls = omega (arith, at.0, other.1) in
          let p : h.words d x i ≡ present v =
          subst (λ b. (if b then (if i == 0 then word_parameter (reverse (map argument_of ws)) x else unset) else h.words d x i) ≡ present v) other.0 is in
          let here : IsWord program calls d x i = (low, subst (λ z. i < row_words (slice_get z x)) (slots_below program f calls d low) at.1) in
          ap (λ a. slice_get words a) (old_address d x i low)
          ∙ put.words_kept (address program calls d x i) (address_within program calls d x i (word_place program calls d x i here)) ∙ shown d x i v here p
    ]
      where
        none : {v : ℤ} → unset ≡ present v → ⊥
        none {v} e = cc e

    pub pushed_references : ShowReferences program calls h.references old_references
        → ShowReferences program (f ∷ calls) (push_frame h (length calls) (reverse (map argument_of ws))).references references
    pushed_references shown = λ d x r at kind is. elim (eqb_tells d (length calls)) [
      | inl top ↦
          let given : slice_parameter (reverse (map argument_of ws)) x ≡ present r =
          subst (λ b. (if b then slice_parameter (reverse (map argument_of ws)) x else h.references d x) ≡ present r) top.0 is in
          let kept = slice_kept ws x r given in
          let there : extent_at (slots_at program (f ∷ calls) (length calls)) x ≡ Some extent.Reference =
          ap (λ z. extent_at (slots_at program (f ∷ calls) z) x) (sym top.1) ∙ kind in
          let slot = slot_there (slots_at program (f ∷ calls) (length calls)) x extent.Reference there in
          ap (λ a. slice_get (map reference_of references) a) (same_address program (f ∷ calls) (length calls) x 0 d x 0 top.1 refl refl ∙ new_address x slot.0 slot.1)
          ∙ slice_get-map reference_of references (frames_words program calls + slice_index (offsets_from 0 call.function.slots) x)
          ∙ ap (option_map reference_of) (put.references_put x kept.0 (slice_get_within ws x _ kept.1) kept.1) ∙ ap Some kept.2
      | inr other ↦
          let low : d < length calls = omega (arith, at, other.1) in
          let p : h.references d x ≡ present r =
          subst (λ b. (if b then slice_parameter (reverse (map argument_of ws)) x else h.references d x) ≡ present r) other.0 is in
          let slice : extent_at (slots_at program calls d) x ≡ Some extent.Reference = ap (λ z. extent_at z x) (sym (slots_below program f calls d low)) ∙ kind in
          ap (λ a. slice_get (map reference_of references) a) (old_address d x 0 low)
          ∙ slice_get-map reference_of references (address program calls d x 0)
          ∙ ap (option_map reference_of) (put.references_kept (address program calls d x 0) (address_within program calls d x 0 (low, slice_there (slots_at program calls d) x slice)))
          ∙ sym (slice_get-map reference_of old_references (address program calls d x 0)) ∙ shown d x r low slice p
    ]

-- ---- frames

-- the calls of frames, of which one more is live
pub calls_push : (frames more : List frame.Frame) (last : frame.Frame) → more ≡ frames ++ last ∷ []
    → reverse (map (λ q. q.function) more) ≡ last.function ∷ reverse (map (λ q. q.function) frames)
calls_push frames more last e =
    ap (λ z. reverse (map (λ q. q.function) z)) e ∙ ap reverse (map_push (λ q. q.function) frames last) ∙ reverse-append (map (λ q. q.function) frames) (last.function ∷ [])

module _ (frames : Frames) (calls : List ℕ) (same : calls_in frames ≡ calls) where
  pub shows_by : (h : stack.Stack) → ShowWords (program_in frames) calls h.words frames.words.items
      → ShowReferences (program_in frames) calls h.references frames.references.items → Shows frames h
  shows_by h words references = record {
    words = subst (λ z. ShowWords (program_in frames) z h.words frames.words.items) (sym same) words;
    references = subst (λ z. ShowReferences (program_in frames) z h.references frames.references.items) (sym same) references;
  }

  pub laid_by : FitFrames (program_in frames) → frames.layouts ≡ map layout_of (program_in frames).functions → AreKnown (program_in frames) calls
      → frames.frames.items ≡ frames_of (program_in frames) calls → frames.used ≡ frames_words (program_in frames) calls
      → frames_words (program_in frames) calls ≤ room_in frames → length frames.references.items ≡ room_in frames → room_in frames ≤ max_stack_words → IsLaidOut frames
  laid_by fits layouts known placed used within paired few = record {
    fits = fits;
    layouts = layouts;
    known = subst (λ z. AreKnown (program_in frames) z) (sym same) known;
    placed = placed ∙ ap (frames_of (program_in frames)) (sym same);
    used = used ∙ ap (frames_words (program_in frames)) (sym same);
    within = subst (λ z. frames_words (program_in frames) z ≤ room_in frames) (sym same) within;
    paired = paired;
    few = few;
  }
