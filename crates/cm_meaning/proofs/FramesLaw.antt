-- Where the words of frames stand: in a frame one slot is behind the other, and one frame is behind the other.
use Rattle.std.proofs.Common.{◌≡◌, ◌≢◌, ℕ, zero, suc, ◌+◌, ◌<◌, ◌≤◌, List, [], ◌∷◌, ◌++◌, length, take, Option, None, Some, refl, sym, ap, ◌∙◌, subst, arith, inl, inr, zero-add, length-append, IsSome, slice_index_or, option_map}
use Rattle.std.specs.Prelude.{true, false, ◌==◌, if◌then◌else◌, slice_get}
use Rattle.std.proofs.Math.ListN.{set}
use Rattle.std.proofs.lemmas.Option.{get_or_from_slice_get, slice_get-map, slice_get-get_or, slice_get_within}
use Rattle.std.proofs.lemmas.List.{length-map, take_more}
use Rattle.std.proofs.lemmas.Bool.{cases_order, ne_eqb, eq-eqb}
use Rattle.std.proofs.lemmas.Bool.Decides.{eqb_tells}
use Rattle.cm_syntax.specs.declared.stmt.Slot.{Slot}
use Rattle.cm_syntax.specs.declared.stmt.Extent.{Extent}
use Rattle.cm_syntax.specs.declared.stmt.Extent.TheVariants as extent
use Rattle.cm_syntax.specs.Extent.{extent_of}
use Rattle.cm_syntax.specs.declared.stmt.Function.{Function}
use Rattle.cm_syntax.specs.declared.stmt.Program.{Program}
use Rattle.cm_syntax.specs.Frame.{slot_words, slots_words, frame_words}
use Rattle.cm_syntax.specs.Step.{top, slots_in}
use Rattle.cm_meaning.specs.declared.frames.Frame as frame
use Rattle.cm_meaning.specs.declared.frames.Layout as layout
use Rattle.cm_meaning.specs.declared.frames.Frames.{Frames}
use Rattle.cm_meaning.specs.TypedState.{slots_at, row_words, own_words}
use Rattle.cm_meaning.specs.Layout.{words_in, frames_words, base_at, address, offsets_from, layout_of, frames_of, program_in, calls_in, room_in, AreKnown, IsLaidOut, place_words, taken_words}

-- ---- lists

pub get_set : {A : Type 0} (xs : List A) (i : ℕ) (v : A) → i < length xs → slice_get (set xs i v) i ≡ Some v
get_set [] i v h = absurd (omega arith)
get_set (x ∷ xs) zero v h = refl
get_set (x ∷ xs) (suc i) v h = get_set xs i v (omega arith)

pub get_set_other : {A : Type 0} (xs : List A) (i j : ℕ) (v : A) → j ≢ i → slice_get (set xs i v) j ≡ slice_get xs j
get_set_other [] i j v ne = refl
get_set_other (x ∷ xs) zero zero v ne = absurd (ne refl)
get_set_other (x ∷ xs) zero (suc j) v ne = refl
get_set_other (x ∷ xs) (suc i) zero v ne = refl
get_set_other (x ∷ xs) (suc i) (suc j) v ne = get_set_other xs i j v (λ e. ne (ap suc e))

pub get_push : {A : Type 0} (xs : List A) (x : A) → slice_get (xs ++ x ∷ []) (length xs) ≡ Some x
get_push [] x = refl
get_push (y ∷ xs) x = get_push xs x

pub get_front : {A : Type 0} (xs ys : List A) (i : ℕ) → i < length xs → slice_get (xs ++ ys) i ≡ slice_get xs i
get_front [] ys i h = absurd (omega arith)
get_front (x ∷ xs) ys zero h = refl
get_front (x ∷ xs) ys (suc i) h = get_front xs ys i (omega arith)

-- ---- slots

pub offset_at : (before : ℕ) (slots : List Slot) (x : ℕ) (k : Slot) → slice_get slots x ≡ Some k
    → slice_get (offsets_from before slots) x ≡ Some (before + slots_words (take x slots))
offset_at before [] x k h = absurd (cc h)
offset_at before (first ∷ more) zero k h = ap Some (omega arith)
offset_at before (first ∷ more) (suc x) k h = offset_at (before + slot_words first) more x k h ∙ ap Some (omega arith)

pub slot_within : (slots : List Slot) (x : ℕ) (k : Slot) → slice_get slots x ≡ Some k
    → slots_words (take x slots) + slot_words k ≤ slots_words slots
slot_within [] x k h = absurd (cc h)
slot_within (first ∷ more) zero k h = let e : first ≡ k = cc h in omega (arith, ap slot_words e)
slot_within (first ∷ more) (suc x) k h = omega (arith, slot_within more x k h)

pub slots_apart : (slots : List Slot) (x y : ℕ) (k : Slot) → slice_get slots x ≡ Some k → x < y
    → slots_words (take x slots) + slot_words k ≤ slots_words (take y slots)
slots_apart [] x y k h l = absurd (cc h)
slots_apart (first ∷ more) x zero k h l = absurd (omega arith)
slots_apart (first ∷ more) zero (suc y) k h l = let e : first ≡ k = cc h in omega (arith, ap slot_words e)
slots_apart (first ∷ more) (suc x) (suc y) k h l = omega (arith, slots_apart more x y k h (omega arith))

-- an offset in a slot
pub at_slot : (slots : List Slot) (x i : ℕ) → i < place_words (slice_get slots x) → (k : Slot) × (slice_get slots x ≡ Some k) × (i < slot_words k)
at_slot slots x i l = by (slice_get slots x) refl
  where
    by : (o : Option Slot) → slice_get slots x ≡ o → (k : Slot) × (slice_get slots x ≡ Some k) × (i < slot_words k)
    by None e = let z : i < 0 = subst (λ o. i < place_words o) e l in absurd (omega arith)
    by (Some k) e = let z : i < slot_words k = subst (λ o. i < place_words o) e l in (k, e, z)

-- in a frame, two places with one offset are one
pub one_offset : (slots : List Slot) (x y i j : ℕ) → i < place_words (slice_get slots x) → j < place_words (slice_get slots y)
    → slots_words (take x slots) + i ≡ slots_words (take y slots) + j → (x ≡ y) × (i ≡ j)
one_offset slots x y i j l m e = elim (cases_order x y) [
  | inl same ↦ (same, omega (arith, ap (λ z. slots_words (take z slots)) same))
  | inr (inl less) ↦ let p = at_slot slots x i l in absurd (omega (arith, slots_apart slots x y p.0 p.1 less))
  | inr (inr more) ↦ let p = at_slot slots y j m in absurd (omega (arith, slots_apart slots y x p.0 p.1 more))
]

-- a slot with a row has at least its words
pub row_place : (o : Option Slot) → row_words o ≤ place_words o
row_place o = by (option_map extent_of o)
  where
    by : (e : Option Extent) → own_words e ≤ taken_words e
    by None = omega arith
    by (Some extent.Word) = omega arith
    by (Some (extent.Words n)) = omega arith
    by (Some extent.Reference) = omega arith

pub frame_holds : (o : Option (Function ℕ)) → slots_words (slots_in o) ≤ words_in o
frame_holds None = omega arith
frame_holds (Some function) = omega arith

-- ---- frames

-- the function of the call at a depth
abbrev pub function_at : (calls : List ℕ) → (depth : ℕ) → ℕ
function_at [] d = 0
function_at (f ∷ calls) d = if d == length calls then f else function_at calls d

module _ (program : Program) where
  abbrev pub words_at : (calls : List ℕ) → (depth : ℕ) → ℕ
  words_at calls d = words_in (slice_get program.functions (function_at calls d))

  pub frame_count : (calls : List ℕ) → length (frames_of program calls) ≡ length calls
  frame_count [] = refl
  frame_count (f ∷ calls) = omega (arith, length-append (frames_of program calls) (record { function = f; base = frames_words program calls } ∷ []), frame_count calls)

  pub frame_at : (calls : List ℕ) (d : ℕ) → d < length calls
      → slice_get (frames_of program calls) d ≡ Some (record { function = function_at calls d; base = base_at program calls d })
  frame_at [] d h = absurd (omega arith)
  frame_at (f ∷ calls) d h = elim (eqb_tells d (length calls)) [
    | inl one ↦ let x : (d == length calls) ≡ true = one.0 in
        let at : d ≡ length (frames_of program calls) = one.1 ∙ sym (frame_count calls) in
        rw (x, at) (get_push (frames_of program calls) (record { function = f; base = frames_words program calls }))
    | inr ne ↦ let x : (d == length calls) ≡ false = ne.0 in
        let low : d < length (frames_of program calls) = omega (arith, ne.1, frame_count calls) in
        let lower : d < length calls = omega (arith, ne.1) in
        rw x (get_front (frames_of program calls) _ d low ∙ frame_at calls d lower)
  ]

  pub slots_of_function : (calls : List ℕ) (d : ℕ) → d < length calls → slots_at program calls d ≡ slots_in (slice_get program.functions (function_at calls d))
  slots_of_function [] d h = absurd (omega arith)
  slots_of_function (f ∷ calls) d h = elim (eqb_tells d (length calls)) [
    | inl one ↦ let x : (d == length calls) ≡ true = one.0 in rw x refl
    | inr ne ↦ let x : (d == length calls) ≡ false = ne.0 in let lower : d < length calls = omega (arith, ne.1) in
        rw x (slots_of_function calls d lower)
  ]

  pub frame_within : (calls : List ℕ) (d : ℕ) → d < length calls → base_at program calls d + words_at calls d ≤ frames_words program calls
  frame_within [] d h = absurd (omega arith)
  frame_within (f ∷ calls) d h = elim (eqb_tells d (length calls)) [
    | inl one ↦ let x : (d == length calls) ≡ true = one.0 in rw x (omega arith)
    | inr ne ↦ let x : (d == length calls) ≡ false = ne.0 in let lower : d < length calls = omega (arith, ne.1) in
        let low = frame_within calls d lower in rw x (omega arith)
  ]

  pub frames_apart : (calls : List ℕ) (d e : ℕ) → d < e → e < length calls → base_at program calls d + words_at calls d ≤ base_at program calls e
  frames_apart [] d e l h = absurd (omega arith)
  frames_apart (f ∷ calls) d e l h =
      let lower : d < length calls = omega arith in
      let x : (d == length calls) ≡ false = ne_eqb d (length calls) (λ q. omega arith) in
      elim (eqb_tells e (length calls)) [
        | inl one ↦ let y : (e == length calls) ≡ true = one.0 in rw (x, y) (frame_within calls d lower)
        | inr ne ↦ let y : (e == length calls) ≡ false = ne.0 in rw (x, y) (frames_apart calls d e l (omega (arith, ne.1)))
      ]

  -- ---- places

  -- a word that a slot of a live frame takes
  abbrev pub IsPlace : (calls : List ℕ) → (depth x index : ℕ) → Type 0
  IsPlace calls d x i = (d < length calls) × (i < place_words (slice_get (slots_at program calls d) x))

  pub inside_frame : (calls : List ℕ) (d x i : ℕ) → IsPlace calls d x i → slots_words (take x (slots_at program calls d)) + i < words_at calls d
  inside_frame calls d x i (low, there) =
      let p = at_slot (slots_at program calls d) x i there in
      omega (
        arith,
        slot_within (slots_at program calls d) x p.0 p.1,
        ap slots_words (slots_of_function calls d low),
        frame_holds (slice_get program.functions (function_at calls d)),
      )

  pub address_within : (calls : List ℕ) (d x i : ℕ) → IsPlace calls d x i → address program calls d x i < frames_words program calls
  address_within calls d x i at = omega (arith, inside_frame calls d x i at, frame_within calls d at.0)

  -- two places with one address are one
  pub one_address : (calls : List ℕ) (d x i e y j : ℕ) → IsPlace calls d x i → IsPlace calls e y j
      → address program calls d x i ≡ address program calls e y j → (d ≡ e) × (x ≡ y) × (i ≡ j)
  one_address calls d x i e y j at there same = elim (cases_order d e) [
    | inl one ↦ let q = one_offset (slots_at program calls d) x y i j at.1 (subst (λ z. j < place_words (slice_get (slots_at program calls z) y)) (sym one) there.1)
        (omega (arith, ap (λ z. base_at program calls z) one, ap (λ z. slots_words (take y (slots_at program calls z))) one)) in (one, q.0, q.1)
    | inr (inl less) ↦ absurd (omega (arith, inside_frame calls d x i at, frames_apart calls d e less there.0))
    | inr (inr more) ↦ absurd (omega (arith, inside_frame calls e y j there, frames_apart calls e d more at.0))
  ]

  -- ---- a call begins

  pub base_below : (f : ℕ) (calls : List ℕ) (d : ℕ) → d < length calls → base_at program (f ∷ calls) d ≡ base_at program calls d
  base_below f calls d h = let x : (d == length calls) ≡ false = ne_eqb d (length calls) (λ q. omega arith) in rw x refl

  pub slots_below : (f : ℕ) (calls : List ℕ) (d : ℕ) → d < length calls → slots_at program (f ∷ calls) d ≡ slots_at program calls d
  slots_below f calls d h = let x : (d == length calls) ≡ false = ne_eqb d (length calls) (λ q. omega arith) in rw x refl

  pub base_top : (f : ℕ) (calls : List ℕ) → base_at program (f ∷ calls) (length calls) ≡ frames_words program calls
  base_top f calls = let x : (length calls == length calls) ≡ true = eq-eqb (length calls) (length calls) refl in rw x refl

  pub slots_top : (f : ℕ) (calls : List ℕ) → slots_at program (f ∷ calls) (length calls) ≡ slots_in (slice_get program.functions f)
  slots_top f calls = let x : (length calls == length calls) ≡ true = eq-eqb (length calls) (length calls) refl in rw x refl

-- ---- what is read

pub get_there : {A : Type 0} (xs : List A) (i : ℕ) → i < length xs → (x : A) × (slice_get xs i ≡ Some x)
get_there [] i h = absurd (omega arith)
get_there (x ∷ xs) zero h = (x, refl)
get_there (x ∷ xs) (suc i) h = get_there xs i (omega arith)

pub known_at : (program : Program) (calls : List ℕ) (d : ℕ) → AreKnown program calls → d < length calls
    → function_at calls d < length program.functions
known_at program [] d known h = absurd (omega arith)
known_at program (f ∷ calls) d (here, known) h = elim (eqb_tells d (length calls)) [
  | inl one ↦ let x : (d == length calls) ≡ true = one.0 in rw x here
  | inr ne ↦ let x : (d == length calls) ≡ false = ne.0 in rw x (known_at program calls d known (omega (arith, ne.1)))
]

-- the running function is the one at the top
pub top_of : (calls : List ℕ) → 1 ≤ length calls → top calls + 1 ≡ length calls
top_of [] h = absurd (omega arith)
top_of (f ∷ calls) h = omega arith

module _ (frames : Frames) (laid : IsLaidOut frames) where
  -- the function of a live frame
  pub function_there : (d : ℕ) → d < length (calls_in frames) → (g : Function ℕ)
      × (slice_get (program_in frames).functions (function_at (calls_in frames) d) ≡ Some g)
      × (slots_at (program_in frames) (calls_in frames) d ≡ g.slots)
  function_there d h =
      let p = get_there (program_in frames).functions (function_at (calls_in frames) d) (known_at (program_in frames) (calls_in frames) d laid.known h) in
      (p.0, p.1, slots_of_function (program_in frames) (calls_in frames) d h ∙ ap slots_in p.1)

  pub frame_read : (d : ℕ) (f : frame.Frame) → d < length (calls_in frames) → f ≡ slice_index_or frames.frames.items d f
      → f ≡ record { function = function_at (calls_in frames) d; base = base_at (program_in frames) (calls_in frames) d }
  frame_read d f h is = is ∙ get_or_from_slice_get frames.frames.items d _ f
      (ap (λ xs. slice_get xs d) laid.placed ∙ frame_at (program_in frames) (calls_in frames) d h)

  pub layout_read : (f : ℕ) (g : Function ℕ) (l : layout.Layout) → slice_get (program_in frames).functions f ≡ Some g
      → l ≡ slice_index_or frames.layouts f l → l ≡ layout_of g
  layout_read f g l there is = is ∙ get_or_from_slice_get frames.layouts f _ l
      (ap (λ xs. slice_get xs f) laid.layouts ∙ slice_get-map layout_of (program_in frames).functions f ∙ ap (option_map layout_of) there)

pub offset_read : (slots : List Slot) (x : ℕ) (k : Slot) → slice_get slots x ≡ Some k → slice_index_or (offsets_from 0 slots) x 0 ≡ slots_words (take x slots)
offset_read slots x k there = get_or_from_slice_get (offsets_from 0 slots) x _ 0 (offset_at 0 slots x k there) ∙ zero-add (slots_words (take x slots))

pub offset_count : (before : ℕ) (slots : List Slot) → length (offsets_from before slots) ≡ length slots
offset_count before [] = refl
offset_count before (first ∷ more) = ap suc (offset_count (before + slot_words first) more)

pub some_of : {A : Type 0} (o : Option A) → IsSome o → (x : A) × (o ≡ Some x)
some_of None h = absurd (cc h)
some_of (Some x) h = (x, refl)

-- A slot of a live frame, as it is found: its frame, and how that is laid out.
module _ (frames : Frames) (laid : IsLaidOut frames) (d x : ℕ) (low : d < length (calls_in frames))
    (there : IsSome (slice_get (slots_at (program_in frames) (calls_in frames) d) x))
    (f : frame.Frame) (is_frame : f ≡ slice_index_or frames.frames.items d f)
    (layouts : List layout.Layout) (same : layouts ≡ frames.layouts) where
  pub layout_there : f.function < length layouts
  layout_there =
      omega (
        arith,
        ap (λ q. q.function) (frame_read frames laid d f low is_frame),
        known_at (program_in frames) (calls_in frames) d laid.known low,
        ap length (same ∙ laid.layouts),
        length-map (program_in frames).functions layout_of,
      )

  module _ (l : layout.Layout) (is_layout : l ≡ slice_index_or layouts f.function l) (offsets : List ℕ) (of : offsets ≡ l.offsets) where
    layout_is : (g : Function ℕ) × (offsets ≡ offsets_from 0 g.slots) × (slots_at (program_in frames) (calls_in frames) d ≡ g.slots)
    layout_is =
        let p = function_there frames laid d low in
        let found = ap (λ q. q.function) (frame_read frames laid d f low is_frame) in
        let read = layout_read frames laid f.function p.0 l (ap (slice_get (program_in frames).functions) found ∙ p.1)
        (is_layout ∙ ap (λ xs. slice_index_or xs f.function l) same) in
        (p.0, of ∙ ap (λ q. q.offsets) read, p.2)

    pub offset_there : x < length offsets
    offset_there =
        let q = layout_is in let k = some_of (slice_get (slots_at (program_in frames) (calls_in frames) d) x) there in
        omega (arith, ap length q.1, offset_count 0 q.0.slots, ap length q.2, slice_get_within _ x k.0 k.1)

    pub place_is : f.base + slice_index_or offsets x 0 ≡ address (program_in frames) (calls_in frames) d x 0
    place_is =
        let q = layout_is in let k = some_of (slice_get (slots_at (program_in frames) (calls_in frames) d) x) there in
        omega (
          arith,
          ap (λ z. z.base) (frame_read frames laid d f low is_frame),
          ap (λ z. slice_index_or z x 0) q.1,
          offset_read q.0.slots x k.0 (ap (λ z. slice_get z x) (sym q.2) ∙ k.1),
          ap (λ z. slots_words (take x z)) q.2,
        )

    pub place_within : (f.base + slice_index_or offsets x 0) + place_words (slice_get (slots_at (program_in frames) (calls_in frames) d) x) ≤ room_in frames
    place_within =
        let k = some_of (slice_get (slots_at (program_in frames) (calls_in frames) d) x) there in
        omega (
          arith,
          place_is,
          laid.within,
          ap place_words k.1,
          slot_within (slots_at (program_in frames) (calls_in frames) d) x k.0 k.1,
          ap slots_words (slots_of_function (program_in frames) (calls_in frames) d low),
          frame_holds (slice_get (program_in frames).functions (function_at (calls_in frames) d)),
          frame_within (program_in frames) (calls_in frames) d low,
        )

-- ---- offsets, as they are counted

offsets_push : (before : ℕ) (slots : List Slot) (x : Slot) → offsets_from before (slots ++ x ∷ []) ≡ offsets_from before slots ++ (before + slots_words slots) ∷ []
offsets_push before [] x = ap (λ n. n ∷ []) (omega arith)
offsets_push before (first ∷ more) x = ap (λ rest. before ∷ rest) (offsets_push (before + slot_words first) more x
    ∙ ap (λ n. offsets_from (before + slot_words first) more ++ n ∷ []) (omega arith))

words_push : (slots : List Slot) (x : Slot) → slots_words (slots ++ x ∷ []) ≡ slots_words slots + slot_words x
words_push [] x = omega arith
words_push (first ∷ more) x = omega (arith, words_push more x)

pub offsets_more : (slots : List Slot) (i : ℕ) (x : Slot) (offsets : List ℕ) (before : ℕ) → i < length slots
    → offsets ≡ offsets_from 0 (take i slots) → before ≡ slots_words (take i slots)
    → (offsets ++ before ∷ [] ≡ offsets_from 0 (take (i + 1) slots)) × (before + slot_words (slice_index_or slots i x) ≡ slots_words (take (i + 1) slots))
offsets_more slots i x offsets before low is at =
    let more = take_more slots i x low in
    let counted : before ≡ 0 + slots_words (take i slots) = omega (arith, at) in (
      ap (λ xs. xs ++ before ∷ []) is ∙ ap (λ n. offsets_from 0 (take i slots) ++ n ∷ []) counted
          ∙ sym (offsets_push 0 (take i slots) (slice_index_or slots i x)) ∙ ap (offsets_from 0) (sym more),
      omega (arith, at, words_push (take i slots) (slice_index_or slots i x), ap slots_words more),
    )

pub slot_fits : (slots : List Slot) (i : ℕ) (x : Slot) → i < length slots → slots_words (take i slots) + slot_words (slice_index_or slots i x) ≤ slots_words slots
slot_fits slots i x low = slot_within slots i _ (slice_get-get_or slots i x low)

-- ---- how many frames there are

not_empty : (g : Function ℕ) → 1 ≤ frame_words g
not_empty g = omega arith

pub count_within : (program : Program) (calls : List ℕ) → AreKnown program calls → length calls ≤ frames_words program calls
count_within program [] known = omega arith
count_within program (f ∷ calls) (here, known) =
    let p = get_there program.functions f here in omega (arith, count_within program calls known, ap words_in p.1, not_empty p.0)
