-- A store into a slot's word, and the word of the stack that is written with it.
use Rattle.std.proofs.Common.{◌≡◌, ◌≢◌, ℕ, zero, suc, ◌<◌, List, length, Option, None, Some, refl, sym, ap, ◌∙◌, subst, arith, eq-eqb, inl, inr}
use Rattle.std.proofs.lemmas.Bool.Decides.{eqb_tells}
use Rattle.std.specs.Prelude.{true, false, ◌==◌, ◌⊎◌, ℤ, slice_get}
use Rattle.cm_isa.specs.Machine.{Mapped, with_word, writable, IsWritable, Stored, reads}
use Rattle.cm_syntax.specs.declared.stmt.Slot.{Slot}
use Rattle.cm_syntax.specs.declared.stmt.Slot.TheVariants as slot
use Rattle.cm_syntax.specs.Extent.{extent_at}
use Rattle.cm_syntax.specs.declared.stmt.Extent.{Extent}
use Rattle.cm_syntax.specs.declared.stmt.Extent.TheVariants as extent
use Rattle.cm_syntax.specs.declared.stmt.Program.{Program}
use Rattle.cm_syntax.specs.Cell.{Cell, present, absent, unset, shared, value_in, may_write, CellSum}
use Rattle.cm_syntax.proofs.CellLaw.{cell_alone, writable_alone, value_sum, map_value, map_write}
use Rattle.cm_syntax.specs.Stack.{Reference, Stack, words_with, write_word, write_reference}
use Rattle.cm_meaning.specs.TypedState.{slots_at, row_words, own_words}
use Rattle.cm_gen.specs.Standing.{Frame}
use Rattle.cm_gen.specs.FrameWord.{words_in_slot, IsPlace, word_number, bits, word_address, AreFrames, reference_address, value_cell, slice_cell, cell_in, cell_at, HasCell, Holds, words_for, cell_for}
use Rattle.cm_gen.proofs.frames.MappedWordLaw.{with_word_same, with_word_other, is_own_at, own_of}
use Rattle.cm_gen.proofs.frames.FrameWordLaw.{one_place, place_word, one_word, holds_place}

-- a word of a variable's own is a word of its slot
pub own_place : (slots : List Slot) (s i : ℕ) → i < row_words (slice_get slots s) → IsPlace slots s i
own_place slots s i h = of_kind (extent_at slots s) h
  where
    of_kind : (o : Option Extent) → i < own_words o → i < words_for o
    of_kind None h = h
    of_kind (Some extent.Word) h = h
    of_kind (Some (extent.Words n)) h = h
    of_kind (Some extent.Reference) h = absurd (omega (arith, h))

-- one word of the stack is another one, or it stays
pub word_put : (words : (depth slot index : ℕ) → Cell ℤ) (d s i : ℕ) (v : ℤ) (e t j : ℕ) → (words_with words d s i v e t j ≡ words e t j) ⊎ ((e ≡ d) × (t ≡ s) × (j ≡ i))
word_put words d s i v e t j =
    elim (eqb_tells e d) [
      | inr other ↦ let x : (e == d) ≡ false = other.0 in inl (rw x refl)
      | inl one ↦ elim (eqb_tells t s) [
        | inr other ↦ let x : (e == d) ≡ true = one.0 in let y : (t == s) ≡ false = other.0 in inl (rw (x, y) refl)
        | inl two ↦ elim (eqb_tells j i) [
          | inr other ↦ let x : (e == d) ≡ true = one.0 in let y : (t == s) ≡ true = two.0 in let z : (j == i) ≡ false = other.0 in inl (rw (x, y, z) refl)
          | inl three ↦ inr (one.1, two.1, three.1)
        ]
      ]
    ]

pub word_put_same : (words : (depth slot index : ℕ) → Cell ℤ) (d s i : ℕ) (v : ℤ) → words_with words d s i v d s i ≡ present v
word_put_same words d s i v =
    let x : (d == d) ≡ true = eq-eqb d d refl in let y : (s == s) ≡ true = eq-eqb s s refl in let z : (i == i) ≡ true = eq-eqb i i refl in rw (x, y, z) refl

module _ (program : Program) (page : ℕ) where
  -- where a cell has a value, with whatever share, the word is to be read
  pub cell_value : (c : Cell ℕ) (n : ℕ) (found : Stored) → value_in c ≡ Some n → HasCell program page c found → reads found ≡ Some n
  cell_value absent n found e h = cc e
  cell_value unset n found e h = cc e
  cell_value (present m) n found e h = ap reads h ∙ e
  cell_value (shared p m) n found e h = h ∙ e

  -- where a cell may be written, so may the word
  pub cell_writable : (c : Cell ℕ) (found : Stored) → may_write c ≡ true → HasCell program page c found → IsWritable found
  cell_writable absent found e h = cc e
  cell_writable unset found e h = h
  cell_writable (present m) found e h = is_own_at found m h
  cell_writable (shared p m) found e h = cc e

  -- a word that has what a cell says has what each part of the cell says
  pub cell_part : (a b c : Cell ℕ) (found : Stored) → CellSum a b c → HasCell program page c found → HasCell program page a found
  cell_part absent b c found s h = tt
  cell_part unset b c found s h = subst (λ z. HasCell program page z found) (cell_alone unset b c s (writable_alone unset b c s refl)) h
  cell_part (present m) b c found s h = subst (λ z. HasCell program page z found) (cell_alone (present m) b c s (writable_alone (present m) b c s refl)) h
  cell_part (shared p m) b c found s h = cell_value c m found (value_sum (shared p m) b c m s refl) h

  -- a word that is as it was has what a cell says as before; of an absent cell nothing is said
  pub has_same : (cell : Cell ℕ) (x y : Stored) → ((cell ≡ absent → ⊥) → x ≡ y) → HasCell program page cell y → HasCell program page cell x
  has_same absent x y same h = tt
  has_same unset x y same h = subst IsWritable (sym (same (λ e. cc))) h
  has_same (present n) x y same h = same (λ e. cc) ∙ h
  has_same (shared p n) x y same h = ap reads (same (λ e. cc)) ∙ h

  -- where a cell of the stack has a value, its bits are in the word
  pub has_value : (c : Cell ℤ) (v : ℤ) (found : Stored) → value_in c ≡ Some v → HasCell program page (value_cell program page c) found → reads found ≡ Some (bits v)
  has_value c v found e h = cell_value (value_cell program page c) (bits v) found (map_value bits c v e) h

  -- the cell of a variable's own word
  pub own_cell : (calls : List ℕ) (frames : List Frame) (h : Stack) (d s i : ℕ) → i < row_words (slice_get (slots_at program calls d) s)
      → cell_at program page calls frames h d s i ≡ value_cell program page (h.words d s i)
  own_cell calls frames h d s i less = of_kind (extent_at (slots_at program calls d) s) less
    where
      of_kind : (o : Option Extent) → i < own_words o → cell_for program page o calls frames h d s i ≡ value_cell program page (h.words d s i)
      of_kind None l = refl
      of_kind (Some extent.Word) l = refl
      of_kind (Some (extent.Words n)) l = refl
      of_kind (Some extent.Reference) l = absurd (omega (arith, l))

  -- where the words of the stack agree at a place, and the references of all slots, so do the cells
  pub same_cell : (calls : List ℕ) (frames : List Frame) (h g : Stack) (d s i : ℕ) → g.words d s i ≡ h.words d s i → g.references d s ≡ h.references d s
      → cell_at program page calls frames g d s i ≡ cell_at program page calls frames h d s i
  same_cell calls frames h g d s i words references = of_kind (extent_at (slots_at program calls d) s)
    where
      of_kind : (o : Option Extent) → cell_for program page o calls frames g d s i ≡ cell_for program page o calls frames h d s i
      of_kind None = ap (value_cell program page) words
      of_kind (Some extent.Word) = ap (value_cell program page) words
      of_kind (Some (extent.Words n)) = ap (value_cell program page) words
      of_kind (Some extent.Reference) = ap (λ x. slice_cell program page calls frames x i) references

  -- a value is written into a word of a variable, and its bits are stored there
  pub holds_word : (calls : List ℕ) (frames : List Frame) (h : Stack) (w : Mapped) (d s i : ℕ) (v : ℤ) → AreFrames program page calls frames → d < length calls
      → i < row_words (slice_get (slots_at program calls d) s)
      → Holds program page calls frames h w → Holds program page calls frames (write_word h d s i v) (with_word w (word_address frames d (word_number (slots_at program calls d) s i)) (bits v))
  holds_word calls frames h w d s i v shape deep within holds =
      holds_place program page calls frames h (write_word h d s i v) w d s i (bits v) shape deep (own_place (slots_at program calls d) s i within)
      (own_cell calls frames (write_word h d s i v) d s i within ∙ ap (value_cell program page) (word_put_same h.words d s i v))
      (λ e t j low there. elim (word_put h.words d s i v e t j) [
        | inl old ↦ inl (same_cell calls frames h (write_word h d s i v) e t j old refl)
        | inr new ↦ inr new
      ])
      holds

  -- the address of a word of a slot
  abbrev pub place_address : (calls : List ℕ) → List Frame → (d s i : ℕ) → ℕ
  place_address calls frames d s i = word_address frames d (word_number (slots_at program calls d) s i)

  -- two places that differ have two addresses
  pub places_apart : (calls : List ℕ) (frames : List Frame) (d s i e t j : ℕ) → AreFrames program page calls frames → d < length calls → e < length calls
      → IsPlace (slots_at program calls d) s i → IsPlace (slots_at program calls e) t j → ((e ≡ d) → (t ≡ s) → (j ≡ i) → ⊥) → place_address calls frames e t j ≢ place_address calls frames d s i
  places_apart calls frames d s i e t j shape deep low here there differ same =
      by_word (one_word program page calls frames e _ d _ shape (place_word program page calls e t j low there) (place_word program page calls d s i deep here) same)
    where
      by_word : (e ≡ d) × (word_number (slots_at program calls e) t j ≡ word_number (slots_at program calls d) s i) → ⊥
      by_word (a, b) =
          let slots = ap (slots_at program calls) a in
          let one = one_place (slots_at program calls d) t j s i (subst (λ slots. IsPlace slots t j) slots there) here (ap (λ slots. word_number slots t j) (sym slots) ∙ b) in
          differ a one.0 one.1

  -- a reference is put into a slot of a slice, and its address and its length are stored there
  pub holds_slice : (calls : List ℕ) (frames : List Frame) (h : Stack) (w : Mapped) (d s : ℕ) (r : Reference) → AreFrames program page calls frames → d < length calls
      → slice_get (slots_at program calls d) s ≡ Some slot.Slice → Holds program page calls frames h w
      → Holds program page calls frames (write_reference h d s r)
      (with_word (with_word w (place_address calls frames d s 0) (reference_address program page calls frames r)) (place_address calls frames d s 1) r.length)
  holds_slice calls frames h w d s r shape deep is holds = λ e t j low there.
      elim (eqb_tells e d) [
        | inr other ↦ let x : (e == d) ≡ false = other.0 in stays e t j low there (rw x refl) (λ a b. other.1 a)
        | inl one ↦ elim (eqb_tells t s) [
          | inr other ↦ let x : (e == d) ≡ true = one.0 in let y : (t == s) ≡ false = other.0 in stays e t j low there (rw (x, y) refl) (λ a b. other.1 b)
          | inl two ↦
              subst (λ e. HasCell program page (cell_at program page calls frames g e t j) (v (place_address calls frames e t j))) (sym one.1)
              (subst (λ t. HasCell program page (cell_at program page calls frames g d t j) (v (place_address calls frames d t j))) (sym two.1)
              (comes j (subst (λ t. IsPlace (slots_at program calls d) t j) two.1 (subst (λ e. IsPlace (slots_at program calls e) t j) one.1 there))))
        ]
      ]
    where
      g : Stack
      g = write_reference h d s r

      u : Mapped
      u = with_word w (place_address calls frames d s 0) (reference_address program page calls frames r)

      v : Mapped
      v = with_word u (place_address calls frames d s 1) r.length

      is_place : (i : ℕ) → i < 2 → IsPlace (slots_at program calls d) s i
      is_place i less = subst (λ o. i < words_in_slot o) (sym is) less

      stays : (e t j : ℕ) → e < length calls → IsPlace (slots_at program calls e) t j → g.references e t ≡ h.references e t → ((e ≡ d) → (t ≡ s) → ⊥)
          → HasCell program page (cell_at program page calls frames g e t j) (v (place_address calls frames e t j))
      stays e t j low there same differ =
          let away : (i : ℕ) → i < 2 → place_address calls frames e t j ≢ place_address calls frames d s i =
          λ i less. places_apart calls frames d s i e t j shape deep low (is_place i less) there (λ a b c. differ a b) in
          let other : v (place_address calls frames e t j) ≡ w (place_address calls frames e t j) =
          with_word_other u (place_address calls frames d s 1) r.length (place_address calls frames e t j) (away 1 (omega arith))
          ∙ with_word_other w (place_address calls frames d s 0) _ (place_address calls frames e t j) (away 0 (omega arith)) in
          subst (HasCell program page (cell_at program page calls frames g e t j)) (sym other)
          (subst (λ c. HasCell program page c (w (place_address calls frames e t j))) (sym (same_cell calls frames h g e t j refl same)) (holds e t j low there))

      reference_is : g.references d s ≡ present r
      reference_is = let x : (d == d) ≡ true = eq-eqb d d refl in let y : (s == s) ≡ true = eq-eqb s s refl in rw (x, y) refl

      cell_is : (j : ℕ) → cell_at program page calls frames g d s j ≡ slice_cell program page calls frames (present r) j
      cell_is j = ap (λ o. cell_in program page o calls frames g d s j) is ∙ ap (λ c. slice_cell program page calls frames c j) reference_is

      comes : (j : ℕ) → IsPlace (slots_at program calls d) s j → HasCell program page (cell_at program page calls frames g d s j) (v (place_address calls frames d s j))
      comes zero there =
          let first : v (place_address calls frames d s 0) ≡ writable (reference_address program page calls frames r) =
          with_word_other u (place_address calls frames d s 1) r.length (place_address calls frames d s 0)
          (places_apart calls frames d s 1 d s 0 shape deep deep (is_place 1 (omega arith)) (is_place 0 (omega arith)) (λ a b c. omega (arith, c)))
          ∙ with_word_same w (place_address calls frames d s 0) (reference_address program page calls frames r) in
          subst (λ c. HasCell program page c (v (place_address calls frames d s 0))) (sym (cell_is 0)) first
      comes (suc zero) there =
          let second : v (place_address calls frames d s 1) ≡ writable r.length = with_word_same u (place_address calls frames d s 1) r.length in
          subst (λ c. HasCell program page c (v (place_address calls frames d s 1))) (sym (cell_is 1)) second
      comes (suc (suc j)) there = absurd (omega (arith, subst (λ o. suc (suc j) < words_in_slot o) is there))

  -- a word that may be written is mapped
  has_some : (c : Cell ℤ) (found : Stored) → HasCell program page (value_cell program page c) found → may_write c ≡ true → (old : ℕ) × (found ≡ writable old)
  has_some c found h some = own_of found (cell_writable (value_cell program page c) found (map_write bits c ∙ some) h)

  pub held_word : (calls : List ℕ) (frames : List Frame) (h : Stack) (w : Mapped) (d s i : ℕ) → Holds program page calls frames h w → d < length calls → i < row_words (slice_get (slots_at program calls d) s)
      → may_write (h.words d s i) ≡ true → (old : ℕ) × (w (word_address frames d (word_number (slots_at program calls d) s i)) ≡ writable old)
  held_word calls frames h w d s i holds deep within some =
      let there = holds d s i deep (own_place (slots_at program calls d) s i within) in
      has_some (h.words d s i) (w (word_address frames d (word_number (slots_at program calls d) s i)))
      (subst (λ c. HasCell program page c (w (word_address frames d (word_number (slots_at program calls d) s i)))) (own_cell calls frames h d s i within) there) some

  -- a value that is present is in its word
  pub held_value : (calls : List ℕ) (frames : List Frame) (h : Stack) (w : Mapped) (d s i : ℕ) (v : ℤ) → Holds program page calls frames h w → d < length calls → i < row_words (slice_get (slots_at program calls d) s)
      → value_in (h.words d s i) ≡ Some v → reads (w (word_address frames d (word_number (slots_at program calls d) s i))) ≡ Some (bits v)
  held_value calls frames h w d s i v holds deep within is =
      has_value (h.words d s i) v (w (word_address frames d (word_number (slots_at program calls d) s i))) is
      (subst (λ c. HasCell program page c (w (word_address frames d (word_number (slots_at program calls d) s i)))) (own_cell calls frames h d s i within) (holds d s i deep (own_place (slots_at program calls d) s i within)))
