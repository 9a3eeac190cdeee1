-- The words of a new frame: what its first stores leave, and what those of the parameters do.
use Rattle.std.proofs.Common.{◌≡◌, ◌≢◌, ℕ, suc, ◌+◌, ◌-◌, ◌*◌, ◌%◌, ◌<◌, ◌≤◌, List, [], ◌∷◌, length, Option, None, Some, refl, sym, ap, ◌∙◌, subst, arith, inl, inr}
use Rattle.std.proofs.lemmas.Bool.Decides.{eqb_tells}
use Rattle.std.specs.Prelude.{Bool, true, false, ◌==◌, if◌then◌else◌, ◌⊎◌, slice_get}
use Rattle.cm_isa.specs.Machine.{Mapped, with_word, IsWritable, writable}
use Rattle.cm_isa.specs.Run.{Extends}
use Rattle.cm_syntax.specs.Extent.{extent_at}
use Rattle.cm_syntax.specs.declared.stmt.Extent.{Extent}
use Rattle.cm_syntax.specs.declared.stmt.Extent.TheVariants as extent
use Rattle.cm_syntax.specs.declared.stmt.Program.{Program}
use Rattle.cm_syntax.specs.Cell.{unset, value_in}
use Rattle.cm_syntax.specs.Stack.{Reference, Stack, push_frame}
use Rattle.cm_syntax.specs.Rest.{Item, end}
use Rattle.cm_syntax.specs.Step.{top}
use Rattle.cm_meaning.specs.TypedState.{slots_at}
use Rattle.cm_gen.specs.Standing.{Frame}
use Rattle.cm_gen.specs.FrameWord.{IsPlace, word_number, IsOwnNumber, words_in, bytes_of, words_at, address_at, word_address, pointer_of, AreFrames, cell_at, slice_cell, value_cell, HasCell, Holds, Kept, HasOwn, cell_for}
use Rattle.cm_gen.specs.Formed.{RestFits}
use Rattle.cm_gen.proofs.frames.MappedWordLaw.{with_word_same, with_word_other, with_word_mapped}
use Rattle.cm_gen.proofs.frames.FrameWordLaw.{at_end, at_before, slots_before, lengths, IsWord, one_word, one_place, place_word, kept_lasts}
use Rattle.cm_gen.proofs.frames.DeeperLaw.{top_low, extends_cell, deeper_address, deeper_word, shallow_word, deeper_cell, same_row, kept_extends}

-- where both choices are one, so is the choice
pub one_choice : {A : Type 0} (b : Bool) (x : A) → (if b then x else x) ≡ x
one_choice true x = refl
one_choice false x = refl

module _ (program : Program) (page : ℕ) where
  -- a store into a place, where the other places have what they should
  pub holds_put : (calls : List ℕ) (frames : List Frame) (g : Stack) (w : Mapped) (d s i v : ℕ) → AreFrames program page calls frames → d < length calls → IsPlace (slots_at program calls d) s i
      → HasCell program page (cell_at program page calls frames g d s i) (writable v)
      → ((e t j : ℕ) → e < length calls → IsPlace (slots_at program calls e) t j
      → HasCell program page (cell_at program page calls frames g e t j) (w (word_address frames e (word_number (slots_at program calls e) t j))) ⊎ ((e ≡ d) × (t ≡ s) × (j ≡ i)))
      → Holds program page calls frames g (with_word w (word_address frames d (word_number (slots_at program calls d) s i)) v)
  holds_put calls frames g w d s i v shape deep place put others = λ e t j low there. by_place e t j low there (place_tells e t j low there)
    where
      address : ℕ → ℕ → ℕ → ℕ
      address e t j = word_address frames e (word_number (slots_at program calls e) t j)

      place_tells : (e t j : ℕ) → e < length calls → IsPlace (slots_at program calls e) t j → ((e ≡ d) × (t ≡ s) × (j ≡ i)) ⊎ (address e t j ≢ address d s i)
      place_tells e t j low there = elim (eqb_tells (address e t j) (address d s i)) [
        | inr other ↦ inr other.1
        | inl same ↦ inl (by_word (one_word program page calls frames e _ d _ shape (place_word program page calls e t j low there) (place_word program page calls d s i deep place) same.1))
      ]
        where
          by_word : (e ≡ d) × (word_number (slots_at program calls e) t j ≡ word_number (slots_at program calls d) s i) → (e ≡ d) × (t ≡ s) × (j ≡ i)
          by_word both =
              let at : e ≡ d = both.0 in
              let p = one_place (slots_at program calls d) t j s i (subst (λ e. IsPlace (slots_at program calls e) t j) at there) place (ap (λ e. word_number (slots_at program calls e) t j) (sym at) ∙ both.1) in
              (at, p.0, p.1)

      by_place : (e t j : ℕ) → e < length calls → IsPlace (slots_at program calls e) t j → ((e ≡ d) × (t ≡ s) × (j ≡ i)) ⊎ (address e t j ≢ address d s i)
          → HasCell program page (cell_at program page calls frames g e t j) (with_word w (address d s i) v (address e t j))
      by_place e t j low there (inl x) = at_place e t j x.0 x.1 x.2
        where
          at_place : (e t j : ℕ) → e ≡ d → t ≡ s → j ≡ i → HasCell program page (cell_at program page calls frames g e t j) (with_word w (address d s i) v (address e t j))
          at_place e t j a b c =
              subst (λ e. HasCell program page (cell_at program page calls frames g e t j) (with_word w (address d s i) v (address e t j))) (sym a)
              (subst (λ t. HasCell program page (cell_at program page calls frames g d t j) (with_word w (address d s i) v (address d t j))) (sym b)
              (subst (λ j. HasCell program page (cell_at program page calls frames g d s j) (with_word w (address d s i) v (address d s j))) (sym c)
              (subst (λ o. HasCell program page (cell_at program page calls frames g d s i) o) (sym (with_word_same w (address d s i) v)) put)))
      by_place e t j low there (inr away) = elim (others e t j low there) [
        | inl cell ↦ subst (λ o. HasCell program page (cell_at program page calls frames g e t j) o) (sym (with_word_other w (address d s i) v (address e t j) away)) cell
        | inr x ↦ absurd (away (ap (λ e. address e t j) x.0 ∙ ap (λ t. address d t j) x.1 ∙ ap (λ j. address d s j) x.2))
      ]

module _ (program : Program) (page : ℕ) (f : ℕ) (calls : List ℕ) (F : Frame) (frames : List Frame) (shape : AreFrames program page (f ∷ calls) (F ∷ frames)) where
  abbrev L : ℕ
  L = length calls

  abbrev B : ℕ
  B = bytes_of program page f

  same : L ≡ length frames
  same = lengths program page calls frames shape.3

  -- the words of the new frame
  pub new_address : (n : ℕ) → word_address (F ∷ frames) L n ≡ F.address - 4 * n
  new_address n = ap (λ a. a - 4 * n) (at_end L (length frames) F.address (address_at frames L) same)

  pub new_word : (n : ℕ) → 0 < n → 4 * n ≤ B → IsWord program page (f ∷ calls) L n
  new_word n some fits =
      let e = at_end L L (words_in (slice_get program.functions f)) (words_at program page calls L) refl in
      record { deep = omega arith; low = some; high = omega (arith, e, fits) }

  -- a store into it leaves the words of the frames below
  pub below_stays : (w : Mapped) (n v : ℕ) → 0 < n → 4 * n ≤ B → (d o : ℕ) → d < L → IsWord program page calls d o
      → with_word w (F.address - 4 * n) v (word_address (F ∷ frames) d o) ≡ w (word_address (F ∷ frames) d o)
  below_stays w n v some fits d o deep x =
      with_word_other w (F.address - 4 * n) v (word_address (F ∷ frames) d o) (λ e.
      let one = one_word program page (f ∷ calls) (F ∷ frames) d o L n shape (deeper_word program page f calls d o x) (new_word n some fits) (e ∙ sym (new_address n)) in
      omega (arith, deep, one.0))

  -- the words behind the first three stores: at the low end, the return address, the caller's frame pointer
  abbrev pub saved : (w : Mapped) → (low back pointer : ℕ) → Mapped
  saved w low back pointer = with_word (with_word (with_word w (F.address - B) low) (F.address - 4) back) (F.address - 8) pointer

  module _ (w : Mapped) (low back pointer : ℕ) (mapped : (a : ℕ) → a % 4 ≡ 0 → F.address - B ≤ a → a < F.address → IsWritable (w a)) where
    abbrev one : Mapped
    one = with_word w (F.address - B) low

    abbrev two : Mapped
    two = with_word one (F.address - 4) back

    abbrev now : Mapped
    now = saved w low back pointer

    pub saved_stays : (d n : ℕ) → d < L → IsWord program page calls d n → now (word_address (F ∷ frames) d n) ≡ w (word_address frames d n)
    saved_stays d n deep x =
        let least = shape.4 in
        below_stays (with_word (with_word w (F.address - B) low) (F.address - 4) back) 2 pointer (omega arith) (omega (arith, least)) d n deep x
        ∙ below_stays (with_word w (F.address - B) low) 1 back (omega arith) (omega (arith, least)) d n deep x
        ∙ below_stays w (words_in (slice_get program.functions f)) low (omega (arith, least)) (omega arith) d n deep x
        ∙ ap w (deeper_address program page F calls frames d n same deep)

    pub saved_mapped : (a : ℕ) → IsWritable (w a) → IsWritable (now a)
    saved_mapped a some = with_word_mapped two (F.address - 8) pointer a (with_word_mapped one (F.address - 4) back a (with_word_mapped w (F.address - B) low a some))

    -- each word of the new frame is mapped
    pub new_mapped : (n : ℕ) → IsWord program page (f ∷ calls) L n → IsWritable (now (word_address (F ∷ frames) L n))
    new_mapped n x =
        let e = at_end L L (words_in (slice_get program.functions f)) (words_at program page calls L) refl in
        let least = x.low in
        let most : 4 * n ≤ B = omega (arith, x.high, e) in
        let four = shape.1 in
        let fits = shape.2 in
        subst (λ a. IsWritable (now a)) (sym (new_address n)) (saved_mapped (F.address - 4 * n) (mapped (F.address - 4 * n) (omega (arith, four, fits, most)) (omega (arith, most)) (omega (arith, least, fits, most))))

    pub saved_back : now (F.address - 4) ≡ writable back
    saved_back =
        let least = shape.4 in
        let fits = shape.2 in
        with_word_other two (F.address - 8) pointer (F.address - 4) (λ e. omega (arith, e, least, fits)) ∙ with_word_same one (F.address - 4) back

    pub saved_pointer : now (F.address - 8) ≡ writable pointer
    saved_pointer = with_word_same two (F.address - 8) pointer

    -- the slots: nothing is set in the new frame, and the words of the frames below are as they were
    pub saved_holds : (h : Stack) (v : Mapped) → Extends v w → ((d s : ℕ) (r : Reference) → d < L → value_in (h.references d s) ≡ Some r → r.depth < L)
        → Holds program page calls frames h v → Holds program page (f ∷ calls) (F ∷ frames) (push_frame h L []) now
    saved_holds h v more live holds = λ d s i deep place. elim (eqb_tells d L) [
      | inl last ↦ subst (λ c. HasCell program page c (now (word_address (F ∷ frames) d (word_number (slots_at program (f ∷ calls) d) s i)))) (sym (new_cell d s i last.1))
          (subst (λ e. IsWritable (now (word_address (F ∷ frames) e (word_number (slots_at program (f ∷ calls) d) s i)))) (sym last.1)
          (new_mapped (word_number (slots_at program (f ∷ calls) d) s i) (subst (λ e. IsWord program page (f ∷ calls) e (word_number (slots_at program (f ∷ calls) d) s i)) last.1 (place_word program page (f ∷ calls) d s i deep place))))
      | inr other ↦ below d s i (omega (arith, deep, other.1)) place
    ]
      where
        new_cell : (d s i : ℕ) → d ≡ L → cell_at program page (f ∷ calls) (F ∷ frames) (push_frame h L []) d s i ≡ unset
        new_cell d s i e = by_kind (extent_at (slots_at program (f ∷ calls) d) s)
          where
            value : value_cell program page (if d == L then (if i == 0 then unset else unset) else h.words d s i) ≡ unset
            value = ap (λ c. value_cell program page c) (at_end d L (if i == 0 then unset else unset) (h.words d s i) e ∙ one_choice (i == 0) unset)

            by_kind : (kind : Option Extent) → cell_for program page kind (f ∷ calls) (F ∷ frames) (push_frame h L []) d s i ≡ unset
            by_kind None = value
            by_kind (Some extent.Word) = value
            by_kind (Some (extent.Words n)) = value
            by_kind (Some extent.Reference) = ap (λ c. slice_cell program page (f ∷ calls) (F ∷ frames) c i) (at_end d L unset (h.references d s) e)

        below : (d s i : ℕ) → d < L → IsPlace (slots_at program (f ∷ calls) d) s i
            → HasCell program page (cell_at program page (f ∷ calls) (F ∷ frames) (push_frame h L []) d s i) (now (word_address (F ∷ frames) d (word_number (slots_at program (f ∷ calls) d) s i)))
        below d s i deep place =
            let slots = slots_before program page f calls d deep in
            let there = subst (λ l. IsPlace l s i) slots place in
            let n = word_number (slots_at program calls d) s i in
            let cell = deeper_cell program page f F calls frames (push_frame h L []) h d s i same deep (at_before d L (if i == 0 then unset else unset) (h.words d s i) deep) (at_before d L unset (h.references d s) deep) (λ r. live d s r deep) in
            subst (λ c. HasCell program page c (now (word_address (F ∷ frames) d (word_number (slots_at program (f ∷ calls) d) s i)))) (sym cell)
            (subst (λ l. HasCell program page (cell_at program page calls frames h d s i) (now (word_address (F ∷ frames) d (word_number l s i)))) (sym slots)
            (subst (λ o. HasCell program page (cell_at program page calls frames h d s i) o) (sym (saved_stays d n deep (place_word program page calls d s i deep there)))
            (extends_cell program page (cell_at program page calls frames h d s i) v w (word_address frames d n) more (holds d s i deep there))))

    -- what the rest of the caller knows, with the saved words before it
    pub saved_kept : (k : List Item) (h g : Stack) (v : Mapped) → Extends v w → ((d s : ℕ) → d < L → g.references d s ≡ h.references d s) → RestFits program page k calls
        → back ≡ F.back → pointer ≡ pointer_of frames → Kept program page k calls frames h v → Kept program page (end ∷ k) (f ∷ calls) (F ∷ frames) g now
    saved_kept k h g v more references fits back_is pointer_is kept = (
      saved_back ∙ ap writable back_is,
      saved_pointer ∙ ap writable pointer_is,
      kept_lasts program page k calls frames g h now w fits shape.3
          (λ d n x own known. ap now (sym (deeper_address program page F calls frames d n same x.deep)) ∙ saved_stays d n x.deep x)
          (λ a. sym (same_row program page calls g h a (λ s some. references (top calls) s (top_low program page calls some))))
          (λ d s l. sym (references d s (omega (arith, l))))
          (kept_extends program page k calls frames h v w more kept),
    )

    -- the saved words and the temporaries
    pub saved_own : (ends : ℕ) (v : Mapped) → Extends v w → HasOwn program page ends calls frames v → HasOwn program page (suc ends) (f ∷ calls) (F ∷ frames) now
    saved_own ends v more own = λ d n deep active low high kind. elim (eqb_tells d L) [
      | inl last ↦ subst (λ e. IsWritable (now (word_address (F ∷ frames) e n))) (sym last.1) (new_mapped n (subst (λ e. IsWord program page (f ∷ calls) e n) last.1 (record { deep = deep; low = low; high = high })))
      | inr other ↦ below d n (omega (arith, deep, other.1)) active low high kind
    ]
      where
        below : (d n : ℕ) → d < L → suc L ≤ d + suc ends → 0 < n → n ≤ words_at program page (f ∷ calls) d → IsOwnNumber (slots_at program (f ∷ calls) d) n → IsWritable (now (word_address (F ∷ frames) d n))
        below d n deep active low high kind =
            let x = shallow_word program page f calls d n deep (record { deep = omega (arith, deep); low = low; high = high }) in
            subst IsWritable (sym (saved_stays d n deep x))
            (extends_cell program page unset v w (word_address frames d n) more (own d n deep (omega (arith, active)) low x.high (subst (λ l. IsOwnNumber l n) (slots_before program page f calls d deep) kind)))
