-- A state that stands needs only the words that it speaks of.
use Rattle.std.proofs.Common.{◌≡◌, ℕ, ◌+◌, ◌-◌, ◌*◌, ◌<◌, ◌≤◌, List, [], ◌∷◌, length, refl, sym, ◌∙◌, subst, arith, inl, inr}
use Rattle.std.specs.Prelude.{ℤ}
use Rattle.cm_isa.specs.Machine.{Machine, Mapped, Code, IsWritable}
use Rattle.cm_syntax.specs.declared.stmt.Program.{Program}
use Rattle.cm_syntax.specs.Stack.{Stack, Argument, word, slice}
use Rattle.cm_syntax.specs.Rest.{Item, apply, arguments, pass, store, join, end, Hand, entering, framing, Control}
use Rattle.cm_meaning.specs.TypedState.{slots_at}
use Rattle.cm_meaning.specs.Activation.{IsInner, IsLeaving, IsOuter, FitsHand, end_count}
use Rattle.cm_gen.specs.declared.form.Form.{Form}
use Rattle.cm_gen.specs.Standing.{Frame, used, arguments_size, slots_here}
use Rattle.cm_gen.specs.FrameWord.{IsOwnNumber, temporary_number, words_at, word_address, AreFrames, cell_at, HasTemporary, HasArguments, Holds, Kept, Touches, of_slot, of_call}
use Rattle.cm_gen.specs.Formed.{HasRoom, RestFits, Formed}
use Rattle.cm_gen.specs.StandsFor.{Spot, ExactAt, with_words}
use Rattle.cm_gen.proofs.frames.CellLaw.{has_same}
use Rattle.cm_gen.proofs.frames.FrameWordLaw.{temporary_word, slots_top, slots_before, words_before, words_top, address_before, address_top}

-- a rest whose first frame may be at the end of its call
abbrev IsShaped : List Item → Type 0
IsShaped (end ∷ k) = IsOuter k
IsShaped k = IsOuter k

inner_end : (k : List Item) → IsInner k → 0 < end_count k
inner_end [] h = absurd h
inner_end (join ∷ []) h = absurd h
inner_end (join ∷ end ∷ k) h = omega arith
inner_end (join ∷ _ ∷ k) h = absurd h
inner_end (end ∷ k) h = absurd h
inner_end (_ ∷ k) h = inner_end k h

inner_shaped : (k : List Item) → IsInner k → IsShaped k
inner_shaped [] h = absurd h
inner_shaped (join ∷ k) h = h
inner_shaped (end ∷ k) h = absurd h
inner_shaped (_ ∷ k) h = h

outer_shaped : (k : List Item) → IsOuter k → IsShaped k
outer_shaped [] h = h
outer_shaped (end ∷ k) h = absurd h
outer_shaped (_ ∷ k) h = h

leaving_shaped : (k : List Item) → IsLeaving k → IsShaped k
leaving_shaped [] h = absurd h
leaving_shaped (end ∷ k) h = h
leaving_shaped (_ ∷ k) h = absurd h

hand_shaped : (hand : Hand) (k : List Item) → FitsHand hand k → IsShaped k
hand_shaped (entering f ws) k h = outer_shaped k h
hand_shaped (framing f ws) k h = outer_shaped k h
hand_shaped _ (end ∷ k) h = h
hand_shaped _ k h = outer_shaped k h

module _ (program : Program) (page : ℕ) where
  -- the words of a rest are in v as in w
  abbrev Same : List Item → List ℕ → List Frame → (v w : Mapped) → Type 0
  Same k calls frames v w = (d n : ℕ) → d < length calls → length calls ≤ d + end_count k → 0 < n → n ≤ words_at program page calls d → IsOwnNumber (slots_at program calls d) n
      → v (word_address frames d n) ≡ w (word_address frames d n)

  temporary_same : (k : List Item) (calls : List ℕ) (frames : List Frame) (v w : Mapped) (j count x : ℕ) → 0 < end_count k → HasRoom program page calls count → j < count
      → Same k calls frames v w → HasTemporary program page calls frames w j x → HasTemporary program page calls frames v j x
  temporary_same k [] frames v w j count x some room less same h = absurd room
  temporary_same k (f ∷ calls) frames v w j count x some room less same h =
      let t = temporary_word program page f calls j count room less in
      let own : IsOwnNumber (slots_at program (f ∷ calls) (length calls)) (temporary_number (slots_here program (f ∷ calls)) j) =
      subst (λ s. IsOwnNumber s (temporary_number (slots_here program (f ∷ calls)) j)) (sym (slots_top program page f calls)) (inr (omega arith)) in
      same (length calls) (temporary_number (slots_here program (f ∷ calls)) j) t.deep (omega (arith, some)) t.low t.high own ∙ h

  arguments_same : (k : List Item) (calls : List ℕ) (frames : List Frame) (v w : Mapped) (j count : ℕ) (ws : List Argument) → 0 < end_count k → HasRoom program page calls count → j + arguments_size ws ≤ count
      → Same k calls frames v w → HasArguments program page calls frames w j ws → HasArguments program page calls frames v j ws
  arguments_same k calls frames v w j count [] some room less same h = tt
  arguments_same k calls frames v w j count (word x ∷ ws) some room less same h =
      (temporary_same k calls frames v w _ count _ some room (omega (arith, less)) same h.0, h.1, arguments_same k calls frames v w j count ws some room (omega (arith, less)) same h.2)
  arguments_same k calls frames v w j count (slice r ∷ ws) some room less same h = (
    temporary_same k calls frames v w _ count _ some room (omega (arith, less)) same h.0,
    temporary_same k calls frames v w _ count _ some room (omega (arith, less)) same h.1,
    arguments_same k calls frames v w j count ws some room (omega (arith, less)) same h.2,
  )

  kept_same : (k : List Item) (calls : List ℕ) (frames : List Frame) (h : Stack) (v w : Mapped) → IsShaped k → RestFits program page k calls → AreFrames program page calls frames
      → Same k calls frames v w → Kept program page k calls frames h w → Kept program page k calls frames h v
  kept_same [] calls frames h v w shaped fits shape same kept = tt
  kept_same (apply o a ∷ k) calls frames h v w shaped fits shape same kept =
      (temporary_same k calls frames v w (used k) _ _ (inner_end k shaped) fits.0 (omega arith) same kept.0, kept.1, kept_same k calls frames h v w (inner_shaped k shaped) fits.1 shape same kept.2)
  kept_same (arguments u f ws row ∷ k) calls frames h v w shaped fits shape same kept =
      (arguments_same k calls frames v w (used k) _ ws (inner_end k shaped) fits.0.0 (omega arith) same kept.0, kept_same k calls frames h v w (inner_shaped k shaped) fits.1 shape same kept.1)
  kept_same (pass u f ws row ∷ k) calls frames h v w shaped fits shape same kept =
      (arguments_same k calls frames v w (used k) _ ws (inner_end k shaped) fits.0.0 (omega arith) same kept.0, kept_same k calls frames h v w (inner_shaped k shaped) fits.1 shape same kept.1)
  kept_same (store a i o ∷ k) calls frames h v w shaped fits shape same kept = (
    record { row = kept.0.row; row_is = kept.0.row_is; address = temporary_same k calls frames v w 0 _ _ (inner_end k shaped) fits.0.1 (omega arith) same kept.0.address },
    kept_same k calls frames h v w (inner_shaped k shaped) fits.1 shape same kept.1,
  )
  kept_same (join ∷ k) calls frames h v w shaped fits shape same kept = kept_same k calls frames h v w (leaving_shaped k shaped) fits.1 shape same kept
  kept_same (end ∷ k) [] frames h v w shaped fits shape same kept = absurd fits
  kept_same (end ∷ k) (f ∷ calls) [] h v w shaped fits shape same kept = absurd shape
  kept_same (end ∷ k) (f ∷ calls) (F ∷ frames) h v w shaped fits shape same kept =
      (saved 1 (omega arith, omega arith) ∙ kept.0, saved 2 (omega arith, omega arith) ∙ kept.1, kept_same k calls frames h v w (outer_shaped k shaped) fits.1 shape.3 older kept.2)
    where
      saved : (n : ℕ) → (0 < n) × (n ≤ 2) → v (F.address - 4 * n) ≡ w (F.address - 4 * n)
      saved n few =
          let top = address_top program page f calls (F ∷ frames) shape in
          let many = words_top program page f calls in
          let least = shape.4 in
          subst (λ a. v (a - 4 * n) ≡ w (a - 4 * n)) top (same (length calls) n (omega arith) (omega arith) few.0 (omega (arith, few.1, many, least)) (inl few.1))

      older : Same k calls frames v w
      older d n deep ends low high own =
          let many = words_before program page f calls d deep in
          let slots = slots_before program page f calls d deep in
          let address = address_before program page calls F frames d shape.3 deep in
          subst (λ a. v (a - 4 * n) ≡ w (a - 4 * n)) address
          (same d n (omega (arith, deep)) (omega (arith, ends)) low (omega (arith, high, many)) (subst (λ s. IsOwnNumber s n) (sym slots) own))
  kept_same (_ ∷ k) calls frames h v w shaped fits shape same kept = kept_same k calls frames h v w (inner_shaped k shaped) fits.1 shape same kept

  -- what is held is held where the words of slots that aren't absent are as they were
  pub holds_with : (calls : List ℕ) (frames : List Frame) (h : Stack) (w v : Mapped) (ends : ℕ) → Holds program page calls frames h w
      → ((a : ℕ) → Touches program page calls frames h ends a → v a ≡ w a) → Holds program page calls frames h v
  holds_with calls frames h w v ends holds same = λ d s i deep place.
      has_same program page (cell_at program page calls frames h d s i) _ _ (λ some. same _ (of_slot d s i deep place some refl)) (holds d s i deep place)

  -- where the words that it speaks of are as they were, a state that stands stands
  pub stands_with : (form : Form) (limit : ℕ) (input : List ℤ) (code : Code) (spot : Spot) (left : ℕ) (c : Control) (h : Stack) (m : Machine) (w : Mapped) → Formed program page limit c h
      → ExactAt program form page input code spot left c h m → ((a : ℕ) → Touches program page c.calls spot.frames h (end_count c.rest) a → w a ≡ m.words a)
      → ExactAt program form page input code spot left c h (with_words m w)
  stands_with form limit input code spot left c h m w formed x same = record {
    frames = x.frames;
    may_stand = x.may_stand;
    slots = holds_with c.calls spot.frames h m.words w (end_count c.rest) x.slots same;
    kept = kept_same c.rest c.calls spot.frames h w m.words (hand_shaped c.hand c.rest formed.settled.shape) formed.fits x.frames
        (λ d n deep ends low high own. same _ (of_call d n deep ends low high own refl)) x.kept;
    own = λ d n deep ends low high own. subst IsWritable (sym (same _ (of_call d n deep ends low high own refl))) (x.own d n deep ends low high own);
    returns_are = x.returns_are;
    zero_is = x.zero_is;
    low_is = x.low_is;
    account_is = x.account_is;
    left_is = x.left_is;
    pointer_is = x.pointer_is;
    placed = x.placed;
  }
