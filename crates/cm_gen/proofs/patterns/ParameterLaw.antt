-- The stores of the parameters: they go from registers into the first slots of a new frame.
use Rattle.std.proofs.Common.{◌≡◌, ℕ, zero, suc, ◌+◌, ◌*◌, ◌^◌, ◌<◌, ◌≤◌, List, [], ◌∷◌, ◌++◌, length, Option, None, Some, refl, sym, ap, ◌∙◌, subst, arith, inl, inr, length-append, append_assoc, option_map}
use Rattle.std.proofs.lemmas.Bool.{ne_eqb}
use Rattle.std.proofs.lemmas.Bool.Decides.{eqb_tells}
use Rattle.std.proofs.lemmas.Option.{none-some, same_Some}
use Rattle.std.specs.Prelude.{false, ◌==◌, if◌then◌else◌, ◌⊎◌, ℤ, pos, ◌+ℤ◌, slice_get, take, map}
use Rattle.cm_isa.specs.declared.convention.TheConstants as reg
use Rattle.cm_isa.specs.Operation.{Operation}
use Rattle.cm_isa.specs.Alu.{offset}
use Rattle.cm_isa.specs.Machine.{Machine, Mapped, Code, InstructionsAt, with_word, writable, IsWritable}
use Rattle.cm_gen.specs.Returns.{GoesTo}
use Rattle.cm_syntax.specs.declared.stmt.Slot.{Slot}
use Rattle.cm_syntax.specs.declared.stmt.Slot.TheVariants as slot
use Rattle.cm_syntax.specs.Extent.{extent_of}
use Rattle.cm_syntax.specs.declared.stmt.Extent.{Extent}
use Rattle.cm_syntax.specs.declared.stmt.Extent.TheVariants as extent
use Rattle.cm_syntax.specs.declared.stmt.Item as items
use Rattle.cm_syntax.specs.declared.stmt.Program.{Program}
use Rattle.cm_syntax.specs.Frame.{slot_words, slots_words}
use Rattle.cm_syntax.specs.Cell.{Cell, unset, present}
use Rattle.cm_syntax.specs.Stack.{Reference, Stack, Argument, word, slice, word_parameter, slice_parameter, push_frame}
use Rattle.cm_syntax.specs.Rest.{Item}
use Rattle.cm_meaning.specs.TypedState.{slots_at, FitsParameter, FitParameters}
use Rattle.cm_gen.specs.Code.{store_slot}
use Rattle.cm_gen.specs.Expression.{slot_offset}
use Rattle.cm_gen.specs.Image.{parameter_code, parameters_code}
use Rattle.cm_gen.specs.Standing.{Frame, arguments_size, slots_here}
use Rattle.cm_gen.specs.FrameWord.{bits, words_in_slot, IsPlace, word_number, word_address, AreFrames, cell_in, cell_at, slice_cell, value_cell, HasCell, Holds, Kept, HasOwn, reference_address, cell_for}
use Rattle.cm_gen.specs.Formed.{RestFits}
use Rattle.cm_gen.specs.StandsFor.{Handed}
use Rattle.cm_gen.proofs.frames.MappedWordLaw.{own_of, with_word_same}
use Rattle.cm_gen.proofs.patterns.StepLaw.{instructions_front, instructions_back}
use Rattle.cm_gen.proofs.patterns.PatternLaw.{store_slot_runs}
use Rattle.cm_gen.proofs.patterns.LeavesLaw.{Leaves, Puts, leaves_both, codes_come}
use Rattle.cm_gen.proofs.frames.FrameWordLaw.{at_end, lengths, slots_top, IsOffset, slot_at_offset, place_at_offset, own_put, kept_place}
use Rattle.cm_gen.proofs.frames.CellLaw.{same_cell}
use Rattle.cm_gen.proofs.frames.DeeperLaw.{deeper_reference}
use Rattle.cm_gen.proofs.frames.FramingLaw.{one_choice, holds_put}

-- ---- the code of the first parameters

-- an element of a list is at its place when more follows
pub get_front : {A : Type 0} (l more : List A) (n : ℕ) (x : A) → slice_get l n ≡ Some x → slice_get (l ++ more) n ≡ Some x
get_front [] more n x e = absurd (none-some x e)
get_front (y ∷ l) more zero x e = e
get_front (y ∷ l) more (suc n) x e = get_front l more n x e

-- one parameter more
pub next_words : (kinds : List Slot) (n : ℕ) (kind : Slot) → slice_get kinds n ≡ Some kind → slots_words (take (suc n) kinds) ≡ slots_words (take n kinds) + slot_words kind
next_words [] n kind e = absurd (none-some kind e)
next_words (k ∷ kinds) zero kind e = let same = ap slot_words (same_Some k kind e) in omega (arith, same)
next_words (k ∷ kinds) (suc n) kind e = let rest = next_words kinds n kind e in omega (arith, rest)

append_nothing : {A : Type 0} (l : List A) → l ++ [] ≡ l
append_nothing [] = refl
append_nothing (x ∷ l) = ap (λ m. x ∷ m) (append_nothing l)

pub next_code : (slots : List Slot) (x r : ℕ) (ps : List (items.Item ℕ)) (n : ℕ) (kind : Slot) → slice_get (map (λ p. p.slot) ps) n ≡ Some kind
    → parameters_code slots x r (take (suc n) ps) ≡ parameters_code slots x r (take n ps) ++ parameter_code slots (x + n) (r + slots_words (take n (map (λ p. p.slot) ps))) kind
next_code slots x r [] n kind e = absurd (none-some kind e)
next_code slots x r (p ∷ ps) zero kind e =
    let a : x ≡ x + 0 = omega arith in
    let b : r ≡ r + 0 = omega arith in
    append_nothing (parameter_code slots x r p.slot) ∙ ap (λ x. parameter_code slots x r p.slot) a ∙ ap (λ r. parameter_code slots (x + 0) r p.slot) b ∙ ap (λ k. parameter_code slots (x + 0) (r + 0) k) (same_Some p.slot kind e)
next_code slots x r (p ∷ ps) (suc n) kind e =
    let kinds : List Slot = map (λ p. p.slot) ps in
    let a : x + 1 + n ≡ x + suc n = omega arith in
    let b : r + slot_words p.slot + slots_words (take n kinds) ≡ r + slots_words (take (suc n) (p.slot ∷ kinds)) = omega arith in
    ap (λ l. parameter_code slots x r p.slot ++ l) (next_code slots (x + 1) (r + slot_words p.slot) ps n kind e
    ∙ ap (λ x'. parameters_code slots (x + 1) (r + slot_words p.slot) (take n ps) ++ parameter_code slots x' (r + slot_words p.slot + slots_words (take n kinds)) kind) a
    ∙ ap (λ r'. parameters_code slots (x + 1) (r + slot_words p.slot) (take n ps) ++ parameter_code slots (x + suc n) r' kind) b)
    ∙ sym (append_assoc (parameter_code slots x r p.slot) (parameters_code slots (x + 1) (r + slot_words p.slot) (take n ps)) _)

-- the words of arguments are those of their parameters
pub words_of_arguments : (program : Program) (h : Stack) (calls : List ℕ) (ws : List Argument) (kinds : List Slot) → FitParameters program h calls ws kinds → arguments_size ws ≡ slots_words (take (length ws) kinds)
words_of_arguments program h calls [] kinds fit = refl
words_of_arguments program h calls (w ∷ ws) kinds fit = by_kind w (slice_get kinds (length ws)) refl fit.0 (words_of_arguments program h calls ws kinds fit.1)
  where
    by_kind : (w : Argument) (found : Option Slot) → slice_get kinds (length ws) ≡ found → FitsParameter program h calls w found → arguments_size ws ≡ slots_words (take (length ws) kinds)
        → arguments_size (w ∷ ws) ≡ slots_words (take (suc (length ws)) kinds)
    by_kind (word v) (Some slot.Scalar) e x a = let b = next_words kinds (length ws) slot.Scalar e in omega (arith, a, b)
    by_kind (slice r) (Some slot.Slice) e x a = let b = next_words kinds (length ws) slot.Slice e in omega (arith, a, b)
    by_kind (word v) None e x a = absurd x
    by_kind (word v) (Some (slot.Array n)) e x a = absurd x
    by_kind (word v) (Some slot.Slice) e x a = absurd x
    by_kind (slice r) None e x a = absurd x
    by_kind (slice r) (Some slot.Scalar) e x a = absurd x
    by_kind (slice r) (Some (slot.Array n)) e x a = absurd x

-- ---- what is set

-- a parameter that doesn't come yet is unset
pub no_slice : (ws : List Argument) (s : ℕ) → length ws ≤ s → slice_parameter ws s ≡ unset
no_slice [] s l = refl
no_slice (word v ∷ ws) s l = no_slice ws s (omega (arith, l))
no_slice (slice r ∷ ws) s l = let e : (s == length ws) ≡ false = ne_eqb s (length ws) (λ e. omega (arith, l, e)) in rw e (no_slice ws s (omega (arith, l)))

pub no_word : (ws : List Argument) (s : ℕ) → length ws ≤ s → word_parameter ws s ≡ unset
no_word [] s l = refl
no_word (word v ∷ ws) s l = let e : (s == length ws) ≡ false = ne_eqb s (length ws) (λ e. omega (arith, l, e)) in rw e (no_word ws s (omega (arith, l)))
no_word (slice r ∷ ws) s l = no_word ws s (omega (arith, l))

-- where the registers of arguments are the same, they have the same arguments
pub handed_within : (program : Program) (page : ℕ) (calls : List ℕ) (frames : List Frame) (r t : ℕ → ℕ) (ws : List Argument) (n : ℕ) → arguments_size ws ≤ n → ((q : ℕ) → reg.RESULT ≤ q → q < reg.RESULT + n → t q ≡ r q)
    → Handed program page calls frames r ws → Handed program page calls frames t ws
handed_within program page calls frames r t [] n few same h = tt
handed_within program page calls frames r t (word v ∷ ws) n few same h =
    (same _ (omega arith) (omega (arith, few)) ∙ h.0, h.1, handed_within program page calls frames r t ws n (omega (arith, few)) same h.2)
handed_within program page calls frames r t (slice s ∷ ws) n few same h =
    (same _ (omega arith) (omega (arith, few)) ∙ h.0, same _ (omega arith) (omega (arith, few)) ∙ h.1, handed_within program page calls frames r t ws n (omega (arith, few)) same h.2)

-- where the registers from RESULT on are the same, they have the same arguments
pub handed_same : (program : Program) (page : ℕ) (calls : List ℕ) (frames : List Frame) (r t : ℕ → ℕ) (ws : List Argument) → ((q : ℕ) → reg.RESULT ≤ q → t q ≡ r q)
    → Handed program page calls frames r ws → Handed program page calls frames t ws
handed_same program page calls frames r t ws same h = handed_within program page calls frames r t ws (arguments_size ws) (omega arith) (λ q high low. same q high) h

module _ (program : Program) (page : ℕ) (f : ℕ) (calls : List ℕ) (F : Frame) (frames : List Frame) (shape : AreFrames program page (f ∷ calls) (F ∷ frames)) (h g : Stack) (ends : ℕ) (k : List Item) (fits : RestFits program page k (f ∷ calls)) where
  abbrev L : ℕ
  L = length calls

  abbrev S : List Slot
  S = slots_here program (f ∷ calls)

  -- the address of a word of a slot of the new frame
  abbrev place : (s i : ℕ) → ℕ
  place s i = word_address (F ∷ frames) L (word_number S s i)

  abbrev cell : (ws : List Argument) → (e s i : ℕ) → Cell ℕ
  cell ws e s i = cell_at program page (f ∷ calls) (F ∷ frames) (push_frame h L ws) e s i

  -- the words, where these arguments were stored
  pub record IsFramed (ws : List Argument) (w : Mapped) : Type 0 where
    pub slots : Holds program page (f ∷ calls) (F ∷ frames) (push_frame h L ws) w
    pub kept : Kept program page k (f ∷ calls) (F ∷ frames) g w
    pub own : HasOwn program page ends (f ∷ calls) (F ∷ frames) w

  -- a store into a slot of the new frame keeps the rest of it
  framed_put : (ws vs : List Argument) (w : Mapped) (s i v : ℕ) → IsPlace S s i → IsFramed ws w
      → HasCell program page (cell vs L s i) (writable v)
      → ((e t j : ℕ) → e < suc L → IsPlace (slots_at program (f ∷ calls) e) t j
      → HasCell program page (cell vs e t j) (w (word_address (F ∷ frames) e (word_number (slots_at program (f ∷ calls) e) t j))) ⊎ ((e ≡ L) × (t ≡ s) × (j ≡ i)))
      → IsFramed vs (with_word w (place s i) v)
  framed_put ws vs w s i v there x put others =
      let slots = slots_top program page f calls in
      let is_place = subst (λ l. IsPlace l s i) (sym slots) there in
      let address = ap (λ l. word_address (F ∷ frames) L (word_number l s i)) slots in
      subst (λ a. IsFramed vs (with_word w a v)) address (record {
        slots = holds_put program page (f ∷ calls) (F ∷ frames) (push_frame h L vs) w L s i v shape (omega arith) is_place put others;
        kept = kept_place program page k (f ∷ calls) (F ∷ frames) g w L s i v fits shape (omega arith) is_place x.kept;
        own = own_put program page ends (f ∷ calls) (F ∷ frames) w _ v x.own;
      })

  -- what stands in a word that has no new argument is the same
  other_word : (z : ℤ) (ws : List Argument) (e t j : ℕ) → ((e ≡ L) → (t ≡ length ws) → (j ≡ 0) → ⊥) → cell (word z ∷ ws) e t j ≡ cell ws e t j
  other_word z ws e t j other = same_cell program page (f ∷ calls) (F ∷ frames) (push_frame h L ws) (push_frame h L (word z ∷ ws)) e t j words refl
    where
      words : (push_frame h L (word z ∷ ws)).words e t j ≡ (push_frame h L ws).words e t j
      words = elim (eqb_tells e L) [
        | inr a ↦ let x : (e == L) ≡ false = a.0 in rw x refl
        | inl a ↦ elim (eqb_tells j 0) [
          | inr b ↦ let y : (j == 0) ≡ false = b.0 in rw y refl
          | inl b ↦ elim (eqb_tells t (length ws)) [
            | inr c ↦ let y : (t == length ws) ≡ false = c.0 in rw y refl
            | inl c ↦ absurd (other a.1 c.1 b.1)
          ]
        ]
      ]

  other_slice : (r : Reference) (ws : List Argument) (e t j : ℕ) → ((e ≡ L) → (t ≡ length ws) → ⊥) → cell (slice r ∷ ws) e t j ≡ cell ws e t j
  other_slice r ws e t j other = same_cell program page (f ∷ calls) (F ∷ frames) (push_frame h L ws) (push_frame h L (slice r ∷ ws)) e t j refl references
    where
      references : (push_frame h L (slice r ∷ ws)).references e t ≡ (push_frame h L ws).references e t
      references = elim (eqb_tells e L) [
        | inr a ↦ let x : (e == L) ≡ false = a.0 in rw x refl
        | inl a ↦ elim (eqb_tells t (length ws)) [
          | inr c ↦ let y : (t == length ws) ≡ false = c.0 in rw y refl
          | inl c ↦ absurd (other a.1 c.1)
        ]
      ]

  kind_at : (s : ℕ) (kind : Slot) → slice_get S s ≡ Some kind → slice_get (slots_at program (f ∷ calls) L) s ≡ Some kind
  kind_at s kind e = ap (λ l. slice_get l s) (slots_top program page f calls) ∙ e

  -- a value comes into its parameter
  pub framed_word : (z : ℤ) (ws : List Argument) (w : Mapped) → slice_get S (length ws) ≡ Some slot.Scalar → IsFramed ws w → IsFramed (word z ∷ ws) (with_word w (place (length ws) 0) (bits z))
  framed_word z ws w kind x =
      framed_put ws (word z ∷ ws) w (length ws) 0 (bits z) (subst (λ o. 0 < words_in_slot o) (sym kind) (omega arith)) x
      (subst (λ c. HasCell program page c (writable (bits z))) (sym there) refl)
      (λ e t j low is_place. elim (eqb_tells e L) [
        | inr a ↦ same e t j low is_place (λ p q r. a.1 p)
        | inl a ↦ elim (eqb_tells t (length ws)) [
          | inr b ↦ same e t j low is_place (λ p q r. b.1 q)
          | inl b ↦ elim (eqb_tells j 0) [
            | inr c ↦ same e t j low is_place (λ p q r. c.1 r)
            | inl c ↦ inr (a.1, b.1, c.1)
          ]
        ]
      ])
    where
      same : (e t j : ℕ) → e < suc L → IsPlace (slots_at program (f ∷ calls) e) t j → ((e ≡ L) → (t ≡ length ws) → (j ≡ 0) → ⊥)
          → HasCell program page (cell (word z ∷ ws) e t j) (w (word_address (F ∷ frames) e (word_number (slots_at program (f ∷ calls) e) t j))) ⊎ ((e ≡ L) × (t ≡ length ws) × (j ≡ 0))
      same e t j low is_place other = inl (subst (λ c. HasCell program page c (w (word_address (F ∷ frames) e (word_number (slots_at program (f ∷ calls) e) t j)))) (sym (other_word z ws e t j other)) (x.slots e t j low is_place))

      there : cell (word z ∷ ws) L (length ws) 0 ≡ present (bits z)
      there =
          ap (λ o. cell_in program page o (f ∷ calls) (F ∷ frames) (push_frame h L (word z ∷ ws)) L (length ws) 0) (kind_at (length ws) slot.Scalar kind)
          ∙ ap (λ c. value_cell program page c) (at_end L L (word_parameter (word z ∷ ws) (length ws)) (h.words L (length ws) 0) refl ∙ at_end (length ws) (length ws) (present z) (word_parameter ws (length ws)) refl)

  -- a parameter that doesn't come yet is unset, so its words are mapped
  unset_cell : (ws : List Argument) (kind : Option Slot) (i : ℕ) → slice_get (slots_at program (f ∷ calls) L) (length ws) ≡ kind → cell ws L (length ws) i ≡ unset
  unset_cell ws kind i e = ap (λ o. cell_in program page o (f ∷ calls) (F ∷ frames) (push_frame h L ws) L (length ws) i) e ∙ by_kind (option_map extent_of kind)
    where
      none : (if i == 0 then word_parameter ws (length ws) else unset) ≡ unset
      none = ap (λ c. if i == 0 then c else unset) (no_word ws (length ws) (omega arith)) ∙ one_choice (i == 0) unset

      value : value_cell program page ((push_frame h L ws).words L (length ws) i) ≡ unset
      value = ap (λ c. value_cell program page c) (at_end L L (if i == 0 then word_parameter ws (length ws) else unset) (h.words L (length ws) i) refl ∙ none)

      by_kind : (kind : Option Extent) → cell_for program page kind (f ∷ calls) (F ∷ frames) (push_frame h L ws) L (length ws) i ≡ unset
      by_kind None = value
      by_kind (Some extent.Word) = value
      by_kind (Some (extent.Words n)) = value
      by_kind (Some extent.Reference) = ap (λ c. slice_cell program page (f ∷ calls) (F ∷ frames) c i) (at_end L L (slice_parameter ws (length ws)) (h.references L (length ws)) refl ∙ no_slice ws (length ws) (omega arith))

  -- a slice comes into its parameter, first its address
  pub framed_address : (v : ℕ) (ws : List Argument) (w : Mapped) → slice_get S (length ws) ≡ Some slot.Slice → IsFramed ws w → IsFramed ws (with_word w (place (length ws) 0) v)
  framed_address v ws w kind x =
      framed_put ws ws w (length ws) 0 v (subst (λ o. 0 < words_in_slot o) (sym kind) (omega arith)) x
      (subst (λ c. HasCell program page c (writable v)) (sym (unset_cell ws (slice_get (slots_at program (f ∷ calls) L) (length ws)) 0 refl)) tt)
      (λ e t j low is_place. inl (x.slots e t j low is_place))

  -- and then its length
  pub framed_slice : (r : Reference) (ws : List Argument) (w : Mapped) → slice_get S (length ws) ≡ Some slot.Slice → IsFramed ws w
      → w (place (length ws) 0) ≡ writable (reference_address program page (f ∷ calls) (F ∷ frames) r)
      → IsFramed (slice r ∷ ws) (with_word w (place (length ws) 1) r.length)
  framed_slice r ws w kind x address =
      framed_put ws (slice r ∷ ws) w (length ws) 1 r.length (subst (λ o. 1 < words_in_slot o) (sym kind) (omega arith)) x
      (subst (λ c. HasCell program page c (writable r.length)) (sym (there 1)) refl)
      (λ e t j low is_place. elim (eqb_tells e L) [
        | inr a ↦ same e t j low is_place (λ p q. a.1 p)
        | inl a ↦ elim (eqb_tells t (length ws)) [
          | inr b ↦ same e t j low is_place (λ p q. b.1 q)
          | inl b ↦ by_index e t j a.1 b.1 is_place
        ]
      ])
    where
      same : (e t j : ℕ) → e < suc L → IsPlace (slots_at program (f ∷ calls) e) t j → ((e ≡ L) → (t ≡ length ws) → ⊥)
          → HasCell program page (cell (slice r ∷ ws) e t j) (w (word_address (F ∷ frames) e (word_number (slots_at program (f ∷ calls) e) t j))) ⊎ ((e ≡ L) × (t ≡ length ws) × (j ≡ 1))
      same e t j low is_place other = inl (subst (λ c. HasCell program page c (w (word_address (F ∷ frames) e (word_number (slots_at program (f ∷ calls) e) t j)))) (sym (other_slice r ws e t j other)) (x.slots e t j low is_place))

      there : (i : ℕ) → cell (slice r ∷ ws) L (length ws) i ≡ slice_cell program page (f ∷ calls) (F ∷ frames) (present r) i
      there i =
          ap (λ o. cell_in program page o (f ∷ calls) (F ∷ frames) (push_frame h L (slice r ∷ ws)) L (length ws) i) (kind_at (length ws) slot.Slice kind)
          ∙ ap (λ c. slice_cell program page (f ∷ calls) (F ∷ frames) c i) (at_end L L (slice_parameter (slice r ∷ ws) (length ws)) (h.references L (length ws)) refl ∙ at_end (length ws) (length ws) (present r) (slice_parameter ws (length ws)) refl)

      first : HasCell program page (cell (slice r ∷ ws) L (length ws) 0) (w (word_address (F ∷ frames) L (word_number (slots_at program (f ∷ calls) L) (length ws) 0)))
      first =
          subst (λ c. HasCell program page c (w (word_address (F ∷ frames) L (word_number (slots_at program (f ∷ calls) L) (length ws) 0)))) (sym (there 0))
          (ap (λ l. w (word_address (F ∷ frames) L (word_number l (length ws) 0))) (slots_top program page f calls) ∙ address)

      by_index : (e t j : ℕ) → e ≡ L → t ≡ length ws → IsPlace (slots_at program (f ∷ calls) e) t j
          → HasCell program page (cell (slice r ∷ ws) e t j) (w (word_address (F ∷ frames) e (word_number (slots_at program (f ∷ calls) e) t j))) ⊎ ((e ≡ L) × (t ≡ length ws) × (j ≡ 1))
      by_index e t zero a b is_place =
          inl (subst (λ e. HasCell program page (cell (slice r ∷ ws) e t 0) (w (word_address (F ∷ frames) e (word_number (slots_at program (f ∷ calls) e) t 0)))) (sym a)
          (subst (λ t. HasCell program page (cell (slice r ∷ ws) L t 0) (w (word_address (F ∷ frames) L (word_number (slots_at program (f ∷ calls) L) t 0)))) (sym b) first))
      by_index e t (suc zero) a b is_place = inr (a, b, refl)
      by_index e t (suc (suc j)) a b is_place =
          let here = subst (λ t. IsPlace (slots_at program (f ∷ calls) L) t (suc (suc j))) b (subst (λ e. IsPlace (slots_at program (f ∷ calls) e) t (suc (suc j))) a is_place) in
          let two : suc (suc j) < 2 = subst (λ o. suc (suc j) < words_in_slot o) (kind_at (length ws) slot.Slice kind) here in
          absurd (omega (arith, two))

  unset_mapped : (ws : List Argument) (w : Mapped) (i : ℕ) → IsPlace S (length ws) i → IsFramed ws w → IsWritable (w (place (length ws) i))
  unset_mapped ws w i there x =
      subst (λ l. IsWritable (w (word_address (F ∷ frames) L (word_number l (length ws) i)))) (slots_top program page f calls)
      (subst (λ c. HasCell program page c (w (word_address (F ∷ frames) L (word_number (slots_at program (f ∷ calls) L) (length ws) i)))) (unset_cell ws (slice_get (slots_at program (f ∷ calls) L) (length ws)) i refl)
      (x.slots L (length ws) i (omega arith) (subst (λ l. IsPlace l (length ws) i) (sym (slots_top program page f calls)) there)))

  module _ (code : Code) where
    -- a register goes into a word of a slot of the new frame
    store_one : (ws : List Argument) (r i : ℕ) (o : ℤ) (m : Machine) → reg.RESULT ≤ r → m.registers reg.FP ≡ F.address → IsPlace S (length ws) i
        → IsOffset program page F.address o (place (length ws) i) → IsFramed ws m.words → m.counter < 2 ^ 30 → InstructionsAt code m.counter (store_slot r o)
        → (t : Machine) × GoesTo code (length (store_slot r o)) m t × Puts (place (length ws) i) (m.registers r) (4 * length (store_slot r o)) m t
    store_one ws r i o m high pointer there at x below code_is =
        let old = own_of (m.words (place (length ws) i)) (unset_mapped ws m.words i there x) in
        store_slot_runs code r o (place (length ws) i) old.0 m (ne_eqb r reg.HELP (λ e. omega (arith, e, high))) (subst (λ p. p < 2 ^ 32) (sym pointer) at.fits) (subst (λ p. offset p o ≡ place (length ws) i) (sym pointer) at.address) at.aligned old.1 (omega (arith, below)) code_is

    -- these instructions have stored the parameters of these arguments
    pub record HasStored (ws : List Argument) (size : ℕ) (m t : Machine) : Type 0 where
      pub write : Mapped → Mapped
      pub leaves : Leaves (λ q. q == reg.HELP) (λ t. Unit {0}) write (4 * size) m t
      pub framed : IsFramed ws t.words

    abbrev pub Does : (is : List Operation) → (ws : List Argument) → Machine → Type 0
    Does is ws m = (t : Machine) × GoesTo code (length is) m t × HasStored ws (length is) m t

    then_does : (a b : List Operation) (ws vs : List Argument) (m : Machine) → Does a ws m → ((t : Machine) → HasStored ws (length a) m t → Does b vs t) → Does (a ++ b) vs m
    then_does a b ws vs m first next =
        let t = first.0 in
        let one = first.2 in
        let second = next t one in
        let two = second.2 in
        let size = length-append a b in (
          second.0,
          codes_come code a b m t second.0 first.1 second.1,
          record { write = λ w. two.write (one.write w); leaves = leaves_both m t second.0 one.leaves two.leaves (omega (arith, size)) (λ q other. (other, other)) tt; framed = two.framed },
        )

    not_help : (n : ℕ) → (reg.RESULT + n == reg.HELP) ≡ false
    not_help n = ne_eqb (reg.RESULT + n) reg.HELP (λ e. omega (arith, e))

    -- a value
    word_does : (z : ℤ) (ws : List Argument) (m : Machine) → slice_get S (length ws) ≡ Some slot.Scalar → m.registers reg.FP ≡ F.address → m.registers (reg.RESULT + arguments_size ws) ≡ bits z
        → IsFramed ws m.words → m.counter < 2 ^ 30 → let is = parameter_code S (length ws) (reg.RESULT + arguments_size ws) slot.Scalar in InstructionsAt code m.counter is → Does is (word z ∷ ws) m
    word_does z ws m kind pointer value x below code_is =
        let there : IsPlace S (length ws) 0 = subst (λ o. 0 < words_in_slot o) (sym kind) (omega arith) in
        let ran = store_one ws (reg.RESULT + arguments_size ws) 0 (slot_offset S (length ws)) m (omega arith) pointer there (slot_at_offset program page f calls (F ∷ frames) (length ws) shape there) x below code_is in
        let does = ran.2 in (
          ran.0,
          ran.1,
          record {
            write = λ w. with_word w (place (length ws) 0) (m.registers (reg.RESULT + arguments_size ws));
            leaves = does;
            framed = subst (λ w. IsFramed (word z ∷ ws) w) (sym (does.words ∙ ap (with_word m.words (place (length ws) 0)) value)) (framed_word z ws m.words kind x);
          },
        )

    -- a slice
    slice_does : (r : Reference) (ws : List Argument) (m : Machine) → slice_get S (length ws) ≡ Some slot.Slice → r.depth < L → m.registers reg.FP ≡ F.address
        → m.registers (reg.RESULT + arguments_size ws) ≡ reference_address program page calls frames r → m.registers (reg.RESULT + arguments_size ws + 1) ≡ r.length
        → IsFramed ws m.words → let is = parameter_code S (length ws) (reg.RESULT + arguments_size ws) slot.Slice in m.counter + 4 * length is < 2 ^ 30 → InstructionsAt code m.counter is → Does is (slice r ∷ ws) m
    slice_does r ws m kind live pointer value count x below code_is =
        let n = reg.RESULT + arguments_size ws in
        let o = slot_offset S (length ws) in
        let a = store_slot n o in
        let b = store_slot (n + 1) (o +ℤ pos 4) in
        let zeroth : IsPlace S (length ws) 0 = subst (λ o. 0 < words_in_slot o) (sym kind) (omega arith) in
        let first : IsPlace S (length ws) 1 = subst (λ o. 1 < words_in_slot o) (sym kind) (omega arith) in
        let size = length-append a b in
        let ran = store_one ws n 0 o m (omega arith) pointer zeroth (slot_at_offset program page f calls (F ∷ frames) (length ws) shape zeroth) x (omega (arith, below)) (instructions_front code m.counter a b code_is) in
        let t = ran.0 in
        let does = ran.2 in
        let address : m.registers n ≡ reference_address program page (f ∷ calls) (F ∷ frames) r = value ∙ sym (deeper_reference program page f F calls frames r (lengths program page calls frames shape.3) live) in
        let words : t.words ≡ with_word m.words (place (length ws) 0) (reference_address program page (f ∷ calls) (F ∷ frames) r) = does.words ∙ ap (with_word m.words (place (length ws) 0)) address in
        let framed = subst (λ w. IsFramed ws w) (sym words) (framed_address (reference_address program page (f ∷ calls) (F ∷ frames) r) ws m.words kind x) in
        let has : t.words (place (length ws) 0) ≡ writable (reference_address program page (f ∷ calls) (F ∷ frames) r) = ap (λ w. w (place (length ws) 0)) words ∙ with_word_same m.words (place (length ws) 0) _ in
        let again = store_one ws (n + 1) 1 (o +ℤ pos 4) t (omega arith) (does.kept reg.FP refl ∙ pointer) first (place_at_offset program page f calls (F ∷ frames) (length ws) 1 shape first) framed (omega (arith, does.counter, below, size))
        (subst (λ p. InstructionsAt code p b) (sym does.counter) (instructions_back code m.counter a b code_is)) in
        let u = again.0 in
        let last = again.2 in
        let length_is : t.registers (n + 1) ≡ r.length = does.kept (n + 1) (ne_eqb (n + 1) reg.HELP (λ e. omega (arith, e))) ∙ count in (
          u,
          codes_come code a b m t u ran.1 again.1,
          record {
            write = λ w. with_word (with_word w (place (length ws) 0) (m.registers n)) (place (length ws) 1) (t.registers (n + 1));
            leaves = leaves_both m t u does last (omega (arith, size)) (λ q other. (other, other)) tt;
            framed = subst (λ w. IsFramed (slice r ∷ ws) w) (sym (last.words ∙ ap (with_word t.words (place (length ws) 1)) length_is)) (framed_slice r ws t.words kind framed has);
          },
        )

    -- all parameters, where the first slots are of their kinds
    module _ (whole : Stack) (ps : List (items.Item ℕ)) (first : (n : ℕ) (kind : Slot) → slice_get (map (λ p. p.slot) ps) n ≡ Some kind → slice_get S n ≡ Some kind) where
      abbrev kinds : List Slot
      kinds = map (λ p. p.slot) ps

      -- the code of the parameters of these arguments
      abbrev front : List Argument → List Operation
      front ws = parameters_code S 0 reg.RESULT (take (length ws) ps)

      next_front : (w : Argument) (ws : List Argument) (kind : Slot) → FitParameters program whole calls ws kinds → slice_get kinds (length ws) ≡ Some kind
          → front (w ∷ ws) ≡ front ws ++ parameter_code S (length ws) (reg.RESULT + arguments_size ws) kind
      next_front w ws kind fit e =
          let a : 0 + length ws ≡ length ws = omega arith in
          next_code S 0 reg.RESULT ps (length ws) kind e
          ∙ ap (λ x. front ws ++ parameter_code S x (reg.RESULT + slots_words (take (length ws) kinds)) kind) a
          ∙ ap (λ n. front ws ++ parameter_code S (length ws) (reg.RESULT + n) kind) (sym (words_of_arguments program whole calls ws kinds fit))

      pub parameters_run : (ws : List Argument) (m : Machine) → FitParameters program whole calls ws kinds → m.registers reg.FP ≡ F.address → Handed program page calls frames m.registers ws
          → IsFramed [] m.words → m.counter + 4 * length (front ws) < 2 ^ 30 → InstructionsAt code m.counter (front ws) → Does (front ws) ws m
      parameters_run [] m fit pointer handed x below code_is = (m, refl, record { write = λ w. w; leaves = record { counter = omega arith; value = tt; kept = λ q other. refl; words = refl }; framed = x })
      parameters_run (w ∷ ws) m fit pointer handed x below code_is = by_kind w (slice_get kinds (length ws)) refl fit.0 handed below code_is
          (λ handed below code_is. parameters_run ws m fit.1 pointer handed x below code_is)
        where
          by_kind : (w : Argument) (found : Option Slot) → slice_get kinds (length ws) ≡ found → FitsParameter program whole calls w found → Handed program page calls frames m.registers (w ∷ ws)
              → m.counter + 4 * length (front (w ∷ ws)) < 2 ^ 30 → InstructionsAt code m.counter (front (w ∷ ws))
              → (Handed program page calls frames m.registers ws → m.counter + 4 * length (front ws) < 2 ^ 30 → InstructionsAt code m.counter (front ws) → Does (front ws) ws m)
              → Does (front (w ∷ ws)) (w ∷ ws) m
          by_kind (word z) (Some slot.Scalar) e fits handed below code_is before =
              let is = next_front (word z) ws slot.Scalar fit.1 e in
              let last = parameter_code S (length ws) (reg.RESULT + arguments_size ws) slot.Scalar in
              let there = subst (λ is. InstructionsAt code m.counter is) is code_is in
              let size = ap (λ (l : List Operation). length l) is ∙ length-append (front ws) last in
              subst (λ is. Does is (word z ∷ ws) m) (sym is) (then_does (front ws) last ws (word z ∷ ws) m (before handed.2 (omega (arith, below, size)) (instructions_front code m.counter (front ws) last there))
              (λ t s. word_does z ws t (first (length ws) slot.Scalar e) (s.leaves.kept reg.FP refl ∙ pointer) (s.leaves.kept (reg.RESULT + arguments_size ws) (not_help (arguments_size ws)) ∙ handed.0) s.framed (omega (arith, s.leaves.counter, below, size))
              (subst (λ p. InstructionsAt code p last) (sym s.leaves.counter) (instructions_back code m.counter (front ws) last there))))
          by_kind (slice r) (Some slot.Slice) e fits handed below code_is before =
              let is = next_front (slice r) ws slot.Slice fit.1 e in
              let last = parameter_code S (length ws) (reg.RESULT + arguments_size ws) slot.Slice in
              let there = subst (λ is. InstructionsAt code m.counter is) is code_is in
              let size = ap (λ (l : List Operation). length l) is ∙ length-append (front ws) last in
              subst (λ is. Does is (slice r ∷ ws) m) (sym is) (then_does (front ws) last ws (slice r ∷ ws) m (before handed.2 (omega (arith, below, size)) (instructions_front code m.counter (front ws) last there))
              (λ t s. slice_does r ws t (first (length ws) slot.Slice e) fits.live (s.leaves.kept reg.FP refl ∙ pointer) (s.leaves.kept (reg.RESULT + arguments_size ws) (not_help (arguments_size ws)) ∙ handed.0)
              (s.leaves.kept (reg.RESULT + arguments_size ws + 1) (ne_eqb (reg.RESULT + arguments_size ws + 1) reg.HELP (λ e. omega (arith, e))) ∙ handed.1) s.framed (omega (arith, s.leaves.counter, below, size))
              (subst (λ p. InstructionsAt code p last) (sym s.leaves.counter) (instructions_back code m.counter (front ws) last there))))
          by_kind (word z) None e fits handed below code_is before = absurd fits
          by_kind (word z) (Some (slot.Array n)) e fits handed below code_is before = absurd fits
          by_kind (word z) (Some slot.Slice) e fits handed below code_is before = absurd fits
          by_kind (slice r) None e fits handed below code_is before = absurd fits
          by_kind (slice r) (Some slot.Scalar) e fits handed below code_is before = absurd fits
          by_kind (slice r) (Some (slot.Array n)) e fits handed below code_is before = absurd fits
