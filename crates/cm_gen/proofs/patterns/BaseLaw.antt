-- The words of an array, a slice or a scalar: where they are, and the code that finds their address and their number.
use Rattle.std.proofs.lemmas.Option.{same_Some}
use Rattle.std.proofs.Common.{◌≡◌, ℕ, zero, suc, ◌+◌, ◌-◌, ◌*◌, ◌%◌, ◌^◌, ◌<◌, ◌≤◌, List, [], ◌∷◌, ◌++◌, length, Option, None, Some, refl, sym, ap, ◌∙◌, subst, arith, inl, inr, eq-eqb, length-append}
use Rattle.std.proofs.lemmas.Bool.{lt-ltb, le-ltb, ltb-true, false≢true, or_parts}
use Rattle.std.proofs.lemmas.Bool.Decides.{eqb_tells}
use Rattle.std.proofs.lemmas.Int.{ints, fits_signed_from_abs}
use Rattle.std.specs.Prelude.{◌⊎◌, Bool, true, false, ◌==◌, if◌then◌else◌, nat_lt, ◌||◌, ℤ, pos, negsuc, ◌+ℤ◌, FitsSigned, slice_get, option_map, Option, None, Some}
use Rattle.std.specs.Int.{w32, cast_unsigned}
use Rattle.cm_isa.specs.Bits.{minus}
use Rattle.cm_isa.specs.Operation.{Operation, ecall}
use Rattle.cm_isa.specs.Alu.{int, word, offset}
use Rattle.cm_isa.specs.Action.{follow}
use Rattle.cm_isa.specs.Machine.{Machine, Mapped, Code, InstructionsAt, machine_after, machine_with, reads}
use Rattle.cm_gen.specs.Returns.{GoesTo}
use Rattle.cm_isa.specs.Register.{with_register}
use Rattle.cm_isa.specs.declared.convention.TheConstants as reg
use Rattle.cm_syntax.specs.declared.stmt.Slot.{Slot}
use Rattle.cm_syntax.specs.declared.stmt.Slot.TheVariants as slot
use Rattle.cm_syntax.specs.declared.stmt.Extent.TheVariants as extent
use Rattle.cm_syntax.specs.Extent.{extent_of}
use Rattle.cm_syntax.specs.declared.stmt.Function.{Function}
use Rattle.cm_syntax.specs.declared.stmt.Program.{Program}
use Rattle.cm_syntax.specs.Frame.{slot_words, slots_words, body_temporaries, rounded_frame}
use Rattle.cm_syntax.specs.Operator.{natural}
use Rattle.cm_syntax.specs.Cell.{value_in}
use Rattle.cm_syntax.specs.Stack.{Reference, Stack}
use Rattle.cm_syntax.specs.Step.{slots_in, is_index}
use Rattle.cm_meaning.specs.TypedState.{slots_at, row_words}
use Rattle.cm_gen.specs.Assembler.{lui, addi, add, slli, bltu}
use Rattle.cm_gen.specs.Code.{is_near, low_part, high_part, load_number, load_slot, service}
use Rattle.cm_gen.specs.Expression.{words_through, slot_offset, load_address, base_for, base, length_for, length_code, locate_code}
use Rattle.cm_gen.specs.Standing.{Frame, slots_here}
use Rattle.cm_gen.specs.FrameWord.{bits, IsPlace, word_number, words_in, words_at, address_at, pointer_of, word_address, MayStand, AreFrames, reference_address, cell_in, HasCell, Holds, row_in, row_of, slice_cell, slice_value}
use Rattle.cm_syntax.specs.Rest.{Control}
use Rattle.cm_gen.specs.declared.form.Form.{Form}
use Rattle.cm_gen.specs.StandsFor.{Spot, ExactAt}
use Rattle.cm_gen.proofs.patterns.WordLaw as words
use Rattle.cm_gen.proofs.patterns.StepLaw.{comes_by_one, comes_on, follow_is}
use Rattle.cm_gen.proofs.patterns.PatternLaw.{sets_by_one, sets_by_two, load_number_runs, load_slot_runs, service_runs}
use Rattle.cm_gen.proofs.patterns.LeavesLaw.{Leaves, Sets, runs_both, codes_both, runs_behind}
use Rattle.cm_gen.proofs.patterns.StandingLaw.{IsCodeAt, code_front, code_back}
use Rattle.cm_gen.proofs.frames.FrameWordLaw.{slots_top, IsOffset, offset_of, slot_at_offset, place_at_offset}
use Rattle.cm_gen.proofs.states.FactLaw.{IsWithin}
use Rattle.cm_syntax.proofs.CellLaw.{map_value}
use Rattle.cm_gen.proofs.frames.CellLaw.{cell_value}

-- ---- addresses

module _ (code : Code) where
  -- the address at an offset from the frame pointer, in a register
  address_by : (near : Bool) → (r : ℕ) (o : ℤ) (a : ℕ) (m : Machine) → is_near o ≡ near → (r == reg.ZERO) ≡ false → (reg.FP == r) ≡ false → m.registers reg.FP < 2 ^ 32 → FitsSigned w32 o
      → offset (m.registers reg.FP) o ≡ a → m.counter + 12 < 2 ^ 32
      → InstructionsAt code m.counter (if near then addi r reg.FP o ∷ [] else lui r (high_part o) ∷ addi r r (low_part o) ∷ add r r reg.FP ∷ [])
      → let size = length (if near then addi r reg.FP o ∷ [] else lui r (high_part o) ∷ addi r r (low_part o) ∷ add r r reg.FP ∷ []) in
      (t : Machine) × GoesTo code size m t × Sets r a (4 * size) m t
  address_by true r o a m is nonzero other frame fits address room there =
      let value : word (int (m.registers reg.FP) +ℤ int (cast_unsigned w32 o)) ≡ a =
      ap (λ v. word (int (m.registers reg.FP) +ℤ v)) (words.int-cast_unsigned o fits) ∙ sym (words.word-pos_add (m.registers reg.FP) o frame) ∙ address in
      sets_by_one code (addi r reg.FP o) refl r a m nonzero (omega (arith, room)) there.0 (ap (λ v. Some (machine_with m (with_register m.registers r v) (follow m.counter))) value)
  address_by false r o a m is nonzero other frame fits address room there =
      let upper = cast_unsigned w32 (high_part o) in
      let lower = cast_unsigned w32 (low_part o) in
      let f = m.registers reg.FP in
      let value : word (int upper +ℤ int lower) ≡ cast_unsigned w32 o =
      rw (words.int-cast_unsigned (high_part o) (words.wrapped_fits _), words.int-cast_unsigned (low_part o) (words.low_part_fits o)) (words.word-parts o ∙ words.word-fits o fits) in
      let two = sets_by_two code (lui r (high_part o)) (addi r r (low_part o)) refl refl r upper (cast_unsigned w32 o) m nonzero (omega (arith, room)) there.0 there.1.0 refl
      (λ t does. ap (λ v. Some (machine_with t (with_register t.registers r v) (follow t.counter))) (ap (λ u. word (int u +ℤ int lower)) does.value ∙ value)) in
      let s = two.0 in
      let does = two.2 in
      let turned : (x y : ℤ) → x +ℤ y ≡ y +ℤ x = λ x y. omega (arith, ints) in
      let summed : word (int (s.registers r) +ℤ int (s.registers reg.FP)) ≡ a =
      ap (λ u. word (int u +ℤ int (s.registers reg.FP))) does.value ∙ ap (λ u. word (int (cast_unsigned w32 o) +ℤ int u)) (does.kept reg.FP other)
      ∙ ap (λ u. word (u +ℤ int f)) (words.int-cast_unsigned o fits) ∙ ap word (turned o (int f)) ∙ sym (words.word-pos_add f o frame) ∙ address in
      let e : m.counter + 4 + 4 ≡ s.counter = omega (arith, does.counter) in
      let last = sets_by_one code (add r r reg.FP) refl r a s nonzero (omega (arith, room, does.counter)) (subst (λ p. code p (add r r reg.FP)) e there.1.1.0)
      (ap (λ v. Some (machine_with s (with_register s.registers r v) (follow s.counter))) summed) in
      runs_both code 2 1 m s last.0 two.1 does last.1 last.2 refl (λ q h. (h, h)) last.2.value

  pub load_address_runs : (r : ℕ) (o : ℤ) (a : ℕ) (m : Machine) → (r == reg.ZERO) ≡ false → (reg.FP == r) ≡ false → m.registers reg.FP < 2 ^ 32 → FitsSigned w32 o
      → offset (m.registers reg.FP) o ≡ a → m.counter + 12 < 2 ^ 32 → InstructionsAt code m.counter (load_address r o)
      → (t : Machine) × GoesTo code (length (load_address r o)) m t × Sets r a (4 * length (load_address r o)) m t
  load_address_runs r o a m nonzero other frame fits address room there = address_by (is_near o) r o a m refl nonzero other frame fits address room there

-- ---- the words of a row

through_least : (slots : List Slot) (s : ℕ) → words_through slots s ≤ slots_words slots
through_least [] s = omega arith
through_least (first ∷ more) zero = omega arith
through_least (first ∷ more) (suc s) = let h = through_least more s in omega (arith, h)

slot_least : (slots : List Slot) (s : ℕ) (kind : Slot) → slice_get slots s ≡ Some kind → slot_words kind ≤ words_through slots s
slot_least [] s kind e = cc
slot_least (first ∷ more) zero kind e = let h : slot_words first ≡ slot_words kind = ap (λ o. words_of o) e in omega (arith, h)
  where
    words_of : Option Slot → ℕ
    words_of None = 0
    words_of (Some kind) = slot_words kind
slot_least (first ∷ more) (suc s) kind e = let h = slot_least more s kind e in omega (arith, h)

frame_least : (o : Option (Function ℕ)) (s : ℕ) (kind : Slot) → slice_get (slots_in o) s ≡ Some kind → 2 + slots_words (slots_in o) ≤ words_in o
frame_least None s kind e = cc
frame_least (Some function) s kind e = rounded (slots_words function.slots) (body_temporaries function.body)
  where
    rounded : (a b : ℕ) → 2 + a ≤ rounded_frame a b
    rounded a b = omega arith

module _ (program : Program) (page : ℕ) where
  -- the place of a frame: its words lie between address 0 and the top of the stack
  pub record HasPlace (calls : List ℕ) (frames : List Frame) (d : ℕ) : Type 0 where
    pub room : 4 * words_at program page calls d ≤ address_at frames d
    pub most : address_at frames d ≤ 2 ^ 30
    pub aligned : address_at frames d % 4 ≡ 0

  stand_most : (calls : List ℕ) (frames : List Frame) (a : ℕ) → AreFrames program page calls frames → MayStand program page calls frames a → a ≤ 2 ^ 30
  stand_most [] [] a shape h = omega (arith, h)
  stand_most [] (F ∷ frames) a shape h = absurd h
  stand_most (f ∷ calls) [] a shape h = absurd h
  stand_most (f ∷ calls) (F ∷ frames) a shape h =
      let most = stand_most calls frames F.address shape.3 shape.0 in
      elim h [
        | inl low ↦ omega (arith, low, most)
        | inr paged ↦ let e = paged.1 in omega (arith, e, most)
      ]

  pub frame_place : (calls : List ℕ) (frames : List Frame) (d : ℕ) → AreFrames program page calls frames → d < length calls → HasPlace calls frames d
  frame_place [] frames d shape deep = absurd (omega (arith, deep))
  frame_place (f ∷ calls) [] d shape deep = absurd shape
  frame_place (f ∷ calls) (F ∷ frames) d shape deep = elim (eqb_tells d (length calls)) [
    | inl last ↦
        let size : words_at program page (f ∷ calls) d ≡ words_in (slice_get program.functions f) = let e : (d == length calls) ≡ true = last.0 in rw e refl in
        let place : address_at (F ∷ frames) d ≡ F.address = let e : (d == length frames) ≡ true = subst (λ n. (d == n) ≡ true) (same calls frames shape.3) last.0 in rw e refl in
        record {
          room = let h = shape.2 in omega (arith, size, place, h);
          most = let h = stand_most calls frames F.address shape.3 shape.0 in omega (arith, place, h);
          aligned = let h = shape.1 in omega (arith, place, h);
        }
    | inr other ↦
        let away = other.1 in
        let before = frame_place calls frames d shape.3 (omega (arith, deep, away)) in
        let size : words_at program page (f ∷ calls) d ≡ words_at program page calls d = let e : (d == length calls) ≡ false = other.0 in rw e refl in
        let place : address_at (F ∷ frames) d ≡ address_at frames d = let e : (d == length frames) ≡ false = subst (λ n. (d == n) ≡ false) (same calls frames shape.3) other.0 in rw e refl in
        record {
          room = let h = before.room in omega (arith, size, place, h);
          most = let h = before.most in omega (arith, place, h);
          aligned = let h = before.aligned in omega (arith, place, h);
        }
  ]
    where
      same : (calls : List ℕ) (frames : List Frame) → AreFrames program page calls frames → length calls ≡ length frames
      same [] [] h = refl
      same [] (F ∷ frames) h = absurd h
      same (f ∷ calls) [] h = absurd h
      same (f ∷ calls) (F ∷ frames) h = ap suc (same calls frames h.3)

  -- the slots of a frame are a part of it
  slots_least : (calls : List ℕ) (d s : ℕ) (kind : Slot) → slice_get (slots_at program calls d) s ≡ Some kind → 2 + slots_words (slots_at program calls d) ≤ words_at program page calls d
  slots_least [] d s kind e = cc
  slots_least (f ∷ calls) d s kind e = by_last (d == length calls) (λ e. slots_least calls d s kind e) e
    where
      by_last : (b : Bool) → (slice_get (slots_at program calls d) s ≡ Some kind → 2 + slots_words (slots_at program calls d) ≤ words_at program page calls d)
          → slice_get (if b then slots_in (slice_get program.functions f) else slots_at program calls d) s ≡ Some kind
          → 2 + slots_words (if b then slots_in (slice_get program.functions f) else slots_at program calls d) ≤ (if b then words_in (slice_get program.functions f) else words_at program page calls d)
      by_last true before e = frame_least (slice_get program.functions f) s kind e
      by_last false before e = before e

  -- What is known of the words of a reference: they are places of a live frame, one after another, at addresses of whole words
  -- below the top of the stack.
  pub record IsRow (calls : List ℕ) (frames : List Frame) (r : Reference) : Type 0 where
    pub live : r.depth < length calls
    pub places : (i : ℕ) → i < r.length → IsPlace (slots_at program calls r.depth) r.slot (r.start + i)
    pub address : (i : ℕ) → i < r.length
        → reference_address program page calls frames r + 4 * i ≡ word_address frames r.depth (word_number (slots_at program calls r.depth) r.slot (r.start + i))
    pub aligned : reference_address program page calls frames r % 4 ≡ 0
    pub below : reference_address program page calls frames r + 4 * r.length ≤ 2 ^ 30
    pub small : r.length < 2 ^ 28

  row_least : (o : Option Slot) (n : ℕ) → n ≤ row_words o → 0 < n → (kind : Slot) × (o ≡ Some kind) × (n ≤ slot_words kind)
  row_least None n h some = absurd (omega (arith, h, some))
  row_least (Some slot.Scalar) n h some = (slot.Scalar, refl, h)
  row_least (Some (slot.Array words)) n h some = (slot.Array words, refl, h)
  row_least (Some slot.Slice) n h some = absurd (omega (arith, h, some))

  pub is_row : {limit : ℕ} (calls : List ℕ) (frames : List Frame) (r : Reference) → AreFrames program page calls frames → IsWithin program page limit calls r → IsRow calls frames r
  is_row calls frames r shape x = record {
    live = x.live;
    places = x.places;
    address = λ i less. let f = facts (some_words i less) in address_of (address_at frames r.depth) through r.start i r.length (words_at program page calls r.depth) place.room f.0 f.1 less;
    aligned = let a = place.aligned in (aligned_of (address_at frames r.depth) (2 + through - r.start) a);
    below = (elim (zero_or r.length) [
      | inl none ↦ below_none (address_at frames r.depth) (2 + through - r.start) r.length place.most none
      | inr some ↦ let f = facts some in below_of (address_at frames r.depth) through r.start r.length (words_at program page calls r.depth) place.room place.most f.0 f.1
    ]);
    small = (elim (zero_or r.length) [
      | inl none ↦ omega (arith, none)
      | inr some ↦ let f = facts some in small_of (address_at frames r.depth) through r.start r.length (words_at program page calls r.depth) place.room place.most f.0 f.1
    ]);
  }
    where
      place : HasPlace calls frames r.depth
      place = frame_place calls frames r.depth shape x.live

      through : ℕ
      through = words_through (slots_at program calls r.depth) r.slot

      zero_or : (n : ℕ) → (n ≡ 0) ⊎ (0 < n)
      zero_or zero = inl refl
      zero_or (suc n) = inr (omega arith)

      some_words : (i : ℕ) → i < r.length → 0 < r.length
      some_words i less = omega (arith, less)

      facts : 0 < r.length → (r.start + r.length ≤ through) × (2 + through ≤ words_at program page calls r.depth)
      facts some =
          let ends = x.ends in
          let row = row_least (slice_get (slots_at program calls r.depth) r.slot) (r.start + r.length) ends (omega (arith, some)) in
          let least = slot_least (slots_at program calls r.depth) r.slot row.0 row.1 in
          let all = slots_least calls r.depth r.slot row.0 row.1 in
          let whole = through_least (slots_at program calls r.depth) r.slot in
          let fits = row.2 in
          (omega (arith, least, fits), omega (arith, all, whole))

      address_of : (a t s i l w : ℕ) → 4 * w ≤ a → s + l ≤ t → 2 + t ≤ w → i < l → a - 4 * (2 + t - s) + 4 * i ≡ a - 4 * (2 + t - (s + i))
      address_of a t s i l w room within all less = omega (arith, room, within, all, less)

      aligned_of : (a n : ℕ) → a % 4 ≡ 0 → (a - 4 * n) % 4 ≡ 0
      aligned_of a n h = omega (arith, h)

      below_none : (a n l : ℕ) → a ≤ 2 ^ 30 → l ≡ 0 → a - 4 * n + 4 * l ≤ 2 ^ 30
      below_none a n l most none = omega (arith, most, none)

      below_of : (a t s l w : ℕ) → 4 * w ≤ a → a ≤ 2 ^ 30 → s + l ≤ t → 2 + t ≤ w → a - 4 * (2 + t - s) + 4 * l ≤ 2 ^ 30
      below_of a t s l w room most within all = omega (arith, room, most, within, all)

      small_of : (a t s l w : ℕ) → 4 * w ≤ a → a ≤ 2 ^ 30 → s + l ≤ t → 2 + t ≤ w → l < 2 ^ 28
      small_of a t s l w room most within all = omega (arith, room, most, within, all)

  -- ---- the code that finds them

  -- the offset of a slot's lowest word, whether or not it has words
  pub slot_offset_is : (f : ℕ) (calls : List ℕ) (frames : List Frame) (s : ℕ) (kind : Slot) → AreFrames program page (f ∷ calls) frames → slice_get (slots_here program (f ∷ calls)) s ≡ Some kind
      → IsOffset program page (pointer_of frames) (slot_offset (slots_here program (f ∷ calls)) s) (word_address frames (length calls) (word_number (slots_here program (f ∷ calls)) s 0))
      × FitsSigned w32 (slot_offset (slots_here program (f ∷ calls)) s) × (slot_words kind < 2 ^ 28)
  slot_offset_is f calls frames s kind shape e =
      let slots = slots_here program (f ∷ calls) in
      let n = 2 + words_through slots s in
      let least = frame_least (slice_get program.functions f) s kind e in
      let whole = through_least slots s in
      let own = slot_least slots s kind e in
      let size : words_at program page (f ∷ calls) (length calls) ≡ words_in (slice_get program.functions f) = let same = eq-eqb (length calls) (length calls) refl in rw same refl in
      let place = frame_place (f ∷ calls) frames (length calls) shape (omega arith) in
      let room = place.room in
      let most = place.most in
      let first : n - 0 ≡ n = omega arith in
      let o = offset_of program page f calls frames n shape (record { deep = omega arith; low = omega arith; high = omega (arith, size, least, whole) }) in (
        subst (λ k. IsOffset program page (pointer_of frames) (minus (4 * n)) (word_address frames (length calls) k)) (sym first) o,
        fits n (omega (arith, room, most, size, least, whole)),
        omega (arith, room, most, size, least, whole, own),
      )
    where
      fits : (n : ℕ) → 4 * n ≤ 2 ^ 30 → FitsSigned w32 (minus (4 * n))
      fits n h = fits_signed_from_abs w32 (minus (4 * n)) (omega (arith, ints, h))

  -- the machine t is behind the code of a base: LEFT has the address of the first word and HELP the number of words
  abbrev pub Based : (calls : List ℕ) → List Frame → (r : Reference) → (bytes : ℕ) → (m t : Machine) → Type 0
  Based calls frames r bytes m t =
      Leaves (λ q. (q == reg.LEFT) || (q == reg.HELP)) (λ t. (t reg.LEFT ≡ reference_address program page calls frames r) × (t reg.HELP ≡ r.length)) (λ w. w) bytes m t

  -- what the code of a base needs of a machine
  pub record IsAtBase (calls : List ℕ) (frames : List Frame) (h : Stack) (m : Machine) : Type 0 where
    pub shape : AreFrames program page calls frames
    pub slots : Holds program page calls frames h m.words
    pub zero_is : m.registers reg.ZERO ≡ 0
    pub pointer_is : m.registers reg.FP ≡ pointer_of frames

  pub slice_place : (f : ℕ) (calls : List ℕ) (a i : ℕ) → slice_get (slots_here program (f ∷ calls)) a ≡ Some slot.Slice → i < 2 → IsPlace (slots_here program (f ∷ calls)) a i
  slice_place f calls a i e less = rw e less

  pub slice_there : (f : ℕ) (calls : List ℕ) (frames : List Frame) (h : Stack) (w : Mapped) (a i : ℕ) (r : Reference) → Holds program page (f ∷ calls) frames h w → slice_get (slots_here program (f ∷ calls)) a ≡ Some slot.Slice
      → value_in (h.references (length calls) a) ≡ Some r → i < 2 → reads (w (word_address frames (length calls) (word_number (slots_here program (f ∷ calls)) a i))) ≡ Some (slice_value program page (f ∷ calls) frames r i)
  slice_there f calls frames h w a i r hold e reference less =
      let top_is = slots_top program page f calls in
      cell_value program page (slice_cell program page (f ∷ calls) frames (h.references (length calls) a) i) (slice_value program page (f ∷ calls) frames r i) (w (word_address frames (length calls) (word_number (slots_here program (f ∷ calls)) a i)))
      (map_value (λ z. slice_value program page (f ∷ calls) frames z i) (h.references (length calls) a) r reference)
      (subst (λ c. HasCell program page c (w (word_address frames (length calls) (word_number (slots_here program (f ∷ calls)) a i)))) (cell_is i)
      (subst (λ l. HasCell program page (cell_in program page (slice_get l a) (f ∷ calls) frames h (length calls) a i) (w (word_address frames (length calls) (word_number l a i)))) top_is
      (hold (length calls) a i (omega arith) (subst (λ l. IsPlace l a i) (sym top_is) (slice_place f calls a i e less)))))
    where
      cell_is : (i : ℕ) → cell_in program page (slice_get (slots_here program (f ∷ calls)) a) (f ∷ calls) frames h (length calls) a i ≡ slice_cell program page (f ∷ calls) frames (h.references (length calls) a) i
      cell_is i = rw e refl

  module _ (code : Code) where
    -- the words of a scalar or an array
    own_base : (f : ℕ) (calls : List ℕ) (frames : List Frame) (h : Stack) (a : ℕ) (kind : Slot) (n : ℕ) (m : Machine) → slice_get (slots_here program (f ∷ calls)) a ≡ Some kind → n ≤ slot_words kind
        → IsAtBase (f ∷ calls) frames h m
        → let is = load_address reg.LEFT (slot_offset (slots_here program (f ∷ calls)) a) ++ load_number reg.HELP (pos n) in IsCodeAt code m.counter is
        → (t : Machine) × GoesTo code (length is) m t × Based (f ∷ calls) frames (record { depth = length calls; slot = a; start = 0; length = n }) (4 * length is) m t
    own_base f calls frames h a kind n m e few x here =
        let o = slot_offset (slots_here program (f ∷ calls)) a in
        let off = slot_offset_is f calls frames a kind x.shape e in
        let front = code_front code (load_address reg.LEFT o) (load_number reg.HELP (pos n)) here in
        let back = code_back code (load_address reg.LEFT o) (load_number reg.HELP (pos n)) refl here in
        let most = front.below in
        let later = back.below in
        let pointer = x.pointer_is in
        let first = load_address_runs code reg.LEFT o _ m refl refl (subst (λ p. p < 2 ^ 32) (sym pointer) off.0.fits) off.1 (ap (λ p. offset p o) pointer ∙ off.0.address) (omega (arith, most)) front.there in
        let s = first.0 in
        let does = first.2 in
        let place = does.counter in
        let fits : FitsSigned w32 (pos n) = fits_signed_from_abs w32 (pos n) (omega (arith, few, off.2)) in
        let second = load_number_runs code reg.HELP (pos n) s refl (does.kept reg.ZERO refl ∙ x.zero_is) fits (omega (arith, later, place)) (subst (λ p. InstructionsAt code p (load_number reg.HELP (pos n))) (sym place) back.there) in
        codes_both code (load_address reg.LEFT o) (load_number reg.HELP (pos n)) m s second.0 first.1 does second.1 second.2 (λ q. or_parts _ _)
        (second.2.kept reg.LEFT refl ∙ does.value ∙ ap (λ l. word_address frames (length calls) (word_number l a 0)) (sym (slots_top program page f calls)), second.2.value ∙ bits_of n (omega (arith, few, off.2)))
      where
        bits_of : (n : ℕ) → n < 2 ^ 31 → cast_unsigned w32 (pos n) ≡ n
        bits_of n h = omega (arith, ints, h)

    -- the words that a slice refers to
    slice_base : (f : ℕ) (calls : List ℕ) (frames : List Frame) (h : Stack) (a : ℕ) (r : Reference) (m : Machine) → slice_get (slots_here program (f ∷ calls)) a ≡ Some slot.Slice → value_in (h.references (length calls) a) ≡ Some r
        → IsAtBase (f ∷ calls) frames h m
        → let o = slot_offset (slots_here program (f ∷ calls)) a in let is = load_slot reg.LEFT o ++ load_slot reg.HELP (o +ℤ pos 4) in IsCodeAt code m.counter is
        → (t : Machine) × GoesTo code (length is) m t × Based (f ∷ calls) frames r (4 * length is) m t
    slice_base f calls frames h a r m e reference x here =
        let slots = slots_here program (f ∷ calls) in
        let o = slot_offset slots a in
        let front = code_front code (load_slot reg.LEFT o) (load_slot reg.HELP (o +ℤ pos 4)) here in
        let back = code_back code (load_slot reg.LEFT o) (load_slot reg.HELP (o +ℤ pos 4)) refl here in
        let most = front.below in
        let later = back.below in
        let pointer = x.pointer_is in
        let low = slot_at_offset program page f calls frames a x.shape (slice_place f calls a 0 e (omega arith)) in
        let up = place_at_offset program page f calls frames a 1 x.shape (slice_place f calls a 1 e (omega arith)) in
        let first = load_slot_runs code reg.LEFT o _ _ m refl refl (subst (λ p. p < 2 ^ 32) (sym pointer) low.fits) (ap (λ p. offset p o) pointer ∙ low.address) low.aligned (slice_there f calls frames h m.words a 0 r x.slots e reference (omega arith)) (omega (arith, most)) front.there in
        let s = first.0 in
        let does = first.2 in
        let place = does.counter in
        let same : s.registers reg.FP ≡ pointer_of frames = does.kept reg.FP refl ∙ pointer in
        let second = load_slot_runs code reg.HELP (o +ℤ pos 4) _ _ s refl refl (subst (λ p. p < 2 ^ 32) (sym same) up.fits) (ap (λ p. offset p (o +ℤ pos 4)) same ∙ up.address) up.aligned
        (ap (λ w. reads (w (word_address frames (length calls) (word_number slots a 1)))) does.words ∙ slice_there f calls frames h m.words a 1 r x.slots e reference (omega arith)) (omega (arith, later, place))
        (subst (λ p. InstructionsAt code p (load_slot reg.HELP (o +ℤ pos 4))) (sym place) back.there) in
        codes_both code (load_slot reg.LEFT o) (load_slot reg.HELP (o +ℤ pos 4)) m s second.0 first.1 does second.1 second.2 (λ q. or_parts _ _) (second.2.kept reg.LEFT refl ∙ does.value, second.2.value)

    -- the number of words, in VALUE
    pub length_runs : (calls : List ℕ) (frames : List Frame) (h : Stack) (a : ℕ) (r : Reference) (m : Machine) → IsAtBase calls frames h m → value_in (row_of program page calls h a) ≡ Some r → r.length < 2 ^ 31
        → IsCodeAt code m.counter (length_code (slots_here program calls) a)
        → (t : Machine) × GoesTo code (length (length_code (slots_here program calls) a)) m t × Sets reg.VALUE r.length (4 * length (length_code (slots_here program calls) a)) m t
    length_runs [] frames h a r m x row small here = absurd (no_row row)
      where
        no_row : value_in (row_of program page [] h a) ≡ Some r → ⊥
        no_row e = cc e
    length_runs (f ∷ calls) frames h a r m x row small here = by_kind (slice_get (slots_here program (f ∷ calls)) a) refl row here
      where
        o : ℤ
        o = slot_offset (slots_here program (f ∷ calls)) a

        number : (n : ℕ) → n ≡ r.length → IsCodeAt code m.counter (load_number reg.VALUE (pos n))
            → (t : Machine) × GoesTo code (length (load_number reg.VALUE (pos n))) m t × Sets reg.VALUE r.length (4 * length (load_number reg.VALUE (pos n))) m t
        number n same here =
            let below = here.below in
            let bits_are : cast_unsigned w32 (pos n) ≡ r.length = same in
            subst (λ v. (t : Machine) × GoesTo code (length (load_number reg.VALUE (pos n))) m t × Sets reg.VALUE v (4 * length (load_number reg.VALUE (pos n))) m t) bits_are
            (load_number_runs code reg.VALUE (pos n) m refl x.zero_is (fits_signed_from_abs w32 (pos n) (omega (arith, small, same))) (omega (arith, below)) here.there)

        by_kind : (kind : Option Slot) → slice_get (slots_here program (f ∷ calls)) a ≡ kind → value_in (row_in program page kind (f ∷ calls) h a) ≡ Some r
            → IsCodeAt code m.counter (length_for (option_map extent_of kind) o)
            → (t : Machine) × GoesTo code (length (length_for (option_map extent_of kind) o)) m t × Sets reg.VALUE r.length (4 * length (length_for (option_map extent_of kind) o)) m t
        by_kind None e row here = cc row
        by_kind (Some slot.Scalar) e row here = number 1 (ap (λ r. r.length) (same_Some _ _ row)) here
        by_kind (Some (slot.Array n)) e row here = number n (ap (λ r. r.length) (same_Some _ _ row)) here
        by_kind (Some slot.Slice) e row here =
            let pointer = x.pointer_is in
            let below = here.below in
            let up = place_at_offset program page f calls frames a 1 x.shape (slice_place f calls a 1 e (omega arith)) in
            load_slot_runs code reg.VALUE (o +ℤ pos 4) _ r.length m refl refl (subst (λ p. p < 2 ^ 32) (sym pointer) up.fits) (ap (λ p. offset p (o +ℤ pos 4)) pointer ∙ up.address) up.aligned
            (slice_there f calls frames h m.words a 1 r x.slots e row (omega arith)) (omega (arith, below)) here.there

    -- The code of a base, from a machine that stands before it.
    pub base_runs : (calls : List ℕ) (frames : List Frame) (h : Stack) (a : ℕ) (r : Reference) (m : Machine) → IsAtBase calls frames h m → value_in (row_of program page calls h a) ≡ Some r
        → IsCodeAt code m.counter (base (slots_here program calls) a)
        → (t : Machine) × GoesTo code (length (base (slots_here program calls) a)) m t × Based calls frames r (4 * length (base (slots_here program calls) a)) m t
    base_runs [] frames h a r m x row here = absurd (no_row row)
      where
        no_row : value_in (row_of program page [] h a) ≡ Some r → ⊥
        no_row e = cc e
    base_runs (f ∷ calls) frames h a r m x row here = by_kind (slice_get (slots_here program (f ∷ calls)) a) refl row here
      where
        by_kind : (o : Option Slot) → slice_get (slots_here program (f ∷ calls)) a ≡ o → value_in (row_in program page o (f ∷ calls) h a) ≡ Some r
            → IsCodeAt code m.counter (base_for (option_map extent_of o) (slot_offset (slots_here program (f ∷ calls)) a))
            → (t : Machine) × GoesTo code (length (base_for (option_map extent_of o) (slot_offset (slots_here program (f ∷ calls)) a))) m t × Based (f ∷ calls) frames r (4 * length (base_for (option_map extent_of o) (slot_offset (slots_here program (f ∷ calls)) a))) m t
        by_kind None e row here = cc row
        by_kind (Some slot.Scalar) e row here =
            subst (λ r. (t : Machine) × GoesTo code (length (base_for (Some extent.Word) (slot_offset (slots_here program (f ∷ calls)) a))) m t × Based (f ∷ calls) frames r (4 * length (base_for (Some extent.Word) (slot_offset (slots_here program (f ∷ calls)) a))) m t)
            (same_Some _ _ row) (own_base f calls frames h a slot.Scalar 1 m e (omega arith) x here)
        by_kind (Some (slot.Array n)) e row here =
            subst (λ r. (t : Machine) × GoesTo code (length (base_for (Some (extent.Words n)) (slot_offset (slots_here program (f ∷ calls)) a))) m t × Based (f ∷ calls) frames r (4 * length (base_for (Some (extent.Words n)) (slot_offset (slots_here program (f ∷ calls)) a))) m t)
            (same_Some _ _ row) (own_base f calls frames h a (slot.Array n) n m e (omega arith) x here)
        by_kind (Some slot.Slice) e row here = slice_base f calls frames h a r m e row x here

-- ---- services and tests

-- whether an index fits is what its word tells
pub index_tells : (v : ℤ) (n : ℕ) → FitsSigned w32 v → n < 2 ^ 31 → is_index v n ≡ nat_lt (bits v) n
index_tells (pos k) n fits small = let e : cast_unsigned w32 (pos k) ≡ k = omega (arith, ints, fits) in rw e refl
index_tells (negsuc k) n fits small = let e : n ≤ cast_unsigned w32 (negsuc k) = omega (arith, ints, fits, small) in sym (le-ltb (cast_unsigned w32 (negsuc k)) n e)

-- an index that fits is its own word
pub index_is : (v : ℤ) (n : ℕ) → FitsSigned w32 v → is_index v n ≡ true → (bits v ≡ natural v) × (natural v < n)
index_is (pos k) n fits h = (omega (arith, ints, fits), ltb-true k n h)
index_is (negsuc k) n fits h = absurd (false≢true h)

module _ (code : Code) where
  -- a branch past a service, where VALUE is less than HELP
  less_taken : (m : Machine) → nat_lt (m.registers reg.VALUE) (m.registers reg.HELP) ≡ true → m.counter % 4 ≡ 0 → m.counter + 12 < 2 ^ 32
      → machine_after (bltu reg.VALUE reg.HELP (pos 12)) m ≡ Some (machine_with m m.registers (m.counter + 12))
  less_taken m less aligned room = let up = words.offset_up m.counter 12 room in let four : (m.counter + 12) % 4 ≡ 0 = omega (arith, aligned) in rw (less, up, four) refl

  less_passed : (m : Machine) → nat_lt (m.registers reg.VALUE) (m.registers reg.HELP) ≡ false → m.counter + 4 < 2 ^ 32
      → machine_after (bltu reg.VALUE reg.HELP (pos 12)) m ≡ Some (machine_with m m.registers (m.counter + 4))
  less_passed m more room = let next = follow_is m.counter room in rw (more, next) refl

  -- the test of an index in VALUE against the number in HELP, with the address of the first word in LEFT
  abbrev pub locating : List Operation
  locating = bltu reg.VALUE reg.HELP (pos 12) ∷ (service (pos 8) ++ slli reg.VALUE reg.VALUE (pos 2) ∷ add reg.VALUE reg.VALUE reg.LEFT ∷ [])

  pub finds : (i n a : ℕ) (m : Machine) → m.registers reg.VALUE ≡ i → m.registers reg.HELP ≡ n → m.registers reg.LEFT ≡ a → i < n → a + 4 * n ≤ 2 ^ 30 → IsCodeAt code m.counter locating
      → (t : Machine) × GoesTo code 3 m t × Sets reg.VALUE (a + 4 * i) 20 m t
  finds i n a m value help left less below here =
      let room = here.below in
      let s : Machine = machine_with m m.registers (m.counter + 12) in
      let test : nat_lt (m.registers reg.VALUE) (m.registers reg.HELP) ≡ true = rw (value, help) (lt-ltb i n less) in
      let first = comes_by_one code (bltu reg.VALUE reg.HELP (pos 12)) refl m s here.there.0 (less_taken m test here.aligned (omega (arith, room))) in
      let e3 : m.counter + 4 + 4 + 4 ≡ m.counter + 12 = omega arith in
      let e4 : m.counter + 4 + 4 + 4 + 4 ≡ m.counter + 12 + 4 = omega arith in
      let shifted : m.registers reg.VALUE * 2 ^ 2 % 2 ^ 32 ≡ 4 * i = omega (arith, value, less, below) in
      let summed : word (int (4 * i) +ℤ int a) ≡ a + 4 * i = words.word-add (4 * i) a (omega (arith, less, below)) (omega (arith, less, below)) ∙ omega (arith, less, below) in
      let two = sets_by_two code (slli reg.VALUE reg.VALUE (pos 2)) (add reg.VALUE reg.VALUE reg.LEFT) refl refl reg.VALUE (4 * i) (a + 4 * i) s refl (omega (arith, room))
      (subst (λ p. code p (slli reg.VALUE reg.VALUE (pos 2))) e3 here.there.1.1.1.0) (subst (λ p. code p (add reg.VALUE reg.VALUE reg.LEFT)) e4 here.there.1.1.1.1.0)
      (ap (λ v. Some (machine_with s (with_register s.registers reg.VALUE v) (follow s.counter))) shifted)
      (λ t does. ap (λ v. Some (machine_with t (with_register t.registers reg.VALUE v) (follow t.counter)))
      (ap (λ u. word (int u +ℤ int (t.registers reg.LEFT))) does.value ∙ ap (λ u. word (int (4 * i) +ℤ int u)) (does.kept reg.LEFT refl ∙ left) ∙ summed)) in
      runs_behind code 12 2 m two.0 first two.1 two.2 refl

  pub misses : (i n : ℕ) (m : Machine) → m.registers reg.ZERO ≡ 0 → m.registers reg.VALUE ≡ i → m.registers reg.HELP ≡ n → nat_lt i n ≡ false → IsCodeAt code m.counter locating
      → (t : Machine) × GoesTo code 2 m t × code t.counter ecall × (t.registers reg.SERVICE ≡ 8) × (t.registers reg.TICKS ≡ m.registers reg.TICKS)
  misses i n m zero_is value help more here =
      let room = here.below in
      let s : Machine = machine_with m m.registers (m.counter + 4) in
      let test : nat_lt (m.registers reg.VALUE) (m.registers reg.HELP) ≡ false = rw (value, help) more in
      let first = comes_by_one code (bltu reg.VALUE reg.HELP (pos 12)) refl m s here.there.0 (less_passed m test (omega (arith, room))) in
      let at = code_front code (service (pos 8)) (slli reg.VALUE reg.VALUE (pos 2) ∷ add reg.VALUE reg.VALUE reg.LEFT ∷ [])
      (code_back code (bltu reg.VALUE reg.HELP (pos 12) ∷ []) (service (pos 8) ++ slli reg.VALUE reg.VALUE (pos 2) ∷ add reg.VALUE reg.VALUE reg.LEFT ∷ []) (omega arith) here) in
      let ran = service_runs code 8 s (omega arith) zero_is at in
      (ran.0, comes_on code 1 1 m s ran.0 first ran.1, ran.3, ran.2.value, ran.2.kept reg.TICKS refl)

module _ (program : Program) (page : ℕ) (code : Code) where
  -- the machine t is behind the code that finds an element: VALUE has its address
  abbrev pub Located : (calls : List ℕ) → List Frame → (r : Reference) → (i bytes : ℕ) → (m t : Machine) → Type 0
  Located calls frames r i bytes m t =
      Leaves (λ q. (q == reg.VALUE) || ((q == reg.LEFT) || (q == reg.HELP))) (λ t. t reg.VALUE ≡ reference_address program page calls frames r + 4 * i) (λ w. w) bytes m t

  -- an index in VALUE of a row: where it fits, VALUE takes the address of the element
  pub locate_runs : (calls : List ℕ) (frames : List Frame) (h : Stack) (a : ℕ) (r : Reference) (v : ℤ) (m : Machine) → IsAtBase program page calls frames h m → value_in (row_of program page calls h a) ≡ Some r
      → IsRow program page calls frames r → m.registers reg.VALUE ≡ bits v → FitsSigned w32 v → is_index v r.length ≡ true → IsCodeAt code m.counter (locate_code (slots_here program calls) a)
      → (t : Machine) × GoesTo code (length (base (slots_here program calls) a) + 3) m t × Located calls frames r (natural v) (4 * length (locate_code (slots_here program calls) a)) m t
  locate_runs calls frames h a r v m x row is value fits index here =
      let b = base (slots_here program calls) a in
      let size = length-append b (locating code) in
      let first = base_runs program page code calls frames h a r m x row (code_front code b (locating code) here) in
      let s = first.0 in
      let does = first.2 in
      let is_i = index_is v r.length fits index in
      let second = finds code (natural v) r.length (reference_address program page calls frames r) s (does.kept reg.VALUE refl ∙ value ∙ is_i.0) does.value.1 does.value.0 is_i.1 is.below
      (code_back code b (locating code) does.counter here) in
      runs_both code (length b) 3 m s second.0 first.1 does second.1 second.2 (omega (arith, size)) (λ q other. let n = or_parts _ _ other in (n.1, n.0)) second.2.value

  -- else the run is at service 8
  pub locate_traps : (calls : List ℕ) (frames : List Frame) (h : Stack) (a : ℕ) (r : Reference) (v : ℤ) (m : Machine) → IsAtBase program page calls frames h m → value_in (row_of program page calls h a) ≡ Some r
      → IsRow program page calls frames r → m.registers reg.VALUE ≡ bits v → FitsSigned w32 v → is_index v r.length ≡ false → IsCodeAt code m.counter (locate_code (slots_here program calls) a)
      → (t : Machine) × GoesTo code (length (base (slots_here program calls) a) + 2) m t × code t.counter ecall × (t.registers reg.SERVICE ≡ 8) × (t.registers reg.TICKS ≡ m.registers reg.TICKS)
  locate_traps calls frames h a r v m x row is value fits index here =
      let b = base (slots_here program calls) a in
      let first = base_runs program page code calls frames h a r m x row (code_front code b (locating code) here) in
      let s = first.0 in
      let does = first.2 in
      let small = is.small in
      let second = misses code (bits v) r.length s (does.kept reg.ZERO refl ∙ x.zero_is) (does.kept reg.VALUE refl ∙ value) does.value.1 (sym (index_tells v r.length fits (omega (arith, small))) ∙ index)
      (code_back code b (locating code) does.counter here) in
      (second.0, comes_on code (length b) 2 m s second.0 first.1 second.1, second.2, second.3, second.4 ∙ does.kept reg.TICKS refl)

-- what a machine that stands for a state has for the code of a base
pub at_base : (program : Program) (form : Form) (page : ℕ) (input : List ℤ) (code : Code) (spot : Spot) (left : ℕ) (c : Control) (h : Stack) (m : Machine) → ExactAt program form page input code spot left c h m
    → IsAtBase program page c.calls spot.frames h m
at_base program form page input code spot left c h m x = record { shape = x.frames; slots = x.slots; zero_is = x.zero_is; pointer_is = x.pointer_is }
