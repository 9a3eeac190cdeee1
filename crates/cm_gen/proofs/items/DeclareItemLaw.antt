-- The laws of declarations.
use Rattle.cm_gen.proofs.patterns.LeavesLaw.{same_self, same_after, same_leaves}
use Rattle.cm_gen.proofs.patterns.PatternLaw.{store_slot_some}
use Rattle.std.proofs.Common.{◌≡◌, ℕ, ◌+◌, ◌-◌, ◌*◌, ◌^◌, ◌<◌, ◌≤◌, List, [], ◌∷◌, ◌++◌, length, Option, None, Some, refl, sym, ap, ◌∙◌, subst, arith, length-append}
use Rattle.std.proofs.lemmas.Int.{ints, fits_signed_from_abs}
use Rattle.std.specs.Prelude.{Bool, true, false, if◌then◌else◌, ℤ, pos, ◌+ℤ◌, FitsSigned, slice_get}
use Rattle.std.specs.Int.{w32}
use Rattle.cm_isa.specs.declared.convention.TheConstants as reg
use Rattle.cm_isa.specs.Bits.{minus}
use Rattle.cm_isa.specs.Alu.{offset}
use Rattle.cm_isa.specs.Machine.{Machine, Code}
use Rattle.cm_syntax.specs.declared.expr.Expr.{Expr}
use Rattle.cm_syntax.specs.declared.stmt.Slot.{Slot}
use Rattle.cm_syntax.specs.declared.stmt.Slot.TheVariants as slot
use Rattle.cm_syntax.specs.Extent.{extent_of}
use Rattle.cm_syntax.specs.declared.stmt.Item as items
use Rattle.cm_syntax.specs.declared.stmt.Program.{Program}
use Rattle.cm_syntax.specs.Frame.{items_temporaries}
use Rattle.cm_syntax.specs.Label.{silent, stuck}
use Rattle.cm_syntax.specs.Cell.{value_in}
use Rattle.cm_syntax.specs.Stack.{Reference, Stack, may_write_all, clear_words}
use Rattle.cm_syntax.specs.Rest.{Item, evaluate, assign, declare, Hand, idle, control}
use Rattle.cm_syntax.specs.Step.{declare_item, item_step}
use Rattle.cm_meaning.specs.Activation.{end_count}
use Rattle.cm_meaning.specs.TypedState.{slots_at, row_words}
use Rattle.cm_meaning.proofs.TypedFramesLaw.{IsPlain}
use Rattle.cm_gen.specs.declared.form.Form.{Form}
use Rattle.cm_gen.specs.Code.{store_slot}
use Rattle.cm_gen.specs.Part.{straight}
use Rattle.cm_gen.specs.Expression.{words_through, slot_offset, load_address, expression_code}
use Rattle.cm_gen.specs.Statement.{clear_words_code, clear_array_code, assign_code, item_code, items_code}
use Rattle.cm_gen.specs.FrameWord.{IsPlace, word_number, word_address, words_at, pointer_of, reference_address, row_in, Kept, HasOwn}
use Rattle.cm_gen.specs.Literal.{HasSize}
use Rattle.cm_gen.specs.Formed.{HasRoom, RestFits, Formed}
use Rattle.cm_gen.specs.Standing.{LeadsTo, StandsThen, slots_here, Coded}
use Rattle.cm_gen.specs.StandsFor.{Spot, Placed, ExactAt, LeadsFrom}
use Rattle.cm_gen.proofs.patterns.WordLaw as words
use Rattle.cm_gen.proofs.patterns.StepLaw.{comes_on}
use Rattle.cm_gen.proofs.frames.MappedWordLaw.{is_own_at}
use Rattle.cm_gen.proofs.frames.CellLaw.{own_place, held_word}
use Rattle.cm_gen.proofs.patterns.StandingLaw.{parted, straight_end, code_at, code_front, code_back}
use Rattle.cm_gen.proofs.items.StateLaw.{exact_with, leads_on, leads_stuck, goes_behind, goes_on, by_held, coded_of}
use Rattle.cm_gen.proofs.frames.FrameWordLaw.{slots_top, address_top, pointer_is, place_low, place_word}
use Rattle.cm_gen.proofs.states.FactLaw.{opened, IsWithin, row_within, slot_here}
use Rattle.cm_gen.proofs.patterns.BaseLaw.{IsRow, is_row, load_address_runs, slot_offset_is}
use Rattle.cm_gen.proofs.items.WriteLaw.{kept_stack, puts_scalar}
use Rattle.cm_gen.proofs.patterns.ClearLaw.{held_at, Cleared, cleared_first, clears}

-- fewer temporaries have room too
room_less : (program : Program) (page : ℕ) (calls : List ℕ) (a b : ℕ) → b ≤ a → HasRoom program page calls a → HasRoom program page calls b
room_less program page [] a b less h = h
room_less program page (f ∷ calls) a b less h = omega (arith, less, h)

-- the offset of the word behind an array
end_offset : (pointer t n : ℕ) → n ≤ t → 4 * (2 + t) ≤ pointer → pointer ≤ 2 ^ 30
    → (offset pointer (minus (4 * (2 + t)) +ℤ pos (4 * n)) ≡ pointer - 4 * (2 + t) + 4 * n) × FitsSigned w32 (minus (4 * (2 + t)) +ℤ pos (4 * n))
end_offset pointer t n inside room most = (
  words.offset_down pointer (4 * (2 + t - n)) (omega (arith, room)) (omega (arith, most)) (minus (4 * (2 + t)) +ℤ pos (4 * n)) (sums pointer t n inside room) ∙ omega (arith, room, inside),
  fits_signed_from_abs w32 (minus (4 * (2 + t)) +ℤ pos (4 * n)) (omega (arith, ints, inside, room, most)),
)
  where
    sums : (p t n : ℕ) → n ≤ t → 4 * (2 + t) ≤ p → pos p +ℤ (minus (4 * (2 + t)) +ℤ pos (4 * n)) ≡ pos (p - 4 * (2 + t - n))
    sums p t n inside room = omega (arith, ints, inside, room)

module _ (program : Program) (form : Form) (page limit : ℕ) (input : List ℤ) (code : Code) where
  module _ (spot : Spot) (left f : ℕ) (calls : List ℕ) (account : ℕ) (hand : Hand) (plain : IsPlain hand) (k : List Item) (h : Stack) (m : Machine) (more : List (items.Item ℕ)) (l : List Item)
      (x : ExactAt program form page input code spot left (control (f ∷ calls) account hand l) h m) (count : end_count k ≡ end_count l) (kept : Kept program page k (f ∷ calls) spot.frames h m.words)
      (fits : RestFits program page (declare more ∷ k) (f ∷ calls)) where
    abbrev slots : List Slot
    slots = slots_here program (f ∷ calls)

    abbrev later : ℕ → Type 0
    later p = Coded program form page code (declare more ∷ k) (f ∷ calls) spot.frames p

    -- an array whose words are held is cleared
    array_by : (s n : ℕ) → slice_get slots s ≡ Some (slot.Array n) → 0 < n → IsWithin program page limit (f ∷ calls) (record { depth = length calls; slot = s; start = 0; length = n })
        → (held : Bool) → may_write_all (h.words (length calls) s) n ≡ held → StandsThen code (straight (clear_array_code (slot_offset slots s) n)) later m.counter
        → LeadsFrom program form page input code spot left (f ∷ calls) h (if held then silent (control (f ∷ calls) account idle (declare more ∷ k)) (clear_words h (length calls) s n) else stuck) m
    array_by s n is size within false held here = leads_stuck program form page input code
    array_by s n is size within true held here =
        let o = slot_offset slots s in
        let r : Reference = record { depth = length calls; slot = s; start = 0; length = n } in
        let row : IsRow program page (f ∷ calls) spot.frames r = is_row program page (f ∷ calls) spot.frames r x.frames within in
        let first = reference_address program page (f ∷ calls) spot.frames r in
        let own = slots_top program page f calls in
        let address : (i : ℕ) → i < n → first + 4 * i ≡ word_address spot.frames (length calls) (word_number (slots_at program (f ∷ calls) (length calls)) s i) =
        λ i less. row.address i less ∙ (let e : 0 + i ≡ i = omega arith in ap (λ j. word_address spot.frames (length calls) (word_number (slots_at program (f ∷ calls) (length calls)) s j)) e) in
        let inside : n ≤ row_words (slice_get (slots_at program (f ∷ calls) (length calls)) s) = let e = within.ends in omega (arith, e) in
        let deep : length calls < length (f ∷ calls) = omega arith in
        let one = load_address reg.VALUE o in
        let two = load_address reg.LEFT (o +ℤ pos (4 * n)) in
        let size1 = length-append one (two ++ clear_words_code) in
        let size2 = length-append two clear_words_code in
        let there = code_at code (clear_array_code o n) later m.counter (omega (arith, size1, size2)) here in
        let front = code_front code one (two ++ clear_words_code) there in
        let below = front.below in
        let off = slot_offset_is program page f calls spot.frames s (slot.Array n) x.frames is in
        let fits_pointer : m.registers reg.FP < 2 ^ 32 = subst (λ p. p < 2 ^ 32) (sym x.pointer_is) off.0.fits in
        let same_first : word_address spot.frames (length calls) (word_number slots s 0) ≡ first = ap (λ z. word_address spot.frames (length calls) (word_number z s 0)) (sym own) in
        let ran = load_address_runs code reg.VALUE o first m refl refl fits_pointer off.1 (ap (λ p. offset p o) x.pointer_is ∙ off.0.address ∙ same_first) (omega (arith, below)) front.there in
        let t1 = ran.0 in
        let does = ran.2 in
        let back = code_back code one (two ++ clear_words_code) does.counter there in
        let front2 = code_front code two clear_words_code back in
        let below2 = front2.below in
        let pointer = pointer_is program page f calls spot.frames x.frames in
        let room = pointer.room in
        let most = pointer.below in
        let low = place_low slots s (n - 1) (subst (λ z. IsPlace z s (n - 1)) own (let e : 0 + (n - 1) ≡ n - 1 = omega arith in subst (λ j. IsPlace (slots_at program (f ∷ calls) (length calls)) s j) e (within.places (n - 1) (omega (arith, size))))) in
        let number = place_word program page (f ∷ calls) (length calls) s 0 deep (own_place (slots_at program (f ∷ calls) (length calls)) s 0 (omega (arith, inside, size))) in
        let high : 2 + words_through slots s - 0 ≤ words_at program page (f ∷ calls) (length calls) = subst (λ z. word_number z s 0 ≤ words_at program page (f ∷ calls) (length calls)) own number.high in
        let far = end_offset (pointer_of spot.frames) (words_through slots s) n (omega (arith, low, size)) (omega (arith, room, high)) most in
        let base : word_address spot.frames (length calls) (word_number slots s 0) ≡ pointer_of spot.frames - 4 * (2 + words_through slots s - 0) = ap (λ a. a - 4 * (2 + words_through slots s - 0)) (address_top program page f calls spot.frames x.frames) in
        let last : offset (t1.registers reg.FP) (o +ℤ pos (4 * n)) ≡ first + 4 * n =
        ap (λ p. offset p (o +ℤ pos (4 * n))) (does.kept reg.FP refl ∙ x.pointer_is) ∙ far.0 ∙ omega (arith, base, same_first) in
        let ran2 = load_address_runs code reg.LEFT (o +ℤ pos (4 * n)) (first + 4 * n) t1 refl refl (subst (λ p. p < 2 ^ 32) (sym (does.kept reg.FP refl)) fits_pointer) far.1 last (omega (arith, below2)) front2.there in
        let t2 = ran2.0 in
        let does2 = ran2.2 in
        let third = code_back code two clear_words_code does2.counter back in
        let none : first ≡ first + 4 * 0 = omega arith in
        let all_words : t2.words ≡ m.words = does2.words ∙ does.words in
        let start = cleared_first program page code (f ∷ calls) spot.frames h (declare more ∷ k) (end_count l) (length calls) s n first t2.counter x.frames deep inside fits address row.aligned row.below third m.words x.slots kept x.own
        (λ j less. let old = held_word program page (f ∷ calls) spot.frames h m.words (length calls) s j x.slots deep (omega (arith, less, inside)) (held_at (h.words (length calls) s) n held j less) in
        is_own_at (m.words (first + 4 * j)) old.0 (ap m.words (address j less) ∙ old.1)) in
        let loop = clears program page code (f ∷ calls) spot.frames h (declare more ∷ k) (end_count l) (length calls) s n first t2.counter x.frames deep inside fits address row.aligned row.below third (n - 1) 0 t2
        (omega (arith, size)) refl (does2.kept reg.ZERO refl ∙ does.kept reg.ZERO refl ∙ x.zero_is) (does2.kept reg.VALUE refl ∙ does.value ∙ none) does2.value (subst (λ w. Cleared program page code (f ∷ calls) spot.frames h (declare more ∷ k) (end_count l) (length calls) s n first t2.counter x.frames deep inside fits address row.aligned row.below third 0 w) (sym all_words) start) in
        let t = loop.1 in
        let c1 = does.counter in
        let c2 = does2.counter in
        let c3 = loop.3 in
        let end : m.counter + 4 * length (clear_array_code o n) ≡ t.counter = omega (arith, size1, size2, c1, c2, c3) in
        let g = clear_words h (length calls) s n in
        leads_on program form page input code (length one + (length two + loop.0)) t
        (comes_on code (length one) (length two + loop.0) m t1 t ran.1 (comes_on code (length two) loop.0 t1 t2 t ran2.1 loop.2))
        (exact_with program form page input code x plain idle tt (declare more ∷ k) g t (same_after (same_leaves refl does) (same_after (same_leaves refl does2) loop.4)) count
        loop.5.slots (kept_stack program page (declare more ∷ k) (f ∷ calls) spot.frames h g t.words fits x.frames refl loop.5.keeps)
        (subst (λ e. HasOwn program page e (f ∷ calls) spot.frames t.words) (sym count) loop.5.own)
        (subst (LeadsTo code later) end (straight_end code (clear_array_code o n) later m.counter here)))

    declare_by : (s : ℕ) (kind : Slot) (value : Option (Expr ℕ)) → slice_get slots s ≡ Some kind → HasSize kind → StandsThen code (item_code slots s kind value) later m.counter
        → ((n : ℕ) → kind ≡ slot.Array n → IsWithin program page limit (f ∷ calls) (record { depth = length calls; slot = s; start = 0; length = n }))
        → LeadsFrom program form page input code spot left (f ∷ calls) h (declare_item (control (f ∷ calls) account hand l) h s (extent_of kind) value more k) m
    declare_by s slot.Scalar None is size here rows = by_held program form page input code (h.words (length calls) s 0) _ (λ some.
        let puts = store_slot reg.ZERO (slot_offset slots s) in
        let ran = puts_scalar program form page input code x plain (declare more ∷ k) s reg.ZERO (pos 0) m is some (same_self m.registers) refl refl x.zero_is
        (code_at code puts later m.counter (store_slot_some reg.ZERO (slot_offset slots s)) here) (straight_end code puts later m.counter here) fits kept count in
        leads_on program form page input code ran.0 ran.1 ran.2 ran.3)
    declare_by s slot.Scalar (Some e) is size here rows =
        goes_on program form page input code x plain (evaluate e ∷ assign s ∷ declare more ∷ k) kept count (parted code (expression_code slots e 0) (straight (assign_code slots s)) later m.counter here)
    declare_by s (slot.Array n) value is size here rows = array_by s n is size (rows n refl) (may_write_all (h.words (length calls) s) n) refl here
    declare_by s slot.Slice value is size here rows = leads_stuck program form page input code

  pub declare_law : (row : List (items.Item ℕ)) (spot : Spot) (left : ℕ) (calls : List ℕ) (account : ℕ) (hand : Hand) (k : List Item) (h : Stack) (m : Machine) → IsPlain hand
      → Formed program page limit (control calls account hand (declare row ∷ k)) h
      → ExactAt program form page input code spot left (control calls account hand (declare row ∷ k)) h m
      → Placed program form page input code hand (declare row ∷ k) calls spot.frames m.registers m.counter
      → LeadsFrom program form page input code spot left calls h (item_step program page input (control calls account hand (declare row ∷ k)) h (declare row) k) m
  declare_law [] spot left calls account hand k h m none formed x here =
      goes_behind program form page input code x none k x.kept refl (coded_of program form page limit input code hand (declare [] ∷ k) calls spot.frames m.registers m.counter none here)
  declare_law (y ∷ more) spot left calls account hand k h m none formed x here =
      let o = opened program page limit calls account hand (declare (y ∷ more)) k h none tt formed in
      at calls (slot_here program page limit calls account hand (declare (y ∷ more) ∷ k) h o y.name.name y.slot o.inner.0.0) formed.fits formed x
      (coded_of program form page limit input code hand (declare (y ∷ more) ∷ k) calls spot.frames m.registers m.counter none here)
    where
      at : (calls : List ℕ) → slice_get (slots_here program calls) y.name.name ≡ Some y.slot → RestFits program page (declare (y ∷ more) ∷ k) calls → Formed program page limit (control calls account hand (declare (y ∷ more) ∷ k)) h
          → ExactAt program form page input code spot left (control calls account hand (declare (y ∷ more) ∷ k)) h m
          → Coded program form page code (declare (y ∷ more) ∷ k) calls spot.frames m.counter
          → LeadsFrom program form page input code spot left calls h (item_step program page input (control calls account hand (declare (y ∷ more) ∷ k)) h (declare (y ∷ more)) k) m
      at [] e fits formed x here = cc
      at (f ∷ calls) e fits formed x here =
          let slots = slots_here program (f ∷ calls) in
          declare_by spot left f calls account hand none k h m more (declare (y ∷ more) ∷ k) x refl x.kept
          ((fits.0.0, room_less program page (f ∷ calls) (items_temporaries (y ∷ more)) (items_temporaries more) (omega arith) fits.0.1), fits.1)
          y.name.name y.slot y.first e formed.words.0.2 (parted code (item_code slots y.name.name y.slot y.first) (items_code slots more) (Coded program form page code k (f ∷ calls) spot.frames) m.counter here)
          (λ n is. row_within program page limit (f ∷ calls) account hand (declare (y ∷ more) ∷ k) h y.name.name (record { depth = length calls; slot = y.name.name; start = 0; length = n }) formed (omega arith)
          (ap (λ o. value_in (row_in program page o (f ∷ calls) h y.name.name)) (e ∙ ap (λ z. Some z) is)))
