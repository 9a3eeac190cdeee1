-- The law of a split: the place is tested, and the two parts go into their slots.
use Rattle.std.proofs.Common.{◌≡◌, ℕ, zero, suc, ◌+◌, ◌-◌, ◌*◌, ◌%◌, ◌^◌, ◌<◌, ◌≤◌, List, [], ◌∷◌, ◌++◌, length, Some, refl, sym, ap, ◌∙◌, subst, arith, inl, inr, length-append}
use Rattle.std.proofs.lemmas.Bool.{ne_eqb, lt-ltb, le-ltb, false≢true, or_parts}
use Rattle.std.proofs.lemmas.Bool.Decides.{leb_tells}
use Rattle.std.proofs.lemmas.Int.{ints}
use Rattle.std.specs.Prelude.{Bool, true, false, ◌==◌, ◌||◌, nat_lt, nat_le, if◌then◌else◌, ℤ, pos, negsuc, ◌+ℤ◌, ◌-ℤ◌, FitsSigned, slice_get}
use Rattle.std.specs.Int.{w32}
use Rattle.cm_isa.specs.declared.convention.TheConstants as reg
use Rattle.cm_isa.specs.Alu.{int, word, offset}
use Rattle.cm_isa.specs.Action.{follow}
use Rattle.cm_isa.specs.Operation.{Operation}
use Rattle.cm_isa.specs.Machine.{Machine, Mapped, Code, machine_after, machine_with, with_word, IsWritable}
use Rattle.cm_gen.specs.Returns.{GoesTo}
use Rattle.cm_isa.specs.Register.{with_register}
use Rattle.cm_syntax.specs.declared.stmt.Slot.{Slot}
use Rattle.cm_syntax.specs.declared.stmt.Slot.TheVariants as slot
use Rattle.cm_syntax.specs.declared.stmt.Stmt.{Row_of-Stmt}
use Rattle.cm_syntax.specs.declared.stmt.Program.{Program}
use Rattle.cm_syntax.specs.Operator.{natural}
use Rattle.cm_syntax.specs.Label.{silent, traps}
use Rattle.cm_syntax.specs.Trap as kind
use Rattle.cm_syntax.specs.Cell.{value_in, may_write}
use Rattle.cm_syntax.specs.Stack.{Reference, Stack, write_reference, write_parts}
use Rattle.cm_syntax.specs.Rest.{Item, apply, arguments, pass, store, sequence, part, join, end, Hand, idle, holds, returned, entering, framing, control}
use Rattle.cm_syntax.specs.Step.{top, is_split, when_writable, item_step}
use Rattle.cm_meaning.specs.Activation.{IsInner, FitsHand, end_count}
use Rattle.cm_meaning.specs.TypedState.{slots_at, HasNoStore}
use Rattle.cm_meaning.proofs.TypedFramesLaw.{IsPlain}
use Rattle.cm_gen.specs.declared.form.Form.{Form}
use Rattle.cm_gen.specs.Assembler.{add, sub, slli, bgeu}
use Rattle.cm_gen.specs.Code.{store_slot, service}
use Rattle.cm_gen.specs.Part.{Part, straight}
use Rattle.cm_gen.specs.Expression.{words_through, slot_offset, base}
use Rattle.cm_gen.specs.Statement.{store_pair, store_parts, part_code, sequence_code}
use Rattle.cm_gen.specs.FrameWord.{bits, words_in_slot, IsPlace, word_number, words_at, address_at, word_address, pointer_of, AreFrames, reference_address, slice_cell, cell_in, HasCell, Holds, row_of, Kept, HasOwn, slice_value}
use Rattle.cm_gen.specs.Formed.{RestFits, Formed}
use Rattle.cm_gen.specs.Standing.{StandsThen, Frame, slots_here, form_here, Coded}
use Rattle.cm_gen.specs.StandsFor.{Spot, Placed, ExactAt, LeadsFrom}
use Rattle.cm_gen.proofs.patterns.WordLaw as words
use Rattle.cm_gen.proofs.patterns.StepLaw.{comes_by_one, comes_on, follow_is}
use Rattle.cm_gen.proofs.frames.MappedWordLaw.{own_of, with_word_mapped}
use Rattle.cm_gen.proofs.patterns.PatternLaw.{sets_by_one, sets_by_two, store_slot_runs, store_slot_some, service_runs}
use Rattle.cm_gen.proofs.patterns.LeavesLaw.{Leaves, Sets, Puts, codes_both, runs_behind, SameRegisters, same_after, same_leaves}
use Rattle.cm_gen.proofs.patterns.StandingLaw.{parted, then_second, straight_length, IsCodeAt, code_at, code_front, code_back, before_on}
use Rattle.cm_gen.proofs.items.StateLaw.{exact_with, leads_to, leads_on, leads_stuck, by_held, by_slice, with_value}
use Rattle.cm_gen.proofs.frames.FrameWordLaw.{slots_top, IsOffset, slot_at_offset, place_at_offset, place_low, place_word, kept_lasts, kept_place, own_put}
use Rattle.cm_gen.proofs.frames.CellLaw.{place_address, holds_slice, cell_writable}
use Rattle.cm_gen.proofs.frames.DeeperLaw.{same_row}
use Rattle.cm_gen.proofs.states.FactLaw.{opened, row_within, slot_here}
use Rattle.cm_gen.proofs.patterns.BaseLaw.{IsRow, is_row, frame_place, Based, at_base, base_runs}
use Rattle.cm_syntax.proofs.CellLaw.{map_write}

-- ---- what is kept over new references

-- no element waits in the front of a rest
no_store_front : (k more : List Item) → HasNoStore (k ++ more) → HasNoStore k
no_store_front [] more h = tt
no_store_front (store a i o ∷ k) more h = absurd h
no_store_front (join ∷ k) more h = tt
no_store_front (_ ∷ k) more h = no_store_front k more h

top_less : (calls : List ℕ) → 0 < length calls → top calls < length calls
top_less [] some = absurd (omega (arith, some))
top_less (f ∷ calls) some = omega arith

-- two words are stored
abbrev StoresPair : (may : ℕ → Bool) → (a b u v bytes : ℕ) → (m t : Machine) → Type 0
StoresPair may a b u v bytes m t = Leaves may (λ t. Unit {0}) (λ w. with_word (with_word w a u) b v) bytes m t

pair_same : (may : ℕ → Bool) (a b p q u v bytes : ℕ) (m t : Machine) → p ≡ q → u ≡ v → StoresPair may a b p u bytes m t → StoresPair may a b q v bytes m t
pair_same may a b p q u v bytes m t first second does = subst (λ y. StoresPair may a b q y bytes m t) second (subst (λ y. StoresPair may a b y u bytes m t) first does)

module _ (program : Program) (page : ℕ) where
  -- only the running function's references differ, and none of its elements waits
  kept_parts : (k : List Item) (calls : List ℕ) (frames : List Frame) (h g : Stack) (w : Mapped) → IsInner k → HasNoStore k → RestFits program page k calls → AreFrames program page calls frames
      → ((d s : ℕ) → suc d < length calls → h.references d s ≡ g.references d s) → Kept program page k calls frames h w → Kept program page k calls frames g w
  kept_parts [] calls frames h g w inner none fits shape same kept = tt
  kept_parts (apply o a ∷ k) calls frames h g w inner none fits shape same kept = (kept.0, kept.1, kept_parts k calls frames h g w inner none fits.1 shape same kept.2)
  kept_parts (arguments u f ws row ∷ k) calls frames h g w inner none fits shape same kept = (kept.0, kept_parts k calls frames h g w inner none fits.1 shape same kept.1)
  kept_parts (pass u f ws row ∷ k) calls frames h g w inner none fits shape same kept = (kept.0, kept_parts k calls frames h g w inner none fits.1 shape same kept.1)
  kept_parts (store a i o ∷ k) calls frames h g w inner none fits shape same kept = absurd none
  kept_parts (end ∷ k) calls frames h g w inner none fits shape same kept = absurd inner
  kept_parts (join ∷ []) calls frames h g w inner none fits shape same kept = absurd inner
  kept_parts (join ∷ end ∷ k) [] frames h g w inner none fits shape same kept = absurd kept
  kept_parts (join ∷ end ∷ k) (f ∷ calls) [] h g w inner none fits shape same kept = absurd kept
  kept_parts (join ∷ end ∷ k) (f ∷ calls) (F ∷ frames) h g w inner none fits shape same kept = (
    kept.0,
    kept.1,
    kept_lasts program page k calls frames g h w w fits.1.1 shape.3 (λ d n a b c. refl)
        (λ a. same_row program page calls h g a (λ s some. let less = top_less calls some in same (top calls) s (omega (arith, less))))
        (λ d s less. same d s (omega (arith, less))) kept.2,
  )
  kept_parts (join ∷ _ ∷ k) calls frames h g w inner none fits shape same kept = absurd inner
  kept_parts (_ ∷ k) calls frames h g w inner none fits shape same kept = kept_parts k calls frames h g w inner none fits.1 shape same kept

  -- ---- addresses

  -- the word behind so many words of a row
  split_address : (calls : List ℕ) (frames : List Frame) (x : Reference) (count : ℕ) → AreFrames program page calls frames → IsRow program page calls frames x → count ≤ x.length
      → reference_address program page calls frames (record { depth = x.depth; slot = x.slot; start = x.start + count; length = x.length - count }) ≡ reference_address program page calls frames x + 4 * count
  split_address calls frames x zero shape row most =
      let none : x.start + 0 ≡ x.start = omega arith in
      ap (λ i. word_address frames x.depth (word_number (slots_at program calls x.depth) x.slot i)) none ∙ omega arith
  split_address calls frames x (suc c) shape row most =
      let slots = slots_at program calls x.depth in
      let last = place_low slots x.slot (x.start + c) (row.places c (omega (arith, most))) in
      let first : IsPlace slots x.slot x.start = let none : x.start + 0 ≡ x.start = omega arith in subst (IsPlace slots x.slot) none (row.places 0 (omega (arith, most))) in
      let number = place_word program page calls x.depth x.slot x.start row.live first in
      let high = number.high in
      let place = frame_place program page calls frames x.depth shape row.live in
      let room = place.room in
      sums (address_at frames x.depth) (words_through slots x.slot) x.start c (words_at program page calls x.depth) last high room
    where
      sums : (a t s c w : ℕ) → s + c < t → 2 + t - s ≤ w → 4 * w ≤ a → a - 4 * (2 + t - (s + suc c)) ≡ a - 4 * (2 + t - s) + 4 * suc c
      sums a t s c w inside high room = omega (arith, inside, high, room)

  -- the two words of a slice whose reference is held are mapped
  pair_mapped : (calls : List ℕ) (frames : List Frame) (h : Stack) (w : Mapped) (d s : ℕ) → Holds program page calls frames h w → d < length calls → slice_get (slots_at program calls d) s ≡ Some slot.Slice
      → (may_write (h.references d s) ≡ true) → (i : ℕ) → i < 2 → IsWritable (w (place_address program page calls frames d s i))
  pair_mapped calls frames h w d s slots deep is some i less =
      cell_writable program page (slice_cell program page calls frames (h.references d s) i) (w (place_address program page calls frames d s i)) (map_write (λ r. slice_value program page calls frames r i) (h.references d s) ∙ some)
      (subst (λ o. HasCell program page (cell_in program page o calls frames h d s i) (w (place_address program page calls frames d s i))) is (slots d s i deep (subst (λ o. i < words_in_slot o) (sym is) less)))

  module _ (code : Code) where
    -- two registers go into the words of a slice of the running function
    puts_pair : (f : ℕ) (calls : List ℕ) (frames : List Frame) (s a b : ℕ) (m : Machine) → AreFrames program page (f ∷ calls) frames → slice_get (slots_here program (f ∷ calls)) s ≡ Some slot.Slice
        → m.registers reg.FP ≡ pointer_of frames → (a == reg.HELP) ≡ false → (b == reg.HELP) ≡ false
        → ((i : ℕ) → i < 2 → IsWritable (m.words (place_address program page (f ∷ calls) frames (length calls) s i)))
        → IsCodeAt code m.counter (store_pair a b (slot_offset (slots_here program (f ∷ calls)) s))
        → let pair = store_pair a b (slot_offset (slots_here program (f ∷ calls)) s) in
        (t : Machine) × GoesTo code (length pair) m t
        × StoresPair (λ q. q == reg.HELP) (place_address program page (f ∷ calls) frames (length calls) s 0) (place_address program page (f ∷ calls) frames (length calls) s 1) (m.registers a) (m.registers b) (4 * length pair) m t
    puts_pair f calls frames s a b m shape is pointer plain_a plain_b mapped there =
        let slots = slots_here program (f ∷ calls) in
        let o = slot_offset slots s in
        let one = store_slot a o in
        let two = store_slot b (o +ℤ pos 4) in
        let own = slots_top program page f calls in
        let place : (i : ℕ) → i < 2 → IsPlace slots s i = λ i less. subst (λ k. i < words_in_slot k) (sym is) less in
        let to : ℕ → ℕ = λ i. place_address program page (f ∷ calls) frames (length calls) s i in
        let address : (i : ℕ) → word_address frames (length calls) (word_number slots s i) ≡ to i = λ i. ap (λ z. word_address frames (length calls) (word_number z s i)) (sym own) in
        let low = subst (IsOffset program page (pointer_of frames) o) (address 0) (slot_at_offset program page f calls frames s shape (place 0 (omega arith))) in
        let up = subst (IsOffset program page (pointer_of frames) (o +ℤ pos 4)) (address 1) (place_at_offset program page f calls frames s 1 shape (place 1 (omega arith))) in
        let some1 = store_slot_some a o in
        let some2 = store_slot_some b (o +ℤ pos 4) in
        let front = code_front code one two there in
        let below = front.below in
        let old = own_of (m.words (to 0)) (mapped 0 (omega arith)) in
        let first = store_slot_runs code a o (to 0) old.0 m plain_a (subst (λ p. p < 2 ^ 32) (sym pointer) low.fits) (ap (λ p. offset p o) pointer ∙ low.address) low.aligned old.1 (omega (arith, below, some1)) front.there in
        let n = first.0 in
        let does = first.2 in
        let back = code_back code one two does.counter there in
        let later = back.below in
        let same : n.registers reg.FP ≡ pointer_of frames = does.kept reg.FP refl ∙ pointer in
        let old1 = own_of (n.words (to 1)) (subst (λ (w : Mapped). IsWritable (w (to 1))) (sym does.words) (with_word_mapped m.words (to 0) (m.registers a) (to 1) (mapped 1 (omega arith)))) in
        let second = store_slot_runs code b (o +ℤ pos 4) (to 1) old1.0 n plain_b (subst (λ p. p < 2 ^ 32) (sym same) up.fits) (ap (λ p. offset p (o +ℤ pos 4)) same ∙ up.address) up.aligned old1.1 (omega (arith, later, some2)) back.there in
        codes_both code one two m n second.0 first.1 does second.1 (subst (λ v. Puts (to 1) v (4 * length two) n second.0) (does.kept b plain_b) second.2) (λ q other. (other, other)) tt

-- ---- the test

-- a place where so many words may be split is its own word
split_is : (v : ℤ) (n : ℕ) → FitsSigned w32 v → is_split v n ≡ true → (bits v ≡ natural v) × (natural v ≤ n)
split_is (pos k) n fits h = (omega (arith, ints, fits), below (k) n h)
  where
    below : (k n : ℕ) → nat_le k n ≡ true → k ≤ n
    below k n h = elim (leb_tells k n) [
      | inl within ↦ within.1
      | inr other ↦ absurd (false≢true (sym other.0 ∙ h))
    ]
split_is (negsuc k) n fits h = absurd (false≢true h)

-- another one is behind them, as a word
split_not : (v : ℤ) (n : ℕ) → FitsSigned w32 v → n < 2 ^ 31 → is_split v n ≡ false → n < bits v
split_not (pos k) n fits small h = let e : bits (pos k) ≡ k = omega (arith, ints, fits) in let l : n < k = above k n h in omega (arith, e, l)
  where
    above : (k n : ℕ) → nat_le k n ≡ false → n < k
    above k n h = elim (leb_tells k n) [
      | inl within ↦ absurd (false≢true (sym h ∙ within.0))
      | inr other ↦ other.1
    ]
split_not (negsuc k) n fits small h = omega (arith, ints, fits, small)

-- the branch over the service
split_taken : (m : Machine) → m.registers reg.VALUE ≤ m.registers reg.HELP → m.counter % 4 ≡ 0 → m.counter + 12 < 2 ^ 32
    → machine_after (bgeu reg.HELP reg.VALUE (pos 12)) m ≡ Some (machine_with m m.registers (m.counter + 12))
split_taken m most aligned room =
    let least : nat_lt (m.registers reg.HELP) (m.registers reg.VALUE) ≡ false = le-ltb (m.registers reg.HELP) (m.registers reg.VALUE) most in
    let up = words.offset_up m.counter 12 room in
    let four : (m.counter + 12) % 4 ≡ 0 = omega (arith, aligned) in
    rw (least, up, four) refl

split_passed : (m : Machine) → m.registers reg.HELP < m.registers reg.VALUE → m.counter + 4 < 2 ^ 32
    → machine_after (bgeu reg.HELP reg.VALUE (pos 12)) m ≡ Some (machine_with m m.registers (m.counter + 4))
split_passed m more room =
    let less : nat_lt (m.registers reg.HELP) (m.registers reg.VALUE) ≡ true = lt-ltb (m.registers reg.HELP) (m.registers reg.VALUE) more in
    let next = follow_is m.counter room in
    rw (less, next) refl

-- ---- the instructions between the stores

module _ (code : Code) where
  -- the test lets a place in the slice through, and SPARE takes the number of words behind it
  takes_rest : (c n : ℕ) (more : List Operation) (m : Machine) → m.registers reg.VALUE ≡ c → m.registers reg.HELP ≡ n → c ≤ n → n < 2 ^ 28
      → IsCodeAt code m.counter (bgeu reg.HELP reg.VALUE (pos 12) ∷ (service (pos 8) ++ sub reg.SPARE reg.HELP reg.VALUE ∷ more))
      → (t : Machine) × GoesTo code 2 m t × Sets reg.SPARE (n - c) 16 m t
  takes_rest c n more m value count few small there =
      let room = there.below in
      let u : Machine = machine_with m m.registers (m.counter + 12) in
      let test = comes_by_one code (bgeu reg.HELP reg.VALUE (pos 12)) refl m u there.there.0 (split_taken m (omega (arith, value, count, few)) there.aligned (omega (arith, room))) in
      let later : IsCodeAt code u.counter (sub reg.SPARE reg.HELP reg.VALUE ∷ more) =
      code_back code (bgeu reg.HELP reg.VALUE (pos 12) ∷ service (pos 8)) (sub reg.SPARE reg.HELP reg.VALUE ∷ more) (omega arith) there in
      let room2 = later.below in
      let rest : word (int (m.registers reg.HELP) -ℤ int (m.registers reg.VALUE)) ≡ n - c =
      rw (count, value) (words.word-sub n c (omega (arith, small)) (omega (arith, small, few)) ∙ omega (arith, small, few)) in
      let ran = sets_by_one code (sub reg.SPARE reg.HELP reg.VALUE) refl reg.SPARE (n - c) u refl (omega (arith, room2)) later.there.0 (ap (λ z. Some (machine_with u (with_register u.registers reg.SPARE z) (follow u.counter))) rest) in
      runs_behind code 12 1 m ran.0 test ran.1 ran.2 refl

  -- VALUE takes the address of the word behind so many words
  moves_on : (a c : ℕ) (more : List Operation) (m : Machine) → m.registers reg.VALUE ≡ c → m.registers reg.LEFT ≡ a → a + 4 * c ≤ 2 ^ 30
      → IsCodeAt code m.counter (slli reg.VALUE reg.VALUE (pos 2) ∷ add reg.VALUE reg.LEFT reg.VALUE ∷ more)
      → (t : Machine) × GoesTo code 2 m t × Sets reg.VALUE (a + 4 * c) 8 m t
  moves_on a c more m value left below there =
      let room = there.below in
      let shifted : m.registers reg.VALUE * 2 ^ 2 % 2 ^ 32 ≡ 4 * c = omega (arith, value, below) in
      let summed : word (int a +ℤ int (4 * c)) ≡ a + 4 * c = words.word-add a (4 * c) (omega (arith, below)) (omega (arith, below)) ∙ omega (arith, below) in
      sets_by_two code (slli reg.VALUE reg.VALUE (pos 2)) (add reg.VALUE reg.LEFT reg.VALUE) refl refl reg.VALUE (4 * c) (a + 4 * c) m refl (omega (arith, room)) there.there.0 there.there.1.0
      (ap (λ z. Some (machine_with m (with_register m.registers reg.VALUE z) (follow m.counter))) shifted)
      (λ t g. ap (λ z. Some (machine_with t (with_register t.registers reg.VALUE z) (follow t.counter)))
      (ap (λ z. word (int (t.registers reg.LEFT) +ℤ int z)) g.value ∙ ap (λ z. word (int z +ℤ int (4 * c))) (g.kept reg.LEFT refl ∙ left) ∙ summed))

-- the registers that the stores of two parts may change
abbrev may_part : ℕ → Bool
may_part q = (q == reg.VALUE) || (q == reg.HELP)

module _ (program : Program) (page : ℕ) (code : Code) (f : ℕ) (calls : List ℕ) (frames : List Frame) (shape : AreFrames program page (f ∷ calls) frames) (l r : ℕ)
    (is_l : slice_get (slots_here program (f ∷ calls)) l ≡ Some slot.Slice) (is_r : slice_get (slots_here program (f ∷ calls)) r ≡ Some slot.Slice) where
  abbrev at : (s i : ℕ) → ℕ
  at s i = place_address program page (f ∷ calls) frames (length calls) s i

  abbrev right_code : List Operation
  right_code = slli reg.VALUE reg.VALUE (pos 2) ∷ add reg.VALUE reg.LEFT reg.VALUE ∷ store_pair reg.VALUE reg.SPARE (slot_offset (slots_here program (f ∷ calls)) r)

  right_behind : (a c e : ℕ) (m s : Machine) → m.registers reg.FP ≡ pointer_of frames → m.registers reg.SPARE ≡ e → ((i : ℕ) → i < 2 → IsWritable (m.words (at r i)))
      → IsCodeAt code m.counter right_code → GoesTo code 2 m s → Sets reg.VALUE (a + 4 * c) 8 m s
      → (t : Machine) × GoesTo code (length right_code) m t × StoresPair may_part (at r 0) (at r 1) (a + 4 * c) e (4 * length right_code) m t
  right_behind a c e m s pointer spare mapped there first does =
      let pair = store_pair reg.VALUE reg.SPARE (slot_offset (slots_here program (f ∷ calls)) r) in
      let moves : List Operation = slli reg.VALUE reg.VALUE (pos 2) ∷ add reg.VALUE reg.LEFT reg.VALUE ∷ [] in
      let second = puts_pair program page code f calls frames r reg.VALUE reg.SPARE s shape is_r (does.kept reg.FP refl ∙ pointer) refl refl
      (λ i less. subst (λ (w : Mapped). IsWritable (w (at r i))) (sym does.words) (mapped i less)) (code_back code moves pair does.counter there) in
      codes_both code moves pair m s second.0 first does second.1
      (pair_same (λ q. q == reg.HELP) (at r 0) (at r 1) (s.registers reg.VALUE) (a + 4 * c) (s.registers reg.SPARE) e (4 * length pair) s second.0 does.value (does.kept reg.SPARE refl ∙ spare) second.2) (λ q. or_parts _ _) tt

  right_stored : (a c e : ℕ) (m : Machine) → m.registers reg.FP ≡ pointer_of frames → m.registers reg.VALUE ≡ c → m.registers reg.LEFT ≡ a → m.registers reg.SPARE ≡ e → a + 4 * c ≤ 2 ^ 30
      → ((i : ℕ) → i < 2 → IsWritable (m.words (at r i))) → IsCodeAt code m.counter right_code
      → (t : Machine) × GoesTo code (length right_code) m t × StoresPair may_part (at r 0) (at r 1) (a + 4 * c) e (4 * length right_code) m t
  right_stored a c e m pointer value left spare below mapped there =
      let pair = store_pair reg.VALUE reg.SPARE (slot_offset (slots_here program (f ∷ calls)) r) in
      let ran = moves_on code a c pair m value left below there in
      right_behind a c e m ran.0 pointer spare mapped there ran.1 ran.2

  -- both parts
  abbrev pub StoresParts : (a c e bytes : ℕ) → (m t : Machine) → Type 0
  StoresParts a c e bytes m t = Leaves may_part (λ t. Unit {0}) (λ w. with_word (with_word (with_word (with_word w (at l 0) a) (at l 1) c) (at r 0) (a + 4 * c)) (at r 1) e) bytes m t

  both_stored : (a c e : ℕ) (m s : Machine) → m.registers reg.FP ≡ pointer_of frames → m.registers reg.VALUE ≡ c → m.registers reg.LEFT ≡ a → m.registers reg.SPARE ≡ e → a + 4 * c ≤ 2 ^ 30
      → ((i : ℕ) → i < 2 → IsWritable (m.words (at r i))) → IsCodeAt code m.counter (store_parts (slots_here program (f ∷ calls)) l r)
      → let pair = store_pair reg.LEFT reg.VALUE (slot_offset (slots_here program (f ∷ calls)) l) in
      GoesTo code (length pair) m s → StoresPair (λ q. q == reg.HELP) (at l 0) (at l 1) a c (4 * length pair) m s
      → (t : Machine) × GoesTo code (length (store_parts (slots_here program (f ∷ calls)) l r)) m t × StoresParts a c e (4 * length (store_parts (slots_here program (f ∷ calls)) l r)) m t
  both_stored a c e m s pointer value left spare below mapped there first does =
      let pair = store_pair reg.LEFT reg.VALUE (slot_offset (slots_here program (f ∷ calls)) l) in
      let still : (i : ℕ) → i < 2 → IsWritable (s.words (at r i)) = λ i less. subst (λ (w : Mapped). IsWritable (w (at r i))) (sym does.words)
      (with_word_mapped (with_word m.words (at l 0) a) (at l 1) c (at r i) (with_word_mapped m.words (at l 0) a (at r i) (mapped i less))) in
      let second = right_stored a c e s (does.kept reg.FP refl ∙ pointer) (does.kept reg.VALUE refl ∙ value) (does.kept reg.LEFT refl ∙ left) (does.kept reg.SPARE refl ∙ spare) below still (code_back code pair right_code does.counter there) in
      codes_both code pair right_code m s second.0 first does second.1 second.2 (λ q other. ((or_parts _ _ other).1, other)) tt

  parts_stored : (a c e : ℕ) (m : Machine) → m.registers reg.FP ≡ pointer_of frames → m.registers reg.VALUE ≡ c → m.registers reg.LEFT ≡ a → m.registers reg.SPARE ≡ e → a + 4 * c ≤ 2 ^ 30
      → ((i : ℕ) → i < 2 → IsWritable (m.words (at l i))) → ((i : ℕ) → i < 2 → IsWritable (m.words (at r i))) → IsCodeAt code m.counter (store_parts (slots_here program (f ∷ calls)) l r)
      → (t : Machine) × GoesTo code (length (store_parts (slots_here program (f ∷ calls)) l r)) m t × StoresParts a c e (4 * length (store_parts (slots_here program (f ∷ calls)) l r)) m t
  parts_stored a c e m pointer value left spare below mapped_l mapped_r there =
      let pair = store_pair reg.LEFT reg.VALUE (slot_offset (slots_here program (f ∷ calls)) l) in
      let first = puts_pair program page code f calls frames l reg.LEFT reg.VALUE m shape is_l pointer refl refl mapped_l (code_front code pair right_code there) in
      both_stored a c e m first.0 pointer value left spare below mapped_r there first.1
      (pair_same (λ q. q == reg.HELP) (at l 0) (at l 1) (m.registers reg.LEFT) a (m.registers reg.VALUE) c (4 * length pair) m first.0 left value first.2)

module _ (program : Program) (form : Form) (page limit : ℕ) (input : List ℤ) (code : Code) where
  module _ (spot : Spot) (left f : ℕ) (calls : List ℕ) (account : ℕ) (v : ℤ) (k : List Item) (h : Stack) (m : Machine) (a l r : ℕ) {n : _} (row : Row_of-Stmt ℕ n) (x : Reference)
      (is_l : slice_get (slots_here program (f ∷ calls)) l ≡ Some slot.Slice) (is_r : slice_get (slots_here program (f ∷ calls)) r ≡ Some slot.Slice)
      (whole : value_in (row_of program page (f ∷ calls) h a) ≡ Some x) (is : IsRow program page (f ∷ calls) spot.frames x)
      (inner : IsInner k) (none : HasNoStore k) (fits : RestFits program page (sequence row ∷ k) (f ∷ calls))
      (y : ExactAt program form page input code spot left (control (f ∷ calls) account (holds v) (part a l r row ∷ k)) h m)
      (here : Placed program form page input code (holds v) (part a l r row ∷ k) (f ∷ calls) spot.frames m.registers m.counter) where
    abbrev slots : List Slot
    slots = slots_here program (f ∷ calls)

    abbrev next : ℕ → Type 0
    next p = Coded program form page code k (f ∷ calls) spot.frames p

    abbrev parts : List Operation
    parts = part_code slots a l r

    abbrev behind_code : List Part
    behind_code = sequence_code (form_here program form (f ∷ calls)) slots here.2.0 row

    abbrev tail : List Operation
    tail = bgeu reg.HELP reg.VALUE (pos 12) ∷ (service (pos 8) ++ sub reg.SPARE reg.HELP reg.VALUE ∷ store_parts slots l r)

    tail_there : IsCodeAt code m.counter (base slots a ++ tail)
    tail_there =
        let size = length-append (base slots a) tail in
        code_at code parts (StandsThen code behind_code next) m.counter (omega (arith, size)) (parted code (straight parts) behind_code next m.counter here.2.2)

    -- where the slice can't be split there
    part_traps : is_split v x.length ≡ false → LeadsFrom program form page input code spot left (f ∷ calls) h (traps kind.Index) m
    part_traps other =
        let first = base_runs program page code (f ∷ calls) spot.frames h a x m (at_base program form page input code spot left _ h m y) whole (code_front code (base slots a) tail tail_there) in
        let s = first.0 in
        let does = first.2 in
        let there = code_back code (base slots a) tail does.counter tail_there in
        let room = there.below in
        let small = is.small in
        let value = does.kept reg.VALUE refl ∙ here.0 in
        let count = does.value.1 in
        let more = split_not v x.length here.1 (omega (arith, small)) other in
        let u : Machine = machine_with s s.registers (s.counter + 4) in
        let test = comes_by_one code (bgeu reg.HELP reg.VALUE (pos 12)) refl s u there.there.0 (split_passed s (omega (arith, value, count, more)) (omega (arith, room))) in
        let later : IsCodeAt code u.counter (service (pos 8) ++ sub reg.SPARE reg.HELP reg.VALUE ∷ store_parts slots l r) =
        code_back code (bgeu reg.HELP reg.VALUE (pos 12) ∷ []) (service (pos 8) ++ sub reg.SPARE reg.HELP reg.VALUE ∷ store_parts slots l r) (omega arith) there in
        let at = code_front code (service (pos 8)) (sub reg.SPARE reg.HELP reg.VALUE ∷ store_parts slots l r) later in
        let ran = service_runs code 8 u (omega arith) (does.kept reg.ZERO refl ∙ y.zero_is) at in
        leads_to program form page input code (length (base slots a) + 2) ran.0 (comes_on code (length (base slots a)) 2 m s ran.0 first.1 (comes_on code 1 1 s u ran.0 test ran.1))
        (record { there = ran.3; number_is = ran.2.value }, ran.2.kept reg.TICKS refl ∙ does.kept reg.TICKS refl ∙ y.left_is)

    -- the words of the two parts
    abbrev first_part : Reference
    first_part = record { depth = x.depth; slot = x.slot; start = x.start; length = natural v }

    abbrev second_part : Reference
    second_part = record { depth = x.depth; slot = x.slot; start = x.start + natural v; length = x.length - natural v }

    abbrev address_of : Reference → ℕ
    address_of z = reference_address program page (f ∷ calls) spot.frames z

    abbrev place_of : (s i : ℕ) → ℕ
    place_of s i = place_address program page (f ∷ calls) spot.frames (length calls) s i

    abbrev one_word : Mapped
    one_word = with_word m.words (place_of l 0) (address_of first_part)

    abbrev two_words : Mapped
    two_words = with_word one_word (place_of l 1) (natural v)

    abbrev three_words : Mapped
    three_words = with_word two_words (place_of r 0) (address_of second_part)

    abbrev new_words : Mapped
    new_words = with_word three_words (place_of r 1) (x.length - natural v)

    top_slice : (s : ℕ) → slice_get (slots_here program (f ∷ calls)) s ≡ Some slot.Slice → slice_get (slots_at program (f ∷ calls) (length calls)) s ≡ Some slot.Slice
    top_slice s e = subst (λ z. slice_get z s ≡ Some slot.Slice) (sym (slots_top program page f calls)) e

    top_place : (s i : ℕ) → slice_get (slots_here program (f ∷ calls)) s ≡ Some slot.Slice → i < 2 → IsPlace (slots_at program (f ∷ calls) (length calls)) s i
    top_place s i e less = subst (λ o. i < words_in_slot o) (sym (top_slice s e)) less

    new_slots : Holds program page (f ∷ calls) spot.frames (write_parts h (length calls) l r x (natural v)) new_words
    new_slots =
        holds_slice program page (f ∷ calls) spot.frames (write_reference h (length calls) l first_part) two_words (length calls) r second_part
        y.frames (omega arith) (top_slice r is_r) (holds_slice program page (f ∷ calls) spot.frames h m.words (length calls) l first_part y.frames (omega arith) (top_slice l is_l) y.slots)

    keeps_one : (w : Mapped) (s i z : ℕ) → slice_get (slots_here program (f ∷ calls)) s ≡ Some slot.Slice → i < 2 → Kept program page k (f ∷ calls) spot.frames h w → Kept program page k (f ∷ calls) spot.frames h (with_word w (place_of s i) z)
    keeps_one w s i z e less kept = kept_place program page (sequence row ∷ k) (f ∷ calls) spot.frames h w (length calls) s i z fits y.frames (omega arith) (top_place s i e less) kept

    new_kept : Kept program page k (f ∷ calls) spot.frames (write_parts h (length calls) l r x (natural v)) new_words
    new_kept =
        kept_parts program page k (f ∷ calls) spot.frames h (write_parts h (length calls) l r x (natural v)) new_words inner none fits.1 y.frames same_below
        (keeps_one three_words r 1 (x.length - natural v) is_r (omega arith) (keeps_one two_words r 0 (address_of second_part) is_r (omega arith)
        (keeps_one one_word l 1 (natural v) is_l (omega arith) (keeps_one m.words l 0 (address_of first_part) is_l (omega arith) y.kept))))
      where
        same_below : (e s : ℕ) → suc e < length (f ∷ calls) → h.references e s ≡ (write_parts h (length calls) l r x (natural v)).references e s
        same_below e s less = let other : (e == length calls) ≡ false = ne_eqb e (length calls) (λ z. omega (arith, z, less)) in rw other refl

    new_own : HasOwn program page (end_count k) (f ∷ calls) spot.frames new_words
    new_own =
        owns_one three_words (place_of r 1) (x.length - natural v) (owns_one two_words (place_of r 0) (address_of second_part)
        (owns_one one_word (place_of l 1) (natural v) (owns_one m.words (place_of l 0) (address_of first_part) y.own)))
      where
        owns_one : (w : Mapped) (b z : ℕ) → HasOwn program page (end_count k) (f ∷ calls) spot.frames w → HasOwn program page (end_count k) (f ∷ calls) spot.frames (with_word w b z)
        owns_one w b z own = own_put program page (end_count k) (f ∷ calls) spot.frames w b z own

    -- the machine behind all this stands for the next state
    part_stands : (t : Machine) → SameRegisters m.registers t.registers → t.words ≡ new_words → t.counter ≡ m.counter + 4 * length parts
        → ExactAt program form page input code spot left (control (f ∷ calls) account idle (sequence row ∷ k)) (write_parts h (length calls) l r x (natural v)) t
    part_stands t same words counter =
        let sized = straight_length code parts in
        let whole_size = length-append (straight parts) behind_code in
        let q = m.counter + 4 * length (straight parts) in
        let ends_at : q ≡ t.counter = omega (arith, sized, counter) in
        let coded : Coded program form page code (sequence row ∷ k) (f ∷ calls) spot.frames q = (
          here.2.0,
          before_on spot.frames m.counter q (length (straight parts ++ behind_code) + here.2.0) (length behind_code + here.2.0) (omega (arith, whole_size)) here.2.1,
          then_second code (straight parts) behind_code next m.counter here.2.2,
        ) in
        exact_with program form page input code y tt idle tt (sequence row ∷ k) (write_parts h (length calls) l r x (natural v)) t same refl
        (subst (λ w. Holds program page (f ∷ calls) spot.frames (write_parts h (length calls) l r x (natural v)) w) (sym words) new_slots)
        (subst (λ w. Kept program page k (f ∷ calls) spot.frames (write_parts h (length calls) l r x (natural v)) w) (sym words) new_kept)
        (subst (λ w. HasOwn program page (end_count k) (f ∷ calls) spot.frames w) (sym words) new_own)
        (0, subst (Coded program form page code (sequence row ∷ k) (f ∷ calls) spot.frames) ends_at coded)

    abbrev goes : Type 0
    goes = LeadsFrom program form page input code spot left (f ∷ calls) h (silent (control (f ∷ calls) account idle (sequence row ∷ k)) (write_parts h (length calls) l r x (natural v))) m

    -- where it can, the two parts go into their slots: the stores, behind the test, behind the whole
    part_stored : natural v ≤ x.length → (s u t : Machine) → GoesTo code (length (base slots a)) m s → Based program page (f ∷ calls) spot.frames x (4 * length (base slots a)) m s
        → GoesTo code 2 s u → Sets reg.SPARE (x.length - natural v) 16 s u → GoesTo code (length (store_parts slots l r)) u t
        → StoresParts program page code f calls spot.frames y.frames l r is_l is_r (address_of first_part) (natural v) (x.length - natural v) (4 * length (store_parts slots l r)) u t
        → goes
    part_stored few s u t first does second does2 third does3 =
        let size = length-append (base slots a) tail in
        let c0 = does.counter in
        let c1 = does2.counter in
        let c2 = does3.counter in
        leads_on program form page input code (length (base slots a) + (2 + length (store_parts slots l r))) t
        (comes_on code (length (base slots a)) (2 + length (store_parts slots l r)) m s t first (comes_on code 2 (length (store_parts slots l r)) s u t second third))
        (part_stands t (same_after (same_leaves refl does) (same_after (same_leaves refl does2) (same_leaves refl does3)))
        (does3.words ∙ ap (λ w. with_word (with_word (with_word (with_word w (place_of l 0) (address_of first_part)) (place_of l 1) (natural v)) (place_of r 0) (address_of first_part + 4 * natural v)) (place_of r 1) (x.length - natural v)) (does2.words ∙ does.words)
        ∙ ap (λ z. with_word (with_word (with_word (with_word m.words (place_of l 0) (address_of first_part)) (place_of l 1) (natural v)) (place_of r 0) z) (place_of r 1) (x.length - natural v))
        (sym (split_address program page (f ∷ calls) spot.frames x (natural v) y.frames is few)))
        (omega (arith, c0, c1, c2, size)))

    part_tested : natural v ≤ x.length → bits v ≡ natural v → (may_write (h.references (length calls) l) ≡ true) → (may_write (h.references (length calls) r) ≡ true) → (s u : Machine)
        → GoesTo code (length (base slots a)) m s → Based program page (f ∷ calls) spot.frames x (4 * length (base slots a)) m s
        → GoesTo code 2 s u → Sets reg.SPARE (x.length - natural v) 16 s u → IsCodeAt code s.counter tail → goes
    part_tested few own some_l some_r s u first does second does2 there =
        let below = is.below in
        let c1 = does2.counter in
        let words_u : u.words ≡ m.words = does2.words ∙ does.words in
        let mapped : (z : ℕ) → slice_get slots z ≡ Some slot.Slice → (may_write (h.references (length calls) z) ≡ true) → (i : ℕ) → i < 2 → IsWritable (u.words (place_of z i)) =
        λ z e some i less. subst (λ (w : Mapped). IsWritable (w (place_of z i))) (sym words_u)
        (pair_mapped program page (f ∷ calls) spot.frames h m.words (length calls) z y.slots (omega arith) (top_slice z e) some i less) in
        let later : IsCodeAt code u.counter (store_parts slots l r) =
        code_back code (bgeu reg.HELP reg.VALUE (pos 12) ∷ (service (pos 8) ++ sub reg.SPARE reg.HELP reg.VALUE ∷ [])) (store_parts slots l r) (omega (arith, c1)) there in
        let third = parts_stored program page code f calls spot.frames y.frames l r is_l is_r (address_of first_part) (natural v) (x.length - natural v) u
        (does2.kept reg.FP refl ∙ does.kept reg.FP refl ∙ y.pointer_is) (does2.kept reg.VALUE refl ∙ does.kept reg.VALUE refl ∙ here.0 ∙ own) (does2.kept reg.LEFT refl ∙ does.value.0) does2.value
        (omega (arith, below, few)) (mapped l is_l some_l) (mapped r is_r some_r) later in
        part_stored few s u third.0 first does second does2 third.1 third.2

    part_based : natural v ≤ x.length → bits v ≡ natural v → (may_write (h.references (length calls) l) ≡ true) → (may_write (h.references (length calls) r) ≡ true) → (s : Machine)
        → GoesTo code (length (base slots a)) m s → Based program page (f ∷ calls) spot.frames x (4 * length (base slots a)) m s → IsCodeAt code s.counter tail → goes
    part_based few own some_l some_r s first does there =
        let ran = takes_rest code (natural v) x.length (store_parts slots l r) s (does.kept reg.VALUE refl ∙ here.0 ∙ own) does.value.1 few is.small there in
        part_tested few own some_l some_r s ran.0 first does ran.1 ran.2 there

    part_goes : is_split v x.length ≡ true → (may_write (h.references (length calls) l) ≡ true) → (may_write (h.references (length calls) r) ≡ true) → goes
    part_goes can some_l some_r =
        let split = split_is v x.length here.1 can in
        let first = base_runs program page code (f ∷ calls) spot.frames h a x m (at_base program form page input code spot left _ h m y) whole (code_front code (base slots a) tail tail_there) in
        part_based split.1 split.0 some_l some_r first.0 first.1 first.2 (code_back code (base slots a) tail first.2.counter tail_there)

  inner_rest : (hand : Hand) (a l r : ℕ) {n : _} (row : Row_of-Stmt ℕ n) (k : List Item) → IsPlain hand → FitsHand hand (part a l r row ∷ k) → IsInner k
  inner_rest idle a l r row k none fits = fits
  inner_rest (holds v) a l r row k none fits = fits
  inner_rest (returned v) a l r row k none fits = fits
  inner_rest (entering g ws) a l r row k none fits = absurd none
  inner_rest (framing g ws) a l r row k none fits = absurd none

  pub part_law : (a l r : ℕ) {n : _} (row : Row_of-Stmt ℕ n) (spot : Spot) (left : ℕ) (calls : List ℕ) (account : ℕ) (hand : Hand) (k : List Item) (h : Stack) (m : Machine) → IsPlain hand
      → Formed program page limit (control calls account hand (part a l r row ∷ k)) h
      → ExactAt program form page input code spot left (control calls account hand (part a l r row ∷ k)) h m
      → Placed program form page input code hand (part a l r row ∷ k) calls spot.frames m.registers m.counter
      → LeadsFrom program form page input code spot left calls h (item_step program page input (control calls account hand (part a l r row ∷ k)) h (part a l r row) k) m
  part_law a l r row spot left [] account hand k h m none formed x here = with_value program form page input code hand _ x here (λ v x here. leads_stuck program form page input code)
  part_law a l r row spot left (f ∷ calls) account hand k h m none formed x here =
      let o = opened program page limit (f ∷ calls) account hand (part a l r row) k h none tt formed in
      let is_l = slot_here program page limit (f ∷ calls) account hand (part a l r row ∷ k) h o l slot.Slice o.inner.2 in
      let is_r = slot_here program page limit (f ∷ calls) account hand (part a l r row ∷ k) h o r slot.Slice o.inner.3 in
      let no_store = no_store_front k o.more o.inner.5 in
      let inner = inner_rest hand a l r row k none formed.settled.shape in
      with_value program form page input code hand _ x here (λ v x here.
      by_slice program form page input code (f ∷ calls) h a _ (λ y whole.
      let is = is_row program page (f ∷ calls) spot.frames y x.frames (row_within program page limit (f ∷ calls) account hand (part a l r row ∷ k) h a y formed (omega arith) whole) in
      by_split v y (is_split v y.length) refl
      (part_traps spot left f calls account v k h m a l r row y is_l is_r whole is inner no_store formed.fits x here)
      (λ can. by_held program form page input code (h.references (length calls) l) _ (λ some_l. by_held program form page input code (h.references (length calls) r) _ (λ some_r.
      part_goes spot left f calls account v k h m a l r row y is_l is_r whole is inner no_store formed.fits x here can some_l some_r)))))
    where
      by_split : (v : ℤ) (y : Reference) (can : Bool) → is_split v y.length ≡ can
          → (is_split v y.length ≡ false → LeadsFrom program form page input code spot left (f ∷ calls) h (traps kind.Index) m)
          → (is_split v y.length ≡ true → LeadsFrom program form page input code spot left (f ∷ calls) h (when_writable (h.references (length calls) l) (when_writable (h.references (length calls) r)
          (silent (control (f ∷ calls) account idle (sequence row ∷ k)) (write_parts h (length calls) l r y (natural v))))) m)
          → LeadsFrom program form page input code spot left (f ∷ calls) h (if can then when_writable (h.references (length calls) l) (when_writable (h.references (length calls) r)
          (silent (control (f ∷ calls) account idle (sequence row ∷ k)) (write_parts h (length calls) l r y (natural v)))) else traps kind.Index) m
      by_split v y true e trap goes = goes e
      by_split v y false e trap goes = trap e
