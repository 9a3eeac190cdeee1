-- The laws of what writes an element: its place is found and kept, and then the value goes there.
use Rattle.cm_syntax.proofs.CellLaw.{valued}
use Rattle.cm_gen.proofs.frames.CellLaw.{held_word, held_value}
use Rattle.std.proofs.lemmas.Option.{same_Some}
use Rattle.std.proofs.Common.{◌≡◌, ℕ, ◌+◌, ◌*◌, ◌%◌, ◌^◌, ◌<◌, ◌≤◌, List, [], ◌∷◌, ◌++◌, length, Option, None, Some, refl, sym, ap, ◌∙◌, subst, arith, length-append, option_map}
use Rattle.std.specs.Prelude.{Bool, true, false, ◌==◌, if◌then◌else◌, ℤ, pos, FitsSigned, slice_get}
use Rattle.std.specs.Int.{w32}
use Rattle.cm_isa.specs.declared.convention.TheConstants as reg
use Rattle.cm_isa.specs.Alu.{offset}
use Rattle.cm_isa.specs.Operation.{Operation}
use Rattle.cm_isa.specs.Machine.{Machine, Code, with_word, writable, reads}
use Rattle.cm_gen.specs.Returns.{GoesTo}
use Rattle.cm_syntax.specs.declared.expr.Op.{Op}
use Rattle.cm_syntax.specs.declared.expr.Expr.{Expr}
use Rattle.cm_syntax.specs.declared.stmt.Slot.{Slot}
use Rattle.cm_syntax.specs.declared.stmt.Extent.{Extent}
use Rattle.cm_syntax.specs.declared.stmt.Extent.TheVariants as extent
use Rattle.cm_syntax.specs.Extent.{extent_of}
use Rattle.cm_gen.specs.FrameWord.{row_for}
use Rattle.cm_syntax.specs.declared.stmt.Program.{Program}
use Rattle.cm_syntax.specs.Frame.{temporaries}
use Rattle.cm_syntax.specs.Operator.{natural, binary_value}
use Rattle.cm_syntax.specs.Label.{traps}
use Rattle.cm_syntax.specs.Trap as kind
use Rattle.cm_syntax.specs.Cell.{value_in, may_write}
use Rattle.cm_syntax.specs.Stack.{Reference, Stack, write_word}
use Rattle.cm_syntax.specs.Rest.{Item, evaluate, locate, store, Hand, idle, holds, control}
use Rattle.cm_syntax.specs.Step.{top, slots_in, is_index, go_on, write_step, item_step}
use Rattle.cm_syntax.proofs.FrameLaw.{temporaries_at_least}
use Rattle.cm_meaning.specs.Activation.{end_count}
use Rattle.cm_meaning.specs.TypedState.{slots_at, row_words, reference_length, row_length, extent_length}
use Rattle.cm_meaning.proofs.TypedFramesLaw.{IsPlain}
use Rattle.cm_gen.specs.declared.form.Form.{Form}
use Rattle.cm_gen.specs.Assembler.{lw, sw}
use Rattle.cm_gen.specs.Code.{load_slot}
use Rattle.cm_gen.specs.Part.{Part, straight}
use Rattle.cm_gen.specs.Expression.{temporary_offset, operator_code, base, locate_code, keep_word, expression_code}
use Rattle.cm_gen.specs.Statement.{store_code}
use Rattle.cm_gen.specs.FrameWord.{bits, temporary_number, word_address, reference_address, row_of}
use Rattle.cm_gen.specs.Formed.{RestFits, IsPart, Formed}
use Rattle.cm_gen.specs.Standing.{LeadsTo, StandsThen, slots_here, Coded}
use Rattle.cm_gen.specs.StandsFor.{Spot, Placed, ExactAt, LeadsFrom}
use Rattle.cm_gen.proofs.patterns.StepLaw.{comes_on}
use Rattle.cm_gen.proofs.frames.MappedWordLaw.{with_word_same, own_reads}
use Rattle.cm_gen.proofs.patterns.PatternLaw.{load_slot_runs, store_slot_some, put_runs, take_runs}
use Rattle.cm_gen.proofs.patterns.LeavesLaw.{Sets, SameRegisters, same_after, same_leaves}
use Rattle.cm_gen.proofs.patterns.StandingLaw.{parted, then_second, straight_length, straight_end, IsCodeAt, code_at, code_front, code_back}
use Rattle.cm_gen.proofs.items.StateLaw.{leads_to, leads_on, leads_stuck, by_held, by_present, by_result, by_slice, with_value}
use Rattle.cm_gen.proofs.frames.FrameWordLaw.{kept_temporary, temporary_at_offset}
use Rattle.cm_gen.proofs.states.FactLaw.{opened, some_end, row_within, part_has}
use Rattle.cm_gen.proofs.patterns.BaseLaw.{IsRow, is_row, at_base, locate_runs, locate_traps}
use Rattle.cm_gen.proofs.patterns.OperatorLaw.{operator_runs, operator_traps}
use Rattle.cm_gen.proofs.items.WriteLaw.{wrote, puts_temporary}

-- the number of words of a row is that of its slot, in a stack of which this one is a part
row_count : (program : Program) (page : ℕ) (kind : Option Extent) (calls : List ℕ) (h whole : Stack) (a : ℕ) (r : Reference) → IsPart (h.references (top calls) a) (whole.references (top calls) a)
    → value_in (row_for program page kind calls h a) ≡ Some r → extent_length whole (top calls) a kind ≡ r.length
row_count program page None calls h whole a r part e = cc
row_count program page (Some extent.Word) calls h whole a r part e = ap (λ x. x.length) (same_Some _ _ e)
row_count program page (Some (extent.Words n)) calls h whole a r part e = ap (λ x. x.length) (same_Some _ _ e)
row_count program page (Some extent.Reference) calls h whole a r part e =
    valued (λ c. reference_length c ≡ r.length) r refl (λ p. refl) (whole.references (top calls) a) (part_has (h.references (top calls) a) (whole.references (top calls) a) r part e)

module _ (program : Program) (form : Form) (page limit : ℕ) (input : List ℤ) (code : Code) where
  -- ---- the place of the element

  module _ (spot : Spot) (left f : ℕ) (calls : List ℕ) (account : ℕ) (v : ℤ) (k : List Item) (h : Stack) (m : Machine) where
    abbrev exact : List Item → Type 0
    exact l = ExactAt program form page input code spot left (control (f ∷ calls) account (holds v) l) h m

    abbrev place : List Item → Type 0
    place l = Placed program form page input code (holds v) l (f ∷ calls) spot.frames m.registers m.counter

    abbrev slots : List Slot
    slots = slots_here program (f ∷ calls)

    locate_by : (a : ℕ) (o : Option Op) (e : Expr ℕ) (r : Reference) (index : Bool) → is_index v r.length ≡ index → value_in (row_of program page (f ∷ calls) h a) ≡ Some r → IsRow program page (f ∷ calls) spot.frames r
        → RestFits program page (locate a o e ∷ k) (f ∷ calls) → 0 < end_count k → exact (locate a o e ∷ k) → place (locate a o e ∷ k)
        → LeadsFrom program form page input code spot left (f ∷ calls) h
        (if index then go_on (control (f ∷ calls) account (holds v) (locate a o e ∷ k)) h (evaluate e ∷ store a (natural v) o ∷ k) else traps kind.Index) m
    locate_by a o e r false index row is fits some x here =
        let finds = locate_code slots a in
        let puts = keep_word slots 0 in
        let inner : List Part = expression_code slots e 1 ++ straight (store_code slots o) in
        let next = Coded program form page code k (f ∷ calls) spot.frames in
        let some_code = store_slot_some reg.VALUE (temporary_offset slots 0) in
        let size = length-append finds puts in
        let there = code_at code (finds ++ puts) (StandsThen code inner next) m.counter (omega (arith, size, some_code)) (parted code (straight (finds ++ puts)) inner next m.counter here.2) in
        let ran = locate_traps program page code (f ∷ calls) spot.frames h a r v m (at_base program form page input code spot left _ h m x) row is here.0 here.1 index (code_front code finds puts there) in
        leads_to program form page input code _ ran.0 ran.1 (record { there = ran.2; number_is = ran.3 }, ran.4 ∙ x.left_is)
    locate_by a o e r true index row is fits some x here =
        let finds = locate_code slots a in
        let puts = keep_word slots 0 in
        let inner : List Part = expression_code slots e 1 ++ straight (store_code slots o) in
        let next = Coded program form page code k (f ∷ calls) spot.frames in
        let some_code = store_slot_some reg.VALUE (temporary_offset slots 0) in
        let size = length-append finds puts in
        let there = code_at code (finds ++ puts) (StandsThen code inner next) m.counter (omega (arith, size, some_code)) (parted code (straight (finds ++ puts)) inner next m.counter here.2) in
        let later = then_second code (straight (finds ++ puts)) inner next m.counter here.2 in
        let ran = locate_runs program page code (f ∷ calls) spot.frames h a r v m (at_base program form page input code spot left _ h m x) row is here.0 here.1 index (code_front code finds puts there) in
        let t = ran.0 in
        let does = ran.2 in
        let same : SameRegisters m.registers t.registers = same_leaves refl does in
        let least = temporaries_at_least e 1 in
        let room = fits.0.1 in
        let less : 0 < temporaries e 1 = omega (arith, least) in
        let none = fits.0.0 in
        let w = reference_address program page (f ∷ calls) spot.frames r + 4 * natural v in
        let at = word_address spot.frames (length calls) (temporary_number slots 0) in
        let sized = straight_length code (finds ++ puts) in
        let placed_at = does.counter in
        let end : m.counter + 4 * length (straight (finds ++ puts)) ≡ t.counter + 4 * length puts = omega (arith, sized, size, placed_at) in
        let last = puts_temporary program form page input code x tt (evaluate e ∷ store a (natural v) o ∷ k) 0 (temporaries e 1) reg.VALUE w t room less some same does.words refl does.value
        (code_back code finds puts does.counter there)
        (0, subst (Coded program form page code (evaluate e ∷ store a (natural v) o ∷ k) (f ∷ calls) spot.frames) end (parted code (expression_code slots e 1) (straight (store_code slots o)) next _ later))
        (record { row = r; row_is = row; address = with_word_same m.words at w }, kept_temporary program page k f calls spot.frames h m.words 0 (temporaries e 1) w fits.1 x.frames (omega (arith, none)) room less x.kept)
        refl in
        leads_on program form page input code _ last.1 (comes_on code _ last.0 m t last.1 ran.1 last.2) last.3

  pub locate_law : (a : ℕ) (o : Option Op) (e : Expr ℕ) (spot : Spot) (left : ℕ) (calls : List ℕ) (account : ℕ) (hand : Hand) (k : List Item) (h : Stack) (m : Machine) → IsPlain hand
      → Formed program page limit (control calls account hand (locate a o e ∷ k)) h
      → ExactAt program form page input code spot left (control calls account hand (locate a o e ∷ k)) h m
      → Placed program form page input code hand (locate a o e ∷ k) calls spot.frames m.registers m.counter
      → LeadsFrom program form page input code spot left calls h (item_step program page input (control calls account hand (locate a o e ∷ k)) h (locate a o e) k) m
  locate_law a o e spot left [] account hand k h m none formed x here = with_value program form page input code hand _ x here (λ v x here. leads_stuck program form page input code)
  locate_law a o e spot left (f ∷ calls) account hand k h m none formed x here =
      with_value program form page input code hand _ x here (λ v x here.
      by_slice program form page input code (f ∷ calls) h a _ (λ r row.
      locate_by spot left f calls account v k h m a o e r (is_index v r.length) refl row
      (is_row program page (f ∷ calls) spot.frames r x.frames (row_within program page limit (f ∷ calls) account hand (locate a o e ∷ k) h a r formed (omega arith) row))
      formed.fits (some_end program page limit (f ∷ calls) account hand (locate a o e) k h none tt formed) x here))

  -- ---- the value of the element

  module _ (spot : Spot) (left f : ℕ) (calls : List ℕ) (account : ℕ) (v : ℤ) (k : List Item) (h : Stack) (m : Machine) (a i : ℕ) (o : Option Op) (r : Reference)
      (row : value_in (row_of program page (f ∷ calls) h a) ≡ Some r) (is : IsRow program page (f ∷ calls) spot.frames r) (within : r.start + r.length ≤ row_words (slice_get (slots_at program (f ∷ calls) r.depth) r.slot)) (less : i < r.length)
      (fits : RestFits program page (store a i o ∷ k) (f ∷ calls))
      (x : ExactAt program form page input code spot left (control (f ∷ calls) account (holds v) (store a i o ∷ k)) h m)
      (here : Placed program form page input code (holds v) (store a i o ∷ k) (f ∷ calls) spot.frames m.registers m.counter) where
    -- the address of the element
    abbrev target : ℕ
    target = reference_address program page (f ∷ calls) spot.frames r + 4 * i

    abbrev next : ℕ → Type 0
    next p = Coded program form page code k (f ∷ calls) spot.frames p

    abbrev own_slots : List Slot
    own_slots = slots_here program (f ∷ calls)

    element_aligned : target % 4 ≡ 0
    element_aligned = let e = is.aligned in omega (arith, e)

    element_fits : target < 2 ^ 32
    element_fits = let e = is.below in omega (arith, e, less)

    -- a register takes it from its temporary
    takes_target : (q : ℕ) → (q == reg.ZERO) ≡ false → (reg.FP == q) ≡ false → IsCodeAt code m.counter (load_slot q (temporary_offset own_slots 0))
        → (t : Machine) × GoesTo code (length (load_slot q (temporary_offset own_slots 0))) m t × Sets q target (4 * length (load_slot q (temporary_offset own_slots 0))) m t
    takes_target q nonzero other there =
        let at = temporary_at_offset program page f calls spot.frames 0 1 x.frames fits.0.1 (omega arith) in
        let below = there.below in
        let same : x.kept.0.row ≡ r = same_Some _ _ (sym x.kept.0.row_is ∙ row) in
        load_slot_runs code q (temporary_offset own_slots 0) (word_address spot.frames (length calls) (temporary_number own_slots 0)) target m nonzero other
        (subst (λ p. p < 2 ^ 32) (sym x.pointer_is) at.fits) (ap (λ p. offset p (temporary_offset own_slots 0)) x.pointer_is ∙ at.address) at.aligned
        (own_reads _ _ (subst (λ s. m.words (word_address spot.frames (length calls) (temporary_number own_slots 0)) ≡ writable (reference_address program page (f ∷ calls) spot.frames s + 4 * i)) same x.kept.0.address))
        (omega (arith, below)) there.there

    -- the store, behind instructions that changed no word
    stores : (base : ℕ) (w : ℤ) (n : Machine) → may_write (h.words r.depth r.slot (r.start + i)) ≡ true → SameRegisters m.registers n.registers → n.words ≡ m.words → n.registers base ≡ target → n.registers reg.VALUE ≡ bits w
        → IsCodeAt code n.counter (sw reg.VALUE base (pos 0) ∷ []) → LeadsTo code next (n.counter + 4)
        → (t : Machine) × GoesTo code 1 n t × ExactAt program form page input code spot left (control (f ∷ calls) account idle k) (write_word h r.depth r.slot (r.start + i) w) t
    stores base w n some same words at value there behind =
        let inside : r.start + i < row_words (slice_get (slots_at program (f ∷ calls) r.depth) r.slot) = omega (arith, within, less) in
        let address = is.address i less in
        let old = held_word program page (f ∷ calls) spot.frames h m.words r.depth r.slot (r.start + i) x.slots is.live inside some in
        let below = there.below in
        let t : Machine = record { registers = n.registers; counter = n.counter + 4; words = with_word n.words target (n.registers reg.VALUE) } in (
          t,
          put_runs code reg.VALUE base target old.0 n there.there.0 (omega (arith, below)) at element_aligned element_fits (ap (λ w. w target) words ∙ ap m.words address ∙ old.1),
          wrote program form page input code x tt k r.depth r.slot (r.start + i) w t is.live inside same
              (ap (λ w. with_word w target (n.registers reg.VALUE)) words ∙ ap (with_word m.words target) value ∙ ap (λ b. with_word m.words b (bits w)) address) fits.1 x.kept.1 refl behind,
        )

  module _ (spot : Spot) (left f : ℕ) (calls : List ℕ) (account : ℕ) (v : ℤ) (k : List Item) (h : Stack) (m : Machine) (a i : ℕ) (r : Reference)
      (row : value_in (row_of program page (f ∷ calls) h a) ≡ Some r) (is : IsRow program page (f ∷ calls) spot.frames r) (within : r.start + r.length ≤ row_words (slice_get (slots_at program (f ∷ calls) r.depth) r.slot)) (less : i < r.length) where
    store_plain : RestFits program page (store a i None ∷ k) (f ∷ calls) → ExactAt program form page input code spot left (control (f ∷ calls) account (holds v) (store a i None ∷ k)) h m
        → Placed program form page input code (holds v) (store a i None ∷ k) (f ∷ calls) spot.frames m.registers m.counter
        → LeadsFrom program form page input code spot left (f ∷ calls) h (write_step (control (f ∷ calls) account (holds v) (store a i None ∷ k)) h r.depth r.slot (r.start + i) None v k) m
    store_plain fits x here = by_held program form page input code (h.words r.depth r.slot (r.start + i)) _ (λ some.
        let slots = slots_here program (f ∷ calls) in
        let loads = load_slot reg.LEFT (temporary_offset slots 0) in
        let puts : List Operation = sw reg.VALUE reg.LEFT (pos 0) ∷ [] in
        let behind = Coded program form page code k (f ∷ calls) spot.frames in
        let size = length-append loads puts in
        let there = code_at code (loads ++ puts) behind m.counter (omega (arith, size)) here.2 in
        let first = takes_target spot left f calls account v k h m a i None r row is within less fits x here reg.LEFT refl refl (code_front code loads puts there) in
        let n = first.0 in
        let does = first.2 in
        let at = does.counter in
        let end : m.counter + 4 * length (loads ++ puts) ≡ n.counter + 4 = omega (arith, size, at) in
        let last = stores spot left f calls account v k h m a i None r row is within less fits x here reg.LEFT v n some (same_leaves refl does) does.words does.value (does.kept reg.VALUE refl ∙ here.0)
        (code_back code loads puts does.counter there) (subst (LeadsTo code behind) end (straight_end code (loads ++ puts) behind m.counter here.2)) in
        leads_on program form page input code (length loads + 1) last.0 (comes_on code (length loads) 1 m n last.0 first.1 last.1) last.2)

    -- with an operator the old word comes first
    store_with : (o : Op) → ((d t i : ℕ) (w : ℤ) → value_in (h.words d t i) ≡ Some w → FitsSigned w32 w)
        → RestFits program page (store a i (Some o) ∷ k) (f ∷ calls) → ExactAt program form page input code spot left (control (f ∷ calls) account (holds v) (store a i (Some o) ∷ k)) h m
        → Placed program form page input code (holds v) (store a i (Some o) ∷ k) (f ∷ calls) spot.frames m.registers m.counter
        → LeadsFrom program form page input code spot left (f ∷ calls) h (write_step (control (f ∷ calls) account (holds v) (store a i (Some o) ∷ k)) h r.depth r.slot (r.start + i) (Some o) v k) m
    store_with o small fits x here = by_held program form page input code (h.words r.depth r.slot (r.start + i)) _ (λ some. by_present program form page input code (h.words r.depth r.slot (r.start + i)) _ (λ old held.
        let slots = slots_here program (f ∷ calls) in
        let goal = target spot left f calls account v k h m a i (Some o) r row is within less fits x here in
        let loads = load_slot reg.HELP (temporary_offset slots 0) in
        let takes : List Operation = lw reg.LEFT reg.HELP (pos 0) ∷ [] in
        let puts : List Operation = sw reg.VALUE reg.HELP (pos 0) ∷ [] in
        let behind = Coded program form page code k (f ∷ calls) spot.frames in
        let size = length-append loads (takes ++ (operator_code o ++ puts)) in
        let sized = length-append (operator_code o) puts in
        let there = code_at code (loads ++ (takes ++ (operator_code o ++ puts))) behind m.counter (omega (arith, size)) here.2 in
        let first = takes_target spot left f calls account v k h m a i (Some o) r row is within less fits x here reg.HELP refl refl (code_front code loads (takes ++ (operator_code o ++ puts)) there) in
        let n = first.0 in
        let does = first.2 in
        let second_code = code_back code loads (takes ++ (operator_code o ++ puts)) does.counter there in
        let below = second_code.below in
        let inside : r.start + i < row_words (slice_get (slots_at program (f ∷ calls) r.depth) r.slot) = omega (arith, within, less) in
        let word_is = held_value program page (f ∷ calls) spot.frames h m.words r.depth r.slot (r.start + i) old x.slots is.live inside held in
        let second = take_runs code reg.LEFT reg.HELP goal (bits old) n refl second_code.there.0 (omega (arith, below)) does.value
        (element_aligned spot left f calls account v k h m a i (Some o) r row is within less fits x here) (element_fits spot left f calls account v k h m a i (Some o) r row is within less fits x here)
        (ap (λ w. reads (w goal)) does.words ∙ ap (λ a. reads (m.words a)) (is.address i less) ∙ word_is) in
        let n2 = second.0 in
        let does2 = second.2 in
        let third_code = code_back code takes (operator_code o ++ puts) does2.counter second_code in
        let same2 : SameRegisters m.registers n2.registers = same_after (same_leaves refl does) (same_leaves refl does2) in
        let value = does2.kept reg.VALUE refl ∙ does.kept reg.VALUE refl ∙ here.0 in
        let zero_is = same2.zero_is ∙ x.zero_is in
        let to_n2 = comes_on code (length loads) 1 m n n2 first.1 second.1 in
        by_result program form page input code o (binary_value o old v) _
        (λ w result.
        let third = operator_runs code n2 zero_is old v (small r.depth r.slot (r.start + i) old held) here.1 does2.value value o w result (code_front code (operator_code o) puts third_code) in
        let n3 = third.1 in
        let does3 = third.3 in
        let c1 = does.counter in
        let c2 = does2.counter in
        let c3 = does3.counter in
        let end : m.counter + 4 * length (loads ++ (takes ++ (operator_code o ++ puts))) ≡ n3.counter + 4 = omega (arith, size, sized, c1, c2, c3) in
        let last = stores spot left f calls account v k h m a i (Some o) r row is within less fits x here reg.HELP w n3 some
        (same_after same2 (same_leaves refl does3)) (does3.words ∙ does2.words ∙ does.words) (does3.kept reg.HELP refl ∙ does2.kept reg.HELP refl ∙ does.value) does3.value
        (code_back code (operator_code o) puts does3.counter third_code)
        (subst (LeadsTo code behind) end (straight_end code (loads ++ (takes ++ (operator_code o ++ puts))) behind m.counter here.2)) in
        leads_on program form page input code (length loads + 1 + (third.0 + 1)) last.0
        (comes_on code (length loads + 1) (third.0 + 1) m n2 last.0 to_n2 (comes_on code third.0 1 n2 n3 last.0 third.2 last.1)) last.2)
        (λ result divides_is.
        let third = operator_traps code n2 zero_is old v (small r.depth r.slot (r.start + i) old held) here.1 does2.value value o result divides_is (code_front code (operator_code o) puts third_code) in
        leads_to program form page input code (length loads + 1 + third.0) third.1 (comes_on code (length loads + 1) third.0 m n2 third.1 to_n2 third.2) (record { there = third.3; number_is = third.4 }, third.5 ∙ same2.ticks ∙ x.left_is))))

    store_by : (o : Option Op) → ((d t i : ℕ) (w : ℤ) → value_in (h.words d t i) ≡ Some w → FitsSigned w32 w)
        → RestFits program page (store a i o ∷ k) (f ∷ calls) → ExactAt program form page input code spot left (control (f ∷ calls) account (holds v) (store a i o ∷ k)) h m
        → Placed program form page input code (holds v) (store a i o ∷ k) (f ∷ calls) spot.frames m.registers m.counter
        → LeadsFrom program form page input code spot left (f ∷ calls) h (write_step (control (f ∷ calls) account (holds v) (store a i o ∷ k)) h r.depth r.slot (r.start + i) o v k) m
    store_by None small fits x here = store_plain fits x here
    store_by (Some o) small fits x here = store_with o small fits x here

  pub store_law : (a i : ℕ) (o : Option Op) (spot : Spot) (left : ℕ) (calls : List ℕ) (account : ℕ) (hand : Hand) (k : List Item) (h : Stack) (m : Machine) → IsPlain hand
      → Formed program page limit (control calls account hand (store a i o ∷ k)) h
      → ExactAt program form page input code spot left (control calls account hand (store a i o ∷ k)) h m
      → Placed program form page input code hand (store a i o ∷ k) calls spot.frames m.registers m.counter
      → LeadsFrom program form page input code spot left calls h (item_step program page input (control calls account hand (store a i o ∷ k)) h (store a i o) k) m
  store_law a i o spot left [] account hand k h m none formed x here = with_value program form page input code hand _ x here (λ v x here. leads_stuck program form page input code)
  store_law a i o spot left (f ∷ calls) account hand k h m none formed x here =
      let y = opened program page limit (f ∷ calls) account hand (store a i o) k h none tt formed in
      let kind = slice_get (slots_here program (f ∷ calls)) a in
      let same : slice_get y.function.slots a ≡ kind = sym (ap (λ c. slice_get (slots_here program c) a) y.calls_are ∙ ap (λ g. slice_get (slots_in g) a) y.function_is) in
      let listed : i < row_length y.whole (length calls) a kind =
      subst (λ g. i < row_length y.whole (length calls) a g) same (subst (λ d. i < row_length y.whole d a (slice_get y.function.slots a)) (sym (ap top y.calls_are)) y.inner.3) in
      with_value program form page input code hand _ x here (λ v x here.
      by_slice program form page input code (f ∷ calls) h a _ (λ r row.
      let within = row_within program page limit (f ∷ calls) account hand (store a i o ∷ k) h a r formed (omega arith) row in
      store_by spot left f calls account v k h m a i r row (is_row program page (f ∷ calls) spot.frames r x.frames within) within.ends
      (subst (λ n. i < n) (row_count program page (option_map extent_of kind) (f ∷ calls) h y.whole a r (y.is_part.references (length calls) a) row) listed) o formed.small formed.fits x here))
