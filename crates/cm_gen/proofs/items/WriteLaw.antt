-- What a store of a value does to a state that a machine stands for.
use Rattle.cm_gen.proofs.patterns.StandingLaw.{IsCodeAt}
use Rattle.std.proofs.Common.{◌≡◌, ℕ, ◌+◌, ◌*◌, ◌^◌, ◌<◌, List, ◌∷◌, length, Some, refl, sym, ap, ◌∙◌, subst, arith, inr}
use Rattle.std.specs.Prelude.{true, false, ◌==◌, ℤ, slice_get}
use Rattle.cm_isa.specs.declared.convention.TheConstants as reg
use Rattle.cm_isa.specs.Alu.{offset}
use Rattle.cm_isa.specs.Machine.{Machine, Mapped, Code, with_word, reads}
use Rattle.cm_gen.specs.Returns.{GoesTo}
use Rattle.cm_syntax.specs.declared.stmt.Slot.TheVariants as slot
use Rattle.cm_syntax.specs.declared.stmt.Program.{Program}
use Rattle.cm_syntax.specs.Cell.{value_in, may_write}
use Rattle.cm_syntax.specs.Stack.{Stack, write_word}
use Rattle.cm_syntax.specs.Rest.{Item, Hand, idle, control}
use Rattle.cm_syntax.specs.Step.{top}
use Rattle.cm_meaning.specs.Activation.{end_count}
use Rattle.cm_meaning.specs.TypedState.{slots_at, row_words}
use Rattle.cm_meaning.proofs.TypedFramesLaw.{IsPlain}
use Rattle.cm_gen.specs.declared.form.Form.{Form}
use Rattle.cm_gen.specs.Code.{load_slot, store_slot}
use Rattle.cm_gen.specs.Expression.{slot_offset, temporary_offset}
use Rattle.cm_gen.specs.FrameWord.{bits, IsPlace, word_number, temporary_number, IsOwnNumber, word_address, AreFrames, Holds, Kept, HasOwn}
use Rattle.cm_gen.specs.Formed.{HasRoom, RestFits}
use Rattle.cm_gen.specs.Standing.{LeadsTo, Frame, slots_here, Coded}
use Rattle.cm_gen.specs.StandsFor.{Spot, ExactAt}
use Rattle.cm_gen.proofs.patterns.PatternLaw.{load_slot_runs, store_slot_runs, store_slot_some}
use Rattle.cm_gen.proofs.patterns.LeavesLaw.{Sets, SameRegisters, same_after, same_leaves}
use Rattle.cm_gen.proofs.items.StateLaw.{exact_with}
use Rattle.cm_gen.proofs.frames.FrameWordLaw.{slots_top, slot_at_offset, temporary_word, temporary_at_offset, temporary_mapped, holds_own, kept_lasts, kept_place, own_put}
use Rattle.cm_gen.proofs.frames.CellLaw.{own_place, holds_word, held_word, held_value}
use Rattle.cm_gen.proofs.frames.DeeperLaw.{same_row}

module _ (program : Program) (page : ℕ) where
  -- what is kept speaks of the stack's references alone
  pub kept_stack : (k : List Item) (calls : List ℕ) (frames : List Frame) (h g : Stack) (w : Mapped) → RestFits program page k calls → AreFrames program page calls frames → h.references ≡ g.references
      → Kept program page k calls frames h w → Kept program page k calls frames g w
  kept_stack k calls frames h g w fits shape same kept =
      kept_lasts program page k calls frames g h w w fits shape (λ d n a b c. refl) (λ a. same_row program page calls h g a (λ s l. ap (λ r. r (top calls) s) same)) (λ d s l. ap (λ r. r d s) same) kept

module _ (program : Program) (form : Form) (page : ℕ) (input : List ℤ) (code : Code) where
  -- a value was stored into a word of a variable
  pub wrote : {spot : Spot} {left : ℕ} {calls : List ℕ} {account : ℕ} {hand : Hand} {j : List Item} {h : Stack} {m : Machine}
      (x : ExactAt program form page input code spot left (control calls account hand j) h m) → IsPlain hand → (l : List Item) (d s i : ℕ) (v : ℤ) (t : Machine)
      → d < length calls → i < row_words (slice_get (slots_at program calls d) s) → SameRegisters m.registers t.registers
      → t.words ≡ with_word m.words (word_address spot.frames d (word_number (slots_at program calls d) s i)) (bits v)
      → RestFits program page l calls → Kept program page l calls spot.frames h m.words → end_count l ≡ end_count j
      → LeadsTo code (Coded program form page code l calls spot.frames) t.counter
      → ExactAt program form page input code spot left (control calls account idle l) (write_word h d s i v) t
  wrote {spot = spot} {calls = calls} {h = h} {m = m} x plain l d s i v t deep within same words fits kept count here =
      let g = write_word h d s i v in
      let a = word_address spot.frames d (word_number (slots_at program calls d) s i) in
      exact_with program form page input code x plain idle tt l g t same count
      (subst (λ w. Holds program page calls spot.frames g w) (sym words) (holds_word program page calls spot.frames h m.words d s i v x.frames deep within x.slots))
      (subst (λ w. Kept program page l calls spot.frames g w) (sym words)
      (kept_stack program page l calls spot.frames h g (with_word m.words a (bits v)) fits x.frames refl
      (kept_place program page l calls spot.frames h m.words d s i (bits v) fits x.frames deep (own_place (slots_at program calls d) s i within) kept)))
      (subst (λ w. HasOwn program page (end_count l) calls spot.frames w) (sym words)
      (own_put program page (end_count l) calls spot.frames m.words a (bits v) (subst (λ n. HasOwn program page n calls spot.frames m.words) (sym count) x.own)))
      here

  -- a register takes a scalar of the running function
  pub loads_scalar : {spot : Spot} {left f : ℕ} {calls : List ℕ} {account : ℕ} {hand : Hand} {j : List Item} {h : Stack} {m : Machine}
      (x : ExactAt program form page input code spot left (control (f ∷ calls) account hand j) h m) (s r : ℕ) (v : ℤ)
      → slice_get (slots_here program (f ∷ calls)) s ≡ Some slot.Scalar → value_in (h.words (length calls) s 0) ≡ Some v → (r == reg.ZERO) ≡ false → (reg.FP == r) ≡ false
      → IsCodeAt code m.counter (load_slot r (slot_offset (slots_here program (f ∷ calls)) s))
      → (t : Machine) × GoesTo code (length (load_slot r (slot_offset (slots_here program (f ∷ calls)) s))) m t × Sets r (bits v) (4 * length (load_slot r (slot_offset (slots_here program (f ∷ calls)) s))) m t
  loads_scalar {spot = spot} {f = f} {calls = calls} {h = h} {m = m} x s r v kind is nonzero other there =
      let slots = slots_here program (f ∷ calls) in
      let o = slot_offset slots s in
      let own = slots_top program page f calls in
      let within : 0 < row_words (slice_get (slots_at program (f ∷ calls) (length calls)) s) = subst (λ l. 0 < row_words (slice_get l s)) (sym own) (subst (λ k. 0 < row_words k) (sym kind) (omega arith)) in
      let place : IsPlace slots s 0 = subst (λ l. IsPlace l s 0) own (own_place (slots_at program (f ∷ calls) (length calls)) s 0 within) in
      let at = slot_at_offset program page f calls spot.frames s x.frames place in
      let address = ap (λ l. word_address spot.frames (length calls) (word_number l s 0)) own in
      let below = there.below in
      load_slot_runs code r o (word_address spot.frames (length calls) (word_number slots s 0)) (bits v) m nonzero other (subst (λ p. p < 2 ^ 32) (sym x.pointer_is) at.fits) (ap (λ p. offset p o) x.pointer_is ∙ at.address) at.aligned
      (ap (λ a. reads (m.words a)) (sym address) ∙ held_value program page (f ∷ calls) spot.frames h m.words (length calls) s 0 v x.slots (omega arith) within is) (omega (arith, below)) there.there

  -- a register goes into a scalar of the running function, behind instructions that changed no word
  pub puts_scalar : {spot : Spot} {left f : ℕ} {calls : List ℕ} {account : ℕ} {hand : Hand} {j : List Item} {h : Stack} {m : Machine}
      (x : ExactAt program form page input code spot left (control (f ∷ calls) account hand j) h m) → IsPlain hand → (l : List Item) (s r : ℕ) (v : ℤ) (n : Machine)
      → slice_get (slots_here program (f ∷ calls)) s ≡ Some slot.Scalar → may_write (h.words (length calls) s 0) ≡ true
      → SameRegisters m.registers n.registers → n.words ≡ m.words → (r == reg.HELP) ≡ false → n.registers r ≡ bits v
      → IsCodeAt code n.counter (store_slot r (slot_offset (slots_here program (f ∷ calls)) s))
      → LeadsTo code (Coded program form page code l (f ∷ calls) spot.frames) (n.counter + 4 * length (store_slot r (slot_offset (slots_here program (f ∷ calls)) s)))
      → RestFits program page l (f ∷ calls) → Kept program page l (f ∷ calls) spot.frames h m.words → end_count l ≡ end_count j
      → (count : ℕ) × (t : Machine) × GoesTo code count n t × ExactAt program form page input code spot left (control (f ∷ calls) account idle l) (write_word h (length calls) s 0 v) t
  puts_scalar {spot = spot} {f = f} {calls = calls} {h = h} {m = m} x plain l s r v n kind some same words other value there next fits kept count =
      let slots = slots_here program (f ∷ calls) in
      let o = slot_offset slots s in
      let is = store_slot r o in
      let own = slots_top program page f calls in
      let within : 0 < row_words (slice_get (slots_at program (f ∷ calls) (length calls)) s) = subst (λ l. 0 < row_words (slice_get l s)) (sym own) (subst (λ k. 0 < row_words k) (sym kind) (omega arith)) in
      let deep : length calls < length (f ∷ calls) = omega arith in
      let place : IsPlace slots s 0 = subst (λ l. IsPlace l s 0) own (own_place (slots_at program (f ∷ calls) (length calls)) s 0 within) in
      let at = slot_at_offset program page f calls spot.frames s x.frames place in
      let address = ap (λ l. word_address spot.frames (length calls) (word_number l s 0)) own in
      let old = held_word program page (f ∷ calls) spot.frames h m.words (length calls) s 0 x.slots deep within some in
      let pointer = same.pointer ∙ x.pointer_is in
      let below = there.below in
      let some_code = store_slot_some r o in
      let a = word_address spot.frames (length calls) (word_number slots s 0) in
      let ran = store_slot_runs code r o a old.0 n other (subst (λ p. p < 2 ^ 32) (sym pointer) at.fits) (ap (λ p. offset p o) pointer ∙ at.address) at.aligned
      (ap (λ w. w a) words ∙ ap m.words (sym address) ∙ old.1) (omega (arith, below, some_code)) there.there in
      let t = ran.0 in
      let does = ran.2 in (
        length is,
        t,
        ran.1,
        wrote x plain l (length calls) s 0 v t deep within (same_after same (same_leaves refl does))
            (does.words ∙ ap (λ w. with_word w a (n.registers r)) words ∙ ap (with_word m.words a) value ∙ ap (λ b. with_word m.words b (bits v)) (sym address))
            fits kept count
            (subst (LeadsTo code (Coded program form page code l (f ∷ calls) spot.frames)) (sym does.counter) next),
      )

  -- a word was stored into a temporary of the running function
  pub stored_temporary : {spot : Spot} {left f : ℕ} {calls : List ℕ} {account : ℕ} {hand : Hand} {j : List Item} {h : Stack} {m : Machine}
      (x : ExactAt program form page input code spot left (control (f ∷ calls) account hand j) h m) → IsPlain hand → (l : List Item) (i count w : ℕ) (t : Machine)
      → HasRoom program page (f ∷ calls) count → i < count → SameRegisters m.registers t.registers
      → t.words ≡ with_word m.words (word_address spot.frames (length calls) (temporary_number (slots_here program (f ∷ calls)) i)) w
      → Kept program page l (f ∷ calls) spot.frames h (with_word m.words (word_address spot.frames (length calls) (temporary_number (slots_here program (f ∷ calls)) i)) w)
      → end_count l ≡ end_count j → LeadsTo code (Coded program form page code l (f ∷ calls) spot.frames) t.counter
      → ExactAt program form page input code spot left (control (f ∷ calls) account idle l) h t
  stored_temporary {spot = spot} {f = f} {calls = calls} {h = h} {m = m} x plain l i count w t room less same words kept ends here =
      let slots = slots_here program (f ∷ calls) in
      let n = temporary_number slots i in
      let a = word_address spot.frames (length calls) n in
      let own : IsOwnNumber (slots_at program (f ∷ calls) (length calls)) n = subst (λ l. IsOwnNumber l n) (sym (slots_top program page f calls)) (inr (omega arith)) in
      exact_with program form page input code x plain idle tt l h t same ends
      (subst (λ w. Holds program page (f ∷ calls) spot.frames h w) (sym words)
      (holds_own program page (f ∷ calls) spot.frames h m.words (length calls) n w x.frames (temporary_word program page f calls i count room less) own x.slots))
      (subst (λ w. Kept program page l (f ∷ calls) spot.frames h w) (sym words) kept)
      (subst (λ w. HasOwn program page (end_count l) (f ∷ calls) spot.frames w) (sym words)
      (own_put program page (end_count l) (f ∷ calls) spot.frames m.words a w (subst (λ n. HasOwn program page n (f ∷ calls) spot.frames m.words) (sym ends) x.own)))
      here

  -- a register goes into a temporary, behind instructions that changed no word
  pub puts_temporary : {spot : Spot} {left f : ℕ} {calls : List ℕ} {account : ℕ} {hand : Hand} {j : List Item} {h : Stack} {m : Machine}
      (x : ExactAt program form page input code spot left (control (f ∷ calls) account hand j) h m) → IsPlain hand → (l : List Item) (i count r w : ℕ) (n : Machine)
      → HasRoom program page (f ∷ calls) count → i < count → 0 < end_count j → SameRegisters m.registers n.registers → n.words ≡ m.words → (r == reg.HELP) ≡ false → n.registers r ≡ w
      → IsCodeAt code n.counter (store_slot r (temporary_offset (slots_here program (f ∷ calls)) i))
      → LeadsTo code (Coded program form page code l (f ∷ calls) spot.frames) (n.counter + 4 * length (store_slot r (temporary_offset (slots_here program (f ∷ calls)) i)))
      → Kept program page l (f ∷ calls) spot.frames h (with_word m.words (word_address spot.frames (length calls) (temporary_number (slots_here program (f ∷ calls)) i)) w)
      → end_count l ≡ end_count j
      → (c : ℕ) × (t : Machine) × GoesTo code c n t × ExactAt program form page input code spot left (control (f ∷ calls) account idle l) h t
  puts_temporary {spot = spot} {f = f} {calls = calls} {j = j} {m = m} x plain l i count r w n room less some same words other value there next kept ends =
      let slots = slots_here program (f ∷ calls) in
      let o = temporary_offset slots i in
      let is = store_slot r o in
      let a = word_address spot.frames (length calls) (temporary_number slots i) in
      let at = temporary_at_offset program page f calls spot.frames i count x.frames room less in
      let old = temporary_mapped program page (end_count j) f calls spot.frames m.words i count some room less x.own in
      let pointer = same.pointer ∙ x.pointer_is in
      let below = there.below in
      let some_code = store_slot_some r o in
      let ran = store_slot_runs code r o a old.0 n other (subst (λ p. p < 2 ^ 32) (sym pointer) at.fits) (ap (λ p. offset p o) pointer ∙ at.address) at.aligned
      (ap (λ w. w a) words ∙ old.1) (omega (arith, below, some_code)) there.there in
      let t = ran.0 in
      let does = ran.2 in (
        length is,
        t,
        ran.1,
        stored_temporary x plain l i count w t room less (same_after same (same_leaves refl does)) (does.words ∙ ap (λ w. with_word w a (n.registers r)) words ∙ ap (with_word m.words a) value) kept ends
            (subst (LeadsTo code (Coded program form page code l (f ∷ calls) spot.frames)) (sym does.counter) next),
      )
