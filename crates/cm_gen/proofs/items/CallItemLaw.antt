-- The laws of what a call came back with: it becomes a value, is dropped, or goes to the destination of its spawn.
use Rattle.cm_gen.proofs.patterns.LeavesLaw.{SameRegisters}
use Rattle.cm_gen.proofs.patterns.PatternLaw.{store_slot_some}
use Rattle.std.proofs.Common.{◌≡◌, ℕ, ◌+◌, List, [], ◌∷◌, length, None, Some, refl, sym, ap, ◌∙◌, subst, arith}
use Rattle.std.specs.Prelude.{ℤ, pos, ◌+ℤ◌, FitsSigned, slice_get}
use Rattle.std.specs.Int.{w32, cast_unsigned}
use Rattle.cm_isa.specs.declared.convention.TheConstants as reg
use Rattle.cm_isa.specs.Alu as alu
use Rattle.cm_isa.specs.Alu.{int}
use Rattle.cm_isa.specs.Action.{follow}
use Rattle.cm_isa.specs.Machine.{Machine, Code, machine_with}
use Rattle.cm_gen.specs.Returns.{GoesTo}
use Rattle.cm_isa.specs.Register.{with_register}
use Rattle.cm_syntax.specs.declared.stmt.Slot.TheVariants as slot
use Rattle.cm_syntax.specs.declared.stmt.Program.{Program}
use Rattle.cm_syntax.specs.Stack.{Destination, Scalar, Stack}
use Rattle.cm_syntax.specs.Rest.{Item, take_back, discard, deliver, Hand, idle, holds, returned, entering, framing, Control, control}
use Rattle.cm_syntax.specs.Step.{Move, take_value, drop_value, deliver_value, write_step}
use Rattle.cm_meaning.proofs.TypedFramesLaw.{IsPlain}
use Rattle.cm_gen.specs.declared.form.Form.{Form}
use Rattle.cm_gen.specs.Assembler.{addi}
use Rattle.cm_gen.specs.Expression.{slot_offset}
use Rattle.cm_gen.specs.Statement.{assign_code}
use Rattle.cm_gen.specs.Standing.{Stands, slots_here, Coded}
use Rattle.cm_gen.specs.FrameWord.{bits}
use Rattle.cm_gen.specs.Formed.{RestFits, Formed}
use Rattle.cm_gen.specs.StandsFor.{Spot, Placed, ExactAt, LeadsFrom}
use Rattle.cm_gen.proofs.patterns.WordLaw as words
use Rattle.cm_gen.proofs.patterns.StepLaw.{comes_on}
use Rattle.cm_gen.proofs.patterns.PrologueLaw.{set_at}
use Rattle.cm_gen.proofs.patterns.StandingLaw.{straight_end, code_at}
use Rattle.cm_gen.proofs.items.StateLaw.{leads_on, leads_stuck, goes_behind, gives_value, by_held}
use Rattle.cm_gen.proofs.states.FactLaw.{opened, slot_here}
use Rattle.cm_gen.proofs.items.WriteLaw.{puts_scalar}

module _ (program : Program) (form : Form) (page limit : ℕ) (input : List ℤ) (code : Code) where
  abbrev exact : Spot → (left : ℕ) → Control → Stack → Machine → Type 0
  exact = ExactAt program form page input code

  abbrev leads : Spot → (left : ℕ) → (calls : List ℕ) → Stack → Move → Machine → Type 0
  leads = LeadsFrom program form page input code

  -- the machine behind the instruction that takes the result over
  abbrev taken_over : Machine → (value : ℕ) → Machine
  taken_over m n = machine_with m (with_register m.registers reg.VALUE n) (m.counter + 4)

  takes_over : (v : ℤ) (m : Machine) → m.registers reg.RESULT ≡ bits v → FitsSigned w32 v → Stands code m.counter (addi reg.VALUE reg.RESULT (pos 0)) → GoesTo code 1 m (taken_over m (bits v))
  takes_over v m result fits there =
      let b = there.below in
      let small = words.cast_unsigned_below v fits in
      let value : alu.word (int (m.registers reg.RESULT) +ℤ int (cast_unsigned w32 (pos 0))) ≡ bits v =
      ap (λ n. alu.word (int n +ℤ int (cast_unsigned w32 (pos 0)))) result ∙ words.word-add (bits v) 0 small (omega arith) ∙ omega (arith, small) in
      set_at code (addi reg.VALUE reg.RESULT (pos 0)) refl reg.VALUE (bits v) m.counter m refl (omega (arith, b)) there.there (ap (λ n. Some (machine_with m (with_register m.registers reg.VALUE n) (follow m.counter))) value)

  same_taken : (m : Machine) (n : ℕ) → SameRegisters m.registers (with_register m.registers reg.VALUE n)
  same_taken m n = record { zero_is = refl; sp = refl; account = refl; ticks = refl; pointer = refl }

  -- it is a value of an expression
  pub take_back_law : (spot : Spot) (left : ℕ) (calls : List ℕ) (account : ℕ) (hand : Hand) (k : List Item) (h : Stack) (m : Machine) → IsPlain hand
      → exact spot left (control calls account hand (take_back ∷ k)) h m
      → Placed program form page input code hand (take_back ∷ k) calls spot.frames m.registers m.counter
      → leads spot left calls h (take_value (control calls account hand (take_back ∷ k)) h hand k) m
  take_back_law spot left calls account (returned (Some v)) k h m no_call x here =
      gives_value program form page input code x tt k v 1 (taken_over m (bits v)) (m.counter + 4) (takes_over v m here.0 here.1 here.2.0) (same_taken m (bits v)) refl refl refl here.1 x.kept refl here.2.1
  take_back_law spot left calls account (returned None) k h m no_call x here = leads_stuck program form page input code
  take_back_law spot left calls account idle k h m no_call x here = leads_stuck program form page input code
  take_back_law spot left calls account (holds v) k h m no_call x here = leads_stuck program form page input code
  take_back_law spot left calls account (entering f ws) k h m no_call x here = absurd no_call
  take_back_law spot left calls account (framing f ws) k h m no_call x here = absurd no_call

  -- it is dropped
  pub discard_law : (spot : Spot) (left : ℕ) (calls : List ℕ) (account : ℕ) (hand : Hand) (k : List Item) (h : Stack) (m : Machine) → IsPlain hand
      → exact spot left (control calls account hand (discard ∷ k)) h m
      → Placed program form page input code hand (discard ∷ k) calls spot.frames m.registers m.counter
      → leads spot left calls h (drop_value (control calls account hand (discard ∷ k)) h hand k) m
  discard_law spot left calls account (returned None) k h m no_call x here = goes_behind program form page input code x tt k x.kept refl here
  discard_law spot left calls account (returned (Some v)) k h m no_call x here = goes_behind program form page input code x tt k x.kept refl here.2
  discard_law spot left calls account idle k h m no_call x here = leads_stuck program form page input code
  discard_law spot left calls account (holds v) k h m no_call x here = leads_stuck program form page input code
  discard_law spot left calls account (entering f ws) k h m no_call x here = absurd no_call
  discard_law spot left calls account (framing f ws) k h m no_call x here = absurd no_call

  -- it goes into a scalar of the running function
  delivers : (spot : Spot) (left f : ℕ) (calls : List ℕ) (account : ℕ) (v : ℤ) (x : Scalar) (k : List Item) (h : Stack) (m : Machine) → x.depth ≡ length calls
      → slice_get (slots_here program (f ∷ calls)) x.slot ≡ Some slot.Scalar → RestFits program page k (f ∷ calls)
      → exact spot left (control (f ∷ calls) account (returned (Some v)) (deliver (Some x) ∷ k)) h m
      → Placed program form page input code (returned (Some v)) (deliver (Some x) ∷ k) (f ∷ calls) spot.frames m.registers m.counter
      → leads spot left (f ∷ calls) h (write_step (control (f ∷ calls) account (returned (Some v)) (deliver (Some x) ∷ k)) h x.depth x.slot 0 None v k) m
  delivers spot left f calls account v x k h m depth kind fits y here =
      subst (λ d. leads spot left (f ∷ calls) h (write_step (control (f ∷ calls) account (returned (Some v)) (deliver (Some x) ∷ k)) h d x.slot 0 None v k) m) (sym depth)
      (by_held program form page input code (h.words (length calls) x.slot 0) _ (λ some.
      let is = assign_code (slots_here program (f ∷ calls)) x.slot in
      let next = Coded program form page code k (f ∷ calls) spot.frames in
      let n = taken_over m (bits v) in
      let ran = puts_scalar program form page input code y tt k x.slot reg.VALUE v n kind some (same_taken m (bits v)) refl refl refl
      (code_at code is next n.counter (store_slot_some reg.VALUE (slot_offset (slots_here program (f ∷ calls)) x.slot)) here.2.1) (straight_end code is next n.counter here.2.1) fits y.kept refl in
      leads_on program form page input code (1 + ran.0) ran.1 (comes_on code 1 ran.0 m n ran.1 (takes_over v m here.0 here.1 here.2.0) ran.2) ran.3))

  pub deliver_law : (spot : Spot) (left : ℕ) (calls : List ℕ) (account : ℕ) (hand : Hand) (x : Destination) (k : List Item) (h : Stack) (m : Machine) → IsPlain hand
      → Formed program page limit (control calls account hand (deliver x ∷ k)) h
      → exact spot left (control calls account hand (deliver x ∷ k)) h m
      → Placed program form page input code hand (deliver x ∷ k) calls spot.frames m.registers m.counter
      → leads spot left calls h (deliver_value (control calls account hand (deliver x ∷ k)) h hand x k) m
  deliver_law spot left calls account (returned None) None k h m no_call formed y here = goes_behind program form page input code y tt k y.kept refl here
  deliver_law spot left calls account (returned (Some v)) None k h m no_call formed y here = goes_behind program form page input code y tt k y.kept refl here.2
  deliver_law spot left calls account (returned None) (Some x) k h m no_call formed y here = absurd formed.hand_fits
  deliver_law spot left calls account (returned (Some v)) (Some x) k h m no_call formed y here =
      let o = opened program page limit calls account (returned (Some v)) (deliver (Some x)) k h tt tt formed in
      by_calls calls o.calls_are (slot_here program page limit calls account (returned (Some v)) (deliver (Some x) ∷ k) h o x.slot slot.Scalar o.inner.1.1) o.inner.1.0 formed.fits.1 y here
    where
      by_calls : (calls : List ℕ) {f : ℕ} {callers : List ℕ} → calls ≡ f ∷ callers → slice_get (slots_here program calls) x.slot ≡ Some slot.Scalar → x.depth ≡ length callers → RestFits program page k calls
          → exact spot left (control calls account (returned (Some v)) (deliver (Some x) ∷ k)) h m → Placed program form page input code (returned (Some v)) (deliver (Some x) ∷ k) calls spot.frames m.registers m.counter
          → leads spot left calls h (deliver_value (control calls account (returned (Some v)) (deliver (Some x) ∷ k)) h (returned (Some v)) (Some x) k) m
      by_calls [] are kind depth fits y here = cc
      by_calls (f ∷ calls) are kind depth fits y here = let size = ap (λ (l : List ℕ). length l) are in delivers spot left f calls account v x k h m (omega (arith, size, depth)) kind fits y here
  deliver_law spot left calls account idle x k h m no_call formed y here = leads_stuck program form page input code
  deliver_law spot left calls account (holds v) x k h m no_call formed y here = leads_stuck program form page input code
  deliver_law spot left calls account (entering f ws) x k h m no_call formed y here = absurd no_call
  deliver_law spot left calls account (framing f ws) x k h m no_call formed y here = absurd no_call
