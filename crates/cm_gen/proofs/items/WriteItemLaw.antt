-- The laws of what writes a variable: assignments, updates and declared scalars.
use Rattle.cm_gen.proofs.patterns.LeavesLaw.{SameRegisters, same_self, same_after, same_leaves}
use Rattle.cm_gen.proofs.patterns.PatternLaw.{store_slot_some}
use Rattle.std.proofs.Common.{◌≡◌, ℕ, ◌+◌, ◌*◌, List, [], ◌∷◌, ◌++◌, length, None, Some, refl, ◌∙◌, subst, arith, length-append}
use Rattle.std.specs.Prelude.{ℤ, FitsSigned, slice_get}
use Rattle.std.specs.Int.{w32}
use Rattle.cm_isa.specs.declared.convention.TheConstants as reg
use Rattle.cm_isa.specs.Machine.{Machine, Code}
use Rattle.cm_syntax.specs.declared.expr.Op.{Op}
use Rattle.cm_syntax.specs.declared.stmt.Slot.TheVariants as slot
use Rattle.cm_syntax.specs.declared.stmt.Program.{Program}
use Rattle.cm_syntax.specs.Operator.{binary_value}
use Rattle.cm_syntax.specs.Cell.{value_in}
use Rattle.cm_syntax.specs.Stack.{Stack}
use Rattle.cm_syntax.specs.Rest.{Item, assign, update, Hand, holds, control}
use Rattle.cm_syntax.specs.Step.{write_step, item_step}
use Rattle.cm_meaning.proofs.TypedFramesLaw.{IsPlain}
use Rattle.cm_gen.specs.declared.form.Form.{Form}
use Rattle.cm_gen.specs.Code.{load_slot}
use Rattle.cm_gen.specs.Expression.{slot_offset, operator_code}
use Rattle.cm_gen.specs.Statement.{assign_code}
use Rattle.cm_gen.specs.Formed.{RestFits, Formed}
use Rattle.cm_gen.specs.Standing.{LeadsTo, slots_here, Coded}
use Rattle.cm_gen.specs.StandsFor.{Spot, Placed, ExactAt, LeadsFrom}
use Rattle.cm_gen.proofs.patterns.StepLaw.{comes_on}
use Rattle.cm_gen.proofs.patterns.StandingLaw.{straight_end, code_at, code_front, code_back}
use Rattle.cm_gen.proofs.items.StateLaw.{leads_to, leads_on, by_held, by_present, by_result, with_value}
use Rattle.cm_gen.proofs.states.FactLaw.{opened, slot_here}
use Rattle.cm_gen.proofs.items.WriteLaw.{loads_scalar, puts_scalar}
use Rattle.cm_gen.proofs.patterns.OperatorLaw.{operator_runs, operator_traps}

module _ (program : Program) (form : Form) (page limit : ℕ) (input : List ℤ) (code : Code) where
  module _ (spot : Spot) (left f : ℕ) (calls : List ℕ) (account : ℕ) (v : ℤ) (k : List Item) (h : Stack) (m : Machine) where
    abbrev exact : List Item → Type 0
    exact l = ExactAt program form page input code spot left (control (f ∷ calls) account (holds v) l) h m

    abbrev place : List Item → Type 0
    place l = Placed program form page input code (holds v) l (f ∷ calls) spot.frames m.registers m.counter

    assign_by : (s : ℕ) → slice_get (slots_here program (f ∷ calls)) s ≡ Some slot.Scalar → RestFits program page k (f ∷ calls) → exact (assign s ∷ k) → place (assign s ∷ k)
        → LeadsFrom program form page input code spot left (f ∷ calls) h (write_step (control (f ∷ calls) account (holds v) (assign s ∷ k)) h (length calls) s 0 None v k) m
    assign_by s kind fits x here = by_held program form page input code (h.words (length calls) s 0) _ (λ some.
        let is = assign_code (slots_here program (f ∷ calls)) s in
        let next = Coded program form page code k (f ∷ calls) spot.frames in
        let ran = puts_scalar program form page input code x tt k s reg.VALUE v m kind some (same_self m.registers) refl refl here.0
        (code_at code is next m.counter (store_slot_some reg.VALUE (slot_offset (slots_here program (f ∷ calls)) s)) here.2) (straight_end code is next m.counter here.2) fits x.kept refl in
        leads_on program form page input code ran.0 ran.1 ran.2 ran.3)

    -- behind the old word comes the operator, and then the store
    update_by : (s : ℕ) (o : Op) → slice_get (slots_here program (f ∷ calls)) s ≡ Some slot.Scalar → RestFits program page k (f ∷ calls) → ((d t i : ℕ) (w : ℤ) → value_in (h.words d t i) ≡ Some w → FitsSigned w32 w)
        → exact (update s o ∷ k) → place (update s o ∷ k)
        → LeadsFrom program form page input code spot left (f ∷ calls) h (write_step (control (f ∷ calls) account (holds v) (update s o ∷ k)) h (length calls) s 0 (Some o) v k) m
    update_by s o kind fits small x here = by_held program form page input code (h.words (length calls) s 0) _ (λ some. by_present program form page input code (h.words (length calls) s 0) _ (λ old is.
        let slots = slots_here program (f ∷ calls) in
        let offset_is = slot_offset slots s in
        let loads = load_slot reg.LEFT offset_is in
        let puts = assign_code slots s in
        let next = Coded program form page code k (f ∷ calls) spot.frames in
        let size = length-append loads (operator_code o ++ puts) in
        let sized = length-append (operator_code o) puts in
        let some_puts = store_slot_some reg.VALUE offset_is in
        let there = code_at code (loads ++ (operator_code o ++ puts)) next m.counter (omega (arith, size, sized, some_puts)) here.2 in
        let front = code_front code loads (operator_code o ++ puts) there in
        let back = code_back code loads (operator_code o ++ puts) refl there in
        let first = loads_scalar program form page input code x s reg.LEFT old kind is refl refl front in
        let n = first.0 in
        let does = first.2 in
        let same : SameRegisters m.registers n.registers = same_leaves refl does in
        let value = does.kept reg.VALUE refl ∙ here.0 in
        let zero_is = same.zero_is ∙ x.zero_is in
        let behind = code_back code loads (operator_code o ++ puts) does.counter there in
        by_result program form page input code o (binary_value o old v) _
        (λ w result.
        let second = operator_runs code n zero_is old v (small (length calls) s 0 old is) here.1 does.value value o w result (code_front code (operator_code o) puts behind) in
        let t = second.1 in
        let does2 = second.3 in
        let later : SameRegisters m.registers t.registers = same_after same (same_leaves refl does2) in
        let last = puts_scalar program form page input code x tt k s reg.VALUE w t kind some later (does2.words ∙ does.words) refl does2.value
        (code_back code (operator_code o) puts does2.counter behind)
        (let c1 = does.counter in let c2 = does2.counter in let e : m.counter + 4 * length (loads ++ (operator_code o ++ puts)) ≡ t.counter + 4 * length puts = omega (arith, c1, c2, size, sized) in
        subst (LeadsTo code next) e (straight_end code (loads ++ (operator_code o ++ puts)) next m.counter here.2))
        fits x.kept refl in
        leads_on program form page input code (length loads + (second.0 + last.0)) last.1
        (comes_on code (length loads) (second.0 + last.0) m n last.1 first.1 (comes_on code second.0 last.0 n t last.1 second.2 last.2)) last.3)
        (λ result divides_is.
        let second = operator_traps code n zero_is old v (small (length calls) s 0 old is) here.1 does.value value o result divides_is (code_front code (operator_code o) puts behind) in
        leads_to program form page input code (length loads + second.0) second.1 (comes_on code (length loads) second.0 m n second.1 first.1 second.2) (record { there = second.3; number_is = second.4 }, second.5 ∙ same.ticks ∙ x.left_is))))

  pub assign_law : (s : ℕ) (spot : Spot) (left : ℕ) (calls : List ℕ) (account : ℕ) (hand : Hand) (k : List Item) (h : Stack) (m : Machine) → IsPlain hand
      → Formed program page limit (control calls account hand (assign s ∷ k)) h
      → ExactAt program form page input code spot left (control calls account hand (assign s ∷ k)) h m
      → Placed program form page input code hand (assign s ∷ k) calls spot.frames m.registers m.counter
      → LeadsFrom program form page input code spot left calls h (item_step program page input (control calls account hand (assign s ∷ k)) h (assign s) k) m
  assign_law s spot left calls account hand k h m none formed x here =
      let o = opened program page limit calls account hand (assign s) k h none tt formed in
      at calls (slot_here program page limit calls account hand (assign s ∷ k) h o s slot.Scalar o.inner.1) formed.fits.1 x here
    where
      at : (calls : List ℕ) → slice_get (slots_here program calls) s ≡ Some slot.Scalar → RestFits program page k calls
          → ExactAt program form page input code spot left (control calls account hand (assign s ∷ k)) h m
          → Placed program form page input code hand (assign s ∷ k) calls spot.frames m.registers m.counter
          → LeadsFrom program form page input code spot left calls h (item_step program page input (control calls account hand (assign s ∷ k)) h (assign s) k) m
      at [] e fits x here = cc
      at (f ∷ calls) e fits x here = with_value program form page input code hand _ x here (λ v x here. assign_by spot left f calls account v k h m s e fits x here)

  pub update_law : (s : ℕ) (o : Op) (spot : Spot) (left : ℕ) (calls : List ℕ) (account : ℕ) (hand : Hand) (k : List Item) (h : Stack) (m : Machine) → IsPlain hand
      → Formed program page limit (control calls account hand (update s o ∷ k)) h
      → ExactAt program form page input code spot left (control calls account hand (update s o ∷ k)) h m
      → Placed program form page input code hand (update s o ∷ k) calls spot.frames m.registers m.counter
      → LeadsFrom program form page input code spot left calls h (item_step program page input (control calls account hand (update s o ∷ k)) h (update s o) k) m
  update_law s o spot left calls account hand k h m none formed x here =
      let y = opened program page limit calls account hand (update s o) k h none tt formed in
      at calls (slot_here program page limit calls account hand (update s o ∷ k) h y s slot.Scalar y.inner.1.1) formed.fits.1 x here
    where
      at : (calls : List ℕ) → slice_get (slots_here program calls) s ≡ Some slot.Scalar → RestFits program page k calls
          → ExactAt program form page input code spot left (control calls account hand (update s o ∷ k)) h m
          → Placed program form page input code hand (update s o ∷ k) calls spot.frames m.registers m.counter
          → LeadsFrom program form page input code spot left calls h (item_step program page input (control calls account hand (update s o ∷ k)) h (update s o) k) m
      at [] e fits x here = cc
      at (f ∷ calls) e fits x here = with_value program form page input code hand _ x here (λ v x here. update_by spot left f calls account v k h m s o e fits formed.small x here)
