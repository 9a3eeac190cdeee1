-- A run of an image has one number of steps.
use Rattle.std.proofs.Common.{◌≡◌, ℕ, suc, ◌*◌, List, [], ◌∷◌, ◌++◌, Some, None, refl, sym, ap, ◌∙◌, subst}
use Rattle.std.specs.Prelude.{ℤ}
use Rattle.std.specs.Int.{w32, cast_signed}
use Rattle.cm_isa.specs.Address.{InstructionAt}
use Rattle.cm_isa.specs.Machine.{Machine, Code, StepsTo}
use Rattle.cm_isa.specs.Run.{silent, replied_machine}
use Rattle.cm_isa.specs.declared.convention.TheConstants as reg
use Rattle.cm_isa.proofs.Run.{call_is_no_step, runs_are_one}
use Rattle.cm_isa.proofs.Image.{image_is_one}
use Rattle.cm_syntax.specs.declared.stmt.Program.{Program}
use Rattle.cm_meaning.specs.End.{End}
use Rattle.cm_meaning.specs.declared.ended.Limits.{Limits}
use Rattle.cm_serial.specs.declared.service.Stop.{Stop}
use Rattle.cm_serial.specs.declared.service.Answer.{Answer}
use Rattle.cm_serial.specs.declared.service.Answer.TheVariants as answer
use Rattle.cm_serial.specs.Run.{Asks, RunEnds, stops, step, prints, hears, stack_bytes}
use Rattle.cm_serial.specs.Stack.{start_machine}
use Rattle.cilkm.specs.Verdict.{HasSteps}

module _ (words : List ℕ) (input : List ℤ) (ticks : ℕ) where
  -- one machine comes behind an instruction
  one_step : (m a b : Machine) → StepsTo (InstructionAt words) m a → StepsTo (InstructionAt words) m b → a ≡ b
  one_step m a b x y = (runs_are_one (InstructionAt words) (image_is_one words) (silent ∷ []) (silent ∷ []) m a b (a, x, refl) (b, y, refl) refl refl).1

  -- a service is no instruction that goes on
  no_step : (m a : Machine) (done : Answer) → StepsTo (InstructionAt words) m a → Asks (InstructionAt words) input done m → ⊥
  no_step m a done x asks = call_is_no_step (InstructionAt words) (image_is_one words) m a x asks.there

  -- and one thing is done at it
  one_done : (m : Machine) (a b : Answer) → Asks (InstructionAt words) input a m → Asks (InstructionAt words) input b m → a ≡ b
  one_done m a b x y = sym x.answer_is ∙ y.answer_is

  stops_or_prints : (m : Machine) (by : Stop) → Asks (InstructionAt words) input (answer.Stops by) m → Asks (InstructionAt words) input answer.Prints m → ⊥
  stops_or_prints m by x y = let same = one_done m (answer.Stops by) answer.Prints x y in cc

  stops_or_hears : (m : Machine) (by : Stop) (word : ℕ) → Asks (InstructionAt words) input (answer.Stops by) m → Asks (InstructionAt words) input (answer.Replies word) m → ⊥
  stops_or_hears m by word x y = let same = one_done m (answer.Stops by) (answer.Replies word) x y in cc

  prints_or_hears : (m : Machine) (word : ℕ) → Asks (InstructionAt words) input answer.Prints m → Asks (InstructionAt words) input (answer.Replies word) m → ⊥
  prints_or_hears m word x y = let same = one_done m answer.Prints (answer.Replies word) x y in cc

  one_word : (m : Machine) (v w : ℕ) → Asks (InstructionAt words) input (answer.Replies v) m → Asks (InstructionAt words) input (answer.Replies w) m → v ≡ w
  one_word m v w x y = let same = one_done m (answer.Replies v) (answer.Replies w) x y in cc

  -- so the run of a machine has one number of steps
  pub one_number : (m : Machine) (printed : List ℤ) (i j : ℕ) (e f : End) → RunEnds (InstructionAt words) input ticks m printed i e
      → RunEnds (InstructionAt words) input ticks m printed j f → i ≡ j
  one_number m printed _ _ e f (stops by x is) (stops other y was) = refl
  one_number m printed _ _ e f (stops by x is) (step {next = next} y run) = absurd (no_step m next (answer.Stops by) y x)
  one_number m printed _ _ e f (stops by x is) (prints y run) = absurd (stops_or_prints m by x y)
  one_number m printed _ _ e f (stops by x is) (hears word y run) = absurd (stops_or_hears m by word x y)
  one_number m printed _ _ e f (step {next = next} x run) (stops by y is) = absurd (no_step m next (answer.Stops by) x y)
  one_number m printed _ _ e f (step {next = next} {steps = i} x run) (step {next = other} {steps = j} y more) =
      ap suc (one_number next printed i j e f run (subst (λ (q : Machine). RunEnds (InstructionAt words) input ticks q printed j f) (one_step m other next y x) more))
  one_number m printed _ _ e f (step {next = next} x run) (prints y more) = absurd (no_step m next answer.Prints x y)
  one_number m printed _ _ e f (step {next = next} x run) (hears word y more) = absurd (no_step m next (answer.Replies word) x y)
  one_number m printed _ _ e f (prints x run) (stops by y is) = absurd (stops_or_prints m by y x)
  one_number m printed _ _ e f (prints x run) (step {next = next} y more) = absurd (no_step m next answer.Prints y x)
  one_number m printed _ _ e f (prints {steps = i} x run) (prints {steps = j} y more) =
      ap suc (one_number (replied_machine m None) (printed ++ cast_signed w32 (m.registers reg.VALUE) ∷ []) i j e f run more)
  one_number m printed _ _ e f (prints x run) (hears word y more) = absurd (prints_or_hears m word x y)
  one_number m printed _ _ e f (hears word x run) (stops by y is) = absurd (stops_or_hears m by word y x)
  one_number m printed _ _ e f (hears word x run) (step {next = next} y more) = absurd (no_step m next (answer.Replies word) y x)
  one_number m printed _ _ e f (hears word x run) (prints y more) = absurd (prints_or_hears m word y x)
  one_number m printed _ _ e f (hears {steps = i} word x run) (hears {steps = j} other y more) =
      ap suc (one_number (replied_machine m (Some word)) printed i j e f run
      (subst (λ w. RunEnds (InstructionAt words) input ticks (replied_machine m (Some w)) printed j f) (one_word m other word y x) more))

-- and so has a program's run
pub HasSteps-one : (program : Program) (numbers : List ℤ) (limits : Limits) (i j : ℕ) → HasSteps program numbers limits i → HasSteps program numbers limits j → i ≡ j
HasSteps-one program numbers limits i j x y =
    let first = x.steps_are x.words x.code in
    let second = y.steps_are x.words x.code in
    one_number x.words numbers limits.ticks (start_machine (limits.stack * limits.page) limits.ticks program.main) [] i j first.0 second.0 first.1 second.1
