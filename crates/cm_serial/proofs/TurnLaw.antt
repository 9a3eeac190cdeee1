-- What one step of a run leaves: the run from before it goes on from behind it, or is stopped.
use Rattle.std.proofs.Common.{◌≡◌, ◌≢◌, ◌↔◌, ℕ, suc, List, [], ◌∷◌, ◌++◌, Option, None, Some, refl, sym, ap, ◌∙◌, subst, arith}
use Rattle.std.proofs.lemmas.List.{append_assoc}
use Rattle.std.specs.Prelude.{ℤ, slice_index}
use Rattle.std.specs.Int.{w32, cast_signed}
use Rattle.cm_isa.specs.Address.{InstructionAt}
use Rattle.cm_isa.specs.Action.{follow}
use Rattle.cm_isa.specs.Machine.{Machine, Code, StepsTo}
use Rattle.cm_isa.specs.Operation.{ecall}
use Rattle.cm_isa.specs.Register.{IsRegisters}
use Rattle.cm_isa.specs.Run.{replied_machine}
use Rattle.cm_isa.specs.View.{View}
use Rattle.cm_isa.specs.declared.convention.TheConstants as reg
use Rattle.cm_isa.specs.declared.execution.FaultKind.{FaultKind}
use Rattle.cm_isa.proofs.Machine.{put_result_register}
use Rattle.cm_hart.specs.Step.{hart_machine, replied_hart}
use Rattle.cm_hart.specs.declared.hart.Hart.{Hart}
use Rattle.cm_hart.specs.declared.hart.Halt.{Halt}
use Rattle.cm_hart.specs.declared.hart.Halt.TheVariants.{Going, Service, Fault}
use Rattle.cm_meaning.specs.End.{End}
use Rattle.cm_meaning.specs.Output.{Entry, Number, Open, Filled, numbers_of}
use Rattle.cm_serial.specs.declared.service.Stop.{Stop}
use Rattle.cm_serial.specs.declared.service.Answer.{Answer}
use Rattle.cm_serial.specs.declared.service.Answer.TheVariants as answer
use Rattle.cm_serial.specs.Service.{answer_at}
use Rattle.cm_serial.specs.Run.{Asks, StopsAs, RunEnds, stops, step, prints, hears}
use Rattle.cm_serial.specs.Turn.{Leaves, DoneAt}

-- a number that is printed last
numbers_last : (before : List Entry) (v : ℤ) → numbers_of (before ++ Number v ∷ []) ≡ numbers_of before ++ v ∷ []
numbers_last [] v = refl
numbers_last (Number w ∷ before) v = ap (λ numbers. w ∷ numbers) (numbers_last before v)
numbers_last (Open ∷ before) v = numbers_last before v
numbers_last (Filled numbers ∷ before) v = ap (λ more. numbers ++ more) (numbers_last before v) ∙ sym (append_assoc numbers (numbers_of before) (v ∷ []))

-- the machine of a hart after a reply
replied : (view : View) (hart : Hart) (reply : Option ℕ) → IsRegisters hart.regs → hart_machine view (replied_hart hart reply) ≡ replied_machine (hart_machine view hart) reply
replied view hart reply shape =
    let count = shape.count in
    ap (λ (registers : ℕ → ℕ). record { registers = registers; counter = follow hart.pc; words = (hart_machine view hart).words }) (put_result_register hart.regs reg.VALUE reply (omega (arith, count)))

module _ (image : List ℕ) (input : List ℤ) (view : View) (hart : Hart) (done : Halt) (memory : View) (new : Hart)
    (machine : (m : Machine) → StepsTo (InstructionAt image) (hart_machine view hart) m ↔ ((done ≡ Going) × (m ≡ hart_machine memory new)))
    (service : (n : ℕ) → (done ≡ Service n) ↔ ((n ≡ slice_index hart.regs reg.SERVICE) × InstructionAt image hart.pc ecall))
    (halts : done ≢ Going → (new ≡ hart) × (memory ≡ view)) where
  abbrev pub code : Code
  code = InstructionAt image

  -- where the machine asks for a service, the step tells so
  told : (a : Answer) → Asks code input a (hart_machine view hart) → done ≡ Service (slice_index hart.regs reg.SERVICE)
  told a asks = (service (slice_index hart.regs reg.SERVICE)).1 (refl, asks.there)

  not_going : (n : ℕ) → done ≡ Service n → done ≢ Going
  not_going n e f = cc

  not_fault : (n : ℕ) (kind : FaultKind) (address : ℕ) → done ≡ Service n → done ≡ Fault kind address → ⊥
  not_fault n kind address e f = cc

  going_faults : (kind : FaultKind) (address : ℕ) → done ≡ Going → done ≡ Fault kind address → ⊥
  going_faults kind address e f = cc

  number_is : (n m : ℕ) → done ≡ Service n → done ≡ Service m → n ≡ m
  number_is n m e f = cc

  -- on the way to an end nothing faults
  pub faults_not : (ticks : ℕ) (e : End) (printed : List ℤ) (steps : ℕ) (kind : FaultKind) (address : ℕ) → done ≡ Fault kind address
      → RunEnds code input ticks (hart_machine view hart) printed steps e → ⊥
  faults_not ticks e printed _ kind address is (stops by asks s) = not_fault _ kind address (told _ asks) is
  faults_not ticks e printed _ kind address is (step {next = next} s more) = going_faults kind address ((machine next).0 s).0 is
  faults_not ticks e printed _ kind address is (prints asks more) = not_fault _ kind address (told _ asks) is
  faults_not ticks e printed _ kind address is (hears word asks more) = not_fault _ kind address (told _ asks) is

  -- an instruction is done
  pub goes_on : (ticks : ℕ) (e : End) (printed : List ℤ) (steps : ℕ) → done ≡ Going → RunEnds code input ticks (hart_machine view hart) printed steps e
      → Leaves code input ticks None (hart_machine memory new) printed steps e
  goes_on ticks e printed _ is (stops by asks s) = absurd (not_going _ (told _ asks) is)
  goes_on ticks e printed _ is (step {next = next} {steps = left} s more) = (left, refl, subst (λ m. RunEnds code input ticks m printed left e) ((machine next).0 s).1 more)
  goes_on ticks e printed _ is (prints asks more) = absurd (not_going _ (told _ asks) is)
  goes_on ticks e printed _ is (hears word asks more) = absurd (not_going _ (told _ asks) is)

  -- a service is done
  module _ (n : ℕ) (is : done ≡ Service n) where
    unchanged : (new ≡ hart) × (memory ≡ view)
    unchanged = halts (not_going n is)

    -- what the environment does at it
    does : (a : Answer) → Asks code input a (hart_machine view hart) → answer_at input n (slice_index new.regs reg.VALUE) ≡ a
    does a asks =
        ap (λ (h : Hart). answer_at input n (slice_index h.regs reg.VALUE)) unchanged.0
        ∙ ap (λ number. answer_at input number (slice_index hart.regs reg.VALUE)) (number_is n (slice_index hart.regs reg.SERVICE) is (told a asks)) ∙ asks.answer_is

    no_instruction : (next : Machine) → StepsTo code (hart_machine view hart) next → ⊥
    no_instruction next s = not_going n is ((machine next).0 s).0

    nothing : (a : Answer) → a ≡ answer.Nothing → (a ≢ answer.Nothing) → ⊥
    nothing a e f = f e

    pub known : (ticks : ℕ) (e : End) (printed : List ℤ) (steps : ℕ) → RunEnds code input ticks (hart_machine view hart) printed steps e
        → answer_at input n (slice_index new.regs reg.VALUE) ≢ answer.Nothing
    known ticks e printed _ (stops by asks s) none = differs (sym (does _ asks) ∙ none)
      where
        differs : answer.Stops by ≡ answer.Nothing → ⊥
        differs x = cc
    known ticks e printed _ (step {next = next} s more) none = no_instruction next s
    known ticks e printed _ (prints asks more) none = differs (sym (does _ asks) ∙ none)
      where
        differs : answer.Prints ≡ answer.Nothing → ⊥
        differs x = cc
    known ticks e printed _ (hears word asks more) none = differs (sym (does _ asks) ∙ none)
      where
        differs : answer.Replies word ≡ answer.Nothing → ⊥
        differs x = cc

    -- what is done at it, by the hart as it was
    same_done : (a : Answer) (stop : Option Stop) (last : Hart) (before after : List Entry) → Asks code input a (hart_machine view hart)
        → DoneAt (answer_at input n (slice_index new.regs reg.VALUE)) stop new last before after → DoneAt a stop hart last before after
    same_done a stop last before after asks d =
        subst (λ (h : Hart). DoneAt a stop h last before after) unchanged.0 (subst (λ x. DoneAt x stop new last before after) (does a asks) d)

    pub served : (ticks : ℕ) (e : End) (steps : ℕ) (before after : List Entry) (stop : Option Stop) (last : Hart) → IsRegisters new.regs
        → DoneAt (answer_at input n (slice_index new.regs reg.VALUE)) stop new last before after
        → RunEnds code input ticks (hart_machine view hart) (numbers_of before) steps e
        → Leaves code input ticks stop (hart_machine memory last) (numbers_of after) steps e
    served ticks e _ before after stop last shape d (stops by asks s) =
        let x = same_done _ stop last before after asks d in
        subst (λ o. Leaves code input ticks o (hart_machine memory last) (numbers_of after) 1 e) (sym x.0)
        (refl, subst (λ (h : Hart). StopsAs ticks by (numbers_of after) (slice_index h.regs) e) (sym x.1) (subst (λ entries. StopsAs ticks by (numbers_of entries) (slice_index hart.regs) e) (sym x.2) s))
    served ticks e _ before after stop last shape d (step {next = next} s more) = absurd (no_instruction next s)
    served ticks e _ before after stop last shape d (prints {steps = left} asks more) =
        let x = same_done _ stop last before after asks d in
        let there = replied view hart None (subst (λ (h : Hart). IsRegisters h.regs) unchanged.0 shape) in
        let numbers = ap numbers_of x.2 ∙ numbers_last before (cast_signed w32 (slice_index hart.regs reg.VALUE)) in
        let place = ap (λ v. hart_machine v last) unchanged.1 ∙ ap (hart_machine view) x.1 ∙ there in
        subst (λ o. Leaves code input ticks o (hart_machine memory last) (numbers_of after) (suc left) e) (sym x.0) (
          left,
          refl,
          subst (λ m. RunEnds code input ticks m (numbers_of after) left e) (sym place)
              (subst (λ printed. RunEnds code input ticks (replied_machine (hart_machine view hart) None) printed left e) (sym numbers) more),
        )
    served ticks e _ before after stop last shape d (hears {steps = left} word asks more) =
        let x = same_done _ stop last before after asks d in
        let there = replied view hart (Some word) (subst (λ (h : Hart). IsRegisters h.regs) unchanged.0 shape) in
        let place = ap (λ v. hart_machine v last) unchanged.1 ∙ ap (hart_machine view) x.1 ∙ there in
        subst (λ o. Leaves code input ticks o (hart_machine memory last) (numbers_of after) (suc left) e) (sym x.0) (
          left,
          refl,
          subst (λ m. RunEnds code input ticks m (numbers_of after) left e) (sym place)
              (subst (λ printed. RunEnds code input ticks (replied_machine (hart_machine view hart) (Some word)) printed left e) (sym (ap numbers_of x.2)) more),
        )
