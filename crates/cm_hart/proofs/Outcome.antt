-- What the answer of a step tells of the instruction that gave it, and of the step of its machine.
use Rattle.std.proofs.Common.{◌≡◌, ◌≢◌, ◌↔◌, ℕ, ◌%◌, ◌<◌, List, length, Some, arith, refl, sym, ap, subst, ◌∙◌, inl, inr}
use Rattle.std.proofs.lemmas.Bool.Decides.{eqb_tells}
use Rattle.std.specs.Prelude.{ℤ, Bool, true, false, ◌==◌, if◌then◌else◌, ◌⊎◌, slice_index}
use Rattle.cm_isa.specs.Operation.{Operation, ecall}
use Rattle.cm_isa.specs.Format.{Row, form_of, operation_at}
use Rattle.cm_isa.specs.Address.{InstructionAt}
use Rattle.cm_isa.specs.Register.{IsRegisters, put}
use Rattle.cm_isa.specs.View.{View}
use Rattle.cm_isa.specs.declared.execution.Size.{Size}
use Rattle.cm_isa.specs.declared.execution.Action.{Action}
use Rattle.cm_isa.specs.declared.execution.Action.TheVariants.{Sets, Passes, Goes, Links, Loads, Stores, Serves, Breaks}
use Rattle.cm_isa.specs.Action.{kind_action, branch, action_at, follow}
use Rattle.cm_isa.specs.Effect.{Cell, word_in, no_page, nothing, Change, stops, load_change, store_change, action_change, cell_at, is_aligned, MayAccess}
use Rattle.cm_isa.specs.Machine.{Machine, StepsTo, IsMap, machine_of, machine_after}
use Rattle.cm_isa.specs.Run.{Label, silent, call, replied_machine, LabelledStep}
use Rattle.cm_isa.specs.declared.kind.Kind.{Kind}
use Rattle.cm_isa.specs.declared.kind.Kind.TheVariants as kinds
use Rattle.cm_isa.specs.declared.execution.FaultKind.TheVariants as faults
use Rattle.cm_isa.specs.declared.execution.Next.{Next}
use Rattle.cm_isa.specs.declared.execution.Next.TheVariants as next
use Rattle.cm_isa.proofs.Machine.{access_by_machine, length-put, machine_by_outcome, outcome_by_machine, put_result_register, same_machine}
use Rattle.cm_isa.proofs.Image.{image_is_one, rd_below}
use Rattle.cm_hart.specs.declared.hart.Hart.{Hart}
use Rattle.cm_hart.specs.declared.hart.Halt.{Halt}
use Rattle.cm_hart.specs.declared.hart.Halt.TheVariants.{Going, Service, PageFault, Fault}
use Rattle.cm_hart.specs.Step.{halt_of, hart_machine, hart_outcome, pc_after, HasHartOutcome, MayStep}

-- what an answer tells of the action, where x31 has this word: a service is asked for, and a fault of a jump has an address that is no multiple of 4
abbrev Tells : Action → (x31 : ℕ) → Halt → Type 0
Tells x x31 Going = Unit {0}
Tells x x31 (Service n) = (n ≡ x31) × (x ≡ Serves)
Tells x x31 (PageFault address) = Unit {0}
Tells x x31 (Fault faults.Word address) = ⊥
Tells x x31 (Fault faults.Align address) = Unit {0}
Tells x x31 (Fault faults.Place address) = Unit {0}
Tells x x31 (Fault faults.Jump address) = address % 4 ≢ 0
Tells x x31 (Fault faults.Break address) = Unit {0}

-- a choice of two changes
choice_tells : (x : Action) (x31 : ℕ) (test : Bool) (c d : Change) → Tells x x31 (halt_of c.next x31) → Tells x x31 (halt_of d.next x31) → Tells x x31 (halt_of ((if test then c else d).next) x31)
choice_tells x x31 true c d first second = first
choice_tells x x31 false c d first second = second

load_tells : (x : Action) (x31 : ℕ) (cell : Cell) (size : Size) (sign : Bool) (address pc : ℕ) → Tells x x31 (halt_of (load_change cell size sign address pc).next x31)
load_tells x x31 (word_in place word) size sign address pc = tt
load_tells x x31 no_page size sign address pc = tt
load_tells x x31 nothing size sign address pc = tt

store_tells : (x : Action) (x31 : ℕ) (cell : Cell) (size : Size) (address value pc : ℕ) → Tells x x31 (halt_of (store_change cell size address value pc).next x31)
store_tells x x31 (word_in place word) size address value pc = tt
store_tells x x31 no_page size address value pc = tt
store_tells x x31 nothing size address value pc = tt

-- a jump to a target, which is tested
jump_tells : (x : Action) (x31 target : ℕ) (c : Change) → Tells x x31 (halt_of c.next x31) → Tells x x31 (halt_of ((if target % 4 == 0 then c else stops (next.Fault faults.Jump target)).next) x31)
jump_tells x x31 target c first = at (eqb_tells (target % 4) 0)
  where
    at : ((target % 4 == 0) ≡ true × (target % 4 ≡ 0)) ⊎ ((target % 4 == 0) ≡ false × (target % 4 ≢ 0)) → Tells x x31 (halt_of ((if target % 4 == 0 then c else stops (next.Fault faults.Jump target)).next) x31)
    at (inl h) = rw h.0 first
    at (inr h) = rw h.0 h.1

-- each action
change_tells : (memory : ℕ → Cell) (x : Action) (x31 pc : ℕ) → Tells x x31 (halt_of (action_change memory memory x pc).next x31)
change_tells memory (Sets value) x31 pc = tt
change_tells memory Passes x31 pc = tt
change_tells memory (Goes target) x31 pc = jump_tells (Goes target) x31 target _ tt
change_tells memory (Links target) x31 pc = jump_tells (Links target) x31 target _ tt
change_tells memory (Loads size sign address) x31 pc =
    choice_tells (Loads size sign address) x31 (is_aligned size address) (load_change (memory address) size sign address pc) (stops (next.Fault faults.Align address))
    (load_tells (Loads size sign address) x31 (memory address) size sign address pc) tt
change_tells memory (Stores size address value) x31 pc =
    choice_tells (Stores size address value) x31 (is_aligned size address) (store_change (memory address) size address value pc) (stops (next.Fault faults.Align address))
    (store_tells (Stores size address value) x31 (memory address) size address value pc) tt
change_tells memory Serves x31 pc = (refl, refl)
change_tells memory Breaks x31 pc = tt

branch_serves_not : (test : Bool) (target : ℕ) → branch test target ≢ Serves
branch_serves_not true target e = cc
branch_serves_not false target e = cc

-- only an `ecall` asks for a service
ecall_asks : (k : Kind) (imm : ℤ) (pc a b : ℕ) → kind_action k imm pc a b ≡ Serves → k ≡ kinds.Ecall
ecall_asks kinds.Ecall imm pc a b e = refl
ecall_asks kinds.Beq imm pc a b e = absurd (branch_serves_not _ _ e)
ecall_asks kinds.Bne imm pc a b e = absurd (branch_serves_not _ _ e)
ecall_asks kinds.Blt imm pc a b e = absurd (branch_serves_not _ _ e)
ecall_asks kinds.Bge imm pc a b e = absurd (branch_serves_not _ _ e)
ecall_asks kinds.Bltu imm pc a b e = absurd (branch_serves_not _ _ e)
ecall_asks kinds.Bgeu imm pc a b e = absurd (branch_serves_not _ _ e)
ecall_asks k imm pc a b e = cc

-- and all of its fields are 0
asker_is_ecall : (word : ℕ) (i : Operation) (registers : ℕ → ℕ) (pc : ℕ) → Row word i → action_at i registers pc ≡ Serves → i ≡ ecall
asker_is_ecall word i registers pc row e = row.fields ∙ ap (λ (k : Kind). operation_at (form_of k) k word) (ecall_asks i.kind i.imm pc _ _ e)

-- the instruction at the pc of a hart, and the answer, the hart and the memory after it
pub record Answers (image : List ℕ) (view : View) (i : Operation) (hart : Hart) (answer : Halt) (new : Hart) (memory : View) : Type 0 where
  pub there : InstructionAt image hart.pc i
  pub leaves : HasHartOutcome (hart_outcome view i hart) hart answer new memory

module _ (image : List ℕ) (view : View) (i : Operation) (hart : Hart) (answer : Halt) (new : Hart) (memory : View) (answers : Answers image view i hart answer new memory) where
  answer_tells : Tells (action_at i (slice_index hart.regs) hart.pc) (slice_index hart.regs 31) answer
  answer_tells =
      let asks = action_at i (slice_index hart.regs) hart.pc in
      subst (Tells asks (slice_index hart.regs 31)) (sym answers.leaves.halt_is) (change_tells (cell_at view) asks (slice_index hart.regs 31) hart.pc)

  -- a service is the answer exactly where an `ecall` is at the pc
  pub service_answers : (n : ℕ) → (answer ≡ Service n) ↔ ((n ≡ slice_index hart.regs 31) × InstructionAt image hart.pc ecall)
  service_answers n = (to, from)
    where
      to : answer ≡ Service n → (n ≡ slice_index hart.regs 31) × InstructionAt image hart.pc ecall
      to e =
          let tells = subst (Tells (action_at i (slice_index hart.regs) hart.pc) (slice_index hart.regs 31)) e answer_tells in
          (tells.0, subst (InstructionAt image hart.pc) (asker_is_ecall _ i (slice_index hart.regs) hart.pc answers.there.2 tells.1) answers.there)

      from : (n ≡ slice_index hart.regs 31) × InstructionAt image hart.pc ecall → answer ≡ Service n
      from h =
          answers.leaves.halt_is
          ∙ ap (λ (j : Operation). halt_of (hart_outcome view j hart).next (slice_index hart.regs 31)) (image_is_one image hart.pc i ecall answers.there h.1)
          ∙ ap Service (sym h.0)

  -- a fault of a jump has an address that is no multiple of 4
  pub jump_answers : (a : ℕ) → answer ≡ Fault faults.Jump a → a % 4 ≢ 0
  jump_answers a e = subst (Tells (action_at i (slice_index hart.regs) hart.pc) (slice_index hart.regs 31)) e answer_tells

  going_next : (n : Next) (x31 pc : ℕ) → halt_of n x31 ≡ Going → n ≡ next.At (pc_after n pc)
  going_next (next.At address) x31 pc e = refl
  going_next next.Service x31 pc e = cc
  going_next (next.PageFault address) x31 pc e = cc
  going_next (next.Fault kind address) x31 pc e = cc

  -- a step that is done leaves the pc at the next address
  pub going_answers : answer ≡ Going → (hart_outcome view i hart).next ≡ next.At new.pc
  going_answers e =
      going_next (hart_outcome view i hart).next (slice_index hart.regs 31) hart.pc (sym answers.leaves.halt_is ∙ e) ∙ ap (λ (h : Hart). next.At h.pc) (sym answers.leaves.hart_is)

  -- the machine of the outcome, where an address is next
  outcome_machine : (address : ℕ) → (hart_outcome view i hart).next ≡ next.At address
      → machine_of (hart_outcome view i hart).memory (hart_outcome view i hart).registers address ≡ hart_machine memory new
  outcome_machine address e =
      let pc : address ≡ new.pc = ap (λ (n : Next). pc_after n hart.pc) (sym e) ∙ ap (λ (h : Hart). h.pc) (sym answers.leaves.hart_is) in
      ap (λ (after : View). machine_of after (hart_outcome view i hart).registers address) (sym answers.leaves.memory_is)
      ∙ ap (λ (h : Hart). machine_of memory h.regs address) (sym answers.leaves.hart_is)
      ∙ ap (machine_of memory new.regs) pc

  -- the machine takes this step exactly where the answer is Going
  pub machine_answers : IsRegisters hart.regs → MayAccess view (action_at i (slice_index hart.regs) hart.pc) → IsMap view → (m : Machine)
      → StepsTo (InstructionAt image) (hart_machine view hart) m ↔ ((answer ≡ Going) × (m ≡ hart_machine memory new))
  machine_answers registers may map m = (to, from)
    where
      within : i.rd < length hart.regs
      within = subst (λ n. i.rd < n) (sym registers.count) (rd_below _ i answers.there.2)

      to : StepsTo (InstructionAt image) (hart_machine view hart) m → (answer ≡ Going) × (m ≡ hart_machine memory new)
      to step =
          let same = image_is_one image hart.pc step.instruction i step.there answers.there in
          let effect = ap (λ (j : Operation). machine_after j (hart_machine view hart)) (sym same) ∙ step.effect in
          let goes = outcome_by_machine view map hart.regs hart.pc i within m effect in (
            answers.leaves.halt_is ∙ ap (λ (n : Next). halt_of n (slice_index hart.regs 31)) goes.0,
            sym goes.1 ∙ outcome_machine m.counter goes.0,
          )

      from : (answer ≡ Going) × (m ≡ hart_machine memory new) → StepsTo (InstructionAt image) (hart_machine view hart) m
      from h =
          let goes = going_answers h.0 in
          record {
            instruction = i;
            there = answers.there;
            effect = machine_by_outcome view map hart.regs hart.pc i within new.pc may goes ∙ ap Some (outcome_machine new.pc goes ∙ sym h.1);
          }

-- a machine that takes a step touches what is allowed
pub may_step : (view : View) (image : List ℕ) (hart : Hart) (label : Label) (m : Machine) → IsMap view → LabelledStep (InstructionAt image) label (hart_machine view hart) m → MayStep view image hart
may_step view image hart silent m map step = λ i there.
    let same = image_is_one image hart.pc step.instruction i step.there there in
    access_by_machine view map hart.regs hart.pc i m (ap (λ (j : Operation). machine_after j (hart_machine view hart)) (sym same) ∙ step.effect)
may_step view image hart (call c) m map step = λ i there.
    subst (λ (j : Operation). MayAccess view (action_at j (slice_index hart.regs) hart.pc)) (image_is_one image hart.pc ecall i step.0 there) tt

-- the machine of a hart that got a reply
pub reply_machine : (view : View) (hart : Hart) (value : ℕ) (regs : List ℕ) → regs ≡ put hart.regs 5 value → IsRegisters regs
    → hart_machine view (record { regs = regs; pc = follow hart.pc }) ≡ replied_machine (hart_machine view hart) (Some value)
reply_machine view hart value regs is shape =
    let within : 5 < length hart.regs = omega (arith, shape.count, ap length is, length-put hart.regs 5 value) in
    same_machine _ _ (ap slice_index is ∙ put_result_register hart.regs 5 (Some value) within) refl refl
