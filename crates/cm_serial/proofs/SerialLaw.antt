-- The run of a build from its start, and the number of its steps over whatever words of the same instructions.
use Rattle.std.proofs.Common.{◌≡◌, ℕ, zero, suc, ◌/◌, ◌<◌, ◌≤◌, List, [], ◌∷◌, length, sym, subst, arith}
use Rattle.std.proofs.lemmas.Option.{slice_get_within}
use Rattle.std.specs.Prelude.{ℤ, All, Contains, FitsSigned, slice_index, replicate}
use Rattle.std.specs.Int.{w32}
use Rattle.cm_isa.specs.Address.{AreWordsOf, InstructionAt}
use Rattle.cm_isa.specs.Format.{Row}
use Rattle.cm_isa.specs.Machine.{Machine, Code, machine_of}
use Rattle.cm_isa.specs.Operation.{Operation}
use Rattle.cm_isa.proofs.Image.{one_row}
use Rattle.cm_syntax.specs.declared.stmt.Program.{Program}
use Rattle.cm_hart.specs.Step.{hart_machine}
use Rattle.cm_meaning.specs.End.{End}
use Rattle.cm_meaning.specs.Meaning.{Limits, SerialEnd}
use Rattle.cm_meaning.specs.Range.{HasRanges}
use Rattle.cm_meaning.specs.Typing.{TypedProgram}
use Rattle.cm_gen.specs.declared.form.Form.TheVariants.{Serial}
use Rattle.cm_gen.specs.Part.{table_word}
use Rattle.cm_gen.specs.Image.{image_of}
use Rattle.cm_serial.specs.Run.{RunEnds, stops, step, prints, hears, IsStart, IsSteps, stack_bytes}
use Rattle.cm_serial.specs.Stack.{stack_view, first_registers, start_machine}
use Rattle.cm_serial.proofs.StackLaw.{zeros_start}
use Rattle.cm_serial.proofs.StartLaw.{bytes_fit, length-words}

-- ---- the start

-- the machine of a hart at the start
start_is : (stack regs : List ℕ) (account ticks main pc : ℕ) → stack ≡ replicate (account / 4) 0 → regs ≡ first_registers account ticks → pc ≡ table_word main
    → hart_machine (stack_view stack) (record { regs = regs; pc = pc }) ≡ start_machine account ticks main
start_is stack regs account ticks main pc e f g = λ i. machine_of (stack_view (e i)) (f i) (g i)

-- The run from there ends as the elision.
pub the_run : (program : Program) (input : List ℤ) (limits : Limits) (words stack regs : List ℕ) (pc : ℕ) → HasRanges limits
    → ((m : Machine) (e : End) → IsStart program limits m → SerialEnd program input limits e → (steps : ℕ) × RunEnds (InstructionAt words) input limits.ticks m [] steps e)
    → (e : End) × SerialEnd program input limits e
    → stack ≡ replicate (stack_bytes limits / 4) 0 → regs ≡ first_registers (stack_bytes limits) limits.ticks → pc ≡ table_word program.main
    → (e : End) × (steps : ℕ) × RunEnds (InstructionAt words) input limits.ticks (hart_machine (stack_view stack) (record { regs = regs; pc = pc })) [] steps e × SerialEnd program input limits e
the_run program input limits words stack regs pc ranges law end stack_is regs_are pc_is =
    let bytes = (bytes_fit limits ranges).0 in
    let run = law (start_machine (stack_bytes limits) limits.ticks program.main) end.0 (zeros_start program limits (bytes_fit limits ranges).1 (omega (arith, bytes))) end.1 in
    let there = start_is stack regs (stack_bytes limits) limits.ticks program.main pc stack_is regs_are pc_is in
    (end.0, run.0, subst (λ m. RunEnds (InstructionAt words) input limits.ticks m [] run.0 end.0) (sym there) run.1, end.1)

-- the numbers of an input that were read are words
pub numbers_fit : (input : List ℤ) → All (FitsSigned w32) input → (v : ℤ) → Contains input v → FitsSigned w32 v
numbers_fit input all v found = subst (FitsSigned w32) found.2 (all found.0 v found.1)

-- the index of main is small
pub main_small : (program : Program) → TypedProgram program → length program.functions ≤ 256 → program.main < 256
main_small program typed few = let inside = slice_get_within program.functions program.main typed.main typed.is_main in omega (arith, inside, few)

-- ---- words of the same instructions

same_row : (words others : List ℕ) (is : List Operation) → AreWordsOf words is → AreWordsOf others is → (k : ℕ) (i : Operation) → k < length words
    → Row (slice_index words k) i → Row (slice_index others k) i
same_row [] others is a b k i h row = absurd (omega (arith, h))
same_row (w ∷ words) others [] a b k i h row = absurd a
same_row (w ∷ words) [] (j ∷ is) a b k i h row = absurd b
same_row (w ∷ words) (o ∷ others) (j ∷ is) a b zero i h row = subst (Row o) (one_row w j i a.0 row) b.0
same_row (w ∷ words) (o ∷ others) (j ∷ is) a b (suc k) i h row = same_row words others is a.1 b.1 k i (omega (arith, h)) row

same_instruction : (words others : List ℕ) (is : List Operation) → AreWordsOf words is → AreWordsOf others is → (p : ℕ) (i : Operation) → InstructionAt words p i → InstructionAt others p i
same_instruction words others is a b p i there =
    let here = length-words words is a in
    let same = length-words others is b in
    let inside = there.1 in
    (there.0, omega (arith, here, same, inside), same_row words others is a b (p / 4) i inside there.2)

module _ (code other : Code) (same : (p : ℕ) (i : Operation) → code p i → other p i) (input : List ℤ) (ticks : ℕ) where
  over_words : {m : Machine} {printed : List ℤ} {steps : ℕ} {e : End} → RunEnds code input ticks m printed steps e → RunEnds other input ticks m printed steps e
  over_words (stops by asks s) = stops by (record { there = same _ _ asks.there; answer_is = asks.answer_is }) s
  over_words (step s more) = step (record { instruction = s.instruction; there = same _ _ s.there; effect = s.effect }) (over_words more)
  over_words (prints asks more) = prints (record { there = same _ _ asks.there; answer_is = asks.answer_is }) (over_words more)
  over_words (hears word asks more) = hears word (record { there = same _ _ asks.there; answer_is = asks.answer_is }) (over_words more)

-- the number of steps of one run is that over all words
pub steps_are : (program : Program) (input : List ℤ) (limits : Limits) (words stack regs : List ℕ) (pc steps : ℕ) (e : End) → AreWordsOf words (image_of program Serial limits.page)
    → stack ≡ replicate (stack_bytes limits / 4) 0 → regs ≡ first_registers (stack_bytes limits) limits.ticks → pc ≡ table_word program.main
    → RunEnds (InstructionAt words) input limits.ticks (hart_machine (stack_view stack) (record { regs = regs; pc = pc })) [] steps e → IsSteps program input limits steps
steps_are program input limits words stack regs pc steps e are stack_is regs_are pc_is run = λ others others_are.
    let there = start_is stack regs (stack_bytes limits) limits.ticks program.main pc stack_is regs_are pc_is in (
      e,
      over_words (InstructionAt words) (InstructionAt others) (same_instruction words others (image_of program Serial limits.page) are others_are) input limits.ticks
          (subst (λ m. RunEnds (InstructionAt words) input limits.ticks m [] steps e) there run),
    )
