use Rattle.std.proofs.Common.{ℕ, ◌<◌, ◌^◌, arith}
use Rattle.cm_isa.specs.Address.{InstructionAt}
use Rattle.cm_isa.specs.Machine.{Machine}
use Rattle.cm_syntax.specs.Rest.{Control}
use Rattle.cm_syntax.specs.Stack.{Stack, empty_stack}
use Rattle.cm_syntax.specs.Step.{step}
use Rattle.cm_meaning.specs.Meaning.{first_control}
use Rattle.cm_meaning.proofs.SafetyLaw.{typed_start}
use Rattle.cm_meaning.proofs.TypingLaw.{sound_typed}
use Rattle.cm_gen.specs.declared.form.Form.TheVariants.{Serial}
use Rattle.cm_gen.specs.Formed.{Formed, KeepsFormed}
use Rattle.cm_gen.specs.Build.{max_image_words}
use Rattle.cm_gen.specs.Image.{image_of}
use Rattle.cm_gen.specs.StandsFor.{Spot, first_spot, ExactAt, LeadsFrom}
use Rattle.cm_serial.specs.Run.{stack_bytes}
use Rattle.cm_serial.proofs.ElisionLaw.{follows}
use Rattle.cm_serial.proofs.StartLaw.{runs_of, code_within, ecall_below}
use Rattle.cm_serial.proofs.law.images_run_as_elisions.Goals as goal

pub returns : goal.returns
returns c = λ program input limits words m e sound ranges few fits are short start ends.
    let runs = runs_of program input limits sound ranges few fits in
    let code = InstructionAt words in
    let account = stack_bytes limits in
    let compiled = c.images_are_compiled.ensures program Serial limits.page words sound are (code_within program Serial limits.page max_image_words short) in
    let takes : (spot : Spot) (left : ℕ) (d : Control) (h : Stack) (t : Machine) → left < 2 ^ 32 → Formed program limits.page account d h
    → ExactAt program Serial limits.page input code spot left d h t
    → LeadsFrom program Serial limits.page input code spot left d.calls h (step program limits.page input d h) t
    = λ spot left d h t small formed exact. c.code_takes_each_step.ensures program Serial limits.page account input words spot left d h t runs compiled small formed exact in
    let keeps : (d : Control) (h : Stack) → Formed program limits.page account d h → KeepsFormed program limits.page account h (step program limits.page input d h)
    = λ d h formed. c.steps_keep_states_formed.ensures.step program limits.page account input d h runs formed in
    let first = c.steps_keep_states_formed.ensures.first program limits.page account input runs in
    let stands = c.first_machine_stands.ensures program Serial limits.page account input words limits.ticks m compiled (record { registers = start.registers; counter = start.counter }) in
    let typed = sound_typed program sound in
    let most = ranges.most_ticks in
    follows program limits input code runs (ecall_below words (image_of program Serial limits.page) are short) takes keeps (first_control program limits) empty_stack ends.0 e
    typed (typed_start program account typed) (omega (arith, most)) first ends.1 m start.mapped (first_spot, stands)
