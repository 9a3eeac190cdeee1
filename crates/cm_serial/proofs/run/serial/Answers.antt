use Rattle.std.proofs.Common.{◌≡◌, ℕ, ◌+◌, ◌*◌, List, ap, sym, subst, arith}
use Rattle.cm_isa.specs.Address.{AreWordsOf}
use Rattle.cm_isa.specs.Operation.{Operation}
use Rattle.cm_meaning.specs.Ended.{limits_of}
use Rattle.cm_meaning.specs.Meaning.{SerialEnd}
use Rattle.cm_meaning.proofs.TypingLaw.{sound_typed}
use Rattle.cm_gen.specs.Part.{table_word}
use Rattle.cm_serial.specs.Run.{IsSteps}
use Rattle.cm_serial.proofs.SerialLaw.{the_run, numbers_fit, main_small, steps_are}
use Rattle.cm_serial.proofs.run.serial.Goals as goal

-- the code has the words of the image
coded : (code image : List ℕ) (is : List Operation) → code ≡ image → AreWordsOf image is → AreWordsOf code is
coded code image is same words = subst (λ ws. AreWordsOf ws is) (sym same) words

pub overflow_mul-hart : goal.overflow_mul-hart
overflow_mul-hart c =
    let program = c.args.build.now.made.value in
    let small = main_small program (sound_typed program c.requires.sound) (c.sound_programs_fit.ensures.few program c.requires.sound) in
    let is = c.requires.build.main in
    record { fits = omega (arith, small, is) }

pub overflow_add-hart : goal.overflow_add-hart
overflow_add-hart c =
    let program = c.args.build.now.made.value in
    let small = main_small program (sound_typed program c.requires.sound) (c.sound_programs_fit.ensures.few program c.requires.sound) in
    let is = c.requires.build.main in
    record { fits = omega (arith, small, is) }

pub run-requires-clause-run : goal.run-requires-clause-run
run-requires-clause-run c =
    let program = c.args.build.now.made.value in
    let limits = limits_of c.args.limits.now in
    let run = the_run program c.args.input.now limits c.in_ok-code.code c.in_ok-stack.stack c.first_regs.result (8 + 4 * c.args.build.now.main) c.requires.limits
    (λ m e start ends. c.images_run_as_elisions.ensures program c.args.input.now limits c.in_ok-code.code m e c.requires.sound c.requires.limits c.requires.input
    (numbers_fit c.args.input.now c.read_all.ensures) (coded _ _ _ c.in_ok-code.ensures c.requires.build.words) c.requires.short start ends)
    (c.sound_programs_end.ensures.end program c.args.input.now limits c.requires.sound)
    c.in_ok-stack.ensures c.first_regs.ensures.value (ap table_word c.requires.build.main) in
    (run.0, run.1, run.2)

pub returns-clause-ended : goal.returns-clause-ended
returns-clause-ended c =
    let program = c.args.build.now.made.value in
    let limits = limits_of c.args.limits.now in
    let run = the_run program c.args.input.now limits c.in_ok-code.code c.in_ok-stack.stack c.first_regs.result (8 + 4 * c.args.build.now.main) c.requires.limits
    (λ m e start ends. c.images_run_as_elisions.ensures program c.args.input.now limits c.in_ok-code.code m e c.requires.sound c.requires.limits c.requires.input
    (numbers_fit c.args.input.now c.read_all.ensures) (coded _ _ _ c.in_ok-code.ensures c.requires.build.words) c.requires.short start ends)
    (c.sound_programs_end.ensures.end program c.args.input.now limits c.requires.sound)
    c.in_ok-stack.ensures c.first_regs.ensures.value (ap table_word c.requires.build.main) in
    subst (SerialEnd program c.args.input.now limits) (sym (c.in_ok-served.ensures run.0 run.1 run.2).0) run.3

pub returns-clause-steps : goal.returns-clause-steps
returns-clause-steps c =
    let program = c.args.build.now.made.value in
    let limits = limits_of c.args.limits.now in
    let run = the_run program c.args.input.now limits c.in_ok-code.code c.in_ok-stack.stack c.first_regs.result (8 + 4 * c.args.build.now.main) c.requires.limits
    (λ m e start ends. c.images_run_as_elisions.ensures program c.args.input.now limits c.in_ok-code.code m e c.requires.sound c.requires.limits c.requires.input
    (numbers_fit c.args.input.now c.read_all.ensures) (coded _ _ _ c.in_ok-code.ensures c.requires.build.words) c.requires.short start ends)
    (c.sound_programs_end.ensures.end program c.args.input.now limits c.requires.sound)
    c.in_ok-stack.ensures c.first_regs.ensures.value (ap table_word c.requires.build.main) in
    subst (IsSteps program c.args.input.now limits) (sym (c.in_ok-served.ensures run.0 run.1 run.2).1)
    (steps_are program c.args.input.now limits c.in_ok-code.code c.in_ok-stack.stack c.first_regs.result (8 + 4 * c.args.build.now.main) run.1 run.0
    (coded _ _ _ c.in_ok-code.ensures c.requires.build.words) c.in_ok-stack.ensures c.first_regs.ensures.value (ap table_word c.requires.build.main) run.2)
