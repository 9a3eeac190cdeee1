use Rattle.std.proofs.Common.{inl, inr, ◌*◌}
use Rattle.std.specs.Prelude.{true}
use Rattle.cm_syntax.specs.Stack.{Stack, Destination, empty_stack}
use Rattle.cm_syntax.specs.Rest.{Control}
use Rattle.cm_syntax.specs.Step.{step, inside}
use Rattle.cm_meaning.specs.Meaning.{first_control}
use Rattle.cm_meaning.specs.Weight.{weight}
use Rattle.cm_meaning.proofs.WeightLaw.{lowers_serial}
use Rattle.cm_meaning.proofs.EndLaw.{some_end}
use Rattle.cm_meaning.proofs.TypingLaw.{sound_typed}
use Rattle.cm_meaning.proofs.SafetyLaw.{typed_start, never_stuck}
use Rattle.cm_meaning.proofs.law.sound_programs_end.Goals as goal

pub returns-clause-never_stuck : goal.returns-clause-never_stuck
returns-clause-never_stuck c program input limits limit sound =
    let typed = sound_typed program sound in
    never_stuck program limits.page input true typed (first_control program limits) empty_stack limit (typed_start program (limits.stack * limits.page) typed)

pub returns-clause-end : goal.returns-clause-end
returns-clause-end c program input limits sound = elim (some_end Control Stack Destination (step program limits.page input) inside (weight program)
    (lowers_serial program limits.page input) limits.ticks (first_control program limits) empty_stack) [
      | inl (e, w, ends) ↦ (e, (w, ends))
      | inr stuck ↦ absurd (returns-clause-never_stuck c program input limits limits.ticks sound stuck)
    ]
