use Rattle.std.proofs.Common.{◌≡◌, ℕ}
use Rattle.cm_meaning.specs.Output.{numbers_of, open_count}
use Rattle.cm_meaning.specs.Weight.{weight}
use Rattle.cm_meaning.specs.Evaluator.{control_in}
use Rattle.cm_meaning.specs.Progress.{Run, Progress}
use Rattle.cm_meaning.proofs.evaluator.Evaluator.until_tick.Given as goal

-- in whatever run it was on its way, it is still so, with as many ticks; and no hole was opened or filled
abbrev pub invariant-steps : goal.invariant-steps
invariant-steps l = ((run : Run) (used : ℕ) → Progress run l.fn.self used (numbers_of l.fn.output) l.fn.most
    → Progress run l.self used (numbers_of l.output) l.most) × (open_count l.output ≡ open_count l.fn.output)

abbrev pub decreases-steps : goal.decreases-steps
decreases-steps l = weight l.self.program.now (control_in l.self)
