use Rattle.std.proofs.Common.{◌≡◌}
use Rattle.cm_meaning.specs.Ended.{limits_of}
use Rattle.cm_meaning.specs.Output.{numbers_of, open_count}
use Rattle.cm_meaning.specs.Progress.{Progress}
use Rattle.cm_meaning.proofs.elision.run.Given as goal

-- the run is on its way with the ticks that were counted, and the output has no open hole
abbrev pub invariant-ticks : goal.invariant-ticks
invariant-ticks l = Progress (record { program = l.fn.program; input = l.fn.input; limits = limits_of l.fn.limits })
    l.evaluator l.ticks (numbers_of l.output) l.most × (open_count l.output ≡ 0)
