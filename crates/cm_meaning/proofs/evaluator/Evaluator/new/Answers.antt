use Rattle.std.proofs.Common.{refl}
use Rattle.cm_meaning.specs.Ended.{limits_of}
use Rattle.cm_meaning.proofs.ProgressLaw.{sound_fits, first_progress}
use Rattle.cm_meaning.proofs.evaluator.Evaluator.new.Goals as goal

pub new-requires-clause-fits : goal.new-requires-clause-fits
new-requires-clause-fits c = sound_fits c.args.program.now c.requires.sound

pub returns : goal.returns
returns c = first_progress (record { program = c.args.program.now; input = c.args.input.now; limits = limits_of c.args.limits.now }) _
    c.requires.sound c.requires.input c.requires.limits refl refl refl refl refl c.new-2.ensures.items c.new-3.ensures.items c.in_ok-frames.ensures
