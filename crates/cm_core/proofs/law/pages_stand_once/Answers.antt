use Rattle.std.proofs.Common.{arith}
use Rattle.cm_core.proofs.ExactLaw.{exactly_once, held_exact}
use Rattle.cm_core.proofs.HeldLaw.{held_all}
use Rattle.cm_core.proofs.SoundLaw.{start_sound, sound_held, run_held}
use Rattle.cm_core.proofs.law.pages_stand_once.Goals as goal

pub returns-clause-once : goal.returns-clause-once
returns-clause-once g c P V B s k = exactly_once k.valid k.owned

pub returns-clause-all : goal.returns-clause-all
returns-clause-all g c P V B s k = held_exact k.valid k.owned

pub returns-clause-always : goal.returns-clause-always
returns-clause-always g c P V B s k = held_all k.valid

pub returns-clause-bound : goal.returns-clause-bound
returns-clause-bound g c P V B s k = sound_held s k

pub returns-clause-most : goal.returns-clause-most
returns-clause-most g c P V B root pairs keeps small okay among goes = run_held keeps small pairs among _ goes (start_sound g.S.Strand.fits P V B root okay) (omega arith)
