use Rattle.cm_core.proofs.SoundLaw.{start_sound, turn_sound, run_sound}
use Rattle.cm_core.proofs.law.turns_keep.Goals as goal

pub returns-clause-start : goal.returns-clause-start
returns-clause-start g c P V B root okay = start_sound g.S.Strand.fits P V B root okay

pub returns-clause-turn : goal.returns-clause-turn
returns-clause-turn g c P V B s w v keeps small l m goes sound = turn_sound keeps small s sound w l v m goes

pub returns-clause-run : goal.returns-clause-run
returns-clause-run g c P V B root pairs keeps small okay among goes = run_sound keeps small pairs among _ goes (start_sound g.S.Strand.fits P V B root okay)
