use Rattle.std.proofs.Common.{refl, arith}
use Rattle.cm_core.specs.Script.{scripts, Any, one_child, park_schedule}
use Rattle.cm_core.specs.State.{start}
use Rattle.cm_core.specs.Goes.{KeepsFit}
use Rattle.cm_core.proofs.SoundLaw.{start_sound, run_sound}
use Rattle.cm_core.proofs.row.a_park_and_resume.Goals as goal

scripts_fit : KeepsFit Any scripts
scripts_fit = record { lower = λ ks b o. tt; pop = λ ks b hole e pages words o. tt; collect = λ ks b hole e pages words o. tt; join = λ k ks b words o. tt }

pub returns-clause-did : goal.returns-clause-did
returns-clause-did c = refl

pub returns-clause-held : goal.returns-clause-held
returns-clause-held c = refl

pub returns-clause-fits : goal.returns-clause-fits
returns-clause-fits c = scripts_fit

pub returns-clause-among : goal.returns-clause-among
returns-clause-among c = omega arith

pub returns-clause-goes : goal.returns-clause-goes
returns-clause-goes c = omega arith

pub returns-clause-sound : goal.returns-clause-sound
returns-clause-sound c = run_sound scripts_fit (omega arith) park_schedule (returns-clause-among c) (start 4 one_child) (returns-clause-goes c) (start_sound Any 2 4 1 one_child tt)
