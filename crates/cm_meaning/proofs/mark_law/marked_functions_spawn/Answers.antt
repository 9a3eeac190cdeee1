use Rattle.cm_meaning.proofs.MarkLaw.{rest_allowed, spawner_marked, syncer_marked, child_marked, join_marked}
use Rattle.cm_meaning.proofs.mark_law.marked_functions_spawn.Goals as goal

pub returns-clause-rests : goal.returns-clause-rests
returns-clause-rests c = λ program input limits p sound r. rest_allowed program input limits sound p r

pub returns-clause-spawned : goal.returns-clause-spawned
returns-clause-spawned c = λ program input limits p call d lent g x sound r e. spawner_marked program input limits sound p call d lent g x r e

pub returns-clause-synced : goal.returns-clause-synced
returns-clause-synced c = λ program input limits p d sound r e. syncer_marked program input limits sound p d r e

pub returns-clause-children : goal.returns-clause-children
returns-clause-children c = λ program input limits p d sound accepted r u. child_marked program input limits sound accepted p d r u

pub returns-clause-joins : goal.returns-clause-joins
returns-clause-joins c = λ program input limits p sound accepted r u. join_marked program input limits sound accepted p r u
