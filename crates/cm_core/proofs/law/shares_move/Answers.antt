use Rattle.cm_core.proofs.SoundLaw.{turn_shares}
use Rattle.cm_core.proofs.law.shares_move.Goals as goal

pub returns : goal.returns
returns g c P V B s w v whole lent has keeps small l goes k h e = turn_shares keeps small s k w l v goes whole lent has h e
