use Rattle.cm_worker.proofs.MapLaw.{grant_is_map}
use Rattle.cm_worker.proofs.law.grants_are_maps.Goals as goal

pub returns : goal.returns
returns c = grant_is_map
