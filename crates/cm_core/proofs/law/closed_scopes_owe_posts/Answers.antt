use Rattle.cm_core.proofs.PostedLaw.{closed_posts}
use Rattle.cm_core.proofs.law.closed_scopes_owe_posts.Goals as goal

pub returns : goal.returns
returns g c P V B s n k l shut = closed_posts k.valid n l shut k.posted
