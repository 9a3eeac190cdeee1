use Rattle.cm_core.proofs.PageLaw.{under_front, map_shows, common_pages}
use Rattle.std.proofs.Common.{Some}
use Rattle.cm_core.proofs.law.common_scopes_show_common_pages.Goals as goal

pub returns-clause-chains : goal.returns-clause-chains
returns-clause-chains g c P V B s n m k l u = under_front k.valid n (Some m) l u

pub returns-clause-maps : goal.returns-clause-maps
returns-clause-maps g c P V B s n w k l u = map_shows k.valid n w l u

pub returns-clause-same : goal.returns-clause-same
returns-clause-same g c P V B s n w v k l m a b = common_pages k.valid n w v l m a b
