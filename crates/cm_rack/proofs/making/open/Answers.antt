use Rattle.std.proofs.Common.{rules}
use Rattle.cm_rack.proofs.PartLaw.{opens_at}
use Rattle.cm_rack.proofs.making.open.Goals as goal

pub vacant-requires : goal.vacant-requires
vacant-requires g c = opens_at _ _ _ (search rules)
