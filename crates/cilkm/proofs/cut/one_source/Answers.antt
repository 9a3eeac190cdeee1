use Rattle.cilkm.proofs.CutLaw.{IsCut-one}
use Rattle.cilkm.proofs.cut.one_source.Goals as goal

pub returns : goal.returns
returns c = IsCut-one
