use Rattle.cm_words.proofs.StepLaw.{reads, inside_at, here_in}
use Rattle.cm_words.proofs.region.Region.load.Goals as goal

pub load-requires : goal.load-requires
load-requires c = (here_in _ _ _ c.grant.view_is c.requires.here, inside_at _ _ _ _ c.grant.view_is c.requires.held c.grant.invariant.1 c.requires.here, reads _ _ _ _ _)
