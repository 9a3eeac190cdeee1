use Rattle.cm_words.proofs.StepLaw.{writes, inside_at, whole_in, here_in, is_held}
use Rattle.cm_words.proofs.region.Region.store.Goals as goal

pub store-requires : goal.store-requires
store-requires c = (here_in _ _ _ c.grant.view_is c.requires.here, inside_at _ _ _ _ c.grant.view_is (is_held _ _ _ c.requires.whole.1) c.grant.invariant.1 c.requires.here, writes _ _ _ _ _ _ _ (whole_in _ _ _ _ c.grant.view_is c.requires.whole.1) c.grant.invariant.2 c.ranges.word.fits)
