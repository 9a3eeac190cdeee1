use Rattle.std.proofs.Common.{refl}
use Rattle.std.specs.Prelude.{replicate}
use Rattle.cm_share.specs.Share.{whole}
use Rattle.cm_words.specs.Held.{held}
use Rattle.cm_words.proofs.EveryLaw.{span_of}
use Rattle.cm_worker.proofs.WholeLaw.{held_again}
use Rattle.cm_worker.proofs.tests.steps_over_a_page.Goals as goal

pub part-grant-requires-clause-held : goal.part-grant-requires-clause-held
part-grant-requires-clause-held g c = span_of 64 64 _ (replicate 128 (held whole 0)) c.in_ok-region.ensures.grant refl

pub load-requires-clause-held : goal.load-requires-clause-held
load-requires-clause-held g c = held_again c.part-grant.new.grant.cells c.loop-pc.grant.cells c.unite.new.grant.cells c.unite.ensures.sum c.loop-pc.invariant.1
