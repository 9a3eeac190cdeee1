use Rattle.std.proofs.Common.{rules}
use Rattle.cm_words.proofs.EveryLaw.{next_held}
use Rattle.cm_words.proofs.tests.sum_words.Goals as goal

pub load-sum-requires-clause-held : goal.load-sum-requires-clause-held
load-sum-requires-clause-held c = next_held 64 64 c.loop-i.grant.cells c.loop-i.invariant.2 c.loop-i.i (search rules)
