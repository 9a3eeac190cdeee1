use Rattle.std.proofs.Common.{rules}
use Rattle.cm_words.proofs.ViewLaw.{joins}
use Rattle.cm_words.proofs.StepLaw.{merges, some_words, here_in}
use Rattle.cm_words.proofs.region.Region.unite.Goals as goal

pub join_seat-requires : goal.join_seat-requires
join_seat-requires c = (here_in _ _ _ c.grant.view_is c.requires.here.0, here_in _ _ _ c.other.view_is c.requires.here.1, c.other.invariant.0, some_words _ _ c.args.self.now.counted c.args.self.now.some_word, joins _ _ _ _ _)

pub load-requires : goal.load-requires
load-requires c = (search rules, some_words _ _ c.args.self.now.counted c.args.self.now.some_word, merges _ _ _ _)
