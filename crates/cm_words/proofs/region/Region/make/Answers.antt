use Rattle.std.proofs.Common.{rules}
use Rattle.cm_words.proofs.StepLaw.{opens}
use Rattle.cm_words.proofs.region.Region.make.Goals as goal

pub of_words-requires : goal.of_words-requires
of_words-requires c = opens _ _ (search rules)
