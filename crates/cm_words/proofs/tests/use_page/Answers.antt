use Rattle.std.proofs.Common.{◌∙◌, ap, arith}
use Rattle.cm_words.specs.Every.{every}
use Rattle.cm_words.specs.Held.{is_whole}
use Rattle.cm_words.proofs.EveryLaw.{whole_held}
use Rattle.cm_words.proofs.tests.use_page.Goals as goal

pub load-requires-clause-held : goal.load-requires-clause-held
load-requires-clause-held c = whole_held 32 64 c.store_words.new.grant.cells c.store_words.ensures.whole 0 (omega arith)

pub load-requires-2-clause-held : goal.load-requires-2-clause-held
load-requires-2-clause-held c = whole_held 32 64 c.load.new.grant.cells (ap (λ z. every is_whole 2 32 64 z.cells) c.load.ensures.same ∙ c.store_words.ensures.whole) 31 (omega arith)
