use Rattle.std.proofs.Common.{◌≡◌, true}
use Rattle.cm_words.specs.Every.{every}
use Rattle.cm_words.specs.Held.{is_whole}
use Rattle.cm_words.specs.RegionOf.{region_of}
use Rattle.cm_worker.proofs.tests.steps_over_a_page.Given as goal

abbrev pub invariant-loop-pc : goal.invariant-loop-pc
invariant-loop-pc g l = (l.grant.region ≡ region_of l.region) × (every is_whole 1 64 64 l.grant.cells ≡ true) × (l.others.region ≡ region_of l.region)
