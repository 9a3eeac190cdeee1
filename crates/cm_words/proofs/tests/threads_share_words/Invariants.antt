use Rattle.std.proofs.Common.{◌≡◌, true}
use Rattle.cm_words.specs.Every.{every}
use Rattle.cm_words.specs.Held.{is_held}
use Rattle.cm_words.specs.RegionOf.{region_of}
use Rattle.cm_words.proofs.tests.threads_share_words.Given as goal

abbrev pub invariant-loop-i : goal.invariant-loop-i
invariant-loop-i g l = (l.words.region ≡ region_of l.region) × (every is_held 2 32 0 l.words.cells ≡ true) × (every is_held 2 32 1 l.words.cells ≡ true)
