use Rattle.std.proofs.Common.{◌≡◌, ◌<◌, ◌≤◌, true, ℕ}
use Rattle.cm_words.specs.Every.{every}
use Rattle.cm_words.specs.Held.{is_held, is_whole}
use Rattle.cm_words.specs.RegionOf.{region_of}
use Rattle.cm_words.proofs.tests.sum_words.Given as goal

abbrev pub invariant-loop-i : goal.invariant-loop-i
invariant-loop-i l = (l.grant ≡ l.fn.grant) × (l.grant.region ≡ region_of l.region) × (every is_held 1 64 64 l.grant.cells ≡ true)
