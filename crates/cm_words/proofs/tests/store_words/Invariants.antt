use Rattle.std.proofs.Common.{◌≡◌, ◌<◌, ◌≤◌, true, ℕ}
use Rattle.cm_words.specs.Every.{every}
use Rattle.cm_words.specs.Held.{is_held, is_whole}
use Rattle.cm_words.specs.RegionOf.{region_of}
use Rattle.cm_words.proofs.tests.store_words.Given as goal

abbrev pub invariant-loop-i : goal.invariant-loop-i
invariant-loop-i l = (l.grant.region ≡ l.fn.grant.region) × (l.grant.region ≡ region_of l.region) × (every is_whole 2 32 l.at l.grant.cells ≡ true) × (l.at < 66)
