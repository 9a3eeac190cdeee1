use Rattle.std.proofs.Common.{◌≡◌, ◌<◌, ◌≤◌, true, ℕ}
use Rattle.cm_words.specs.Every.{every}
use Rattle.cm_words.specs.Held.{is_held, is_whole}
use Rattle.cm_words.specs.RegionOf.{region_of}
use Rattle.cm_words.proofs.tests.work.Given as goal

abbrev pub invariant-loop-round : goal.invariant-loop-round
invariant-loop-round l = (l.own.region ≡ region_of l.region) × (l.seen.region ≡ region_of l.region) × (every is_whole 2 32 l.at l.own.cells ≡ true) × (every is_held 1 64 64 l.seen.cells ≡ true) × (l.at < 2) × (l.seen ≡ l.fn.seen) × (region_of l.region ≡ region_of l.fn.region)
