use Rattle.cm_words.specs.Held.{in_span}
use Rattle.cm_words.proofs.region.Region.halve.Given as goal

abbrev pub ghosts-split : goal.ghosts-split
ghosts-split a = record { inside = in_span a.span.now.first a.span.now.count }
