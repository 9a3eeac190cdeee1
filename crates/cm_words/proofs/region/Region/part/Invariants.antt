use Rattle.cm_words.specs.Held.{in_span}
use Rattle.cm_words.proofs.region.Region.part.Given as goal

abbrev pub ghosts-cut : goal.ghosts-cut
ghosts-cut a = record { inside = in_span a.places.now.first a.places.now.count }
