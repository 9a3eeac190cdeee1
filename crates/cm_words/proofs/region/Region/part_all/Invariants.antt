use Rattle.cm_words.specs.Spans.{in_spans}
use Rattle.cm_words.proofs.region.Region.part_all.Given as goal

abbrev pub ghosts-cut : goal.ghosts-cut
ghosts-cut a = record { inside = in_spans a.places.now.now }
