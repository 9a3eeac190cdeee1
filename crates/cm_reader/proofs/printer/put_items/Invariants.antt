use Rattle.std.proofs.Common.{◌≡◌, ◌++◌, true, drop}
use Rattle.std.specs.Prelude.{◌==◌}
use Rattle.cm_syntax.specs.Canonical.{item_text}
use Rattle.cm_reader.specs.Spaced.{spaced}
use Rattle.cm_reader.proofs.SpacedLaw.{separated}
use Rattle.cm_reader.proofs.printer.put_items.Given as goal

-- with the items that are left, what was put comes to the whole
abbrev pub invariant-loop-index : goal.invariant-loop-index
invariant-loop-index l = l.text ++ spaced (separated item_text (l.index == 0) (drop l.index l.items)) ≡ l.initial.text ++ spaced (separated item_text true l.items)
