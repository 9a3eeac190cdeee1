use Rattle.std.proofs.Common.{◌++◌, ap, ◌∙◌}
use Rattle.cm_syntax.specs.Canonical.{item_text}
use Rattle.cm_reader.specs.Spaced.{spaced}
use Rattle.cm_reader.proofs.SpacedLaw.{separated_step, separated_end}
use Rattle.cm_reader.proofs.PrinterLaw.{items_of}
use Rattle.cm_reader.proofs.printer.put_items.Goals as goal

pub loop-index-preserved : goal.loop-index-preserved
loop-index-preserved c =
    separated_step item_text _ _ _ _ _ _ _ c.loop-index-test.true c.index-items-index.is c.loop-index.invariant c.in_ok-put_comma.ensures c.in_ok-put_item.ensures

pub returns : goal.returns
returns c =
    separated_end item_text _ _ _ _ c.loop-index-test.false c.loop-index.invariant ∙ ap (λ tokens. c.args.text.now ++ spaced tokens) (items_of c.args.items.now)
