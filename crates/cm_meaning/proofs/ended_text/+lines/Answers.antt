use Rattle.std.proofs.Common.{◌++◌, ◌-◌, min, length, ap, sym, ◌∙◌}
use Rattle.std.proofs.lemmas.List.{drop_all}
use Rattle.std.specs.String.{string_bytes}
use Rattle.cm_syntax.proofs.FrameLaw.{next}
use Rattle.cm_meaning.specs.Output.{numbers_of}
use Rattle.cm_meaning.specs.Printed.{laid}
use Rattle.cm_meaning.specs.Ended.{lines}
use Rattle.cm_meaning.proofs.LinesLaw.{lines_filled, numbers_alone, turn, no_longer}
use Rattle.cm_meaning.proofs.ended_text.+lines.Goals as goal

pub put_hole-returns-in-Filled : goal.put_hole-returns-in-Filled
put_hole-returns-in-Filled t c = rw (lines_filled c.args.hole.now c.in-Filled.field-0 c.in-Filled.piece c.in-Filled.is) c.put_printed.ensures

pub put_printed-loop-hole-preserved : goal.put_printed-loop-hole-preserved
put_printed-loop-hole-preserved t c =
    let rest = c.loop-hole.rest.now in
    let at = c.loop-hole.at in
    let items = next _ _ _ c.loop-hole-test.true c.hole-item.is in
    let apart = c.saturating_sub.ensures ∙ ap (λ before. before - at) c.before-before.ensures in
    let counted = c.min-count.ensures ∙ ap (λ n. min n (length rest)) apart in (
      turn (string_bytes c.loop-hole.text) _ _ _ at c.min-count.result c.before-before.result rest c.hole-item.result _ _
          counted c.before-before.ensures items c.in_ok-put_lines.ensures c.in_ok-put_hole.ensures c.loop-hole.invariant.0,
      no_longer c.min-count.result _ rest c.loop-hole.invariant.1,
    )

pub put_printed-returns : goal.put_printed-returns
put_printed-returns t c =
    let none = drop_all c.loop-hole.hole-index c.deref-hole-items.result.now c.loop-hole-test.false in
    let left = ap (λ holes. lines (numbers_of (laid c.loop-hole.at c.loop-hole.rest.now holes))) none ∙ ap lines (numbers_alone c.loop-hole.rest.now) in
    c.in_ok-put_lines-2.ensures ∙ ap (λ t. string_bytes c.loop-hole.text ++ t) (sym left) ∙ c.loop-hole.invariant.0
