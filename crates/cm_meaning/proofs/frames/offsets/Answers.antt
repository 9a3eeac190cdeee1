use Rattle.std.proofs.Common.{◌+◌, arith, ap, ◌∙◌}
use Rattle.cm_syntax.specs.declared.stmt.Slot.TheVariants as slot_kind
use Rattle.cm_meaning.proofs.FramesLaw.{offsets_more, slot_fits}
use Rattle.cm_meaning.proofs.frames.offsets.Goals as goal

pub overflow_add-before : goal.overflow_add-before
overflow_add-before c =
    let l = slot_fits c.args.slots.now c.loop-slot.slot-index slot_kind.Scalar c.loop-slot-test.true in
    omega (arith, l, c.loop-slot.invariant.1, c.slot_words-before.ensures, c.requires)

pub loop-slot-preserved : goal.loop-slot-preserved
loop-slot-preserved c =
    let more = offsets_more c.args.slots.now c.loop-slot.slot-index slot_kind.Scalar c.loop-slot.offsets c.loop-slot.before c.loop-slot-test.true
    c.loop-slot.invariant.0 c.loop-slot.invariant.1 in
    (c.in_ok-push.ensures.ok ∙ more.0, ap (λ n. c.loop-slot.before + n) c.slot_words-before.ensures ∙ more.1)
