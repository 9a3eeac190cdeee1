use Rattle.std.proofs.Common.{◌+◌, ◌++◌, take, drop, refl, sym, ap, ◌∙◌, arith}
use Rattle.std.specs.Prelude.{get_or}
use Rattle.cm_syntax.specs.declared.stmt.Slot.TheVariants as slot
use Rattle.std.proofs.lemmas.List.{take_more, take_all, take-append-drop}
use Rattle.cm_syntax.specs.Frame.{slots_words}
use Rattle.cm_gen.specs.Builder.{ends_of}
use Rattle.cm_gen.proofs.parts.LayoutLaw.{slots_words_more, ends_of_next, words_of_front}
use Rattle.cm_gen.proofs.layout.Layout.of.Goals as goal

pub loop-slot-init : goal.loop-slot-init
loop-slot-init c = (c.new-ends.ensures, refl)

pub overflow_add-words : goal.overflow_add-words
overflow_add-words c =
    let i = c.loop-slot.slot-index in
    let slots = c.args.slots.now in
    let more = ap slots_words (take_more slots i slot.Scalar c.loop-slot-test.true) in
    let front = words_of_front (take (i + 1) slots) (drop (i + 1) slots) in
    let whole = ap slots_words (take-append-drop (i + 1) slots) in
    omega (arith, c.loop-slot.invariant.1, c.slot_words-words.ensures, more, front, whole, slots_words_more (take i slots) (get_or slots i slot.Scalar), c.requires)

pub loop-slot-preserved : goal.loop-slot-preserved
loop-slot-preserved c =
    let i = c.loop-slot.slot-index in
    let slots = c.args.slots.now in
    let more = take_more slots i slot.Scalar c.loop-slot-test.true in
    let words = ap slots_words more ∙ slots_words_more (take i slots) (get_or slots i slot.Scalar) in
    let ends = ap (ends_of 0) more ∙ ends_of_next (take i slots) (get_or slots i slot.Scalar) in
    (c.in_ok-push.ensures.ok ∙ (rw (c.loop-slot.invariant.0, c.loop-slot.invariant.1, c.slot_words-words.ensures) (sym ends)), omega (arith, c.loop-slot.invariant.1, c.slot_words-words.ensures, words))

pub invariant_of-result : goal.invariant_of-result
invariant_of-result c =
    let slots = c.args.slots.now in
    let all = take_all c.loop-slot.slot-index slots c.loop-slot-test.false in
    let same = c.in_ok-append.ensures.ok ∙ ap (λ l. l ++ slots) c.new-copies.ensures in
    rw same (c.loop-slot.invariant.0 ∙ ap (ends_of 0) all, c.loop-slot.invariant.1 ∙ ap slots_words all, c.requires)
