use Rattle.std.proofs.Common.{◌≡◌, Some, pos, rules, ap, ◌∙◌, to_z, of_z, w32}
use Rattle.std.proofs.lemmas.Int.{to_z-of_z}
use Rattle.std.proofs.lemmas.Option.{slice_get-get_or}
use Rattle.cm_meaning.specs.declared.reference.Argument.TheVariants as arguments
use Rattle.cm_meaning.proofs.KeptLaw.{put_word, put_reference}
use Rattle.cm_meaning.proofs.frames.put_arguments.Goals as goal
use Rattle.cm_meaning.proofs.frames.put_arguments.Goals.{in-Word, in-Slice}

pub loop-slot-preserved : goal.loop-slot-preserved
loop-slot-preserved c =
    let given = slice_get-get_or c.args.arguments.now c.loop-slot.slot (arguments.Word (pos 0)) c.loop-slot-test.true in
    elim c.match-argument.branch [
      | in-Word w ↦
          let same : to_z w32 (of_z w32 w.in-Word.value) ≡ w.in-Word.value = to_z-of_z w32 w.in-Word.value (search rules) in
          rw (w.words-is, w.references-is, same)
          (put_word c.args.offsets.now c.args.base _ c.args.arguments.now c.args.words.now.items c.loop-slot.words.items c.args.references.now.items c.loop-slot.references.items
          c.requires.places c.loop-slot.slot c.loop-slot-test.true c.loop-slot.invariant w.in-Word.value (given ∙ ap Some w.in-Word.is))
      | in-Slice w ↦
          rw (w.words-is, w.references-is)
          (put_reference c.args.offsets.now c.args.base _ c.args.arguments.now c.args.words.now.items c.loop-slot.words.items c.args.references.now.items c.loop-slot.references.items
          c.requires.places c.loop-slot.slot c.loop-slot-test.true c.loop-slot.invariant w.in-Slice.reference c.requires.paired (given ∙ ap Some w.in-Slice.is))
    ]
