use Rattle.std.proofs.Common.{◌+◌, ◌<◌, ◌≤◌, length, refl, ap, sym, subst, ◌∙◌, arith, length-set}
use Rattle.std.specs.Prelude.{◌-◌}
use Rattle.std.proofs.Math.ListN.{set}
use Rattle.cm_syntax.specs.Stack.{write_parts}
use Rattle.cm_syntax.specs.Step.{top}
use Rattle.cm_meaning.specs.declared.reference.Reference.{Reference}
use Rattle.cm_meaning.specs.Layout.{reference_of, address, frames_words, program_in, calls_in}
use Rattle.cm_meaning.proofs.FramesLaw.{top_of}
use Rattle.cm_meaning.proofs.KeptLaw.{ShowReferences, referred, shows_by}
use Rattle.cm_meaning.proofs.frames.Frames.set_parts.Goals as goal

pub returns-clause-shows : goal.returns-clause-shows
returns-clause-shows c = λ h shown.
    let program = program_in c.args.self.now in let calls = calls_in c.args.self.now in let items = c.args.self.now.references.items in
    let whole = c.args.whole in
    let low : top calls < length calls = omega (arith, top_of calls c.requires.some) in
    let left : Reference = record { depth = whole.depth; slot = whole.slot; start = whole.start; length = c.args.count } in
    let right : Reference = record { depth = whole.depth; slot = whole.slot; start = whole.start + c.args.count; length = whole.length - c.args.count } in
    let first = address program calls (top calls) c.args.left 0 in
    let second = address program calls (top calls) c.args.right 0 in
    let room : frames_words program calls ≤ length items = omega (arith, c.requires.laid.within, c.requires.laid.paired) in
    let more : frames_words program calls ≤ length (set items first left) = omega (arith, room, length-set items first left) in
    let moved = ap (λ a. set (set items a left) c.start_of-second.result right) c.start_of-first.ensures.value
    ∙ ap (λ a. set (set items first left) a right) c.start_of-second.ensures.value in
    let parts = write_parts h (top calls) c.args.left c.args.right (reference_of whole) c.args.count in
    shows_by _ calls refl parts shown.words
    (subst (λ xs. ShowReferences program calls parts.references xs) (sym moved)
    (referred program calls _ (set items first left) (top calls) c.args.right right low c.requires.right more
    (referred program calls h.references items (top calls) c.args.left left low c.requires.left room shown.references)))
