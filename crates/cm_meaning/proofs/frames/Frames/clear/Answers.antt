use Rattle.std.proofs.Common.{◌≡◌, ◌<◌, Some, length, refl, ap, sym, subst, ◌∙◌, arith}
use Rattle.cm_syntax.specs.declared.stmt.Extent.TheVariants as extent
use Rattle.cm_syntax.specs.Stack.{clear_words}
use Rattle.cm_syntax.specs.Step.{top}
use Rattle.cm_meaning.specs.TypedState.{row_words, own_words}
use Rattle.cm_meaning.specs.Layout.{address, program_in, calls_in, slot_in, AreCleared}
use Rattle.cm_meaning.proofs.FramesLaw.{top_of}
use Rattle.cm_meaning.proofs.KeptLaw.{cleared, shows_by}
use Rattle.cm_meaning.proofs.frames.Frames.clear.Goals as goal

pub returns-clause-shows_array : goal.returns-clause-shows_array
returns-clause-shows_array c = λ h n kind shown.
    let program = program_in c.args.self.now in let calls = calls_in c.args.self.now in let items = c.args.self.now.words.items in
    let low : top calls < length calls = omega (arith, top_of calls c.requires.some) in
    let one : c.in-Words.count ≡ n = cc (sym c.in-Words.ensures ∙ kind) in
    let clear = subst (λ z. AreCleared (address program calls (top calls) c.args.slot 0) z items c.clear_from.new.words.items) one
    (subst (λ a. AreCleared a c.in-Words.count items c.clear_from.new.words.items) c.start_of-start.ensures.value c.clear_from.ensures) in
    shows_by _ calls refl (clear_words h (top calls) c.args.slot n)
    (cleared program calls h.words items c.clear_from.new.words.items (top calls) c.args.slot n low kind clear shown.words)
    shown.references

pub returns-clause-shows : goal.returns-clause-shows
returns-clause-shows c = λ h shown.
    let words = row_words (slot_in c.args.self.now c.args.slot) in
    let same : words ≡ c.in-Words.count = ap own_words c.in-Words.ensures in
    returns-clause-shows_array c h words (c.in-Words.ensures ∙ ap (λ n. Some (extent.Words n)) (sym same)) shown
