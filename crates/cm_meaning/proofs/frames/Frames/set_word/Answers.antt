use Rattle.std.proofs.Common.{refl, ap, sym, subst, ◌∙◌, to_z, of_z, w32}
use Rattle.std.proofs.Math.ListN.{set}
use Rattle.std.proofs.lemmas.Int.{to_z-of_z}
use Rattle.cm_syntax.specs.Stack.{words_with, write_word}
use Rattle.cm_meaning.specs.Layout.{address, program_in, calls_in}
use Rattle.cm_meaning.proofs.KeptLaw.{ShowWords, written, shows_by}
use Rattle.cm_meaning.proofs.frames.Frames.set_word.Goals as goal

pub returns-clause-shows : goal.returns-clause-shows
returns-clause-shows c = λ h shown.
    let program = program_in c.args.self.now in let calls = calls_in c.args.self.now in let items = c.args.self.now.words.items in
    let moved = ap (λ a. set items a (to_z w32 (of_z w32 c.args.value))) c.address-place.ensures.value
    ∙ ap (set items (address program calls c.args.depth c.args.slot c.args.index)) (to_z-of_z w32 c.args.value c.ranges.value) in
    shows_by _ calls refl (write_word h c.args.depth c.args.slot c.args.index c.args.value)
    (subst (λ xs. ShowWords program calls (words_with h.words c.args.depth c.args.slot c.args.index c.args.value) xs) (sym moved)
    (written program calls h.words items c.args.depth c.args.slot c.args.index c.args.value c.requires.there c.requires.laid.within shown.words))
    shown.references
