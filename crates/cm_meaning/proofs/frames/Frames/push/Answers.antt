use Rattle.std.proofs.Common.{◌≡◌, [], ◌∷◌, ◌++◌, length, map, reverse, ap, sym, subst, ◌∙◌, arith, slice_index_or}
use Rattle.std.proofs.lemmas.Option.{slice_get_within}
use Rattle.cm_syntax.specs.Stack.{push_frame}
use Rattle.cm_meaning.specs.declared.frames.Frame.{Frame}
use Rattle.cm_meaning.specs.Layout.{argument_of, words_in, offsets_from, frames_of, program_in, calls_in, room_in, ArePlaces, ArePut}
use Rattle.cm_meaning.proofs.FramesLaw.{layout_read}
use Rattle.cm_meaning.proofs.KeptLaw.{places_of, pushed_words, pushed_references, calls_push, shows_by, laid_by}
use Rattle.cm_meaning.proofs.frames.Frames.push.Goals as goal

pub put_arguments-requires-clause-places : goal.put_arguments-requires-clause-places
put_arguments-requires-clause-places c =
    let self = c.args.self.now in let laid = c.requires.laid in let call = c.requires.takes in let ws = c.args.arguments.now in
    let layout = layout_read self laid c.args.function call.function c.index-items-function.result call.there
    (c.index-items-function.is ∙ ap (λ xs. slice_index_or xs c.args.function c.index-items-function.result) c.items.ensures) in
    subst (λ o. ArePlaces o self.used (length ws) (room_in self)) (sym (c.items-2.ensures ∙ ap (λ q. q.offsets) layout))
    (subst (λ b. ArePlaces (offsets_from 0 call.function.slots) b (length ws) (room_in self)) (sym laid.used)
    (places_of (program_in self) (calls_in self) c.args.function ws call (room_in self) c.requires.room))

pub returns-clause-laid : goal.returns-clause-laid
returns-clause-laid c =
    let self = c.args.self.now in let laid = c.requires.laid in let call = c.requires.takes in
    let program = program_in self in let calls = calls_in self in let put = c.put_arguments.ensures in
    let layout = layout_read self laid c.args.function call.function c.index-items-function.result call.there
    (c.index-items-function.is ∙ ap (λ xs. slice_index_or xs c.args.function c.index-items-function.result) c.items.ensures) in
    let last : Frame = record { function = c.args.function; base = self.used } in
    let items : c.push.new.self.items ≡ self.frames.items ++ last ∷ [] = c.in_ok-push.ensures.items in
    let placed = items ∙ ap (λ xs. xs ++ last ∷ []) laid.placed
    ∙ ap (λ b. frames_of program calls ++ record { function = c.args.function; base = b } ∷ []) laid.used in
    laid_by _ (c.args.function ∷ calls) (calls_push self.frames.items c.push.new.self.items last items) laid.fits laid.layouts
    (slice_get_within program.functions c.args.function call.function call.there, laid.known) placed
    (omega (arith, laid.used, ap (λ q. q.words) layout, ap words_in call.there))
    (omega (arith, c.requires.room, put.words_length))
    (omega (arith, laid.paired, put.words_length, put.references_length))
    (omega (arith, laid.few, put.words_length))

pub returns-clause-shows : goal.returns-clause-shows
returns-clause-shows c = λ h shown.
    let self = c.args.self.now in let laid = c.requires.laid in let call = c.requires.takes in let ws = c.args.arguments.now in
    let program = program_in self in let calls = calls_in self in
    let layout = layout_read self laid c.args.function call.function c.index-items-function.result call.there
    (c.index-items-function.is ∙ ap (λ xs. slice_index_or xs c.args.function c.index-items-function.result) c.items.ensures) in
    let last : Frame = record { function = c.args.function; base = self.used } in
    let put = subst (λ b. ArePut (offsets_from 0 call.function.slots) b (length ws) ws self.words.items c.put_arguments.new.words.items
    self.references.items c.put_arguments.new.references.items) laid.used
    (subst (λ o. ArePut o self.used (length ws) ws self.words.items c.put_arguments.new.words.items
    self.references.items c.put_arguments.new.references.items) (c.items-2.ensures ∙ ap (λ q. q.offsets) layout) c.put_arguments.ensures) in
    shows_by _ (c.args.function ∷ calls) (calls_push self.frames.items c.push.new.self.items last c.in_ok-push.ensures.items)
    (push_frame h (length calls) (reverse (map argument_of ws)))
    (pushed_words program calls c.args.function ws call self.words.items c.put_arguments.new.words.items self.references.items c.put_arguments.new.references.items
    put h shown.words)
    (pushed_references program calls c.args.function ws call self.words.items c.put_arguments.new.words.items self.references.items c.put_arguments.new.references.items
    put h shown.references)
