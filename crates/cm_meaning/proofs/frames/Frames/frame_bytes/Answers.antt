use Rattle.std.proofs.Common.{◌*◌, arith, ap, ◌∙◌, sym, slice_index_or}
use Rattle.cm_meaning.specs.Measure.{frame_bytes_in}
use Rattle.cm_meaning.proofs.FramesLaw.{some_of, layout_read}
use Rattle.cm_meaning.proofs.frames.Frames.frame_bytes.Goals as goal

pub overflow_mul-result : goal.overflow_mul-result
overflow_mul-result c =
    let p = some_of _ c.requires.there in
    let is = c.index-items-function.is ∙ ap (λ xs. slice_index_or xs c.args.function c.index-items-function.result) c.items.ensures in
    let l = layout_read c.args.self.now c.requires.laid c.args.function p.0 c.index-items-function.result p.1 is in
    omega (arith, c.requires.laid.fits c.args.function p.0 p.1, ap (λ q. q.words) (sym c.index-items-function.is ∙ l))

pub returns : goal.returns
returns c =
    let p = some_of _ c.requires.there in
    let is = c.index-items-function.is ∙ ap (λ xs. slice_index_or xs c.args.function c.index-items-function.result) c.items.ensures in
    let l = layout_read c.args.self.now c.requires.laid c.args.function p.0 c.index-items-function.result p.1 is in
    ap (λ q. 4 * q.words) (sym c.index-items-function.is ∙ l) ∙ ap frame_bytes_in (sym p.1)
