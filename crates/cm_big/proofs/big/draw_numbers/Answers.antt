use Rattle.std.proofs.Common.{◌≡◌, suc, ◌%◌, pos, add-one, arith, refl, sym, w32}
use Rattle.std.proofs.lemmas.Int.{to_z_pos}
use Rattle.std.specs.Int.{cast_signed}
use Rattle.cm_big.proofs.SourceLaw.{each_more, value_more}
use Rattle.cm_big.specs.Draw.{value_after}
use Rattle.cm_big.proofs.big.draw_numbers.Goals as goal

pub loop-index-preserved : goal.loop-index-preserved
loop-index-preserved c =
    let index = c.loop-index._index in
    let value : c.draw-number.new.self ≡ value_after (suc index) c.args.generator.now =
    rw (c.draw-number.ensures.value, c.loop-index.invariant.1) (sym (value_more index c.args.generator.now)) in
    let number : cast_signed w32 (c.draw-number.result % 1000) ≡ pos (c.draw-number.result % 1000) = to_z_pos w32 _ (omega arith) in
    (rw (c.in_ok-push.ensures.ok, c.loop-index.invariant.0, each_more, number, c.draw-number.ensures.draw, value) refl, rw add-one value)
