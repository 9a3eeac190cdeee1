use Rattle.cm_gen.proofs.parts.FunctionLaw.{function_fits_at}
use Rattle.cm_gen.proofs.front.frames.Goals as goal

pub frame_words-requires : goal.frame_words-requires
frame_words-requires c =
    (function_fits_at c.args.list.now c.loop-function.function-index c.function-item.result c.requires c.loop-function-test.true c.function-item.is).frame
