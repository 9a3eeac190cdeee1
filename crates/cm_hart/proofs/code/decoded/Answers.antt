use Rattle.cm_hart.proofs.CodeLaw.{decodes, decoded_more}
use Rattle.cm_hart.proofs.code.decoded.Goals as goal

pub words-preserved : goal.words-preserved
words-preserved c =
    decoded_more c.args.words.now c.words.index c.words.instrs.items c.push.new.self.items c.decode.result c.words-test.true c.words.invariant
    (decodes _ c.decode.result c.decode.ensures.row c.decode.ensures.all) c.in_ok-push.ensures.items
