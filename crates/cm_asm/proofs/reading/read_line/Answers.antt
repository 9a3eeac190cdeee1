use Rattle.std.proofs.Common.{arith, subst}
use Rattle.std.proofs.lemmas.List.{take_rest, length-drop}
use Rattle.cm_asm.specs.Reading.{IsNumberFront}
use Rattle.cm_asm.proofs.ReadingLaw.{LeavesLine-address, LeavesLine-space, head-read, LeavesLine-word, LeavesLine-end, line-read}
use Rattle.cm_asm.proofs.reading.read_line.Goals as goal
use Rattle.cm_asm.proofs.reading.read_line.Goals.{then-matched-lt8-via-then-matched-lt8, then-matched-lt8-via-else-matched-lt8+then-text-eq8, then-matched-lt8-via-else-matched-lt8+else-text-eq8+then-text-ne32}
use Rattle.cm_asm.proofs.reading.read_line.Goals.{then-count-lt8-via-then-count-lt8, then-count-lt8-via-else-count-lt8+then-text-eq17, then-count-lt8-via-else-count-lt8+else-text-eq17+then-text-ne10}

pub returns-then-matched-lt8-clause-err : goal.returns-then-matched-lt8-clause-err
returns-then-matched-lt8-clause-err c =
    let a = c.args.address in
    let text = c.args.text.now in
    let m = c.agreeing-matched.result in
    let h = c.agreeing-matched.ensures in
    elim c.then-matched-lt8.branch [
      | then-matched-lt8-via-then-matched-lt8 w ↦ LeavesLine-address a text m h (omega arith)
      | then-matched-lt8-via-else-matched-lt8+then-text-eq8 w ↦ LeavesLine-space a text m h (omega arith) (λ lt. absurd (omega arith))
      | then-matched-lt8-via-else-matched-lt8+else-text-eq8+then-text-ne32 w ↦ LeavesLine-space a text m h (omega arith) (λ lt. w.if-text-ne32.true)
    ]

pub returns-then-count-lt8-clause-err : goal.returns-then-count-lt8-clause-err
returns-then-count-lt8-clause-err c =
    let a = c.args.address in
    let text = c.args.text.now in
    let m = c.number_front-count.result.0 in
    let v = c.number_front-count.result.1 in
    let inside = c.agreeing-matched.ensures.inside in
    let head = head-read a text c.agreeing-matched.result c.agreeing-matched.ensures (omega arith) (omega arith) (omega arith) in
    let h = subst (λ rest. IsNumberFront rest m v) (take_rest text 9) c.number_front-count.ensures in
    elim c.then-count-lt8.branch [
      | then-count-lt8-via-then-count-lt8 w ↦ LeavesLine-word a text m v head (omega arith) h (omega arith)
      | then-count-lt8-via-else-count-lt8+then-text-eq17 w ↦ LeavesLine-end a text m v head (omega arith) h (omega arith) (λ lt. absurd (omega arith))
      | then-count-lt8-via-else-count-lt8+else-text-eq17+then-text-ne10 w ↦ LeavesLine-end a text m v head (omega arith) h (omega arith) (λ lt. w.if-text-ne10.true)
    ]

pub returns-clause-ok : goal.returns-clause-ok
returns-clause-ok c =
    let a = c.args.address in
    let text = c.args.text.now in
    let m = c.number_front-count.result.0 in
    let v = c.number_front-count.result.1 in
    let inside = c.agreeing-matched.ensures.inside in
    let head = head-read a text c.agreeing-matched.result c.agreeing-matched.ensures (omega arith) (omega arith) (omega arith) in
    let h = subst (λ rest. IsNumberFront rest m v) (take_rest text 9) c.number_front-count.ensures in
    let some = h.inside in
    line-read a text m v head h (omega arith) (omega (arith, length-drop 9 text)) (omega arith)
