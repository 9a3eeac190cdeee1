use Rattle.std.proofs.Common.{sym, ◌∙◌, subst, List, drop, true}
use Rattle.cilkm.specs.Pieces.{Piece, pieces}
use Rattle.cilkm.proofs.PieceLaw.{Read, piece_at, one_read, wrong_read, stops_at}
use Rattle.cilkm.proofs.pieces.numbers.Goals as goal

pub returns-in_err-value-clause-stop : goal.returns-in_err-value-clause-stop
returns-in_err-value-clause-stop c =
    let all = pieces c.args.start true (drop c.args.start c.args.input.now) in
    let next = piece_at c.args.input.now c.loop-at.at c.piece_length-count.result c.loop-at-test.true (sym c.is_separator.ensures ∙ c.if-is_separator.false)
    c.piece_length-count.ensures.within c.piece_length-count.ensures.piece in
    let read = subst (λ (rest : List Piece). Read all rest c.loop-at.numbers) next c.loop-at.invariant in
    stops_at all c.loop-at.at c.from_residual.result c.in_err-value.field-0.0 c.from_residual.ensures.1 c.in_err-value.ensures.stop.0
    (wrong_read all _ c.loop-at.numbers _ c.len.result read c.len.ensures c.in_err-value.ensures.stop.1)

pub loop-at-preserved : goal.loop-at-preserved
loop-at-preserved c =
    let all = pieces c.args.start true (drop c.args.start c.args.input.now) in
    let next = piece_at c.args.input.now c.loop-at.at c.piece_length-count.result c.loop-at-test.true (sym c.is_separator.ensures ∙ c.if-is_separator.false)
    c.piece_length-count.ensures.within c.piece_length-count.ensures.piece in
    let read = subst (λ (rest : List Piece). Read all rest c.loop-at.numbers) next c.loop-at.invariant in
    one_read all _ c.loop-at.numbers c.push.new.self _ c.len.result c.in_ok-value.value read c.len.ensures c.in_ok-value.ensures.value c.in_ok-push.ensures.ok
