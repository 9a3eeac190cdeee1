use Rattle.std.proofs.Common.{◌+◌, ◌^◌, ◌<◌, List, ℕ, length, take, sym, subst, arith}
use Rattle.cm_isa.specs.Address.{AreWordsOf}
use Rattle.cm_isa.specs.Format.{Row}
use Rattle.cm_gen.specs.Builder.{seen}
use Rattle.cm_gen.specs.Part.{placed, laid}
use Rattle.cm_gen.proofs.parts.LayingLaw.{calls_at, words_next}
use Rattle.cm_gen.proofs.laying.lay.Goals as goal

pub place-requires-clause-call : goal.place-requires-clause-call
place-requires-clause-call c = calls_at (2 ^ 16) c.args.code.now c.loop-at.at (seen c.word.result) c.requires.calls c.word.ensures.seen

pub loop-at-preserved : goal.loop-at-preserved
loop-at-preserved c =
    let code = c.args.code.now in
    let lt : c.loop-at.at < length code = omega (arith, c.loop-at-test.true, c.len-at-end.ensures) in
    let row : Row c.encode.result (placed c.loop-at.address (seen c.word.result)) = subst (Row c.encode.result) c.place.ensures c.encode.ensures in
    let next = words_next c.args.start code c.loop-at.at c.loop-at.address c.encode.result (seen c.word.result) c.loop-at.words lt c.word.ensures.seen c.loop-at.invariant.1 c.loop-at.invariant.0 row in
    (subst (λ (l : List ℕ). AreWordsOf l (laid c.args.start (take (c.loop-at.at + 1) code))) (sym c.in_ok-push.ensures.ok) next, omega (arith, c.loop-at.invariant.1))
