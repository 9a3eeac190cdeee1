use Rattle.std.proofs.Common.{append_assoc}
use Rattle.cm_big.proofs.SourceLaw.{each_more}
use Rattle.cm_big.specs.Source.{call_line, call_lines}
use Rattle.cm_big.proofs.big.put_calls.Goals as goal

pub loop-index-preserved : goal.loop-index-preserved
loop-index-preserved c =
    let index = c.loop-index.index-counter in
    rw (c.in_ok-append.ensures.ok, c.as_bytes.ensures.value, c.in_ok-line.ensures.ok, c.loop-index.invariant, each_more index call_line)
    (append_assoc c.args.source.now (call_lines index) (call_line index))
