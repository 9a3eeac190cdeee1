use Rattle.std.proofs.Common.{◌/◌, ◌%◌, append_assoc, ap, sym, ◌∙◌}
use Rattle.cm_big.proofs.SourceLaw.{function_more}
use Rattle.cm_big.specs.Draw.{next_value}
use Rattle.cm_big.specs.Source.{function_line, function_lines}
use Rattle.cm_big.proofs.big.put_functions.Goals as goal

pub loop-index-preserved : goal.loop-index-preserved
loop-index-preserved c =
    let seed = c.args.generator.now in
    let index = c.loop-index.index-counter in
    let first = c.draw.new.self in
    let second = c.draw-in-loop-index.new.self in
    let more = function_more seed index first second (c.draw.ensures.value ∙ ap next_value c.loop-index.invariant.1) c.draw-in-loop-index.ensures.value in (
      rw (c.in_ok-append.ensures.ok, c.as_bytes.ensures.value, c.in_ok-line.ensures.ok, c.loop-index.invariant.0, more.0, c.draw.ensures.draw, c.draw-in-loop-index.ensures.draw)
          (append_assoc c.args.source.now (function_lines seed index) (function_line index (first / 65536 % 100) (second / 65536 % 100))),
      sym more.1,
    )
