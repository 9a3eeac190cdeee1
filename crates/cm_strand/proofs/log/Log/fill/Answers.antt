use Rattle.std.proofs.Common.{ap, ◌∙◌, arith, length}
use Rattle.std.specs.Prelude.{set, slice_get}
use Rattle.cm_meaning.specs.Ended.{end_of}
use Rattle.cm_meaning.specs.Output.{hole_at}
use Rattle.cm_strand.specs.declared.log.Log.{Log}
use Rattle.cm_strand.specs.Seen.{hole_of}
use Rattle.cm_strand.proofs.LogLaw.{open_there, holes_fit, hole_got, log_filled}
use Rattle.cm_strand.proofs.log.Log.fill.Goals as goal

pub piece-filling-requires-clause-hole : goal.piece-filling-requires-clause-hole
piece-filling-requires-clause-hole c =
    let x = c.requires.hole in ap (hole_at c.args.hole) x.2.output ∙ open_there x.0 c.args.hole x.1 x.3 x.4

pub put_filling-requires : goal.put_filling-requires
put_filling-requires c =
    let x = c.requires.hole in let fits = holes_fit c.args.self.now x.0 c.args.hole x.1 x.2 x.3 in
    let same = ap (λ (l : Log). length l.holes.items) c.piece-filling.ensures.output in let len = c.piece-filling.new.self.holes.ok.0 in omega (arith, fits, same, len)

pub returns : goal.returns
returns c = λ log h H aside at none.
    let items = ap (λ (l : Log). l.holes.items) c.piece-filling.ensures.output in
    log_filled c.args.self.now (record { output = c.piece-filling.new.self.output; holes = c.put_filling.new.holes; paid = c.piece-filling.new.self.paid }) log c.args.hole H (end_of c.args.ended) aside h at none
    (ap (λ (l : Log). l.output) c.piece-filling.ensures.output)
    (c.put_filling.ensures (hole_of H) (ap (λ hs. slice_get hs c.args.hole) items ∙ hole_got c.args.self.now log c.args.hole H h at)
    ∙ ap (λ hs. set hs c.args.hole (record (hole_of H) { filling = c.piece-filling.result })) items
    ∙ ap (λ f. set c.args.self.now.holes.items c.args.hole (record (hole_of H) { filling = f })) c.piece-filling.ensures.filling)
    (ap (λ (l : Log). l.paid) c.piece-filling.ensures.output)
