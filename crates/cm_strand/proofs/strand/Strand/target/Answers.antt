use Rattle.std.proofs.Common.{ap, ◌∙◌, arith}
use Rattle.cm_strand.specs.declared.log.Hole as code_hole
use Rattle.cm_strand.proofs.LogLaw.{holes_fit, hole_got, got_it}
use Rattle.cm_strand.proofs.strand.Strand.target.Goals as goal

pub index-requires : goal.index-requires
index-requires c = let x = c.requires in let fits = holes_fit c.args.self.now.log x.0.log c.args.hole x.1 x.2.log x.3 in
    let same = c.args.self.now.log.holes.ok.0 in omega (arith, fits, same)

pub returns : goal.returns
returns c = λ S h H at. ap (λ (k : code_hole.Hole). k.target) (c.index.ensures ∙ got_it _ c.args.hole _ _ (hole_got c.args.self.now.log S.log c.args.hole H h.log at))
