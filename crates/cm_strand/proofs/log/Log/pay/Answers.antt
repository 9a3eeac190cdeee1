use Rattle.std.proofs.Common.{ap, ◌∙◌, arith, true, false, sym, refl}
use Rattle.std.specs.Prelude.{set, min, ◌+◌}
use Rattle.cm_strand.specs.Turn.{filled_hole, fill}
use Rattle.cm_strand.specs.Seen.{hole_of, largest}
use Rattle.cm_strand.specs.declared.log.Hole as code_hole
use Rattle.cm_strand.specs.declared.log.Filling.TheVariants as filling
use Rattle.cm_strand.proofs.LogLaw.{holes_fit, hole_got, got_it, hole_filled, log_paid, done_filling}
use Rattle.cm_strand.proofs.log.Log.pay.Goals as goal

pub index-requires : goal.index-requires
index-requires c =
    let (log, H, e, aside, h, at, none, done) = c.requires in
    let fits = holes_fit c.args.self.now (fill log c.args.hole e false aside) c.args.hole _ h (hole_filled log c.args.hole H e false aside at) in
    let same = c.args.self.now.holes.ok.0 in omega (arith, fits, same)

pub put_filling-requires : goal.put_filling-requires
put_filling-requires c =
    let (log, H, e, aside, h, at, none, done) = c.requires in
    let fits = holes_fit c.args.self.now (fill log c.args.hole e false aside) c.args.hole _ h (hole_filled log c.args.hole H e false aside at) in
    let same = c.args.self.now.holes.ok.0 in omega (arith, fits, same)

pub returns : goal.returns
returns c = λ log H e aside h at none done.
    let there = hole_got c.args.self.now (fill log c.args.hole e false aside) c.args.hole (filled_hole H e false aside) h (hole_filled log c.args.hole H e false aside at) in
    let ticks = c.ticks_of-ticks.ensures e false (ap (λ (k : code_hole.Hole). k.filling) (c.index.ensures ∙ got_it _ c.args.hole _ _ there)) in (
      log_paid c.args.self.now _ log c.args.hole H e aside h at none refl
          (c.put_filling.ensures (hole_of (filled_hole H e false aside)) there
          ∙ ap (λ t. set c.args.self.now.holes.items c.args.hole (record (hole_of H) { filling = filling.Done t true })) ticks
          ∙ ap (λ f. set c.args.self.now.holes.items c.args.hole (record (hole_of H) { filling = f })) (sym (done_filling e done)))
          (c.saturating_add-self.ensures ∙ ap (λ t. min (c.args.self.now.paid + t) largest) ticks),
      ticks,
    )
