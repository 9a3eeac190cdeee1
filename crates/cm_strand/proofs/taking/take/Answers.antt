use Rattle.std.proofs.Common.{◌≡◌, suc, ◌+◌, ap, ◌∙◌, arith, get_or, set, map, take, drop, ◌++◌}
use Rattle.cm_strand.specs.declared.log.Hole as code_hole
use Rattle.cm_strand.specs.declared.log.Filling.TheVariants as filling
use Rattle.cm_strand.specs.Due.{taken_hole}
use Rattle.cm_strand.proofs.DueLaw.{taken_more}
use Rattle.cm_strand.proofs.taking.take.Goals as goal

pub loop-hole-preserved : goal.loop-hole-preserved
loop-hole-preserved c =
    let none : code_hole.Hole = record { used = 0; target = 0; filling = filling.Empty } in
    let n = c.loop-hole.hole-index in let same : suc n ≡ n + 1 = omega arith in
    ap (λ f. set c.loop-hole.holes n (record (get_or c.loop-hole.holes n none) { filling = f })) c.with_taken-hole.ensures
    ∙ ap (λ hs. set hs n (taken_hole (get_or hs n none))) c.loop-hole.invariant
    ∙ taken_more taken_hole c.args.holes.now n none c.loop-hole-test.true
    ∙ ap (λ m. map taken_hole (take m c.args.holes.now) ++ drop m c.args.holes.now) same
