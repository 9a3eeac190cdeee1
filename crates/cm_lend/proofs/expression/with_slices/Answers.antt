use Rattle.std.proofs.Common.{◌++◌, ◌+◌, sym, ap, ◌∙◌, drop, append_assoc}
use Rattle.std.proofs.lemmas.List.{drop_all, append-nil}
use Rattle.cm_syntax.specs.Evaluation.{slice_of, slices}
use Rattle.cm_lend.proofs.TreeLaw.{slices_follow}
use Rattle.cm_lend.proofs.expression.with_slices.Goals as goal

pub loop-argument-preserved : goal.loop-argument-preserved
loop-argument-preserved c =
    let passed = c.args.passed.now in
    let i = c.loop-argument.argument-index in
    let x = c.argument-item.result in
    let later = slices (drop (i + 1) passed) in
    ap (λ y. y ++ later) c.in_ok-all.ensures ∙ append_assoc c.loop-argument.all (slice_of x) later ∙
    ap (λ y. c.loop-argument.all ++ y) (sym (slices_follow passed i x c.loop-argument-test.true c.argument-item.is)) ∙ c.loop-argument.invariant

pub returns : goal.returns
returns c =
    sym (append-nil c.loop-argument.all) ∙
    ap (λ xs. c.loop-argument.all ++ slices xs) (sym (drop_all c.loop-argument.argument-index c.args.passed.now c.loop-argument-test.false)) ∙
    c.loop-argument.invariant
