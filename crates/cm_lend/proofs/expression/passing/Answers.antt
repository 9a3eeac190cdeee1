use Rattle.std.proofs.Common.{◌++◌, ◌∙◌, ap, subst}
use Rattle.cm_syntax.specs.Evaluation.{slices}
use Rattle.cm_lend.specs.Breach.{IsBest, IsAgain}
use Rattle.cm_lend.proofs.SummaryLaw.{sums_calls}
use Rattle.cm_lend.proofs.expression.passing.Goals as goal

pub returns : goal.returns
returns c =
    let passed = slices c.args.passed.now in
    let same = c.items.ensures ∙ c.in_ok-slices.ensures ∙ ap (λ before. before ++ passed) c.new.ensures in
    rw c.new-2.ensures (rw c.new-3.ensures
    (sums_calls passed c.again.result (subst (λ xs. IsBest (IsAgain xs) c.again.result) same c.again.ensures)))
