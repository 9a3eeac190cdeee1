use Rattle.std.proofs.Common.{◌++◌, ◌∙◌, ap, subst, map}
use Rattle.cm_syntax.specs.Evaluation.{slices, destination_of}
use Rattle.cm_syntax.specs.Lending.{variables}
use Rattle.cm_lend.specs.Breach.{IsBest, IsAgain}
use Rattle.cm_lend.specs.Summary.{loan}
use Rattle.cm_lend.proofs.SummaryLaw.{sums_spawn}
use Rattle.cm_lend.proofs.statement.lending.Goals as goal

pub returns : goal.returns
returns c =
    let lent = destination_of c.args.target.now ++ slices c.args.passed.now in
    let same = c.in_ok-lent.ensures ∙ ap (λ before. before ++ slices c.args.passed.now) c.in_ok-with_destination.ensures in
    let loans = c.in_ok-leaving.ensures ∙ ap (λ xs. map (loan c.args.at) (variables xs)) (c.items.ensures ∙ same) in
    rw loans (rw c.new.ensures
    (sums_spawn c.args.at lent c.again.result (subst (λ xs. IsBest (IsAgain xs) c.again.result) (c.items-2.ensures ∙ same) c.again.ensures)))
