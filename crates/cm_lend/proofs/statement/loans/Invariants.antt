use Rattle.std.proofs.Common.{◌≡◌, map, take}
use Rattle.cm_syntax.specs.Lending.{variables}
use Rattle.cm_lend.specs.Summary.{loan}
use Rattle.cm_lend.proofs.statement.loans.Given as goal

abbrev pub invariant-loop-mark : goal.invariant-loop-mark
invariant-loop-mark l = l.all ≡ map (loan l.at) (variables (take l.mark-index l.lent))
