use Rattle.cm_syntax.specs.Walk.{choice}
use Rattle.cm_lend.proofs.statement.branches.Goals as goal

pub returns : goal.returns
returns c = λ p q r h i j. c.in_ok-whole.ensures p (choice q r) h (c.in_ok-choice.ensures q r i j)
