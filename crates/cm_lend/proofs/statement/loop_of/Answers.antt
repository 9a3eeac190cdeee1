use Rattle.cm_syntax.specs.Walk.{next, turns}
use Rattle.cm_lend.proofs.statement.loop_of.Goals as goal

pub returns : goal.returns
returns c = λ p q r h i j.
    c.in_ok-whole.ensures (turns (next p q)) r (c.in_ok-turns.ensures (next p q) (c.in_ok-one.ensures p q h i)) j
