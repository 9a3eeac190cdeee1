use Rattle.std.proofs.Common.{sym, ◌∙◌}
use Rattle.cm_syntax.specs.Walk.{nothing, choice}
use Rattle.cm_lend.proofs.expression.binary.Goals as goal

pub returns-in_ok-whole : goal.returns-in_ok-whole
returns-in_ok-whole c = λ p q h i.
    rw (sym c.stops_early.ensures ∙ c.if-stops_early.true)
    (c.in_ok-whole.ensures p (choice nothing q) h (c.in_ok-right.ensures nothing q c.nothing.ensures i))
