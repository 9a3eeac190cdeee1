use Rattle.cm_syntax.specs.Walk.{next}
use Rattle.cm_syntax.specs.Evaluation.{expression_order, mention_order}
use Rattle.cm_lend.proofs.statement.assignment.Goals as goal

pub returns-in_ok-whole-in-Scalar : goal.returns-in_ok-whole-in-Scalar
returns-in_ok-whole-in-Scalar c = λ p h.
    rw c.in-Scalar.is (c.in_ok-whole-in-Scalar.ensures p (mention_order c.in-Scalar.mark) h c.in_ok-mention-in-Scalar.ensures)

pub returns-in_ok-whole-in-Index : goal.returns-in_ok-whole-in-Index
returns-in_ok-whole-in-Index c = λ p h.
    let mark = mention_order c.in-Index.mark in
    rw c.in-Index.is
    (c.in_ok-whole-in-Index.ensures (expression_order c.in-Index.index) (next mark p) c.in_ok-expression-in-Index.ensures
    (c.in_ok-behind-in-Index.ensures mark p c.in_ok-mention-in-Index.ensures h))
