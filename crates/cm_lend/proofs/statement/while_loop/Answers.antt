use Rattle.cm_syntax.specs.Evaluation.{expression_order}
use Rattle.cm_lend.proofs.statement.while_loop.Goals as goal

pub returns : goal.returns
returns c = λ p h.
    let test = expression_order c.args.test.now in
    c.in_ok-whole.ensures test p test c.in_ok-before.ensures h c.in_ok-behind.ensures
