use Rattle.cm_names.proofs.ScopeLaw.{body_step, body_end}
use Rattle.cm_names.proofs.pass.take_back_body.Goals as goal

pub loop-statement-preserved : goal.loop-statement-preserved
loop-statement-preserved c x = body_step x _ _ _ _ _ _ c.loop-statement-test.true c.statement-item.is (c.loop-statement.invariant x) (c.take_back.ensures x)

pub returns : goal.returns
returns c x = body_end x _ _ _ _ c.loop-statement-test.false (c.loop-statement.invariant x)
