use Rattle.cm_names.proofs.VariableLaw.{writes, pushed}
use Rattle.cm_names.proofs.variable.Variables.push.Goals as goal

pub returns-in_ok-push-in-Some : goal.returns-in_ok-push-in-Some
returns-in_ok-push-in-Some c x =
    pushed c.args.self.now _ c.args.name.now x c.args.variable _ _ c.in-Some.ensures.value c.in_ok-push-in-Some.ensures.ok
    (writes c.args.self.now _ c.args.name.now _ _ c.in-Some.ensures.value (c.get_mut.follows.holds c.push.new.self))
