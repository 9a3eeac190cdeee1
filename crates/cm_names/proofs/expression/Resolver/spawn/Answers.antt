use Rattle.cm_names.proofs.StatementLaw.{own_spawn, own_spawn_alone}
use Rattle.cm_names.proofs.expression.Resolver.spawn.Goals as goal

pub returns-in_ok-call-in-None : goal.returns-in_ok-call-in-None
returns-in_ok-call-in-None c =
    own_spawn_alone c.args.self.now.functions.now c.args.self.now.function.now c.args.at c.args.target.now c.args.call.now _ _ _ _ c.in-None.is
    c.parallel_keyword.ensures c.in_ok-call-in-None.ensures

pub returns-in_ok-call-in-Some : goal.returns-in_ok-call-in-Some
returns-in_ok-call-in-Some c =
    own_spawn c.args.self.now.functions.now c.args.self.now.function.now c.args.at c.args.target.now _ c.args.call.now _ _ _ _ _ _ c.in-Some.is
    c.mentioned-target.ensures c.parallel_keyword-in-Some.ensures c.in_ok-call-in-Some.ensures
