use Rattle.cm_names.proofs.StatementLaw.{own_assignment}
use Rattle.cm_names.proofs.expression.Resolver.assignment.Goals as goal

pub returns : goal.returns
returns c =
    own_assignment c.args.self.now.functions.now c.args.self.now.function.now c.args.target.now c.args.op c.args.value.now _ _ _ _ _ c.in_ok-target.ensures c.in_ok-value.ensures
