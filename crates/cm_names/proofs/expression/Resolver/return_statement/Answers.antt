use Rattle.cm_names.proofs.StatementLaw.{own_return}
use Rattle.cm_names.proofs.expression.Resolver.return_statement.Goals as goal

pub returns : goal.returns
returns c =
    own_return c.args.self.now.functions.now c.args.self.now.function.now c.args.at c.args.value.now c.is_some.result c.args.pass.now _ _ _ c.is_some.ensures
    c.return_keyword.ensures c.in_ok-value.ensures
