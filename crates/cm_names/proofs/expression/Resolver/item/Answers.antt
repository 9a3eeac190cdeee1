use Rattle.cm_names.proofs.StepLaw.{does_item}
use Rattle.cm_names.proofs.expression.Resolver.item.Goals as goal

pub returns : goal.returns
returns c =
    does_item c.args.self.now.functions.now c.args.self.now.function.now c.args.base c.args.item.now c.args.pass.now _ _ _ _ _
    c.note_second.ensures c.in_ok-first.ensures c.in_ok-slot.ensures
