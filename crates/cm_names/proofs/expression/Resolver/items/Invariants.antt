use Rattle.std.proofs.Common.{drop}
use Rattle.cm_names.proofs.StepLaw.{ItemsLeft}
use Rattle.cm_names.proofs.expression.Resolver.items.Given as goal

-- with the items that are left, what was resolved comes to the whole
abbrev pub invariant-loop-item : goal.invariant-loop-item
invariant-loop-item l = ItemsLeft l.self.functions.now l.self.function.now l.base l.items (drop l.item-index l.items) l.initial.pass l.pass l.resolved
