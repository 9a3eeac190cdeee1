use Rattle.std.proofs.Common.{◌≡◌, drop}
use Rattle.cm_syntax.specs.declared.name.Name.{Name}
use Rattle.cm_names.specs.Visible.{stack_of}
use Rattle.cm_names.specs.Passing.{items_count}
use Rattle.cm_names.proofs.pass.take_back_items.Given as goal

-- with the items that are left, each stack comes to the one without all of them
abbrev pub invariant-loop-item : goal.invariant-loop-item
invariant-loop-item l = (x : Name) → drop (items_count x (drop l.item-index l.items)) (stack_of l.variables x) ≡ drop (items_count x l.items) (stack_of l.initial.variables x)
