use Rattle.std.proofs.Common.{◌≡◌, ℕ, map, take}
use Rattle.cm_syntax.specs.declared.stmt.Item.{Item}
use Rattle.cm_gen.proofs.front.slots_of.Given as goal

-- the slots of the items so far
abbrev pub invariant-loop-item : goal.invariant-loop-item
invariant-loop-item l = l.slots ≡ map (λ (item : Item ℕ). item.slot) (take l.item-index l.items)
