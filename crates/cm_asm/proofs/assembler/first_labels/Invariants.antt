use Rattle.std.proofs.Common.{◌≡◌, ◌≤◌, ◌*◌, take}
use Rattle.cm_asm.specs.Assembly.{address_of}
use Rattle.cm_asm.specs.Label.{AreLabels}
use Rattle.cm_asm.proofs.assembler.first_labels.Given as goal

-- the table of the items so far, and the address of the next
abbrev pub invariant-loop-at : goal.invariant-loop-at
invariant-loop-at l = record {
  labels : AreLabels l.items (take l.at l.items) l.labels;
  address : l.address ≡ address_of l.items l.at;
  low : l.address ≤ 4 * l.at;
}
