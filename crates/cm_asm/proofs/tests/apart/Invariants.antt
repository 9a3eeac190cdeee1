use Rattle.std.proofs.Common.{◌≡◌, ◌+◌, length, All}
use Rattle.cm_asm.specs.Assembly.{IsItem}
use Rattle.cm_asm.proofs.tests.apart.Given as goal

abbrev pub invariant-loop : goal.invariant-loop
invariant-loop l = record { each : All IsItem l.items; count : length l.items ≡ l.counter + 1 }
