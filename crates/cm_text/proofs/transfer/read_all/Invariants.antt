use Rattle.std.proofs.Common.{◌+◌, ◌-◌, ◌≤◌, length}
use Rattle.std.specs.Io.KnownBytes.{Consumes}
use Rattle.cm_text.proofs.transfer.read_all.Given as goal

abbrev pub invariant-loop-room : goal.invariant-loop-room
invariant-loop-room g l = record {
  gave : Consumes (g.I.Source.left l.fn.source) (g.I.Source.left l.source) l.bytes;
  kept : g.I.Source.faults l.fn.source ≤ g.I.Source.faults l.source;
  few : g.I.Source.reads l.source ≤ g.I.Source.reads l.fn.source + length l.bytes;
  fewer : g.I.Source.reads l.source ≤ g.I.Source.reads l.fn.source + (l.limit + 1);
}

abbrev pub decreases-loop-room : goal.decreases-loop-room
decreases-loop-room g l = l.limit + 1 - length l.bytes
