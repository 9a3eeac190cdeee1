use Rattle.std.proofs.Common.{◌≡◌, ◌<◌, List, length}
use Rattle.cm_syntax.specs.declared.name.Name.{Name}
use Rattle.cm_syntax.specs.declared.stmt.Item.{Item}
use Rattle.cm_syntax.specs.Parser.{State}
use Rattle.cm_reader.specs.Read.{answer, some_parameters}
use Rattle.cm_reader.proofs.cursor.Reader.some_parameters.Given as goal

abbrev pub invariant-loop-rest : goal.invariant-loop-rest
invariant-loop-rest l = record {
  reads : (k : List (Item Name) → State) → answer l.self.length (some_parameters k) l.tokens ≡ answer l.self.length (State.more_parameters l.parameters k) l.rest;
  shorter : length l.rest < length l.tokens;
}

abbrev pub decreases-loop-rest : goal.decreases-loop-rest
decreases-loop-rest l = length l.rest
