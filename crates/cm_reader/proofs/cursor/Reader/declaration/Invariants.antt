use Rattle.std.proofs.Common.{◌≡◌, ◌<◌, [], List, length}
use Rattle.cm_syntax.specs.declared.name.Name.{Name}
use Rattle.cm_syntax.specs.declared.stmt.Item.{Item}
use Rattle.cm_syntax.specs.Parser.{State, declarator}
use Rattle.cm_reader.specs.Read.{answer}
use Rattle.cm_reader.proofs.cursor.Reader.declaration.Given as goal

abbrev pub invariant-loop-self : goal.invariant-loop-self
invariant-loop-self l = record {
  reads : (k : List (Item Name) → State) → answer l.self.length (declarator [] k) l.tokens ≡ answer l.self.length (State.more_items l.items k) l.rest;
  shorter : length l.rest < length l.tokens;
}

abbrev pub decreases-loop-self : goal.decreases-loop-self
decreases-loop-self l = length l.rest
