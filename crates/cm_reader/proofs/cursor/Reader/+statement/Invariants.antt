use Rattle.std.proofs.Common.{◌≡◌, ◌≤◌, ◌+◌, ◌*◌, [], List, length}
use Rattle.cm_syntax.specs.declared.name.Name.{Name}
use Rattle.cm_syntax.specs.declared.stmt.Stmt.{Stmt}
use Rattle.cm_syntax.specs.ParseTree.{Offset}
use Rattle.cm_syntax.specs.Parser.{State}
use Rattle.cm_reader.specs.Read.{answer}
use Rattle.cm_reader.proofs.cursor.Reader.+statement.Given as goal

abbrev pub decreases-block : goal.decreases-block
decreases-block l = 8 * length l.tokens.now

abbrev pub decreases-if_statement : goal.decreases-if_statement
decreases-if_statement l = 8 * length l.tokens.now

abbrev pub decreases-while_statement : goal.decreases-while_statement
decreases-while_statement l = 8 * length l.tokens.now

abbrev pub decreases-for_statement : goal.decreases-for_statement
decreases-for_statement l = 8 * length l.tokens.now

abbrev pub decreases-split_statement : goal.decreases-split_statement
decreases-split_statement l = 8 * length l.tokens.now

abbrev pub decreases-otherwise : goal.decreases-otherwise
decreases-otherwise l = 8 * length l.tokens.now

abbrev pub decreases-plain : goal.decreases-plain
decreases-plain l = 8 * length l.tokens.now + 1

abbrev pub decreases-body : goal.decreases-body
decreases-body l = 8 * length l.tokens.now + 2

abbrev pub decreases-branches : goal.decreases-branches
decreases-branches l = 8 * length l.tokens.now + 3

abbrev pub decreases-statement : goal.decreases-statement
decreases-statement l = 8 * length l.tokens.now + 3

abbrev pub decreases-statements : goal.decreases-statements
decreases-statements l = 8 * length l.tokens.now + 4

abbrev pub invariant-statements-loop-rest : goal.invariant-statements-loop-rest
invariant-statements-loop-rest l = record {
  reads : (k : List (Stmt Name) → Offset → State) → answer l.self.length (State.statements l.depth [] k) l.tokens ≡ answer l.self.length (State.statements l.depth l.statements k) l.rest;
  shorter : length l.rest ≤ length l.tokens;
}

abbrev pub decreases-statements-loop-rest : goal.decreases-statements-loop-rest
decreases-statements-loop-rest l = length l.rest
