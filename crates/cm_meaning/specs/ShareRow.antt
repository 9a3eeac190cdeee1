-- A row of shares, worked out by hand. No program lends a word for reading alone yet, so its piece is written down.
use Rattle.std.specs.Prelude.{ℕ, true, false, ◌==◌, ◌&&◌, if◌then◌else◌, pos, None, Some, List, [], ◌∷◌}
use Rattle.cm_syntax.specs.declared.expr.Op.TheVariants as op
use Rattle.cm_syntax.specs.declared.stmt.Slot.TheVariants as slot
use Rattle.cm_syntax.specs.declared.stmt.Stmt.{Stmt}
use Rattle.cm_syntax.specs.declared.stmt.Stmt.TheVariants as statement
use Rattle.cm_syntax.specs.declared.stmt.Program.{Program}
use Rattle.cm_syntax.specs.Cell.{absent, Loan, unlent, to_read, lent_cell, kept_cell}
use Rattle.cm_syntax.specs.Stack.{Stack, Destination, Argument, slice, empty_stack, push_frame, write_word}
use Rattle.cm_syntax.specs.Rest.{Control, control, idle, entering, body, fall, join, end}
use Rattle.cm_meaning.specs.End.{Done}
use Rattle.cm_meaning.specs.Meaning.{Ask, Note, Piece}
use Rattle.cm_meaning.specs.Piece.{piece, child, awaited, told}
use Rattle.cm_meaning.specs.Row.{mark, number, variable, element_of, item_of, int_function, program_of, assign_scalar, give_back}

-- `print(x); sync; x += 1; return x;`
abbrev pub behind : List (Stmt ℕ)
behind = statement.Print (variable 0) ∷ statement.Sync 0 ∷ assign_scalar 0 (Some op.Add) (number 1) ∷ give_back (variable 0) ∷ []

-- `cilk void child(int p[]) { print(p[0]); }`, and a main that goes on so behind its spawn
abbrev pub readers : Program
readers = program_of (int_function true (slot.Scalar ∷ []) [] behind
    ∷ record {
      name = mark 0;
      cilk = true;
      gives = false;
      parameters = item_of 0 slot.Slice ∷ [];
      body = statement.Print (element_of 0 0) ∷ [];
      slots = slot.Slice ∷ [];
    } ∷ [])

-- main's stack where x is 7
abbrev pub before : Stack
before = write_word (push_frame empty_stack 0 []) 0 0 0 (pos 7)

-- x is lent for reading
abbrev pub loan : (d s i : ℕ) → Loan
loan d s i = if d == 0 && (s == 0 && i == 0) then to_read else unlent

-- the stack that the child has: of x what is lent, and no reference
abbrev pub lent : Stack
lent = record { words = λ d s i. lent_cell (loan d s i) (before.words d s i); references = λ d s. absent }

-- the stack that main keeps: of x what isn't lent, and its references
abbrev pub kept : Stack
kept = record { words = λ d s i. kept_cell (loan d s i) (before.words d s i); references = before.references }

-- `child(&x)`
abbrev pub given : List Argument
given = slice (record { depth = 0; slot = 0; start = 0; length = 1 }) ∷ []

-- the child that is called, entering with its argument
abbrev pub called : Control
called = control (0 ∷ []) 1000 (entering 1 given) []

-- main, going on behind its spawn
abbrev pub going_on : Control
going_on = control (0 ∷ []) 1000 idle (body behind ∷ fall ∷ join ∷ end ∷ [])

-- what main asks for: the child's call, from tick 10 on, on what it is lent
abbrev pub asked : Ask
asked = record { start = 10; call = called; lent = lent }

-- main's piece behind the spawn
abbrev pub reader : Piece
reader = piece Control Stack Destination 10 0 going_on kept (child 0 0 None false asked awaited ∷ [])

-- the child's end, and what is still in its answer
abbrev pub answered : Stack → Note
answered w = child 0 0 None false asked (told (Done (pos 7 ∷ []) None 2) w)

-- main's piece when the child's end is told, with all that it gives back
abbrev pub heard : Piece
heard = piece Control Stack Destination 10 0 going_on kept (answered lent ∷ [])

-- and when the child's share came back early
abbrev pub returned : Piece
returned = piece Control Stack Destination 10 0 going_on before (answered empty_stack ∷ [])
