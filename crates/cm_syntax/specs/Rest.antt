-- Rests: what a running program has still to do, with what is at hand.
use Rattle.std.specs.Prelude.{ℕ, ℤ, Option, List}
use Rattle.cm_syntax.specs.declared.expr.Op.{Op}
use Rattle.cm_syntax.specs.declared.expr.Expr.{Expr}
use Rattle.cm_syntax.specs.declared.expr.Call.{Row_of-Arg}
use Rattle.cm_syntax.specs.declared.stmt.Item as items
use Rattle.cm_syntax.specs.declared.stmt.Stmt.{Stmt, Row_of-Stmt}
use Rattle.cm_syntax.specs.Stack.{Argument, Destination}

-- what a call's arguments are for: a call, or a spawn with the slot of its destination
pub data Purpose : Type 0 where
  called : Purpose
  spawned : (destination : Option ℕ) → Purpose

-- One thing that is still to do. Items hold no depths, since the running function's frame is the last one, and no
-- addresses.
pub data Item : Type 0 where
  -- an expression, whose value becomes the value at hand
  evaluate : Expr ℕ → Item
  -- the value at hand is the left operand of a binary operator, and then it is the right one; or the only operand
  right : Op → Expr ℕ → Item
  apply : Op → (left : ℤ) → Item
  prefix : Op → Item
  -- the value at hand is the left operand of `&&` or of `||`, and then what decides: 1 for all but 0
  both : Expr ℕ → Item
  either : Expr ℕ → Item
  truth : Item
  -- the value at hand is an index into this slot, or into the input
  element : (slot : ℕ) → Item
  read : Item
  -- The arguments of a call that are known, last first, and those to come; and the same where the value at hand is
  -- the next one.
  arguments : Purpose → (f : ℕ) → List Argument → {n : _} → Row_of-Arg ℕ n → Item
  pass : Purpose → (f : ℕ) → List Argument → {n : _} → Row_of-Arg ℕ n → Item
  -- what a call came back with becomes the value at hand, is dropped, or goes to the destination of its spawn
  take_back : Item
  discard : Item
  deliver : Destination → Item
  -- a statement; the statements of a block, and of a function's body; the items of a declaration
  perform : Stmt ℕ → Item
  sequence : {n : _} → Row_of-Stmt ℕ n → Item
  body : List (Stmt ℕ) → Item
  declare : List (items.Item ℕ) → Item
  -- the value at hand goes into a scalar, as it is or after an operation with the old word
  assign : (slot : ℕ) → Item
  update : (slot : ℕ) → Op → Item
  -- the value at hand is the index of an element that is written, and then it is the value for this index
  locate : (slot : ℕ) → Option Op → Expr ℕ → Item
  store : (slot index : ℕ) → Option Op → Item
  -- the value at hand chooses
  branch : Stmt ℕ → (other : Option (Stmt ℕ)) → Item
  -- a loop before its condition, and with its condition at hand
  turn : Option (Expr ℕ) → (step body : Stmt ℕ) → Item
  test : Expr ℕ → (step body : Stmt ℕ) → Item
  -- the value at hand is where a slice is split
  part : (whole left right : ℕ) → {n : _} → Row_of-Stmt ℕ n → Item
  -- a tick, behind which what is at hand is kept; then the value at hand is printed
  tick : Item
  show : Item
  -- A completed `return`; the end of a body that falls off; the join, which waits for the children of this call; the
  -- end of the call.
  exit : Item
  fall : Item
  join : Item
  end : Item

-- What is at hand: nothing; a value; what a call came back with, which has no value where it is of a void function
-- or of a `return` without one; or a call with its arguments, last first, before its tick and before its frame.
pub data Hand : Type 0 where
  idle : Hand
  holds : ℤ → Hand
  returned : Option ℤ → Hand
  entering : (f : ℕ) → List Argument → Hand
  framing : (f : ℕ) → List Argument → Hand

-- The functions of the frames, last first, so that a frame's depth is the number of those behind it; the bytes that
-- are left of the stack account; the hand; the rest, what comes first standing first.
pub record Control : Type 0 where
  pub calls : List ℕ
  pub account : ℕ
  pub hand : Hand
  pub rest : List Item

abbrev pub control : List ℕ → ℕ → Hand → List Item → Control
control calls account hand rest = record { calls = calls; account = account; hand = hand; rest = rest }
