-- The words of a function's frame: two that are saved, its slots, and the temporaries of its expressions.
use Rattle.std.specs.Prelude.{ℕ, ◌+◌, ◌*◌, ◌/◌, max, min, Bool, true, false, if◌then◌else◌, Option, None, Some, List, [], ◌∷◌}
use Rattle.cm_syntax.specs.declared.expr.Op.{Op}
use Rattle.cm_syntax.specs.declared.expr.Op.TheVariants.{Both, Either}
use Rattle.cm_syntax.specs.declared.expr.Expr.{Expr}
use Rattle.cm_syntax.specs.declared.expr.Expr.TheVariants.{Number, Scalar, Len, Inputs, Call'}
use Rattle.cm_syntax.specs.declared.expr.Arg.{Arg}
use Rattle.cm_syntax.specs.declared.expr.Arg.TheVariants.{Value, Slice, Address}
use Rattle.cm_syntax.specs.declared.expr.Call.{Row_of-Arg, end_of-Arg, more_of-Arg}
use Rattle.cm_syntax.specs.declared.expr.Expr.TheVariants as expression
use Rattle.cm_syntax.specs.declared.stmt.Slot as slots
use Rattle.cm_syntax.specs.declared.stmt.Extent.{Extent}
use Rattle.cm_syntax.specs.declared.stmt.Extent.TheVariants as extent
use Rattle.cm_syntax.specs.declared.stmt.Item.{Item}
use Rattle.cm_syntax.specs.declared.stmt.Target.{Target}
use Rattle.cm_syntax.specs.declared.stmt.Target.TheVariants as target
use Rattle.cm_syntax.specs.declared.stmt.Stmt.{Stmt, Row_of-Stmt, end_of-Stmt, more_of-Stmt}
use Rattle.cm_syntax.specs.declared.stmt.Stmt.TheVariants as statement
use Rattle.cm_syntax.specs.declared.stmt.Function.{Function}
use Rattle.cm_syntax.specs.Limit.{max_frame_words}
use Rattle.cm_syntax.specs.Extent.{extent_of}
use Rattle.cm_syntax.specs.Shape.{Joined, Prefixed, Element, InputAt, IfAlone, IfElse, WhileLoop, ForLoop}

-- an operator that stops early, so that its left operand isn't kept
abbrev pub is_short_circuit : Op → Bool
is_short_circuit Both = true
is_short_circuit Either = true
is_short_circuit _ = false

-- the words that an argument takes: a value one, a slice its address and its length
abbrev pub argument_words : {N : Type 0} → Arg N → ℕ
argument_words (Value value) = 1
argument_words (Slice name) = 2
argument_words (Address name) = 2

-- the words that the arguments take
abbrev pub arguments_words : {N : Type 0} {n : _} → Row_of-Arg N n → ℕ
arguments_words end_of-Arg = 0
arguments_words (more_of-Arg argument more) = argument_words argument + arguments_words more

abbrev mutual
  -- The temporaries that are in use, at most, while an expression is evaluated of which d are in use before.
  -- The left operand of an operator is kept in temporary d while the right one is evaluated; the arguments of a
  -- call are kept from temporary d on.
  pub temporaries : {N : Type 0} → Expr N → (d : ℕ) → ℕ
  temporaries (Number n) d = d
  temporaries (Scalar name) d = d
  temporaries (Element name index) d = temporaries index d
  temporaries (Len name) d = d
  temporaries (InputAt index) d = temporaries index d
  temporaries Inputs d = d
  temporaries (Prefixed op operand) d = temporaries operand d
  temporaries (Joined op left right) d =
      if is_short_circuit op then max (temporaries left d) (temporaries right d)
      else max (temporaries left d) (max (d + 1) (temporaries right (d + 1)))
  temporaries (Call' function _ arguments) d = max (d + arguments_words arguments) (arguments_temporaries arguments d)

  -- the same of the arguments, one after another, each with the words of those before it in use
  pub arguments_temporaries : {N : Type 0} {n : _} → Row_of-Arg N n → (d : ℕ) → ℕ
  arguments_temporaries end_of-Arg d = d
  arguments_temporaries (more_of-Arg argument more) d =
      max (argument_temporaries argument d) (arguments_temporaries more (d + argument_words argument))

  pub argument_temporaries : {N : Type 0} → Arg N → (d : ℕ) → ℕ
  argument_temporaries (Value value) d = temporaries value d
  argument_temporaries (Slice name) d = d
  argument_temporaries (Address name) d = d

-- ---- statements: the greatest number of temporaries of their expressions, each of which begins with none in use

-- an expression that may not be there
abbrev pub optional_temporaries : {N : Type 0} → Option (Expr N) → ℕ
optional_temporaries None = 0
optional_temporaries (Some value) = temporaries value 0

abbrev pub items_temporaries : {N : Type 0} → List (Item N) → ℕ
items_temporaries [] = 0
items_temporaries (item ∷ more) = max (optional_temporaries item.first) (items_temporaries more)

-- the value of an element begins with the element's address in a temporary
abbrev pub assignment_temporaries : {N : Type 0} → Target N → Expr N → ℕ
assignment_temporaries (target.Scalar name) value = temporaries value 0
assignment_temporaries (target.Index name index) value = max (temporaries index 0) (temporaries value 1)

abbrev mutual
  pub statement_temporaries : {N : Type 0} → Stmt N → ℕ
  statement_temporaries statement.Empty = 0
  statement_temporaries (statement.Declare items) = items_temporaries items
  statement_temporaries (statement.Assign written op value) = assignment_temporaries written value
  statement_temporaries (statement.Call call) = temporaries (expression.Call call) 0
  statement_temporaries (statement.Spawn at destination call) = temporaries (expression.Call call) 0
  statement_temporaries (statement.Sync at) = 0
  statement_temporaries (IfAlone test chosen) = max (temporaries test 0) (statement_temporaries chosen)
  statement_temporaries (IfElse test chosen other) =
      max (temporaries test 0) (max (statement_temporaries chosen) (statement_temporaries other))
  statement_temporaries (WhileLoop test body) = max (temporaries test 0) (statement_temporaries body)
  statement_temporaries (ForLoop first test step body) =
      max (statement_temporaries first) (max (optional_temporaries test) (max (statement_temporaries step) (statement_temporaries body)))
  statement_temporaries (statement.Split' whole index left right _ body close) = max (temporaries index 0) (statements_temporaries body)
  statement_temporaries (statement.Return at value) = optional_temporaries value
  statement_temporaries (statement.Print value) = temporaries value 0
  statement_temporaries (statement.Block' _ body) = statements_temporaries body

  pub statements_temporaries : {N : Type 0} {n : _} → Row_of-Stmt N n → ℕ
  statements_temporaries end_of-Stmt = 0
  statements_temporaries (more_of-Stmt first more) = max (statement_temporaries first) (statements_temporaries more)

-- the greatest number of temporaries of a function's body
abbrev pub body_temporaries : {N : Type 0} → List (Stmt N) → ℕ
body_temporaries [] = 0
body_temporaries (first ∷ more) = max (statement_temporaries first) (body_temporaries more)

-- ---- frames

-- the words that an extent takes: a reference an address and a length
abbrev pub extent_words : Extent → ℕ
extent_words extent.Word = 1
extent_words (extent.Words words) = words
extent_words extent.Reference = 2

-- the words of a slot
abbrev pub slot_words : slots.Slot → ℕ
slot_words kind = extent_words (extent_of kind)

-- the words of all slots
abbrev pub slots_words : List slots.Slot → ℕ
slots_words [] = 0
slots_words (first ∷ more) = slot_words first + slots_words more

-- Two words for the return address and the caller's frame pointer, then the slots, then the temporaries, rounded
-- up to a multiple of 4.
abbrev pub rounded_frame : (slots temporaries : ℕ) → ℕ
rounded_frame slots temporaries = (2 + slots + temporaries + 3) / 4 * 4

-- the words of a function's frame, of a program
abbrev pub frame_words : Function ℕ → ℕ
frame_words function = rounded_frame (slots_words function.slots) (body_temporaries function.body)

-- a count that stops at one more than the words of the greatest frame
abbrev pub capped : ℕ → ℕ
capped words = min words (max_frame_words + 1)
