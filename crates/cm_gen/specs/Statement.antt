-- The code of statements. `behind` is the number of words from the end of a statement's code to the exit of its function,
-- to which `return` jumps. What stands behind a condition, an index and so on has a name of its own, since a rest may
-- begin there.
use Rattle.std.specs.Prelude.{ℕ, ◌+◌, ◌*◌, ℤ, pos, ◌+ℤ◌, Option, None, Some, List, [], ◌∷◌, ◌++◌, length}
use Rattle.cm_isa.specs.Bits.{minus}
use Rattle.cm_isa.specs.Operation.{Operation}
use Rattle.cm_isa.specs.declared.convention.TheConstants as reg
use Rattle.cm_syntax.specs.declared.expr.Op.{Op}
use Rattle.cm_syntax.specs.declared.expr.Expr.{Expr}
use Rattle.cm_syntax.specs.declared.expr.Expr.TheVariants as expression
use Rattle.cm_syntax.specs.declared.stmt.Slot.{Slot}
use Rattle.cm_syntax.specs.declared.stmt.Extent.{Extent}
use Rattle.cm_syntax.specs.declared.stmt.Extent.TheVariants as extent
use Rattle.cm_syntax.specs.Extent.{extent_of}
use Rattle.cm_syntax.specs.declared.stmt.Item.{Item}
use Rattle.cm_syntax.specs.declared.stmt.Target.{Target}
use Rattle.cm_syntax.specs.declared.stmt.Target.TheVariants as target
use Rattle.cm_syntax.specs.declared.stmt.Stmt.{Stmt, Row_of-Stmt, end_of-Stmt, more_of-Stmt}
use Rattle.cm_syntax.specs.declared.stmt.Stmt.TheVariants as statement
use Rattle.cm_syntax.specs.Shape.{IfAlone, IfElse, WhileLoop, ForLoop}
use Rattle.cm_syntax.specs.Rest.{Purpose, called, spawned}
use Rattle.cm_syntax.specs.Step.{destination_slot}
use Rattle.cm_gen.specs.declared.form.Form.{Form}
use Rattle.cm_gen.specs.declared.form.Form.TheVariants.{Serial, Cilk}
use Rattle.cm_gen.specs.Assembler.{addi, add, sub, slli, lw, sw, bltu, bgeu}
use Rattle.cm_gen.specs.Code.{load_number, load_slot, store_slot, service, tick}
use Rattle.cm_gen.specs.Part.{Part, call, straight, table_word}
use Rattle.cm_gen.specs.Expression.{slot_offset, temporary_offset, load_address, skip, back_over, skip_unless, operator_code, base, locate_code, keep_word, take_back_code, expression_code, arguments_code}

-- ---- variables

-- the words from the address in VALUE to the one in LEFT become 0
abbrev pub clear_words_code : List Operation
clear_words_code = sw reg.ZERO reg.VALUE (pos 0) ∷ addi reg.VALUE reg.VALUE (pos 4) ∷ bltu reg.VALUE reg.LEFT (minus 8) ∷ []

-- so many words from an offset on become 0
abbrev pub clear_array_code : (offset : ℤ) → (words : ℕ) → List Operation
clear_array_code o n = load_address reg.VALUE o ++ (load_address reg.LEFT (o +ℤ pos (4 * n)) ++ clear_words_code)

-- a variable that is declared without a value is 0, an array in all its words; a slice is declared by no sound program
abbrev pub clear_for : List Slot → (x : ℕ) → Extent → List Operation
clear_for slots x extent.Word = store_slot reg.ZERO (slot_offset slots x)
clear_for slots x (extent.Words n) = clear_array_code (slot_offset slots x) n
clear_for slots x extent.Reference = []

-- behind a value in VALUE: it goes into a scalar
abbrev pub assign_code : List Slot → (x : ℕ) → List Operation
assign_code slots x = store_slot reg.VALUE (slot_offset slots x)

-- or an operation with the old word does
abbrev pub update_code : List Slot → (x : ℕ) → Op → List Operation
update_code slots x o = load_slot reg.LEFT (slot_offset slots x) ++ (operator_code o ++ assign_code slots x)

-- behind a value in VALUE whose element has its address in temporary 0: the same into the element
abbrev pub store_code : List Slot → Option Op → List Operation
store_code slots None = load_slot reg.LEFT (temporary_offset slots 0) ++ sw reg.VALUE reg.LEFT (pos 0) ∷ []
store_code slots (Some o) =
    load_slot reg.HELP (temporary_offset slots 0) ++ (lw reg.LEFT reg.HELP (pos 0) ∷ (operator_code o ++ sw reg.VALUE reg.HELP (pos 0) ∷ []))

-- behind the index of an element that is written
abbrev pub write_code : List Slot → (a : ℕ) → Option Op → Expr ℕ → List Part
write_code slots a o e = straight (locate_code slots a ++ keep_word slots 0) ++ (expression_code slots e 1 ++ straight (store_code slots o))

-- what stands behind the value of a declared variable: it goes into a scalar
abbrev pub item_for : List Slot → (x : ℕ) → Extent → Option (Expr ℕ) → List Part
item_for slots x extent.Word (Some e) = expression_code slots e 0 ++ straight (assign_code slots x)
item_for slots x s _ = straight (clear_for slots x s)

-- the same by the variable's slot
abbrev pub item_code : List Slot → (x : ℕ) → Slot → Option (Expr ℕ) → List Part
item_code slots x kind first = item_for slots x (extent_of kind) first

-- the items of a declaration
abbrev pub items_code : List Slot → List (Item ℕ) → List Part
items_code slots [] = []
items_code slots (item ∷ more) = item_code slots item.name.name item.slot item.first ++ items_code slots more

-- an assignment
abbrev pub assignment_code : List Slot → Target ℕ → Option Op → Expr ℕ → List Part
assignment_code slots (target.Scalar x) None e = expression_code slots e 0 ++ straight (assign_code slots x.name)
assignment_code slots (target.Scalar x) (Some o) e = expression_code slots e 0 ++ straight (update_code slots x.name o)
assignment_code slots (target.Index a index) o e = expression_code slots index 0 ++ write_code slots a.name o e

-- ---- calls, spawns and joins

-- what a spawn that is a call came back with goes to its destination
abbrev pub deliver_code : List Slot → (destination : Option ℕ) → List Operation
deliver_code slots None = []
deliver_code slots (Some x) = take_back_code ++ assign_code slots x

-- LEFT takes the address of a spawn's destination, or 0
abbrev pub destination_code : List Slot → (destination : Option ℕ) → List Operation
destination_code slots None = load_number reg.LEFT (pos 0)
destination_code slots (Some x) = load_address reg.LEFT (slot_offset slots x)

-- behind the arguments: a call, or a spawn, which service 4 does in the Cilk form
abbrev pub enter_code : Form → List Slot → Purpose → (f : ℕ) → List Part
enter_code Serial slots called f = call f ∷ []
enter_code Cilk slots called f = call f ∷ []
enter_code Serial slots (spawned x) f = call f ∷ straight (deliver_code slots x)
enter_code Cilk slots (spawned x) f = straight (load_number reg.VALUE (pos (table_word f)) ++ (destination_code slots x ++ service (pos 4)))

-- a call or a spawn that is a statement
abbrev pub invoke_code : Form → List Slot → Purpose → Expr ℕ → List Part
invoke_code form slots purpose (expression.Call' f _ row) = arguments_code slots row 0 0 ++ enter_code form slots purpose f.name
invoke_code form slots purpose _ = []

-- a call that is a statement, in both forms
abbrev pub call_code : List Slot → Expr ℕ → List Part
call_code slots e = invoke_code Serial slots called e

-- a sync, which service 5 does
abbrev pub sync_code : Form → List Operation
sync_code Serial = []
sync_code Cilk = service (pos 5)

-- ---- loops, jumps and splits

-- a completed `return` goes to the exit
abbrev pub exit_code : (behind : ℕ) → List Operation
exit_code behind = skip behind

-- A loop behind its condition, whose code has so many words, with the code of what a turn does; then the next turn begins.
abbrev pub test_code : (before : ℕ) → (inner : List Part) → List Part
test_code before inner =
    straight (skip_unless (length inner + 5)) ++ (straight tick ++ (inner ++ straight (back_over (before + (length inner + 6)))))

-- a loop; without a condition it goes on
abbrev pub loop_code : List Slot → Option (Expr ℕ) → (inner : List Part) → List Part
loop_code slots None inner = straight tick ++ (inner ++ straight (back_over (length inner + 4)))
loop_code slots (Some t) inner = expression_code slots t 0 ++ test_code (length (expression_code slots t 0)) inner

-- the words of a loop's code round what a turn does
abbrev pub loop_words : List Slot → Option (Expr ℕ) → ℕ
loop_words slots None = 5
loop_words slots (Some t) = length (expression_code slots t 0) + 7

-- two registers go into the words of a slice at an offset: its address and its number of words
abbrev pub store_pair : (address words : ℕ) → (offset : ℤ) → List Operation
store_pair a n o = store_slot a o ++ store_slot n (o +ℤ pos 4)

-- Behind the test of a place in VALUE, with the address of the whole in LEFT and the words behind the place in SPARE: the
-- two parts go into their slots.
abbrev pub store_parts : List Slot → (left right : ℕ) → List Operation
store_parts slots left right = store_pair reg.LEFT reg.VALUE (slot_offset slots left)
    ++ (slli reg.VALUE reg.VALUE (pos 2) ∷ add reg.VALUE reg.LEFT reg.VALUE ∷ store_pair reg.VALUE reg.SPARE (slot_offset slots right))

-- Behind the place where a slice is split: LEFT and HELP take the whole, the place is tested, and the two parts go into
-- their slots.
abbrev pub part_code : List Slot → (whole left right : ℕ) → List Operation
part_code slots whole left right = base slots whole
    ++ (bgeu reg.HELP reg.VALUE (pos 12) ∷ (service (pos 8) ++ sub reg.SPARE reg.HELP reg.VALUE ∷ store_parts slots left right))

-- behind a value in VALUE: it is printed
abbrev pub print_code : List Part
print_code = straight tick ++ straight (service (pos 1))

-- ---- the words of statements

abbrev pub optional_code : List Slot → Option (Expr ℕ) → List Part
optional_code slots None = []
optional_code slots (Some e) = expression_code slots e 0

abbrev mutual
  -- how many words the code of a statement has
  pub statement_size : Form → List Slot → Stmt ℕ → ℕ
  statement_size form slots statement.Empty = 0
  statement_size form slots (statement.Declare items) = length (items_code slots items)
  statement_size form slots (statement.Assign written o e) = length (assignment_code slots written o e)
  statement_size form slots (statement.Call c) = length (call_code slots (expression.Call c))
  statement_size form slots (statement.Spawn at x c) = length (invoke_code form slots (spawned (destination_slot x)) (expression.Call c))
  statement_size form slots (statement.Sync at) = length (sync_code form)
  statement_size form slots (IfAlone t s) = length (expression_code slots t 0) + (2 + statement_size form slots s)
  statement_size form slots (IfElse t s o) = length (expression_code slots t 0) + (2 + (statement_size form slots s + (1 + statement_size form slots o)))
  statement_size form slots (WhileLoop t body) = statement_size form slots body + loop_words slots (Some t)
  statement_size form slots (ForLoop first t step body) =
      statement_size form slots first + ((statement_size form slots body + statement_size form slots step) + loop_words slots t)
  statement_size form slots (statement.Split' whole e left right _ body close) =
      length (expression_code slots e 0) + (length (part_code slots whole.name left.name right.name) + sequence_size form slots body)
  statement_size form slots (statement.Return at e) = length (optional_code slots e) + 1
  statement_size form slots (statement.Print e) = length (expression_code slots e 0) + 6
  statement_size form slots (statement.Block' _ body) = sequence_size form slots body

  -- the same of the statements of a block
  pub sequence_size : Form → List Slot → {n : _} → Row_of-Stmt ℕ n → ℕ
  sequence_size form slots end_of-Stmt = 0
  sequence_size form slots (more_of-Stmt first more) = statement_size form slots first + sequence_size form slots more

-- and of a function's body
abbrev pub body_size : Form → List Slot → List (Stmt ℕ) → ℕ
body_size form slots [] = 0
body_size form slots (first ∷ more) = statement_size form slots first + body_size form slots more

-- ---- statements

-- behind the condition of an `if` without an `else`, with the code of what is chosen
abbrev pub alone_of : (chosen : List Part) → List Part
alone_of chosen = straight (skip_unless (length chosen)) ++ chosen

-- and with an `else`
abbrev pub choice_of : (chosen other : List Part) → List Part
choice_of chosen other = straight (skip_unless (length chosen + 1)) ++ (chosen ++ (straight (skip (length other)) ++ other))

abbrev mutual
  -- a statement
  pub statement_code : Form → List Slot → (behind : ℕ) → Stmt ℕ → List Part
  statement_code form slots behind statement.Empty = []
  statement_code form slots behind (statement.Declare items) = items_code slots items
  statement_code form slots behind (statement.Assign written o e) = assignment_code slots written o e
  statement_code form slots behind (statement.Call c) = call_code slots (expression.Call c)
  statement_code form slots behind (statement.Spawn at x c) = invoke_code form slots (spawned (destination_slot x)) (expression.Call c)
  statement_code form slots behind (statement.Sync at) = straight (sync_code form)
  statement_code form slots behind (IfAlone t s) = expression_code slots t 0 ++ alone_of (statement_code form slots behind s)
  statement_code form slots behind (IfElse t s o) =
      expression_code slots t 0 ++ choice_of (statement_code form slots (behind + (statement_size form slots o + 1)) s) (statement_code form slots behind o)
  statement_code form slots behind (WhileLoop t body) = loop_code slots (Some t) (statement_code form slots (behind + 1) body)
  statement_code form slots behind (ForLoop first t step body) =
      statement_code form slots (behind + ((statement_size form slots body + statement_size form slots step) + loop_words slots t)) first
      ++ loop_code slots t (statement_code form slots (behind + 1 + statement_size form slots step) body ++ statement_code form slots (behind + 1) step)
  statement_code form slots behind (statement.Split' whole e left right _ body close) =
      expression_code slots e 0 ++ (straight (part_code slots whole.name left.name right.name) ++ sequence_code form slots behind body)
  statement_code form slots behind (statement.Return at e) = optional_code slots e ++ straight (exit_code behind)
  statement_code form slots behind (statement.Print e) = expression_code slots e 0 ++ print_code
  statement_code form slots behind (statement.Block' _ body) = sequence_code form slots behind body

  -- the statements of a block
  pub sequence_code : Form → List Slot → (behind : ℕ) → {n : _} → Row_of-Stmt ℕ n → List Part
  sequence_code form slots behind end_of-Stmt = []
  sequence_code form slots behind (more_of-Stmt first more) =
      statement_code form slots (behind + sequence_size form slots more) first ++ sequence_code form slots behind more

-- and of a function's body
abbrev pub body_code : Form → List Slot → (behind : ℕ) → List (Stmt ℕ) → List Part
body_code form slots behind [] = []
body_code form slots behind (first ∷ more) =
    statement_code form slots (behind + body_size form slots more) first ++ body_code form slots behind more

-- behind the condition of an `if`, without and with an `else`
abbrev pub branch_code : Form → List Slot → (behind : ℕ) → (chosen : Stmt ℕ) → (other : Option (Stmt ℕ)) → List Part
branch_code form slots behind s None = alone_of (statement_code form slots behind s)
branch_code form slots behind s (Some o) =
    choice_of (statement_code form slots (behind + (statement_size form slots o + 1)) s) (statement_code form slots behind o)

-- what a turn of a loop does behind its tick, before the jump back
abbrev pub turn_code : Form → List Slot → (behind : ℕ) → (step body : Stmt ℕ) → List Part
turn_code form slots behind step body =
    statement_code form slots (behind + 1 + statement_size form slots step) body ++ statement_code form slots (behind + 1) step
