-- The turns that are ahead of each place of a function's code: of each word how often it is done at most before the
-- next word behind it, and of a place behind a loop's tick the turns that the tick has paid for.
use Rattle.std.specs.Prelude.{ℕ, zero, suc, ◌+◌, ◌-◌, ◌*◌, pos, ◌+ℤ◌, Option, None, Some, List, [], ◌∷◌, ◌++◌, length, map}
use Rattle.cm_isa.specs.declared.convention.TheConstants as reg
use Rattle.cm_syntax.specs.declared.expr.Expr.{Expr}
use Rattle.cm_syntax.specs.declared.stmt.Slot.{Slot}
use Rattle.cm_syntax.specs.declared.stmt.Extent.{Extent}
use Rattle.cm_syntax.specs.declared.stmt.Extent.TheVariants as extent
use Rattle.cm_syntax.specs.Extent.{extent_of}
use Rattle.cm_syntax.specs.declared.stmt.Item.{Item}
use Rattle.cm_syntax.specs.declared.stmt.Stmt.{Stmt, Row_of-Stmt, end_of-Stmt, more_of-Stmt}
use Rattle.cm_syntax.specs.declared.stmt.Stmt.TheVariants as statement
use Rattle.cm_syntax.specs.declared.stmt.Function.{Function}
use Rattle.cm_syntax.specs.Shape.{IfAlone, IfElse, WhileLoop, ForLoop}
use Rattle.cm_gen.specs.declared.form.Form.{Form}
use Rattle.cm_gen.specs.Code.{entry}
use Rattle.cm_gen.specs.Expression.{slot_offset, load_address, expression_code}
use Rattle.cm_gen.specs.Statement.{item_for, part_code, statement_size}
use Rattle.cm_syntax.specs.declared.stmt.Slot.TheVariants as slot
use Rattle.cm_gen.specs.Row as row
use Rattle.cm_gen.specs.Image.{parameters_code, form_in, frame_bytes_of, need_of, exit_of}

-- ---- lists of numbers

-- the sum of numbers
abbrev pub total : List ℕ → ℕ
total [] = 0
total (first ∷ more) = first + total more

-- so many times the same number
abbrev pub each : (number count : ℕ) → List ℕ
each number zero = []
each number (suc count) = number ∷ each number count

-- words that are done once
abbrev pub once : (words : ℕ) → List ℕ
once words = each 1 words

-- ---- the turns of each word

-- the turns of the words that clear an array of n words: its loop has three for each, all but two of them counted at its
-- first word
abbrev pub clear_turns : List Slot → (x n : ℕ) → List ℕ
clear_turns slots x n =
    once (length (load_address reg.VALUE (slot_offset slots x)) + length (load_address reg.LEFT (slot_offset slots x +ℤ pos (4 * n))))
    ++ (3 * n - 2) ∷ 1 ∷ 1 ∷ []

-- a declared variable
abbrev pub item_turns : List Slot → (x : ℕ) → Extent → Option (Expr ℕ) → List ℕ
item_turns slots x (extent.Words n) first = clear_turns slots x n
item_turns slots x kind first = once (length (item_for slots x kind first))

-- the items of a declaration
abbrev pub items_turns : List Slot → List (Item ℕ) → List ℕ
items_turns slots [] = []
items_turns slots (item ∷ more) = item_turns slots item.name.name (extent_of item.slot) item.first ++ items_turns slots more

-- the words of a loop up to its tick, with it
abbrev pub tick_words : List Slot → Option (Expr ℕ) → ℕ
tick_words slots None = 4
tick_words slots (Some t) = length (expression_code slots t 0) + 6

-- one turn of a loop, with what a turn does behind its tick, up to the jump back
abbrev pub loop_turns : List Slot → Option (Expr ℕ) → (inner : List ℕ) → List ℕ
loop_turns slots t inner = once (tick_words slots t) ++ (inner ++ once 1)

abbrev mutual
  -- a statement
  pub statement_turns : Form → List Slot → Stmt ℕ → List ℕ
  statement_turns form slots (statement.Declare items) = items_turns slots items
  statement_turns form slots (IfAlone t s) = once (length (expression_code slots t 0) + 2) ++ statement_turns form slots s
  statement_turns form slots (IfElse t s o) =
      once (length (expression_code slots t 0) + 2) ++ (statement_turns form slots s ++ (once 1 ++ statement_turns form slots o))
  statement_turns form slots (WhileLoop t body) = loop_turns slots (Some t) (statement_turns form slots body)
  statement_turns form slots (ForLoop first t step body) =
      statement_turns form slots first ++ loop_turns slots t (statement_turns form slots body ++ statement_turns form slots step)
  statement_turns form slots (statement.Split' whole e left right _ body close) =
      once (length (expression_code slots e 0) + length (part_code slots whole.name left.name right.name)) ++ sequence_turns form slots body
  statement_turns form slots (statement.Block' _ body) = sequence_turns form slots body
  statement_turns form slots s = once (statement_size form slots s)

  -- the statements of a block
  pub sequence_turns : Form → List Slot → {n : _} → Row_of-Stmt ℕ n → List ℕ
  sequence_turns form slots end_of-Stmt = []
  sequence_turns form slots (more_of-Stmt first more) = statement_turns form slots first ++ sequence_turns form slots more

-- a function's body
abbrev pub body_turns : Form → List Slot → List (Stmt ℕ) → List ℕ
body_turns form slots [] = []
body_turns form slots (first ∷ more) = statement_turns form slots first ++ body_turns form slots more

-- the words of a function before its body
abbrev pub entry_words : (page : ℕ) → Function ℕ → ℕ
entry_words page function =
    length (entry (frame_bytes_of function) (need_of page function)) + length (parameters_code function.slots 0 reg.RESULT function.parameters)

-- and those behind it
abbrev pub exit_words : Form → (page : ℕ) → Function ℕ → ℕ
exit_words form page function = 1 + length (exit_of (form_in form function) (need_of page function))

-- a function
abbrev pub function_turns : Form → (page : ℕ) → Function ℕ → List ℕ
function_turns form page function =
    once (entry_words page function)
    ++ (body_turns (form_in form function) function.slots function.body ++ once (exit_words form page function))

-- ---- what ticks have paid for

-- In a loop: nothing up to its tick; behind it, up to the jump back, one turn of the loop more than what inner loops say.
abbrev pub loop_credit : List Slot → Option (Expr ℕ) → (turns inner : List ℕ) → List ℕ
loop_credit slots t turns inner =
    each 0 (tick_words slots t)
    ++ map (λ c. c + total (loop_turns slots t turns)) (inner ++ 0 ∷ [])

abbrev mutual
  -- a statement
  pub statement_credit : Form → List Slot → Stmt ℕ → List ℕ
  statement_credit form slots (IfAlone t s) = each 0 (length (expression_code slots t 0) + 2) ++ statement_credit form slots s
  statement_credit form slots (IfElse t s o) =
      each 0 (length (expression_code slots t 0) + 2) ++ (statement_credit form slots s ++ (each 0 1 ++ statement_credit form slots o))
  statement_credit form slots (WhileLoop t body) = loop_credit slots (Some t) (statement_turns form slots body) (statement_credit form slots body)
  statement_credit form slots (ForLoop first t step body) =
      statement_credit form slots first
      ++ loop_credit slots t (statement_turns form slots body ++ statement_turns form slots step) (statement_credit form slots body ++ statement_credit form slots step)
  statement_credit form slots (statement.Split' whole e left right _ body close) =
      each 0 (length (expression_code slots e 0) + length (part_code slots whole.name left.name right.name)) ++ sequence_credit form slots body
  statement_credit form slots (statement.Block' _ body) = sequence_credit form slots body
  statement_credit form slots s = each 0 (statement_size form slots s)

  -- the statements of a block
  pub sequence_credit : Form → List Slot → {n : _} → Row_of-Stmt ℕ n → List ℕ
  sequence_credit form slots end_of-Stmt = []
  sequence_credit form slots (more_of-Stmt first more) = statement_credit form slots first ++ sequence_credit form slots more

-- a function's body
abbrev pub body_credit : Form → List Slot → List (Stmt ℕ) → List ℕ
body_credit form slots [] = []
body_credit form slots (first ∷ more) = statement_credit form slots first ++ body_credit form slots more

-- a function; its own tick is paid for by the call
abbrev pub function_credit : Form → (page : ℕ) → Function ℕ → List ℕ
function_credit form page function =
    each 0 (entry_words page function)
    ++ (body_credit (form_in form function) function.slots function.body
    ++ each 0 (exit_words form page function))

-- ---- the turns ahead

-- at each place the turns of its word and of those behind it, and the credit
abbrev pub ahead : (turns credit : List ℕ) → List ℕ
ahead [] credits = []
ahead (first ∷ more) [] = total (first ∷ more) ∷ ahead more []
ahead (first ∷ more) (credit ∷ credits) = (total (first ∷ more) + credit) ∷ ahead more credits

-- the same of a function's body, and of a function
abbrev pub body_ahead : Form → List Slot → List (Stmt ℕ) → List ℕ
body_ahead form slots body = ahead (body_turns form slots body) (body_credit form slots body)

abbrev pub function_ahead : Form → (page : ℕ) → Function ℕ → List ℕ
function_ahead form page function = ahead (function_turns form page function) (function_credit form page function)

-- ---- a row

-- `while (y) int a[10];` and a call of the second function, worked out by hand in the law of the table
abbrev pub clearing_body : List (Stmt ℕ)
clearing_body =
    WhileLoop (row.value row.y) (statement.Declare (row.item_of row.a (slot.Array 10) None ∷ [])) ∷ statement.Call (row.call_of 1 []) ∷ []
