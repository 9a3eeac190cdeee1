-- The table of places has a number for each word of the code.
use Rattle.std.proofs.Common.{◌≡◌, ℕ, zero, suc, ◌+◌, ◌-◌, ◌*◌, pos, ◌+ℤ◌, List, [], ◌∷◌, ◌++◌, length, map, Option, None, Some, refl, ap, ◌∙◌, sym, arith, length-append}
use Rattle.cm_isa.specs.declared.convention.TheConstants as reg
use Rattle.cm_syntax.specs.declared.expr.Expr.{Expr}
use Rattle.cm_syntax.specs.declared.stmt.Slot.{Slot}
use Rattle.cm_syntax.specs.declared.stmt.Extent.{Extent}
use Rattle.cm_syntax.specs.declared.stmt.Extent.TheVariants as extent
use Rattle.cm_syntax.specs.Extent.{extent_of}
use Rattle.cm_syntax.specs.declared.stmt.Item.{Item}
use Rattle.cm_syntax.specs.declared.stmt.Stmt.{Stmt, Row_of-Stmt, end_of-Stmt, more_of-Stmt}
use Rattle.cm_syntax.specs.declared.stmt.Stmt.TheVariants as statement
use Rattle.cm_syntax.specs.declared.stmt.Function.{Function}
use Rattle.cm_syntax.specs.Shape.{IfAlone, IfElse, WhileLoop, ForLoop}
use Rattle.cm_gen.specs.declared.form.Form.{Form}
use Rattle.cm_gen.specs.Code.{entry}
use Rattle.cm_gen.specs.Part.{straight}
use Rattle.cm_gen.specs.Expression.{slot_offset, load_address, expression_code}
use Rattle.cm_gen.specs.Statement.{clear_words_code, clear_array_code, item_for, items_code, part_code, loop_words, statement_size, sequence_size, body_code, body_size}
use Rattle.cm_gen.specs.Image.{parameters_code, form_in, frame_bytes_of, need_of, exit_of, fall_code, function_code, inner_code}
use Rattle.cm_gen.specs.Ahead.{total, each, once, clear_turns, item_turns, items_turns, tick_words, loop_turns, statement_turns, sequence_turns, body_turns, entry_words, exit_words, function_turns, loop_credit, statement_credit, sequence_credit, body_credit, function_credit}
use Rattle.cm_gen.proofs.sizes.SizeLaw.{length-straight, joined, size-body}

length-each : (v n : ℕ) → length (each v n) ≡ n
length-each v zero = refl
length-each v (suc n) = ap suc (length-each v n)

-- so many numbers behind others
pub with : (x y : List ℕ) (m n : ℕ) → length x ≡ m → length y ≡ n → length (x ++ y) ≡ m + n
with x y m n ex ey = omega (arith, length-append x y)

-- and behind the same number so many times
pub behind_each : (v m : ℕ) (y : List ℕ) (n : ℕ) → length y ≡ n → length (each v m ++ y) ≡ m + n
behind_each v m y n e = with (each v m) y m n (length-each v m) e

pub length-plus : (k : ℕ) (ns : List ℕ) → length (map (λ c. c + k) ns) ≡ length ns
length-plus k [] = refl
length-plus k (n ∷ ns) = ap suc (length-plus k ns)

length-clear : (slots : List Slot) (x n : ℕ) → length (clear_turns slots x n) ≡ length (straight (clear_array_code (slot_offset slots x) n))
length-clear slots x n =
    let o = slot_offset slots x in
    let from = load_address reg.VALUE o in
    let to = load_address reg.LEFT (o +ℤ pos (4 * n)) in
    let all = length-straight (clear_array_code o n) in
    omega (
      arith,
      all,
      length-append from (to ++ clear_words_code),
      length-append to clear_words_code,
      behind_each 1 (length from + length to) ((3 * n - 2) ∷ 1 ∷ 1 ∷ []) 3 refl,
    )

length-item : (slots : List Slot) (x : ℕ) (kind : Extent) (first : Option (Expr ℕ)) → length (item_turns slots x kind first) ≡ length (item_for slots x kind first)
length-item slots x extent.Word first = length-each 1 (length (item_for slots x extent.Word first))
length-item slots x (extent.Words n) first = length-clear slots x n
length-item slots x extent.Reference first = length-each 1 (length (item_for slots x extent.Reference first))

length-items : (slots : List Slot) (items : List (Item ℕ)) → length (items_turns slots items) ≡ length (items_code slots items)
length-items slots [] = refl
length-items slots (item ∷ more) =
    let one = item_for slots item.name.name (extent_of item.slot) item.first in
    with (item_turns slots item.name.name (extent_of item.slot) item.first) (items_turns slots more) _ _ (length-item slots item.name.name (extent_of item.slot) item.first) (length-items slots more)
    ∙ sym (length-append one (items_code slots more))

tick_and_back : (slots : List Slot) (t : Option (Expr ℕ)) → tick_words slots t + 1 ≡ loop_words slots t
tick_and_back slots None = refl
tick_and_back slots (Some t) = omega arith

length-loop : (slots : List Slot) (t : Option (Expr ℕ)) (inner : List ℕ) (n : ℕ) → length inner ≡ n → length (loop_turns slots t inner) ≡ n + loop_words slots t
length-loop slots t inner n e =
    omega (arith, tick_and_back slots t, behind_each 1 (tick_words slots t) (inner ++ once 1) (n + 1) (with inner (once 1) n 1 e refl))

length-loop_credit : (slots : List Slot) (t : Option (Expr ℕ)) (turns inner : List ℕ) (n : ℕ) → length inner ≡ n → length (loop_credit slots t turns inner) ≡ n + loop_words slots t
length-loop_credit slots t turns inner n e =
    let k = total (loop_turns slots t turns) in
    let last = with inner (0 ∷ []) n 1 e refl in
    omega (arith, tick_and_back slots t, behind_each 0 (tick_words slots t) (map (λ c. c + k) (inner ++ 0 ∷ [])) (n + 1) (length-plus k (inner ++ 0 ∷ []) ∙ last))

mutual
  pub length-turns : (form : Form) (slots : List Slot) (s : Stmt ℕ) → length (statement_turns form slots s) ≡ statement_size form slots s
  length-turns form slots statement.Empty = refl
  length-turns form slots (statement.Declare items) = length-items slots items
  length-turns form slots (statement.Assign written o e) = length-each 1 (statement_size form slots (statement.Assign written o e))
  length-turns form slots (statement.Call c) = length-each 1 (statement_size form slots (statement.Call c))
  length-turns form slots (statement.Spawn at x c) = length-each 1 (statement_size form slots (statement.Spawn at x c))
  length-turns form slots (statement.Sync at) = length-each 1 (statement_size form slots (statement.Sync at))
  length-turns form slots (IfAlone t s) =
      omega (arith, behind_each 1 (length (expression_code slots t 0) + 2) (statement_turns form slots s) _ (length-turns form slots s))
  length-turns form slots (IfElse t s o) =
      omega (
        arith,
        behind_each 1 (length (expression_code slots t 0) + 2) (statement_turns form slots s ++ (each 1 1 ++ statement_turns form slots o)) _
            (with (statement_turns form slots s) (each 1 1 ++ statement_turns form slots o) _ _ (length-turns form slots s) (behind_each 1 1 (statement_turns form slots o) _ (length-turns form slots o))),
      )
  length-turns form slots (WhileLoop t body) = length-loop slots (Some t) _ _ (length-turns form slots body)
  length-turns form slots (ForLoop first t step body) =
      with (statement_turns form slots first) _ _ _ (length-turns form slots first)
      (length-loop slots t _ _ (with (statement_turns form slots body) _ _ _ (length-turns form slots body) (length-turns form slots step)))
  length-turns form slots (statement.Split' whole e left right _ body close) =
      omega (arith, behind_each 1 (length (expression_code slots e 0) + length (part_code slots whole.name left.name right.name)) (sequence_turns form slots body) _ (length-turns_of form slots body))
  length-turns form slots (statement.Return at e) = length-each 1 (statement_size form slots (statement.Return at e))
  length-turns form slots (statement.Print e) = length-each 1 (statement_size form slots (statement.Print e))
  length-turns form slots (statement.Block' _ body) = length-turns_of form slots body

  length-turns_of : (form : Form) (slots : List Slot) {n : _} (row : Row_of-Stmt ℕ n) → length (sequence_turns form slots row) ≡ sequence_size form slots row
  length-turns_of form slots end_of-Stmt = refl
  length-turns_of form slots (more_of-Stmt first more) = with (statement_turns form slots first) _ _ _ (length-turns form slots first) (length-turns_of form slots more)

mutual
  pub length-credit : (form : Form) (slots : List Slot) (s : Stmt ℕ) → length (statement_credit form slots s) ≡ statement_size form slots s
  length-credit form slots statement.Empty = refl
  length-credit form slots (statement.Declare items) = length-each 0 (statement_size form slots (statement.Declare items))
  length-credit form slots (statement.Assign written o e) = length-each 0 (statement_size form slots (statement.Assign written o e))
  length-credit form slots (statement.Call c) = length-each 0 (statement_size form slots (statement.Call c))
  length-credit form slots (statement.Spawn at x c) = length-each 0 (statement_size form slots (statement.Spawn at x c))
  length-credit form slots (statement.Sync at) = length-each 0 (statement_size form slots (statement.Sync at))
  length-credit form slots (IfAlone t s) =
      omega (arith, behind_each 0 (length (expression_code slots t 0) + 2) (statement_credit form slots s) _ (length-credit form slots s))
  length-credit form slots (IfElse t s o) =
      omega (
        arith,
        behind_each 0 (length (expression_code slots t 0) + 2) (statement_credit form slots s ++ (each 0 1 ++ statement_credit form slots o)) _
            (with (statement_credit form slots s) (each 0 1 ++ statement_credit form slots o) _ _ (length-credit form slots s) (behind_each 0 1 (statement_credit form slots o) _ (length-credit form slots o))),
      )
  length-credit form slots (WhileLoop t body) = length-loop_credit slots (Some t) (statement_turns form slots body) _ _ (length-credit form slots body)
  length-credit form slots (ForLoop first t step body) =
      with (statement_credit form slots first) _ _ _ (length-credit form slots first)
      (length-loop_credit slots t (statement_turns form slots body ++ statement_turns form slots step) _ _ (with (statement_credit form slots body) _ _ _ (length-credit form slots body) (length-credit form slots step)))
  length-credit form slots (statement.Split' whole e left right _ body close) =
      omega (arith, behind_each 0 (length (expression_code slots e 0) + length (part_code slots whole.name left.name right.name)) (sequence_credit form slots body) _ (length-credit_of form slots body))
  length-credit form slots (statement.Return at e) = length-each 0 (statement_size form slots (statement.Return at e))
  length-credit form slots (statement.Print e) = length-each 0 (statement_size form slots (statement.Print e))
  length-credit form slots (statement.Block' _ body) = length-credit_of form slots body

  length-credit_of : (form : Form) (slots : List Slot) {n : _} (row : Row_of-Stmt ℕ n) → length (sequence_credit form slots row) ≡ sequence_size form slots row
  length-credit_of form slots end_of-Stmt = refl
  length-credit_of form slots (more_of-Stmt first more) = with (statement_credit form slots first) _ _ _ (length-credit form slots first) (length-credit_of form slots more)

length-body_turns : (form : Form) (slots : List Slot) (body : List (Stmt ℕ)) → length (body_turns form slots body) ≡ body_size form slots body
length-body_turns form slots [] = refl
length-body_turns form slots (first ∷ more) = with (statement_turns form slots first) _ _ _ (length-turns form slots first) (length-body_turns form slots more)

length-body_credit : (form : Form) (slots : List Slot) (body : List (Stmt ℕ)) → length (body_credit form slots body) ≡ body_size form slots body
length-body_credit form slots [] = refl
length-body_credit form slots (first ∷ more) = with (statement_credit form slots first) _ _ _ (length-credit form slots first) (length-body_credit form slots more)

-- the words of a function before its body, of it, and behind it
function_words : (form : Form) (page : ℕ) (f : Function ℕ)
    → length (function_code form page f) ≡ entry_words page f + (body_size (form_in form f) f.slots f.body + exit_words form page f)
function_words form page f =
    let own = form_in form f in
    let begin = entry (frame_bytes_of f) (need_of page f) in
    let given = parameters_code f.slots 0 reg.RESULT f.parameters in
    let last = straight fall_code ++ exit_of own (need_of page f) in
    let inner = joined (straight given) (body_code own f.slots 1 f.body ++ last) _ _ (length-straight given) (joined _ last _ _ (size-body own f.slots 1 f.body) refl) in
    omega (arith, joined (straight begin) (inner_code form page f) _ _ (length-straight begin) inner)

pub length-function_turns : (form : Form) (page : ℕ) (f : Function ℕ) → length (function_turns form page f) ≡ length (function_code form page f)
length-function_turns form page f =
    behind_each 1 (entry_words page f) _ _ (with (body_turns (form_in form f) f.slots f.body) _ _ _ (length-body_turns (form_in form f) f.slots f.body) (length-each 1 (exit_words form page f)))
    ∙ sym (function_words form page f)

pub length-function_credit : (form : Form) (page : ℕ) (f : Function ℕ) → length (function_credit form page f) ≡ length (function_code form page f)
length-function_credit form page f =
    behind_each 0 (entry_words page f) _ _ (with (body_credit (form_in form f) f.slots f.body) _ _ _ (length-body_credit (form_in form f) f.slots f.body) (length-each 0 (exit_words form page f)))
    ∙ sym (function_words form page f)
