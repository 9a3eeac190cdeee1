-- The code of a statement has as many words as its size says.
use Rattle.std.proofs.Common.{◌≡◌, ℕ, ◌+◌, List, [], ◌∷◌, ◌++◌, length, Option, None, Some, refl, ap, ◌∙◌, sym, suc, arith, length-append, append-nil}
use Rattle.cm_isa.specs.Operation.{Operation}
use Rattle.cm_syntax.specs.declared.expr.Expr.{Expr}
use Rattle.cm_syntax.specs.declared.stmt.Slot.{Slot}
use Rattle.cm_syntax.specs.declared.stmt.Stmt.{Stmt, Row_of-Stmt, end_of-Stmt, more_of-Stmt}
use Rattle.cm_syntax.specs.declared.stmt.Stmt.TheVariants as statement
use Rattle.cm_syntax.specs.Shape.{IfAlone, IfElse, WhileLoop, ForLoop}
use Rattle.cm_gen.specs.declared.form.Form.{Form}
use Rattle.cm_gen.specs.Part.{Part, straight}
use Rattle.cm_gen.specs.Expression.{skip, back_over, expression_code}
use Rattle.cm_gen.specs.Statement.{alone_of, choice_of, test_code, loop_code, loop_words, print_code, optional_code, sync_code, part_code, turn_code, statement_code, statement_size, sequence_code, sequence_size, body_code, body_size}

-- instructions are as many words
pub length-straight : (is : List Operation) → length (straight is) ≡ length is
length-straight [] = refl
length-straight (i ∷ is) = ap suc (length-straight is)

-- the words of parts one after another
pub joined : (x y : List Part) (m n : ℕ) → length x ≡ m → length y ≡ n → length (x ++ y) ≡ m + n
joined x y m n ex ey = omega (arith, length-append x y)

alone_length : (chosen : List Part) (n : ℕ) → length chosen ≡ n → length (alone_of chosen) ≡ 2 + n
alone_length chosen n e = omega (arith, e)

choice_length : (chosen other : List Part) (m n : ℕ) → length chosen ≡ m → length other ≡ n → length (choice_of chosen other) ≡ 2 + (m + (1 + n))
choice_length chosen other m n ex ey =
    let rest : List Part = straight (skip (length other)) ++ other in
    let tail : length rest ≡ 1 + n = omega (arith, ey) in
    omega (arith, joined chosen rest m (1 + n) ex tail)

pub loop_length : (slots : List Slot) (t : Option (Expr ℕ)) (inner : List Part) (n : ℕ) → length inner ≡ n → length (loop_code slots t inner) ≡ n + loop_words slots t
loop_length slots None inner n e = omega (arith, length-append inner (straight (back_over (length inner + 4))))
loop_length slots (Some t) inner n e =
    let test = expression_code slots t 0 in
    let back = straight (back_over (length test + (length inner + 6))) in
    omega (arith, length-append test (test_code (length test) inner), length-append inner back)

mutual
  pub size-statement : (form : Form) (slots : List Slot) (behind : ℕ) (s : Stmt ℕ) → length (statement_code form slots behind s) ≡ statement_size form slots s
  size-statement form slots behind statement.Empty = refl
  size-statement form slots behind (statement.Declare items) = refl
  size-statement form slots behind (statement.Assign written o e) = refl
  size-statement form slots behind (statement.Call c) = refl
  size-statement form slots behind (statement.Spawn at x c) = refl
  size-statement form slots behind (statement.Sync at) = length-straight (sync_code form)
  size-statement form slots behind (IfAlone t s) =
      joined (expression_code slots t 0) _ _ _ refl (alone_length _ _ (size-statement form slots behind s))
  size-statement form slots behind (IfElse t s o) =
      joined (expression_code slots t 0) _ _ _ refl
      (choice_length _ _ _ _ (size-statement form slots (behind + (statement_size form slots o + 1)) s) (size-statement form slots behind o))
  size-statement form slots behind (WhileLoop t body) = loop_length slots (Some t) _ _ (size-statement form slots (behind + 1) body)
  size-statement form slots behind (ForLoop first t step body) =
      joined _ _ _ _ (size-statement form slots (behind + ((statement_size form slots body + statement_size form slots step) + loop_words slots t)) first)
      (loop_length slots t _ _ (joined _ _ _ _ (size-statement form slots (behind + 1 + statement_size form slots step) body) (size-statement form slots (behind + 1) step)))
  size-statement form slots behind (statement.Split' whole e left right _ body close) =
      joined (expression_code slots e 0) _ _ _ refl
      (joined _ _ _ _ (length-straight (part_code slots whole.name left.name right.name)) (size-sequence form slots behind body))
  size-statement form slots behind (statement.Return at e) = joined (optional_code slots e) _ _ _ refl refl
  size-statement form slots behind (statement.Print e) = joined (expression_code slots e 0) print_code _ _ refl refl
  size-statement form slots behind (statement.Block' _ body) = size-sequence form slots behind body

  pub size-sequence : (form : Form) (slots : List Slot) (behind : ℕ) {n : _} (row : Row_of-Stmt ℕ n) → length (sequence_code form slots behind row) ≡ sequence_size form slots row
  size-sequence form slots behind end_of-Stmt = refl
  size-sequence form slots behind (more_of-Stmt first more) =
      joined _ _ _ _ (size-statement form slots (behind + sequence_size form slots more) first) (size-sequence form slots behind more)

pub size-body : (form : Form) (slots : List Slot) (behind : ℕ) (body : List (Stmt ℕ)) → length (body_code form slots behind body) ≡ body_size form slots body
size-body form slots behind [] = refl
size-body form slots behind (first ∷ more) =
    joined _ _ _ _ (size-statement form slots (behind + body_size form slots more) first) (size-body form slots behind more)

-- a `while` is a loop whose turn does nothing behind its body
pub while_turn : (form : Form) (slots : List Slot) (behind : ℕ) (t : Expr ℕ) (body : Stmt ℕ)
    → statement_code form slots behind (WhileLoop t body) ≡ loop_code slots (Some t) (turn_code form slots behind statement.Empty body)
while_turn form slots behind t body =
    let same : behind + 1 ≡ behind + 1 + 0 = omega arith in
    ap (loop_code slots (Some t)) (ap (λ n. statement_code form slots n body) same ∙ sym (append-nil (statement_code form slots (behind + 1 + 0) body)))
