-- The measure of a statement, and that it grows at each step up in a tree.
use Rattle.std.proofs.Common.{◌≡◌, ℕ, zero, suc, ◌+◌, ◌<◌, ◌≤◌, Option, None, Some, List, [], ◌∷◌, length, get_or, refl, ap, ◌∙◌, arith}
use Rattle.cm_syntax.specs.declared.name.Name.{Name}
use Rattle.cm_syntax.specs.declared.expr.Mark.{Mark}
use Rattle.cm_syntax.specs.declared.expr.Expr.{Expr}
use Rattle.cm_syntax.specs.declared.stmt.Stmt.{Stmt, Row_of-Stmt, end_of-Stmt, more_of-Stmt, items-the_row-Stmt, items_hidden-the_row-Stmt-1}
use Rattle.cm_syntax.specs.declared.stmt.Stmt.TheVariants.{If, While, For, Split, Split', Block, Block'}
use Rattle.cm_syntax.specs.Shape.{IfAlone, IfElse, WhileLoop, ForLoop}
use Rattle.cm_syntax.proofs.Rows.{row_of_block}
use Rattle.cm_syntax.proofs.StatementLaw.{If-Alone, If-Else, While-Loop, For-Loop}

abbrev mutual
  pub statement_size : Stmt Name → ℕ
  statement_size (IfAlone test chosen) = statement_size chosen + 1
  statement_size (IfElse test chosen other) = statement_size chosen + statement_size other + 1
  statement_size (WhileLoop test body) = statement_size body + 1
  statement_size (ForLoop first test step body) = statement_size first + statement_size step + statement_size body + 1
  statement_size (Split' whole index left right _ body close) = row_size body + 1
  statement_size (Block' _ body) = row_size body + 1
  statement_size _ = 0

  row_size : {n : _} → Row_of-Stmt Name n → ℕ
  row_size end_of-Stmt = 0
  row_size (more_of-Stmt first more) = statement_size first + row_size more

-- the measure of a statement that may not be there
abbrev pub optional_size : Option (Stmt Name) → ℕ
optional_size None = 0
optional_size (Some s) = statement_size s

-- the measure of statements one after another
abbrev pub body_size : List (Stmt Name) → ℕ
body_size [] = 0
body_size (first ∷ more) = statement_size first + body_size more

pub size-If : (test : Expr Name) (chosen : Stmt Name) (other : Option (Stmt Name)) → statement_size (If test chosen other) ≡ statement_size chosen + optional_size other + 1
size-If test chosen None = ap statement_size (If-Alone test chosen) ∙ omega arith
size-If test chosen (Some other) = ap statement_size (If-Else test chosen other)

pub size-While : (test : Expr Name) (body : Stmt Name) → statement_size (While test body) ≡ statement_size body + 1
size-While test body = ap statement_size (While-Loop test body)

pub size-For : (first : Stmt Name) (test : Option (Expr Name)) (step body : Stmt Name) →
    statement_size (For first test step body) ≡ statement_size first + statement_size step + statement_size body + 1
size-For first test step body = ap statement_size (For-Loop first test step body)

row_sizes : (n : _) (row : Row_of-Stmt Name n) → row_size row ≡ body_size (items-the_row-Stmt Name n row)
row_sizes n end_of-Stmt = refl
row_sizes n (more_of-Stmt first more) = ap (λ x. statement_size first + x) (row_sizes _ more)

pub size-Block : (body : List (Stmt Name)) → statement_size (Block body) ≡ body_size body + 1
size-Block body =
    let row = row_of_block (Block body) in
    ap (λ n. n + 1) (row_sizes row.0 row.1 ∙ ap body_size (items_hidden-the_row-Stmt-1 Name body))

pub size-Split : (whole : Mark Name) (index : Expr Name) (left right : Mark Name) (body : List (Stmt Name)) (close : ℕ) →
    statement_size (Split whole index left right body close) ≡ body_size body + 1
size-Split whole index left right body close =
    let row = row_of_block (Split whole index left right body close) in
    ap (λ n. n + 1) (row_sizes row.0 row.1 ∙ ap body_size (items_hidden-the_row-Stmt-1 Name body))

pub statement_smaller : (body : List (Stmt Name)) (i : ℕ) (s : Stmt Name) → i < length body → s ≡ get_or body i s →
    statement_size s ≤ body_size body
statement_smaller [] i s lt is = absurd (omega arith)
statement_smaller (first ∷ more) zero s lt is = omega (arith, ap statement_size is)
statement_smaller (first ∷ more) (suc i) s lt is = omega (arith, statement_smaller more i s (omega arith) is)
