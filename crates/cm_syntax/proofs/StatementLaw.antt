-- What the definitions of a frame say of each statement as the code matches it, and of the lists that loops go through.
use Rattle.std.proofs.Common.{◌≡◌, ℕ, zero, suc, ◌+◌, ◌<◌, ◌≤◌, max, Option, Some, None, List, [], ◌∷◌, length, get_or, drop, refl, ap, ◌∙◌, arith}
use Rattle.cm_syntax.specs.declared.expr.Mark.{Mark}
use Rattle.cm_syntax.specs.declared.expr.Expr.{Expr}
use Rattle.cm_syntax.specs.declared.stmt.Stmt.{Stmt, Row_of-Stmt, end_of-Stmt, more_of-Stmt, items-the_row-Stmt, items_hidden-the_row-Stmt-1}
use Rattle.cm_syntax.specs.declared.stmt.Stmt.TheVariants.{If, While, For, Split, Split', Block, Block'}
use Rattle.cm_syntax.proofs.FrameLaw.{next}
use Rattle.cm_syntax.specs.Shape.{IfAlone, IfElse, WhileLoop, ForLoop}
use Rattle.cm_syntax.specs.Frame.{temporaries, optional_temporaries, statement_temporaries, statements_temporaries, body_temporaries}
use Rattle.cm_syntax.proofs.Rows.{row_of_block}

-- ---- the variants as the code makes them

pub If-Alone : {N : Type 0} (test : Expr N) (chosen : Stmt N) → If test chosen None ≡ IfAlone test chosen
unfolding Rattle.cm_syntax.specs.declared.stmt.Stmt.TheBlock.shape-the_row-Stmt-0 Rattle.cm_syntax.specs.declared.stmt.Stmt.TheBlock.hidden-the_row-Stmt-0 denote.Hole.Carrier.hidden
If-Alone test chosen = refl

pub If-Else : {N : Type 0} (test : Expr N) (chosen other : Stmt N) → If test chosen (Some other) ≡ IfElse test chosen other
unfolding Rattle.cm_syntax.specs.declared.stmt.Stmt.TheBlock.shape-the_row-Stmt-0 Rattle.cm_syntax.specs.declared.stmt.Stmt.TheBlock.hidden-the_row-Stmt-0 denote.Hole.Carrier.hidden
If-Else test chosen other = refl

pub While-Loop : {N : Type 0} (test : Expr N) (body : Stmt N) → While test body ≡ WhileLoop test body
unfolding Rattle.cm_syntax.specs.declared.stmt.Stmt.TheBlock.shape-the_row-Stmt-0 Rattle.cm_syntax.specs.declared.stmt.Stmt.TheBlock.hidden-the_row-Stmt-0 denote.Hole.Carrier.hidden
While-Loop test body = refl

pub For-Loop : {N : Type 0} (first : Stmt N) (test : Option (Expr N)) (step body : Stmt N) → For first test step body ≡ ForLoop first test step body
unfolding Rattle.cm_syntax.specs.declared.stmt.Stmt.TheBlock.shape-the_row-Stmt-0 Rattle.cm_syntax.specs.declared.stmt.Stmt.TheBlock.hidden-the_row-Stmt-0 denote.Hole.Carrier.hidden
For-Loop first test step body = refl

-- ---- the measure of a statement

abbrev mutual
  -- what grows at each step up in a tree
  pub statement_size : {N : Type 0} → Stmt N → ℕ
  statement_size (IfAlone test chosen) = statement_size chosen + 1
  statement_size (IfElse test chosen other) = statement_size chosen + statement_size other + 1
  statement_size (WhileLoop test body) = statement_size body + 1
  statement_size (ForLoop first test step body) = statement_size first + statement_size step + statement_size body + 1
  statement_size (Split' whole index left right _ body close) = row_size body + 2
  statement_size (Block' _ body) = row_size body + 2
  statement_size _ = 0

  row_size : {N : Type 0} {n : _} → Row_of-Stmt N n → ℕ
  row_size end_of-Stmt = 0
  row_size (more_of-Stmt first more) = statement_size first + row_size more

-- the measure of statements one after another
abbrev pub body_size : {N : Type 0} → List (Stmt N) → ℕ
body_size [] = 0
body_size (first ∷ more) = statement_size first + body_size more

-- ---- statements with statements in them; what the code got of a part is equal to it

-- an expression and a statement
pub record ChoosesAlone {N : Type 0} (s : Stmt N) (test : Expr N) (chosen : Stmt N) : Type 0 where
  pub smaller : statement_size chosen < statement_size s
  pub most : statement_temporaries s ≡ max (temporaries test 0) (statement_temporaries chosen)

pub chooses_alone : {N : Type 0} (s : Stmt N) (test : Expr N) (chosen got : Stmt N) (other : Option (Stmt N)) →
    s ≡ If test chosen other → other ≡ None → got ≡ chosen → ChoosesAlone s test got
chooses_alone s test chosen got other is none same =
    let shape = is ∙ ap (If test chosen) none ∙ If-Alone test chosen in
    let size = ap statement_size shape in
    let most = ap statement_temporaries shape in
    record {
      smaller = omega (arith, ap statement_size same);
      most = omega (arith, ap statement_temporaries same);
    }

-- an expression and two statements
pub record Chooses {N : Type 0} (s : Stmt N) (test : Expr N) (chosen other : Stmt N) : Type 0 where
  pub smaller_chosen : statement_size chosen < statement_size s
  pub smaller_other : statement_size other < statement_size s
  pub most : statement_temporaries s ≡ max (temporaries test 0) (max (statement_temporaries chosen) (statement_temporaries other))

pub chooses : {N : Type 0} (s : Stmt N) (test : Expr N) (chosen got : Stmt N) (other : Option (Stmt N)) (else_is got_else : Stmt N) →
    s ≡ If test chosen other → other ≡ Some else_is → got ≡ chosen → got_else ≡ else_is → Chooses s test got got_else
chooses s test chosen got other else_is got_else is some same same_else =
    let shape = is ∙ ap (If test chosen) some ∙ If-Else test chosen else_is in
    let size = ap statement_size shape in
    let most = ap statement_temporaries shape in
    record {
      smaller_chosen = omega (arith, ap statement_size same);
      smaller_other = omega (arith, ap statement_size same_else);
      most = omega (arith, ap statement_temporaries same, ap statement_temporaries same_else);
    }

-- before the `match` on the other part, whichever it is
pub record Tests {N : Type 0} (s : Stmt N) (test : Expr N) (chosen : Stmt N) : Type 0 where
  pub smaller : statement_size chosen < statement_size s
  pub few_in_test : temporaries test 0 ≤ statement_temporaries s
  pub few_in_chosen : statement_temporaries chosen ≤ statement_temporaries s

pub tests : {N : Type 0} (s : Stmt N) (test : Expr N) (chosen got : Stmt N) (other : Option (Stmt N)) →
    s ≡ If test chosen other → got ≡ chosen → Tests s test got
tests s test chosen got None is same =
    let parts = chooses_alone s test chosen got None is refl same in
    record { smaller = omega arith; few_in_test = omega arith; few_in_chosen = omega arith }
tests s test chosen got (Some other) is same =
    let parts = chooses s test chosen got (Some other) other other is refl same refl in
    record { smaller = omega arith; few_in_test = omega arith; few_in_chosen = omega arith }

pub repeats : {N : Type 0} (s : Stmt N) (test : Expr N) (body got : Stmt N) → s ≡ While test body → got ≡ body → ChoosesAlone s test got
repeats s test body got is same =
    let shape = is ∙ While-Loop test body in
    let size = ap statement_size shape in
    let most = ap statement_temporaries shape in
    record {
      smaller = omega (arith, ap statement_size same);
      most = omega (arith, ap statement_temporaries same);
    }

-- an expression that may not be there, and three statements
pub record Counts {N : Type 0} (s first : Stmt N) (test : Option (Expr N)) (step body : Stmt N) : Type 0 where
  pub smaller_first : statement_size first < statement_size s
  pub smaller_step : statement_size step < statement_size s
  pub smaller_body : statement_size body < statement_size s
  pub most : statement_temporaries s ≡
      max (statement_temporaries first) (max (optional_temporaries test) (max (statement_temporaries step) (statement_temporaries body)))

pub counts : {N : Type 0} (s first : Stmt N) (test : Option (Expr N)) (step body got_first got_step got_body : Stmt N) →
    s ≡ For first test step body → got_first ≡ first → got_step ≡ step → got_body ≡ body → Counts s got_first test got_step got_body
counts s first test step body got_first got_step got_body is same_first same_step same_body =
    let shape = is ∙ For-Loop first test step body in
    let size = ap statement_size shape in
    let most = ap statement_temporaries shape in
    record {
      smaller_first = omega (arith, ap statement_size same_first);
      smaller_step = omega (arith, ap statement_size same_step);
      smaller_body = omega (arith, ap statement_size same_body);
      most = omega (arith, ap statement_temporaries same_first, ap statement_temporaries same_step, ap statement_temporaries same_body);
    }

-- ---- blocks

row_most : {N : Type 0} (n : _) (row : Row_of-Stmt N n) → statements_temporaries row ≡ body_temporaries (items-the_row-Stmt N n row)
row_most n end_of-Stmt = refl
row_most n (more_of-Stmt first more) = ap (max (statement_temporaries first)) (row_most _ more)

row_sizes : {N : Type 0} (n : _) (row : Row_of-Stmt N n) → row_size row ≡ body_size (items-the_row-Stmt N n row)
row_sizes n end_of-Stmt = refl
row_sizes n (more_of-Stmt first more) = ap (λ x. statement_size first + x) (row_sizes _ more)

-- s has what its block has, after an expression
pub record Holds {N : Type 0} (s : Stmt N) (before : ℕ) (body : List (Stmt N)) : Type 0 where
  pub smaller : body_size body + 1 < statement_size s
  pub most : statement_temporaries s ≡ max before (body_temporaries body)

pub holds-Block : {N : Type 0} (s : Stmt N) (body got : List (Stmt N)) → s ≡ Block body → got ≡ body → Holds s 0 got
holds-Block s body got is got_is =
    let row = row_of_block (Block body) in
    let same = items_hidden-the_row-Stmt-1 _ body in
    let most : statements_temporaries row.1 ≡ body_temporaries body = row_most row.0 row.1 ∙ ap body_temporaries same in
    let size : row_size row.1 ≡ body_size body = row_sizes row.0 row.1 ∙ ap body_size same in
    let whole : statement_temporaries s ≡ statements_temporaries row.1 = ap statement_temporaries is in
    let sizes : statement_size s ≡ row_size row.1 + 2 = ap statement_size is in
    record {
      smaller = omega (arith, ap body_size got_is);
      most = omega (arith, ap body_temporaries got_is);
    }

pub holds-Split : {N : Type 0} (s : Stmt N) (whole : Mark N) (index : Expr N) (left right : Mark N) (body : List (Stmt N)) (close : ℕ)
    (got : List (Stmt N)) → s ≡ Split whole index left right body close → got ≡ body → Holds s (temporaries index 0) got
holds-Split s whole index left right body close got is got_is =
    let row = row_of_block (Split whole index left right body close) in
    let same = items_hidden-the_row-Stmt-1 _ body in
    let most : statements_temporaries row.1 ≡ body_temporaries body = row_most row.0 row.1 ∙ ap body_temporaries same in
    let size : row_size row.1 ≡ body_size body = row_sizes row.0 row.1 ∙ ap body_size same in
    let whole_is : statement_temporaries s ≡ max (temporaries index 0) (statements_temporaries row.1) = ap statement_temporaries is in
    let sizes : statement_size s ≡ row_size row.1 + 2 = ap statement_size is in
    record {
      smaller = omega (arith, ap body_size got_is);
      most = omega (arith, ap body_temporaries got_is);
    }

-- ---- a list that a loop goes through

statement_smaller : {N : Type 0} (body : List (Stmt N)) (i : ℕ) (s : Stmt N) → i < length body → s ≡ get_or body i s →
    statement_size s ≤ body_size body
statement_smaller [] i s lt is = absurd (omega arith)
statement_smaller (first ∷ more) zero s lt is = omega (arith, ap statement_size is)
statement_smaller (first ∷ more) (suc i) s lt is = omega (arith, statement_smaller more i s (omega arith) is)

-- the statement at i
pub record Follows {N : Type 0} (body : List (Stmt N)) (i : ℕ) (s : Stmt N) : Type 0 where
  pub smaller : statement_size s ≤ body_size body
  pub most : body_temporaries (drop i body) ≡ max (statement_temporaries s) (body_temporaries (drop (i + 1) body))

pub follows : {N : Type 0} (body : List (Stmt N)) (i : ℕ) (s : Stmt N) → i < length body → s ≡ get_or body i s → Follows body i s
follows body i s lt is = record {
  smaller = statement_smaller body i s lt is;
  most = ap body_temporaries (next body i s lt is);
}
