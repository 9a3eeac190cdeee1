-- What the order of evaluation is at each expression and statement as the code matches it, and at the lists that loops
-- go through.
use Rattle.std.proofs.Common.{◌≡◌, ℕ, ◌+◌, ◌<◌, Option, Some, None, List, ◌++◌, length, get_or, drop, refl, ap, ◌∙◌, sym, subst}
use Rattle.cm_syntax.specs.declared.expr.Mark.{Mark}
use Rattle.cm_syntax.specs.declared.expr.Op.{Op}
use Rattle.cm_syntax.specs.declared.expr.Expr.{Expr}
use Rattle.cm_syntax.specs.declared.expr.Expr.TheVariants as expression
use Rattle.cm_syntax.specs.declared.expr.Arg.{Arg}
use Rattle.cm_syntax.specs.declared.expr.Call.{Call, Row_of-Arg, end_of-Arg, more_of-Arg, items-the_row-Arg, items_hidden-the_row-Arg-1}
use Rattle.cm_syntax.specs.declared.stmt.Item.{Item}
use Rattle.cm_syntax.specs.declared.stmt.Stmt.{Stmt, Row_of-Stmt, end_of-Stmt, more_of-Stmt, items-the_row-Stmt, items_hidden-the_row-Stmt-1}
use Rattle.cm_syntax.specs.declared.stmt.Stmt.TheVariants.{If, While, For, Split, Block}
use Rattle.cm_syntax.specs.Shape.{Binary-Joined, Unary-Prefixed, Index-Element, Input-InputAt}
use Rattle.cm_syntax.specs.Walk.{nothing, event, calls, next, choice}
use Rattle.cm_syntax.specs.Evaluation.{mention_order, joined_order, slice_of, row_slices, slices, expression_order, row_order, arguments_order, argument_order, optional_order, items_order, rounds_order, split_order, statement_order, statements_order, body_order}
use Rattle.cm_syntax.proofs.FrameLaw.{next as next_of_list}
use Rattle.cm_syntax.proofs.Rows.{row_of_block, row_of_call}
use Rattle.cm_syntax.proofs.StatementLaw.{If-Alone, If-Else, While-Loop, For-Loop}
use Rattle.cm_lend.specs.Summary.{Sums}
use Rattle.cm_lend.specs.declared.summary.Summary.{Summary}

-- ---- expressions

pub order_Index : (e : Expr ℕ) (a : Mark ℕ) (index : Expr ℕ) → e ≡ expression.Index a index → expression_order e ≡ next (expression_order index) (mention_order a)
order_Index e a index is = ap expression_order (is ∙ Index-Element a index)

pub order_Input : (e : Expr ℕ) (index : Expr ℕ) → e ≡ expression.Input index → expression_order e ≡ expression_order index
order_Input e index is = ap expression_order (is ∙ Input-InputAt index)

pub order_Unary : (e : Expr ℕ) (op : Op) (operand : Expr ℕ) → e ≡ expression.Unary op operand → expression_order e ≡ expression_order operand
order_Unary e op operand is = ap expression_order (is ∙ Unary-Prefixed op operand)

pub order_Binary : (e : Expr ℕ) (op : Op) (left right : Expr ℕ) → e ≡ expression.Binary op left right →
    expression_order e ≡ joined_order op (expression_order left) (expression_order right)
order_Binary e op left right is = ap expression_order (is ∙ Binary-Joined op left right)

arguments_row : (n : _) (row : Row_of-Arg ℕ n) → row_order row ≡ arguments_order (items-the_row-Arg ℕ n row)
arguments_row n end_of-Arg = refl
arguments_row n (more_of-Arg first later) = ap (next (argument_order first)) (arguments_row _ later)

slices_row : (n : _) (row : Row_of-Arg ℕ n) → row_slices row ≡ slices (items-the_row-Arg ℕ n row)
slices_row n end_of-Arg = refl
slices_row n (more_of-Arg first later) = ap (λ x. slice_of first ++ x) (slices_row _ later)

pub order_Call : (call : Call ℕ) → next (arguments_order call.arguments) (event (calls (slices call.arguments))) ≡ expression_order (expression.Call call)
order_Call call =
    let row = row_of_call (expression.Call call) in
    let same = items_hidden-the_row-Arg-1 ℕ call.arguments in
    let order : row_order row.1 ≡ arguments_order call.arguments = arguments_row row.0 row.1 ∙ ap arguments_order same in
    let passed : row_slices row.1 ≡ slices call.arguments = slices_row row.0 row.1 ∙ ap slices same in
    sym (λ i. next (order i) (event (calls (passed i))))

-- ---- statements

pub order_IfAlone : (s : Stmt ℕ) (test : Expr ℕ) (chosen : Stmt ℕ) (other : Option (Stmt ℕ)) → s ≡ If test chosen other → other ≡ None →
    statement_order s ≡ next (expression_order test) (choice (statement_order chosen) nothing)
order_IfAlone s test chosen other is none = ap statement_order (is ∙ ap (If test chosen) none ∙ If-Alone test chosen)

pub order_IfElse : (s : Stmt ℕ) (test : Expr ℕ) (chosen : Stmt ℕ) (other : Option (Stmt ℕ)) (second : Stmt ℕ) → s ≡ If test chosen other →
    other ≡ Some second → statement_order s ≡ next (expression_order test) (choice (statement_order chosen) (statement_order second))
order_IfElse s test chosen other second is some = ap statement_order (is ∙ ap (If test chosen) some ∙ If-Else test chosen second)

pub order_While : (s : Stmt ℕ) (test : Expr ℕ) (body : Stmt ℕ) → s ≡ While test body →
    statement_order s ≡ rounds_order (Some test) (statement_order body)
order_While s test body is = ap statement_order (is ∙ While-Loop test body)

pub order_For : (s first step body : Stmt ℕ) (test : Option (Expr ℕ)) → s ≡ For first test step body →
    statement_order s ≡ next (statement_order first) (rounds_order test (next (statement_order body) (statement_order step)))
order_For s first step body test is = ap statement_order (is ∙ For-Loop first test step body)

body_row : (n : _) (row : Row_of-Stmt ℕ n) → statements_order row ≡ body_order (items-the_row-Stmt ℕ n row)
body_row n end_of-Stmt = refl
body_row n (more_of-Stmt first later) = ap (next (statement_order first)) (body_row _ later)

pub order_Block : (s : Stmt ℕ) (body : List (Stmt ℕ)) → s ≡ Block body → statement_order s ≡ body_order body
order_Block s body is =
    let row = row_of_block (Block body) in
    let same = items_hidden-the_row-Stmt-1 ℕ body in
    let whole : statement_order s ≡ statements_order row.1 = ap statement_order is in
    whole ∙ body_row row.0 row.1 ∙ ap body_order same

pub order_Split : (s : Stmt ℕ) (whole : Mark ℕ) (index : Expr ℕ) (left right : Mark ℕ) (body : List (Stmt ℕ)) (close : ℕ) →
    s ≡ Split whole index left right body close → statement_order s ≡ split_order whole (expression_order index) left right (body_order body) close
order_Split s whole index left right body close is =
    let row = row_of_block (Split whole index left right body close) in
    let same = items_hidden-the_row-Stmt-1 ℕ body in
    let all : statement_order s ≡ split_order whole (expression_order index) left right (statements_order row.1) close = ap statement_order is in
    all ∙ ap (λ o. split_order whole (expression_order index) left right o close) (body_row row.0 row.1 ∙ ap body_order same)

-- ---- lists, from an item on

pub body_follows : (body : List (Stmt ℕ)) (i : ℕ) (s : Stmt ℕ) → i < length body → s ≡ get_or body i s →
    body_order (drop i body) ≡ next (statement_order s) (body_order (drop (i + 1) body))
body_follows body i s lt is = ap body_order (next_of_list body i s lt is)

pub arguments_follow : (xs : List (Arg ℕ)) (i : ℕ) (x : Arg ℕ) → i < length xs → x ≡ get_or xs i x →
    arguments_order (drop i xs) ≡ next (argument_order x) (arguments_order (drop (i + 1) xs))
arguments_follow xs i x lt is = ap arguments_order (next_of_list xs i x lt is)

pub slices_follow : (xs : List (Arg ℕ)) (i : ℕ) (x : Arg ℕ) → i < length xs → x ≡ get_or xs i x →
    slices (drop i xs) ≡ slice_of x ++ slices (drop (i + 1) xs)
slices_follow xs i x lt is = ap slices (next_of_list xs i x lt is)

pub items_follow : (xs : List (Item ℕ)) (i : ℕ) (x : Item ℕ) → i < length xs → x ≡ get_or xs i x →
    items_order (drop i xs) ≡ next (next (optional_order x.first) (mention_order x.name)) (items_order (drop (i + 1) xs))
items_follow xs i x lt is = ap items_order (next_of_list xs i x lt is)

-- ---- what is got of a box is what it holds

pub sums_got : (x y : Expr ℕ) (s : Summary) → x ≡ y → Sums (expression_order x) s → Sums (expression_order y) s
sums_got x y s e h = subst (λ z. Sums (expression_order z) s) e h

pub sums_got_statement : (x y : Stmt ℕ) (s : Summary) → x ≡ y → Sums (statement_order x) s → Sums (statement_order y) s
sums_got_statement x y s e h = subst (λ z. Sums (statement_order z) s) e h
