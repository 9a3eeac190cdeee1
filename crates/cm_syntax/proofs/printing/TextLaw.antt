-- The canonical text of each expression and statement as it is made from its parts, and the tree without its offsets.
use Rattle.std.proofs.Common.{◌≡◌, ℕ, zero, suc, ◌+◌, List, [], ◌∷◌, ◌++◌, refl, ap, ◌∙◌, Option, None, Some}
use Rattle.std.specs.Prelude.{nat_lt, pos, negsuc, map, option_map}
use Rattle.cm_syntax.specs.declared.name.Name.{Name}
use Rattle.cm_syntax.specs.declared.token.Keyword.TheVariants as keyword
use Rattle.cm_syntax.specs.declared.token.Sign.TheVariants as sign
use Rattle.cm_syntax.specs.declared.expr.Mark.{Mark}
use Rattle.cm_syntax.specs.declared.expr.Op.{Op}
use Rattle.cm_syntax.specs.declared.expr.Expr.{Expr}
use Rattle.cm_syntax.specs.declared.expr.Expr.TheVariants as expression
use Rattle.cm_syntax.specs.declared.expr.Arg.{Arg}
use Rattle.cm_syntax.specs.declared.expr.Call.{Call, Row_of-Arg, end_of-Arg, more_of-Arg, items-the_row-Arg, items_hidden-the_row-Arg-1}
use Rattle.cm_syntax.specs.declared.stmt.Target.TheVariants as target
use Rattle.cm_syntax.specs.declared.stmt.Stmt.{Stmt, Row_of-Stmt, end_of-Stmt, more_of-Stmt, items-the_row-Stmt, items_hidden-the_row-Stmt-1}
use Rattle.cm_syntax.specs.declared.stmt.Stmt.TheVariants as statement
use Rattle.cm_syntax.specs.Shape.{Joined, Prefixed, Element, InputAt, Binary-Joined, Unary-Prefixed, Index-Element, Input-InputAt}
use Rattle.cm_syntax.specs.Token.{Token}
use Rattle.cm_syntax.specs.ParseTree.{level_of}
use Rattle.cm_syntax.specs.Yield.{sign_of}
use Rattle.cm_syntax.specs.Canonical.{word_token, sign_token, name_token, own_level, parenthesize, expression_text, arguments_text, argument_text, optional_text, simple_text, condition_text, statement_text, statements_text, body_text, target_text}
use Rattle.cm_syntax.specs.Offset.{bare, bare_expression, bare_row, bare_argument, bare_call, bare_statement, bare_statements}
use Rattle.cm_syntax.proofs.Rows.{row_of_block, row_of_call}
use Rattle.cm_syntax.proofs.StatementLaw.{If-Alone, If-Else, While-Loop, For-Loop}

-- ---- expressions

pub text-Binary : (op : Op) (left right : Expr Name) → expression_text (expression.Binary op left right) ≡
    parenthesize (nat_lt (own_level left) (level_of op)) (expression_text left) ++
    (sign_token (sign_of op) ∷ parenthesize (nat_lt (own_level right) (level_of op + 1)) (expression_text right))
text-Binary op left right = ap expression_text (Binary-Joined op left right)

pub level-Binary : (op : Op) (left right : Expr Name) → own_level (expression.Binary op left right) ≡ level_of op
level-Binary op left right = ap own_level (Binary-Joined op left right)

pub bare-Binary : (op : Op) (left right : Expr Name) →
    bare_expression (expression.Binary op left right) ≡ expression.Binary op (bare_expression left) (bare_expression right)
bare-Binary op left right = ap bare_expression (Binary-Joined op left right)

pub text-Unary : (op : Op) (operand : Expr Name) → expression_text (expression.Unary op operand) ≡
    sign_token (sign_of op) ∷ parenthesize (nat_lt (own_level operand) (level_of op)) (expression_text operand)
text-Unary op operand = ap expression_text (Unary-Prefixed op operand)

pub level-Unary : (op : Op) (operand : Expr Name) → own_level (expression.Unary op operand) ≡ level_of op
level-Unary op operand = ap own_level (Unary-Prefixed op operand)

pub bare-Unary : (op : Op) (operand : Expr Name) → bare_expression (expression.Unary op operand) ≡ expression.Unary op (bare_expression operand)
bare-Unary op operand = ap bare_expression (Unary-Prefixed op operand)

pub bare-Index : (a : Mark Name) (index : Expr Name) → bare_expression (expression.Index a index) ≡ expression.Index (bare a) (bare_expression index)
bare-Index a index = ap bare_expression (Index-Element a index)

pub text-Input : (index : Expr Name) → expression_text (expression.Input index) ≡
    word_token keyword.Input ∷ sign_token sign.ParenOpen ∷ (expression_text index ++ sign_token sign.ParenClose ∷ [])
text-Input index = ap expression_text (Input-InputAt index)

pub bare-Input : (index : Expr Name) → bare_expression (expression.Input index) ≡ expression.Input (bare_expression index)
bare-Input index = ap bare_expression (Input-InputAt index)

-- An index is the literal 0, and printed with a star, or it is printed between brackets.
pub data IndexText (index : Expr Name) : Type 0 where
  starred : index ≡ expression.Number (pos zero) → IndexText index
  bracketed : ((a : Mark Name) → expression_text (Element a index) ≡
      name_token a ∷ sign_token sign.BracketOpen ∷ (expression_text index ++ sign_token sign.BracketClose ∷ [])) →
      ((a : Mark Name) → target_text (target.Index a index) ≡
      name_token a ∷ sign_token sign.BracketOpen ∷ (expression_text index ++ sign_token sign.BracketClose ∷ [])) → IndexText index

pub index_text : (index : Expr Name) → IndexText index
index_text (expression.Number (pos zero)) = starred refl
index_text (expression.Number (pos (suc n))) = bracketed (λ a. refl) (λ a. refl)
index_text (expression.Number (negsuc n)) = bracketed (λ a. refl) (λ a. refl)
index_text (expression.Scalar x) = bracketed (λ a. refl) (λ a. refl)
index_text (Element a index) = bracketed (λ a. refl) (λ a. refl)
index_text (expression.Len a) = bracketed (λ a. refl) (λ a. refl)
index_text (InputAt index) = bracketed (λ a. refl) (λ a. refl)
index_text expression.Inputs = bracketed (λ a. refl) (λ a. refl)
index_text (Prefixed op operand) = bracketed (λ a. refl) (λ a. refl)
index_text (Joined op left right) = bracketed (λ a. refl) (λ a. refl)
index_text (expression.Call' f _ arguments) = bracketed (λ a. refl) (λ a. refl)

-- ---- calls

-- arguments with commas between them
abbrev pub listed : List (Arg Name) → List Token
listed [] = []
listed (first ∷ []) = argument_text first
listed (first ∷ second ∷ more) = argument_text first ++ (sign_token sign.Comma ∷ listed (second ∷ more))

row_text : (n : _) (row : Row_of-Arg Name n) → arguments_text row ≡ listed (items-the_row-Arg Name n row)
row_text n end_of-Arg = refl
row_text n (more_of-Arg first end_of-Arg) = refl
row_text n (more_of-Arg first (more_of-Arg second more)) = ap (λ t. argument_text first ++ (sign_token sign.Comma ∷ t)) (row_text _ (more_of-Arg second more))

row_bare : (n : _) (row : Row_of-Arg Name n) → bare_row row ≡ map bare_argument (items-the_row-Arg Name n row)
row_bare n end_of-Arg = refl
row_bare n (more_of-Arg first more) = ap (λ t. bare_argument first ∷ t) (row_bare _ more)

pub text-Call : (call : Call Name) → expression_text (expression.Call call) ≡
    name_token call.function ∷ sign_token sign.ParenOpen ∷ (listed call.arguments ++ sign_token sign.ParenClose ∷ [])
text-Call call =
    let row = row_of_call (expression.Call call) in
    let same = row_text row.0 row.1 ∙ ap listed (items_hidden-the_row-Arg-1 Name call.arguments) in
    ap (λ t. name_token call.function ∷ sign_token sign.ParenOpen ∷ (t ++ sign_token sign.ParenClose ∷ [])) same

pub bare-Call : (call : Call Name) → bare_expression (expression.Call call) ≡ expression.Call (bare_call call)
bare-Call call =
    let row = row_of_call (expression.Call call) in
    let same = row_bare row.0 row.1 ∙ ap (λ (x : List (Arg Name)). map bare_argument x) (items_hidden-the_row-Arg-1 Name call.arguments) in
    ap (λ t. expression.Call (record { function = bare call.function; arguments = t })) same

-- ---- statements

pub text-If : (test : Expr Name) (chosen : Stmt Name) → statement_text (statement.If test chosen None) ≡ condition_text keyword.If test ++ statement_text chosen
text-If test chosen = ap statement_text (If-Alone test chosen)

pub bare-If : (test : Expr Name) (chosen : Stmt Name) →
    bare_statement (statement.If test chosen None) ≡ statement.If (bare_expression test) (bare_statement chosen) None
bare-If test chosen = ap bare_statement (If-Alone test chosen)

pub text-Else : (test : Expr Name) (chosen other : Stmt Name) → statement_text (statement.If test chosen (Some other)) ≡
    condition_text keyword.If test ++ (statement_text chosen ++ (word_token keyword.Else ∷ statement_text other))
text-Else test chosen other = ap statement_text (If-Else test chosen other)

pub bare-Else : (test : Expr Name) (chosen other : Stmt Name) →
    bare_statement (statement.If test chosen (Some other)) ≡ statement.If (bare_expression test) (bare_statement chosen) (Some (bare_statement other))
bare-Else test chosen other = ap bare_statement (If-Else test chosen other)

pub text-While : (test : Expr Name) (body : Stmt Name) → statement_text (statement.While test body) ≡ condition_text keyword.While test ++ statement_text body
text-While test body = ap statement_text (While-Loop test body)

pub bare-While : (test : Expr Name) (body : Stmt Name) →
    bare_statement (statement.While test body) ≡ statement.While (bare_expression test) (bare_statement body)
bare-While test body = ap bare_statement (While-Loop test body)

pub text-For : (first : Stmt Name) (test : Option (Expr Name)) (step body : Stmt Name) → statement_text (statement.For first test step body) ≡
    word_token keyword.For ∷ sign_token sign.ParenOpen ∷ (simple_text first ++ (sign_token sign.Semicolon ∷ (optional_text test ++ (sign_token sign.Semicolon ∷
    (simple_text step ++ (sign_token sign.ParenClose ∷ statement_text body))))))
text-For first test step body = ap statement_text (For-Loop first test step body)

pub bare-For : (first : Stmt Name) (test : Option (Expr Name)) (step body : Stmt Name) → bare_statement (statement.For first test step body) ≡
    statement.For (bare_statement first) (option_map bare_expression test) (bare_statement step) (bare_statement body)
bare-For first test step body = ap bare_statement (For-Loop first test step body)

-- ---- blocks

block_text : (n : _) (row : Row_of-Stmt Name n) → statements_text row ≡ body_text (items-the_row-Stmt Name n row)
block_text n end_of-Stmt = refl
block_text n (more_of-Stmt first more) = ap (λ t. statement_text first ++ t) (block_text _ more)

block_bare : (n : _) (row : Row_of-Stmt Name n) → bare_statements row ≡ map bare_statement (items-the_row-Stmt Name n row)
block_bare n end_of-Stmt = refl
block_bare n (more_of-Stmt first more) = ap (λ t. bare_statement first ∷ t) (block_bare _ more)

pub text-Block : (body : List (Stmt Name)) → statement_text (statement.Block body) ≡
    sign_token sign.BraceOpen ∷ (body_text body ++ sign_token sign.BraceClose ∷ [])
text-Block body =
    let row = row_of_block (statement.Block body) in
    let same = block_text row.0 row.1 ∙ ap body_text (items_hidden-the_row-Stmt-1 Name body) in
    ap (λ t. sign_token sign.BraceOpen ∷ (t ++ sign_token sign.BraceClose ∷ [])) same

pub bare-Block : (body : List (Stmt Name)) → bare_statement (statement.Block body) ≡ statement.Block (map bare_statement body)
bare-Block body =
    let row = row_of_block (statement.Block body) in
    let same = block_bare row.0 row.1 ∙ ap (λ (x : List (Stmt Name)). map bare_statement x) (items_hidden-the_row-Stmt-1 Name body) in
    ap statement.Block same

pub text-Split : (whole : Mark Name) (index : Expr Name) (left right : Mark Name) (body : List (Stmt Name)) (close : ℕ) →
    statement_text (statement.Split whole index left right body close) ≡
    word_token keyword.Split ∷ name_token whole ∷ word_token keyword.At ∷ (expression_text index ++ (word_token keyword.As ∷ name_token left ∷ sign_token sign.Comma ∷ name_token right ∷
    sign_token sign.BraceOpen ∷ (body_text body ++ sign_token sign.BraceClose ∷ [])))
text-Split whole index left right body close =
    let row = row_of_block (statement.Split whole index left right body close) in
    let same = block_text row.0 row.1 ∙ ap body_text (items_hidden-the_row-Stmt-1 Name body) in
    ap (λ t. word_token keyword.Split ∷ name_token whole ∷ word_token keyword.At ∷ (expression_text index ++ (word_token keyword.As ∷ name_token left ∷ sign_token sign.Comma ∷ name_token right ∷
    sign_token sign.BraceOpen ∷ (t ++ sign_token sign.BraceClose ∷ [])))) same

pub bare-Split : (whole : Mark Name) (index : Expr Name) (left right : Mark Name) (body : List (Stmt Name)) (close : ℕ) →
    bare_statement (statement.Split whole index left right body close) ≡
    statement.Split (bare whole) (bare_expression index) (bare left) (bare right) (map bare_statement body) 0
bare-Split whole index left right body close =
    let row = row_of_block (statement.Split whole index left right body close) in
    let same = block_bare row.0 row.1 ∙ ap (λ (x : List (Stmt Name)). map bare_statement x) (items_hidden-the_row-Stmt-1 Name body) in
    ap (λ t. statement.Split (bare whole) (bare_expression index) (bare left) (bare right) t 0) same
