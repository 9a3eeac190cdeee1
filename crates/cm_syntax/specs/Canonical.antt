-- The canonical text of a tree: its tokens in the order of the grammar with one space between two of them. An index
-- by the literal 0 is written `* p`, a slice parameter `int a [ ]`, an update with its operator, and parentheses
-- stand only where the levels of the operators need them.
use Rattle.std.specs.Prelude.{ℕ, zero, ◌+◌, nat_lt, ℤ, pos, negsuc, Bool, true, false, if◌then◌else◌, List, [], ◌∷◌, ◌++◌, map, Option, None, Some}
use Rattle.std.specs.List.{join_with_byte}
use Rattle.std.specs.Fmt.{decimal}
use Rattle.cm_syntax.specs.declared.name.Name.{Name}
use Rattle.cm_syntax.specs.declared.token.Keyword.{Keyword}
use Rattle.cm_syntax.specs.declared.token.Keyword.TheVariants as keyword
use Rattle.cm_syntax.specs.declared.token.Sign.{Sign}
use Rattle.cm_syntax.specs.declared.token.Sign.TheVariants as sign
use Rattle.cm_syntax.specs.declared.expr.Mark.{Mark}
use Rattle.cm_syntax.specs.declared.expr.Op.{Op}
use Rattle.cm_syntax.specs.declared.expr.Expr.{Expr}
use Rattle.cm_syntax.specs.declared.expr.Expr.TheVariants as expression
use Rattle.cm_syntax.specs.declared.expr.Arg.{Arg}
use Rattle.cm_syntax.specs.declared.expr.Arg.TheVariants as argument
use Rattle.cm_syntax.specs.declared.expr.Call.{Row_of-Arg, end_of-Arg, more_of-Arg}
use Rattle.cm_syntax.specs.declared.stmt.Slot.{Slot}
use Rattle.cm_syntax.specs.declared.stmt.Slot.TheVariants as slot
use Rattle.cm_syntax.specs.declared.stmt.Item.{Item}
use Rattle.cm_syntax.specs.declared.stmt.Target.{Target}
use Rattle.cm_syntax.specs.declared.stmt.Target.TheVariants as target
use Rattle.cm_syntax.specs.declared.stmt.Stmt.{Stmt, Row_of-Stmt, end_of-Stmt, more_of-Stmt}
use Rattle.cm_syntax.specs.declared.stmt.Stmt.TheVariants as statement
use Rattle.cm_syntax.specs.declared.stmt.Function.{Function}
use Rattle.cm_syntax.specs.declared.stmt.Tree.{Tree}
use Rattle.cm_syntax.specs.Shape.{Joined, Prefixed, Element, InputAt, IfAlone, IfElse, WhileLoop, ForLoop}
use Rattle.cm_syntax.specs.Text.{keyword_text, sign_text}
use Rattle.cm_syntax.specs.Token.{Token}
use Rattle.cm_syntax.specs.ParseTree.{level_of, primary_level}
use Rattle.cm_syntax.specs.Yield.{sign_of, update_sign}

abbrev pub word_token : Keyword → Token
word_token k = Token.keyword k

abbrev pub sign_token : Sign → Token
sign_token sign = Token.sign sign

abbrev pub name_token : Mark Name → Token
name_token mark = Token.name mark.name

-- a literal; no tree of a source has a negative one
abbrev pub literal_token : ℤ → Token
literal_token (pos value) = Token.number value
literal_token (negsuc value) = Token.unfit

-- ---- expressions

-- the level of an expression's outermost operator
abbrev pub own_level : Expr Name → ℕ
own_level (Prefixed op operand) = level_of op
own_level (Joined op left right) = level_of op
own_level _ = primary_level

-- parentheses where they are needed
abbrev pub parenthesize : Bool → List Token → List Token
parenthesize true tokens = sign_token sign.ParenOpen ∷ (tokens ++ sign_token sign.ParenClose ∷ [])
parenthesize false tokens = tokens

abbrev mutual
  pub expression_text : Expr Name → List Token
  expression_text (expression.Number value) = literal_token value ∷ []
  expression_text (expression.Scalar x) = name_token x ∷ []
  expression_text (Element p (expression.Number (pos zero))) = sign_token sign.Star ∷ name_token p ∷ []
  expression_text (Element a index) = name_token a ∷ sign_token sign.BracketOpen ∷ (expression_text index ++ sign_token sign.BracketClose ∷ [])
  expression_text (expression.Len a) = word_token keyword.Len ∷ sign_token sign.ParenOpen ∷ name_token a ∷ sign_token sign.ParenClose ∷ []
  expression_text (InputAt index) = word_token keyword.Input ∷ sign_token sign.ParenOpen ∷ (expression_text index ++ sign_token sign.ParenClose ∷ [])
  expression_text expression.Inputs = word_token keyword.Inputs ∷ sign_token sign.ParenOpen ∷ sign_token sign.ParenClose ∷ []
  expression_text (Prefixed op operand) =
      sign_token (sign_of op) ∷ parenthesize (nat_lt (own_level operand) (level_of op)) (expression_text operand)
  expression_text (Joined op left right) =
      parenthesize (nat_lt (own_level left) (level_of op)) (expression_text left) ++
      (sign_token (sign_of op) ∷ parenthesize (nat_lt (own_level right) (level_of op + 1)) (expression_text right))
  expression_text (expression.Call' f _ arguments) = name_token f ∷ sign_token sign.ParenOpen ∷ (arguments_text arguments ++ sign_token sign.ParenClose ∷ [])

  pub arguments_text : {k : _} → Row_of-Arg Name k → List Token
  arguments_text end_of-Arg = []
  arguments_text (more_of-Arg first end_of-Arg) = argument_text first
  arguments_text (more_of-Arg first more) = argument_text first ++ (sign_token sign.Comma ∷ arguments_text more)

  pub argument_text : Arg Name → List Token
  argument_text (argument.Value value) = expression_text value
  argument_text (argument.Slice a) = name_token a ∷ []
  argument_text (argument.Address x) = sign_token sign.Ampersand ∷ name_token x ∷ []

abbrev pub optional_text : Option (Expr Name) → List Token
optional_text None = []
optional_text (Some value) = expression_text value

-- ---- simple statements, without the semicolon

abbrev pub size_text : Slot → List Token
size_text slot.Scalar = []
size_text (slot.Array words) = sign_token sign.BracketOpen ∷ Token.number words ∷ sign_token sign.BracketClose ∷ []
size_text slot.Slice = sign_token sign.BracketOpen ∷ sign_token sign.BracketClose ∷ []

abbrev pub first_value_text : Option (Expr Name) → List Token
first_value_text None = []
first_value_text (Some value) = sign_token sign.Assign ∷ expression_text value

abbrev pub item_text : Item Name → List Token
item_text item = name_token item.name ∷ (size_text item.slot ++ first_value_text item.first)

abbrev pub items_text : List (Item Name) → List Token
items_text [] = []
items_text (first ∷ []) = item_text first
items_text (first ∷ second ∷ more) = item_text first ++ (sign_token sign.Comma ∷ items_text (second ∷ more))

abbrev pub target_text : Target Name → List Token
target_text (target.Scalar x) = name_token x ∷ []
target_text (target.Index p (expression.Number (pos zero))) = sign_token sign.Star ∷ name_token p ∷ []
target_text (target.Index a index) = name_token a ∷ sign_token sign.BracketOpen ∷ (expression_text index ++ sign_token sign.BracketClose ∷ [])

abbrev pub assign_sign : Option Op → Sign
assign_sign None = sign.Assign
assign_sign (Some op) = update_sign op

-- `x =` before a spawn
abbrev pub destination_text : Option (Mark Name) → List Token
destination_text None = []
destination_text (Some x) = name_token x ∷ sign_token sign.Assign ∷ []

-- a declaration, an assignment or a call; an empty part of a `for` is printed as nothing
abbrev pub simple_text : Stmt Name → List Token
simple_text (statement.Declare items) = word_token keyword.Int ∷ items_text items
simple_text (statement.Assign written op value) = target_text written ++ (sign_token (assign_sign op) ∷ expression_text value)
simple_text (statement.Call call) = expression_text (expression.Call call)
simple_text _ = []

-- ---- statements

-- `if` or `while` and its condition
abbrev pub condition_text : Keyword → Expr Name → List Token
condition_text k test = word_token k ∷ sign_token sign.ParenOpen ∷ (expression_text test ++ sign_token sign.ParenClose ∷ [])

abbrev mutual
  pub statement_text : Stmt Name → List Token
  statement_text (IfAlone test chosen) = condition_text keyword.If test ++ statement_text chosen
  statement_text (IfElse test chosen other) =
      condition_text keyword.If test ++ (statement_text chosen ++ (word_token keyword.Else ∷ statement_text other))
  statement_text (WhileLoop test body) = condition_text keyword.While test ++ statement_text body
  statement_text (ForLoop first test step body) =
      word_token keyword.For ∷ sign_token sign.ParenOpen ∷ (simple_text first ++ (sign_token sign.Semicolon ∷ (optional_text test ++ (sign_token sign.Semicolon ∷
      (simple_text step ++ (sign_token sign.ParenClose ∷ statement_text body))))))
  statement_text (statement.Split' whole index left right _ body close) =
      word_token keyword.Split ∷ name_token whole ∷ word_token keyword.At ∷ (expression_text index ++ (word_token keyword.As ∷ name_token left ∷ sign_token sign.Comma ∷ name_token right ∷
      sign_token sign.BraceOpen ∷ (statements_text body ++ sign_token sign.BraceClose ∷ [])))
  statement_text (statement.Block' _ body) = sign_token sign.BraceOpen ∷ (statements_text body ++ sign_token sign.BraceClose ∷ [])
  statement_text (statement.Spawn at destination call) =
      destination_text destination ++ (word_token keyword.Spawn ∷ (expression_text (expression.Call call) ++ sign_token sign.Semicolon ∷ []))
  statement_text (statement.Sync at) = word_token keyword.Sync ∷ sign_token sign.Semicolon ∷ []
  statement_text (statement.Return at value) = word_token keyword.Return ∷ (optional_text value ++ sign_token sign.Semicolon ∷ [])
  statement_text (statement.Print value) =
      word_token keyword.Print ∷ sign_token sign.ParenOpen ∷ (expression_text value ++ sign_token sign.ParenClose ∷ sign_token sign.Semicolon ∷ [])
  statement_text simple = simple_text simple ++ sign_token sign.Semicolon ∷ []

  pub statements_text : {k : _} → Row_of-Stmt Name k → List Token
  statements_text end_of-Stmt = []
  statements_text (more_of-Stmt first more) = statement_text first ++ statements_text more

-- ---- functions

abbrev pub body_text : List (Stmt Name) → List Token
body_text [] = []
body_text (first ∷ more) = statement_text first ++ body_text more

abbrev pub parameters_text : List (Item Name) → List Token
parameters_text [] = []
parameters_text (first ∷ []) = word_token keyword.Int ∷ item_text first
parameters_text (first ∷ second ∷ more) = word_token keyword.Int ∷ (item_text first ++ (sign_token sign.Comma ∷ parameters_text (second ∷ more)))

abbrev pub function_text : Function Name → List Token
function_text f =
    (if f.cilk then word_token keyword.Cilk ∷ [] else []) ++ (word_token (if f.gives then keyword.Int else keyword.Void) ∷ name_token f.name ∷ sign_token sign.ParenOpen ∷
    (parameters_text f.parameters ++ (sign_token sign.ParenClose ∷ sign_token sign.BraceOpen ∷ (body_text f.body ++ sign_token sign.BraceClose ∷ []))))

abbrev pub functions_text : List (Function Name) → List Token
functions_text [] = []
functions_text (first ∷ more) = function_text first ++ functions_text more

-- how a token is written; no tree of a source has one that is unfit
abbrev pub token_text : Token → List ℕ
token_text (Token.keyword k) = keyword_text k
token_text (Token.sign sign) = sign_text sign
token_text (Token.name bytes) = bytes
token_text (Token.number value) = decimal value
token_text Token.unfit = []

-- the canonical text of a tree
abbrev pub canonical : Tree → List ℕ
canonical tree = join_with_byte 32 (map token_text (functions_text tree.functions))
