-- The canonical text of expressions and statements as the printer makes it from their parts. What the code got of a
-- part is equal to it.
use Rattle.std.proofs.Common.{◌≡◌, ℕ, ◌+◌, List, [], ◌∷◌, ◌++◌, refl, sym, ap, ◌∙◌, Option, None, Some, true, Result, length, length-append, map, arith, append_assoc}
use Rattle.std.specs.Prelude.{OnOk, MatchOption}
use Rattle.std.specs.List.{join_with_byte}
use Rattle.std.proofs.lemmas.Result.{on_ok_weaker}
use Rattle.std.proofs.lemmas.List.{same_from_push}
use Rattle.std.specs.Prelude.{nat_lt, pos}
use Rattle.cm_syntax.specs.declared.name.Name.{Name}
use Rattle.cm_syntax.specs.declared.token.Keyword.TheVariants as keyword
use Rattle.cm_syntax.specs.declared.token.Sign.{Sign}
use Rattle.cm_syntax.specs.declared.token.Sign.TheVariants as sign
use Rattle.cm_syntax.specs.declared.expr.Mark.{Mark}
use Rattle.cm_syntax.specs.declared.expr.Op.{Op}
use Rattle.cm_syntax.specs.declared.expr.Expr.{Expr}
use Rattle.cm_syntax.specs.declared.expr.Expr.TheVariants as expression
use Rattle.cm_syntax.specs.declared.expr.Arg.{Arg}
use Rattle.cm_syntax.specs.declared.stmt.Item.{Item}
use Rattle.cm_syntax.specs.declared.stmt.Target.TheVariants as target
use Rattle.cm_syntax.specs.declared.stmt.Stmt.{Stmt}
use Rattle.cm_syntax.specs.declared.stmt.Stmt.TheVariants as statement
use Rattle.cm_syntax.specs.Token.{Token}
use Rattle.cm_syntax.specs.ParseTree.{level_of}
use Rattle.cm_syntax.specs.Yield.{sign_of}
use Rattle.cm_syntax.specs.Shape.{Element, Index-Element}
use Rattle.cm_syntax.specs.Canonical.{token_text, word_token, sign_token, name_token, own_level, parenthesize, expression_text, argument_text, optional_text, item_text, items_text, parameters_text, simple_text, statement_text, body_text, target_text, function_text, functions_text}
use Rattle.cm_syntax.proofs.StatementLaw.{For-Loop}
use Rattle.cm_syntax.proofs.printing.TextLaw.{text-Binary, level-Binary, text-Unary, level-Unary, text-Input, index_text, IndexText, listed, text-If, text-Else, text-While, text-For, text-Block, text-Split}
use Rattle.cm_reader.specs.Spaced.{spaced, block, head, for_head}
use Rattle.cm_reader.proofs.SpacedLaw.{put_both, Lists, separated, Separates, separated-listed}

-- ---- expressions

pub level_of_Unary : (e : Expr Name) (op : Op) (operand : Expr Name) (level : ℕ) → e ≡ expression.Unary op operand → level ≡ level_of op → level ≡ own_level e
level_of_Unary e op operand level is same = same ∙ sym (ap own_level is ∙ level-Unary op operand)

pub level_of_Binary : (e : Expr Name) (op : Op) (left right : Expr Name) (level : ℕ) → e ≡ expression.Binary op left right → level ≡ level_of op → level ≡ own_level e
level_of_Binary e op left right level is same = same ∙ sym (ap own_level is ∙ level-Binary op left right)

pub text_of_Index : (e : Expr Name) (a : Mark Name) (index got : Expr Name) → e ≡ expression.Index a index → got ≡ index → expression_text e ≡ target_text (target.Index a got)
text_of_Index e a index got is same = ap expression_text (is ∙ ap (expression.Index a) (sym same) ∙ Index-Element a got) ∙ by_index (index_text got)
  where
    by_index : IndexText got → expression_text (Element a got) ≡ target_text (target.Index a got)
    by_index (IndexText.starred zero) = rw zero refl
    by_index (IndexText.bracketed inside written) = inside a ∙ sym (written a)

pub text_of_brackets : (a : Mark Name) (index : Expr Name) → (index ≡ expression.Number (pos 0) → ⊥) →
    target_text (target.Index a index) ≡ name_token a ∷ sign_token sign.BracketOpen ∷ (expression_text index ++ sign_token sign.BracketClose ∷ [])
text_of_brackets a index other = by_index (index_text index)
  where
    by_index : IndexText index → target_text (target.Index a index) ≡ name_token a ∷ sign_token sign.BracketOpen ∷ (expression_text index ++ sign_token sign.BracketClose ∷ [])
    by_index (IndexText.starred zero) = absurd (other zero)
    by_index (IndexText.bracketed inside written) = written a

pub text_of_Input : (e index got : Expr Name) → e ≡ expression.Input index → got ≡ index →
    expression_text e ≡ (word_token keyword.Input ∷ []) ++ parenthesize true (expression_text got)
text_of_Input e index got is same = ap expression_text (is ∙ ap expression.Input (sym same)) ∙ text-Input got

pub text_of_Unary : (e : Expr Name) (op : Op) (operand got : Expr Name) (s : Sign) (level : ℕ) → e ≡ expression.Unary op operand → got ≡ operand → s ≡ sign_of op →
    level ≡ level_of op → expression_text e ≡ (sign_token s ∷ []) ++ parenthesize (nat_lt (own_level got) level) (expression_text got)
text_of_Unary e op operand got s level is same sign_is level_is =
    ap expression_text (is ∙ ap (expression.Unary op) (sym same)) ∙ (text-Unary op got ∙
    rw (sign_is, level_is) refl)

pub text_of_Binary : (e : Expr Name) (op : Op) (left right got_left got_right : Expr Name) (s : Sign) (level again : ℕ) → e ≡ expression.Binary op left right →
    got_left ≡ left → got_right ≡ right → s ≡ sign_of op → level ≡ level_of op → again ≡ level_of op →
    expression_text e ≡ parenthesize (nat_lt (own_level got_left) level) (expression_text got_left) ++
    ((sign_token s ∷ []) ++ parenthesize (nat_lt (own_level got_right) (again + 1)) (expression_text got_right))
text_of_Binary e op left right got_left got_right s level again is left_is right_is sign_is level_is again_is =
    ap expression_text (is ∙ ap (expression.Binary op left) (sym right_is) ∙ ap (λ l. expression.Binary op l got_right) (sym left_is)) ∙
    (text-Binary op got_left got_right ∙ rw (sign_is, level_is, again_is) refl)

listed_separates : Separates argument_text listed
listed_separates = record { none = refl; one = λ x. refl; more = λ x y xs. refl }

pub arguments_of : (arguments : List (Arg Name)) → separated argument_text true arguments ≡ listed arguments
arguments_of = separated-listed argument_text listed listed_separates

-- ---- lists

items_separates : Separates item_text items_text
items_separates = record { none = refl; one = λ x. refl; more = λ x y xs. refl }

pub items_of : (items : List (Item Name)) → separated item_text true items ≡ items_text items
items_of = separated-listed item_text items_text items_separates

abbrev pub parameter_text : Item Name → List Token
parameter_text item = word_token keyword.Int ∷ item_text item

parameters_separates : Separates parameter_text parameters_text
parameters_separates = record { none = refl; one = λ x. refl; more = λ x y xs. refl }

pub parameters_of : (items : List (Item Name)) → separated parameter_text true items ≡ parameters_text items
parameters_of = separated-listed parameter_text parameters_text parameters_separates

pub body_lists : Lists statement_text body_text
body_lists = record { none = refl; more = λ x xs. refl }

pub functions_lists : Lists function_text functions_text
functions_lists = record { none = refl; more = λ x xs. refl }

-- ---- statements: what stands in front of the bodies, and then they

pub text_of_IfAlone : (s : Stmt Name) (test : Expr Name) (chosen got : Stmt Name) (other : Option (Stmt Name)) → s ≡ statement.If test chosen other → other ≡ None →
    got ≡ chosen → statement_text s ≡ head s ++ statement_text got
text_of_IfAlone s test chosen got other is none same =
    let shape : s ≡ statement.If test got None = is ∙ (ap (statement.If test chosen) none ∙ ap (λ x. statement.If test x None) (sym same)) in
    ap statement_text shape ∙ (text-If test got ∙ ap (λ ts. ts ++ statement_text got) (sym (ap head shape)))

pub text_of_IfElse : (s : Stmt Name) (test : Expr Name) (chosen got : Stmt Name) (other : Option (Stmt Name)) (else_is got_else : Stmt Name) →
    s ≡ statement.If test chosen other → other ≡ Some else_is → got ≡ chosen → got_else ≡ else_is →
    statement_text s ≡ head s ++ (statement_text got ++ ((word_token keyword.Else ∷ []) ++ statement_text got_else))
text_of_IfElse s test chosen got other else_is got_else is some same same_else =
    let shape : s ≡ statement.If test got (Some got_else) =
    is ∙ (ap (statement.If test chosen) (some ∙ ap (λ x. Some x) (sym same_else)) ∙ ap (λ x. statement.If test x (Some got_else)) (sym same)) in
    ap statement_text shape ∙ (text-Else test got got_else ∙ ap (λ ts. ts ++ (statement_text got ++ (word_token keyword.Else ∷ statement_text got_else))) (sym (ap head shape)))

pub text_of_While : (s : Stmt Name) (test : Expr Name) (body got : Stmt Name) → s ≡ statement.While test body → got ≡ body → statement_text s ≡ head s ++ statement_text got
text_of_While s test body got is same =
    let shape : s ≡ statement.While test got = is ∙ ap (statement.While test) (sym same) in
    ap statement_text shape ∙ (text-While test got ∙ ap (λ ts. ts ++ statement_text got) (sym (ap head shape)))

pub head_of_For : (s first : Stmt Name) (test : Option (Expr Name)) (step body got_first got_step : Stmt Name) → s ≡ statement.For first test step body →
    got_first ≡ first → got_step ≡ step → head s ≡ for_head got_first test got_step
head_of_For s first test step body got_first got_step is same_first same_step =
    ap head (is ∙ For-Loop first test step body) ∙ rw (same_first, same_step) refl

turned : (a b c d : List Token) (s : Token) → a ++ (s ∷ (b ++ (s ∷ (c ++ (sign_token sign.ParenClose ∷ d))))) ≡ (a ++ (s ∷ (b ++ (s ∷ (c ++ sign_token sign.ParenClose ∷ []))))) ++ d
turned a b c d s = simp append_assoc

pub text_of_For : (s first : Stmt Name) (test : Option (Expr Name)) (step body got : Stmt Name) → s ≡ statement.For first test step body → got ≡ body →
    statement_text s ≡ head s ++ statement_text got
text_of_For s first test step body got is same =
    let shape : s ≡ statement.For first test step got = is ∙ ap (statement.For first test step) (sym same) in
    let heads : head s ≡ for_head first test step = head_of_For s first test step got first step shape refl refl in
    let parted = turned (simple_text first) (optional_text test) (simple_text step) (statement_text got) (sign_token sign.Semicolon) in
    ap statement_text shape ∙ (text-For first test step got ∙
    (ap (λ ts. word_token keyword.For ∷ sign_token sign.ParenOpen ∷ ts) parted ∙ ap (λ ts. ts ++ statement_text got) (sym heads)))

pub text_of_Split : (s : Stmt Name) (whole : Mark Name) (index : Expr Name) (left right : Mark Name) (body got : List (Stmt Name)) (close : ℕ) →
    s ≡ statement.Split whole index left right body close → got ≡ body → statement_text s ≡ head s ++ block got
text_of_Split s whole index left right body got close is same =
    let shape : s ≡ statement.Split whole index left right got close = is ∙ ap (λ (b : List (Stmt Name)). statement.Split whole index left right b close) (sym same) in
    let parted = sym (append_assoc (expression_text index) (word_token keyword.As ∷ name_token left ∷ sign_token sign.Comma ∷ name_token right ∷ []) (block got)) in
    ap statement_text shape ∙ (text-Split whole index left right got close ∙
    (ap (λ ts. word_token keyword.Split ∷ name_token whole ∷ word_token keyword.At ∷ ts) parted ∙ ap (λ ts. ts ++ block got) (sym (ap head shape))))

pub text_of_Block : (s : Stmt Name) (body got : List (Stmt Name)) → s ≡ statement.Block body → got ≡ body → statement_text s ≡ head s ++ block got
text_of_Block s body got is same =
    let shape : s ≡ statement.Block got = is ∙ ap (λ (b : List (Stmt Name)). statement.Block b) (sym same) in
    ap statement_text shape ∙ (text-Block got ∙ ap (λ ts. ts ++ block got) (sym (ap head shape)))

-- a statement with nothing in front of bodies
pub text_of_line : (s line : Stmt Name) → s ≡ line → head line ≡ [] → statement_text s ≡ head s ++ statement_text line
text_of_line s line is none = ap statement_text is ∙ ap (λ ts. ts ++ statement_text line) (sym (ap head is ∙ none))

-- the last part, which another call puts
pub put_last : {T E : Type 0} (r : Result T E) (t u v : List ℕ) (xs ys whole : List Token) → whole ≡ xs ++ ys → u ≡ t ++ spaced xs →
    OnOk r (v ≡ u ++ spaced ys) → OnOk r (v ≡ t ++ spaced whole)
put_last r t u v xs ys whole is p h = on_ok_weaker r (λ q. put_both t u v xs ys p q ∙ ap (λ ts. t ++ spaced ts) (sym is)) h

-- ---- the last space

spaced_join : (x : Token) (xs : List Token) → spaced (x ∷ xs) ≡ join_with_byte 32 (map token_text (x ∷ xs)) ++ 32 ∷ []
spaced_join x [] = refl
spaced_join x (y ∷ xs) =
    ap (λ t. token_text x ++ (32 ∷ t)) (spaced_join y xs) ∙ sym (append_assoc (token_text x) (32 ∷ join_with_byte 32 (map token_text (y ∷ xs))) (32 ∷ []))

-- without the last space the tokens have one space between two
pub last_taken : (tokens : List Token) (last : Option ℕ) (t u : List ℕ) → t ≡ spaced tokens → MatchOption last ((t ≡ []) × (u ≡ [])) (λ x. t ≡ u ++ x ∷ []) →
    u ≡ join_with_byte 32 (map token_text tokens)
last_taken [] None t u is h = h.1
last_taken [] (Some x) t u is h = absurd (omega (arith, ap length is, ap length h, length-append u (x ∷ [])))
last_taken (y ∷ tokens) None t u is h =
    absurd (omega (arith, ap length is, ap length h.0, ap length (spaced_join y tokens), length-append (join_with_byte 32 (map token_text (y ∷ tokens))) (32 ∷ [])))
last_taken (y ∷ tokens) (Some x) t u is h = (same_from_push u _ x 32 (sym h ∙ (is ∙ spaced_join y tokens))).0
