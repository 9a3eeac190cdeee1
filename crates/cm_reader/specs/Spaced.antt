-- Tokens as the printer writes them, before it takes away the last space, and parts of the canonical text that have
-- no name there.
use Rattle.std.specs.Prelude.{ℕ, Bool, true, false, List, [], ◌∷◌, ◌++◌, Option}
use Rattle.cm_syntax.specs.declared.name.Name.{Name}
use Rattle.cm_syntax.specs.declared.token.Keyword.TheVariants as keyword
use Rattle.cm_syntax.specs.declared.token.Sign.TheVariants as sign
use Rattle.cm_syntax.specs.declared.expr.Mark.{Mark}
use Rattle.cm_syntax.specs.declared.expr.Expr.{Expr}
use Rattle.cm_syntax.specs.declared.stmt.Stmt.{Stmt}
use Rattle.cm_syntax.specs.declared.stmt.Stmt.TheVariants as statement
use Rattle.cm_syntax.specs.Shape.{ForLoop}
use Rattle.cm_syntax.specs.Token.{Token}
use Rattle.cm_syntax.specs.Canonical.{token_text, sign_token, word_token, name_token, simple_text, optional_text, condition_text, expression_text, body_text}

-- the texts of the tokens, with a space behind each
abbrev pub spaced : List Token → List ℕ
spaced [] = []
spaced (token ∷ tokens) = token_text token ++ (32 ∷ spaced tokens)

-- the comma in front of an item of a list, unless it is the first
abbrev pub comma : (is_first : Bool) → List Token
comma true = []
comma false = sign_token sign.Comma ∷ []

-- statements between braces
abbrev pub block : List (Stmt Name) → List Token
block body = sign_token sign.BraceOpen ∷ (body_text body ++ sign_token sign.BraceClose ∷ [])

-- what stands in front of the body of a `for`
abbrev pub for_head : Stmt Name → Option (Expr Name) → Stmt Name → List Token
for_head first test step =
    word_token keyword.For ∷ sign_token sign.ParenOpen ∷ (simple_text first ++ (sign_token sign.Semicolon ∷
    (optional_text test ++ (sign_token sign.Semicolon ∷ (simple_text step ++ sign_token sign.ParenClose ∷ [])))))

-- what stands in front of the block of a `split`
abbrev pub split_head : (whole : Mark Name) → Expr Name → (left right : Mark Name) → List Token
split_head whole place left right =
    word_token keyword.Split ∷ name_token whole ∷ word_token keyword.At ∷
    (expression_text place ++ (word_token keyword.As ∷ name_token left ∷ sign_token sign.Comma ∷ name_token right ∷ []))

-- what stands in front of the bodies or the block of a statement
abbrev pub head : Stmt Name → List Token
head (statement.If' test _ _ _) = condition_text keyword.If test
head (statement.While' test _ _) = condition_text keyword.While test
head (ForLoop first test step body) = for_head first test step
head (statement.Split' whole place left right _ _ _) = split_head whole place left right
head _ = []
