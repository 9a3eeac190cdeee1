-- The tokens of a parse tree in the order of the text, and what is counted at each of them against the limits.
use Rattle.std.specs.Prelude.{ℕ, ◌+◌, Bool, true, false, if◌then◌else◌, List, [], ◌∷◌, ◌++◌, Option, None, Some, map}
use Rattle.cm_syntax.specs.declared.expr.Op.{Op}
use Rattle.cm_syntax.specs.declared.expr.Op.TheVariants as op
use Rattle.cm_syntax.specs.declared.token.Keyword.{Keyword}
use Rattle.cm_syntax.specs.declared.token.Keyword.TheVariants as keyword
use Rattle.cm_syntax.specs.declared.token.Sign.{Sign}
use Rattle.cm_syntax.specs.declared.token.Sign.TheVariants as sign
use Rattle.cm_syntax.specs.Token.{Token, LocatedToken}
use Rattle.cm_syntax.specs.ParseTree.{Mark, Offset, Expression, Arguments, Argument, AnyExpression, Declaration, Simple, FirstPart, Plain, Statements, Parameter, ParameterList, Parameters}
use Rattle.cm_syntax.specs.ParseTree as grammar

-- What is counted at a token: how deep the statement is that begins there, how many operators the expression
-- between the same brackets has up to there, the value of a literal, or the words of an array.
pub data Quantity : Type 0 where
  nothing : Quantity
  depth : ℕ → Quantity
  operators : ℕ → Quantity
  literal : ℕ → Quantity
  words : ℕ → Quantity

-- a token, its offset and what is counted there
pub record CountedToken : Type 0 where
  pub located : LocatedToken
  pub quantity : Quantity

abbrev pub counted_token : Token → Offset → Quantity → CountedToken
counted_token token at quantity = record { located = record { token = token; at = at }; quantity = quantity }

abbrev pub word_at : Keyword → Offset → CountedToken
word_at k at = counted_token (Token.keyword k) at nothing

abbrev pub sign_at : Sign → Offset → CountedToken
sign_at s at = counted_token (Token.sign s) at nothing

abbrev pub name_at : Mark → CountedToken
name_at mark = counted_token (Token.name mark.name) mark.at nothing

-- the sign of an operator
abbrev pub sign_of : Op → Sign
sign_of op.Neg = sign.Minus
sign_of op.Not = sign.Exclamation
sign_of op.Flip = sign.Tilde
sign_of op.Mul = sign.Star
sign_of op.Div = sign.Slash
sign_of op.Rem = sign.Percent
sign_of op.Add = sign.Plus
sign_of op.Sub = sign.Minus
sign_of op.Shl = sign.ShiftLeft
sign_of op.Shr = sign.ShiftRight
sign_of op.Lt = sign.Less
sign_of op.Le = sign.LessEqual
sign_of op.Gt = sign.Greater
sign_of op.Ge = sign.GreaterEqual
sign_of op.Eq = sign.Equal
sign_of op.Ne = sign.NotEqual
sign_of op.And = sign.Ampersand
sign_of op.Xor = sign.Caret
sign_of op.Or = sign.Bar
sign_of op.Both = sign.AndAnd
sign_of op.Either = sign.OrOr

-- the sign of an update by an operator that may have one; no source updates by another
abbrev pub update_sign : Op → Sign
update_sign op.Mul = sign.StarAssign
update_sign op.Div = sign.SlashAssign
update_sign op.Rem = sign.PercentAssign
update_sign op.Add = sign.PlusAssign
update_sign op.Sub = sign.MinusAssign
update_sign op.Shl = sign.ShiftLeftAssign
update_sign op.Shr = sign.ShiftRightAssign
update_sign op.And = sign.AndAssign
update_sign op.Xor = sign.CaretAssign
update_sign op.Or = sign.OrAssign
update_sign _ = sign.Assign

-- `++` or `--`
abbrev pub step_sign : Bool → Sign
step_sign true = sign.PlusPlus
step_sign false = sign.MinusMinus

-- ---- expressions

-- how many operators an expression has outside of its brackets
abbrev pub operators_of : {level : ℕ} → Expression level → ℕ
operators_of (Expression.prefixed op unary at operand tight) = operators_of operand + 1
operators_of (Expression.joined op binary left loose at right tight) = operators_of left + operators_of right + 1
operators_of _ = 0

abbrev mutual
  -- n operators stand before the expression between the same brackets
  pub expression_tokens : {level : ℕ} → (n : ℕ) → Expression level → List CountedToken
  expression_tokens n (Expression.literal at value) = counted_token (Token.number value) at (literal value) ∷ []
  expression_tokens n (Expression.variable x) = name_at x ∷ []
  expression_tokens n (Expression.element a opening index closing) =
      name_at a ∷ sign_at sign.BracketOpen opening ∷ (expression_tokens 0 index ++ sign_at sign.BracketClose closing ∷ [])
  expression_tokens n (Expression.pointee star p) = sign_at sign.Star star ∷ name_at p ∷ []
  expression_tokens n (Expression.called call) = call_tokens call
  expression_tokens n (Expression.len word opening a closing) =
      word_at keyword.Len word ∷ sign_at sign.ParenOpen opening ∷ name_at a ∷ sign_at sign.ParenClose closing ∷ []
  expression_tokens n (Expression.input word opening index closing) =
      word_at keyword.Input word ∷ sign_at sign.ParenOpen opening ∷ (expression_tokens 0 index ++ sign_at sign.ParenClose closing ∷ [])
  expression_tokens n (Expression.inputs word opening closing) =
      word_at keyword.Inputs word ∷ sign_at sign.ParenOpen opening ∷ sign_at sign.ParenClose closing ∷ []
  expression_tokens n (Expression.grouped opening inner closing) =
      sign_at sign.ParenOpen opening ∷ (expression_tokens 0 inner ++ sign_at sign.ParenClose closing ∷ [])
  expression_tokens n (Expression.prefixed op unary at operand tight) =
      counted_token (Token.sign (sign_of op)) at (operators (n + 1)) ∷ expression_tokens (n + 1) operand
  expression_tokens n (Expression.joined op binary left loose at right tight) =
      let before = n + operators_of left in
      expression_tokens n left ++ (counted_token (Token.sign (sign_of op)) at (operators (before + 1)) ∷ expression_tokens (before + 1) right)

  pub call_tokens : grammar.Call → List CountedToken
  call_tokens (grammar.Call.alone f opening closing) =
      name_at f ∷ sign_at sign.ParenOpen opening ∷ sign_at sign.ParenClose closing ∷ []
  call_tokens (grammar.Call.with_ f opening arguments closing) =
      name_at f ∷ sign_at sign.ParenOpen opening ∷ (arguments_tokens arguments ++ sign_at sign.ParenClose closing ∷ [])

  pub arguments_tokens : Arguments → List CountedToken
  arguments_tokens (Arguments.last argument) = argument_tokens argument
  arguments_tokens (Arguments.before argument comma more) = argument_tokens argument ++ (sign_at sign.Comma comma ∷ arguments_tokens more)

  pub argument_tokens : Argument → List CountedToken
  argument_tokens (Argument.value value) = expression_tokens 0 value
  argument_tokens (Argument.address at x) = sign_at sign.Ampersand at ∷ name_at x ∷ []

abbrev pub any_tokens : AnyExpression → List CountedToken
any_tokens (AnyExpression.any value) = expression_tokens 0 value

abbrev pub optional_tokens : Option AnyExpression → List CountedToken
optional_tokens None = []
optional_tokens (Some value) = any_tokens value

-- ---- declarations and simple statements, with what is counted at the first token

abbrev pub item_tokens : grammar.Item → List CountedToken
item_tokens (grammar.Item.scalar x) = name_at x ∷ []
item_tokens (grammar.Item.set x assign value) = name_at x ∷ sign_at sign.Assign assign ∷ any_tokens value
item_tokens (grammar.Item.array a opening at size closing) =
    name_at a ∷ sign_at sign.BracketOpen opening ∷ counted_token (Token.number size) at (words size) ∷ sign_at sign.BracketClose closing ∷ []

abbrev pub items_tokens : grammar.Items → List CountedToken
items_tokens (grammar.Items.last one) = item_tokens one
items_tokens (grammar.Items.before one comma more) = item_tokens one ++ (sign_at sign.Comma comma ∷ items_tokens more)

abbrev pub declaration_tokens : Quantity → Declaration → List CountedToken
declaration_tokens first d = counted_token (Token.keyword keyword.Int) d.int_at first ∷ items_tokens d.items

abbrev pub target_tokens : Quantity → grammar.Target → List CountedToken
target_tokens first (grammar.Target.scalar x) = counted_token (Token.name x.name) x.at first ∷ []
target_tokens first (grammar.Target.element a opening index closing) =
    counted_token (Token.name a.name) a.at first ∷ sign_at sign.BracketOpen opening ∷ (any_tokens index ++ sign_at sign.BracketClose closing ∷ [])
target_tokens first (grammar.Target.pointee star p) = counted_token (Token.sign sign.Star) star first ∷ name_at p ∷ []

abbrev pub simple_call_tokens : Quantity → grammar.Call → List CountedToken
simple_call_tokens first (grammar.Call.alone f opening closing) =
    counted_token (Token.name f.name) f.at first ∷ sign_at sign.ParenOpen opening ∷ sign_at sign.ParenClose closing ∷ []
simple_call_tokens first (grammar.Call.with_ f opening arguments closing) =
    counted_token (Token.name f.name) f.at first ∷ sign_at sign.ParenOpen opening ∷ (arguments_tokens arguments ++ sign_at sign.ParenClose closing ∷ [])

abbrev pub simple_tokens : Quantity → Simple → List CountedToken
simple_tokens first (Simple.assign target at value) = target_tokens first target ++ (sign_at sign.Assign at ∷ any_tokens value)
simple_tokens first (Simple.update target op updates at value) = target_tokens first target ++ (sign_at (update_sign op) at ∷ any_tokens value)
simple_tokens first (Simple.step_after target up at) = target_tokens first target ++ sign_at (step_sign up) at ∷ []
simple_tokens first (Simple.step_before up at target) = counted_token (Token.sign (step_sign up)) at first ∷ target_tokens nothing target
simple_tokens first (Simple.call call) = simple_call_tokens first call

abbrev pub first_part_tokens : FirstPart → List CountedToken
first_part_tokens FirstPart.nothing = []
first_part_tokens (FirstPart.declare declaration) = declaration_tokens nothing declaration
first_part_tokens (FirstPart.simple s) = simple_tokens nothing s

abbrev pub last_part_tokens : Option Simple → List CountedToken
last_part_tokens None = []
last_part_tokens (Some s) = simple_tokens nothing s

-- ---- statements

abbrev mutual
  -- A statement at depth d; `inner` is the depth of the statements in it where it is a block. A body is one deeper
  -- than the statement it belongs to, and the statements of a body that is a block are as deep as that block.
  pub plain_tokens : {is_open : Bool} → (d inner : ℕ) → Plain is_open → List CountedToken
  plain_tokens d inner (Plain.simple s semicolon) = simple_tokens (depth d) s ++ sign_at sign.Semicolon semicolon ∷ []
  plain_tokens d inner (Plain.empty semicolon) = counted_token (Token.sign sign.Semicolon) semicolon (depth d) ∷ []
  plain_tokens d inner (Plain.block opening body closing) =
      counted_token (Token.sign sign.BraceOpen) opening (depth d) ∷ (statements_tokens inner body ++ sign_at sign.BraceClose closing ∷ [])
  plain_tokens d inner (Plain.if_alone word opening test closing chosen) =
      counted_token (Token.keyword keyword.If) word (depth d) ∷ sign_at sign.ParenOpen opening ∷
      (any_tokens test ++ (sign_at sign.ParenClose closing ∷ plain_tokens (d + 1) (d + 1) chosen))
  plain_tokens d inner (Plain.if_else word opening test closing chosen at other) =
      counted_token (Token.keyword keyword.If) word (depth d) ∷ sign_at sign.ParenOpen opening ∷
      (any_tokens test ++ (sign_at sign.ParenClose closing ∷
      (plain_tokens (d + 1) (d + 1) chosen ++ (word_at keyword.Else at ∷ plain_tokens (d + 1) (d + 1) other))))
  plain_tokens d inner (Plain.while word opening test closing body) =
      counted_token (Token.keyword keyword.While) word (depth d) ∷ sign_at sign.ParenOpen opening ∷
      (any_tokens test ++ (sign_at sign.ParenClose closing ∷ plain_tokens (d + 1) (d + 1) body))
  plain_tokens d inner (Plain.for word opening first semicolon test second step closing body) =
      counted_token (Token.keyword keyword.For) word (depth d) ∷ sign_at sign.ParenOpen opening ∷
      (first_part_tokens first ++ (sign_at sign.Semicolon semicolon ∷
      (optional_tokens test ++ (sign_at sign.Semicolon second ∷
      (last_part_tokens step ++ (sign_at sign.ParenClose closing ∷ plain_tokens (d + 1) (d + 1) body))))))
  plain_tokens d inner (Plain.split word whole at index as_ left comma right opening body closing) =
      counted_token (Token.keyword keyword.Split) word (depth d) ∷ name_at whole ∷ word_at keyword.At at ∷
      (any_tokens index ++ (word_at keyword.As as_ ∷ name_at left ∷ sign_at sign.Comma comma ∷ name_at right ∷
      sign_at sign.BraceOpen opening ∷ (statements_tokens (d + 1) body ++ sign_at sign.BraceClose closing ∷ [])))
  plain_tokens d inner (Plain.return word value semicolon) =
      counted_token (Token.keyword keyword.Return) word (depth d) ∷ (optional_tokens value ++ sign_at sign.Semicolon semicolon ∷ [])
  plain_tokens d inner (Plain.print word opening value closing semicolon) =
      counted_token (Token.keyword keyword.Print) word (depth d) ∷ sign_at sign.ParenOpen opening ∷
      (any_tokens value ++ (sign_at sign.ParenClose closing ∷ sign_at sign.Semicolon semicolon ∷ []))
  plain_tokens d inner (Plain.sync word semicolon) = counted_token (Token.keyword keyword.Sync) word (depth d) ∷ sign_at sign.Semicolon semicolon ∷ []
  plain_tokens d inner (Plain.spawn word call semicolon) =
      counted_token (Token.keyword keyword.Spawn) word (depth d) ∷ (call_tokens call ++ sign_at sign.Semicolon semicolon ∷ [])
  plain_tokens d inner (Plain.spawn_into x assign word call semicolon) =
      counted_token (Token.name x.name) x.at (depth d) ∷ sign_at sign.Assign assign ∷ word_at keyword.Spawn word ∷
      (call_tokens call ++ sign_at sign.Semicolon semicolon ∷ [])

  -- statements at depth d
  pub statements_tokens : (d : ℕ) → Statements → List CountedToken
  statements_tokens d Statements.none = []
  statements_tokens d (Statements.declare declaration semicolon more) =
      declaration_tokens (depth d) declaration ++ (sign_at sign.Semicolon semicolon ∷ statements_tokens d more)
  statements_tokens d (Statements.plain first more) = plain_tokens d (d + 1) first ++ statements_tokens d more

-- ---- functions

abbrev pub parameter_tokens : Parameter → List CountedToken
parameter_tokens (Parameter.scalar int_at x) = word_at keyword.Int int_at ∷ name_at x ∷ []
parameter_tokens (Parameter.slice int_at a opening closing) =
    word_at keyword.Int int_at ∷ name_at a ∷ sign_at sign.BracketOpen opening ∷ sign_at sign.BracketClose closing ∷ []
parameter_tokens (Parameter.pointer int_at star p) = word_at keyword.Int int_at ∷ sign_at sign.Star star ∷ name_at p ∷ []

abbrev pub parameter_list_tokens : ParameterList → List CountedToken
parameter_list_tokens (ParameterList.last one) = parameter_tokens one
parameter_list_tokens (ParameterList.before one comma more) = parameter_tokens one ++ (sign_at sign.Comma comma ∷ parameter_list_tokens more)

abbrev pub parameters_tokens : Parameters → List CountedToken
parameters_tokens Parameters.none = []
parameters_tokens (Parameters.void at) = word_at keyword.Void at ∷ []
parameters_tokens (Parameters.list all) = parameter_list_tokens all

abbrev pub cilk_tokens : Option Offset → List CountedToken
cilk_tokens None = []
cilk_tokens (Some at) = word_at keyword.Cilk at ∷ []

-- the statements of a function's own block are at depth 1
abbrev pub function_tokens : grammar.Function → List CountedToken
function_tokens f =
    cilk_tokens f.cilk_at ++ (word_at (if f.gives then keyword.Int else keyword.Void) f.type_at ∷ name_at f.name ∷ sign_at sign.ParenOpen f.opening ∷
    (parameters_tokens f.parameters ++ (sign_at sign.ParenClose f.closing ∷ sign_at sign.BraceOpen f.body_opening ∷
    (statements_tokens 1 f.body ++ sign_at sign.BraceClose f.body_closing ∷ []))))

abbrev pub program_tokens : grammar.Program → List CountedToken
program_tokens (grammar.Program.last f) = function_tokens f
program_tokens (grammar.Program.before f more) = function_tokens f ++ program_tokens more

-- tokens without what is counted at them
abbrev pub located_tokens : List CountedToken → List LocatedToken
located_tokens tokens = map (λ token. token.located) tokens
