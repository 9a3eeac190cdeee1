-- The parser, a machine that takes tokens one by one. It is no definition of the language: that is the grammar (`ParseTree.antt`,
-- `Yield.antt`, `Refusal.antt`), with which it is proved to agree, so that the reader's code can be held to it
-- token by token. A state is what is wanted next, and a continuation what is wanted then, behind the tree of what was
-- read. Where it takes one token more to see that a part has ended, the continuation takes this token. Some states, as
-- `simple` and `function_next`, are a nonterminal of the code, to which no token leads.
use Rattle.std.specs.Prelude.{ℕ, ◌+◌, ◌-◌, pos, Bool, true, false, not, ◌&&◌, nat_lt, nat_le, if◌then◌else◌, List, [], ◌∷◌, ◌++◌, length, Option, None, Some}
use Rattle.cm_syntax.specs.declared.name.Name.{Name}
use Rattle.cm_syntax.specs.declared.expr.Op.{Op}
use Rattle.cm_syntax.specs.declared.expr.Op.TheVariants as op
use Rattle.cm_syntax.specs.declared.expr.Expr.{Expr}
use Rattle.cm_syntax.specs.declared.expr.Expr.TheVariants as expression
use Rattle.cm_syntax.specs.declared.expr.Arg.{Arg}
use Rattle.cm_syntax.specs.declared.expr.Arg.TheVariants as argument
use Rattle.cm_syntax.specs.declared.expr.Call.{Call}
use Rattle.cm_syntax.specs.declared.stmt.Slot.{Slot}
use Rattle.cm_syntax.specs.declared.stmt.Slot.TheVariants as slot
use Rattle.cm_syntax.specs.declared.stmt.Item.{Item}
use Rattle.cm_syntax.specs.declared.stmt.Target.{Target}
use Rattle.cm_syntax.specs.declared.stmt.Target.TheVariants as target
use Rattle.cm_syntax.specs.declared.stmt.Stmt.{Stmt}
use Rattle.cm_syntax.specs.declared.stmt.Stmt.TheVariants as statement
use Rattle.cm_syntax.specs.declared.stmt.Function.{Function}
use Rattle.cm_syntax.specs.declared.token.Keyword.{Keyword}
use Rattle.cm_syntax.specs.declared.token.Keyword.TheVariants as keyword
use Rattle.cm_syntax.specs.declared.token.Sign.{Sign}
use Rattle.cm_syntax.specs.declared.token.Sign.TheVariants as sign
use Rattle.cm_syntax.specs.Text.{is_same, keyword_text, sign_text}
use Rattle.cm_syntax.specs.Token.{Token, LocatedToken}
use Rattle.cm_syntax.specs.ParseTree.{Mark, Offset, level_of}
use Rattle.cm_syntax.specs.Yield.{Quantity}
use Rattle.cm_syntax.specs.Limit.{max_source_bytes, max_depth, max_open_brackets, max_operators, max_literal, max_array_words}
use Rattle.cm_syntax.specs.Grammar.{IsSourceOf}
use Rattle.cm_syntax.specs.Refusal.{Refusal, IsAnswer, HasNoRefusal, is_opening, is_closing}

-- ---- tokens

-- whether the token is this sign
abbrev pub is_sign : Sign → Token → Bool
is_sign s (Token.sign t) = is_same (sign_text s) (sign_text t)
is_sign s _ = false

-- whether the token is this word
abbrev pub is_word : Keyword → Token → Bool
is_word k (Token.keyword j) = is_same (keyword_text k) (keyword_text j)
is_word k _ = false

-- the binary operator of a sign
abbrev pub sign_operator : Sign → Option Op
sign_operator sign.Star = Some op.Mul
sign_operator sign.Slash = Some op.Div
sign_operator sign.Percent = Some op.Rem
sign_operator sign.Plus = Some op.Add
sign_operator sign.Minus = Some op.Sub
sign_operator sign.ShiftLeft = Some op.Shl
sign_operator sign.ShiftRight = Some op.Shr
sign_operator sign.Less = Some op.Lt
sign_operator sign.LessEqual = Some op.Le
sign_operator sign.Greater = Some op.Gt
sign_operator sign.GreaterEqual = Some op.Ge
sign_operator sign.Equal = Some op.Eq
sign_operator sign.NotEqual = Some op.Ne
sign_operator sign.Ampersand = Some op.And
sign_operator sign.Caret = Some op.Xor
sign_operator sign.Bar = Some op.Or
sign_operator sign.AndAnd = Some op.Both
sign_operator sign.OrOr = Some op.Either
sign_operator _ = None

-- the binary operator of a token
abbrev pub operator_of : Token → Option Op
operator_of (Token.sign s) = sign_operator s
operator_of _ = None

-- the operator of the sign of an update
abbrev pub update_operator : Sign → Option Op
update_operator sign.StarAssign = Some op.Mul
update_operator sign.SlashAssign = Some op.Div
update_operator sign.PercentAssign = Some op.Rem
update_operator sign.PlusAssign = Some op.Add
update_operator sign.MinusAssign = Some op.Sub
update_operator sign.ShiftLeftAssign = Some op.Shl
update_operator sign.ShiftRightAssign = Some op.Shr
update_operator sign.AndAssign = Some op.And
update_operator sign.CaretAssign = Some op.Xor
update_operator sign.OrAssign = Some op.Or
update_operator _ = None

-- ---- states

-- What is wanted next, and what then. An n is how many operators stand before, between the same brackets; a d is the
-- depth of a statement.
pub data State : Type 0 where
  -- this sign
  sign_next : Sign → State → State
  -- this word
  word_next : Keyword → State → State
  -- a name
  name_next : (Mark → State) → State
  -- an operand with its unary operators; then its tree and how many operators stand before what follows it
  operand : (n : ℕ) → (Expr Name → ℕ → State) → State
  -- behind a name in an expression: `[`, `(`, or what follows a variable
  operand_name : Mark → (n : ℕ) → (Expr Name → ℕ → State) → State
  -- behind an expression: an operator of at least this level, or what follows the expression
  operators : (level n : ℕ) → Expr Name → (Expr Name → ℕ → State) → State
  -- `)`, or the first argument
  first_argument : (List (Arg Name) → State) → State
  -- an argument behind these
  next_argument : List (Arg Name) → (List (Arg Name) → State) → State
  -- `,` and an argument behind these, or `)`
  more_arguments : List (Arg Name) → (List (Arg Name) → State) → State
  -- an expression, or nothing in front of `;`
  optional_value : (Option (Expr Name) → State) → State
  -- behind the name of a declarator: `=`, `[`, or what follows a scalar
  item_name : Mark → (Item Name → State) → State
  -- the words of an array
  array_words : (ℕ → State) → State
  -- `,` and a declarator behind these, or what follows them
  more_items : List (Item Name) → (List (Item Name) → State) → State
  -- what an assignment writes
  target_next : (Target Name → State) → State
  -- behind the name of a target: `[`, or what follows a scalar
  target_name : Mark → (Target Name → State) → State
  -- behind a target: the sign of an assignment, and its value
  writing : Target Name → (Stmt Name → State) → State
  -- an assignment or a call; what is counted at its first token
  simple : Quantity → (Stmt Name → State) → State
  -- behind the name that begins an assignment or a call
  simple_name : Mark → (Stmt Name → State) → State
  -- the first part of a `for`, or nothing in front of `;`
  first_part : (Stmt Name → State) → State
  -- the last part of a `for`, or nothing in front of `)`
  last_part : (Stmt Name → State) → State
  -- a statement that may be a body; the statements in it are at depth `inner` where it is a block
  plain : (d inner : ℕ) → (Stmt Name → State) → State
  -- behind the name that begins a statement: `=`, or what follows it in another assignment or a call
  plain_name : Mark → (Stmt Name → State) → State
  -- behind a name and `=` that begin a statement: `spawn`, or a value
  destination : Mark → (Stmt Name → State) → State
  -- behind an `if` at depth d, its condition and its statement: `else`, or what follows the `if`
  otherwise : (d : ℕ) → Expr Name → Stmt Name → (Stmt Name → State) → State
  -- a statement at depth d behind these, or `}`; then they and the offset of the `}`
  statements : (d : ℕ) → List (Stmt Name) → (List (Stmt Name) → Offset → State) → State
  -- `)`, `void`, or the first parameter
  first_parameter : (List (Item Name) → State) → State
  -- behind the `int` of a parameter: `*` or a name
  parameter_declarator : (Item Name → State) → State
  -- behind the name of a parameter: `[`, or what follows a scalar
  parameter_name : Mark → (Item Name → State) → State
  -- `,` and a parameter behind these, or `)`
  more_parameters : List (Item Name) → (List (Item Name) → State) → State
  -- a function
  function_next : (Function Name → State) → State
  -- `int`, or `void`; then whether it was `int`
  return_type : (Bool → State) → State
  -- a function behind these, or the end of the text where there are some
  functions_next : List (Function Name) → State

-- the state behind a token and what is counted at it, or that the token isn't wanted
pub data Next : Type 0 where
  goes : Quantity → State → Next
  stops : Next

-- nothing is counted at the token
abbrev pub on : State → Next
on next = goes Quantity.nothing next

-- ---- expressions

-- an expression of this level or a higher one
abbrev pub whole : (level n : ℕ) → (Expr Name → ℕ → State) → State
whole level n k = State.operand n (λ e m. State.operators level m e k)

-- an expression of any level
abbrev pub value : (Expr Name → State) → State
value k = whole 1 0 (λ e m. k e)

-- behind a unary operator
abbrev pub prefix_step : Op → (n : ℕ) → (Expr Name → ℕ → State) → Next
prefix_step o n k = goes (Quantity.operators (n + 1)) (State.operand (n + 1) (λ e m. k (expression.Unary o e) m))

-- an operand by its first token
abbrev pub operand_step : Token → Offset → (n : ℕ) → (Expr Name → ℕ → State) → Next
operand_step (Token.number literal) at n k = goes (Quantity.literal literal) (k (expression.Number (pos literal)) n)
operand_step (Token.name x) at n k = on (State.operand_name (record { name = x; at = at }) n k)
operand_step (Token.keyword keyword.Len) at n k =
    on (State.sign_next sign.ParenOpen (State.name_next (λ a. State.sign_next sign.ParenClose (k (expression.Len a) n))))
operand_step (Token.keyword keyword.Input) at n k =
    on (State.sign_next sign.ParenOpen (value (λ e. State.sign_next sign.ParenClose (k (expression.Input e) n))))
operand_step (Token.keyword keyword.Inputs) at n k = on (State.sign_next sign.ParenOpen (State.sign_next sign.ParenClose (k expression.Inputs n)))
operand_step (Token.sign sign.Star) at n k = on (State.name_next (λ p. k (expression.Index p (expression.Number (pos 0))) n))
operand_step (Token.sign sign.ParenOpen) at n k = on (value (λ e. State.sign_next sign.ParenClose (k e n)))
operand_step (Token.sign sign.Minus) at n k = prefix_step op.Neg n k
operand_step (Token.sign sign.Exclamation) at n k = prefix_step op.Not n k
operand_step (Token.sign sign.Tilde) at n k = prefix_step op.Flip n k
operand_step _ at n k = stops

-- an expression of any level by its first token
abbrev pub value_step : Token → Offset → (Expr Name → State) → Next
value_step token at k = operand_step token at 0 (λ e m. State.operators 1 m e (λ e m. k e))

-- a binary operator of at least this level, or what another token does
abbrev pub operator_step : Option Op → Next → (level n : ℕ) → Expr Name → (Expr Name → ℕ → State) → Next
operator_step None other level n e k = other
operator_step (Some o) other level n e k =
    if nat_lt (level_of o) level then other
    else goes (Quantity.operators (n + 1)) (whole (level_of o + 1) (n + 1) (λ right m. State.operators level m (expression.Binary o e right) k))

-- an index between brackets, behind the opening one
abbrev pub index : (Expr Name → State) → State
index k = value (λ e. State.sign_next sign.BracketClose (k e))

-- what follows the name of a function, behind the opening bracket
abbrev pub call_of : Mark → (Call Name → State) → State
call_of f k = State.first_argument (λ arguments. k (record { function = f; arguments = arguments }))

-- a call
abbrev pub call : (Call Name → State) → State
call k = State.name_next (λ f. State.sign_next sign.ParenOpen (call_of f k))

-- an argument by its first token
abbrev pub argument_step : Token → Offset → List (Arg Name) → (List (Arg Name) → State) → Next
argument_step token at before k =
    if is_sign sign.Ampersand token then on (State.name_next (λ x. State.more_arguments (before ++ argument.Address x ∷ []) k))
    else value_step token at (λ e. State.more_arguments (before ++ argument.Value e ∷ []) k)

-- a name
abbrev pub name_step : Token → Offset → (Mark → State) → Next
name_step (Token.name x) at k = on (k (record { name = x; at = at }))
name_step _ at k = stops

-- ---- declarations and simple statements

-- a declared variable without a value
abbrev pub item : Mark → Slot → Item Name
item x kind = record { name = x; slot = kind; first = None }

-- a declarator behind these
abbrev pub declarator : List (Item Name) → (List (Item Name) → State) → State
declarator before k = State.name_next (λ x. State.item_name x (λ one. State.more_items (before ++ one ∷ []) k))

-- the declarators behind the `int` of a declaration
abbrev pub declaration : (Stmt Name → State) → State
declaration k = declarator [] (λ items. k (statement.Declare items))

-- the words of an array
abbrev pub words_step : Token → (ℕ → State) → Next
words_step (Token.number words) k = goes (Quantity.words words) (k words)
words_step _ k = stops

-- `++` adds 1, and `--` subtracts it
abbrev pub count_on : Bool → Target Name → Stmt Name
count_on up written = statement.Assign written (Some (if up then op.Add else op.Sub)) (expression.Number (pos 1))

-- `*p`, behind the sign
abbrev pub pointee : (Target Name → State) → State
pointee k = State.name_next (λ p. k (target.Index p (expression.Number (pos 0))))

-- a target by its first token
abbrev pub target_step : Token → Offset → (Target Name → State) → Next
target_step (Token.name x) at k = on (State.target_name (record { name = x; at = at }) k)
target_step (Token.sign sign.Star) at k = on (pointee k)
target_step _ at k = stops

-- the value of an update, behind its sign
abbrev pub update_step : Option Op → Target Name → (Stmt Name → State) → Next
update_step None written k = stops
update_step (Some o) written k = on (value (λ e. k (statement.Assign written (Some o) e)))

-- the sign behind a target
abbrev pub writing_step : Token → Target Name → (Stmt Name → State) → Next
writing_step (Token.sign sign.Assign) written k = on (value (λ e. k (statement.Assign written None e)))
writing_step (Token.sign sign.PlusPlus) written k = on (k (count_on true written))
writing_step (Token.sign sign.MinusMinus) written k = on (k (count_on false written))
writing_step (Token.sign s) written k = update_step (update_operator s) written k
writing_step _ written k = stops

-- the token behind the name that begins an assignment or a call
abbrev pub simple_name_step : Token → Mark → (Stmt Name → State) → Next
simple_name_step token x k =
    if is_sign sign.BracketOpen token then on (index (λ e. State.writing (target.Index x e) k))
    else (if is_sign sign.ParenOpen token then on (call_of x (λ made. k (statement.Call made)))
    else writing_step token (target.Scalar x) k)

-- an assignment or a call by its first token
abbrev pub simple_step : Token → Offset → Quantity → (Stmt Name → State) → Next
simple_step (Token.name x) at first k = goes first (State.simple_name (record { name = x; at = at }) k)
simple_step (Token.sign sign.Star) at first k = goes first (pointee (λ written. State.writing written k))
simple_step (Token.sign sign.PlusPlus) at first k = goes first (State.target_next (λ written. k (count_on true written)))
simple_step (Token.sign sign.MinusMinus) at first k = goes first (State.target_next (λ written. k (count_on false written)))
simple_step _ at first k = stops

-- ---- statements

-- the semicolon behind a statement
abbrev pub with_semicolon : (Stmt Name → State) → Stmt Name → State
with_semicolon k s = State.sign_next sign.Semicolon (k s)

-- an expression between parentheses
abbrev pub parenthesized : (Expr Name → State) → State
parenthesized k = State.sign_next sign.ParenOpen (value (λ e. State.sign_next sign.ParenClose (k e)))

-- a body of a statement at depth d
abbrev pub body : (d : ℕ) → (Stmt Name → State) → State
body d k = State.plain (d + 1) (d + 1) k

-- behind the word `for`, at depth d
abbrev pub for_parts : (d : ℕ) → (Stmt Name → State) → State
for_parts d k =
    State.sign_next sign.ParenOpen (State.first_part (λ first. State.sign_next sign.Semicolon
    (State.optional_value (λ test. State.sign_next sign.Semicolon
    (State.last_part (λ last. State.sign_next sign.ParenClose
    (body d (λ inside. k (statement.For first test last inside)))))))))

-- behind the word `split`, at depth d
abbrev pub split_parts : (d : ℕ) → (Stmt Name → State) → State
split_parts d k =
    State.name_next (λ whole. State.word_next keyword.At (value (λ e. State.word_next keyword.As
    (State.name_next (λ left. State.sign_next sign.Comma (State.name_next (λ right. State.sign_next sign.BraceOpen
    (State.statements (d + 1) [] (λ inside close. k (statement.Split whole e left right inside close))))))))))

-- behind the word `spawn`, which has this offset
abbrev pub spawned : Offset → Option Mark → (Stmt Name → State) → State
spawned at written k = call (λ made. with_semicolon k (statement.Spawn at written made))

-- a statement that may be a body, by its first token
abbrev pub plain_step : Token → Offset → (d inner : ℕ) → (Stmt Name → State) → Next
plain_step (Token.name x) at d inner k = goes (Quantity.depth d) (State.plain_name (record { name = x; at = at }) k)
plain_step (Token.sign sign.Semicolon) at d inner k = goes (Quantity.depth d) (k statement.Empty)
plain_step (Token.sign sign.BraceOpen) at d inner k = goes (Quantity.depth d) (State.statements inner [] (λ inside close. k (statement.Block inside)))
plain_step (Token.keyword keyword.If) at d inner k =
    goes (Quantity.depth d) (parenthesized (λ test. body d (λ chosen. State.otherwise d test chosen k)))
plain_step (Token.keyword keyword.While) at d inner k =
    goes (Quantity.depth d) (parenthesized (λ test. body d (λ inside. k (statement.While test inside))))
plain_step (Token.keyword keyword.For) at d inner k = goes (Quantity.depth d) (for_parts d k)
plain_step (Token.keyword keyword.Split) at d inner k = goes (Quantity.depth d) (split_parts d k)
plain_step (Token.keyword keyword.Return) at d inner k =
    goes (Quantity.depth d) (State.optional_value (λ given. with_semicolon k (statement.Return at given)))
plain_step (Token.keyword keyword.Print) at d inner k =
    goes (Quantity.depth d) (parenthesized (λ e. with_semicolon k (statement.Print e)))
plain_step (Token.keyword keyword.Sync) at d inner k = goes (Quantity.depth d) (with_semicolon k (statement.Sync at))
plain_step (Token.keyword keyword.Spawn) at d inner k = goes (Quantity.depth d) (spawned at None k)
plain_step token at d inner k = simple_step token at (Quantity.depth d) (with_semicolon k)

-- behind `{` or a statement of a block at depth d
abbrev pub statement_step : Token → Offset → (d : ℕ) → List (Stmt Name) → (List (Stmt Name) → Offset → State) → Next
statement_step token at d before k =
    if is_word keyword.Int token
    then goes (Quantity.depth d) (declaration (with_semicolon (λ s. State.statements d (before ++ s ∷ []) k)))
    else plain_step token at d (d + 1) (λ s. State.statements d (before ++ s ∷ []) k)

-- ---- functions

-- a parameter behind these, behind its `int`
abbrev pub parameter : List (Item Name) → (List (Item Name) → State) → State
parameter before k = State.parameter_declarator (λ one. State.more_parameters (before ++ one ∷ []) k)

-- behind the `int` of a parameter
abbrev pub parameter_step : Token → Offset → (Item Name → State) → Next
parameter_step (Token.name x) at k = on (State.parameter_name (record { name = x; at = at }) k)
parameter_step (Token.sign sign.Star) at k = on (State.name_next (λ p. k (item p slot.Slice)))
parameter_step _ at k = stops

-- behind the mark and the type of a function
abbrev pub function_of : (cilk gives : Bool) → (Function Name → State) → State
function_of cilk gives k =
    State.name_next (λ f. State.sign_next sign.ParenOpen (State.first_parameter (λ parameters. State.sign_next sign.BraceOpen
    (State.statements 1 [] (λ inside close.
    k (record { name = f; cilk = cilk; gives = gives; parameters = parameters; body = inside; slots = [] }))))))

-- the type of a function
abbrev pub type_step : Token → (Bool → State) → Next
type_step (Token.keyword keyword.Int) k = on (k true)
type_step (Token.keyword keyword.Void) k = on (k false)
type_step _ k = stops

-- a function by its first token
abbrev pub function_step : Token → (Function Name → State) → Next
function_step token k =
    if is_word keyword.Cilk token then on (State.return_type (λ gives. function_of true gives k))
    else type_step token (λ gives. function_of false gives k)

-- ---- the parser

-- what a token does in a state
abbrev pub step : State → Token → Offset → Next
step (State.sign_next s next) t at = if is_sign s t then on next else stops
step (State.word_next w next) t at = if is_word w t then on next else stops
step (State.name_next k) t at = name_step t at k
step (State.operand n k) t at = operand_step t at n k
step (State.operand_name x n k) t at =
    if is_sign sign.BracketOpen t then on (index (λ e. k (expression.Index x e) n))
    else (if is_sign sign.ParenOpen t then on (call_of x (λ made. k (expression.Call made) n))
    else step (k (expression.Scalar x) n) t at)
step (State.operators level n e k) t at = operator_step (operator_of t) (step (k e n) t at) level n e k
step (State.first_argument k) t at = if is_sign sign.ParenClose t then on (k []) else argument_step t at [] k
step (State.next_argument before k) t at = argument_step t at before k
step (State.more_arguments before k) t at =
    if is_sign sign.Comma t then on (State.next_argument before k)
    else (if is_sign sign.ParenClose t then on (k before) else stops)
step (State.optional_value k) t at = if is_sign sign.Semicolon t then step (k None) t at else value_step t at (λ e. k (Some e))
step (State.item_name x k) t at =
    if is_sign sign.Assign t then on (value (λ e. k (record { name = x; slot = slot.Scalar; first = Some e })))
    else (if is_sign sign.BracketOpen t then on (State.array_words (λ words. State.sign_next sign.BracketClose (k (item x (slot.Array words)))))
    else step (k (item x slot.Scalar)) t at)
step (State.array_words k) t at = words_step t k
step (State.more_items before k) t at = if is_sign sign.Comma t then on (declarator before k) else step (k before) t at
step (State.target_next k) t at = target_step t at k
step (State.target_name x k) t at =
    if is_sign sign.BracketOpen t then on (index (λ e. k (target.Index x e))) else step (k (target.Scalar x)) t at
step (State.writing written k) t at = writing_step t written k
step (State.simple first k) t at = simple_step t at first k
step (State.simple_name x k) t at = simple_name_step t x k
step (State.first_part k) t at =
    if is_sign sign.Semicolon t then step (k statement.Empty) t at
    else (if is_word keyword.Int t then on (declaration k) else simple_step t at Quantity.nothing k)
step (State.last_part k) t at = if is_sign sign.ParenClose t then step (k statement.Empty) t at else simple_step t at Quantity.nothing k
step (State.plain d inner k) t at = plain_step t at d inner k
step (State.plain_name x k) t at =
    if is_sign sign.Assign t then on (State.destination x k) else simple_name_step t x (with_semicolon k)
step (State.destination x k) t at =
    if is_word keyword.Spawn t then on (spawned at (Some x) k)
    else value_step t at (λ e. with_semicolon k (statement.Assign (target.Scalar x) None e))
step (State.otherwise d test chosen k) t at =
    if is_word keyword.Else t then on (body d (λ other. k (statement.If test chosen (Some other))))
    else step (k (statement.If test chosen None)) t at
step (State.statements d before k) t at = if is_sign sign.BraceClose t then on (k before at) else statement_step t at d before k
step (State.first_parameter k) t at =
    if is_sign sign.ParenClose t then on (k [])
    else (if is_word keyword.Void t then on (State.sign_next sign.ParenClose (k []))
    else (if is_word keyword.Int t then on (parameter [] k) else stops))
step (State.parameter_declarator k) t at = parameter_step t at k
step (State.parameter_name x k) t at =
    if is_sign sign.BracketOpen t then on (State.sign_next sign.BracketClose (k (item x slot.Slice))) else step (k (item x slot.Scalar)) t at
step (State.more_parameters before k) t at =
    if is_sign sign.Comma t then on (State.word_next keyword.Int (parameter before k))
    else (if is_sign sign.ParenClose t then on (k before) else stops)
step (State.function_next k) t at = function_step t k
step (State.return_type k) t at = type_step t k
step (State.functions_next before) t at = function_step t (λ f. State.functions_next (before ++ f ∷ []))

-- the functions of a text that ends behind these, where there are some
abbrev pub some_functions : List (Function Name) → Option (List (Function Name))
some_functions [] = None
some_functions (f ∷ more) = Some (f ∷ more)

-- what was read, where the text may end in this state
abbrev pub finish : State → Option (List (Function Name))
finish (State.operand_name x n k) = finish (k (expression.Scalar x) n)
finish (State.operators level n e k) = finish (k e n)
finish (State.item_name x k) = finish (k (item x slot.Scalar))
finish (State.more_items before k) = finish (k before)
finish (State.target_name x k) = finish (k (target.Scalar x))
finish (State.otherwise d test chosen k) = finish (k (statement.If test chosen None))
finish (State.parameter_name x k) = finish (k (item x slot.Scalar))
finish (State.functions_next before) = some_functions before
finish _ = None

-- where a text begins
abbrev pub start : State
start = State.functions_next []

-- ---- a whole text

-- a token, and whether it opens one bracket more than may be open at once
pub record NestedToken : Type 0 where
  pub located : LocatedToken
  pub too_nested : Bool

-- The tokens behind others that have so many opening and so many closing brackets.
abbrev pub nested_tokens : (opened closed : ℕ) → List LocatedToken → List NestedToken
nested_tokens opened closed [] = []
nested_tokens opened closed (t ∷ tokens) =
    record { located = t; too_nested = is_opening t.token && nat_lt max_open_brackets (opened + 1 - closed) } ∷
    nested_tokens (if is_opening t.token then opened + 1 else opened) (if is_closing t.token then closed + 1 else closed) tokens

-- whether what is counted is within its limit
abbrev pub is_within : Quantity → Bool
is_within Quantity.nothing = true
is_within (Quantity.depth d) = nat_le d max_depth
is_within (Quantity.operators n) = nat_le n max_operators
is_within (Quantity.literal literal) = nat_le literal max_literal
is_within (Quantity.words n) = nat_lt 0 n && nat_le n max_array_words

-- a number that is beyond each limit, as the least such number
abbrev pub capped_token : Token → Token
capped_token (Token.number n) = Token.number (if nat_lt max_literal n then max_literal + 1 else n)
capped_token token = token

-- a token with its number capped
abbrev pub capped : LocatedToken → LocatedToken
capped t = record { token = capped_token t.token; at = t.at }

-- the tokens in front of the first byte that may not be read
abbrev pub readable : List LocatedToken → List LocatedToken
readable [] = []
readable (t ∷ tokens) = if nat_lt t.at max_source_bytes then t ∷ readable tokens else []

-- what a text is: these functions, or refused at this offset
pub data Answer : Type 0 where
  accepted : List (Function Name) → Answer
  refused : Refusal → Offset → Answer

module _ (length : ℕ) where
  -- the answer at the end of the tokens that may be read
  abbrev pub end_answer : Option (List (Function Name)) → Answer
  end_answer None = if nat_lt max_source_bytes length then refused Refusal.size max_source_bytes else refused Refusal.syntax_ length
  end_answer (Some functions) = if nat_lt max_source_bytes length then refused Refusal.size max_source_bytes else accepted functions

  -- the answer by what a token does
  abbrev pub token_answer : Next → (too_nested : Bool) → Offset → (State → Answer) → Answer
  token_answer stops too_nested at more = refused Refusal.syntax_ at
  token_answer (goes quantity next) too_nested at more =
      if is_within quantity && not too_nested then more next else refused Refusal.size at

  -- the answer to a text of this length, from a state on
  abbrev pub run : State → List NestedToken → Answer
  run s [] = end_answer (finish s)
  run s (t ∷ tokens) = token_answer (step s t.located.token t.located.at) t.too_nested t.located.at (λ next. run next tokens)

-- the answer to a text by its tokens and its length
abbrev pub text_answer : List LocatedToken → (length : ℕ) → Answer
text_answer tokens length = run length start (nested_tokens 0 0 (readable tokens))

-- what the answer to a text means: its functions, where no offset is refused, or the refused offset that is answered
abbrev pub IsAnswerTo : (bytes : List ℕ) → Answer → Type 0
IsAnswerTo bytes (accepted functions) = IsSourceOf bytes (record { functions = functions; length = length bytes }) × HasNoRefusal bytes
IsAnswerTo bytes (refused refusal at) = IsAnswer bytes refusal at
