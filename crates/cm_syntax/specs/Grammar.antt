-- The grammar: which tokens are an expression, a call, a declaration, a statement, a function or a program, and of
-- which tree. Each relation has its nonterminal in docs/LANGUAGE.md; `Trees.antt` has the alternatives.
use Rattle.std.specs.Prelude.{◌≡◌, ℕ, ◌≤◌, Bool, List, [], ◌∷◌, ◌++◌, length}
use Rattle.cm_syntax.specs.declared.name.Name.{Name}
use Rattle.cm_syntax.specs.declared.expr.Expr.{Expr}
use Rattle.cm_syntax.specs.declared.expr.Arg.{Arg}
use Rattle.cm_syntax.specs.declared.expr.Call.{Call}
use Rattle.cm_syntax.specs.declared.stmt.Item.{Item}
use Rattle.cm_syntax.specs.declared.stmt.Target.{Target}
use Rattle.cm_syntax.specs.declared.stmt.Stmt.{Stmt}
use Rattle.cm_syntax.specs.declared.stmt.Function.{Function}
use Rattle.cm_syntax.specs.declared.stmt.Tree.{Tree}
use Rattle.cm_syntax.specs.declared.token.Sign.TheVariants as sign
use Rattle.cm_syntax.specs.Token.{Token, LocatedToken, token_at, Tokens}
use Rattle.cm_syntax.specs.ParseTree.{primary_level, Expression, Argument, Declaration, Simple, Plain, Statements, Parameter, Parameters}
use Rattle.cm_syntax.specs.ParseTree as grammar
use Rattle.cm_syntax.specs.Yield.{nothing, expression_tokens, call_tokens, argument_tokens, item_tokens, items_tokens, declaration_tokens, target_tokens, simple_tokens, plain_tokens, statements_tokens, parameter_tokens, parameters_tokens, function_tokens, program_tokens, located_tokens}
use Rattle.cm_syntax.specs.Lowering.{lower_expression, lower_call, lower_argument, lower_item, lower_items, lower_declaration, lower_target, lower_simple, lower_plain, lower_statements, lower_parameter, lower_parameters, lower_function, lower_program}

-- an expression whose operators outside of brackets have this level or a higher one
abbrev pub IsExpression : (level : ℕ) → List LocatedToken → Expr Name → Type 0
IsExpression level tokens tree =
    (own : ℕ) × (level ≤ own) × (parse : Expression own) × (located_tokens (expression_tokens 0 parse) ≡ tokens) × (lower_expression parse ≡ tree)

-- an expression that stands by itself: no operator is outside of its brackets
abbrev pub IsPrimary : List LocatedToken → Expr Name → Type 0
IsPrimary tokens tree = IsExpression primary_level tokens tree

abbrev pub IsArgument : List LocatedToken → Arg Name → Type 0
IsArgument tokens tree = (parse : Argument) × (located_tokens (argument_tokens parse) ≡ tokens) × (lower_argument parse ≡ tree)

abbrev pub IsCall : List LocatedToken → Call Name → Type 0
IsCall tokens tree = (parse : grammar.Call) × (located_tokens (call_tokens parse) ≡ tokens) × (lower_call parse ≡ tree)

abbrev pub IsItem : List LocatedToken → Item Name → Type 0
IsItem tokens tree = (parse : grammar.Item) × (located_tokens (item_tokens parse) ≡ tokens) × (lower_item parse ≡ tree)

-- what follows the `int` of a declaration, up to its semicolon
abbrev pub AreItems : List LocatedToken → List (Item Name) → Type 0
AreItems tokens items = (parse : grammar.Items) × (located_tokens (items_tokens parse) ≡ tokens) × (lower_items parse ≡ items)

-- a declaration, without its semicolon
abbrev pub IsDeclaration : List LocatedToken → Stmt Name → Type 0
IsDeclaration tokens tree = (parse : Declaration) × (located_tokens (declaration_tokens nothing parse) ≡ tokens) × (lower_declaration parse ≡ tree)

abbrev pub IsTarget : List LocatedToken → Target Name → Type 0
IsTarget tokens tree = (parse : grammar.Target) × (located_tokens (target_tokens nothing parse) ≡ tokens) × (lower_target parse ≡ tree)

-- an assignment or a call, without its semicolon
abbrev pub IsSimple : List LocatedToken → Stmt Name → Type 0
IsSimple tokens tree = (parse : Simple) × (located_tokens (simple_tokens nothing parse) ≡ tokens) × (lower_simple parse ≡ tree)

-- a statement that may be a body; it is open where it ends with an `if` that has no `else`
abbrev pub IsPlain : (is_open : Bool) → List LocatedToken → Stmt Name → Type 0
IsPlain is_open tokens tree = (parse : Plain is_open) × (located_tokens (plain_tokens 0 0 parse) ≡ tokens) × (lower_plain parse ≡ tree)

-- the statements between the braces of a block
abbrev pub AreStatements : List LocatedToken → List (Stmt Name) → Type 0
AreStatements tokens trees = (parse : Statements) × (located_tokens (statements_tokens 0 parse) ≡ tokens) × (lower_statements parse ≡ trees)

-- one of them, a declaration with its semicolon or a statement that may be a body
abbrev pub IsStatement : List LocatedToken → Stmt Name → Type 0
IsStatement tokens tree = AreStatements tokens (tree ∷ [])

-- the statements with the braces round them
pub record IsBlock (tokens : List LocatedToken) (trees : List (Stmt Name)) : Type 0 where
  pub opening : ℕ
  pub closing : ℕ
  pub inside : List LocatedToken
  pub statements : AreStatements inside trees
  pub parts : tokens ≡ token_at (Token.sign sign.BraceOpen) opening ∷ (inside ++ token_at (Token.sign sign.BraceClose) closing ∷ [])

abbrev pub IsParameter : List LocatedToken → Item Name → Type 0
IsParameter tokens tree = (parse : Parameter) × (located_tokens (parameter_tokens parse) ≡ tokens) × (lower_parameter parse ≡ tree)

-- what stands between the parentheses of a function's head
abbrev pub AreParameters : List LocatedToken → List (Item Name) → Type 0
AreParameters tokens items = (parse : Parameters) × (located_tokens (parameters_tokens parse) ≡ tokens) × (lower_parameters parse ≡ items)

abbrev pub IsFunction : List LocatedToken → Function Name → Type 0
IsFunction tokens tree = (parse : grammar.Function) × (located_tokens (function_tokens parse) ≡ tokens) × (lower_function parse ≡ tree)

-- the tokens are a program of these functions
abbrev pub Parses : List LocatedToken → List (Function Name) → Type 0
Parses tokens functions = (parse : grammar.Program) × (located_tokens (program_tokens parse) ≡ tokens) × (lower_program parse ≡ functions)

-- the bytes are a source text of this tree
abbrev pub IsSourceOf : (bytes : List ℕ) → Tree → Type 0
IsSourceOf bytes tree = (tokens : List LocatedToken) × Tokens 0 bytes tokens × Parses tokens tree.functions × (tree.length ≡ length bytes)
