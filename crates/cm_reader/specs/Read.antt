-- What it means that the reader's code reads a part of a program, by the machine that takes its tokens.
use Rattle.std.specs.Prelude.{◌≡◌, ℕ, nat_lt, Bool, true, false, List, [], ◌∷◌, ◌++◌, Option, None, Some, ⊤}
use Rattle.cm_syntax.specs.declared.name.Name.{Name}
use Rattle.cm_syntax.specs.declared.expr.Expr.{Expr}
use Rattle.cm_syntax.specs.declared.expr.Op.{Op}
use Rattle.cm_syntax.specs.declared.expr.Arg.{Arg}
use Rattle.cm_syntax.specs.declared.stmt.Item.{Item}
use Rattle.cm_syntax.specs.declared.stmt.Stmt.{Stmt}
use Rattle.cm_syntax.specs.declared.stmt.Stmt.TheVariants as statement
use Rattle.cm_syntax.specs.declared.stmt.Target.{Target}
use Rattle.cm_syntax.specs.declared.stmt.Function.{Function}
use Rattle.cm_syntax.specs.declared.token.Keyword.TheVariants as keyword
use Rattle.cm_syntax.specs.declared.token.Sign.TheVariants as sign
use Rattle.cm_syntax.specs.Token.{Token}
use Rattle.cm_syntax.specs.ParseTree.{Mark, Offset, level_of}
use Rattle.cm_syntax.specs.Yield.{Quantity}
use Rattle.cm_syntax.specs.Refusal.{Refusal}
use Rattle.cm_syntax.specs.Parser.{State, goes, stops, step, finish, is_within, run, Answer, refused, value, parenthesized, body, function_of}
use Rattle.cm_reader.specs.declared.token.LocatedToken.{LocatedToken}
use Rattle.cm_reader.specs.declared.refusal.ReadRefusal.{ReadRefusal}
use Rattle.cm_reader.specs.declared.refusal.ReadRefusal.TheVariants as refusal
use Rattle.cm_reader.specs.declared.simple.Simple.{Simple}
use Rattle.cm_reader.specs.declared.simple.Simple.TheVariants as simple
use Rattle.cm_reader.specs.Next.{token_of, nested, binary_operator}

-- the machine's answer to a text of this length, from a state on
abbrev pub answer : (length : ℕ) → State → List LocatedToken → Answer
answer length s tokens = run length s (nested tokens)

-- the refusal is the machine's answer, or there was no memory
abbrev pub IsRefusal : ReadRefusal → Answer → Type 0
IsRefusal (refusal.Syntax at) found = found ≡ refused Refusal.syntax_ at
IsRefusal (refusal.Size at) found = found ≡ refused Refusal.size at
IsRefusal refusal.Memory found = ⊤

-- A state that wants a part, and then what follows it, takes the tokens of this part up to the rest.
abbrev pub Reads : {A : Type 0} → (length : ℕ) → ((A → State) → State) → (tokens : List LocatedToken) → A → (rest : List LocatedToken) → Type 0
Reads {A = A} length part tokens tree rest = (k : A → State) → answer length (part k) tokens ≡ answer length (k tree) rest

-- A state that wants a part, and then what follows it, refuses the tokens so, whatever follows the part.
abbrev pub Refuses : {A : Type 0} → (length : ℕ) → ((A → State) → State) → (tokens : List LocatedToken) → ReadRefusal → Type 0
Refuses {A = A} length part tokens refusal = (k : A → State) → IsRefusal refusal (answer length (part k) tokens)

-- the same of an expression, which is handed on with the number of operators before what follows it
abbrev pub ReadsExpression : (length : ℕ) → ((Expr Name → ℕ → State) → State) → (tokens : List LocatedToken) → Expr Name → ℕ → (rest : List LocatedToken) → Type 0
ReadsExpression length part tokens tree n rest =
    (k : Expr Name → ℕ → State) → answer length (part k) tokens ≡ answer length (k tree n) rest

abbrev pub RefusesExpression : (length : ℕ) → ((Expr Name → ℕ → State) → State) → (tokens : List LocatedToken) → ReadRefusal → Type 0
RefusesExpression length part tokens refusal = (k : Expr Name → ℕ → State) → IsRefusal refusal (answer length (part k) tokens)

-- the state wants nothing that stands next
abbrev pub IsStuck : State → List LocatedToken → Type 0
IsStuck s [] = finish s ≡ None
IsStuck s (t ∷ tokens) = step s (token_of t.token) t.at ≡ stops

-- The next token leads from a state to the other one, and what is counted at it is within its limit or not.
abbrev pub Goes : State → List LocatedToken → (fits : Bool) → State → Type 0
Goes s [] fits next = ⊥
Goes s (t ∷ tokens) fits next = (q : Quantity) × (step s (token_of t.token) t.at ≡ goes q next) × (is_within q ≡ fits)

-- what a state does with a token that it wants to be a name
abbrev pub TakesNameToken : State → Token → (at : Offset) → (fits : Bool) → (Mark → State) → Type 0
TakesNameToken s (Token.name x) at fits k =
    (q : Quantity) × (step s (Token.name x) at ≡ goes q (k (record { name = x; at = at }))) × (is_within q ≡ fits)
TakesNameToken s token at fits k = step s token at ≡ stops

-- The state wants a name next, at which what is counted is within its limit or not.
abbrev pub TakesName : State → List LocatedToken → (fits : Bool) → (Mark → State) → Type 0
TakesName s [] fits k = finish s ≡ None
TakesName s (t ∷ tokens) fits k = TakesNameToken s (token_of t.token) t.at fits k

-- Every state that wants a name next, with this limit kept or not, takes this one.
abbrev pub ReadsName : (length : ℕ) → (tokens : List LocatedToken) → (fits : Bool) → Mark → (rest : List LocatedToken) → Type 0
ReadsName length tokens fits x rest =
    (s : State) (k : Mark → State) → TakesName s tokens fits k → answer length s tokens ≡ answer length (k x) rest

-- Every state that wants a name next, with this limit kept or not, refuses the tokens so.
abbrev pub RefusesName : (length : ℕ) → (tokens : List LocatedToken) → (fits : Bool) → ReadRefusal → Type 0
RefusesName length tokens fits refusal = (s : State) (k : Mark → State) → TakesName s tokens fits k → IsRefusal refusal (answer length s tokens)

-- ---- expressions

-- this operator, of at least this level, stands next
abbrev pub IsOperator : (level : ℕ) → Op → List LocatedToken → Type 0
IsOperator level o tokens = (binary_operator tokens ≡ Some o) × (nat_lt (level_of o) level ≡ false)

-- no operator of at least this level stands next
abbrev pub NoOperator : (level : ℕ) → List LocatedToken → Type 0
NoOperator level tokens = (o : Op) → binary_operator tokens ≡ Some o → nat_lt (level_of o) level ≡ true

-- An operand without unary operators is read, however many operators stand before it.
abbrev pub ReadsPrimary : (length : ℕ) → (tokens : List LocatedToken) → Expr Name → (rest : List LocatedToken) → Type 0
ReadsPrimary length tokens tree rest = (n : ℕ) → ReadsExpression length (State.operand n) tokens tree n rest

abbrev pub RefusesPrimary : (length : ℕ) → (tokens : List LocatedToken) → ReadRefusal → Type 0
RefusesPrimary length tokens refusal = (n : ℕ) → RefusesExpression length (State.operand n) tokens refusal

-- What follows a name in an expression is read, however many operators stand before it.
abbrev pub ReadsNamed : (length : ℕ) → Mark → (tokens : List LocatedToken) → Expr Name → (rest : List LocatedToken) → Type 0
ReadsNamed length x tokens tree rest = (n : ℕ) → ReadsExpression length (State.operand_name x n) tokens tree n rest

abbrev pub RefusesNamed : (length : ℕ) → Mark → (tokens : List LocatedToken) → ReadRefusal → Type 0
RefusesNamed length x tokens refusal = (n : ℕ) → RefusesExpression length (State.operand_name x n) tokens refusal

-- An argument is read behind others.
abbrev pub ReadsArgument : (length : ℕ) → (tokens : List LocatedToken) → Arg Name → (rest : List LocatedToken) → Type 0
ReadsArgument length tokens tree rest =
    (before : List (Arg Name)) (k : List (Arg Name) → State) →
    answer length (State.next_argument before k) tokens ≡ answer length (State.more_arguments (before ++ tree ∷ []) k) rest

abbrev pub RefusesArgument : (length : ℕ) → (tokens : List LocatedToken) → ReadRefusal → Type 0
RefusesArgument length tokens refusal =
    (before : List (Arg Name)) (k : List (Arg Name) → State) → IsRefusal refusal (answer length (State.next_argument before k) tokens)

-- a name between parentheses
abbrev pub parenthesized_name : (Mark → State) → State
parenthesized_name k = State.sign_next sign.ParenOpen (State.name_next (λ x. State.sign_next sign.ParenClose (k x)))

-- ---- declarations, assignments and calls

-- the statement that an assignment or a call is
abbrev pub statement_of : Simple → Stmt Name
statement_of (simple.Assign target o e) = statement.Assign target o e
statement_of (simple.Call call) = statement.Call call

-- a declarator
abbrev pub item_next : (Item Name → State) → State
item_next k = State.name_next (λ x. State.item_name x k)

-- What follows the target of an assignment is read, whatever the target is: the operator of an update, or none, and the value.
abbrev pub ReadsWriting : (length : ℕ) → (tokens : List LocatedToken) → Option Op → Expr Name → (rest : List LocatedToken) → Type 0
ReadsWriting length tokens o e rest = (written : Target Name) → Reads length (State.writing written) tokens (statement.Assign written o e) rest

abbrev pub RefusesWriting : (length : ℕ) → (tokens : List LocatedToken) → ReadRefusal → Type 0
RefusesWriting length tokens refusal = (written : Target Name) → Refuses length (State.writing written) tokens refusal

-- An assignment or a call is read, where what is counted at its first token is within its limit or not.
abbrev pub ReadsSimple : (length : ℕ) → (fits : Bool) → (tokens : List LocatedToken) → Stmt Name → (rest : List LocatedToken) → Type 0
ReadsSimple length fits tokens tree rest = (q : Quantity) → is_within q ≡ fits → Reads length (State.simple q) tokens tree rest

abbrev pub RefusesSimple : (length : ℕ) → (fits : Bool) → (tokens : List LocatedToken) → ReadRefusal → Type 0
RefusesSimple length fits tokens refusal = (q : Quantity) → is_within q ≡ fits → Refuses length (State.simple q) tokens refusal

-- ---- statements

-- A statement without statements in it is read, whatever the depth of statements in it would be.
abbrev pub ReadsFlat : (length depth : ℕ) → (tokens : List LocatedToken) → Stmt Name → (rest : List LocatedToken) → Type 0
ReadsFlat length depth tokens tree rest = (inner : ℕ) → Reads length (State.plain depth inner) tokens tree rest

abbrev pub RefusesFlat : (length depth : ℕ) → (tokens : List LocatedToken) → ReadRefusal → Type 0
RefusesFlat length depth tokens refusal = (inner : ℕ) → Refuses length (State.plain depth inner) tokens refusal

-- A statement of a block is read behind others.
abbrev pub ReadsStatement : (length depth : ℕ) → (tokens : List LocatedToken) → Stmt Name → (rest : List LocatedToken) → Type 0
ReadsStatement length depth tokens tree rest =
    (before : List (Stmt Name)) (k : List (Stmt Name) → Offset → State) →
    answer length (State.statements depth before k) tokens ≡ answer length (State.statements depth (before ++ tree ∷ []) k) rest

abbrev pub RefusesStatement : (length depth : ℕ) → (tokens : List LocatedToken) → ReadRefusal → Type 0
RefusesStatement length depth tokens refusal =
    (before : List (Stmt Name)) (k : List (Stmt Name) → Offset → State) → IsRefusal refusal (answer length (State.statements depth before k) tokens)

-- The statements of a block and the offset of its `}` are read.
abbrev pub ReadsBlock : (length depth : ℕ) → (tokens : List LocatedToken) → List (Stmt Name) → Offset → (rest : List LocatedToken) → Type 0
ReadsBlock length depth tokens inside close rest =
    (k : List (Stmt Name) → Offset → State) → answer length (State.statements depth [] k) tokens ≡ answer length (k inside close) rest

abbrev pub RefusesBlock : (length depth : ℕ) → (tokens : List LocatedToken) → ReadRefusal → Type 0
RefusesBlock length depth tokens refusal =
    (k : List (Stmt Name) → Offset → State) → IsRefusal refusal (answer length (State.statements depth [] k) tokens)

-- What follows an `if` with this condition and this statement is read: its `else`, where there is one.
abbrev pub ReadsOther : (length depth : ℕ) → (tokens : List LocatedToken) → Option (Stmt Name) → (rest : List LocatedToken) → Type 0
ReadsOther length depth tokens other rest =
    (test : Expr Name) (chosen : Stmt Name) (k : Stmt Name → State) →
    answer length (State.otherwise depth test chosen k) tokens ≡ answer length (k (statement.If test chosen other)) rest

abbrev pub RefusesOther : (length depth : ℕ) → (tokens : List LocatedToken) → ReadRefusal → Type 0
RefusesOther length depth tokens refusal =
    (test : Expr Name) (chosen : Stmt Name) (k : Stmt Name → State) → IsRefusal refusal (answer length (State.otherwise depth test chosen k) tokens)

-- The statement of an `if` with this condition is read, and its `else`, where there is one.
abbrev pub ReadsBranches : (length depth : ℕ) → (tokens : List LocatedToken) → Stmt Name → Option (Stmt Name) → (rest : List LocatedToken) → Type 0
ReadsBranches length depth tokens chosen other rest =
    (test : Expr Name) (k : Stmt Name → State) →
    answer length (body depth (λ chosen. State.otherwise depth test chosen k)) tokens ≡ answer length (k (statement.If test chosen other)) rest

abbrev pub RefusesBranches : (length depth : ℕ) → (tokens : List LocatedToken) → ReadRefusal → Type 0
RefusesBranches length depth tokens refusal =
    (test : Expr Name) (k : Stmt Name → State) → IsRefusal refusal (answer length (body depth (λ chosen. State.otherwise depth test chosen k)) tokens)

-- what follows the word `if`
abbrev pub if_parts : (d : ℕ) → (Stmt Name → State) → State
if_parts d k = parenthesized (λ test. body d (λ chosen. State.otherwise d test chosen k))

-- the first part of a `for`, between `(` and `;`
abbrev pub first_turn : (Stmt Name → State) → State
first_turn k = State.sign_next sign.ParenOpen (State.first_part (λ first. State.sign_next sign.Semicolon (k first)))

-- its condition, if there is one, and `;`
abbrev pub turn_test : (Option (Expr Name) → State) → State
turn_test k = State.optional_value (λ test. State.sign_next sign.Semicolon (k test))

-- its last part, and `)`
abbrev pub last_turn : (Stmt Name → State) → State
last_turn k = State.last_part (λ last. State.sign_next sign.ParenClose (k last))

-- what stands between `for` and its body
abbrev pub turns : (Stmt Name → Option (Expr Name) → Stmt Name → State) → State
turns k = first_turn (λ first. turn_test (λ test. last_turn (λ last. k first test last)))

abbrev pub ReadsTurns : (length : ℕ) → (tokens : List LocatedToken) → Stmt Name → Option (Expr Name) → Stmt Name → (rest : List LocatedToken) → Type 0
ReadsTurns length tokens first test last rest =
    (k : Stmt Name → Option (Expr Name) → Stmt Name → State) → answer length (turns k) tokens ≡ answer length (k first test last) rest

abbrev pub RefusesTurns : (length : ℕ) → (tokens : List LocatedToken) → ReadRefusal → Type 0
RefusesTurns length tokens refusal = (k : Stmt Name → Option (Expr Name) → Stmt Name → State) → IsRefusal refusal (answer length (turns k) tokens)

-- the array of a `split` and the words of its left part, up to the word `as`
abbrev pub split_place : (Mark → Expr Name → State) → State
split_place k = State.name_next (λ whole. State.word_next keyword.At (value (λ e. State.word_next keyword.As (k whole e))))

abbrev pub ReadsPlace : (length : ℕ) → (tokens : List LocatedToken) → Mark → Expr Name → (rest : List LocatedToken) → Type 0
ReadsPlace length tokens whole e rest = (k : Mark → Expr Name → State) → answer length (split_place k) tokens ≡ answer length (k whole e) rest

abbrev pub RefusesPlace : (length : ℕ) → (tokens : List LocatedToken) → ReadRefusal → Type 0
RefusesPlace length tokens refusal = (k : Mark → Expr Name → State) → IsRefusal refusal (answer length (split_place k) tokens)

-- the names of the two parts, and `{`
abbrev pub part_names : (Mark → Mark → State) → State
part_names k = State.name_next (λ left. State.sign_next sign.Comma (State.name_next (λ right. State.sign_next sign.BraceOpen (k left right))))

abbrev pub ReadsNames : (length : ℕ) → (tokens : List LocatedToken) → Mark → Mark → (rest : List LocatedToken) → Type 0
ReadsNames length tokens left right rest = (k : Mark → Mark → State) → answer length (part_names k) tokens ≡ answer length (k left right) rest

abbrev pub RefusesNames : (length : ℕ) → (tokens : List LocatedToken) → ReadRefusal → Type 0
RefusesNames length tokens refusal = (k : Mark → Mark → State) → IsRefusal refusal (answer length (part_names k) tokens)

-- what stands between `split` and its block
abbrev pub parts : (Mark → Expr Name → Mark → Mark → State) → State
parts k = split_place (λ whole e. part_names (λ left right. k whole e left right))

abbrev pub ReadsParts : (length : ℕ) → (tokens : List LocatedToken) → Mark → Expr Name → Mark → Mark → (rest : List LocatedToken) → Type 0
ReadsParts length tokens whole e left right rest =
    (k : Mark → Expr Name → Mark → Mark → State) → answer length (parts k) tokens ≡ answer length (k whole e left right) rest

abbrev pub RefusesParts : (length : ℕ) → (tokens : List LocatedToken) → ReadRefusal → Type 0
RefusesParts length tokens refusal = (k : Mark → Expr Name → Mark → Mark → State) → IsRefusal refusal (answer length (parts k) tokens)

-- ---- functions

-- The mark of a function is read, where there is one.
abbrev pub ReadsMark : (length : ℕ) → (tokens : List LocatedToken) → Bool → (rest : List LocatedToken) → Type 0
ReadsMark length tokens cilk rest =
    (k : Function Name → State) → answer length (State.function_next k) tokens ≡ answer length (State.return_type (λ gives. function_of cilk gives k)) rest

abbrev pub RefusesMark : (length : ℕ) → (tokens : List LocatedToken) → ReadRefusal → Type 0
RefusesMark length tokens refusal = (k : Function Name → State) → IsRefusal refusal (answer length (State.function_next k) tokens)

-- a parameter
abbrev pub parameter_next : (Item Name → State) → State
parameter_next k = State.word_next keyword.Int (State.parameter_declarator k)

-- one parameter or more, and `)`
abbrev pub some_parameters : (List (Item Name) → State) → State
some_parameters k = parameter_next (λ one. State.more_parameters (one ∷ []) k)
