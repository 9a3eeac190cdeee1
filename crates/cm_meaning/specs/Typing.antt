-- Well-typed programs. Every variable that is read was set before, on whatever way the run came there, and is of the
-- kind that its place wants; operators and calls have the operands and arguments that they want, and a function
-- returns a value exactly where it is to give one.
use Rattle.std.specs.Prelude.{◌≡◌, ℕ, zero, suc, Bool, true, false, not, ◌&&◌, Option, None, Some, List, [], ◌∷◌, ◌++◌, length, slice_get, Contains, is_some}
use Rattle.cm_syntax.specs.declared.expr.Mark.{Mark}
use Rattle.cm_syntax.specs.declared.expr.Op.{Op}
use Rattle.cm_syntax.specs.declared.expr.Expr.{Expr}
use Rattle.cm_syntax.specs.declared.expr.Expr.TheVariants as expression
use Rattle.cm_syntax.specs.declared.expr.Arg.TheVariants as arg
use Rattle.cm_syntax.specs.declared.expr.Call.{Row_of-Arg, end_of-Arg, more_of-Arg}
use Rattle.cm_syntax.specs.declared.stmt.Slot.{Slot}
use Rattle.cm_syntax.specs.declared.stmt.Slot.TheVariants as slot
use Rattle.cm_syntax.specs.declared.stmt.Item as items
use Rattle.cm_syntax.specs.declared.stmt.Target as target
use Rattle.cm_syntax.specs.declared.stmt.Target.TheVariants as targets
use Rattle.cm_syntax.specs.declared.stmt.Stmt.{Stmt, Row_of-Stmt, end_of-Stmt, more_of-Stmt}
use Rattle.cm_syntax.specs.declared.stmt.Stmt.TheVariants as statement
use Rattle.cm_syntax.specs.declared.stmt.Function.{Function}
use Rattle.cm_syntax.specs.declared.stmt.Program.{Program}
use Rattle.cm_syntax.specs.Shape.{Joined, Prefixed, Element, InputAt, IfAlone, IfElse, WhileLoop, ForLoop}
use Rattle.cm_syntax.specs.Frame.{is_short_circuit}
use Rattle.cm_syntax.specs.ParseTree.{is_unary}
use Rattle.cm_syntax.specs.Fault.{parameter_slots}

-- ---- operators and kinds

-- an operator with two operands, both of which are always evaluated
abbrev pub is_arithmetic : Op → Bool
is_arithmetic o = not (is_unary o) && not (is_short_circuit o)

-- the operator of an update, if there is one
abbrev pub IsUpdate : Option Op → Type 0
IsUpdate None = Unit {0}
IsUpdate (Some o) = is_arithmetic o ≡ true

-- an array or a slice
abbrev pub IsRow : Option Slot → Type 0
IsRow None = ⊥
IsRow (Some slot.Scalar) = ⊥
IsRow (Some (slot.Array words)) = Unit {0}
IsRow (Some slot.Slice) = Unit {0}

-- a scalar or a slice, as parameters are
abbrev pub IsParameter : Slot → Type 0
IsParameter slot.Scalar = Unit {0}
IsParameter (slot.Array words) = ⊥
IsParameter slot.Slice = Unit {0}

-- the function is there, and where a value is wanted it gives one
abbrev pub GivesWanted : (wanted : Bool) → Option (Function ℕ) → Type 0
GivesWanted wanted None = ⊥
GivesWanted true (Some function) = function.gives ≡ true
GivesWanted false (Some function) = Unit {0}

-- what the parameters of a function are
abbrev pub parameters_in : Option (Function ℕ) → List Slot
parameters_in None = []
parameters_in (Some function) = parameter_slots function

-- ---- what is set

-- behind the items of a declaration
abbrev pub set_by_items : (set : List ℕ) → List (items.Item ℕ) → List ℕ
set_by_items set [] = set
set_by_items set (x ∷ more) = set_by_items (x.name.name ∷ set) more

-- behind a statement of the same block
abbrev pub set_behind : (set : List ℕ) → Stmt ℕ → List ℕ
set_behind set (statement.Declare row) = set_by_items set row
set_behind set _ = set

-- ---- expressions and statements of a function with these slots; `set` are the slots that were set

module _ (functions : List (Function ℕ)) (slots : List Slot) where
  -- a scalar that was set
  abbrev pub IsSetScalar : (set : List ℕ) → (x : ℕ) → Type 0
  IsSetScalar set x = Contains set x × (slice_get slots x ≡ Some slot.Scalar)

  -- an array or a slice that was set
  abbrev pub IsSetRow : (set : List ℕ) → (a : ℕ) → Type 0
  IsSetRow set a = Contains set a × IsRow (slice_get slots a)

  abbrev mutual
    pub TypedExpression : (set : List ℕ) → Expr ℕ → Type 0
    TypedExpression set (expression.Number n) = Unit {0}
    TypedExpression set (expression.Scalar x) = IsSetScalar set x.name
    TypedExpression set (Element a place) = IsSetRow set a.name × TypedExpression set place
    TypedExpression set (expression.Len a) = IsSetRow set a.name
    TypedExpression set (InputAt place) = TypedExpression set place
    TypedExpression set expression.Inputs = Unit {0}
    TypedExpression set (Prefixed o e) = (is_unary o ≡ true) × TypedExpression set e
    TypedExpression set (Joined o l r) = (is_unary o ≡ false) × TypedExpression set l × TypedExpression set r
    TypedExpression set (expression.Call' f _ row) =
        GivesWanted true (slice_get functions f.name) × TypedArguments set (parameters_in (slice_get functions f.name)) row

    -- arguments for these parameters
    pub TypedArguments : (set : List ℕ) → (parameters : List Slot) → {n : _} → Row_of-Arg ℕ n → Type 0
    TypedArguments set parameters end_of-Arg = parameters ≡ []
    TypedArguments set (slot.Scalar ∷ parameters) (more_of-Arg (arg.Value e) more) = TypedExpression set e × TypedArguments set parameters more
    TypedArguments set (slot.Slice ∷ parameters) (more_of-Arg (arg.Slice a) more) = IsSetRow set a.name × TypedArguments set parameters more
    TypedArguments set (slot.Slice ∷ parameters) (more_of-Arg (arg.Address x) more) = IsSetScalar set x.name × TypedArguments set parameters more
    TypedArguments set _ (more_of-Arg _ more) = ⊥

  -- an expression that may not be there
  abbrev pub TypedOptional : (set : List ℕ) → Option (Expr ℕ) → Type 0
  TypedOptional set None = Unit {0}
  TypedOptional set (Some e) = TypedExpression set e

  -- A call of which a value may be wanted, as a statement or spawned. It comes as an expression.
  abbrev pub TypedInvocation : (set : List ℕ) → (wanted : Bool) → Expr ℕ → Type 0
  TypedInvocation set wanted (expression.Call' f _ row) =
      GivesWanted wanted (slice_get functions f.name) × TypedArguments set (parameters_in (slice_get functions f.name)) row
  TypedInvocation set wanted _ = ⊥

  -- a declared variable: a scalar perhaps with a value, or an array
  abbrev pub TypedItem : (set : List ℕ) → Slot → Option (Expr ℕ) → Type 0
  TypedItem set slot.Scalar first = TypedOptional set first
  TypedItem set (slot.Array words) first = Unit {0}
  TypedItem set slot.Slice first = ⊥

  -- the items of a declaration, each of which is set behind its value
  abbrev pub TypedItems : (set : List ℕ) → List (items.Item ℕ) → Type 0
  TypedItems set [] = Unit {0}
  TypedItems set (x ∷ more) =
      (slice_get slots x.name.name ≡ Some x.slot) × TypedItem set x.slot x.first × TypedItems (x.name.name ∷ set) more

  -- the destination of a spawn, if it has one
  abbrev pub TypedDestination : (set : List ℕ) → Option (Mark ℕ) → Type 0
  TypedDestination set None = Unit {0}
  TypedDestination set (Some x) = IsSetScalar set x.name

  -- what an assignment writes
  abbrev pub TypedTarget : (set : List ℕ) → target.Target ℕ → Type 0
  TypedTarget set (targets.Scalar x) = IsSetScalar set x.name
  TypedTarget set (targets.Index a place) = IsSetRow set a.name × TypedExpression set place

  module _ (gives : Bool) where
    -- a `return` with a value, or without one
    abbrev pub TypedReturn : (set : List ℕ) → Option (Expr ℕ) → Type 0
    TypedReturn set None = gives ≡ false
    TypedReturn set (Some e) = (gives ≡ true) × TypedExpression set e

    abbrev mutual
      -- a statement of a function, which may give a value
      pub TypedStatement : (set : List ℕ) → Stmt ℕ → Type 0
      TypedStatement set statement.Empty = Unit {0}
      TypedStatement set (statement.Declare row) = TypedItems set row
      TypedStatement set (statement.Assign written o e) = TypedTarget set written × IsUpdate o × TypedExpression set e
      TypedStatement set (statement.Call call) = TypedInvocation set false (expression.Call call)
      TypedStatement set (statement.Spawn at x call) = TypedDestination set x × TypedInvocation set (is_some x) (expression.Call call)
      TypedStatement set (statement.Sync at) = Unit {0}
      TypedStatement set (IfAlone t s) = TypedExpression set t × TypedStatement set s
      TypedStatement set (IfElse t s o) = TypedExpression set t × TypedStatement set s × TypedStatement set o
      TypedStatement set (WhileLoop t b) = TypedExpression set t × TypedStatement set b
      TypedStatement set (ForLoop first t s b) = TypedStatement set first × TypedOptional (set_behind set first) t
          × TypedStatement (set_behind set first) s × TypedStatement (set_behind set first) b
      TypedStatement set (statement.Split' whole place l r _ row close) = IsSetRow set whole.name × TypedExpression set place
          × (slice_get slots l.name ≡ Some slot.Slice) × (slice_get slots r.name ≡ Some slot.Slice)
          × TypedSequence (r.name ∷ l.name ∷ set) row
      TypedStatement set (statement.Return at e) = TypedReturn set e
      TypedStatement set (statement.Print e) = TypedExpression set e
      TypedStatement set (statement.Block' _ row) = TypedSequence set row

      -- the statements of a block
      pub TypedSequence : (set : List ℕ) → {n : _} → Row_of-Stmt ℕ n → Type 0
      TypedSequence set end_of-Stmt = Unit {0}
      TypedSequence set (more_of-Stmt first more) = TypedStatement set first × TypedSequence (set_behind set first) more

    -- the statements of a function's body
    abbrev pub TypedBody : (set : List ℕ) → List (Stmt ℕ) → Type 0
    TypedBody set [] = Unit {0}
    TypedBody set (first ∷ more) = TypedStatement set first × TypedBody (set_behind set first) more

-- ---- functions and programs

-- the numbers below this one
abbrev pub numbers_below : ℕ → List ℕ
numbers_below zero = []
numbers_below (suc n) = n ∷ numbers_below n

-- A function, whose first slots are its parameters.
pub record TypedFunction (functions : List (Function ℕ)) (function : Function ℕ) : Type 0 where
  pub others : List Slot
  pub slots : function.slots ≡ parameter_slots function ++ others
  pub parameters : (kind : Slot) → Contains (parameter_slots function) kind → IsParameter kind
  pub body : TypedBody functions function.slots function.gives (numbers_below (length function.parameters)) function.body

-- A program, whose main takes nothing and gives a value.
pub record TypedProgram (program : Program) : Type 0 where
  pub functions : (index : ℕ) (function : Function ℕ) → slice_get program.functions index ≡ Some function
      → TypedFunction program.functions function
  pub main : Function ℕ
  pub is_main : slice_get program.functions program.main ≡ Some main
  pub main_takes : main.parameters ≡ []
  pub main_gives : main.gives ≡ true
