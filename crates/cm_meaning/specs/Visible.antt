-- Which variables the text of a function mentions: none that a split hides, and no slice but a parameter or a part of a
-- split round it. So what two mentioned names stand for never overlaps, unless one name is the other.
use Rattle.std.specs.Prelude.{◌≡◌, ℕ, ◌<◌, ◌⊎◌, Option, None, Some, List, [], ◌∷◌, length, slice_get}
use Rattle.cm_syntax.specs.declared.expr.Mark.{Mark}
use Rattle.cm_syntax.specs.declared.expr.Expr.{Expr}
use Rattle.cm_syntax.specs.declared.expr.Expr.TheVariants as expression
use Rattle.cm_syntax.specs.declared.expr.Arg.{Arg}
use Rattle.cm_syntax.specs.declared.expr.Arg.TheVariants as argument
use Rattle.cm_syntax.specs.declared.expr.Call.{Row_of-Arg, end_of-Arg, more_of-Arg}
use Rattle.cm_syntax.specs.declared.stmt.Slot.{Slot}
use Rattle.cm_syntax.specs.declared.stmt.Slot.TheVariants as slot
use Rattle.cm_syntax.specs.declared.stmt.Item.{Item}
use Rattle.cm_syntax.specs.declared.stmt.Target.{Target}
use Rattle.cm_syntax.specs.declared.stmt.Target.TheVariants as target
use Rattle.cm_syntax.specs.declared.stmt.Stmt.{Stmt, Row_of-Stmt, end_of-Stmt, more_of-Stmt}
use Rattle.cm_syntax.specs.declared.stmt.Stmt.TheVariants as statement
use Rattle.cm_syntax.specs.declared.stmt.Function.{Function}
use Rattle.cm_syntax.specs.declared.stmt.Program.{Program}
use Rattle.cm_syntax.specs.Shape.{Joined, Prefixed, Element, InputAt, IfAlone, IfElse, WhileLoop, ForLoop}

-- a number stands in the list
abbrev pub Among : List ℕ → ℕ → Type 0
Among [] x = ⊥
Among (y ∷ ys) x = (y ≡ x) ⊎ Among ys x

-- `known` are the slots of the slices that were named, and `hidden` those of the wholes of the splits round a place; a
-- variable isn't hidden there
abbrev pub IsOpen : (hidden : List ℕ) → (x : ℕ) → Type 0
IsOpen hidden x = Among hidden x → ⊥

-- the slots of the parts of a split are new
pub record IsFresh (known hidden : List ℕ) (whole left right : ℕ) : Type 0 where
  pub left_unknown : Among known left → ⊥
  pub right_unknown : Among known right → ⊥
  pub left_open : Among (whole ∷ hidden) left → ⊥
  pub right_open : Among (whole ∷ hidden) right → ⊥
  pub apart : left ≡ right → ⊥

module _ (slots : List Slot) where
  -- it isn't hidden, and if it is a slice it was named
  pub record IsVisible (known hidden : List ℕ) (x : ℕ) : Type 0 where
    pub named : slice_get slots x ≡ Some slot.Slice → Among known x
    pub open_ : IsOpen hidden x

  module _ (known hidden : List ℕ) where
    abbrev mutual
      -- all that an expression mentions is visible
      pub SeesExpression : Expr ℕ → Type 0
      SeesExpression (expression.Number n) = Unit {0}
      SeesExpression (expression.Scalar x) = IsOpen hidden x.name
      SeesExpression (Element a place) = IsVisible known hidden a.name × SeesExpression place
      SeesExpression (expression.Len a) = IsVisible known hidden a.name
      SeesExpression (InputAt place) = SeesExpression place
      SeesExpression expression.Inputs = Unit {0}
      SeesExpression (Prefixed o e) = SeesExpression e
      SeesExpression (Joined o l r) = SeesExpression l × SeesExpression r
      SeesExpression (expression.Call' f _ row) = SeesArguments row

      pub SeesArguments : {n : _} → Row_of-Arg ℕ n → Type 0
      SeesArguments end_of-Arg = Unit {0}
      SeesArguments (more_of-Arg first more) = SeesArgument first × SeesArguments more

      pub SeesArgument : Arg ℕ → Type 0
      SeesArgument (argument.Value e) = SeesExpression e
      SeesArgument (argument.Slice a) = IsVisible known hidden a.name
      SeesArgument (argument.Address x) = IsOpen hidden x.name

    abbrev pub SeesOptional : Option (Expr ℕ) → Type 0
    SeesOptional None = Unit {0}
    SeesOptional (Some e) = SeesExpression e

    -- the value of a scalar; an array has none
    abbrev pub SeesItem : Slot → Option (Expr ℕ) → Type 0
    SeesItem slot.Scalar first = SeesOptional first
    SeesItem (slot.Array words) first = Unit {0}
    SeesItem slot.Slice first = Unit {0}

    abbrev pub SeesItems : List (Item ℕ) → Type 0
    SeesItems [] = Unit {0}
    SeesItems (x ∷ more) = IsOpen hidden x.name.name × SeesItem x.slot x.first × SeesItems more

    abbrev pub SeesTarget : Target ℕ → Type 0
    SeesTarget (target.Scalar x) = IsOpen hidden x.name
    SeesTarget (target.Index a place) = IsVisible known hidden a.name × SeesExpression place

    abbrev pub SeesDestination : Option (Mark ℕ) → Type 0
    SeesDestination None = Unit {0}
    SeesDestination (Some x) = IsOpen hidden x.name

  abbrev mutual
    -- all that a statement mentions is visible
    pub SeesStatement : (known hidden : List ℕ) → Stmt ℕ → Type 0
    SeesStatement known hidden statement.Empty = Unit {0}
    SeesStatement known hidden (statement.Declare row) = SeesItems known hidden row
    SeesStatement known hidden (statement.Assign written o e) = SeesTarget known hidden written × SeesExpression known hidden e
    SeesStatement known hidden (statement.Call call) = SeesExpression known hidden (expression.Call call)
    SeesStatement known hidden (statement.Spawn at x call) = SeesDestination known hidden x × SeesExpression known hidden (expression.Call call)
    SeesStatement known hidden (statement.Sync at) = Unit {0}
    SeesStatement known hidden (IfAlone t s) = SeesExpression known hidden t × SeesStatement known hidden s
    SeesStatement known hidden (IfElse t s o) = SeesExpression known hidden t × SeesStatement known hidden s × SeesStatement known hidden o
    SeesStatement known hidden (WhileLoop t b) = SeesExpression known hidden t × SeesStatement known hidden b
    SeesStatement known hidden (ForLoop first t s b) =
        SeesStatement known hidden first × SeesOptional known hidden t × SeesStatement known hidden s × SeesStatement known hidden b
    SeesStatement known hidden (statement.Split' whole place l r _ row close) = IsVisible known hidden whole.name × SeesExpression known hidden place
        × IsFresh known hidden whole.name l.name r.name × SeesSequence (r.name ∷ l.name ∷ known) (whole.name ∷ hidden) row
    SeesStatement known hidden (statement.Return at e) = SeesOptional known hidden e
    SeesStatement known hidden (statement.Print e) = SeesExpression known hidden e
    SeesStatement known hidden (statement.Block' _ row) = SeesSequence known hidden row

    pub SeesSequence : (known hidden : List ℕ) → {n : _} → Row_of-Stmt ℕ n → Type 0
    SeesSequence known hidden end_of-Stmt = Unit {0}
    SeesSequence known hidden (more_of-Stmt first more) = SeesStatement known hidden first × SeesSequence known hidden more

  abbrev pub SeesBody : (known hidden : List ℕ) → List (Stmt ℕ) → Type 0
  SeesBody known hidden [] = Unit {0}
  SeesBody known hidden (first ∷ more) = SeesStatement known hidden first × SeesBody known hidden more

-- A function, where its parameters that are slices are the first known ones.
abbrev pub SeesFunction : Function ℕ → Type 0
SeesFunction f = (known : List ℕ) → ((x : ℕ) → Among known x → x < length f.parameters)
    → ((x : ℕ) → x < length f.parameters → slice_get f.slots x ≡ Some slot.Slice → Among known x) → SeesBody f.slots known [] f.body

-- A program in which each mention is of a visible variable.
abbrev pub SeesProgram : Program → Type 0
SeesProgram program = (index : ℕ) (f : Function ℕ) → slice_get program.functions index ≡ Some f → SeesFunction f
