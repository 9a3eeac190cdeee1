-- What has to be known of an expression so that its code can be made: its temporaries are within a frame, and each call
-- has at most eight words of arguments; and of a statement. The code of a list of arguments, one after another, is said
-- here too.
use Rattle.std.specs.Prelude.{ℕ, ◌+◌, ◌≤◌, ◌<◌, ◌^◌, Option, None, Some, List, [], ◌∷◌, ◌++◌}
use Rattle.cm_isa.specs.declared.convention.TheConstants as reg
use Rattle.cm_syntax.specs.declared.expr.Op.{Op}
use Rattle.cm_syntax.specs.declared.expr.Op.TheVariants as op
use Rattle.cm_syntax.specs.declared.expr.Expr.{Expr}
use Rattle.cm_syntax.specs.declared.expr.Expr.TheVariants as expression
use Rattle.cm_syntax.specs.declared.expr.Arg.{Arg}
use Rattle.cm_syntax.specs.declared.expr.Arg.TheVariants as argument
use Rattle.cm_syntax.specs.declared.expr.Call.{Row_of-Arg, end_of-Arg, more_of-Arg}
use Rattle.cm_syntax.specs.declared.stmt.Slot.{Slot}
use Rattle.cm_syntax.specs.declared.stmt.Item.{Item}
use Rattle.cm_syntax.specs.declared.stmt.Function.{Function}
use Rattle.cm_syntax.specs.declared.stmt.Target.{Target}
use Rattle.cm_syntax.specs.declared.stmt.Target.TheVariants as target
use Rattle.cm_syntax.specs.declared.stmt.Stmt.{Stmt, Row_of-Stmt, end_of-Stmt, more_of-Stmt}
use Rattle.cm_syntax.specs.declared.stmt.Stmt.TheVariants as statement
use Rattle.cm_syntax.specs.Shape.{Joined, Prefixed, Element, InputAt, IfAlone, IfElse, WhileLoop, ForLoop}
use Rattle.cm_syntax.specs.Frame.{argument_words, arguments_words, slot_words, frame_words}
use Rattle.cm_syntax.specs.Limit.{max_frame_words}
use Rattle.cm_gen.specs.Part.{Part, straight}
use Rattle.cm_gen.specs.Expression.{keep_word, keep_slice, keep_scalar, hand_over, both_code, either_code, right_code, expression_code}

-- the most words of a call's arguments
abbrev pub max_argument_words : ℕ
max_argument_words = 8

abbrev mutual
  -- an expression of which d temporaries are in use before
  pub Fits : Expr ℕ → (d : ℕ) → Type 0
  Fits (Element a index) d = Fits index d
  Fits (InputAt index) d = Fits index d
  Fits (Prefixed o e) d = Fits e d
  Fits (Joined op.Both l r) d = Fits l d × Fits r d
  Fits (Joined op.Either l r) d = Fits l d × Fits r d
  Fits (Joined o l r) d = Fits l d × (d < max_frame_words) × Fits r (d + 1)
  Fits (expression.Call' f _ row) d = RowFits row d 0
  Fits _ d = Unit {0}

  -- the arguments that are still to come, w words after the first one's
  pub RowFits : {n : _} → Row_of-Arg ℕ n → (d w : ℕ) → Type 0
  RowFits end_of-Arg d w = (d + w ≤ max_frame_words) × (w ≤ max_argument_words)
  RowFits (more_of-Arg first more) d w = ArgumentFits first (d + w) × RowFits more d (w + argument_words first)

  -- an argument in temporary j
  pub ArgumentFits : Arg ℕ → (j : ℕ) → Type 0
  ArgumentFits (argument.Value e) j = Fits e j × (j < max_frame_words)
  ArgumentFits (argument.Slice a) j = j < max_frame_words
  ArgumentFits (argument.Address x) j = j < max_frame_words

abbrev mutual
  -- each call in an expression has at most eight words of arguments
  pub HasShortCalls : Expr ℕ → Type 0
  HasShortCalls (Element a index) = HasShortCalls index
  HasShortCalls (InputAt index) = HasShortCalls index
  HasShortCalls (Prefixed o e) = HasShortCalls e
  HasShortCalls (Joined o l r) = HasShortCalls l × HasShortCalls r
  HasShortCalls (expression.Call' f _ row) = (arguments_words row ≤ max_argument_words) × RowHasShortCalls row
  HasShortCalls _ = Unit {0}

  -- the same of arguments
  pub RowHasShortCalls : {n : _} → Row_of-Arg ℕ n → Type 0
  RowHasShortCalls end_of-Arg = Unit {0}
  RowHasShortCalls (more_of-Arg first more) = ArgumentHasShortCalls first × RowHasShortCalls more

  -- and of one argument
  pub ArgumentHasShortCalls : Arg ℕ → Type 0
  ArgumentHasShortCalls (argument.Value e) = HasShortCalls e
  ArgumentHasShortCalls _ = Unit {0}

-- the right operand of an operator
abbrev pub RightFits : Op → Expr ℕ → (d : ℕ) → Type 0
RightFits op.Both r d = Fits r d
RightFits op.Either r d = Fits r d
RightFits o r d = (d < max_frame_words) × Fits r (d + 1)

-- the code behind the left operand of an operator
abbrev pub behind_left : List Slot → Op → Expr ℕ → (d : ℕ) → List Part
behind_left slots op.Both r d = both_code slots r d
behind_left slots op.Either r d = either_code slots r d
behind_left slots o r d = right_code slots o r d

-- ---- a list of arguments

abbrev pub ListFits : List (Arg ℕ) → (d w : ℕ) → Type 0
ListFits [] d w = (d + w ≤ max_frame_words) × (w ≤ max_argument_words)
ListFits (first ∷ more) d w = ArgumentFits first (d + w) × ListFits more d (w + argument_words first)

-- an argument, kept in temporary j
abbrev pub argument_code : List Slot → Arg ℕ → (j : ℕ) → List Part
argument_code slots (argument.Value e) j = expression_code slots e j ++ straight (keep_word slots j)
argument_code slots (argument.Slice a) j = straight (keep_slice slots a.name j)
argument_code slots (argument.Address x) j = straight (keep_scalar slots x.name j)

-- arguments one after another; then all words go to the registers
abbrev pub list_code : List Slot → List (Arg ℕ) → (d w : ℕ) → List Part
list_code slots [] d w = straight (hand_over slots d reg.RESULT w)
list_code slots (first ∷ more) d w = argument_code slots first (d + w) ++ list_code slots more d (w + argument_words first)

-- ---- statements

-- an expression that may not be there
abbrev pub OptionFits : Option (Expr ℕ) → Type 0
OptionFits None = Unit {0}
OptionFits (Some e) = Fits e 0

-- the items of a declaration
abbrev pub ItemsFit : List (Item ℕ) → Type 0
ItemsFit [] = Unit {0}
ItemsFit (first ∷ more) = (slot_words first.slot ≤ max_frame_words) × OptionFits first.first × ItemsFit more

-- an assignment
abbrev pub AssignmentFits : Target ℕ → Expr ℕ → Type 0
AssignmentFits (target.Scalar x) e = Fits e 0
AssignmentFits (target.Index a index) e = Fits index 0 × Fits e 1

-- the index of a function fits the code of a spawn
abbrev pub IsIndex : (f : ℕ) → Type 0
IsIndex f = f < 2 ^ 16

abbrev mutual
  -- a statement
  pub StatementFits : Stmt ℕ → Type 0
  StatementFits (statement.Declare items) = ItemsFit items
  StatementFits (statement.Assign written o e) = AssignmentFits written e
  StatementFits (statement.Call c) = Fits (expression.Call c) 0
  StatementFits (statement.Spawn at x c) = Fits (expression.Call c) 0 × IsIndex c.function.name
  StatementFits (IfAlone t s) = Fits t 0 × StatementFits s
  StatementFits (IfElse t s o) = Fits t 0 × StatementFits s × StatementFits o
  StatementFits (WhileLoop t body) = Fits t 0 × StatementFits body
  StatementFits (ForLoop first t step body) = StatementFits first × OptionFits t × StatementFits step × StatementFits body
  StatementFits (statement.Split' whole e left right _ body close) = Fits e 0 × SequenceFits body
  StatementFits (statement.Return at e) = OptionFits e
  StatementFits (statement.Print e) = Fits e 0
  StatementFits (statement.Block' _ body) = SequenceFits body
  StatementFits _ = Unit {0}

  -- the statements of a block
  pub SequenceFits : {n : _} → Row_of-Stmt ℕ n → Type 0
  SequenceFits end_of-Stmt = Unit {0}
  SequenceFits (more_of-Stmt first more) = StatementFits first × SequenceFits more

-- and of a function's body
abbrev pub BodyFits : List (Stmt ℕ) → Type 0
BodyFits [] = Unit {0}
BodyFits (first ∷ more) = StatementFits first × BodyFits more

-- ---- functions

-- parameters, from slot x and register r on
abbrev pub ParametersFit : (x r : ℕ) → List (Item ℕ) → Type 0
ParametersFit x r [] = Unit {0}
ParametersFit x r (first ∷ more) = (x < 2 ^ 16) × (r + slot_words first.slot ≤ 32) × ParametersFit (x + 1) (r + slot_words first.slot) more

-- a function
pub record FunctionFits (function : Function ℕ) : Type 0 where
  pub frame : frame_words function ≤ max_frame_words
  pub body_fits : BodyFits function.body
  pub parameters_fit : ParametersFit 0 10 function.parameters

-- functions
abbrev pub FunctionsFit : List (Function ℕ) → Type 0
FunctionsFit [] = Unit {0}
FunctionsFit (first ∷ more) = FunctionFits first × FunctionsFit more
