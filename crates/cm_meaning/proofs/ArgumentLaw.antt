-- Calls and their arguments: what those that are known and those to come have of the parameters.
use Rattle.std.proofs.Common.{◌≡◌, ℕ, zero, suc, ◌<◌, ◌≤◌, List, [], ◌∷◌, length, Option, None, Some, sym, ap, subst, arith}
use Rattle.std.specs.Prelude.{Bool, true, false, drop, slice_get}
use Rattle.cm_syntax.specs.declared.expr.Expr.{Expr}
use Rattle.cm_syntax.specs.declared.expr.Arg.TheVariants as arg
use Rattle.cm_syntax.specs.declared.expr.Call.{Row_of-Arg, more_of-Arg}
use Rattle.cm_syntax.specs.declared.expr.Mark.{Mark}
use Rattle.cm_syntax.specs.declared.stmt.Slot.{Slot}
use Rattle.cm_syntax.specs.declared.stmt.Slot.TheVariants as slot
use Rattle.cm_syntax.specs.declared.stmt.Function.{Function}
use Rattle.cm_syntax.specs.declared.stmt.Program.{Program}
use Rattle.cm_syntax.specs.Stack.{Stack, Argument, word, slice}
use Rattle.cm_syntax.specs.Rest.{called}
use Rattle.cm_meaning.specs.Typing.{GivesWanted, IsSetScalar, IsSetRow, TypedExpression, TypedArguments}
use Rattle.cm_meaning.specs.TypedState.{back, HasComeBack, FitsParameter, FitParameters, behind_call}

-- a function that is there, and what its call comes back with
pub gives_any : (callee : Option (Function ℕ)) (wanted : Bool) → GivesWanted wanted callee → GivesWanted false callee
gives_any None true g = g
gives_any None false g = g
gives_any (Some f) wanted g = tt

pub gives_back : (callee : Option (Function ℕ)) → GivesWanted true callee → behind_call called callee ≡ back true
gives_back None g = absurd g
gives_back (Some f) g = ap back g

pub comes_back : (callee : Option (Function ℕ)) → GivesWanted false callee → HasComeBack (behind_call called callee)
comes_back None g = absurd g
comes_back (Some f) g = tt

-- ---- lists of parameters and arguments

dropped : (xs ys : List Slot) (y : Slot) (n : ℕ) → drop n xs ≡ y ∷ ys → (slice_get xs n ≡ Some y) × (drop (suc n) xs ≡ ys)
dropped [] ys y zero e = cc e
dropped [] ys y (suc n) e = cc e
dropped (x ∷ xs) ys y zero e = (ap first e, ap rest e)
  where
    first : List Slot → Option Slot
    first l = slice_get l 0

    rest : List Slot → List Slot
    rest l = drop 1 l
dropped (x ∷ xs) ys y (suc n) e = dropped xs ys y n e

pub dropped_all : (xs : List Slot) (n : ℕ) → drop n xs ≡ [] → length xs ≤ n
dropped_all [] n e = omega arith
dropped_all (x ∷ xs) zero e = cc e
dropped_all (x ∷ xs) (suc n) e = let l = dropped_all xs n e in omega (arith, l)

-- the first argument that is to come, its parameter, and the arguments behind it
module _ (functions : List (Function ℕ)) (slots : List Slot) (set : List ℕ) (parameters : List Slot) (n : ℕ) {m : _} (row : Row_of-Arg ℕ m) where
  -- the next parameter, and what fits those behind it
  abbrev NextIs : Slot → Type 0
  NextIs parameter = (slice_get parameters n ≡ Some parameter) × TypedArguments functions slots set (drop (suc n) parameters) row

  next : (parameter : Slot) (more : List Slot) → drop n parameters ≡ parameter ∷ more → TypedArguments functions slots set more row → NextIs parameter
  next parameter more e t = let d = dropped parameters more parameter n e in (d.0, subst (λ z. TypedArguments functions slots set z row) (sym d.1) t)

  pub value_argument : (e : Expr ℕ) (more : List Slot) → drop n parameters ≡ more → TypedArguments functions slots set more (more_of-Arg (arg.Value e) row) → TypedExpression functions slots set e × NextIs slot.Scalar
  value_argument e (slot.Scalar ∷ more) d t = (t.0, next slot.Scalar more d t.1)
  value_argument e (_ ∷ more) d t = absurd t
  value_argument e [] d t = absurd t

  pub slice_argument : (a : Mark ℕ) (more : List Slot) → drop n parameters ≡ more → TypedArguments functions slots set more (more_of-Arg (arg.Slice a) row) → IsSetRow functions slots set a.name × NextIs slot.Slice
  slice_argument a (slot.Slice ∷ more) d t = (t.0, next slot.Slice more d t.1)
  slice_argument a (_ ∷ more) d t = absurd t
  slice_argument a [] d t = absurd t

  pub address_argument : (x : Mark ℕ) (more : List Slot) → drop n parameters ≡ more → TypedArguments functions slots set more (more_of-Arg (arg.Address x) row) → IsSetScalar functions slots set x.name × NextIs slot.Slice
  address_argument x (slot.Slice ∷ more) d t = (t.0, next slot.Slice more d t.1)
  address_argument x (_ ∷ more) d t = absurd t
  address_argument x [] d t = absurd t

module _ (program : Program) (h : Stack) (calls : List ℕ) where
  fitted : (w : Argument) (parameters : List Slot) (n : ℕ) → FitsParameter program h calls w (slice_get parameters n) → n < length parameters
  fitted w [] n f = absurd (by w f)
    where
      by : (w : Argument) → FitsParameter program h calls w None → ⊥
      by (word v) f = f
      by (slice r) f = f
  fitted w (x ∷ parameters) zero f = omega arith
  fitted w (x ∷ parameters) (suc n) f = let l = fitted w parameters n f in omega (arith, l)

  -- arguments that fit are no more than the parameters
  pub no_more : (ws : List Argument) (parameters : List Slot) → FitParameters program h calls ws parameters → length ws ≤ length parameters
  no_more [] parameters f = omega arith
  no_more (w ∷ ws) parameters f = let l = fitted w parameters (length ws) f.0 in omega (arith, l)
