-- What is typed where some slots were set is typed where more were.
use Rattle.std.proofs.Common.{◌≡◌, ℕ, zero, suc, List, [], ◌∷◌, Option, None, Some, refl, subst, arith, inl, inr}
use Rattle.std.specs.Prelude.{◌⊎◌, Bool, false, Contains, is_some}
use Rattle.cm_syntax.specs.declared.expr.Expr.{Expr}
use Rattle.cm_syntax.specs.declared.expr.Expr.TheVariants as expression
use Rattle.cm_syntax.specs.declared.expr.Arg.TheVariants as arg
use Rattle.cm_syntax.specs.declared.expr.Call.{Row_of-Arg, end_of-Arg, more_of-Arg}
use Rattle.cm_syntax.specs.declared.expr.Mark.{Mark}
use Rattle.cm_syntax.specs.declared.stmt.Slot.{Slot}
use Rattle.cm_syntax.specs.declared.stmt.Slot.TheVariants as slot
use Rattle.cm_syntax.specs.declared.stmt.Item as items
use Rattle.cm_syntax.specs.declared.stmt.Target as target
use Rattle.cm_syntax.specs.declared.stmt.Target.TheVariants as targets
use Rattle.cm_syntax.specs.declared.stmt.Stmt.{Stmt, Row_of-Stmt, end_of-Stmt, more_of-Stmt}
use Rattle.cm_syntax.specs.declared.stmt.Stmt.TheVariants as statement
use Rattle.cm_syntax.specs.declared.stmt.Function.{Function}
use Rattle.cm_syntax.specs.Shape.{Joined, Prefixed, Element, InputAt, IfAlone, IfElse, WhileLoop, ForLoop}
use Rattle.cm_meaning.specs.Typing.{IsSetScalar, IsSetRow, TypedExpression, TypedArguments, TypedOptional, TypedInvocation, TypedItem, TypedItems, TypedDestination, TypedTarget, TypedReturn, set_by_items, set_behind, TypedStatement, TypedSequence, TypedBody}

-- each of the slots is among the others
abbrev pub IsAmong : (less more : List ℕ) → Type 0
IsAmong less more = (x : ℕ) → Contains less x → Contains more x

pub contains_first : (x : ℕ) (set : List ℕ) → Contains (x ∷ set) x
contains_first x set = (0, omega arith, refl)

pub contains_later : (x y : ℕ) (set : List ℕ) → Contains set y → Contains (x ∷ set) y
contains_later x y set c = let l = c.1 in (suc c.0, omega (arith, l), c.2)

pub contains_cases : (x y : ℕ) (set : List ℕ) → Contains (x ∷ set) y → (x ≡ y) ⊎ Contains set y
contains_cases x y set (zero, l, e) = inl e
contains_cases x y set (suc k, l, e) = inr (k, omega (arith, l), e)

pub among_one_more : (x : ℕ) (set : List ℕ) → IsAmong set (x ∷ set)
among_one_more x set y c = contains_later x y set c

pub among_first : (x : ℕ) (set more : List ℕ) → IsAmong set more → IsAmong (x ∷ set) (x ∷ more)
among_first x set more w y c = elim (contains_cases x y set c) [
  | inl e ↦ subst (Contains (x ∷ more)) e (contains_first x more)
  | inr d ↦ contains_later x y more (w y d)
]

pub among_items : (row : List (items.Item ℕ)) (set more : List ℕ) → IsAmong set more → IsAmong (set_by_items set row) (set_by_items more row)
among_items [] set more w = w
among_items (x ∷ row) set more w = among_items row (x.name.name ∷ set) (x.name.name ∷ more) (among_first x.name.name set more w)

pub among_behind : (s : Stmt ℕ) (set more : List ℕ) → IsAmong set more → IsAmong (set_behind set s) (set_behind more s)
among_behind (statement.Declare row) set more w = among_items row set more w
among_behind _ set more w = w

among_by_items : (row : List (items.Item ℕ)) (set : List ℕ) → IsAmong set (set_by_items set row)
among_by_items [] set y c = c
among_by_items (x ∷ row) set y c = among_by_items row (x.name.name ∷ set) y (contains_later x.name.name y set c)

pub among_its_behind : (s : Stmt ℕ) (set : List ℕ) → IsAmong set (set_behind set s)
among_its_behind (statement.Declare row) set = among_by_items row set
among_its_behind _ set = λ y c. c

module _ (functions : List (Function ℕ)) (slots : List Slot) where
  pub more_scalar : (x : ℕ) (set more : List ℕ) → IsAmong set more → IsSetScalar functions slots set x → IsSetScalar functions slots more x
  more_scalar x set more w t = (w x t.0, t.1)

  pub more_row : (x : ℕ) (set more : List ℕ) → IsAmong set more → IsSetRow functions slots set x → IsSetRow functions slots more x
  more_row x set more w t = (w x t.0, t.1)

  mutual
    pub more_expression : (e : Expr ℕ) (set more : List ℕ) → IsAmong set more → TypedExpression functions slots set e → TypedExpression functions slots more e
    more_expression (expression.Number n) set more w t = tt
    more_expression (expression.Scalar x) set more w t = more_scalar x.name set more w t
    more_expression (Element a place) set more w t = (more_row a.name set more w t.0, more_expression place set more w t.1)
    more_expression (expression.Len a) set more w t = more_row a.name set more w t
    more_expression (InputAt place) set more w t = more_expression place set more w t
    more_expression expression.Inputs set more w t = tt
    more_expression (Prefixed o e) set more w t = (t.0, more_expression e set more w t.1)
    more_expression (Joined o l r) set more w t = (t.0, more_expression l set more w t.1, more_expression r set more w t.2)
    more_expression (expression.Call' f _ row) set more w t = (t.0, more_arguments _ row set more w t.1)

    pub more_arguments : {n : _} (parameters : List Slot) (row : Row_of-Arg ℕ n) (set more : List ℕ) → IsAmong set more → TypedArguments functions slots set parameters row → TypedArguments functions slots more parameters row
    more_arguments parameters end_of-Arg set more w t = t
    more_arguments (slot.Scalar ∷ parameters) (more_of-Arg (arg.Value e) row) set more w t = (more_expression e set more w t.0, more_arguments parameters row set more w t.1)
    more_arguments (slot.Slice ∷ parameters) (more_of-Arg (arg.Slice a) row) set more w t = (more_row a.name set more w t.0, more_arguments parameters row set more w t.1)
    more_arguments (slot.Slice ∷ parameters) (more_of-Arg (arg.Address x) row) set more w t = (more_scalar x.name set more w t.0, more_arguments parameters row set more w t.1)
    more_arguments _ (more_of-Arg _ row) set more w t = absurd t

  pub more_optional : (e : Option (Expr ℕ)) (set more : List ℕ) → IsAmong set more → TypedOptional functions slots set e → TypedOptional functions slots more e
  more_optional None set more w t = tt
  more_optional (Some e) set more w t = more_expression e set more w t

  more_invocation : (e : Expr ℕ) (wanted : Bool) (set more : List ℕ) → IsAmong set more → TypedInvocation functions slots set wanted e → TypedInvocation functions slots more wanted e
  more_invocation (expression.Call' f _ row) wanted set more w t = (t.0, more_arguments _ row set more w t.1)
  more_invocation _ wanted set more w t = absurd t

  more_item : (kind : Slot) (first : Option (Expr ℕ)) (set more : List ℕ) → IsAmong set more → TypedItem functions slots set kind first → TypedItem functions slots more kind first
  more_item slot.Scalar first set more w t = more_optional first set more w t
  more_item (slot.Array words) first set more w t = tt
  more_item slot.Slice first set more w t = t

  pub more_items : (row : List (items.Item ℕ)) (set more : List ℕ) → IsAmong set more → TypedItems functions slots set row → TypedItems functions slots more row
  more_items [] set more w t = tt
  more_items (x ∷ row) set more w t = (t.0, more_item x.slot x.first set more w t.1, more_items row (x.name.name ∷ set) (x.name.name ∷ more) (among_first x.name.name set more w) t.2)

  more_destination : (x : Option (Mark ℕ)) (set more : List ℕ) → IsAmong set more → TypedDestination functions slots set x → TypedDestination functions slots more x
  more_destination None set more w t = tt
  more_destination (Some x) set more w t = more_scalar x.name set more w t

  more_target : (x : target.Target ℕ) (set more : List ℕ) → IsAmong set more → TypedTarget functions slots set x → TypedTarget functions slots more x
  more_target (targets.Scalar x) set more w t = more_scalar x.name set more w t
  more_target (targets.Index a place) set more w t = (more_row a.name set more w t.0, more_expression place set more w t.1)

  module _ (gives : Bool) where
    more_return : (e : Option (Expr ℕ)) (set more : List ℕ) → IsAmong set more → TypedReturn functions slots gives set e → TypedReturn functions slots gives more e
    more_return None set more w t = t
    more_return (Some e) set more w t = (t.0, more_expression e set more w t.1)

    mutual
      pub more_statement : (s : Stmt ℕ) (set more : List ℕ) → IsAmong set more → TypedStatement functions slots gives set s → TypedStatement functions slots gives more s
      more_statement statement.Empty set more w t = tt
      more_statement (statement.Declare row) set more w t = more_items row set more w t
      more_statement (statement.Assign written o e) set more w t = (more_target written set more w t.0, t.1, more_expression e set more w t.2)
      more_statement (statement.Call call) set more w t = more_invocation (expression.Call call) false set more w t
      more_statement (statement.Spawn at x call) set more w t = (more_destination x set more w t.0, more_invocation (expression.Call call) (is_some x) set more w t.1)
      more_statement (statement.Sync at) set more w t = tt
      more_statement (IfAlone e s) set more w t = (more_expression e set more w t.0, more_statement s set more w t.1)
      more_statement (IfElse e s o) set more w t = (more_expression e set more w t.0, more_statement s set more w t.1, more_statement o set more w t.2)
      more_statement (WhileLoop e b) set more w t = (more_expression e set more w t.0, more_statement b set more w t.1)
      more_statement (ForLoop first e s b) set more w t =
          let v = among_behind first set more w in (more_statement first set more w t.0, more_optional e _ _ v t.1, more_statement s _ _ v t.2, more_statement b _ _ v t.3)
      more_statement (statement.Split' whole place l r _ row close) set more w t =
          (more_row whole.name set more w t.0, more_expression place set more w t.1, t.2, t.3, more_sequence row _ _ (among_first r.name (l.name ∷ set) (l.name ∷ more) (among_first l.name set more w)) t.4)
      more_statement (statement.Return at e) set more w t = more_return e set more w t
      more_statement (statement.Print e) set more w t = more_expression e set more w t
      more_statement (statement.Block' _ row) set more w t = more_sequence row set more w t

      pub more_sequence : {n : _} (row : Row_of-Stmt ℕ n) (set more : List ℕ) → IsAmong set more → TypedSequence functions slots gives set row → TypedSequence functions slots gives more row
      more_sequence end_of-Stmt set more w t = tt
      more_sequence (more_of-Stmt first row) set more w t = (more_statement first set more w t.0, more_sequence row _ _ (among_behind first set more w) t.1)

    pub more_body : (row : List (Stmt ℕ)) (set more : List ℕ) → IsAmong set more → TypedBody functions slots gives set row → TypedBody functions slots gives more row
    more_body [] set more w t = tt
    more_body (first ∷ row) set more w t = (more_statement first set more w t.0, more_body row _ _ (among_behind first set more w) t.1)
