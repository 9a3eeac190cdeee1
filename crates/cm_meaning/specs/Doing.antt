-- What is asked of the parts of a step.
use Rattle.std.specs.Prelude.{◌≡◌, ℕ, true, ℤ, Option, None, Some, List, ◌∷◌, reverse, take, drop}
use Rattle.std.specs.Borrow.{Bor}
use Rattle.cm_syntax.specs.declared.expr.Arg.{Arg}
use Rattle.cm_syntax.specs.declared.expr.Call.{Call}
use Rattle.cm_syntax.specs.declared.expr.Op.{Op}
use Rattle.cm_syntax.specs.Operator.{binary_value}
use Rattle.cm_syntax.specs.Rest as rest
use Rattle.cm_syntax.specs.Cell.{Cell, present, may_write}
use Rattle.cm_syntax.specs.Stack.{Stack}
use Rattle.cm_syntax.specs.Step.{write_step}
use Rattle.cm_meaning.specs.declared.evaluator.Evaluator.{Evaluator}
use Rattle.cm_meaning.specs.declared.work.Outcome.{Outcome}
use Rattle.cm_meaning.specs.declared.work.Purpose.{Purpose}
use Rattle.cm_meaning.specs.declared.work.Work.{Work}
use Rattle.cm_meaning.specs.declared.work.Work.TheVariants as works
use Rattle.cm_meaning.specs.Layout.{calls_in, Shows}
use Rattle.cm_meaning.specs.TypedState.{IsPresent}
use Rattle.cm_meaning.specs.Evaluator.{IsKept, IsPlain, IsSameRun, Leads, DoesFrom, items_of, hand_of, hand_count, passed_in}

-- what is still to do behind the item that is done
abbrev pub items_behind : Evaluator → List rest.Item
items_behind ev = items_of (reverse ev.rest.items) (drop (hand_count ev.hand) (passed_in ev))

-- the state with this item before the rest
abbrev pub control_before : rest.Item → Evaluator → rest.Control
control_before item ev =
    rest.control (calls_in ev.frames) ev.account (hand_of ev.hand (take (hand_count ev.hand) (passed_in ev))) (item ∷ items_behind ev)

-- the run does this item, which was the first of the rest
abbrev pub DoesItem : Evaluator → rest.Item → Outcome → Evaluator → Type 0
DoesItem old item outcome new = DoesFrom (control_before item old) old outcome new

-- no call is at hand where an item is done
abbrev pub IsSteady : Evaluator → Type 0
IsSteady ev = IsKept ev × IsPlain ev.hand

-- a word may be written, or updated
abbrev pub IsOpen : Option Op → Cell ℤ → Type 0
IsOpen None cell = may_write cell ≡ true
IsOpen (Some o) cell = IsPresent cell

-- what an update writes; None where it divides by 0
abbrev pub written_value : Option Op → Cell ℤ → ℤ → Option ℤ
written_value None cell v = Some v
written_value (Some o) (present old) v = binary_value o old v
written_value (Some o) _ v = None

-- the arguments of a call, none of which is known yet
abbrev pub IsBegun : Work → Purpose → Call ℕ → Type 0
IsBegun work purpose call =
    (more : Bor (List (Arg ℕ))) × (work ≡ works.Arguments purpose call.function.name 0 more) × (more.now ≡ call.arguments)

-- the run writes a word
pub record Writes (old : Evaluator) (depth slot index : ℕ) (op : Option Op) (value : ℤ) (outcome : Outcome) (new : Evaluator) : Type 0 where
  pub kept : IsKept new
  pub same : IsSameRun old new
  pub leads : (h : Stack) → Shows old.frames h → IsOpen op (h.words depth slot index)
      → Leads outcome (write_step (control_before rest.tick old) h depth slot index op value (items_behind old)) new
