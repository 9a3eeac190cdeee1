-- A rest that fits a stack fits another one on which what was set is set, and the references are the same.
use Rattle.std.proofs.Common.{◌≡◌, ℕ, suc, ◌<◌, List, [], ◌∷◌, length, Option, None, Some, refl, ap, subst, arith, inl, inr}
use Rattle.std.specs.Prelude.{◌⊎◌, Bool, slice_get}
use Rattle.cm_syntax.specs.declared.expr.Op.{Op}
use Rattle.cm_syntax.specs.declared.expr.Expr.{Expr}
use Rattle.cm_syntax.specs.declared.expr.Call.{Row_of-Arg}
use Rattle.cm_syntax.specs.declared.stmt.Slot.{Slot}
use Rattle.cm_syntax.specs.declared.stmt.Extent.{Extent}
use Rattle.cm_syntax.specs.declared.stmt.Extent.TheVariants as extent
use Rattle.cm_syntax.specs.Extent.{extent_at}
use Rattle.cm_syntax.specs.declared.stmt.Stmt.{Stmt}
use Rattle.cm_syntax.specs.declared.stmt.Function.{Function}
use Rattle.cm_syntax.specs.declared.stmt.Program.{Program}
use Rattle.cm_syntax.specs.Stack.{Reference, Stack, Argument, word, slice}
use Rattle.cm_syntax.specs.Rest.{Item, evaluate, right, apply, prefix, both, either, truth, element, read, arguments, pass, take_back, discard, deliver, perform, sequence, body, declare, assign, update, locate, store, branch, turn, test, part, tick, show, exit, fall, join, end}
use Rattle.cm_meaning.specs.Typing.{IsSetRow, TypedExpression, TypedStatement, set_by_items, set_behind}
use Rattle.cm_meaning.specs.TypedState.{IsPresent, AreSet, AtHand, nothing, value, back, at_join, IsReference, FitParameters, HasNoStore, row_length, reference_length, TypedOther, TypedLoop, FitsCall, FitsPass, Inner, Outer, IsThere, FitsExtent, extent_length}
use Rattle.cm_meaning.proofs.WeakeningLaw.{IsAmong, among_first, among_items, among_behind, more_scalar, more_row, more_expression, more_arguments, more_optional, more_items, more_statement, more_sequence, more_body}

-- what is set in the frames before this depth is set in the other stack too
abbrev pub KeepsWords : (n : ℕ) → (h g : Stack) → Type 0
KeepsWords n h g = (d s i : ℕ) → d < n → IsPresent (h.words d s i) → IsPresent (g.words d s i)

-- the frames before this depth keep what is set, and their references
pub record Grows (n : ℕ) (h g : Stack) : Type 0 where
  pub words : KeepsWords n h g
  pub references : (d s : ℕ) → d < n → h.references d s ≡ g.references d s

pub grows_before : (n : ℕ) (h g : Stack) → Grows (suc n) h g → Grows n h g
grows_before n h g k = record {
  words = λ d s i l. k.words d s i (omega (arith, l));
  references = λ d s l. k.references d s (omega (arith, l));
}

row_same : (h g : Stack) (depth a : ℕ) (z : Option Extent) → h.references depth a ≡ g.references depth a → extent_length h depth a z ≡ extent_length g depth a z
row_same h g depth a (Some extent.Reference) e = ap reference_length e
row_same h g depth a (Some extent.Word) e = refl
row_same h g depth a (Some (extent.Words n)) e = refl
row_same h g depth a None e = refl

pub set_moves : (h g : Stack) (depth x : ℕ) (z : Option Extent) → ((i : ℕ) → IsPresent (h.words depth x i) → IsPresent (g.words depth x i))
    → (IsPresent (h.references depth x) → IsPresent (g.references depth x)) → IsThere h depth x z → IsThere g depth x z
set_moves h g depth x None words references s = s
set_moves h g depth x (Some extent.Word) words references s = λ i l. words i (s i l)
set_moves h g depth x (Some (extent.Words n)) words references s = λ i l. words i (s i l)
set_moves h g depth x (Some extent.Reference) words references s = references s

pub sets_move : (h g : Stack) (n depth : ℕ) (slots : List Slot) (set : List ℕ) → depth < n → Grows n h g → AreSet h depth slots set → AreSet g depth slots set
sets_move h g n depth slots set l k are x c =
    set_moves h g depth x (extent_at slots x) (λ i. k.words depth x i l) (λ p. subst IsPresent (k.references depth x l) p) (are x c)

module _ (functions : List (Function ℕ)) (function : Function ℕ) where
  more_other : (o : Option (Stmt ℕ)) (set more : List ℕ) → IsAmong set more → TypedOther functions function set o → TypedOther functions function more o
  more_other None set more w t = tt
  more_other (Some s) set more w t = more_statement functions function.slots function.gives s set more w t

  pub more_loop : (t : Option (Expr ℕ)) (s b : Stmt ℕ) (set more : List ℕ) → IsAmong set more → TypedLoop functions function set t s b → TypedLoop functions function more t s b
  more_loop t s b set more w l =
      (more_optional functions function.slots t set more w l.0, more_statement functions function.slots function.gives s set more w l.1, more_statement functions function.slots function.gives b set more w l.2)

module _ (program : Program) (h g : Stack) where
  pub reference_moves : (calls : List ℕ) (r : Reference) → KeepsWords (length calls) h g → IsReference program h calls r → IsReference program g calls r
  reference_moves calls r k i = record { live = i.live; within = i.within; set = λ j l m. k r.depth r.slot j i.live (i.set j l m) }

  argument_moves : (calls : List ℕ) (w : Argument) (z : Option Extent) → KeepsWords (length calls) h g → FitsExtent program h calls w z → FitsExtent program g calls w z
  argument_moves calls (word v) (Some extent.Word) k f = tt
  argument_moves calls (slice r) (Some extent.Reference) k f = reference_moves calls r k f
  argument_moves calls (word v) None k f = absurd f
  argument_moves calls (word v) (Some _) k f = absurd f
  argument_moves calls (slice r) None k f = absurd f
  argument_moves calls (slice r) (Some _) k f = absurd f

  pub arguments_move : (calls : List ℕ) (ws : List Argument) (parameters : List Slot) → KeepsWords (length calls) h g → FitParameters program h calls ws parameters → FitParameters program g calls ws parameters
  arguments_move calls [] parameters k f = tt
  arguments_move calls (w ∷ ws) parameters k f = (argument_moves calls w (extent_at parameters (length ws)) k f.0, arguments_move calls ws parameters k f.1)

  module _ (function : Function ℕ) (calls : List ℕ) (depth : ℕ) (after later : List Item → Type 0)
      (keeps : KeepsWords (length calls) h g) (goes : (k : List Item) → after k → later k) where
    -- the frame's references are the same
    abbrev Same : Type 0
    Same = (s : ℕ) → h.references depth s ≡ g.references depth s

    abbrev Before : List ℕ → AtHand → List Item → Type 0
    Before = Inner program h function calls depth after

    abbrev Behind : List ℕ → AtHand → List Item → Type 0
    Behind = Inner program g function calls depth later

    expressions : (e : Expr ℕ) (set more : List ℕ) → IsAmong set more → TypedExpression program.functions function.slots set e → TypedExpression program.functions function.slots more e
    expressions = more_expression program.functions function.slots

    rows : (x : ℕ) (set more : List ℕ) → IsAmong set more → IsSetRow program.functions function.slots set x → IsSetRow program.functions function.slots more x
    rows = more_row program.functions function.slots

    statements : (s : Stmt ℕ) (set more : List ℕ) → IsAmong set more → TypedStatement program.functions function.slots function.gives set s → TypedStatement program.functions function.slots function.gives more s
    statements = more_statement program.functions function.slots function.gives

    call_moves : {n : _} (callee : Option (Function ℕ)) (ws : List Argument) (row : Row_of-Arg ℕ n) (set more : List ℕ) → IsAmong set more → FitsCall program h function.slots calls set callee ws row → FitsCall program g function.slots calls more callee ws row
    call_moves callee ws row set more w t = (t.0, arguments_move calls ws _ keeps t.1, more_arguments program.functions function.slots _ row set more w t.2)

    pass_moves : {n : _} (callee : Option (Function ℕ)) (ws : List Argument) (row : Row_of-Arg ℕ n) (set more : List ℕ) → IsAmong set more → FitsPass program h function.slots calls set callee ws row → FitsPass program g function.slots calls more callee ws row
    pass_moves callee ws row set more w t = (t.0, arguments_move calls ws _ keeps t.1, t.2, more_arguments program.functions function.slots _ row set more w t.3)

    store_moves : (x i : ℕ) (k : List Item) (o : Option Op) → HasNoStore (store x i o ∷ k) ⊎ Same → i < row_length h depth x (slice_get function.slots x) → i < row_length g depth x (slice_get function.slots x)
    store_moves x i k o steady l = elim steady [
      | inl none ↦ absurd none
      | inr same ↦ subst (λ q. i < q) (row_same h g depth x (extent_at function.slots x) (same x)) l
    ]

    -- a rest that waits for no element, or whose frame keeps its references, fits the other stack where more is set
    pub moves : (k : List Item) (a : AtHand) (set more : List ℕ) → IsAmong set more → HasNoStore k ⊎ Same → Before set a k → Behind more a k
    moves [] a set more w s i = absurd i
    moves (evaluate e ∷ k) a set more w s i = (expressions e set more w i.0, moves k value set more w s i.1)
    moves (right o r ∷ k) a set more w s i = (i.0, i.1, expressions r set more w i.2, moves k value set more w s i.3)
    moves (apply o v ∷ k) a set more w s i = (i.0, i.1, moves k value set more w s i.2)
    moves (prefix o ∷ k) a set more w s i = (i.0, i.1, moves k value set more w s i.2)
    moves (both r ∷ k) a set more w s i = (i.0, expressions r set more w i.1, moves k value set more w s i.2)
    moves (either r ∷ k) a set more w s i = (i.0, expressions r set more w i.1, moves k value set more w s i.2)
    moves (truth ∷ k) a set more w s i = (i.0, moves k value set more w s i.1)
    moves (element x ∷ k) a set more w s i = (i.0, rows x set more w i.1, moves k value set more w s i.2)
    moves (read ∷ k) a set more w s i = (i.0, moves k value set more w s i.1)
    moves (arguments u f ws row ∷ k) a set more w s i = (i.0, call_moves (slice_get program.functions f) ws row set more w i.1, moves k _ set more w s i.2)
    moves (pass u f ws row ∷ k) a set more w s i = (i.0, i.1, pass_moves (slice_get program.functions f) ws row set more w i.2, moves k _ set more w s i.3)
    moves (take_back ∷ k) a set more w s i = (i.0, moves k value set more w s i.1)
    moves (discard ∷ k) a set more w s i = (i.0, moves k nothing set more w s i.1)
    moves (deliver x ∷ k) a set more w s i = (i.0, i.1, moves k nothing set more w s i.2)
    moves (perform z ∷ k) a set more w s i = (statements z set more w i.0, i.1, moves k nothing (set_behind set z) (set_behind more z) (among_behind z set more w) s i.2)
    moves (sequence row ∷ k) a set more w s i = (more_sequence program.functions function.slots function.gives row set more w i.0, i.1, moves k nothing set more w s i.2)
    moves (body row ∷ k) a set more w s i = (more_body program.functions function.slots function.gives row set more w i.0, i.1, moves k nothing set more w s i.2)
    moves (declare row ∷ k) a set more w s i = (more_items program.functions function.slots row set more w i.0, i.1, moves k nothing (set_by_items set row) (set_by_items more row) (among_items row set more w) s i.2)
    moves (assign x ∷ k) a set more w s i = (i.0, i.1, moves k nothing (x ∷ set) (x ∷ more) (among_first x set more w) s i.2)
    moves (update x o ∷ k) a set more w s i = (i.0, more_scalar program.functions function.slots x set more w i.1, i.2, moves k nothing set more w s i.3)
    moves (locate x o e ∷ k) a set more w s i = (i.0, rows x set more w i.1, i.2, expressions e set more w i.3, moves k nothing set more w s i.4)
    moves (store x j o ∷ k) a set more w s i = (i.0, rows x set more w i.1, i.2, store_moves x j k o s i.3, moves k nothing set more w (behind s) i.4)
      where
        behind : HasNoStore (store x j o ∷ k) ⊎ Same → HasNoStore k ⊎ Same
        behind s = elim s [ inl none ↦ absurd none | inr same ↦ inr same ]
    moves (branch z o ∷ k) a set more w s i = (i.0, statements z set more w i.1, more_other program.functions function o set more w i.2, i.3, moves k nothing set more w s i.4)
    moves (turn t z b ∷ k) a set more w s i = (more_loop program.functions function t z b set more w i.0, i.1, moves k nothing set more w s i.2)
    moves (test t z b ∷ k) a set more w s i = (i.0, more_loop program.functions function (Some t) z b set more w i.1, i.2, moves k nothing set more w s i.3)
    moves (part x l r row ∷ k) a set more w s i = (
      i.0,
      rows x set more w i.1,
      i.2,
      i.3,
      more_sequence program.functions function.slots function.gives row (r ∷ l ∷ set) (r ∷ l ∷ more) (among_first r (l ∷ set) (l ∷ more) (among_first l set more w)) i.4,
      i.5,
      moves k nothing set more w s i.6,
    )
    moves (tick ∷ k) a set more w s i = moves k a set more w s i
    moves (show ∷ k) a set more w s i = (i.0, moves k nothing set more w s i.1)
    moves (exit ∷ k) a set more w s i = (i.0, moves k nothing set more w s i.1)
    moves (fall ∷ k) a set more w s i = moves k (at_join function.gives) set more w s i
    moves (join ∷ []) a set more w s i = absurd i
    moves (join ∷ end ∷ k) a set more w s i = (i.0, goes k i.1)
    moves (join ∷ _ ∷ k) a set more w s i = absurd i
    moves (end ∷ k) a set more w s i = absurd i

  -- the rest behind the end of a call
  pub outer_moves : (gives : Bool) (calls : List ℕ) (a : AtHand) (k : List Item) → Grows (length calls) h g → Outer program h gives calls a k → Outer program g gives calls a k
  outer_moves gives [] a k m o = o
  outer_moves gives (f ∷ calls) a k m o = (
    o.0,
    o.1,
    o.2,
    sets_move h g (length (f ∷ calls)) (length calls) o.0.slots o.2 (omega arith) m o.3,
    moves o.0 (f ∷ calls) (length calls) (Outer program h gives calls (back o.0.gives)) (Outer program g gives calls (back o.0.gives)) m.words
        (λ k. outer_moves gives calls (back o.0.gives) k (grows_before (length calls) h g m)) k a o.2 o.2 (λ x c. c) (inr (λ s. m.references (length calls) s (omega arith))) o.4,
  )
