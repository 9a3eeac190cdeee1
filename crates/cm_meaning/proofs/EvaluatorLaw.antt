-- What the state of an evaluator tells at a piece of work, and how a piece of work does its step.
use Rattle.std.proofs.Common.{of_z, ◌≡◌, ℕ, zero, suc, ◌+◌, ◌<◌, ◌≤◌, List, [], ◌∷◌, ◌++◌, length, reverse, take, drop, Option, None, Some, Result, Ok, Err, refl, sym, ap, ◌∙◌, subst, arith, option_map}
use Rattle.std.specs.Prelude.{Bool, true, false, ◌==◌, if◌then◌else◌, ℤ, pos, negsuc, slice_get, IsSome, IfOk, OnOk}
use Rattle.std.specs.Int.{w32}
use Rattle.std.proofs.lemmas.Bool.{eq-eqb, ltb-true}
use Rattle.std.proofs.lemmas.List.{reverse-append}
use mathlib.Core.Former.{Count}
use Rattle.cm_syntax.specs.declared.expr.Expr.TheVariants as expression
use Rattle.cm_syntax.specs.declared.expr.Call.{Call, Row_of-Arg, end_of-Arg, more_of-Arg, items-the_row-Arg, items_hidden-the_row-Arg-1}
use Rattle.cm_syntax.specs.declared.stmt.Stmt.{Stmt, Row_of-Stmt, end_of-Stmt, more_of-Stmt, items-the_row-Stmt, items_hidden-the_row-Stmt-1}
use Rattle.cm_syntax.specs.declared.stmt.Stmt.TheVariants as statement
use Rattle.cm_syntax.specs.declared.stmt.Slot.{Slot}
use Rattle.cm_syntax.specs.declared.stmt.Slot.TheVariants as slot
use Rattle.cm_syntax.specs.declared.stmt.Extent.{Extent}
use Rattle.cm_syntax.specs.declared.stmt.Extent.TheVariants as extent
use Rattle.cm_syntax.specs.Extent.{extent_of, extent_at}
use Rattle.cm_syntax.specs.declared.stmt.Function.{Function}
use Rattle.cm_syntax.specs.declared.stmt.Program.{Program}
use Rattle.cm_syntax.specs.Frame.{slots_words, frame_words, extent_words}
use Rattle.cm_syntax.specs.Limit.{max_frame_words}
use Rattle.cm_syntax.specs.Operator.{is_zero}
use Rattle.cm_syntax.specs.Label.{silent}
use Rattle.cm_syntax.specs.Cell.{present}
use Rattle.cm_syntax.specs.Stack.{Reference, Stack, Destination}
use Rattle.cm_syntax.specs.Rest as rest
use Rattle.cm_syntax.specs.Step.{Move, top, slots_in, slot_at, slice_in, when_readable, item_step, step, inside, is_index}
use Rattle.cm_syntax.proofs.Rows.{row_of_call, row_of_block}
use Rattle.cm_meaning.specs.declared.evaluator.Evaluator.{Evaluator}
use Rattle.cm_meaning.specs.declared.work.Hand.{Hand}
use Rattle.cm_meaning.specs.declared.work.Hand.TheVariants as hands
use Rattle.cm_meaning.specs.declared.work.Work.{Work}
use Rattle.cm_meaning.specs.declared.work.Outcome.{Outcome}
use Rattle.cm_meaning.specs.declared.work.Outcome.TheVariants as outcomes
use Rattle.cm_meaning.specs.Elision.{serial}
use Rattle.cm_meaning.specs.Meaning.{serial_step}
use Rattle.cm_meaning.specs.Typing.{IsRow, IsSetScalar, IsSetRow}
use Rattle.cm_meaning.specs.TypedState.{IsPresent, row_words, own_words, extent_length, reference_length, IsSet, AreSet, AtHand, back, at_hand, slots_at, IsReference, Inner, Outer, Running, Ready}
use Rattle.cm_meaning.specs.Layout.{calls_in, room_in, FitFrames, IsWordAt, slot_in, Shows, IsRowOf}
use Rattle.cm_meaning.specs.Evaluator.{arguments_row, statements_row, item_of, items_of, work_count, hand_of, hand_count, passed_in, control_with, control_in, IsKept, IsTypedAt, IsPlain, IsReady, IsSameRun, Leads, Does, Puts}
use Rattle.cm_meaning.proofs.TypedFramesLaw.{present_value}
use Rattle.cm_meaning.proofs.Walk.{IsNoEnd}

-- ---- states

-- the state with another hand, where this work is to be done before the rest
abbrev pub control_by : Evaluator → List Work → Hand → rest.Control
control_by ev before hand = rest.control (calls_in ev.frames) ev.account (hand_of hand (take (hand_count hand) (passed_in ev)))
    (items_of (before ++ reverse ev.rest.items) (drop (hand_count hand) (passed_in ev)))

-- a piece of work with its arguments
abbrev pub work_item : Evaluator → Work → rest.Item
work_item ev work = item_of work (take (work_count work) (passed_in ev))

-- what is behind it
abbrev pub behind_work : Evaluator → Work → List rest.Item
behind_work ev work = items_of (reverse ev.rest.items) (drop (work_count work) (passed_in ev))

-- the state before it, with no call at hand
abbrev pub control_at : Evaluator → Hand → Work → rest.Control
control_at ev y work = rest.control (calls_in ev.frames) ev.account (hand_of y []) (work_item ev work ∷ behind_work ev work)

-- the step of a piece of work
abbrev pub work_move : Evaluator → Hand → Work → Stack → Move
work_move ev y work h = item_step ev.program.now ev.page ev.input.now (control_at ev y work) h (work_item ev work) (behind_work ev work)

-- a step of the elision in place of it
abbrev pub elided : Evaluator → Stack → Move → Move
elided ev h move = serial rest.Control Stack Destination (step ev.program.now ev.page ev.input.now) inside h move

-- with no call at hand no arguments are taken for one
control_at_plain : (ev : Evaluator) (y : Hand) (work : Work) → IsPlain y → control_by ev (work ∷ []) y ≡ control_at ev y work
control_at_plain ev hands.Idle work p = refl
control_at_plain ev (hands.Value v) work p = refl
control_at_plain ev (hands.Returned v) work p = refl
control_at_plain ev (hands.Entering f n) work p = absurd p
control_at_plain ev (hands.Framing f n) work p = absurd p

-- and the first item is done
step_at_plain : (ev : Evaluator) (y : Hand) (work : Work) (h : Stack) → IsPlain y
    → step ev.program.now ev.page ev.input.now (control_at ev y work) h ≡ work_move ev y work h
step_at_plain ev hands.Idle work h p = refl
step_at_plain ev (hands.Value v) work h p = refl
step_at_plain ev (hands.Returned v) work h p = refl
step_at_plain ev (hands.Entering f n) work h p = absurd p
step_at_plain ev (hands.Framing f n) work h p = absurd p

-- with no call at hand the elision does the piece of work
pub serial_move : (ev : Evaluator) (y : Hand) (work : Work) (h : Stack) → ev.hand ≡ y → IsPlain ev.hand
    → serial_step ev.program.now ev.page ev.input.now (control_with (work ∷ []) ev) h ≡ elided ev h (work_move ev y work h)
serial_move ev y work h is p =
    let plain : IsPlain y = subst IsPlain is p in
    ap (λ c. serial_step ev.program.now ev.page ev.input.now c h) (ap (control_by ev (work ∷ [])) is ∙ control_at_plain ev y work plain)
    ∙ ap (elided ev h) (step_at_plain ev y work h plain)

-- ---- what a piece of work does

-- what is kept doesn't ask for the rest and the hand
pub kept_behind : (old new : Evaluator) (before : List Work) (hand : Hand) → Puts old before hand new → IsKept old → IsKept new
kept_behind old new before hand puts k = subst IsKept (sym puts.0) (record {
  laid = k.laid;
  program = k.program;
  typed = k.typed;
  fit = k.fit;
  account = k.account;
  room = k.room;
  page = k.page;
  input = k.input;
})

-- nor do the program, the input and the page
pub same_run : (old new : Evaluator) (before : List Work) (hand : Hand) → Puts old before hand new → IsSameRun old new
same_run old new before hand puts = record {
  program = ap (λ ev. ev.program.now) puts.0;
  input = ap (λ ev. ev.input.now) puts.0;
  page = ap (λ ev. ev.page) puts.0;
  room = ap (λ ev. room_in ev.frames) puts.0;
}

-- the state behind it
pub control_behind : (old new : Evaluator) (before : List Work) (hand : Hand) → Puts old before hand new → control_in new ≡ control_by old before hand
control_behind old new before hand puts =
    ap control_in puts.0 ∙ ap (λ works. rest.control (calls_in old.frames) old.account (hand_of hand (take (hand_count hand) (passed_in old)))
    (items_of works (drop (hand_count hand) (passed_in old)))) puts.1

-- what is at hand is kept
pub puts_held : (old new : Evaluator) (before : List Work) (y : Hand) → old.hand ≡ y → Puts old before old.hand new → Puts old before y new
puts_held old new before y is puts = subst (λ z. Puts old before z new) is puts

-- a push puts its work first
pub reverse_push : (xs ys : List Work) (x : Work) → ys ≡ xs ++ x ∷ [] → reverse ys ≡ x ∷ reverse xs
reverse_push xs ys x e = ap reverse e ∙ reverse-append xs (x ∷ [])

-- a piece of work that comes, by a silent step, to this state
pub does_by : (old new : Evaluator) (work : Work) (y : Hand) (outcome : Outcome) → IsReady old work → old.hand ≡ y → outcome ≡ outcomes.Going
    → IsKept new → IsSameRun old new
    → ((h : Stack) → IsTypedAt old (control_with (work ∷ []) old) h → (g : Stack) × (work_move old y work h ≡ silent (control_in new) g) × Shows new.frames g)
    → Does old work outcome new
does_by old new work y outcome ready is going kept same leads = record {
  kept = kept;
  same = same;
  leads = λ h at. subst (λ o. Leads o (serial_step old.program.now old.page old.input.now (control_with (work ∷ []) old) h) new) (sym going)
      (let l = leads h at in (l.0, serial_move old y work h is ready.1 ∙ ap (elided old h) l.1, l.2));
}

-- a piece of work that puts work before the rest
pub puts_does : (old new : Evaluator) (work : Work) (y : Hand) (outcome : Outcome) (before : List Work) (hand : Hand)
    → IsReady old work → old.hand ≡ y → outcome ≡ outcomes.Going → Puts old before hand new
    → ((h : Stack) → IsTypedAt old (control_with (work ∷ []) old) h → work_move old y work h ≡ silent (control_by old before hand) h)
    → Does old work outcome new
puts_does old new work y outcome before hand ready is going puts moves =
    does_by old new work y outcome ready is going (kept_behind old new before hand puts ready.0) (same_run old new before hand puts)
    (λ h at. (h, moves h at ∙ ap (λ c. silent c h) (sym (control_behind old new before hand puts)), subst (λ f. Shows f h) (sym (ap (λ ev. ev.frames) puts.0)) at.1))

-- the same by the answer of the call that puts it
pub put_does : {E : Type 0} (old new : Evaluator) (work : Work) (y : Hand) (before : List Work) (hand : Hand) (result : Result Outcome E)
    → IsReady old work → old.hand ≡ y → IfOk result (λ outcome. outcome ≡ outcomes.Going) → OnOk result (Puts old before hand new)
    → ((h : Stack) → IsTypedAt old (control_with (work ∷ []) old) h → work_move old y work h ≡ silent (control_by old before hand) h)
    → IfOk result (λ outcome. Does old work outcome new)
put_does old new work y before hand (Ok outcome) ready is going puts moves = puts_does old new work y outcome before hand ready is going puts moves
put_does old new work y before hand (Err e) ready is going puts moves = tt

-- a value is put at hand
pub hold_does : {E : Type 0} (old new : Evaluator) (work : Work) (y : Hand) (v w : ℤ) (result : Result Outcome E)
    → IsReady old work → old.hand ≡ y → IfOk result (λ outcome. outcome ≡ outcomes.Going) → OnOk result (Puts old [] (hands.Value v) new) → v ≡ w
    → ((h : Stack) → IsTypedAt old (control_with (work ∷ []) old) h → work_move old y work h ≡ silent (control_by old [] (hands.Value w)) h)
    → IfOk result (λ outcome. Does old work outcome new)
hold_does old new work y v w result ready is going puts same moves = put_does old new work y [] (hands.Value w) result ready is going
    (subst (λ v. OnOk result (Puts old [] (hands.Value v) new)) same puts) moves

-- ---- rows

-- a row is that of its items
pub arguments_row_is : (n : Count) (row : Row_of-Arg ℕ n) → arguments_row (items-the_row-Arg ℕ n row) ≡ (n, row)
arguments_row_is n end_of-Arg = refl
arguments_row_is n (more_of-Arg first more) = ap (λ p. (_, more_of-Arg first p.1)) (arguments_row_is _ more)

pub statements_row_is : (n : Count) (row : Row_of-Stmt ℕ n) → statements_row (items-the_row-Stmt ℕ n row) ≡ (n, row)
statements_row_is n end_of-Stmt = refl
statements_row_is n (more_of-Stmt first more) = ap (λ p. (_, more_of-Stmt first p.1)) (statements_row_is _ more)

-- the row of a call's arguments is that of the code's list
pub call_row : (call : Call ℕ) → row_of_call (expression.Call call) ≡ arguments_row call.arguments
call_row call = let row = row_of_call (expression.Call call) in
    sym (arguments_row_is row.0 row.1) ∙ ap arguments_row (items_hidden-the_row-Arg-1 ℕ call.arguments)

-- and of a block's statements
pub block_row : (body : List (Stmt ℕ)) → row_of_block (statement.Block body) ≡ statements_row body
block_row body = let row = row_of_block (statement.Block body) in
    sym (statements_row_is row.0 row.1) ∙ ap statements_row (items_hidden-the_row-Stmt-1 ℕ body)

-- ---- the running function

-- the running function with its items, of some calls
pub record Inside (program : Program) (h : Stack) (calls : List ℕ) (a : AtHand) (k : List rest.Item) : Type 0 where
  pub f : ℕ
  pub callers : List ℕ
  pub are : calls ≡ f ∷ callers
  pub function : Function ℕ
  pub there : slice_get program.functions f ≡ Some function
  pub set : List ℕ
  pub are_set : AreSet h (length callers) function.slots set
  pub inner : Inner program h function (f ∷ callers) (length callers) (Outer program h true callers (back function.gives)) set a k

-- some function runs where an item is to be done
pub running_inside : (program : Program) (h : Stack) (calls : List ℕ) (a : AtHand) (item : rest.Item) (k : List rest.Item) → IsNoEnd item
    → Running program h true calls a (item ∷ k) → Inside program h calls a (item ∷ k)
running_inside program h [] a item k n r = absurd (cc r.1)
running_inside program h (f ∷ calls) a rest.end k n r = absurd n
running_inside program h (f ∷ calls) a item k n (function, there, set, are_set, inner) =
    record { f = f; callers = calls; are = refl; function = function; there = there; set = set; are_set = are_set; inner = inner }

-- the running function at a piece of work, with the value that is at hand or whatever is
pub ready_inside : (ev : Evaluator) (work : Work) (y : Hand) (h : Stack) → ev.hand ≡ y → IsPlain ev.hand → IsNoEnd (work_item ev work)
    → IsTypedAt ev (control_with (work ∷ []) ev) h
    → Inside ev.program.now h (calls_in ev.frames) (at_hand (hand_of y [])) (work_item ev work ∷ behind_work ev work)
ready_inside ev work y h is p n at = by y plain (subst (λ c. Ready ev.program.now h true c.calls c.hand c.rest)
    (ap (control_by ev (work ∷ [])) is ∙ control_at_plain ev y work plain) at.0.rest)
  where
    plain : IsPlain y
    plain = subst IsPlain is p

    by : (y : Hand) → IsPlain y → Ready ev.program.now h true (calls_in ev.frames) (hand_of y []) (work_item ev work ∷ behind_work ev work)
        → Inside ev.program.now h (calls_in ev.frames) (at_hand (hand_of y [])) (work_item ev work ∷ behind_work ev work)
    by hands.Idle p r = running_inside ev.program.now h (calls_in ev.frames) _ (work_item ev work) (behind_work ev work) n r
    by (hands.Value v) p r = running_inside ev.program.now h (calls_in ev.frames) _ (work_item ev work) (behind_work ev work) n r
    by (hands.Returned v) p r = running_inside ev.program.now h (calls_in ev.frames) _ (work_item ev work) (behind_work ev work) n r
    by (hands.Entering f count) p r = absurd p
    by (hands.Framing f count) p r = absurd p

-- ---- what is tested and read

-- a word with other bits than 0 isn't 0
pub word_is_true : (v : ℤ) → (of_z w32 v ≡ 0 → ⊥) → is_zero v ≡ false
word_is_true (pos zero) h = absurd (h refl)
word_is_true (pos (suc n)) h = refl
word_is_true (negsuc n) h = refl

-- ---- the words of a row are within a frame

row_within : (slots : List Slot) (x : ℕ) → row_words (slice_get slots x) ≤ slots_words slots
row_within [] x = omega arith
row_within (first ∷ more) zero = omega (arith, one (extent_of first))
  where
    one : (e : Extent) → own_words (Some e) ≤ extent_words e
    one extent.Word = omega arith
    one (extent.Words n) = omega arith
    one extent.Reference = omega arith
row_within (first ∷ more) (suc x) = omega (arith, row_within more x)

function_row : (o : Option (Function ℕ)) (x : ℕ) → ((function : Function ℕ) → o ≡ Some function → frame_words function ≤ max_frame_words)
    → row_words (slice_get (slots_in o) x) ≤ max_frame_words
function_row None x fit = omega arith
function_row (Some function) x fit = omega (arith, fit function refl, row_within function.slots x)

pub row_small : (program : Program) → FitFrames program → (calls : List ℕ) (d x : ℕ) → row_words (slice_get (slots_at program calls d) x) ≤ max_frame_words
row_small program fit [] d x = omega arith
row_small program fit (f ∷ calls) d x = by (d == length calls) (row_small program fit calls d x)
  where
    by : (b : Bool) → row_words (slice_get (slots_at program calls d) x) ≤ max_frame_words
        → row_words (slice_get (if b then slots_in (slice_get program.functions f) else slots_at program calls d) x) ≤ max_frame_words
    by true below = function_row (slice_get program.functions f) x (fit f)
    by false below = below

slots_of_first : (program : Program) (f : ℕ) (callers : List ℕ) (function : Function ℕ) → slice_get program.functions f ≡ Some function
    → slots_at program (f ∷ callers) (length callers) ≡ function.slots
slots_of_first program f callers function there = let one : (length callers == length callers) ≡ true = eq-eqb (length callers) (length callers) refl in rw (one, there) refl

-- ---- a row of the running function

-- what a reference to a row of the running function tells
pub record RowAt (program : Program) (h : Stack) (calls : List ℕ) (depth : ℕ) (kind : Option Extent) (x : ℕ) (r : Reference) : Type 0 where
  pub fits : IsReference program h calls r
  pub reads : (goes_on : Reference → Move) → slice_in calls h kind x goes_on ≡ goes_on r
  pub length : extent_length h depth x kind ≡ r.length

module _ (program : Program) (h : Stack) (calls : List ℕ) (x : ℕ) (r : Reference)
    (refers : (d s : ℕ) (r : Reference) → h.references d s ≡ present r → (r.depth ≤ d) × IsReference program h calls r)
    (live : top calls < length calls) where
  row_by : (o : Option Slot) → slice_get (slots_at program calls (top calls)) x ≡ o → IsRow o → IsSet h (top calls) x o → IsRowOf h calls x o r
      → RowAt program h calls (top calls) (option_map extent_of o) x r
  row_by None at row set is = absurd row
  row_by (Some slot.Scalar) at row set is = absurd row
  row_by (Some (slot.Array n)) at row set is = subst (RowAt program h calls (top calls) (Some (extent.Words n)) x) (sym is) (record {
    fits = record { live = live; within = omega (arith, ap row_words at); set = λ i l m. set i (omega arith) };
    reads = λ goes_on. refl;
    length = refl;
  })
  row_by (Some slot.Slice) at row set is =
      let p = present_value (h.references (top calls) x) set in
      subst (RowAt program h calls (top calls) (Some extent.Reference) x) (sym (is p.0 p.1)) (record {
        fits = (refers (top calls) x p.0 p.1).1;
        reads = λ goes_on. ap (λ c. when_readable c goes_on) p.1;
        length = ap reference_length p.1;
      })

-- ---- the running function at a state that is kept

module _ (ev : Evaluator) (kept : IsKept ev) (h : Stack) (a : AtHand) (k : List rest.Item) (inside : Inside ev.program.now h (calls_in ev.frames) a k) where
  pub top_is : top (calls_in ev.frames) ≡ length inside.callers
  top_is = ap top inside.are

  pub top_lives : top (calls_in ev.frames) < length (calls_in ev.frames)
  top_lives = omega (arith, top_is, ap length inside.are)

  pub slots_are : slots_at ev.program.now (calls_in ev.frames) (top (calls_in ev.frames)) ≡ inside.function.slots
  slots_are = ap (λ calls. slots_at ev.program.now calls (top calls)) inside.are
      ∙ slots_of_first ev.program.now inside.f inside.callers inside.function inside.there

  -- what a slot is
  pub slot_is : (x : ℕ) → slot_in ev.frames x ≡ slice_get inside.function.slots x
  slot_is x = ap (λ p. slice_get (slots_at p (calls_in ev.frames) (top (calls_in ev.frames))) x) kept.program ∙ ap (λ slots. slice_get slots x) slots_are

  pub slot_at_is : (x : ℕ) → slot_at ev.program.now ev.page ev.input.now (calls_in ev.frames) x ≡ extent_at inside.function.slots x
  slot_at_is x = ap (λ calls. slot_at ev.program.now ev.page ev.input.now calls x) inside.are ∙ ap (λ o. extent_at (slots_in o) x) inside.there

  pub scalar_value : (x : ℕ) → IsSetScalar ev.program.now.functions inside.function.slots inside.set x
      → (v : ℤ) × (h.words (top (calls_in ev.frames)) x 0 ≡ present v)
  scalar_value x s =
      let there : IsSet h (length inside.callers) x (Some slot.Scalar) = subst (IsSet h (length inside.callers) x) s.1 (inside.are_set x s.0) in
      present_value _ (subst (λ d. IsPresent (h.words d x 0)) (sym top_is) (there 0 (omega arith)))

  -- an array or a slice that was set
  pub row_at : (x : ℕ) (r : Reference) → ((d s : ℕ) (r : Reference) → h.references d s ≡ present r → (r.depth ≤ d) × IsReference ev.program.now h (calls_in ev.frames) r)
      → IsSetRow ev.program.now.functions inside.function.slots inside.set x → IsRowOf h (calls_in ev.frames) x (slot_in ev.frames x) r
      → RowAt ev.program.now h (calls_in ev.frames) (top (calls_in ev.frames)) (extent_at inside.function.slots x) x r
  row_at x r refers s is = row_by ev.program.now h (calls_in ev.frames) x r refers top_lives (slice_get inside.function.slots x) (ap (λ slots. slice_get slots x) slots_are) s.1
      (subst (λ d. IsSet h d x (slice_get inside.function.slots x)) (sym top_is) (inside.are_set x s.0))
      (subst (λ o. IsRowOf h (calls_in ev.frames) x o r) (slot_is x) is)

  -- the same as a step reads it
  pub row_read : (x : ℕ) (r : Reference) → ((d s : ℕ) (r : Reference) → h.references d s ≡ present r → (r.depth ≤ d) × IsReference ev.program.now h (calls_in ev.frames) r)
      → IsSetRow ev.program.now.functions inside.function.slots inside.set x → IsRowOf h (calls_in ev.frames) x (slot_in ev.frames x) r
      → RowAt ev.program.now h (calls_in ev.frames) (top (calls_in ev.frames)) (slot_at ev.program.now ev.page ev.input.now (calls_in ev.frames) x) x r
  row_read x r refers s is = subst (λ o. RowAt ev.program.now h (calls_in ev.frames) (top (calls_in ev.frames)) o x r) (sym (slot_at_is x)) (row_at x r refers s is)

  -- a slot that is one is there
  pub row_there : (x : ℕ) → IsRow (slice_get inside.function.slots x) → IsSome (slot_in ev.frames x)
  row_there x row = subst IsSome (sym (slot_is x)) (by (slice_get inside.function.slots x) row)
    where
      by : (o : Option Slot) → IsRow o → IsSome o
      by None row = absurd row
      by (Some kind) row = refl

-- a word of a row
pub row_word : (ev : Evaluator) → IsKept ev → (h : Stack) (r : Reference) → IsReference ev.program.now h (calls_in ev.frames) r
    → (i : ℕ) → i < r.length → IsWordAt ev.frames r.depth r.slot (r.start + i)
row_word ev kept h r fits i low = (fits.live, by (sym kept.program) fits.within)
  where
    by : {p : Program} → ev.program.now ≡ p → r.start + r.length ≤ row_words (slice_get (slots_at ev.program.now (calls_in ev.frames) r.depth) r.slot)
        → r.start + i < row_words (slice_get (slots_at p (calls_in ev.frames) r.depth) r.slot)
    by same within = omega (arith, within, low, ap (λ p. row_words (slice_get (slots_at p (calls_in ev.frames) r.depth) r.slot)) same)

pub row_word_value : (ev : Evaluator) (h : Stack) (r : Reference) → IsReference ev.program.now h (calls_in ev.frames) r
    → (i : ℕ) → i < r.length → (v : ℤ) × (h.words r.depth r.slot (r.start + i) ≡ present v)
row_word_value ev h r fits i low = present_value _ (fits.set (r.start + i) (omega arith) (omega arith))

-- its words are few
pub row_few : (ev : Evaluator) → IsKept ev → (h : Stack) (r : Reference) → IsReference ev.program.now h (calls_in ev.frames) r → r.start + r.length ≤ max_frame_words
row_few ev kept h r fits = omega (arith, fits.within, row_small ev.program.now kept.fit (calls_in ev.frames) r.depth r.slot)

-- ---- indices

-- an index that is inside is a number below the count
pub index_is : (v : ℤ) (count : ℕ) → is_index v count ≡ true → (n : ℕ) × (v ≡ pos n) × (n < count)
index_is (pos n) count e = (n, refl, ltb-true n count e)
index_is (negsuc n) count e = absurd (cc e)
