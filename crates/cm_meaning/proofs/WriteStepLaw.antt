-- What the pieces of work of statements do that look at frames or change them.
use Rattle.std.proofs.Common.{◌≡◌, ℕ, zero, suc, ◌+◌, ◌*◌, ◌<◌, ◌≤◌, List, [], ◌∷◌, ◌++◌, length, reverse, drop, Option, None, Some, refl, sym, ap, ◌∙◌, subst, arith}
use Rattle.std.specs.Prelude.{true, ◌&&◌, if◌then◌else◌, ℤ, pos, negsuc, unsigned_abs, slice_get, IfOk, OnOk, Result, Ok, Err}
use Rattle.std.specs.Borrow.{Bor}
use Rattle.cm_text.specs.declared.error.Memory.{Memory}
use Rattle.cm_syntax.specs.declared.expr.Op.{Op}
use Rattle.cm_syntax.specs.declared.stmt.Slot.TheVariants as slot
use Rattle.cm_syntax.specs.Extent.{extent_of, extent_at}
use Rattle.cm_syntax.specs.declared.stmt.Item as items
use Rattle.cm_syntax.specs.declared.stmt.Stmt.{Stmt}
use Rattle.cm_syntax.specs.Label.{silent, traps, stuck}
use Rattle.cm_syntax.specs.Trap as kind
use Rattle.cm_syntax.specs.Operator.{natural}
use Rattle.cm_syntax.specs.Cell.{Cell, present, may_write}
use Rattle.cm_syntax.specs.Stack.{Reference, Stack, may_write_all, clear_words, write_parts}
use Rattle.cm_syntax.specs.Rest as rest
use Rattle.cm_syntax.specs.Step.{Move, top, to, when_writable, write_step, is_split, slice_in, declare_item, item_step}
use Rattle.cm_meaning.specs.declared.evaluator.Evaluator.{Evaluator}
use Rattle.cm_meaning.specs.declared.frames.Frames.{Frames}
use Rattle.cm_meaning.specs.declared.reference.Reference as declared
use Rattle.cm_meaning.specs.declared.work.Hand.{Hand}
use Rattle.cm_meaning.specs.declared.work.Hand.TheVariants as hands
use Rattle.cm_meaning.specs.declared.work.Work.{Work}
use Rattle.cm_meaning.specs.declared.work.Work.TheVariants as works
use Rattle.cm_meaning.specs.declared.work.Outcome.{Outcome}
use Rattle.cm_meaning.specs.declared.work.Outcome.TheVariants as outcomes
use Rattle.cm_meaning.specs.Typing.{TypedItems}
use Rattle.cm_meaning.specs.TypedState.{IsPresent, row_words, row_length, at_hand}
use Rattle.cm_meaning.specs.Layout.{reference_of, calls_in, frames_words, slot_in, IsWordAt, IsLaidOut, IsSamePlace, Shows, ShowsAfter, IsRowOf}
use Rattle.cm_meaning.specs.Measure.{cilk_frames}
use Rattle.cm_meaning.specs.Doing.{items_behind, control_before, IsOpen, Writes}
use Rattle.cm_meaning.specs.Evaluator.{statements_row, items_of, hand_count, passed_in, work_count, control_with, IsKept, IsTypedAt, IsReady, Leads, Does, Puts}
use Rattle.cm_syntax.proofs.AccessLaw.{writes_on}
use Rattle.cm_meaning.proofs.StatementStepLaw.{of_ok}
use Rattle.cm_meaning.proofs.EvaluatorLaw.{control_by, control_at, behind_work, work_move, elided, serial_move, kept_behind, same_run, control_behind, does_by, put_does, Inside, ready_inside, RowAt, row_at, row_word, row_word_value, row_few, scalar_value, slot_is, slot_at_is, top_is, top_lives}
use Rattle.cm_meaning.specs.Range.{max_stack_words}

-- ---- the statements of a block

-- a list of no length
no_statements : (xs : List (Stmt ℕ)) → length xs ≡ 0 → xs ≡ []
no_statements [] e = refl
no_statements (x ∷ xs) e = absurd (cc e)

-- one statement after another, or none
module _ (old new : Evaluator) (row : Bor (List (Stmt ℕ))) (r : Result Outcome Memory) (ready : IsReady old (works.Sequence row)) (going : IfOk r (λ o. o ≡ outcomes.Going)) where
  -- what the sequence does where it is of these statements
  abbrev sequence_move : List (Stmt ℕ) → Stack → Move
  sequence_move xs h = item_step old.program.now old.page old.input.now (control_at old old.hand (works.Sequence row)) h (rest.sequence (statements_row xs).1)
      (behind_work old (works.Sequence row))

  pub does_no_statement : length row.now ≡ 0 → OnOk r (Puts old [] hands.Idle new) → IfOk r (λ o. Does old (works.Sequence row) o new)
  does_no_statement none put = put_does old new (works.Sequence row) old.hand [] hands.Idle r ready refl going put (λ h at. ap (λ xs. sequence_move xs h) (no_statements row.now none))

  pub does_statements : (first : Bor (Stmt ℕ)) (more : Bor (List (Stmt ℕ))) → row.now ≡ first.now ∷ more.now
      → OnOk r (Puts old (works.Perform first ∷ works.Sequence more ∷ []) hands.Idle new) → IfOk r (λ o. Does old (works.Sequence row) o new)
  does_statements first more is put =
      put_does old new (works.Sequence row) old.hand (works.Perform first ∷ works.Sequence more ∷ []) hands.Idle r ready refl going put (λ h at. ap (λ xs. sequence_move xs h) is)

-- ---- other frames

-- the run with other frames
abbrev with_frames : Evaluator → Frames → Evaluator
with_frames ev frames = record {
  program = ev.program;
  input = ev.input;
  page = ev.page;
  account = ev.account;
  hand = ev.hand;
  rest = ev.rest;
  passed = ev.passed;
  frames = frames;
}

-- frames of the same calls, which are kept
pub record Renewed (old new : Frames) : Type 0 where
  pub laid : IsLaidOut new
  pub place : IsSamePlace old new
  pub calls : calls_in new ≡ calls_in old

-- what is kept is kept with them
kept_with : (ev : Evaluator) (frames : Frames) → IsKept ev → Renewed ev.frames frames → IsKept (with_frames ev frames)
kept_with ev frames k re = record {
  laid = re.laid;
  program = re.place.program ∙ k.program;
  typed = k.typed;
  fit = k.fit;
  account = ap (λ calls. ev.account + (4 * frames_words ev.program.now calls + ev.page * cilk_frames ev.program.now calls)) re.calls ∙ k.account
      ∙ ap (λ n. 4 * n) (sym re.place.room);
  room = omega (arith, re.place.room, k.room);
  page = k.page;
  input = k.input;
}

-- a piece of work that puts this work before the rest, and other frames in place of the old ones
pub frames_put : (old new : Evaluator) (frames : Frames) (work : Work) (y : Hand) (before : List Work) (r : Result Outcome Memory)
    → IsReady old work → old.hand ≡ y → Renewed old.frames frames → IfOk r (λ o. o ≡ outcomes.Going) → OnOk r (Puts (with_frames old frames) before hands.Idle new)
    → ((h : Stack) → IsTypedAt old (control_with (work ∷ []) old) h
    → (g : Stack) × (work_move old y work h ≡ silent (control_by old before hands.Idle) g) × Shows frames g)
    → IfOk r (λ o. Does old work o new)
frames_put old new frames work y before (Err e) ready is re going puts moves = tt
frames_put old new frames work y before (Ok o) ready is re going puts moves =
    let mid = with_frames old frames in
    let same = same_run mid new before hands.Idle puts in
    does_by old new work y o ready is going (kept_behind mid new before hands.Idle puts (kept_with old frames ready.0 re))
    (record { program = same.program; input = same.input; page = same.page; room = same.room ∙ re.place.room })
    (λ h at. let m = moves h at in (
      m.0,
      m.1 ∙ ap (λ calls. silent (rest.control calls old.account rest.idle (items_of (before ++ reverse old.rest.items) (passed_in old))) m.0) (sym re.calls)
          ∙ ap (λ c. silent c m.0) (sym (control_behind mid new before hands.Idle puts)),
      subst (λ f. Shows f m.0) (sym (ap (λ ev. ev.frames) puts.0)) m.2,
    ))

-- ---- a word that is written

-- what the run did comes by the step as the elision takes it
elided_leads : (old new : Evaluator) (h : Stack) (move : Move) (o : Outcome) → Leads o move new → Leads o (elided old h move) new
elided_leads old new h move outcomes.Going (g, is, shows) = (g, ap (elided old h) is, shows)
elided_leads old new h move outcomes.Tick (g, is, shows) = (g, ap (elided old h) is, shows)
elided_leads old new h move (outcomes.Printed v) (g, is, shows) = (g, ap (elided old h) is, shows)
elided_leads old new h move (outcomes.Trapped kind) is = ap (elided old h) is
elided_leads old new h move (outcomes.Ended v) is = ap (elided old h) is

-- a step that writes looks only at what the next state has of this one
write_same : (c e : rest.Control) (h : Stack) (d s i : ℕ) (op : Option Op) (v : ℤ) (k : List rest.Item) → c.calls ≡ e.calls → c.account ≡ e.account
    → write_step c h d s i op v k ≡ write_step e h d s i op v k
write_same c e h d s i None v k calls account = λ j. write_step (rest.control (calls j) (account j) rest.idle []) h d s i None v k
write_same c e h d s i (Some o) v k calls account = λ j. write_step (rest.control (calls j) (account j) rest.idle []) h d s i (Some o) v k

-- a piece of work that writes a word
pub writes_does : (old new : Evaluator) (work : Work) (y : Hand) (o : Outcome) (d s i : ℕ) (op : Option Op) (v : ℤ)
    → IsReady old work → old.hand ≡ y → hand_count y ≡ 0 → work_count work ≡ 0 → Writes old d s i op v o new
    → ((h : Stack) → IsTypedAt old (control_with (work ∷ []) old) h → IsOpen op (h.words d s i)
    × (work_move old y work h ≡ write_step (control_at old y work) h d s i op v (behind_work old work)))
    → Does old work o new
writes_does old new work y o d s i op v ready is none none_too writes moves = record {
  kept = writes.kept;
  same = writes.same;
  leads = λ h at. let m = moves h at in
      subst (λ move. Leads o move new) (sym (serial_move old y work h is ready.1 ∙ ap (elided old h) (m.1 ∙ as_written h)))
      (elided_leads old new h _ o (writes.leads h at.1 m.0));
}
  where
    count : hand_count old.hand ≡ work_count work
    count = ap hand_count is ∙ none ∙ sym none_too

    as_written : (h : Stack) → write_step (control_at old y work) h d s i op v (behind_work old work) ≡ write_step (control_before rest.tick old) h d s i op v (items_behind old)
    as_written h = write_same (control_at old y work) (control_before rest.tick old) h d s i op v (behind_work old work) refl refl
        ∙ ap (λ n. write_step (control_before rest.tick old) h d s i op v (items_of (reverse old.rest.items) (drop n (passed_in old)))) (sym count)

-- a word that is present may be written and updated
open_present : (op : Option Op) (cell : Cell ℤ) (v : ℤ) → cell ≡ present v → IsOpen op cell
open_present None cell v is = ap may_write is
open_present (Some o) cell v is = subst IsPresent (sym is) tt

-- the value at hand updates a scalar
pub does_update : (old new : Evaluator) (x : ℕ) (op : Op) (v w : ℤ) (d : ℕ) (r : Result Outcome Memory) → w ≡ v
    → IsReady old (works.Update x op) → old.hand ≡ hands.Value v → d ≡ top (calls_in old.frames)
    → IfOk r (λ o. Writes old d x 0 (Some op) w o new) → IfOk r (λ o. Does old (works.Update x op) o new)
does_update old new x op v w d r same ready is at_top writes =
    of_ok r (λ o. Writes old d x 0 (Some op) v o new) (λ o. Does old (works.Update x op) o new)
    (subst (λ w. IfOk r (λ o. Writes old d x 0 (Some op) w o new)) same writes) (λ o wrote.
    writes_does old new (works.Update x op) (hands.Value v) o d x 0 (Some op) v ready is refl refl wrote (λ h at.
    let inside = ready_inside old (works.Update x op) (hands.Value v) h is ready.1 tt at in
    let word = scalar_value old ready.0 h _ _ inside x inside.inner.1 in (
      open_present (Some op) (h.words d x 0) word.0 (ap (λ d. h.words d x 0) at_top ∙ word.1),
      ap (λ d. write_step (control_at old (hands.Value v) (works.Update x op)) h d x 0 (Some op) v (behind_work old (works.Update x op))) (sym at_top),
    )))

-- ---- the words of a row

-- the value of an element is at hand
module _ (old : Evaluator) (x i : ℕ) (op : Option Op) (v : ℤ) (row : declared.Reference) (ready : IsReady old (works.Store x i op)) (is : old.hand ≡ hands.Value v)
    (found : (h : Stack) → Shows old.frames h → IsRowOf h (calls_in old.frames) x (slot_in old.frames x) (reference_of row)) where
  -- the element
  pub record StoreAt (h : Stack) : Type 0 where
    pub inside : Inside old.program.now h (calls_in old.frames) (at_hand (rest.holds v)) (rest.store x i op ∷ behind_work old (works.Store x i op))
    pub at_row : RowAt old.program.now h (calls_in old.frames) (top (calls_in old.frames)) (extent_at inside.function.slots x) x (reference_of row)
    pub low : i < row.length

  store_at : (h : Stack) → IsTypedAt old (control_with (works.Store x i op ∷ []) old) h → StoreAt h
  store_at h at =
      let inside = ready_inside old (works.Store x i op) (hands.Value v) h is ready.1 tt at in
      let at_row = row_at old ready.0 h _ _ inside x (reference_of row) at.0.refers inside.inner.1 (found h at.1) in
      record {
        inside = inside;
        at_row = at_row;
        low = omega (arith, inside.inner.3, at_row.length, ap (λ d. row_length h d x (slice_get inside.function.slots x)) (top_is old ready.0 h _ _ inside));
      }

  -- it is a word
  pub store_there : IsWordAt old.frames row.depth row.slot (row.start + i)
  store_there = let s = store_at ready.2 ready.3 in row_word old ready.0 ready.2 (reference_of row) s.at_row.fits i s.low

  -- its index is small
  pub store_few : row.start + i < max_stack_words
  store_few = let s = store_at ready.2 ready.3 in omega (arith, s.low, row_few old ready.0 ready.2 (reference_of row) s.at_row.fits)

  -- the value goes into it
  pub does_store : (new : Evaluator) (w : ℤ) (r : Result Outcome Memory) → w ≡ v
      → IfOk r (λ o. Writes old row.depth row.slot (row.start + i) op w o new) → IfOk r (λ o. Does old (works.Store x i op) o new)
  does_store new w r same writes =
      let work = works.Store x i op in
      let c = control_at old (hands.Value v) work in
      let k = behind_work old work in
      of_ok r (λ o. Writes old row.depth row.slot (row.start + i) op v o new) (λ o. Does old work o new)
      (subst (λ w. IfOk r (λ o. Writes old row.depth row.slot (row.start + i) op w o new)) same writes) (λ o wrote.
      writes_does old new work (hands.Value v) o row.depth row.slot (row.start + i) op v ready is refl refl wrote (λ h at.
      let s = store_at h at in
      let word = row_word_value old h (reference_of row) s.at_row.fits i s.low in (
        open_present op (h.words row.depth row.slot (row.start + i)) word.0 word.1,
        ap (λ kind. slice_in (calls_in old.frames) h kind x (λ (r : Reference). write_step c h r.depth r.slot (r.start + i) op v k)) (slot_at_is old ready.0 h _ _ s.inside x)
            ∙ s.at_row.reads (λ r. write_step c h r.depth r.slot (r.start + i) op v k),
      )))

-- ---- parts and arrays

-- a place where a row may be split is a natural number
pub split_natural : (v w : ℤ) (n : ℕ) → w ≡ v → is_split v n ≡ true → unsigned_abs w ≡ natural v
split_natural (pos m) w n same fits = ap unsigned_abs same
split_natural (negsuc m) w n same fits = absurd (cc fits)

-- all words of an array may be written where each may
all_held : (words : ℕ → Cell ℤ) (n : ℕ) → ((i : ℕ) → may_write (words i) ≡ true) → may_write_all words n ≡ true
all_held words zero held = refl
all_held words (suc n) held = ap (λ b. b && may_write_all words n) (held n) ∙ all_held words n held

-- where a row is split is at hand
module _ (old : Evaluator) (x left right : ℕ) (row : Bor (List (Stmt ℕ))) (v : ℤ) (whole : declared.Reference) (ready : IsReady old (works.Part x left right row))
    (is : old.hand ≡ hands.Value v) (found : (h : Stack) → Shows old.frames h → IsRowOf h (calls_in old.frames) x (slot_in old.frames x) (reference_of whole)) where
  -- the row that is parted
  pub record PartAt (h : Stack) : Type 0 where
    pub inside : Inside old.program.now h (calls_in old.frames) (at_hand (rest.holds v)) (rest.part x left right (statements_row row.now).1 ∷ behind_work old (works.Part x left right row))
    pub at_row : RowAt old.program.now h (calls_in old.frames) (top (calls_in old.frames)) (extent_at inside.function.slots x) x (reference_of whole)

  part_at : (h : Stack) → IsTypedAt old (control_with (works.Part x left right row ∷ []) old) h → PartAt h
  part_at h at =
      let inside = ready_inside old (works.Part x left right row) (hands.Value v) h is ready.1 tt at in
      record { inside = inside; at_row = row_at old ready.0 h _ _ inside x (reference_of whole) at.0.refers inside.inner.1 (found h at.1) }

  -- its words are few
  pub part_few : whole.start + whole.length ≤ max_stack_words
  part_few = omega (arith, row_few old ready.0 ready.2 (reference_of whole) (part_at ready.2 ready.3).at_row.fits)

  -- it is parted there
  pub does_part : (new : Evaluator) (frames : Frames) (count : ℕ) (r : Result Outcome Memory) → is_split v whole.length ≡ true → count ≡ natural v
      → Renewed old.frames frames → ShowsAfter old.frames frames (λ h. write_parts h (top (calls_in old.frames)) left right (reference_of whole) count)
      → IfOk r (λ o. o ≡ outcomes.Going) → OnOk r (Puts (with_frames old frames) (works.Sequence row ∷ []) hands.Idle new)
      → IfOk r (λ o. Does old (works.Part x left right row) o new)
  does_part new frames count r fits same re shows going put =
      let work = works.Part x left right row in
      let calls = calls_in old.frames in
      let d = top calls in
      let c = control_at old (hands.Value v) work in
      let k = behind_work old work in
      frames_put old new frames work (hands.Value v) (works.Sequence row ∷ []) r ready is re going put (λ h at.
      let p = part_at h at in
      let live = top_lives old ready.0 h _ _ p.inside in
      let end : Move = silent (to c (rest.sequence (statements_row row.now).1 ∷ k)) (write_parts h d left right (reference_of whole) (natural v)) in
      let goes : Reference → Move = λ r. if is_split v r.length then when_writable (h.references d left) (when_writable (h.references d right)
      (silent (to c (rest.sequence (statements_row row.now).1 ∷ k)) (write_parts h d left right r (natural v)))) else traps kind.Index in (
        write_parts h d left right (reference_of whole) (natural v),
        ap (λ kind. slice_in calls h kind x goes) (slot_at_is old ready.0 h _ _ p.inside x) ∙ p.at_row.reads goes
            ∙ ap (λ b. if b then when_writable (h.references d left) (when_writable (h.references d right) end) else traps kind.Index) fits
            ∙ writes_on (h.references d left) _ (at.0.references d left live) ∙ writes_on (h.references d right) end (at.0.references d right live),
        subst (λ n. Shows frames (write_parts h d left right (reference_of whole) n)) same (shows h at.1),
      ))

-- an array is declared, which is all 0
pub does_array : (old new : Evaluator) (frames : Frames) (row more : Bor (List (items.Item ℕ))) (item : items.Item ℕ) (n : ℕ) (r : Result Outcome Memory)
    → IsReady old (works.Declare row) → row.now ≡ item ∷ more.now → item.slot ≡ slot.Array n → Renewed old.frames frames
    → ShowsAfter old.frames frames (λ h. clear_words h (top (calls_in old.frames)) item.name.name (row_words (slot_in old.frames item.name.name)))
    → IfOk r (λ o. o ≡ outcomes.Going) → OnOk r (Puts (with_frames old frames) (works.Declare more ∷ []) hands.Idle new)
    → IfOk r (λ o. Does old (works.Declare row) o new)
does_array old new frames row more item n r ready is array re shows going put =
    let work = works.Declare row in
    let x = item.name.name in
    let d = top (calls_in old.frames) in
    let c = control_at old old.hand work in
    let k = behind_work old work in
    frames_put old new frames work old.hand (works.Declare more ∷ []) r ready refl re going put (λ h at.
    let inside = ready_inside old work old.hand h refl ready.1 tt at in
    let live = top_lives old ready.0 h _ _ inside in
    let typed = subst (λ xs. TypedItems old.program.now.functions inside.function.slots inside.set xs) is inside.inner.0 in
    let words : row_words (slot_in old.frames x) ≡ n = ap row_words (slot_is old ready.0 h _ _ inside x ∙ typed.0 ∙ ap (λ s. Some s) array) in (
      clear_words h d x n,
      ap (λ xs. item_step old.program.now old.page old.input.now c h (rest.declare xs) k) is ∙ ap (λ s. declare_item c h x (extent_of s) item.first more.now k) array
          ∙ ap (λ b. if b then silent (to c (rest.declare more.now ∷ k)) (clear_words h d x n) else stuck) (all_held (h.words d x) n (λ i. at.0.words d x i live)),
      subst (λ n. Shows frames (clear_words h d x n)) words (shows h at.1),
    ))
