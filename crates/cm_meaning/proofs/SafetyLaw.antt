-- A step of the elision leads from a typed state to a typed one, or the run ends.
use Rattle.std.proofs.Common.{◌≡◌, ℕ, List, [], ◌∷◌, ◌++◌, length, Option, Some, refl, sym, ap, ◌∙◌, subst}
use Rattle.std.proofs.lemmas.List.{length-map}
use Rattle.std.specs.Prelude.{Bool, true, false, if◌then◌else◌, nat_le, ◌-◌, ℤ, slice_get, is_some}
use Rattle.cm_syntax.specs.declared.stmt.Function.{Function}
use Rattle.cm_syntax.specs.declared.stmt.Program.{Program}
use Rattle.cm_syntax.specs.Trap as kind
use Rattle.cm_syntax.specs.Fault.{parameter_slots}
use Rattle.cm_syntax.specs.Label.{silent, traps}
use Rattle.cm_syntax.specs.Cell.{absent, present}
use Rattle.cm_syntax.specs.Stack.{Reference, Stack, Argument, empty_stack, push_frame, pop_frame}
use Rattle.cm_syntax.specs.Rest.{Item, body, fall, join, end, Hand, idle, holds, returned, entering, framing, Control, control}
use Rattle.cm_syntax.specs.Step.{start_of, hand_value, call_bytes_in, push_call, end_call, item_step, hand_step}
use Rattle.cm_meaning.specs.Elision as elision
use Rattle.cm_meaning.specs.Meaning.{serial_step, Comes, GetsStuck}
use Rattle.cm_meaning.specs.Typing.{numbers_below, TypedFunction, TypedProgram}
use Rattle.cm_meaning.specs.TypedState.{AreSet, AtHand, back, at_hand, at_join, Leaving, Outer, Running, Calling, Ready, TypedState, KeepsTyped}
use Rattle.cm_meaning.proofs.GrowthLaw.{outer_moves}
use Rattle.cm_meaning.proofs.TypedFramesLaw.{IsPlain, state, frames_of, running, Frames, popped_grows, pushed_grows, popped_frames, pushed_frames, pushed_sets, no_less, cons_empty}
use Rattle.cm_meaning.proofs.ItemLaw.{elided, ok_item}

module _ (program : Program) (page : ℕ) (input : List ℤ) (gives : Bool) where
  -- ---- calls that begin and end

  -- the value at the end of a call is there where its function gives one
  gives_of : (hand : Hand) (g : Bool) → IsPlain hand → at_hand hand ≡ at_join g → g ≡ is_some (hand_value hand)
  gives_of idle false p e = refl
  gives_of (holds v) true p e = refl
  gives_of idle true p e = cc e
  gives_of (holds v) false p e = cc e
  gives_of (returned v) true p e = cc e
  gives_of (returned v) false p e = cc e
  gives_of (entering l ws) g p e = absurd p
  gives_of (framing l ws) g p e = absurd p

  -- the end of a call
  ok_end : (f : ℕ) (calls : List ℕ) (account : ℕ) (hand : Hand) (rest k : List Item) (h : Stack) (function : Function ℕ) → Frames program (f ∷ calls) h → IsPlain hand
      → Leaving program h function (f ∷ calls) (length calls) (Outer program h gives calls (back function.gives)) (at_hand hand) (end ∷ k)
      → KeepsTyped program gives (elided program page input gives h (end_call program page input (control (f ∷ calls) account hand rest) h (f ∷ calls) k))
  ok_end f calls account hand rest k h function frames p i =
      let g = pop_frame h (length calls) in
      let o = outer_moves program h g gives calls (back function.gives) k (popped_grows (length calls) h) i.1 in
      state program gives calls _ (returned (hand_value hand)) k g (popped_frames program f calls h frames)
      (running program gives calls g (returned (hand_value hand)) k tt (subst (λ b. Outer program g gives calls (back b) k) (gives_of hand function.gives p i.0) o))

  -- a call gets its frame
  ok_push : (calls : List ℕ) (account : ℕ) (hand : Hand) (rest : List Item) (h : Stack) (f : ℕ) (ws : List Argument) (k : List Item) → TypedProgram program → Frames program calls h
      → Calling program h gives calls f ws k → KeepsTyped program gives (elided program page input gives h (push_call program page input (control calls account hand rest) h f ws k (slice_get program.functions f)))
  ok_push calls account hand rest h f ws k typed frames (function, is, fits, even, o) = subst (λ z. KeepsTyped program gives (elided program page input gives h (push_call program page input (control calls account hand rest) h f ws k z))) (sym is)
      (by (nat_le (call_bytes_in page (Some function)) account))
    where
      one : TypedFunction program.functions function
      one = typed.functions f function is

      sets : AreSet (push_frame h (length calls) ws) (length calls) function.slots (numbers_below (length function.parameters))
      sets = subst (λ z. AreSet (push_frame h (length calls) ws) (length calls) z (numbers_below (length function.parameters))) (sym one.slots)
          (subst (λ n. AreSet (push_frame h (length calls) ws) (length calls) (parameter_slots function ++ one.others) (numbers_below n)) (length-map function.parameters (λ item. item.slot))
          (pushed_sets program h calls ws (parameter_slots function) one.others even fits))

      by : (q : Bool) → KeepsTyped program gives (elided program page input gives h (if q then silent (control (f ∷ calls) (account - call_bytes_in page (Some function)) idle (body function.body ∷ fall ∷ join ∷ end ∷ k)) (push_frame h (length calls) ws) else traps kind.Stack))
      by false = tt
      by true = state program gives (f ∷ calls) _ idle (body function.body ∷ fall ∷ join ∷ end ∷ k) (push_frame h (length calls) ws) (pushed_frames program f calls h ws (parameter_slots function) fits frames)
          (function, is, numbers_below (length function.parameters), sets, (one.body, tt, (refl, outer_moves program h (push_frame h (length calls) ws) gives calls (back function.gives) k (pushed_grows (length calls) h ws) o)))

  -- ---- steps

  -- an item with a frame, which may be the end of the call
  ok_running : (f : ℕ) (calls : List ℕ) (account : ℕ) (hand : Hand) (rest : List Item) (h : Stack) → Frames program (f ∷ calls) h → IsPlain hand → (x : Item) (k : List Item) → Running program h gives (f ∷ calls) (at_hand hand) (x ∷ k)
      → KeepsTyped program gives (elided program page input gives h (item_step program page input (control (f ∷ calls) account hand rest) h x k))
  ok_running f calls account hand rest h frames p end k r = ok_end f calls account hand rest k h r.0 frames p r.2
  ok_running f calls account hand rest h frames p x k r = ok_item program page input gives f calls account hand rest h frames r.0 r.1 r.2 r.3 p x k r.4

  same_gives : (v : Option ℤ) → back (is_some v) ≡ back gives → is_some v ≡ gives
  same_gives v e = ap gives_at e
    where
      gives_at : AtHand → Bool
      gives_at (back b) = b
      gives_at _ = gives

  -- what is at hand, and then the first item
  ok_hand : (calls : List ℕ) (account : ℕ) (hand : Hand) (rest : List Item) (h : Stack) → TypedProgram program → Frames program calls h → Ready program h gives calls hand rest
      → KeepsTyped program gives (elided program page input gives h (hand_step program page input (control calls account hand rest) h hand rest))
  ok_hand calls account (entering f ws) k h typed frames r = state program gives calls account (framing f ws) k h frames r
  ok_hand calls account (framing f ws) k h typed frames r = ok_push calls account (framing f ws) k h f ws k typed frames r
  ok_hand [] account (returned v) [] h typed frames r = same_gives v r.0
  ok_hand [] account idle [] h typed frames r = let e = r.0 in cc e
  ok_hand [] account (holds v) [] h typed frames r = let e = r.0 in cc e
  ok_hand [] account idle (x ∷ k) h typed frames r = absurd (cons_empty x k r.1)
  ok_hand [] account (holds v) (x ∷ k) h typed frames r = absurd (cons_empty x k r.1)
  ok_hand [] account (returned v) (x ∷ k) h typed frames r = absurd (cons_empty x k r.1)
  ok_hand (f ∷ calls) account idle [] h typed frames r = absurd r.4
  ok_hand (f ∷ calls) account (holds v) [] h typed frames r = absurd r.4
  ok_hand (f ∷ calls) account (returned v) [] h typed frames r = absurd r.4
  ok_hand (f ∷ calls) account idle (x ∷ k) h typed frames r = ok_running f calls account idle (x ∷ k) h frames tt x k r
  ok_hand (f ∷ calls) account (holds v) (x ∷ k) h typed frames r = ok_running f calls account (holds v) (x ∷ k) h frames tt x k r
  ok_hand (f ∷ calls) account (returned v) (x ∷ k) h typed frames r = ok_running f calls account (returned v) (x ∷ k) h frames tt x k r

  -- a step of a typed state
  pub typed_step : (c : Control) (h : Stack) → TypedProgram program → TypedState program gives c h → KeepsTyped program gives (serial_step program page input c h)
  typed_step c h typed t = ok_hand c.calls c.account c.hand c.rest h typed (frames_of program gives c h t) t.rest

-- the first state is the call of main
pub typed_start : (program : Program) (account : ℕ) → TypedProgram program → TypedState program true (start_of program.main account) empty_stack
typed_start program account typed = record {
  words = λ d s i l. absurd (no_less d l);
  references = λ d s l. absurd (no_less d l);
  below = record { words = λ d s i l. refl; references = λ d s l. refl };
  refers = λ d s r e. absurd (unheld r e);
  rest = (typed.main, typed.is_main, tt, sym (length-map typed.main.parameters (λ item. item.slot) ∙ ap length typed.main_takes), (ap back typed.main_gives, refl));
}
  where
    unheld : (r : Reference) → absent ≡ present r → ⊥
    unheld r e = cc e

module _ (program : Program) (page : ℕ) (input : List ℤ) (gives : Bool) (typed : TypedProgram program) where
  -- a run from a typed state leads to a typed state
  pub typed_run : {c t : Control} {h g : Stack} {out : List ℤ} {n : ℕ} → Comes program page input c h out n t g → TypedState program gives c h → TypedState program gives t g
  typed_run elision.here s = s
  typed_run {c = c} {h = h} (elision.quiet step more) s = typed_run more (subst (KeepsTyped program gives) step (typed_step program page input gives c h typed s))
  typed_run {c = c} {h = h} (elision.tick step more) s = typed_run more (subst (KeepsTyped program gives) step (typed_step program page input gives c h typed s))
  typed_run {c = c} {h = h} (elision.show step more) s = typed_run more (subst (KeepsTyped program gives) step (typed_step program page input gives c h typed s))

  -- and so it is never stuck
  pub never_stuck : (c : Control) (h : Stack) (limit : ℕ) → TypedState program gives c h → GetsStuck program page input c h limit → ⊥
  never_stuck c h limit s stuck =
      subst (KeepsTyped program gives) stuck.stops (typed_step program page input gives stuck.last stuck.held typed (typed_run stuck.comes s))
