-- The evaluator on its way: its steps are those of the elision, and the greatest values of the measures are noted.
use Rattle.std.proofs.Common.{◌≡◌, ℕ, suc, ◌+◌, ◌*◌, ◌<◌, ◌≤◌, max, List, [], ◌∷◌, ◌++◌, Option, None, Some, refl, sym, ap, ◌∙◌, subst, arith, slice_get, length, map, reverse, take, drop, inl, inr}
use Rattle.std.specs.Prelude.{ℤ, true, ◌/◌}
use Rattle.std.proofs.lemmas.List.{append_assoc}
use Rattle.std.proofs.lemmas.Option.{slice_get_within, get_or_from_slice_get}
use Rattle.cm_syntax.specs.declared.stmt.Function.{Function}
use Rattle.cm_syntax.specs.declared.stmt.Program.{Program}
use Rattle.cm_syntax.specs.Fault.{IsSoundProgram}
use Rattle.cm_syntax.specs.Label.{silent, ticks, prints, spawns, syncs, traps, ends, stuck}
use Rattle.cm_syntax.specs.Trap as defined
use Rattle.cm_syntax.specs.Stack.{Stack, Destination, empty_stack}
use Rattle.cm_syntax.specs.Rest.{Control, control}
use Rattle.cm_syntax.specs.Step.{Move, step, inside}
use Rattle.cm_syntax.proofs.naming.SoundLaw.{sound_frame}
use Rattle.cm_meaning.specs.declared.elision.Most.{Most}
use Rattle.cm_meaning.specs.declared.ended.Trap.{Trap}
use Rattle.cm_meaning.specs.declared.evaluator.Evaluator.{Evaluator}
use Rattle.cm_meaning.specs.declared.work.Hand.TheVariants as hands
use Rattle.cm_meaning.specs.declared.work.Outcome.{Outcome}
use Rattle.cm_meaning.specs.declared.work.Outcome.TheVariants as outcomes
use Rattle.cm_meaning.specs.Ended.{trap_of}
use Rattle.cm_meaning.specs.Elision.{serial, here, quiet, tick, show}
use Rattle.cm_meaning.specs.Output.{Entry, Number, Open, Filled, numbers_of, open_count}
use Rattle.cm_meaning.specs.End.{End, Done, Trapped, Spent}
use Rattle.cm_meaning.specs.Meaning.{Limits, Comes, SerialEnd, serial_step, first_control}
use Rattle.cm_meaning.specs.Measure.{frame_bytes_in, frame_bytes, cilk_frames}
use Rattle.cm_meaning.specs.Law.{LowersWeight}
use Rattle.cm_meaning.specs.Weight.{weight}
use Rattle.cm_maps.specs.Pages.{IsPage}
use Rattle.cm_meaning.specs.Range.{HasRanges}
use Rattle.cm_meaning.specs.Typing.{TypedProgram}
use Rattle.cm_meaning.specs.TypedState.{TypedState, KeepsTyped}
use Rattle.cm_meaning.specs.Layout.{argument_of, words_in, frames_words, program_in, calls_in, room_in, FitFrames, IsNew, Shows}
use Rattle.cm_meaning.specs.Evaluator.{IsKept, IsTypedAt, IsSameRun, Leads, Steps, IsAtHand, hand_of, hand_count, items_of, control_in}
use Rattle.cm_meaning.specs.Progress.{IsSeen, Run, noted, Gets, Sees, Progress, IsTrapped, IsEnded, EndsByValue}
use Rattle.cm_meaning.proofs.EndLaw.{Lowers, Onward, one_end}
use Rattle.cm_meaning.proofs.GreatestLaw.{seen_first, seen_next, seen_last}
use Rattle.cm_meaning.proofs.SafetyLaw.{typed_start, typed_step}
use Rattle.cm_meaning.proofs.TypingLaw.{sound_typed}
use Rattle.cm_meaning.proofs.WeightLaw.{lowers_serial}

-- ---- the elision

module _ (program : Program) (page : ℕ) (input : List ℤ) where
  abbrev goes : Control → Stack → Move
  goes = serial_step program page input

  abbrev Runs : Control → Stack → List ℤ → ℕ → Control → Stack → Type 0
  Runs = Comes program page input

  -- one step more
  more_quiet : {c t l : Control} {h g k : Stack} {out : List ℤ} {n : ℕ} → Runs c h out n t g → goes t g ≡ silent l k → Runs c h out n l k
  more_quiet here s = quiet s here
  more_quiet (quiet e q) s = quiet e (more_quiet q s)
  more_quiet (tick e q) s = tick e (more_quiet q s)
  more_quiet (show e q) s = show e (more_quiet q s)

  more_tick : {c t l : Control} {h g k : Stack} {out : List ℤ} {n : ℕ} → Runs c h out n t g → goes t g ≡ ticks l k → Runs c h out (suc n) l k
  more_tick here s = tick s here
  more_tick (quiet e q) s = quiet e (more_tick q s)
  more_tick (tick e q) s = tick e (more_tick q s)
  more_tick (show e q) s = show e (more_tick q s)

  more_show : {c t l : Control} {h g k : Stack} {out : List ℤ} {n : ℕ} {v : ℤ} → Runs c h out n t g → goes t g ≡ prints v l k → Runs c h (out ++ v ∷ []) n l k
  more_show here s = show s here
  more_show (quiet e q) s = quiet e (more_show q s)
  more_show (tick e q) s = tick e (more_show q s)
  more_show (show e q) s = show e (more_show q s)

  -- a step of the elision without a tick leads to less weight
  lower_step : (c : Control) (h : Stack) → LowersWeight program c (goes c h)
  lower_step c h = by (step program page input c h) (lowers_serial program page input c h)
    where
      by : (x : Move) → Lowers Control Stack Destination (step program page input) inside (weight program) c x
          → LowersWeight program c (serial Control Stack Destination (step program page input) inside h x)
      by (silent t g) f = f
      by (ticks t g) f = tt
      by (prints v t g) f = f
      by (spawns call lent x t g) f = f
      by (syncs t) f = f
      by (traps k) f = tt
      by (ends v) f = tt
      by stuck f = tt

-- ---- what is noted

-- a number that is put last
pub numbers_push : (entries : List Entry) (v : ℤ) → numbers_of (entries ++ Number v ∷ []) ≡ numbers_of entries ++ v ∷ []
numbers_push [] v = refl
numbers_push (Number w ∷ more) v = ap (λ z. w ∷ z) (numbers_push more v)
numbers_push (Open ∷ more) v = numbers_push more v
numbers_push (Filled numbers ∷ more) v = ap (λ z. numbers ++ z) (numbers_push more v) ∙ sym (append_assoc numbers (numbers_of more) (v ∷ []))

-- a number that is put last opens no hole
pub open_push : (entries : List Entry) (v : ℤ) → open_count (entries ++ Number v ∷ []) ≡ open_count entries
open_push [] v = refl
open_push (Number w ∷ more) v = open_push more v
open_push (Open ∷ more) v = ap suc (open_push more v)
open_push (Filled numbers ∷ more) v = open_push more v

-- the bytes of the frames are four times their words
pub bytes_words : (program : Program) (calls : List ℕ) → frame_bytes program calls ≡ 4 * frames_words program calls
bytes_words program [] = refl
bytes_words program (f ∷ calls) = one (slice_get program.functions f) (bytes_words program calls)
  where
    one : (found : Option (Function ℕ)) → frame_bytes program calls ≡ 4 * frames_words program calls
        → frame_bytes_in found + frame_bytes program calls ≡ 4 * (frames_words program calls + words_in found)
    one None e = omega (arith, e)
    one (Some function) e = omega (arith, e)

-- the values that were read are those that are to be noted
pub noted_is : (most : Most) (ev : Evaluator) (bytes calls b d : ℕ) → program_in ev.frames ≡ ev.program.now
    → bytes ≡ 4 * frames_words (program_in ev.frames) (calls_in ev.frames) → calls ≡ cilk_frames ev.program.now (calls_in ev.frames)
    → b ≡ max most.bytes bytes → d ≡ max most.depth calls
    → ◌≡◌ {A = Most} (record { account = most.account; bytes = b; depth = d }) (noted most ev)
noted_is most ev bytes calls b d same e f g h =
    let first : b ≡ max most.bytes (frame_bytes ev.program.now (calls_in ev.frames))
    = g ∙ ap (λ n. max most.bytes n) (e ∙ sym (bytes_words (program_in ev.frames) (calls_in ev.frames)) ∙ ap (λ z. frame_bytes z (calls_in ev.frames)) same) in
    let second : d ≡ max most.depth (cilk_frames ev.program.now (calls_in ev.frames)) = h ∙ ap (λ n. max most.depth n) f in
    λ i. record { account = most.account; bytes = first i; depth = second i }

-- ---- steps

-- the stack of the run is one that the step may be done on
pub typed_at : (run : Run) (ev : Evaluator) (used : ℕ) (out : List ℤ) (most : Most) → (p : Progress run ev used out most) → IsTypedAt ev (control_in ev) p.stack
typed_at run ev used out most p = (subst (λ z. TypedState z true (control_in ev) p.stack) (sym p.program) p.typed, p.shows)

-- so the step may be done
pub at_hand : (run : Run) (ev : Evaluator) (used : ℕ) (out : List ℤ) (most : Most) → Progress run ev used out most → IsAtHand ev
at_hand run ev used out most p = (p.kept, p.stack, typed_at run ev used out most p)

module _ (run : Run) (old new : Evaluator) (used : ℕ) (out : List ℤ) (most : Most) (p : Progress run old used out most) where
  -- a step of the run's elision, and what is left of the run behind it
  abbrev moves : Control → Stack → Move
  moves = serial_step run.program run.limits.page run.input

  abbrev Later : Move → Control → Stack → Type 0
  Later = Onward Control Stack Destination (step run.program run.limits.page run.input) inside

  -- what noting needs
  pub some_page : IsSameRun old new → 1 ≤ new.page
  some_page same = omega (arith, same.page, p.page, p.some_page)

  pub same_account : IsSameRun old new → most.account ≡ 4 * room_in new.frames
  same_account same = p.account ∙ ap (λ n. 4 * n) (sym same.room)

  -- the step is one of the run
  leads : (outcome : Outcome) → Steps old outcome new → Leads outcome (moves (control_in old) p.stack) new
  leads outcome d =
      let same : serial_step old.program.now old.page old.input.now (control_in old) p.stack ≡ moves (control_in old) p.stack
      = λ i. serial_step (p.program i) (p.page i) (p.input i) (control_in old) p.stack in
      subst (λ z. Leads outcome z new) same (d.leads p.stack (typed_at run old used out most p))

  -- it leads to a typed state
  keeps : KeepsTyped run.program true (moves (control_in old) p.stack)
  keeps = typed_step run.program run.limits.page run.input true (control_in old) p.stack (subst TypedProgram p.program p.kept.typed) p.typed

  -- a state behind a step, of which the rest of the run goes on
  module _ (kept : IsKept new) (same : IsSameRun old new) (later : ℕ) (printed : List ℤ) (g : Stack) (grows : used ≤ later) (gets : Gets run printed later (control_in new) g)
      (goes_on : (t : Control) (k : Stack) → Later (moves (control_in old) p.stack) t k → (o : List ℤ) × (u : ℕ) × Comes run.program run.limits.page run.input (control_in new) g o u t k) where
    -- the greatest value of a measure up to there
    sees : (measure : Program → List ℕ → ℕ) (n : ℕ) → Sees run used (measure run.program) (control_in old) p.stack n
        → Sees run later (measure run.program) (control_in new) g (max n (measure new.program.now (calls_in new.frames)))
    sees measure n s l =
        let d = seen_next run.program run.input run.limits (measure run.program) (control_in old) (control_in new) p.stack g n (s (omega (arith, l, grows)))
        (record { out = printed; used = later; runs = gets; within = l }) goes_on in
        subst (λ z. IsSeen run.program run.input run.limits (measure run.program) (control_in new) g (max n (measure z (calls_in new.frames)))) (sym (same.program ∙ p.program)) d

    -- so the run is on its way there
    next : TypedState run.program true (control_in new) g → Shows new.frames g → Progress run new later printed (noted most new)
    next typed shows = record {
      kept = kept;
      program = same.program ∙ p.program;
      input = same.input ∙ p.input;
      page = same.page ∙ p.page;
      some_page = p.some_page;
      account = same_account same;
      stack = g;
      typed = typed;
      shows = shows;
      gets = gets;
      bytes = sees frame_bytes most.bytes p.bytes;
      depth = sees cilk_frames most.depth p.depth;
    }

  -- by what the step did
  pub after_going : Steps old outcomes.Going new → Progress run new used out (noted most new)
  after_going d =
      let l = leads outcomes.Going d in
      next d.kept d.same used out l.0 (omega arith) (more_quiet run.program run.limits.page run.input p.gets l.1) (λ t k q. subst (λ z. Later z t k) l.1 q)
      (subst (KeepsTyped run.program true) l.1 keeps) l.2

  pub after_tick : Steps old outcomes.Tick new → Progress run new (suc used) out (noted most new)
  after_tick d =
      let l = leads outcomes.Tick d in
      next d.kept d.same (suc used) out l.0 (omega arith) (more_tick run.program run.limits.page run.input p.gets l.1) (λ t k q. subst (λ z. Later z t k) l.1 q)
      (subst (KeepsTyped run.program true) l.1 keeps) l.2

  pub after_print : (v : ℤ) → Steps old (outcomes.Printed v) new → Progress run new used (out ++ v ∷ []) (noted most new)
  after_print v d =
      let l = leads (outcomes.Printed v) d in
      next d.kept d.same used (out ++ v ∷ []) l.0 (omega arith) (more_show run.program run.limits.page run.input p.gets l.1) (λ t k q. subst (λ z. Later z t k) l.1 q)
      (subst (KeepsTyped run.program true) l.1 keeps) l.2

  -- where it stops
  pub at_trap : (kind : Trap) → Steps old (outcomes.Trapped kind) new → IsTrapped run used out (trap_of kind)
  at_trap kind d = record { control = control_in old; stack = p.stack; gets = p.gets; stops = leads (outcomes.Trapped kind) d }

  pub at_end : (v : ℤ) → Steps old (outcomes.Ended v) new → IsEnded run used out v most
  at_end v d =
      let e = leads (outcomes.Ended v) d in
      record {
        control = control_in old;
        stack = p.stack;
        gets = p.gets;
        stops = e;
        bytes = λ l. seen_last run.program run.input run.limits (frame_bytes run.program) (control_in old) p.stack most.bytes (Some v) (p.bytes l) e;
        depth = λ l. seen_last run.program run.input run.limits (cilk_frames run.program) (control_in old) p.stack most.depth (Some v) (p.depth l) e;
      }

  -- the weight falls where no tick is taken
  lower : weight old.program.now (control_in new) < weight old.program.now (control_in old) → IsSameRun old new
      → weight new.program.now (control_in new) < weight old.program.now (control_in old)
  lower l same = subst (λ z. weight z (control_in new) < weight old.program.now (control_in old)) (sym same.program) l

  lowered : LowersWeight old.program.now (control_in old) (serial_step old.program.now old.page old.input.now (control_in old) p.stack)
  lowered = lower_step old.program.now old.page old.input.now (control_in old) p.stack

  pub falls_going : Steps old outcomes.Going new → weight new.program.now (control_in new) < weight old.program.now (control_in old)
  falls_going d = lower (subst (LowersWeight old.program.now (control_in old)) (d.leads p.stack (typed_at run old used out most p)).1 lowered) d.same

  pub falls_print : (v : ℤ) → Steps old (outcomes.Printed v) new → weight new.program.now (control_in new) < weight old.program.now (control_in old)
  falls_print v d = lower (subst (LowersWeight old.program.now (control_in old)) (d.leads p.stack (typed_at run old used out most p)).1 lowered) d.same

-- ---- the beginning

-- each frame of a sound program is within the limit
pub sound_fits : (program : Program) → IsSoundProgram program → FitFrames program
sound_fits program sound f function is = sound_frame function (program, sound, (f, slice_get_within program.functions f function is, get_or_from_slice_get program.functions f function function is))

-- the bytes of an account are words, and not too many
record AreBytes (page bytes : ℕ) : Type 0 where
  pub words : 4 * (bytes / 4) ≡ bytes
  pub few : bytes ≤ 1048576
  pub some_page : 1 ≤ page
  pub most_page : page ≤ 4096

-- so it is with each stack and page that are in their ranges
bytes_of : (stack page : ℕ) → stack ≤ 256 → IsPage page → AreBytes page (stack * page)
bytes_of stack page l (inl e) = subst (λ p. AreBytes p (stack * p)) (sym e)
    (record { words = omega arith; few = omega (arith, l); some_page = omega arith; most_page = omega arith })
bytes_of stack page l (inr (inl e)) = subst (λ p. AreBytes p (stack * p)) (sym e)
    (record { words = omega arith; few = omega (arith, l); some_page = omega arith; most_page = omega arith })
bytes_of stack page l (inr (inr e)) = subst (λ p. AreBytes p (stack * p)) (sym e)
    (record { words = omega arith; few = omega (arith, l); some_page = omega arith; most_page = omega arith })

-- with no call nothing is taken
nothing_taken : (program : Program) (page : ℕ) (calls : List ℕ) → calls ≡ [] → 4 * frames_words program calls + page * cilk_frames program calls ≡ 0
nothing_taken program page calls e = subst (λ z. 4 * frames_words program z + page * cilk_frames program z ≡ 0) (sym e) (omega arith)

-- the first state
pub first_progress : (run : Run) (ev : Evaluator) → IsSoundProgram run.program → length run.input ≤ 65536 → HasRanges run.limits
    → ev.program.now ≡ run.program → ev.input.now ≡ run.input → ev.page ≡ run.limits.page → ev.account ≡ run.limits.stack * run.limits.page
    → ev.hand ≡ hands.Entering run.program.main 0 → ev.rest.items ≡ [] → ev.passed.items ≡ []
    → IsNew run.program (run.limits.stack * run.limits.page / 4) ev.frames
    → Progress run ev 0 [] (record { account = ev.account; bytes = 0; depth = 0 })
first_progress run ev sound short ranges program input page account hand rest passed n = record {
  kept = record {
    laid = n.laid;
    program = n.of ∙ sym program;
    typed = subst TypedProgram (sym program) typed;
    fit = subst FitFrames (sym program) (sound_fits run.program sound);
    account = omega (arith, account, n.place, size.words, nothing_taken ev.program.now ev.page (calls_in ev.frames) n.calls);
    room = omega (arith, n.place, size.words, size.few);
    page = omega (arith, page, size.most_page);
    input = subst (λ z. length z ≤ 65536) (sym input) short;
  };
  program = program;
  input = input;
  page = page;
  some_page = size.some_page;
  account = omega (arith, account, n.place, size.words);
  stack = empty_stack;
  typed = subst (λ c. TypedState run.program true c empty_stack) (sym first) (typed_start run.program (run.limits.stack * run.limits.page) typed);
  shows = n.shows empty_stack;
  gets = subst (λ c. Gets run [] 0 c empty_stack) (sym first) here;
  bytes = λ l. subst (λ c. IsSeen run.program run.input run.limits (frame_bytes run.program) c empty_stack 0) (sym first) (seen_first run.program run.input run.limits (frame_bytes run.program));
  depth = λ l. subst (λ c. IsSeen run.program run.input run.limits (cilk_frames run.program) c empty_stack 0) (sym first) (seen_first run.program run.input run.limits (cilk_frames run.program));
}
  where
    typed : TypedProgram run.program
    typed = sound_typed run.program sound

    size : AreBytes run.limits.page (run.limits.stack * run.limits.page)
    size = bytes_of run.limits.stack run.limits.page ranges.most_stack ranges.page

    first : control_in ev ≡ first_control run.program run.limits
    first = λ i. control (n.calls i) (account i) (hand_of (hand i) (take (hand_count (hand i)) (reverse (map argument_of (passed i)))))
        (items_of (reverse (rest i)) (drop (hand_count (hand i)) (reverse (map argument_of (passed i)))))

-- ---- the end

module _ (run : Run) (used : ℕ) (out : List ℤ) where
  -- by a trap
  pub trap_end : (kind : defined.Trap) → IsTrapped run used out kind → used ≤ run.limits.ticks
      → SerialEnd run.program run.input run.limits (Trapped out kind used)
  trap_end kind p l = (p.stack, (p.control, p.stack, p.gets, p.stops, l))

  -- by a value
  pub value_end : (v : ℤ) (most : Most) → IsEnded run used out v most → used ≤ run.limits.ticks
      → SerialEnd run.program run.input run.limits (Done out (Some v) used)
  value_end v most p l = (p.stack, (p.control, p.gets, p.stops, l))

  -- with more ticks than there are
  pub spent_end : (ev : Evaluator) (most : Most) → Progress run ev used out most → run.limits.ticks < used → SerialEnd run.program run.input run.limits Spent
  spent_end ev most p l = (p.stack, record { out = out; used = used; last = control_in ev; held = p.stack; comes = p.gets; more = l })

-- an end by a value
abbrev pub IsDone : End → Type 0
IsDone (Done out v n) = Unit {0}
IsDone _ = ⊥

-- there is one end, so of another kind there is none by a value
pub no_value : (program : Program) (input : List ℤ) (limits : Limits) (e : End) → SerialEnd program input limits e → (IsDone e → ⊥) → EndsByValue program input limits → ⊥
no_value program input limits e s other (out, v, n, (w, reaches)) =
    other (subst IsDone (one_end Control Stack Destination (step program limits.page input) inside (first_control program limits) empty_stack limits.ticks (Done out v n) e w s.0 reaches s.1) tt)
