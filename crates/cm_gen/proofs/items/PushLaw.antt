-- The step by which a call gets its frame.
use Rattle.std.proofs.Common.{◌≡◌, ℕ, zero, suc, ◌+◌, ◌-◌, ◌*◌, ◌%◌, ◌^◌, ◌<◌, ◌≤◌, List, [], ◌∷◌, ◌++◌, length, Some, refl, sym, ap, ◌∙◌, subst, arith, inl, inr, length-append}
use Rattle.std.proofs.lemmas.Bool.{ne_eqb, leb-true, leb-false}
use Rattle.std.proofs.lemmas.Option.{none-some, same_Some}
use Rattle.std.proofs.lemmas.List.{take_all, length-map}
use Rattle.std.specs.Prelude.{Bool, true, false, ◌==◌, nat_le, if◌then◌else◌, ◌⊎◌, ⊤, ℤ, pos, ◌-ℤ◌, slice_get, take, map}
use Rattle.cm_isa.specs.declared.convention.TheConstants as reg
use Rattle.cm_isa.specs.Bits.{minus}
use Rattle.cm_isa.specs.Operation.{Operation}
use Rattle.cm_isa.specs.Alu as alu
use Rattle.cm_isa.specs.Alu.{int}
use Rattle.cm_isa.specs.Action.{follow}
use Rattle.cm_isa.specs.Machine.{Machine, Mapped, Code, InstructionsAt, machine_after, machine_with, IsWritable}
use Rattle.cm_isa.specs.Run.{Extends}
use Rattle.cm_gen.specs.Returns.{GoesTo}
use Rattle.cm_isa.specs.Register.{with_register}
use Rattle.cm_syntax.specs.declared.stmt.Slot.{Slot}
use Rattle.cm_syntax.specs.declared.stmt.Item as items
use Rattle.cm_syntax.specs.declared.stmt.Function.{Function}
use Rattle.cm_syntax.specs.declared.stmt.Program.{Program}
use Rattle.cm_syntax.specs.Fault.{parameter_slots}
use Rattle.cm_syntax.specs.Frame.{frame_words}
use Rattle.cm_syntax.specs.Label.{silent, traps}
use Rattle.cm_syntax.specs.Trap as kind
use Rattle.cm_syntax.specs.Cell.{value_in}
use Rattle.cm_syntax.specs.Stack.{Stack, Reference, Argument, slice_parameter, push_frame}
use Rattle.cm_syntax.specs.Rest.{Item, body, fall, join, end, idle, framing, control}
use Rattle.cm_syntax.specs.Step.{Move, step, slots_in, call_bytes_in, push_call}
use Rattle.cm_meaning.specs.TypedState.{FitParameters}
use Rattle.cm_meaning.specs.Activation.{end_count}
use Rattle.cm_meaning.proofs.TypingLaw.{sound_typed}
use Rattle.cm_gen.specs.declared.form.Form.{Form}
use Rattle.cm_gen.specs.Assembler.{addi, add, sub, sw, bne, bgeu}
use Rattle.cm_gen.specs.Code.{load_number, service, entry, tick, take_account, make_frame, leave}
use Rattle.cm_gen.specs.Part.{Part, plain, straight}
use Rattle.cm_gen.specs.Statement.{sync_code, body_code}
use Rattle.cm_gen.specs.Image.{fall_code, parameters_code, exit_of, inner_of}
use Rattle.cm_gen.specs.Fits.{FunctionFits, FunctionsFit}
use Rattle.cm_gen.specs.Standing.{Frame, LeadsTo, StandsAt, HasEntry, IsCompiled, slots_here, form_here, form_of, Coded}
use Rattle.cm_gen.specs.FrameWord.{words_in, bytes_of, AreFrames, MayStand}
use Rattle.cm_gen.specs.Formed.{Runs, RestFits, Formed, KeepsFormed}
use Rattle.cm_gen.specs.StandsFor.{Spot, comes, Handed, Placed, ExactAt, Reaches, opens, LeadsFrom}
use Rattle.cm_gen.proofs.patterns.WordLaw as words
use Rattle.cm_gen.proofs.patterns.StepLaw.{comes_by_one, comes_on, follow_is, instructions_front, instructions_back}
use Rattle.cm_gen.proofs.patterns.PrologueLaw.{number_at, account_runs, IsFrameBelow, framed_registers, framed_words, frame_by, bgeu_passes}
use Rattle.cm_gen.proofs.sizes.SoundFitsLaw.{sound_functions}
use Rattle.cm_gen.proofs.patterns.StandingLaw.{IsCodeAt, then_map, parted, parted_at, then_second, then_below, straight_first, straight_front, straight_length}
use Rattle.cm_gen.proofs.items.StateLaw.{leads_to}
use Rattle.cm_gen.proofs.states.FormedLaw.{step_keeps}
use Rattle.cm_gen.proofs.frames.FrameWordLaw.{at_before, may_stand_aligned, may_stand_low, low_end_below, frame_fits, frame_holds}
use Rattle.cm_gen.proofs.frames.DeeperLaw.{refers_below}
use Rattle.cm_gen.proofs.frames.FramingLaw.{saved_holds, saved_kept, saved_own}
use Rattle.cm_gen.proofs.patterns.ParameterLaw.{get_front, IsFramed, HasStored, parameters_run, handed_same}
use Rattle.cm_gen.proofs.items.EntryLaw.{serves_at, IsCall, framing_call}

-- ---- sizes

-- a function of a list whose functions fit
pub function_fits : (fs : List (Function ℕ)) (f : ℕ) (function : Function ℕ) → FunctionsFit fs → slice_get fs f ≡ Some function → FunctionFits function
function_fits [] f function h e = absurd (none-some function e)
function_fits (first ∷ more) zero function h e = subst FunctionFits (same_Some first function e) h.0
function_fits (first ∷ more) (suc f) function h e = function_fits more f function h.1 e

-- what a call takes of the account, and the bytes of its frame
pub record IsSmall (need bytes : ℕ) : Type 0 where
  pub most : bytes ≤ need
  pub small : need < 2 ^ 31

pub call_is_small : (page : ℕ) (function : Function ℕ) → (page ≡ 256) ⊎ (page ≡ 1024) ⊎ (page ≡ 4096) → FunctionFits function → IsSmall (call_bytes_in page (Some function)) (4 * words_in (Some function))
call_is_small page function is fits = by_mark function.cilk
  where
    few : page ≤ 4096
    few = elim is [ inl e ↦ omega (arith, e) | inr other ↦ elim other [ inl e ↦ omega (arith, e) | inr e ↦ omega (arith, e) ] ]

    by_mark : (b : Bool) → IsSmall (4 * frame_words function + (if b then page else 0)) (4 * frame_words function)
    by_mark true = let a = fits.frame in let b = few in record { most = omega arith; small = omega (arith, a, b) }
    by_mark false = let a = fits.frame in record { most = omega arith; small = omega (arith, a) }

-- ---- steps

module _ (program : Program) (form : Form) (page : ℕ) (code : Code) (compiled : IsCompiled program form page code) where
  -- the first of some instructions is known, and so the machine behind it
  pub after_one : (count : ℕ) (i : Operation) (m n o : Machine) → code m.counter i → machine_after i m ≡ Some n → GoesTo code (suc count) m o → GoesTo code count n o
  after_one count i m n o there effect (next, step, none, rest) =
      let same : step.instruction ≡ i = compiled.one m.counter step.instruction i step.there there in
      let e : Some next ≡ Some n = sym step.effect ∙ ap (λ i. machine_after i m) same ∙ effect in
      subst (λ q. GoesTo code count q o) (same_Some next n e) rest

module _ (program : Program) (form : Form) (page limit : ℕ) (input : List ℤ) (code : Code) (runs : Runs program page limit input) (compiled : IsCompiled program form page code)
    (spot : Spot) (left : ℕ) (calls : List ℕ) (account f : ℕ) (ws : List Argument) (k : List Item) (h : Stack) (m : Machine) (function : Function ℕ) (function_is : slice_get program.functions f ≡ Some function) (e : HasEntry form page code f function)
    (formed : Formed program page limit (control calls account (framing f ws) k) h) (x : ExactAt program form page input code spot left (control calls account (framing f ws) k) h m)
    (here : m.counter ≡ e.entry + 16) (handed : Handed program page calls spot.frames m.registers ws)
    (back_four : m.registers reg.RA % 4 ≡ 0) (back_small : m.registers reg.RA < 2 ^ 30) (back : LeadsTo code (Coded program form page code k calls spot.frames) (m.registers reg.RA)) where
  abbrev L : ℕ
  L = length calls

  -- the rest of the new frame
  abbrev rest : List Item
  rest = body function.body ∷ fall ∷ join ∷ end ∷ k

  -- what is read of the function, as the definitions of frames say it
  abbrev need : ℕ
  need = call_bytes_in page (slice_get program.functions f)

  abbrev B : ℕ
  B = bytes_of program page f

  abbrev S : List Slot
  S = slots_here program (f ∷ calls)

  abbrev own : Form
  own = form_here program form (f ∷ calls)

  abbrev P : List Operation
  P = parameters_code S 0 reg.RESULT function.parameters

  abbrev behind_parameters : List Part
  behind_parameters = body_code own S 1 function.body ++ (straight fall_code ++ exit_of own need)

  -- its code
  code_is : StandsAt code (straight (entry B need) ++ (straight P ++ behind_parameters)) e.entry
  code_is = subst (λ o. StandsAt code (straight (entry (4 * words_in o) (call_bytes_in page o)) ++ inner_of (form_of form o) (call_bytes_in page o) (slots_in o) function) e.entry) (sym function_is) e.entry_code

  there : IsCodeAt code e.entry (entry B need) × StandsAt code (straight P ++ behind_parameters) (e.entry + 4 * length (entry B need))
  there = straight_first code (bne reg.TICKS reg.ZERO (pos 12)) _ (straight P ++ behind_parameters) (λ q. ⊤) e.entry code_is

  -- behind the tick
  abbrev p : ℕ
  p = e.entry + 16

  small : IsSmall need B
  small = subst (λ o. IsSmall (call_bytes_in page o) (4 * words_in o)) (sym function_is) (call_is_small page function runs.page_is (function_fits program.functions f function (sound_functions program runs.sound).0 function_is))

  abbrev A : List Operation
  A = load_number reg.HELP (pos need)

  abbrev N : List Operation
  N = load_number reg.HELP (pos B)

  abbrev test : List Operation
  test = bgeu reg.ACCOUNT reg.HELP (pos 12) ∷ (service (pos 9) ++ sub reg.ACCOUNT reg.ACCOUNT reg.HELP ∷ [])

  abbrev made : List Operation
  made = sub reg.SP reg.SP reg.HELP ∷ sw reg.ZERO reg.SP (pos 0) ∷ add reg.HELP reg.SP reg.HELP ∷ sw reg.RA reg.HELP (minus 4) ∷ sw reg.FP reg.HELP (minus 8) ∷ addi reg.FP reg.HELP (pos 0) ∷ []

  abbrev p1 : ℕ
  p1 = p + 4 * length A + 16

  abbrev p2 : ℕ
  p2 = p1 + 4 * length N

  -- where everything stands
  pub record IsLaid : Type 0 where
    pub numbers : InstructionsAt code p A
    pub tests : InstructionsAt code (p + 4 * length A) test
    pub bytes : InstructionsAt code p1 N
    pub frame : InstructionsAt code p2 made
    pub below : p2 + 24 < 2 ^ 30
    pub inner : StandsAt code (straight P ++ behind_parameters) (p2 + 24)

  laid : IsLaid
  laid =
      let all = instructions_back code e.entry tick (take_account need ++ make_frame B) there.0.there in
      let account_code = instructions_front code p (take_account need) (make_frame B) all in
      let frame_code = instructions_back code p (take_account need) (make_frame B) all in
      let a = length-append A test in
      let b = length-append N made in
      let c = length-append (take_account need) (make_frame B) in
      let at : p + 4 * length (take_account need) ≡ p1 = omega (arith, a) in
      let whole : e.entry + 4 * length (entry B need) ≡ p2 + 24 = omega (arith, a, b, c) in
      let bound = there.0.below in record {
        numbers = instructions_front code p A test account_code;
        tests = instructions_back code p A test account_code;
        bytes = subst (λ q. InstructionsAt code q N) at (instructions_front code (p + 4 * length (take_account need)) N made frame_code);
        frame = subst (λ q. InstructionsAt code (q + 4 * length N) made) at (instructions_back code (p + 4 * length (take_account need)) N made frame_code);
        below = omega (arith, bound, whole);
        inner = subst (λ q. StandsAt code (straight P ++ behind_parameters) q) whole there.1;
      }

  -- ---- the account

  zero_is : m.registers reg.ZERO ≡ 0
  zero_is = x.zero_is

  account_is : m.registers reg.ACCOUNT ≡ account
  account_is = x.account_is

  account_fits : account < 2 ^ 31
  account_fits = let a = formed.balance in let b = runs.limit_fits in omega (arith, a, b)

  -- the account hasn't enough
  traps_stack : account < need → LeadsFrom program form page input code spot left calls h (traps kind.Stack) m
  traps_stack less =
      let bound = laid.below in
      let s = small.small in
      let loaded = number_at code reg.HELP need p m refl zero_is s here (omega (arith, bound)) laid.numbers in
      let n = machine_with m (with_register m.registers reg.HELP need) (p + 4 * length A) in
      let o = machine_with m (with_register m.registers reg.HELP need) (p + 4 * length A + 4) in
      let less' : m.registers reg.ACCOUNT < need = omega (arith, account_is, less) in
      let passed = comes_by_one code (bgeu reg.ACCOUNT reg.HELP (pos 12)) refl n o laid.tests.0 (bgeu_passes code n less' (omega (arith, bound))) in
      let served = serves_at program form page input code 9 (p + 4 * length A + 4) o refl zero_is refl (omega (arith, bound)) (laid.tests.1.0, (laid.tests.1.1.0, tt)) in
      leads_to program form page input code (length A + 2) _ (comes_on code (length A) 2 m n _ loaded (comes_on code 1 1 n o _ passed served.0)) (served.1, x.left_is)

  -- the registers behind the account, and with the frame's bytes
  abbrev r : ℕ → ℕ
  r = with_register (with_register m.registers reg.HELP need) reg.ACCOUNT (m.registers reg.ACCOUNT - need)

  abbrev sp : ℕ
  sp = m.registers reg.SP

  abbrev m1 : Machine
  m1 = machine_with m r p1

  -- before the frame is taken off the stack pointer, and behind that
  abbrev before_frame : Mapped → Machine
  before_frame w = record { registers = with_register r reg.HELP B; counter = p2; words = w }

  abbrev at_store : Mapped → Machine
  at_store w = record { registers = with_register (with_register r reg.HELP B) reg.SP (sp - B); counter = p2 + 4; words = w }

  may_stand : MayStand program page calls spot.frames sp
  may_stand = subst (MayStand program page calls spot.frames) (sym x.low_is) x.may_stand

  sp_four : sp % 4 ≡ 0
  sp_four = may_stand_aligned program page calls spot.frames sp runs.page_is x.frames may_stand

  sp_top : sp ≤ 2 ^ 30
  sp_top = let a = may_stand_low program page calls spot.frames sp may_stand in let b = low_end_below program page calls spot.frames x.frames in omega (arith, a, b)

  module _ (enough : need ≤ account) where
    fits_below : B ≤ sp
    fits_below = let a = small.most in frame_fits program page calls spot.frames sp B limit account runs.page_is x.frames may_stand runs.limit_fits formed.balance (omega (arith, a, enough))

    sub_effect : (w : Mapped) → machine_after (sub reg.SP reg.SP reg.HELP) (before_frame w) ≡ Some (at_store w)
    sub_effect w =
        let top = sp_top in
        let low = fits_below in
        let a = small.most in
        let b = small.small in
        let bound = laid.below in
        let value : alu.word (int sp -ℤ int B) ≡ sp - B = words.word-sub sp B (omega (arith, top)) (omega (arith, a, b)) ∙ omega (arith, low, top) in
        let next = follow_is p2 (omega (arith, bound)) in
        ap (λ v. Some (machine_with (before_frame w) (with_register (with_register r reg.HELP B) reg.SP v) (follow p2))) value
        ∙ ap (λ c. Some (machine_with (before_frame w) (with_register (with_register r reg.HELP B) reg.SP (sp - B)) c)) next

    -- the machine comes to the first store
    comes_to_store : GoesTo code (length A + 2 + (length N + 1)) m (at_store m.words)
    comes_to_store =
        let bound = laid.below in
        let a = small.most in
        let s = small.small in
        let fits = account_fits in
        let e1 : p + 4 * length A + 4 + 4 + 4 ≡ p + 4 * length A + 12 = omega arith in
        let four = e.aligned in
        let paid = account_runs code need p m zero_is (omega (arith, account_is, fits)) (omega (arith, account_is, enough)) s (omega (arith, four)) here (omega (arith, bound)) laid.numbers laid.tests.0
        (subst (λ q. code q (sub reg.ACCOUNT reg.ACCOUNT reg.HELP)) e1 laid.tests.1.1.1.0) in
        let loaded = number_at code reg.HELP B p1 m1 refl zero_is (omega (arith, a, s)) refl (omega (arith, bound)) laid.bytes in
        let taken = comes_by_one code (sub reg.SP reg.SP reg.HELP) refl (before_frame m.words) (at_store m.words) laid.frame.0 (sub_effect m.words) in
        comes_on code (length A + 2) (length N + 1) m m1 (at_store m.words) paid (comes_on code (length N) 1 m1 (before_frame m.words) (at_store m.words) loaded taken)

    -- ---- the frame

    abbrev C : List Part
    C = body_code own S 1 function.body

    abbrev p3 : ℕ
    p3 = p2 + 24

    -- behind the parameters
    abbrev p4 : ℕ
    p4 = p3 + 4 * length P

    abbrev F : Frame
    F = record { address = sp; back = m.registers reg.RA; exit = p4 + 4 * length C + 4 }

    abbrev K : List Item
    K = rest

    -- the code behind the parameters
    behind : StandsAt code behind_parameters p4
    behind = subst (λ n. StandsAt code behind_parameters (p3 + 4 * n)) (straight_length code P) (then_second code (straight P) behind_parameters (λ q. ⊤) p3 laid.inner)

    bound4 : p4 < 2 ^ 30
    bound4 =
        let last = then_second code C (straight fall_code ++ exit_of own need) (λ q. ⊤) p4 behind in
        let b = then_below code (plain (addi reg.VALUE reg.ZERO (pos 0))) (exit_of own need) (λ q. ⊤) (p4 + 4 * length C) last in
        omega (arith, b)

    coded : Coded program form page code K (f ∷ calls) (F ∷ spot.frames) p4
    coded = (1, omega arith, then_map code C _ (Coded program form page code (fall ∷ join ∷ end ∷ k) (f ∷ calls) (F ∷ spot.frames)) p4 (parted_at code C (straight fall_code ++ exit_of own need) (λ q. ⊤) p4 behind) (λ q y. fall_coded q y.0 y.1))
      where
        fall_coded : (q : ℕ) → q ≡ p4 + 4 * length C → StandsAt code (straight fall_code ++ exit_of own need) q → Coded program form page code (fall ∷ join ∷ end ∷ k) (f ∷ calls) (F ∷ spot.frames) q
        fall_coded q at stands = (
          stands.0,
          (
            0,
            (
              omega (arith, at),
              then_map code (straight (sync_code own)) _ (Coded program form page code (end ∷ k) (f ∷ calls) (F ∷ spot.frames)) (q + 4) (parted code (straight (sync_code own)) (straight (leave need)) (λ q. ⊤) (q + 4) stands.1)
                  (λ o z. (z, back_four, back_small, back)),
            ),
          ),
        )

    two_words : 2 ≤ words_in (slice_get program.functions f)
    two_words = subst (λ o. 2 ≤ words_in o) (sym function_is) (let a = frame_holds function in omega (arith, a))

    shape : AreFrames program page (f ∷ calls) (F ∷ spot.frames)
    shape = (may_stand, sp_four, fits_below, x.frames, two_words)

    module _ (next_fits : RestFits program page K (f ∷ calls)) (w : Mapped) (more : Extends m.words w) (mapped : (a : ℕ) → a % 4 ≡ 0 → sp - B ≤ a → a < sp → IsWritable (w a)) where
      abbrev final : Stack
      final = push_frame h L ws

      m6 : Machine
      m6 = record { registers = framed_registers B r; counter = p3; words = framed_words B r w }

      comes_to_parameters : GoesTo code 5 (at_store w) m6
      unfolding m6
      comes_to_parameters =
          let bound = laid.below in
          let a = small.most in
          let s = small.small in
          let top = sp_top in
          let two = two_words in
          let sized : IsFrameBelow B sp w = record { aligned = sp_four; whole = omega arith; least = omega (arith, two); most = fits_below; word = omega (arith, top); small = omega (arith, a, s); mapped = mapped } in
          after_one program form page code compiled 5 (sub reg.SP reg.SP reg.HELP) (before_frame w) (at_store w) m6 laid.frame.0 (sub_effect w)
          (frame_by code B p2 r w (before_frame w) 0 zero_is sized (omega (arith, bound)) laid.frame refl)

      live : (d s : ℕ) (r : Reference) → d < L → value_in (h.references d s) ≡ Some r → r.depth < L
      live d s r deep is = let below = refers_below program page limit (control calls account (framing f ws) k) h d s r formed is in omega (arith, below, deep)

      framed : IsFramed program page f calls F spot.frames shape h final (suc (end_count k)) K next_fits [] (framed_words B r w)
      framed = record {
        slots = saved_holds program page f calls F spot.frames shape w (m.registers reg.ZERO) (m.registers reg.RA) (m.registers reg.FP) mapped h m.words more live x.slots;
        kept = saved_kept program page f calls F spot.frames shape w (m.registers reg.ZERO) (m.registers reg.RA) (m.registers reg.FP) mapped k h final m.words more
            (λ d s deep. at_before d L (slice_parameter ws s) (h.references d s) deep) formed.fits refl x.pointer_is x.kept;
        own = saved_own program page f calls F spot.frames shape w (m.registers reg.ZERO) (m.registers reg.RA) (m.registers reg.FP) mapped (end_count k) m.words more x.own;
      }

      call : IsCall program page limit calls f ws
      call = framing_call program page limit calls account f ws k h formed

      same_function : call.function ≡ function
      same_function = same_Some call.function function (sym call.function_is ∙ function_is)

      fit : FitParameters program call.whole calls ws (map (λ p. p.slot) function.parameters)
      fit = subst (λ (g : Function ℕ). FitParameters program call.whole calls ws (parameter_slots g)) same_function call.fit

      all_parameters : take (length ws) function.parameters ≡ function.parameters
      all_parameters =
          let count = call.count ∙ ap (λ (g : Function ℕ). length (parameter_slots g)) same_function in
          let mapped = length-map function.parameters (λ (p : items.Item ℕ). p.slot) in
          take_all (length ws) function.parameters (omega (arith, count, mapped))

      first : (n : ℕ) (kind : Slot) → slice_get (map (λ (p : items.Item ℕ). p.slot) function.parameters) n ≡ Some kind → slice_get S n ≡ Some kind
      first n kind there =
          let typed = (sound_typed program runs.sound).functions f function function_is in
          ap (λ o. slice_get (slots_in o) n) function_is ∙ ap (λ (l : List Slot). slice_get l n) typed.slots ∙ get_front (parameter_slots function) typed.others n kind there

      high_kept : (q : ℕ) → reg.RESULT ≤ q → framed_registers B r q ≡ m.registers q
      high_kept q high =
          let help : (q == reg.HELP) ≡ false = ne_eqb q reg.HELP (λ e. omega (arith, e, high)) in
          let account : (q == reg.ACCOUNT) ≡ false = ne_eqb q reg.ACCOUNT (λ e. omega (arith, e, high)) in
          let stack : (q == reg.SP) ≡ false = ne_eqb q reg.SP (λ e. omega (arith, e, high)) in
          let pointer : (q == reg.FP) ≡ false = ne_eqb q reg.FP (λ e. omega (arith, e, high)) in
          rw (help, account, stack, pointer) refl

      stored : (t : Machine) × GoesTo code (length P) m6 t × HasStored program page f calls F spot.frames shape h final (suc (end_count k)) K next_fits code ws (length P) m6 t
      unfolding m6
      stored =
          let all = ap (λ ps. parameters_code S 0 reg.RESULT ps) all_parameters in
          let bound = bound4 in
          let there = straight_front code P (StandsAt code behind_parameters) p3 (parted code (straight P) behind_parameters (λ q. ⊤) p3 laid.inner) in
          let many = ap (λ (l : List Operation). length l) all in
          let ran = parameters_run program page f calls F spot.frames shape h final (suc (end_count k)) K next_fits code call.whole function.parameters first ws m6 fit refl
          (handed_same program page calls spot.frames m.registers (framed_registers B r) ws high_kept handed) framed (omega (arith, bound, many)) (subst (λ is. InstructionsAt code p3 is) (sym all) there) in
          subst (λ (is : List Operation). (t : Machine) × GoesTo code (length is) m6 t × HasStored program page f calls F spot.frames shape h final (suc (end_count k)) K next_fits code ws (length is) m6 t) all ran

      reaches : Reaches program form page input code spot left (control (f ∷ calls) (account - need) idle K) final (at_store w)
      unfolding m6
      reaches =
          let t = stored.0 in
          let does = stored.2 in record {
            count = 5 + length P;
            last = t;
            goes_to = comes_on code 5 (length P) (at_store w) m6 t comes_to_parameters stored.1;
            stands = (
              record { frames = F ∷ spot.frames; low = sp - B; returns = spot.returns },
              comes F refl x.low_is refl,
              refl,
              record {
                frames = shape;
                may_stand = inl refl;
                slots = does.framed.slots;
                kept = does.framed.kept;
                own = does.framed.own;
                returns_are = x.returns_are;
                zero_is = does.leaves.kept reg.ZERO refl ∙ zero_is;
                low_is = does.leaves.kept reg.SP refl;
                account_is = does.leaves.kept reg.ACCOUNT refl ∙ ap (λ n. n - need) account_is;
                left_is = does.leaves.kept reg.TICKS refl ∙ x.left_is;
                pointer_is = does.leaves.kept reg.FP refl;
                placed = subst (LeadsTo code (Coded program form page code K (f ∷ calls) (F ∷ spot.frames))) (sym does.leaves.counter) (0, coded);
              },
            );
          }

  -- ---- the step

  abbrev move : (n : ℕ) → (enough : Bool) → Move
  move n enough = if enough then silent (control (f ∷ calls) (account - n) idle rest) (push_frame h L ws) else traps kind.Stack

  abbrev leads : Move → Type 0
  leads v = LeadsFrom program form page input code spot left calls h v m

  by_enough : (b : Bool) → nat_le need account ≡ b → KeepsFormed program page limit h (move need b) → leads (move need b)
  by_enough false test next = traps_stack (leb-false need account test)
  by_enough true test next =
      let enough = leb-true need account test in
      let four = e.aligned in
      let bound = laid.below in
      let low = x.low_is in
      leads_to program form page input code (length A + 2 + (length N + 1)) (at_store m.words) (comes_to_store enough) (opens f calls refl x.frames x.may_stand (record {
        store = record { there = laid.frame.1.0; aligned = omega (arith, four); below = omega (arith, bound) };
        low_end = ap (λ a. a - B) low;
        goes_on = λ w more mapped. reaches enough next.fits w more (λ a whole above below. mapped a whole (omega (arith, above, low)) (omega (arith, below, low)));
      }))

  pub push_law : leads (push_call program page input (control calls account (framing f ws) k) h f ws k (slice_get program.functions f))
  push_law =
      subst leads (sym pushed) (by_enough (nat_le need account) refl (subst (KeepsFormed program page limit h) pushed (step_keeps program page limit input runs (control calls account (framing f ws) k) h formed)))
    where
      pushed : push_call program page input (control calls account (framing f ws) k) h f ws k (slice_get program.functions f) ≡ move need (nat_le need account)
      pushed =
          ap (push_call program page input (control calls account (framing f ws) k) h f ws k) function_is
          ∙ ap (λ o. move (call_bytes_in page o) (nat_le (call_bytes_in page o) account)) (sym function_is)

module _ (program : Program) (form : Form) (page limit : ℕ) (input : List ℤ) (code : Code) (runs : Runs program page limit input) (compiled : IsCompiled program form page code) where
  -- a call at hand that took its tick gets its frame
  pub framing_law : (spot : Spot) (left : ℕ) (calls : List ℕ) (account f : ℕ) (ws : List Argument) (k : List Item) (h : Stack) (m : Machine)
      → Formed program page limit (control calls account (framing f ws) k) h
      → ExactAt program form page input code spot left (control calls account (framing f ws) k) h m
      → Placed program form page input code (framing f ws) k calls spot.frames m.registers m.counter
      → LeadsFrom program form page input code spot left calls h (push_call program page input (control calls account (framing f ws) k) h f ws k (slice_get program.functions f)) m
  framing_law spot left calls account f ws k h m formed x direct =
      push_law program form page limit input code runs compiled spot left calls account f ws k h m direct.0.0 direct.0.1 direct.0.2 formed x direct.0.3 direct.1 direct.2 direct.3 direct.4
