-- The hand before a call: its tick, and what a call's instructions before its frame do.
use Rattle.cm_gen.proofs.patterns.ParameterLaw.{handed_same}
use Rattle.cm_gen.proofs.patterns.JumpLaw.{jump_to, distance_to}
use Rattle.std.proofs.Common.{◌≡◌, ℕ, zero, suc, ◌+◌, ◌-◌, ◌*◌, ◌^◌, ◌<◌, List, ◌∷◌, ◌++◌, length, Some, refl, sym, ap, ◌∙◌, subst, arith, length-append}
use Rattle.std.proofs.lemmas.Bool.{ne_eqb}
use Rattle.std.specs.Prelude.{Bool, ℤ, pos, ◌-ℤ◌, ◌+ℤ◌, slice_get}
use Rattle.std.specs.Int.{w32, cast_unsigned}
use Rattle.cm_isa.specs.declared.convention.TheConstants as reg
use Rattle.cm_isa.specs.Alu as alu
use Rattle.cm_isa.specs.Alu.{int, offset}
use Rattle.cm_isa.specs.Action.{follow}
use Rattle.cm_isa.specs.Machine.{Machine, Code, InstructionsAt, machine_with}
use Rattle.cm_gen.specs.Returns.{GoesTo}
use Rattle.cm_isa.specs.Register.{with_register}
use Rattle.cm_syntax.specs.declared.stmt.Function.{Function}
use Rattle.cm_syntax.specs.declared.stmt.Program.{Program}
use Rattle.cm_syntax.specs.Fault.{parameter_slots}
use Rattle.cm_syntax.specs.Label.{ticks}
use Rattle.cm_syntax.specs.Stack.{Stack, Argument}
use Rattle.cm_syntax.specs.Rest.{Item, deliver, entering, framing, control}
use Rattle.cm_meaning.specs.TypedState.{FitParameters, Calling, Ready}
use Rattle.cm_gen.specs.declared.form.Form.{Form}
use Rattle.cm_gen.specs.Assembler.{addi, jal, bne}
use Rattle.cm_gen.specs.Code.{service, entry, tick, take_account, make_frame}
use Rattle.cm_gen.specs.Part.{table_word}
use Rattle.cm_gen.specs.Image.{frame_bytes_of, need_of, inner_code}
use Rattle.cm_gen.specs.Standing.{StandsAt, HasEntry, IsCompiled}
use Rattle.cm_gen.specs.Formed.{Within, alone, before, within, Formed}
use Rattle.cm_gen.specs.StandsFor.{Spot, Placed, ExactAt, Serves, LeadsFrom}
use Rattle.cm_gen.proofs.patterns.StepLaw.{comes_by_one, comes_on, instructions_front, with_register_other}
use Rattle.cm_gen.proofs.patterns.PrologueLaw.{set_at, tick_runs, bne_passes}
use Rattle.cm_gen.proofs.patterns.StandingLaw.{IsCodeAt, straight_first}
use Rattle.cm_gen.proofs.items.StateLaw.{leads_to}

-- ---- jumps and services

module _ (program : Program) (form : Form) (page : ℕ) (input : List ℤ) (code : Code) where
  -- a call of a service: the machine comes to its `ecall`
  pub serves_at : (n p : ℕ) (m : Machine) → alu.word (int 0 +ℤ int (cast_unsigned w32 (pos n))) ≡ n → m.registers reg.ZERO ≡ 0 → m.counter ≡ p → p + 4 < 2 ^ 32 → InstructionsAt code p (service (pos n))
      → let t = machine_with m (with_register m.registers reg.SERVICE n) (p + 4) in GoesTo code 1 m t × Serves program form page input code n t
  serves_at n p m value zero_is here room code_is = (
    set_at code (addi reg.SERVICE reg.ZERO (pos n)) refl reg.SERVICE n p m here room code_is.0 (ap (λ v. Some (machine_with m (with_register m.registers reg.SERVICE v) (follow m.counter))) (ap (λ z. alu.word (int z +ℤ int (cast_unsigned w32 (pos n)))) zero_is ∙ value)),
    record { there = code_is.1.0; number_is = refl },
  )

-- ---- a call at hand

module _ (program : Program) (page limit : ℕ) where
  -- what is known of a call at hand
  pub record IsCall (calls : List ℕ) (f : ℕ) (ws : List Argument) : Type 0 where
    pub function : Function ℕ
    pub function_is : slice_get program.functions f ≡ Some function
    pub whole : Stack
    pub fit : FitParameters program whole calls ws (parameter_slots function)
    pub count : length ws ≡ length (parameter_slots function)

  is_call : (calls : List ℕ) (f : ℕ) (ws : List Argument) (whole : Stack) (gives : Bool) (k : List Item) → Calling program whole gives calls f ws k → IsCall calls f ws
  is_call calls f ws whole gives k y = record { function = y.0; function_is = y.1; whole = whole; fit = y.2; count = y.3 }

  pub entering_call : (calls : List ℕ) (account f : ℕ) (ws : List Argument) (k : List Item) (h : Stack) → Formed program page limit (control calls account (entering f ws) k) h → IsCall calls f ws
  entering_call calls account f ws k h x = by_context x.context x.typed.rest
    where
      by_context : (context : Within) → let c = within context (control calls account (entering f ws) k) in Ready program x.whole x.gives c.calls c.hand c.rest → IsCall calls f ws
      by_context alone y = is_call calls f ws x.whole x.gives k y
      by_context (before d c) y = is_call calls f ws x.whole x.gives (k ++ (deliver d ∷ c.rest)) y

  pub framing_call : (calls : List ℕ) (account f : ℕ) (ws : List Argument) (k : List Item) (h : Stack) → Formed program page limit (control calls account (framing f ws) k) h → IsCall calls f ws
  framing_call calls account f ws k h x = by_context x.context x.typed.rest
    where
      by_context : (context : Within) → let c = within context (control calls account (framing f ws) k) in Ready program x.whole x.gives c.calls c.hand c.rest → IsCall calls f ws
      by_context alone y = is_call calls f ws x.whole x.gives k y
      by_context (before d c) y = is_call calls f ws x.whole x.gives (k ++ (deliver d ∷ c.rest)) y

module _ (program : Program) (form : Form) (page limit : ℕ) (input : List ℤ) (code : Code) (compiled : IsCompiled program form page code) where
  -- the instructions before a frame stand at the entry, and behind them is the inner code
  pub entry_there : (f : ℕ) (function : Function ℕ) (e : HasEntry form page code f function)
      → IsCodeAt code e.entry (entry (frame_bytes_of function) (need_of page function))
      × StandsAt code (inner_code form page function) (e.entry + 4 * length (entry (frame_bytes_of function) (need_of page function)))
  entry_there f function e = straight_first code _ _ (inner_code form page function) (λ q. Unit {0}) e.entry e.entry_code

  pub entering_law : (spot : Spot) (left : ℕ) (calls : List ℕ) (account f : ℕ) (ws : List Argument) (k : List Item) (h : Stack) (m : Machine) → left < 2 ^ 32
      → Formed program page limit (control calls account (entering f ws) k) h
      → ExactAt program form page input code spot left (control calls account (entering f ws) k) h m
      → Placed program form page input code (entering f ws) k calls spot.frames m.registers m.counter
      → LeadsFrom program form page input code spot left calls h (ticks (control calls account (framing f ws) k) h) m
  entering_law spot left calls account f ws k h m fits formed x direct = by_left left fits x
    where
      is : IsCall program page limit calls f ws
      is = entering_call program page limit calls account f ws k h formed

      e : HasEntry form page code f is.function
      e = compiled.functions f is.function is.function_is

      here : m.counter ≡ table_word f
      here = direct.0

      there : IsCodeAt code e.entry (entry (frame_bytes_of is.function) (need_of page is.function))
      there = (entry_there f is.function e).0

      code_is : InstructionsAt code e.entry tick
      code_is = instructions_front code e.entry tick _ there.there

      bound : e.entry + 16 < 2 ^ 30
      bound = let b = there.below in let l = length-append tick (take_account (need_of page is.function) ++ make_frame (frame_bytes_of is.function)) in omega (arith, b, l)

      at_entry : Machine
      at_entry = machine_with m m.registers e.entry

      jumped : GoesTo code 1 m at_entry
      jumped =
          let o = pos e.entry -ℤ pos (table_word f) in
          comes_by_one code (jal reg.ZERO o) refl m at_entry (subst (λ p. code p (jal reg.ZERO o)) (sym here) e.table.there)
          (jump_to reg.ZERO e.entry o m (ap (λ p. offset p o) here ∙ distance_to (table_word f) e.entry (omega (arith, bound))) e.aligned)

      by_left : (left : ℕ) → left < 2 ^ 32 → ExactAt program form page input code spot left (control calls account (entering f ws) k) h m
          → LeadsFrom program form page input code spot left calls h (ticks (control calls account (framing f ws) k) h) m
      by_left zero fits y =
          let z = y.zero_is in
          let passed = comes_by_one code (bne reg.TICKS reg.ZERO (pos 12)) refl at_entry _ code_is.0 (bne_passes code at_entry z y.left_is (omega (arith, bound))) in
          let served = serves_at program form page input code 6 (e.entry + 4) (machine_with m m.registers (e.entry + 4)) refl z refl (omega (arith, bound)) (code_is.1.0, (code_is.1.1.0, tt)) in
          leads_to program form page input code 3 _ (comes_on code 1 2 m at_entry _ jumped (comes_on code 1 1 at_entry _ _ passed served.0)) (served.1, y.left_is)
      by_left (suc left) fits y =
          let p = e.entry + 16 in
          let r = with_register m.registers reg.TICKS (m.registers reg.TICKS - 1) in
          let t = machine_with m r p in
          let ticked = tick_runs code e.entry at_entry y.zero_is (λ n. omega (arith, n, y.left_is)) (omega (arith, y.left_is, fits)) e.aligned refl (omega (arith, bound)) code_is in
          leads_to program form page input code 3 t (comes_on code 1 2 m at_entry t jumped ticked)
          (record {
            frames = y.frames;
            may_stand = y.may_stand;
            slots = y.slots;
            kept = y.kept;
            own = y.own;
            returns_are = y.returns_are;
            zero_is = y.zero_is;
            low_is = y.low_is;
            account_is = y.account_is;
            left_is = omega (arith, y.left_is);
            pointer_is = y.pointer_is;
            placed = (0, ((is.function, is.function_is, e, refl), handed_same program page calls spot.frames m.registers r ws (λ q l. with_register_other m.registers reg.TICKS (m.registers reg.TICKS - 1) q (ne_eqb q reg.TICKS (λ same. omega (arith, same, l)))) direct.1, direct.2, direct.3, direct.4));
          })
