-- The ends: of a body, of a call, and of the rest.
use Rattle.cm_gen.proofs.patterns.LeavesLaw.{SameRegisters, same_self}
use Rattle.cm_gen.proofs.patterns.JumpLaw.{jump_to}
use Rattle.std.proofs.Common.{◌≡◌, ℕ, zero, suc, ◌+◌, ◌-◌, ◌*◌, ◌%◌, ◌^◌, ◌<◌, ◌≤◌, List, [], ◌∷◌, ◌++◌, length, Option, None, Some, refl, sym, ap, ◌∙◌, subst, arith, inl, inr}
use Rattle.std.proofs.lemmas.Int.{ints}
use Rattle.std.proofs.lemmas.Option.{none-some, same_Some}
use Rattle.std.specs.Prelude.{Bool, true, false, if◌then◌else◌, ⊤, ℤ, pos, ◌+ℤ◌, slice_get}
use Rattle.std.specs.Int.{w32, cast_unsigned}
use Rattle.cm_isa.specs.declared.convention.TheConstants as reg
use Rattle.cm_isa.specs.Bits.{minus}
use Rattle.cm_isa.specs.Operation.{Operation}
use Rattle.cm_isa.specs.Alu as alu
use Rattle.cm_isa.specs.Alu.{int, offset}
use Rattle.cm_isa.specs.Action.{follow}
use Rattle.cm_isa.specs.Machine.{Machine, Mapped, Code, InstructionsAt, machine_after, machine_with, writable, IsWritable, Stored}
use Rattle.cm_gen.specs.Returns.{GoesTo}
use Rattle.cm_isa.specs.Register.{with_register}
use Rattle.cm_syntax.specs.declared.stmt.Function.{Function}
use Rattle.cm_syntax.specs.declared.stmt.Program.{Program}
use Rattle.cm_syntax.specs.Label.{silent, syncs}
use Rattle.cm_syntax.specs.Cell.{absent, value_in}
use Rattle.cm_syntax.specs.Stack.{Stack, Reference, pop_frame}
use Rattle.cm_syntax.specs.Rest.{Item, apply, arguments, pass, perform, sequence, body, store, branch, turn, test, part, exit, fall, join, end, Hand, idle, holds, returned, entering, framing, Control, control}
use Rattle.cm_syntax.specs.Step.{Move, top, rest_at_join, hand_value, leave, fall_off, running_function, end_call, hand_step, call_bytes_in}
use Rattle.cm_meaning.specs.TypedState.{slots_at}
use Rattle.cm_meaning.specs.Activation.{end_count}
use Rattle.cm_meaning.proofs.TypedFramesLaw.{IsPlain}
use Rattle.cm_gen.proofs.frames.MappedWordLaw.{own_reads}
use Rattle.cm_gen.specs.declared.form.Form.{Form}
use Rattle.cm_gen.specs.declared.form.Form.TheVariants.{Serial, Cilk}
use Rattle.cm_gen.specs.Assembler.{lui, addi, add, lw, jal, jalr}
use Rattle.cm_gen.specs.Code as code_of
use Rattle.cm_gen.specs.Code.{is_near, high_part, low_part, load_number}
use Rattle.cm_gen.specs.Part.{Part, straight}
use Rattle.cm_gen.specs.Statement.{sync_code, exit_code, statement_code, sequence_code, body_code, branch_code, turn_code, test_code}
use Rattle.cm_gen.specs.Expression.{expression_code}
use Rattle.cm_gen.specs.Standing.{Frame, used, item_code, split_code, loop_of, slots_here, LeadsTo, BehindJumps, StandsAt, StandsThen, form_here, Coded}
use Rattle.cm_gen.specs.FrameWord.{bits, IsPlace, IsOwnNumber, word_number, word_address, pointer_of, cell_at, HasCell, Holds, Kept, HasOwn}
use Rattle.cm_gen.specs.Formed.{Runs, Formed}
use Rattle.cm_gen.specs.StandsFor.{Spot, goes, backs, passed, Placed, ExactAt, turns, ArrivesSync, LeadsFrom}
use Rattle.cm_gen.proofs.patterns.WordLaw as words
use Rattle.cm_gen.proofs.patterns.StepLaw.{comes_by_one, comes_on, load_word, instructions_front, instructions_back}
use Rattle.cm_gen.proofs.patterns.PrologueLaw.{set_at, number_at}
use Rattle.cm_gen.proofs.patterns.StandingLaw.{leads_map, then_end, then_second, straight_there, straight_front}
use Rattle.cm_gen.proofs.items.StateLaw.{plain_backs, exact_same, leads_to, leads_on, leads_stuck, coded_of, hand_lasts}
use Rattle.cm_gen.proofs.states.FactLaw.{slots_are}
use Rattle.cm_gen.proofs.frames.FrameWordLaw.{at_before, slots_before, words_before, lengths, kept_lasts, may_stand_low, low_end_below}
use Rattle.cm_gen.proofs.frames.DeeperLaw.{top_low, deeper_address, deeper_cell, same_row, refers_below}
use Rattle.cm_gen.proofs.items.EntryLaw.{serves_at}

-- ---- the registers and the machine behind the end of a call

-- the registers that the code after a body leaves
abbrev pub ended_registers : (q result back pointer : ℕ) → (ℕ → ℕ) → ℕ → ℕ
ended_registers q result back pointer r = with_register (with_register (with_register (with_register (with_register (with_register r reg.HELP q) reg.ACCOUNT (r reg.ACCOUNT + q)) reg.RESULT result) reg.RA back) reg.SP (r reg.FP)) reg.FP pointer

-- the instructions behind the number
abbrev ending : List Operation
ending = add reg.ACCOUNT reg.ACCOUNT reg.HELP ∷ addi reg.RESULT reg.VALUE (pos 0) ∷ lw reg.RA reg.FP (minus 4) ∷ addi reg.SP reg.FP (pos 0) ∷ lw reg.FP reg.FP (minus 8) ∷ jalr reg.ZERO reg.RA (pos 0) ∷ []

module _ (code : Code) where
  pub ends_by : (q p back pointer : ℕ) (r : ℕ → ℕ) (w : ℕ → Stored) (m : Machine) (size : ℕ) → r reg.FP % 4 ≡ 0 → 8 ≤ r reg.FP → r reg.FP < 2 ^ 32 → r reg.ACCOUNT + q < 2 ^ 32
      → w (r reg.FP - 4) ≡ writable back → w (r reg.FP - 8) ≡ writable pointer → back % 4 ≡ 0 → back < 2 ^ 32 → p + 24 < 2 ^ 32
      → InstructionsAt code p ending
      → GoesTo code size m (record { registers = with_register r reg.HELP q; counter = p; words = w })
      → let result = alu.word (int (r reg.VALUE) +ℤ int (cast_unsigned w32 (pos 0))) in
      let m5 : Machine = record { registers = ended_registers q result back pointer r; counter = p + 4 + 4 + 4 + 4 + 4; words = w } in
      let m6 : Machine = record { registers = ended_registers q result back pointer r; counter = back; words = w } in
      GoesTo code (size + 5) m m5 × code m5.counter (jalr reg.ZERO reg.RA (pos 0)) × (machine_after (jalr reg.ZERO reg.RA (pos 0)) m5 ≡ Some m6)
  ends_by q p back pointer r w m size aligned least fits8 account there_4 there_8 back_4 back_word room code_is number_runs =
      let f = r reg.FP in
      let result = alu.word (int (r reg.VALUE) +ℤ int (cast_unsigned w32 (pos 0))) in
      let r0 = with_register r reg.HELP q in
      let r1 = with_register r0 reg.ACCOUNT (r reg.ACCOUNT + q) in
      let r2 = with_register r1 reg.RESULT result in
      let r3 = with_register r2 reg.RA back in
      let r4 = with_register r3 reg.SP f in
      let r5 = with_register r4 reg.FP pointer in
      let m0 : Machine = record { registers = r0; counter = p; words = w } in
      let m1 : Machine = record { registers = r1; counter = p + 4; words = w } in
      let m2 : Machine = record { registers = r2; counter = p + 4 + 4; words = w } in
      let m3 : Machine = record { registers = r3; counter = p + 4 + 4 + 4; words = w } in
      let m4 : Machine = record { registers = r4; counter = p + 4 + 4 + 4 + 4; words = w } in
      let m5 : Machine = record { registers = r5; counter = p + 4 + 4 + 4 + 4 + 4; words = w } in
      let m6 : Machine = record { registers = r5; counter = back; words = w } in
      let paid : alu.word (int (r reg.ACCOUNT) +ℤ int q) ≡ r reg.ACCOUNT + q = words.word-add (r reg.ACCOUNT) q (omega arith) (omega arith) ∙ omega arith in
      let copied : alu.word (int f +ℤ int (cast_unsigned w32 (pos 0))) ≡ f = words.word-add f 0 fits8 (omega arith) ∙ omega arith in
      let at_4 : offset f (minus 4) ≡ f - 4 = words.offset_down f 4 (omega arith) fits8 (minus 4) (omega (arith, ints)) in
      let at_8 : offset f (minus 8) ≡ f - 8 = words.offset_down f 8 (omega arith) fits8 (minus 8) (omega (arith, ints)) in
      let four_4 : (f - 4) % 4 ≡ 0 = omega arith in
      let eight_4 : (f - 8) % 4 ≡ 0 = omega arith in
      let at_back : offset back (pos 0) ≡ back = words.offset_up back 0 (omega arith) ∙ omega arith in
      let even : back - back % 2 ≡ back = omega arith in
      let s1 : GoesTo code 1 m0 m1 = set_at code (add reg.ACCOUNT reg.ACCOUNT reg.HELP) refl reg.ACCOUNT (r reg.ACCOUNT + q) p m0 refl (omega arith) code_is.0 (ap (λ v. Some (machine_with m0 (with_register r0 reg.ACCOUNT v) (follow p))) paid) in
      let s2 : GoesTo code 1 m1 m2 = set_at code (addi reg.RESULT reg.VALUE (pos 0)) refl reg.RESULT result (p + 4) m1 refl (omega arith) code_is.1.0 refl in
      let s3 : GoesTo code 1 m2 m3 = set_at code (lw reg.RA reg.FP (minus 4)) refl reg.RA back (p + 4 + 4) m2 refl (omega arith) code_is.1.1.0 (rw at_4 (load_word reg.RA (f - 4) back m2 four_4 (own_reads _ back there_4))) in
      let s4 : GoesTo code 1 m3 m4 = set_at code (addi reg.SP reg.FP (pos 0)) refl reg.SP f (p + 4 + 4 + 4) m3 refl (omega arith) code_is.1.1.1.0 (ap (λ v. Some (machine_with m3 (with_register r3 reg.SP v) (follow (p + 4 + 4 + 4)))) copied) in
      let s5 : GoesTo code 1 m4 m5 = set_at code (lw reg.FP reg.FP (minus 8)) refl reg.FP pointer (p + 4 + 4 + 4 + 4) m4 refl (omega arith) code_is.1.1.1.1.0 (rw at_8 (load_word reg.FP (f - 8) pointer m4 eight_4 (own_reads _ pointer there_8))) in
      let five : GoesTo code 5 m0 m5 = comes_on code 1 4 m0 m1 m5 s1 (comes_on code 1 3 m1 m2 m5 s2 (comes_on code 1 2 m2 m3 m5 s3 (comes_on code 1 1 m3 m4 m5 s4 s5))) in
      (comes_on code size 5 m m0 m5 number_runs five, code_is.1.1.1.1.1.0, rw (at_back, even, back_4) refl)

-- ---- places

module _ (code : Code) where
  -- where parts stand, the place is far below the end of the addresses, if what is behind them is
  pub start_below : (parts : List Part) (K : ℕ → Type 0) (p : ℕ) → ((q : ℕ) → K q → q < 2 ^ 30) → StandsThen code parts K p → p < 2 ^ 30
  start_below [] K p below (zero, x) = below p x
  start_below [] K p below (suc n, x) = let b = x.1.jump.below in omega (arith, b)
  start_below (first ∷ more) K p below x = let b = x.0.below in omega (arith, b)

  -- so does the code of a leave, with all of it
  leave_room : (q p : ℕ) → StandsAt code (straight (code_of.leave q)) p → p + 4 * length (load_number reg.HELP (pos q)) + 24 < 2 ^ 30
  leave_room q p x = by_near (is_near (pos q)) x
    where
      by_near : (near : Bool) → let A = if near then addi reg.HELP reg.ZERO (pos q) ∷ [] else lui reg.HELP (high_part (pos q)) ∷ addi reg.HELP reg.HELP (low_part (pos q)) ∷ [] in StandsAt code (straight (A ++ ending)) p → p + 4 * length A + 24 < 2 ^ 30
      by_near true x = let b = (straight_there code (addi reg.HELP reg.ZERO (pos q)) ending (λ q. ⊤) p x).below in omega (arith, b)
      by_near false x = let b = (straight_there code (lui reg.HELP (high_part (pos q))) (addi reg.HELP reg.HELP (low_part (pos q)) ∷ ending) (λ q. ⊤) p x).below in omega (arith, b)

  leave_below : (q p : ℕ) → StandsAt code (straight (code_of.leave q)) p → p < 2 ^ 30
  leave_below q p x = by_near (is_near (pos q)) x
    where
      by_near : (near : Bool) → StandsAt code (straight ((if near then addi reg.HELP reg.ZERO (pos q) ∷ [] else lui reg.HELP (high_part (pos q)) ∷ addi reg.HELP reg.HELP (low_part (pos q)) ∷ []) ++ ending)) p → p < 2 ^ 30
      by_near true x = let b = x.0.below in omega (arith, b)
      by_near false x = let b = x.0.below in omega (arith, b)

-- ---- the rest from the join on

module _ (program : Program) (form : Form) (page limit : ℕ) (input : List ℤ) (code : Code) where
  abbrev coded : List Item → (calls : List ℕ) → List Frame → ℕ → Type 0
  coded = Coded program form page code

  join_kept : (k l : List Item) (calls : List ℕ) (frames : List Frame) (h : Stack) (w : Mapped) → rest_at_join k ≡ Some l → Kept program page k calls frames h w → Kept program page l calls frames h w
  join_kept [] l calls frames h w e x = absurd (none-some l e)
  join_kept (join ∷ k) l calls frames h w e x = subst (λ k. Kept program page k calls frames h w) (same_Some (join ∷ k) l e) x
  join_kept (end ∷ k) l calls frames h w e x = absurd (none-some l e)
  join_kept (apply o a ∷ k) l calls frames h w e x = join_kept k l calls frames h w e x.2
  join_kept (arguments u f ws row ∷ k) l calls frames h w e x = join_kept k l calls frames h w e x.1
  join_kept (pass u f ws row ∷ k) l calls frames h w e x = join_kept k l calls frames h w e x.1
  join_kept (store a i o ∷ k) l calls frames h w e x = join_kept k l calls frames h w e x.1
  join_kept (_ ∷ k) l calls frames h w e x = join_kept k l calls frames h w e x

  join_count : (k l : List Item) → rest_at_join k ≡ Some l → end_count l ≡ end_count k
  join_count [] l e = absurd (none-some l e)
  join_count (join ∷ k) l e = ap end_count (sym (same_Some (join ∷ k) l e))
  join_count (end ∷ k) l e = absurd (none-some l e)
  join_count (_ ∷ k) l e = join_count k l e

  -- Its code is at the exit of the running function, wherever the rest stands.
  join_behind : (parts : List Part) (k l : List Item) (calls : List ℕ) (F : Frame) (frames : List Frame) (p : ℕ) → ((q : ℕ) → coded k calls (F ∷ frames) q → coded l calls (F ∷ frames) F.exit)
      → StandsThen code parts (coded k calls (F ∷ frames)) p → coded l calls (F ∷ frames) F.exit
  join_behind parts k l calls F frames p next x = let y = then_end code parts (coded k calls (F ∷ frames)) p x in behind_jumps y.0 (p + 4 * length parts) y.1
    where
      behind_jumps : (n q : ℕ) → BehindJumps code n (coded k calls (F ∷ frames)) q → coded l calls (F ∷ frames) F.exit
      behind_jumps zero q y = next q y
      behind_jumps (suc n) q y = behind_jumps n y.0 y.2

  join_coded : (k l : List Item) (calls : List ℕ) (F : Frame) (frames : List Frame) (p : ℕ) → rest_at_join k ≡ Some l → coded k calls (F ∷ frames) p → coded l calls (F ∷ frames) F.exit
  join_coded [] l calls F frames p e x = absurd (none-some l e)
  join_coded (join ∷ k) l calls F frames p e x =
      let at : p ≡ F.exit = omega (arith, x.0) in
      subst (λ k. coded k calls (F ∷ frames) F.exit) (same_Some (join ∷ k) l e) (subst (coded (join ∷ k) calls (F ∷ frames)) at x)
  join_coded (end ∷ k) l calls F frames p e x = absurd (none-some l e)
  join_coded (perform s ∷ k) l calls F frames p e x = join_behind (statement_code (form_here program form calls) (slots_here program calls) x.0 s) k l calls F frames p (λ q. join_coded k l calls F frames q e) x.2
  join_coded (sequence row ∷ k) l calls F frames p e x = join_behind (sequence_code (form_here program form calls) (slots_here program calls) x.0 row) k l calls F frames p (λ q. join_coded k l calls F frames q e) x.2
  join_coded (body row ∷ k) l calls F frames p e x = join_behind (body_code (form_here program form calls) (slots_here program calls) x.0 row) k l calls F frames p (λ q. join_coded k l calls F frames q e) x.2
  join_coded (branch s o ∷ k) l calls F frames p e x = join_behind (branch_code (form_here program form calls) (slots_here program calls) x.0 s o) k l calls F frames p (λ q. join_coded k l calls F frames q e) x.2
  join_coded (part a b c row ∷ k) l calls F frames p e x = join_behind (split_code (form_here program form calls) (slots_here program calls) x.0 a b c row) k l calls F frames p (λ q. join_coded k l calls F frames q e) x.2
  join_coded (turn t s b ∷ k) l calls F frames p e x = join_behind (loop_of (form_here program form calls) (slots_here program calls) x.1 t s b) k l calls F frames x.0 (λ q. join_coded k l calls F frames q e) x.4
  join_coded (test t s b ∷ k) l calls F frames p e x = join_behind (loop_of (form_here program form calls) (slots_here program calls) x.1 (Some t) s b) k l calls F frames x.0 (λ q. join_coded k l calls F frames q e) x.4
  join_coded (exit ∷ k) l calls F frames p e x = join_behind (straight (exit_code x.0)) k l calls F frames p (λ q. join_coded k l calls F frames q e) x.2
  join_coded (item ∷ k) l calls F frames p e x = join_behind (item_code (form_here program form calls) (slots_here program calls) item (used k)) k l calls F frames p (λ q. join_coded k l calls F frames q e) x

  -- a rest stands far below the end of the addresses
  pub coded_below : (k : List Item) (calls : List ℕ) (frames : List Frame) (p : ℕ) → coded k calls frames p → p < 2 ^ 30
  coded_below [] calls frames p x = omega (arith, x.0)
  coded_below (end ∷ k) [] frames p x = absurd x
  coded_below (end ∷ k) (f ∷ calls) [] p x = absurd x
  coded_below (end ∷ k) (f ∷ calls) (F ∷ frames) p x = leave_below code (call_bytes_in page (slice_get program.functions f)) p x.0
  coded_below (perform s ∷ k) calls frames p x = start_below code (statement_code (form_here program form calls) (slots_here program calls) x.0 s) (coded k calls frames) p (coded_below k calls frames) x.2
  coded_below (sequence row ∷ k) calls frames p x = start_below code (sequence_code (form_here program form calls) (slots_here program calls) x.0 row) (coded k calls frames) p (coded_below k calls frames) x.2
  coded_below (body row ∷ k) calls frames p x = start_below code (body_code (form_here program form calls) (slots_here program calls) x.0 row) (coded k calls frames) p (coded_below k calls frames) x.2
  coded_below (branch s o ∷ k) calls frames p x = start_below code (branch_code (form_here program form calls) (slots_here program calls) x.0 s o) (coded k calls frames) p (coded_below k calls frames) x.2
  coded_below (part a b c row ∷ k) calls frames p x = start_below code (split_code (form_here program form calls) (slots_here program calls) x.0 a b c row) (coded k calls frames) p (coded_below k calls frames) x.2
  coded_below (turn t s b ∷ k) calls frames p x = elim x.2 [
    | inl top ↦ subst (λ p. p < 2 ^ 30) (sym top) (start_below code (loop_of (form_here program form calls) (slots_here program calls) x.1 t s b) (coded k calls frames) x.0 (coded_below k calls frames) x.4)
    | inr jump ↦ let b = jump.0.below in omega (arith, b)
  ]
  coded_below (test t s b ∷ k) calls frames p x =
      let inner = turn_code (form_here program form calls) (slots_here program calls) x.1 s b in
      let tests = expression_code (slots_here program calls) t 0 in
      subst (λ p. p < 2 ^ 30) (sym x.2) (start_below code (test_code (length tests) inner) (coded k calls frames) (x.0 + 4 * length tests) (coded_below k calls frames) (then_second code tests (test_code (length tests) inner) (coded k calls frames) x.0 x.4))
  coded_below (exit ∷ k) calls frames p x = let b = x.2.0.below in omega (arith, b)
  coded_below (join ∷ k) calls frames p x = start_below code (straight (sync_code (form_here program form calls))) (coded k calls frames) p (coded_below k calls frames) x.1
  coded_below (item ∷ k) calls frames p x = start_below code (item_code (form_here program form calls) (slots_here program calls) item (used k)) (coded k calls frames) p (coded_below k calls frames) x

  abbrev exact : Spot → (left : ℕ) → Control → Stack → Machine → Type 0
  exact = ExactAt program form page input code

  abbrev leads : Spot → (left : ℕ) → (calls : List ℕ) → Stack → Move → Machine → Type 0
  leads = LeadsFrom program form page input code

  abbrev placed : Hand → List Item → List ℕ → List Frame → (ℕ → ℕ) → ℕ → Type 0
  placed = Placed program form page input code

  -- a completed `return`
  pub exit_law : (spot : Spot) (left : ℕ) (calls : List ℕ) (account : ℕ) (hand : Hand) (k : List Item) (h : Stack) (m : Machine) → IsPlain hand
      → exact spot left (control calls account hand (exit ∷ k)) h m → placed hand (exit ∷ k) calls spot.frames m.registers m.counter
      → leads spot left calls h (leave (control calls account hand (exit ∷ k)) h (rest_at_join k)) m
  exit_law spot left calls account hand k h m no_call x here = by_frames spot.frames refl (rest_at_join k) refl
    where
      stands_there : coded (exit ∷ k) calls spot.frames m.counter
      stands_there = coded_of program form page limit input code hand (exit ∷ k) calls spot.frames m.registers m.counter no_call here

      by_frames : (frames : List Frame) → spot.frames ≡ frames → (l : Option (List Item)) → rest_at_join k ≡ l → leads spot left calls h (leave (control calls account hand (exit ∷ k)) h l) m
      by_frames frames same None e = leads_stuck program form page input code
      by_frames [] same (Some l) e = absurd (subst (λ frames. coded (exit ∷ k) calls frames m.counter) same stands_there).1
      by_frames (F ∷ frames) same (Some l) e =
          let y = subst (λ frames. coded (exit ∷ k) calls frames m.counter) same stands_there in
          let count = y.0 in
          let jump = y.2.0 in
          let four = jump.aligned in
          let at_exit : m.counter + 4 * suc count ≡ F.exit = omega (arith, y.1) in
          let l_there = join_coded (exit ∷ k) l calls F frames m.counter e y in
          let bound = coded_below l calls (F ∷ frames) F.exit l_there in
          let t = machine_with m m.registers F.exit in
          leads_on program form page input code 1 t
          (comes_by_one code (jal reg.ZERO (pos (4 * suc count))) refl m t jump.there (jump_to reg.ZERO F.exit (pos (4 * suc count)) m (words.offset_up m.counter (4 * suc count) (omega (arith, bound)) ∙ at_exit) (omega (arith, four, at_exit))))
          (exact_same program form page input code x no_call hand no_call l t (same_self m.registers) refl (join_kept (exit ∷ k) l calls spot.frames h m.words e x.kept) (join_count (exit ∷ k) l e)
          (0, hand_lasts program form page limit input code hand (exit ∷ k) l calls spot.frames m.registers m.registers m.counter F.exit no_call refl refl here (subst (λ frames. coded l calls frames F.exit) (sym same) l_there)))

  -- a body falls off its end
  pub fall_law : (spot : Spot) (left : ℕ) (calls : List ℕ) (account : ℕ) (hand : Hand) (k : List Item) (h : Stack) (m : Machine) → IsPlain hand
      → exact spot left (control calls account hand (fall ∷ k)) h m → placed hand (fall ∷ k) calls spot.frames m.registers m.counter
      → leads spot left calls h (fall_off (control calls account hand (fall ∷ k)) h (running_function program page input calls) k) m
  fall_law spot left calls account hand k h m no_call x here = by_function (running_function program page input calls)
    where
      there : coded (fall ∷ k) calls spot.frames m.counter
      there = coded_of program form page limit input code hand (fall ∷ k) calls spot.frames m.registers m.counter no_call here

      t : Machine
      t = machine_with m (with_register m.registers reg.VALUE 0) (m.counter + 4)

      runs_on : GoesTo code 1 m t
      runs_on =
          let b = there.0.below in
          let z = x.zero_is in
          set_at code (addi reg.VALUE reg.ZERO (pos 0)) refl reg.VALUE 0 m.counter m refl (omega (arith, b)) there.0.there (rw z refl)

      same : SameRegisters m.registers t.registers
      same = record { zero_is = refl; sp = refl; account = refl; ticks = refl; pointer = refl }

      by_gives : (gives : Bool) → leads spot left calls h (if gives then silent (control calls account (holds (pos 0)) k) h else silent (control calls account idle k) h) m
      by_gives true = leads_on program form page input code 1 t runs_on (exact_same program form page input code x no_call (holds (pos 0)) tt k t same refl x.kept refl
          (leads_map code (coded k calls spot.frames) (placed (holds (pos 0)) k calls spot.frames t.registers) (m.counter + 4) there.1 (λ q c. (refl, omega (arith, ints), c))))
      by_gives false = leads_on program form page input code 1 t runs_on (exact_same program form page input code x no_call idle tt k t same refl x.kept refl there.1)

      by_function : (running : Option (Function ℕ)) → leads spot left calls h (fall_off (control calls account hand (fall ∷ k)) h running k) m
      by_function None = leads_stuck program form page input code
      by_function (Some function) = by_gives function.gives

  -- the join: in the elision it is no instruction, else a service
  pub join_law : (spot : Spot) (left : ℕ) (calls : List ℕ) (account : ℕ) (hand : Hand) (k : List Item) (h : Stack) (m : Machine) → IsPlain hand
      → exact spot left (control calls account hand (join ∷ k)) h m → placed hand (join ∷ k) calls spot.frames m.registers m.counter
      → leads spot left calls h (syncs (control calls account hand k)) m
  join_law spot left calls account hand k h m no_call x here = by_form (form_here program form calls) refl
    where
      there : coded (join ∷ k) calls spot.frames m.counter
      there = coded_of program form page limit input code hand (join ∷ k) calls spot.frames m.registers m.counter no_call here

      behind : (own : Form) → form_here program form calls ≡ own → StandsThen code (straight (sync_code own)) (coded k calls spot.frames) m.counter
      behind own e = subst (λ o. StandsThen code (straight (sync_code o)) (coded k calls spot.frames) m.counter) e there.1

      -- what is at hand, with the place behind
      next : (r : ℕ → ℕ) (p : ℕ) → r reg.VALUE ≡ m.registers reg.VALUE → r reg.RESULT ≡ m.registers reg.RESULT → LeadsTo code (coded k calls spot.frames) p → LeadsTo code (placed hand k calls spot.frames r) p
      next r p value result c = leads_map code (coded k calls spot.frames) (placed hand k calls spot.frames r) p c (λ q c. hand_lasts program form page limit input code hand (join ∷ k) k calls spot.frames m.registers r m.counter q no_call value result here c)

      arrives_as : (own : Form) → form_here program form calls ≡ own → (n : ℕ) (t : Machine) → GoesTo code n m t → ArrivesSync program form page input code own spot left h (control calls account hand k) t
          → leads spot left calls h (syncs (control calls account hand k)) m
      arrives_as own e n t comes a = leads_to program form page input code n t comes (subst (λ o. ArrivesSync program form page input code o spot left h (control calls account hand k) t) (sym e) a)

      by_form : (own : Form) → form_here program form calls ≡ own → leads spot left calls h (syncs (control calls account hand k)) m
      by_form Serial e = arrives_as Serial e 0 m refl (exact_same program form page input code x no_call hand no_call k m (same_self m.registers) refl x.kept refl (next m.registers m.counter refl refl (behind Serial e)))
      by_form Cilk e =
          let code_is = behind Cilk e in
          let b = code_is.0.below in
          let t = machine_with m (with_register m.registers reg.SERVICE 5) (m.counter + 4) in
          let served = serves_at program form page input code 5 m.counter m refl x.zero_is refl (omega (arith, b)) (code_is.0.there, (code_is.1.0.there, tt)) in
          arrives_as Cilk e 1 t served.0 (
            served.1,
            exact_same program form page input code x no_call hand no_call k (passed t) (record { zero_is = refl; sp = refl; account = refl; ticks = refl; pointer = refl }) refl x.kept refl
                (next (with_register m.registers reg.SERVICE 5) (m.counter + 4 + 4) refl refl code_is.1.1),
          )

  -- the end of the rest: the value that the first call came back with is the result
  pub last_law : (spot : Spot) (left : ℕ) (calls : List ℕ) (account : ℕ) (hand : Hand) (h : Stack) (m : Machine) → IsPlain hand
      → exact spot left (control calls account hand []) h m → placed hand [] calls spot.frames m.registers m.counter
      → leads spot left calls h (hand_step program page input (control calls account hand []) h hand []) m
  last_law spot left calls account idle h m no_call x here = leads_stuck program form page input code
  last_law spot left calls account (holds v) h m no_call x here = leads_stuck program form page input code
  last_law spot left calls account (entering f ws) h m no_call x here = absurd no_call
  last_law spot left calls account (framing f ws) h m no_call x here = absurd no_call
  last_law spot left calls account (returned None) h m no_call x here =
      let served = serves_at program form page input code 0 0 m refl x.zero_is here.0 (omega arith) (here.1.0.there, (here.1.1.0.there, tt)) in
      leads_to program form page input code 1 _ served.0 (served.1, tt, x.left_is, x.slots)
  last_law spot left calls account (returned (Some v)) h m no_call x here =
      let served = serves_at program form page input code 0 0 m refl x.zero_is here.2.0 (omega arith) (here.2.1.0.there, (here.2.1.1.0.there, tt)) in
      leads_to program form page input code 1 _ served.0 (served.1, (here.0, here.1), x.left_is, x.slots)

  -- ---- the end of a call

  -- the saved words and the temporaries of the frames below
  below_own : (count f : ℕ) (calls : List ℕ) (F : Frame) (frames : List Frame) (w : Mapped) → length calls ≡ length frames → HasOwn program page (suc count) (f ∷ calls) (F ∷ frames) w → HasOwn program page count calls frames w
  below_own count f calls F frames w same own = λ d n deep active low high kind.
      subst (λ a. IsWritable (w a)) (deeper_address program page F calls frames d n same deep)
      (own d n (omega (arith, deep)) (omega (arith, active)) low (subst (λ o. n ≤ o) (sym (words_before program page f calls d deep)) high) (subst (λ l. IsOwnNumber l n) (sym (slots_before program page f calls d deep)) kind))

  -- the slots of the frames below
  below_holds : (f : ℕ) (calls : List ℕ) (F : Frame) (frames : List Frame) (h : Stack) (w : Mapped) → length calls ≡ length frames → ((d s : ℕ) (r : Reference) → d < length calls → value_in (h.references d s) ≡ Some r → r.depth < length calls)
      → Holds program page (f ∷ calls) (F ∷ frames) h w → Holds program page calls frames (pop_frame h (length calls)) w
  below_holds f calls F frames h w same live slots_are = λ d s i deep place.
      let slots = slots_before program page f calls d deep in
      let n = word_number (slots_at program calls d) s i in
      let references = at_before d (length calls) absent (h.references d s) deep in
      let cell = deeper_cell program page f F calls frames h (pop_frame h (length calls)) d s i same deep (sym (at_before d (length calls) absent (h.words d s i) deep)) (sym references) (λ r e. live d s r deep (ap value_in (sym references) ∙ e)) in
      subst (λ c. HasCell program page c (w (word_address frames d n))) cell
      (subst (λ a. HasCell program page (cell_at program page (f ∷ calls) (F ∷ frames) h d s i) (w a)) (deeper_address program page F calls frames d n same deep)
      (subst (λ l. HasCell program page (cell_at program page (f ∷ calls) (F ∷ frames) h d s i) (w (word_address (F ∷ frames) d (word_number l s i)))) slots
      (slots_are d s i (omega (arith, deep)) (subst (λ l. IsPlace l s i) (sym slots) place))))

  -- what came back with the call
  came_back : (hand : Hand) (k l : List Item) (calls called : List ℕ) (frames more : List Frame) (r t : ℕ → ℕ) (p q : ℕ) → IsPlain hand
      → t reg.RESULT ≡ alu.word (int (r reg.VALUE) +ℤ int (cast_unsigned w32 (pos 0))) → placed hand k called more r p → coded l calls frames q → placed (returned (hand_value hand)) l calls frames t q
  came_back idle k l calls called frames more r t p q no_call result x c = c
  came_back (holds v) k l calls called frames more r t p q no_call result x c =
      let below = words.cast_unsigned_below v x.1 in
      (result ∙ ap (λ n. alu.word (int n +ℤ int (cast_unsigned w32 (pos 0)))) x.0 ∙ words.word-add (bits v) 0 below (omega arith) ∙ omega (arith, below), x.1, c)
  came_back (returned v) k l calls called frames more r t p q no_call result x c = c
  came_back (entering f ws) k l calls called frames more r t p q no_call result x c = absurd no_call
  came_back (framing f ws) k l calls called frames more r t p q no_call result x c = absurd no_call

  pub end_law : Runs program page limit input → (spot : Spot) (left : ℕ) (calls : List ℕ) (account : ℕ) (hand : Hand) (k : List Item) (h : Stack) (m : Machine) → IsPlain hand
      → Formed program page limit (control calls account hand (end ∷ k)) h
      → exact spot left (control calls account hand (end ∷ k)) h m → placed hand (end ∷ k) calls spot.frames m.registers m.counter
      → leads spot left calls h (end_call program page input (control calls account hand (end ∷ k)) h calls k) m
  end_law runs spot left [] account hand k h m no_call formed x here = leads_stuck program form page input code
  end_law runs spot left (f ∷ calls) account hand k h m no_call formed x here = by_frames spot.frames spot.low spot.returns x here
    where
      need : ℕ
      need = call_bytes_in page (slice_get program.functions f)

      by_frames : (frames : List Frame) (low : ℕ) (returns : List ℕ) → exact (record { frames = frames; low = low; returns = returns }) left (control (f ∷ calls) account hand (end ∷ k)) h m → placed hand (end ∷ k) (f ∷ calls) frames m.registers m.counter
          → leads (record { frames = frames; low = low; returns = returns }) left (f ∷ calls) h (end_call program page input (control (f ∷ calls) account hand (end ∷ k)) h (f ∷ calls) k) m
      by_frames [] low returns y there = absurd y.frames
      by_frames (F ∷ frames) low returns y there =
          let c = coded_of program form page limit input code hand (end ∷ k) (f ∷ calls) (F ∷ frames) m.registers m.counter no_call there in
          let A = load_number reg.HELP (pos need) in
          let is = straight_front code (code_of.leave need) (λ q. ⊤) m.counter c.0 in
          let size = length A in
          let pointer = y.pointer_is in
          let account_is = y.account_is in
          let balance = formed.balance in
          let limits = runs.limit_fits in
          let small : account + need ≤ 2 ^ 30 = omega (arith, balance, limits) in
          let bound : m.counter + 4 * size + 24 < 2 ^ 30 = leave_room code need m.counter c.0 in
          let high = may_stand_low program page calls frames F.address y.frames.0 in
          let end_low = low_end_below program page calls frames y.frames.3 in
          let four = y.frames.1 in
          let fits = y.frames.2 in
          let two = y.frames.4 in
          let loaded = number_at code reg.HELP need m.counter m refl y.zero_is (omega (arith, small)) refl (omega (arith, bound)) (instructions_front code m.counter A ending is) in
          let back_small = c.2 in
          let ran = ends_by code need (m.counter + 4 * size) F.back (pointer_of frames) m.registers m.words m size (omega (arith, pointer, four)) (omega (arith, pointer, fits, two)) (omega (arith, pointer, high, end_low))
          (omega (arith, account_is, small)) (ap (λ a. m.words (a - 4)) pointer ∙ y.kept.0) (ap (λ a. m.words (a - 8)) pointer ∙ y.kept.1) c.1 (omega (arith, back_small)) (omega (arith, bound))
          (instructions_back code m.counter A ending is) loaded in
          let result = alu.word (int (m.registers reg.VALUE) +ℤ int (cast_unsigned w32 (pos 0))) in
          let t : Machine = record { registers = ended_registers need result F.back (pointer_of frames) m.registers; counter = F.back; words = m.words } in
          let same = lengths program page calls frames y.frames.3 in
          let L = length calls in
          let counted : returns ≡ F.back ∷ backs (end_count k) frames = y.returns_are ∙ plain_backs hand (end_count (end ∷ k)) (F ∷ frames) m.registers no_call in
          leads_to program form page input code (size + 5) _ ran.0 (turns (record {
            next = t;
            step = record { instruction = jalr reg.ZERO reg.RA (pos 0); there = ran.1; effect = ran.2 };
            spot = record { frames = frames; low = F.address; returns = backs (end_count k) frames };
            moves = goes F refl refl counted;
            links = counted;
            stands = record {
              frames = y.frames.3;
              may_stand = y.frames.0;
              returns_are = refl;
              slots = below_holds f calls F frames h m.words same (λ d s r deep e. let below = refers_below program page limit (control (f ∷ calls) account hand (end ∷ k)) h d s r formed e in omega (arith, below, deep)) y.slots;
              kept = kept_lasts program page k calls frames (pop_frame h L) h m.words m.words formed.fits.1 y.frames.3 (λ d n word own known. refl)
                  (λ a. sym (same_row program page calls (pop_frame h L) h a (λ s some. at_before (top calls) L absent (h.references (top calls) s) (top_low program page calls some))))
                  (λ d s l. sym (at_before d L absent (h.references d s) (omega (arith, l)))) y.kept.2;
              own = below_own (end_count k) f calls F frames m.words same y.own;
              zero_is = y.zero_is;
              low_is = pointer;
              account_is = ap (λ n. n + need) account_is;
              left_is = y.left_is;
              pointer_is = refl;
              placed = leads_map code (coded k calls frames) (placed (returned (hand_value hand)) k calls frames t.registers) F.back c.3 (λ q z. came_back hand (end ∷ k) k calls (f ∷ calls) frames (F ∷ frames) m.registers t.registers m.counter q no_call refl there z);
            };
          }))
