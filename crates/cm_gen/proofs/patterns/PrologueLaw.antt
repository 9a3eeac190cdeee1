-- What the code before a function's body does.
use Rattle.cm_isa.specs.Bits.{minus}
use Rattle.cm_isa.specs.declared.convention.TheConstants as reg
use Rattle.std.proofs.Common.{◌≡◌, ◌≢◌, ℕ, ◌+◌, ◌-◌, ◌*◌, ◌%◌, ◌^◌, ◌<◌, ◌≤◌, [], ◌∷◌, length, Some, refl, sym, ap, ◌∙◌, subst, arith, inl, inr}
use Rattle.std.proofs.lemmas.Bool.{ne_eqb, le-ltb, lt-ltb}
use Rattle.std.proofs.lemmas.Int.{ints}
use Rattle.std.proofs.lemmas.Bool.Decides.{eqb_tells}
use Rattle.std.specs.Prelude.{true, false, ◌==◌, nat_lt, pos, ◌+ℤ◌, ◌-ℤ◌, FitsSigned}
use Rattle.std.specs.Int.{w32, cast_unsigned}
use Rattle.cm_isa.specs.Operation.{Operation}
use Rattle.cm_isa.specs.Alu.{int, word, offset}
use Rattle.cm_isa.specs.Action.{follow}
use Rattle.cm_isa.specs.Machine.{Machine, Code, InstructionsAt, machine_after, machine_with, with_word, IsWritable, Stored, Mapped}
use Rattle.cm_gen.specs.Returns.{plain, link_of, GoesTo}
use Rattle.cm_isa.specs.Register.{with_register}
use Rattle.cm_isa.proofs.Machine.{same_machine}
use Rattle.cm_gen.specs.Assembler.{addi, add, sub, sw, bne, bgeu}
use Rattle.cm_gen.specs.Code.{load_number, tick}
use Rattle.cm_gen.proofs.patterns.WordLaw as words
use Rattle.cm_gen.proofs.patterns.StepLaw.{comes_by_one, comes_on, follow_is}
use Rattle.cm_gen.proofs.patterns.PatternLaw.{put_at, load_number_runs}
use Rattle.cm_gen.proofs.patterns.LeavesLaw.{Sets}
use Rattle.cm_gen.proofs.frames.MappedWordLaw.{own_of, with_word_mapped}

-- ---- registers in two forms

pub same_registers : (r s : ℕ → ℕ) → ((q : ℕ) → r q ≡ s q) → r ≡ s
same_registers r s h = λ i q. h q i

-- a machine that differs in one register and its address
pub sets_is : (r v bytes : ℕ) (m t : Machine) → (r == reg.ZERO) ≡ false → Sets r v bytes m t → t ≡ machine_with m (with_register m.registers r v) (m.counter + bytes)
sets_is r v bytes m t nonzero does = same_machine t _ (same_registers t.registers _ each) does.counter does.words
  where
    each : (q : ℕ) → t.registers q ≡ with_register m.registers r v q
    each q = elim (eqb_tells q r) [
      | inl same ↦ let there : (q == r) ≡ true = same.0 in rw (nonzero, there) (ap t.registers same.1 ∙ does.value)
      | inr other ↦ let away : (q == r) ≡ false = other.0 in rw (nonzero, away) (does.kept q away)
    ]

-- ---- single instructions

-- where a branch goes to, past two instructions of a service
over_service : (p : ℕ) → p % 4 ≡ 0 → p + 12 < 2 ^ 32 → (offset p (pos 12) ≡ p + 12) × ((p + 12) % 4 ≡ 0)
over_service p aligned room = (words.offset_up p 12 room, omega arith)

module _ (code : Code) where
  -- a branch past a service, which is taken
  bne_taken : (m : Machine) → m.registers reg.ZERO ≡ 0 → m.registers reg.TICKS ≢ 0 → m.counter % 4 ≡ 0 → m.counter + 12 < 2 ^ 32
      → machine_after (bne reg.TICKS reg.ZERO (pos 12)) m ≡ Some (machine_with m m.registers (m.counter + 12))
  bne_taken m zero_is some aligned room =
      let over = over_service m.counter aligned room in
      let differ : (m.registers reg.TICKS == 0) ≡ false = ne_eqb (m.registers reg.TICKS) 0 some in
      rw (zero_is, differ, over.0, over.1) refl

  bgeu_taken : (m : Machine) → m.registers reg.HELP ≤ m.registers reg.ACCOUNT → m.counter % 4 ≡ 0 → m.counter + 12 < 2 ^ 32
      → machine_after (bgeu reg.ACCOUNT reg.HELP (pos 12)) m ≡ Some (machine_with m m.registers (m.counter + 12))
  bgeu_taken m most aligned room =
      let over = over_service m.counter aligned room in
      let least : nat_lt (m.registers reg.ACCOUNT) (m.registers reg.HELP) ≡ false = le-ltb (m.registers reg.ACCOUNT) (m.registers reg.HELP) most in
      rw (least, over.0, over.1) refl

  -- a branch past a service that is not taken
  pub bne_passes : (m : Machine) → m.registers reg.ZERO ≡ 0 → m.registers reg.TICKS ≡ 0 → m.counter + 4 < 2 ^ 32
      → machine_after (bne reg.TICKS reg.ZERO (pos 12)) m ≡ Some (machine_with m m.registers (m.counter + 4))
  bne_passes m zero_is none room = let f = follow_is m.counter room in rw (zero_is, none, f) refl

  pub bgeu_passes : (m : Machine) → m.registers reg.ACCOUNT < m.registers reg.HELP → m.counter + 4 < 2 ^ 32
      → machine_after (bgeu reg.ACCOUNT reg.HELP (pos 12)) m ≡ Some (machine_with m m.registers (m.counter + 4))
  bgeu_passes m less room =
      let least : nat_lt (m.registers reg.ACCOUNT) (m.registers reg.HELP) ≡ true = lt-ltb (m.registers reg.ACCOUNT) (m.registers reg.HELP) less in
      let f = follow_is m.counter room in rw (least, f) refl

  -- one instruction that sets a register, at an address that is known
  pub set_at : (i : Operation) → link_of i ≡ plain → (r v p : ℕ) (m : Machine) → m.counter ≡ p → p + 4 < 2 ^ 32 → code p i
      → machine_after i m ≡ Some (machine_with m (with_register m.registers r v) (follow m.counter))
      → GoesTo code 1 m (machine_with m (with_register m.registers r v) (p + 4))
  set_at i is_plain r v p m here room code_is effect =
      comes_by_one code i is_plain m _ (subst (λ n. code n i) (sym here) code_is)
      (effect ∙ ap (λ c. Some (machine_with m (with_register m.registers r v) c)) (ap follow here ∙ follow_is p room))

  -- a number in a register, at an address that is known
  pub number_at : (r n : ℕ) (p : ℕ) (m : Machine) → (r == reg.ZERO) ≡ false → m.registers reg.ZERO ≡ 0 → n < 2 ^ 31 → m.counter ≡ p → p + 8 < 2 ^ 32
      → InstructionsAt code p (load_number r (pos n))
      → GoesTo code (length (load_number r (pos n))) m (machine_with m (with_register m.registers r n) (p + 4 * length (load_number r (pos n))))
  number_at r n p m nonzero zero_is fits here room code_is =
      let word : FitsSigned w32 (pos n) = omega (arith, ints) in
      let ran = load_number_runs code r (pos n) m nonzero zero_is word (omega arith) (subst (λ q. InstructionsAt code q (load_number r (pos n))) (sym here) code_is) in
      let is = sets_is r n (4 * length (load_number r (pos n))) m ran.0 nonzero ran.2 ∙ ap (λ c. machine_with m (with_register m.registers r n) (c + 4 * length (load_number r (pos n)))) here in
      subst (λ t. GoesTo code (length (load_number r (pos n))) m t) is ran.1

  -- a tick is taken
  pub tick_runs : (p : ℕ) (m : Machine) → m.registers reg.ZERO ≡ 0 → m.registers reg.TICKS ≢ 0 → m.registers reg.TICKS < 2 ^ 32 → p % 4 ≡ 0 → m.counter ≡ p → p + 16 < 2 ^ 32 → InstructionsAt code p tick
      → GoesTo code 2 m (machine_with m (with_register m.registers reg.TICKS (m.registers reg.TICKS - 1)) (p + 16))
  tick_runs p m zero_is some fits aligned here room code_is =
      let first = comes_by_one code (bne reg.TICKS reg.ZERO (pos 12)) refl m (machine_with m m.registers (m.counter + 12)) (subst (λ n. code n (bne reg.TICKS reg.ZERO (pos 12))) (sym here) code_is.0)
      (bne_taken m zero_is some (omega (arith, here)) (omega (arith, here))) in
      let less : word (int (m.registers reg.TICKS) +ℤ int (cast_unsigned w32 (minus 1))) ≡ m.registers reg.TICKS - 1 =
      words.word-add (m.registers reg.TICKS) (2 ^ 32 - 1) fits (omega arith) ∙ omega (arith, some) in
      let address : p + 4 + 4 + 4 ≡ p + 12 = omega arith in
      let second = set_at (addi reg.TICKS reg.TICKS (minus 1)) refl reg.TICKS (m.registers reg.TICKS - 1) (p + 12) (machine_with m m.registers (m.counter + 12)) (ap (λ c. c + 12) here) (omega arith)
      (subst (λ n. code n (addi reg.TICKS reg.TICKS (minus 1))) address code_is.1.1.1.0) (ap (λ v. Some (machine_with m (with_register m.registers reg.TICKS v) (follow (m.counter + 12)))) less) in
      let sum : p + 12 + 4 ≡ p + 16 = omega arith in
      comes_on code 1 1 m _ _ first (subst (λ c. GoesTo code 1 (machine_with m m.registers (m.counter + 12)) (machine_with m (with_register m.registers reg.TICKS (m.registers reg.TICKS - 1)) c)) sum second)

  -- the account is tested and taken
  pub account_runs : (q p : ℕ) (m : Machine) → m.registers reg.ZERO ≡ 0 → m.registers reg.ACCOUNT < 2 ^ 32 → q ≤ m.registers reg.ACCOUNT → q < 2 ^ 31 → p % 4 ≡ 0 → m.counter ≡ p
      → p + 4 * length (load_number reg.HELP (pos q)) + 24 < 2 ^ 32
      → InstructionsAt code p (load_number reg.HELP (pos q)) → code (p + 4 * length (load_number reg.HELP (pos q))) (bgeu reg.ACCOUNT reg.HELP (pos 12))
      → code (p + 4 * length (load_number reg.HELP (pos q)) + 12) (sub reg.ACCOUNT reg.ACCOUNT reg.HELP)
      → GoesTo code (length (load_number reg.HELP (pos q)) + 2) m
      (machine_with m (with_register (with_register m.registers reg.HELP q) reg.ACCOUNT (m.registers reg.ACCOUNT - q)) (p + 4 * length (load_number reg.HELP (pos q)) + 16))
  account_runs q p m zero_is fits enough small aligned here room code_is test last =
      account_by (length (load_number reg.HELP (pos q))) (number_at reg.HELP q p m refl zero_is small here (omega arith) code_is) room test last
    where
      account_by : (size : ℕ) → GoesTo code size m (machine_with m (with_register m.registers reg.HELP q) (p + 4 * size)) → p + 4 * size + 24 < 2 ^ 32
          → code (p + 4 * size) (bgeu reg.ACCOUNT reg.HELP (pos 12)) → code (p + 4 * size + 12) (sub reg.ACCOUNT reg.ACCOUNT reg.HELP)
          → GoesTo code (size + 2) m (machine_with m (with_register (with_register m.registers reg.HELP q) reg.ACCOUNT (m.registers reg.ACCOUNT - q)) (p + 4 * size + 16))
      account_by size number_runs room test last =
          let n = machine_with m (with_register m.registers reg.HELP q) (p + 4 * size) in
          let o = machine_with m (with_register m.registers reg.HELP q) (p + 4 * size + 12) in
          let second = comes_by_one code (bgeu reg.ACCOUNT reg.HELP (pos 12)) refl n o test (bgeu_taken n enough (omega arith) (omega arith)) in
          let value : word (int (m.registers reg.ACCOUNT) -ℤ int q) ≡ m.registers reg.ACCOUNT - q = words.word-sub (m.registers reg.ACCOUNT) q fits (omega arith) ∙ omega arith in
          let third = set_at (sub reg.ACCOUNT reg.ACCOUNT reg.HELP) refl reg.ACCOUNT (m.registers reg.ACCOUNT - q) (p + 4 * size + 12) o refl (omega arith) last
          (ap (λ v. Some (machine_with o (with_register o.registers reg.ACCOUNT v) (follow o.counter))) value) in
          let sum : p + 4 * size + 12 + 4 ≡ p + 4 * size + 16 = omega arith in
          comes_on code size 2 m n _ number_runs (comes_on code 1 1 n o _ second
          (subst (λ c. GoesTo code 1 o (machine_with m (with_register (with_register m.registers reg.HELP q) reg.ACCOUNT (m.registers reg.ACCOUNT - q)) c)) sum third))

-- the addresses that a call's frame and saved words have
pub record IsFrameBelow (b sp : ℕ) (w : ℕ → Stored) : Type 0 where
  pub aligned : sp % 4 ≡ 0
  pub whole : b % 4 ≡ 0
  pub least : 8 ≤ b
  pub most : b ≤ sp
  pub word : sp < 2 ^ 32
  pub small : b < 2 ^ 31
  pub mapped : (a : ℕ) → a % 4 ≡ 0 → sp - b ≤ a → a < sp → IsWritable (w a)

-- the registers and the words that the frame's code leaves
abbrev pub framed_registers : (b : ℕ) → (ℕ → ℕ) → ℕ → ℕ
framed_registers b r = with_register (with_register (with_register (with_register r reg.HELP b) reg.SP (r reg.SP - b)) reg.HELP (r reg.SP)) reg.FP (r reg.SP)

abbrev pub framed_words : (b : ℕ) → (ℕ → ℕ) → Mapped → Mapped
framed_words b r w = with_word (with_word (with_word w (r reg.SP - b) (r reg.ZERO)) (r reg.SP - 4) (r reg.RA)) (r reg.SP - 8) (r reg.FP)

module _ (code : Code) where
  pub frame_by : (b p : ℕ) (r : ℕ → ℕ) (w : ℕ → Stored) (m : Machine) (size : ℕ) → r reg.ZERO ≡ 0 → IsFrameBelow b (r reg.SP) w → p + 24 < 2 ^ 32
      → InstructionsAt code p (sub reg.SP reg.SP reg.HELP ∷ sw reg.ZERO reg.SP (pos 0) ∷ add reg.HELP reg.SP reg.HELP ∷ sw reg.RA reg.HELP (minus 4) ∷ sw reg.FP reg.HELP (minus 8) ∷ addi reg.FP reg.HELP (pos 0) ∷ [])
      → GoesTo code size m (record { registers = with_register r reg.HELP b; counter = p; words = w })
      → GoesTo code (size + 6) m (record { registers = framed_registers b r; counter = p + 24; words = framed_words b r w })
  frame_by b p r w m size zero_is frame room code_is number_runs =
      let sp = r reg.SP in
      let low = sp - b in
      let r0 = with_register r reg.HELP b in
      let r1 = with_register r0 reg.SP low in
      let r2 = with_register r1 reg.HELP sp in
      let r3 = with_register r2 reg.FP sp in
      let w1 = with_word w low (r reg.ZERO) in
      let w2 = with_word w1 (sp - 4) (r reg.RA) in
      let w3 = with_word w2 (sp - 8) (r reg.FP) in
      let m0 : Machine = record { registers = r0; counter = p; words = w } in
      let m1 : Machine = record { registers = r1; counter = p + 4; words = w } in
      let m2 : Machine = record { registers = r1; counter = p + 4 + 4; words = w1 } in
      let m3 : Machine = record { registers = r2; counter = p + 4 + 4 + 4; words = w1 } in
      let m4 : Machine = record { registers = r2; counter = p + 4 + 4 + 4 + 4; words = w2 } in
      let m5 : Machine = record { registers = r2; counter = p + 4 + 4 + 4 + 4 + 4; words = w3 } in
      let m6 : Machine = record { registers = r3; counter = p + 4 + 4 + 4 + 4 + 4 + 4; words = w3 } in
      let below : word (int sp -ℤ int b) ≡ low = words.word-sub sp b frame.word (omega (arith, frame.small)) ∙ omega (arith, frame.most, frame.word) in
      let above : word (int low +ℤ int b) ≡ sp = words.word-add low b (omega (arith, frame.word)) (omega (arith, frame.small)) ∙ omega (arith, frame.most, frame.word) in
      let copied : word (int sp +ℤ int (cast_unsigned w32 (pos 0))) ≡ sp = words.word-add sp 0 frame.word (omega arith) ∙ omega (arith, frame.word) in
      let at_low : offset low (pos 0) ≡ low = words.offset_up low 0 (omega (arith, frame.word)) ∙ omega arith in
      let at_4 : offset sp (minus 4) ≡ sp - 4 = words.offset_down sp 4 (omega (arith, frame.least, frame.most)) frame.word (minus 4) (omega (arith, ints, frame.least, frame.most)) in
      let at_8 : offset sp (minus 8) ≡ sp - 8 = words.offset_down sp 8 (omega (arith, frame.least, frame.most)) frame.word (minus 8) (omega (arith, ints, frame.least, frame.most)) in
      let low_4 : low % 4 ≡ 0 = omega (arith, frame.aligned, frame.whole, frame.most) in
      let four_4 : (sp - 4) % 4 ≡ 0 = omega (arith, frame.aligned, frame.least, frame.most) in
      let eight_4 : (sp - 8) % 4 ≡ 0 = omega (arith, frame.aligned, frame.least, frame.most) in
      let there_low = own_of (w low) (frame.mapped low low_4 (omega arith) (omega (arith, frame.least, frame.most))) in
      let there_4 = own_of (w1 (sp - 4)) (with_word_mapped w low (r reg.ZERO) (sp - 4) (frame.mapped (sp - 4) four_4 (omega (arith, frame.least, frame.most)) (omega (arith, frame.least, frame.most)))) in
      let there_8 = own_of (w2 (sp - 8)) (with_word_mapped w1 (sp - 4) (r reg.RA) (sp - 8) (with_word_mapped w low (r reg.ZERO) (sp - 8) (frame.mapped (sp - 8) eight_4 (omega (arith, frame.least, frame.most)) (omega (arith, frame.least, frame.most))))) in
      let s1 : GoesTo code 1 m0 m1 = set_at code (sub reg.SP reg.SP reg.HELP) refl reg.SP low p m0 refl (omega arith) code_is.0 (ap (λ v. Some (machine_with m0 (with_register r0 reg.SP v) (follow p))) below) in
      let s2 : GoesTo code 1 m1 m2 = put_at code reg.ZERO reg.SP (p + 4) low there_low.0 (pos 0) m1 refl (omega arith) code_is.1.0 at_low low_4 there_low.1 in
      let s3 : GoesTo code 1 m2 m3 = set_at code (add reg.HELP reg.SP reg.HELP) refl reg.HELP sp (p + 4 + 4) m2 refl (omega arith) code_is.1.1.0 (ap (λ v. Some (machine_with m2 (with_register r1 reg.HELP v) (follow (p + 4 + 4)))) above) in
      let s4 : GoesTo code 1 m3 m4 = put_at code reg.RA reg.HELP (p + 4 + 4 + 4) (sp - 4) there_4.0 (minus 4) m3 refl (omega arith) code_is.1.1.1.0 at_4 four_4 there_4.1 in
      let s5 : GoesTo code 1 m4 m5 = put_at code reg.FP reg.HELP (p + 4 + 4 + 4 + 4) (sp - 8) there_8.0 (minus 8) m4 refl (omega arith) code_is.1.1.1.1.0 at_8 eight_4 there_8.1 in
      let s6 : GoesTo code 1 m5 m6 = set_at code (addi reg.FP reg.HELP (pos 0)) refl reg.FP sp (p + 4 + 4 + 4 + 4 + 4) m5 refl (omega arith) code_is.1.1.1.1.1.0 (ap (λ v. Some (machine_with m5 (with_register r2 reg.FP v) (follow (p + 4 + 4 + 4 + 4 + 4)))) copied) in
      let sum : p + 4 + 4 + 4 + 4 + 4 + 4 ≡ p + 24 = omega arith in
      let six : GoesTo code 6 m0 m6 = comes_on code 1 5 m0 m1 m6 s1 (comes_on code 1 4 m1 m2 m6 s2 (comes_on code 1 3 m2 m3 m6 s3 (comes_on code 1 2 m3 m4 m6 s4 (comes_on code 1 1 m4 m5 m6 s5 s6)))) in
      comes_on code size 6 m m0 _ number_runs (subst (λ c. GoesTo code 6 m0 (record { registers = r3; counter = c; words = w3 })) sum six)
