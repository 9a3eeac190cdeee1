-- What each pattern of the code does: the machine comes from the pattern's address to the address after it.
use Rattle.cm_gen.proofs.patterns.StandingLaw.{IsCodeAt}
use Rattle.std.proofs.lemmas.Int.{ints}
use Rattle.cm_gen.specs.Expression.{base}
use Rattle.cm_isa.specs.declared.convention.TheConstants as reg
use Rattle.std.proofs.Common.{◌≡◌, ℕ, ◌+◌, ◌*◌, ◌%◌, ◌^◌, ◌<◌, [], ◌∷◌, length, Some, refl, sym, ap, ◌∙◌, subst, arith, List}
use Rattle.std.specs.Prelude.{Bool, true, false, ◌==◌, if◌then◌else◌, ℤ, ◌+ℤ◌, FitsSigned, pos}
use Rattle.std.specs.Int.{w32, cast_unsigned}
use Rattle.cm_isa.specs.Operation.{Operation, ecall}
use Rattle.cm_isa.specs.Alu.{int, word, offset}
use Rattle.cm_isa.specs.Action.{follow}
use Rattle.cm_isa.specs.Machine.{Machine, Code, InstructionsAt, machine_after, machine_with, with_word, writable, reads}
use Rattle.cm_gen.specs.Returns.{plain, link_of, GoesTo}
use Rattle.cm_isa.specs.Register.{with_register}
use Rattle.cm_gen.specs.Assembler.{lui, addi, add, lw, sw}
use Rattle.cm_gen.specs.Code.{is_near, low_part, high_part, load_number, load_slot, store_slot, service}
use Rattle.cm_gen.proofs.patterns.WordLaw as words
use Rattle.cm_gen.proofs.patterns.LeavesLaw.{Sets, Puts, runs_both}
use Rattle.cm_gen.proofs.patterns.StepLaw.{comes_by_one, comes_on, follow_is, with_register_same, with_register_other, load_word, store_word}

-- patterns have code
either_some : (b : Bool) (xs ys : List Operation) → 0 < length xs → 0 < length ys → 0 < length (if b then xs else ys)
either_some true xs ys h g = h
either_some false xs ys h g = g

pub load_number_some : (r : ℕ) (n : ℤ) → 0 < length (load_number r n)
load_number_some r n = either_some (is_near n) _ _ (omega arith) (omega arith)

pub load_slot_some : (r : ℕ) (o : ℤ) → 0 < length (load_slot r o)
load_slot_some r o = either_some (is_near o) _ _ (omega arith) (omega arith)

pub store_slot_some : (r : ℕ) (o : ℤ) → 0 < length (store_slot r o)
store_slot_some r o = either_some (is_near o) _ _ (omega arith) (omega arith)

module _ (code : Code) where
  -- an instruction that sets a register
  pub sets_by_one : (i : Operation) → link_of i ≡ plain → (r v : ℕ) (m : Machine) → (r == reg.ZERO) ≡ false → m.counter + 4 < 2 ^ 32 → code m.counter i
      → machine_after i m ≡ Some (machine_with m (with_register m.registers r v) (follow m.counter))
      → (t : Machine) × GoesTo code 1 m t × Sets r v 4 m t
  sets_by_one i is_plain r v m nonzero room code_is effect =
      let t = machine_with m (with_register m.registers r v) (follow m.counter) in (
        t,
        comes_by_one code i is_plain m t code_is effect,
        record {
          counter = follow_is m.counter room;
          value = with_register_same m.registers r v nonzero;
          kept = λ q other. with_register_other m.registers r v q other;
          words = refl;
        },
      )

  -- two such instructions
  pub sets_by_two : (i j : Operation) → link_of i ≡ plain → link_of j ≡ plain → (r u v : ℕ) (m : Machine) → (r == reg.ZERO) ≡ false → m.counter + 8 < 2 ^ 32 → code m.counter i → code (m.counter + 4) j
      → machine_after i m ≡ Some (machine_with m (with_register m.registers r u) (follow m.counter))
      → ((t : Machine) → Sets r u 4 m t → machine_after j t ≡ Some (machine_with t (with_register t.registers r v) (follow t.counter)))
      → (t : Machine) × GoesTo code 2 m t × Sets r v 8 m t
  sets_by_two i j plain_i plain_j r u v m nonzero room code_is next effect then_effect =
      let first = sets_by_one i plain_i r u m nonzero (omega arith) code_is effect in
      let t = first.0 in
      let does = first.2 in
      let room' : t.counter + 4 < 2 ^ 32 = omega (arith, does.counter) in
      let second = sets_by_one j plain_j r v t nonzero room' (subst (λ p. code p j) (sym does.counter) next) (then_effect t does) in
      runs_both code 1 1 m t second.0 first.1 does second.1 second.2 refl (λ q other. (other, other)) second.2.value

  -- a number in a register
  load_number_by : (near : Bool) (r : ℕ) (n : ℤ) (m : Machine) → (r == reg.ZERO) ≡ false → m.registers reg.ZERO ≡ 0 → FitsSigned w32 n → m.counter + 8 < 2 ^ 32
      → InstructionsAt code m.counter (if near then addi r reg.ZERO n ∷ [] else lui r (high_part n) ∷ addi r r (low_part n) ∷ [])
      → let size = length (if near then addi r reg.ZERO n ∷ [] else lui r (high_part n) ∷ addi r r (low_part n) ∷ []) in
      (t : Machine) × GoesTo code size m t × Sets r (cast_unsigned w32 n) (4 * size) m t
  load_number_by true r n m nonzero zero_is fits room code_is =
      let bits = cast_unsigned w32 n in
      let value : word (int (m.registers reg.ZERO) +ℤ int bits) ≡ bits =
      rw zero_is (words.word-add 0 bits (omega arith) (words.cast_unsigned_below n fits) ∙ (let below = words.cast_unsigned_below n fits in omega arith)) in
      sets_by_one (addi r reg.ZERO n) refl r bits m nonzero (omega arith) code_is.0 (ap (λ v. Some (machine_with m (with_register m.registers r v) (follow m.counter))) value)
  load_number_by false r n m nonzero zero_is fits room code_is =
      let upper = cast_unsigned w32 (high_part n) in
      let lower = cast_unsigned w32 (low_part n) in
      let value : word (int upper +ℤ int lower) ≡ cast_unsigned w32 n =
      rw (words.int-cast_unsigned (high_part n) (words.wrapped_fits _), words.int-cast_unsigned (low_part n) (words.low_part_fits n)) (words.word-parts n ∙ words.word-fits n fits) in
      sets_by_two (lui r (high_part n)) (addi r r (low_part n)) refl refl r upper (cast_unsigned w32 n) m nonzero room code_is.0 code_is.1.0 refl
      (λ t does. ap (λ v. Some (machine_with t (with_register t.registers r v) (follow t.counter))) (ap (λ u. word (int u +ℤ int lower)) does.value ∙ value))

  pub load_number_runs : (r : ℕ) (n : ℤ) (m : Machine) → (r == reg.ZERO) ≡ false → m.registers reg.ZERO ≡ 0 → FitsSigned w32 n → m.counter + 8 < 2 ^ 32
      → InstructionsAt code m.counter (load_number r n)
      → (t : Machine) × GoesTo code (length (load_number r n)) m t × Sets r (cast_unsigned w32 n) (4 * length (load_number r n)) m t
  load_number_runs r n m nonzero zero_is fits room code_is = load_number_by (is_near n) r n m nonzero zero_is fits room code_is

  -- the address after two instructions
  second_next : (i : Operation) (p : ℕ) → code (p + 4 + 4) i → code (p + 8) i
  second_next i p h = let e : p + 4 + 4 ≡ p + 8 = omega arith in subst (λ n. code n i) e h

  -- the high part of an offset, added to the frame pointer: with the low part it is the address
  far_base : (r : ℕ) (o : ℤ) (m : Machine) → (r == reg.ZERO) ≡ false → (reg.FP == r) ≡ false → m.registers reg.FP < 2 ^ 32 → m.counter + 8 < 2 ^ 32
      → code m.counter (lui r (high_part o)) → code (m.counter + 4) (add r r reg.FP)
      → (t : Machine) × GoesTo code 2 m t × Sets r (word (int (cast_unsigned w32 (high_part o)) +ℤ int (m.registers reg.FP))) 8 m t
      × (offset (t.registers r) (low_part o) ≡ offset (m.registers reg.FP) o)
  far_base r o m nonzero other frame room code_is next =
      let upper = cast_unsigned w32 (high_part o) in
      let base = word (int upper +ℤ int (m.registers reg.FP)) in
      let two = sets_by_two (lui r (high_part o)) (add r r reg.FP) refl refl r upper base m nonzero room code_is next refl
      (λ t does. ap (λ v. Some (machine_with t (with_register t.registers r v) (follow t.counter))) (ap (λ u. word (int u +ℤ int (t.registers reg.FP))) does.value ∙ ap (λ u. word (int upper +ℤ int u)) (does.kept reg.FP other))) in
      (two.0, two.1, two.2, ap (λ u. offset u (low_part o)) two.2.value ∙ words.far_offset o (m.registers reg.FP) frame)

  -- the word of a register at an offset from the frame pointer
  store_slot_by : (near : Bool) (r : ℕ) (o : ℤ) (a old : ℕ) (m : Machine) → (r == reg.HELP) ≡ false → m.registers reg.FP < 2 ^ 32
      → offset (m.registers reg.FP) o ≡ a → a % 4 ≡ 0 → m.words a ≡ writable old → m.counter + 12 < 2 ^ 32
      → InstructionsAt code m.counter (if near then sw r reg.FP o ∷ [] else lui reg.HELP (high_part o) ∷ add reg.HELP reg.HELP reg.FP ∷ sw r reg.HELP (low_part o) ∷ [])
      → let size = length (if near then sw r reg.FP o ∷ [] else lui reg.HELP (high_part o) ∷ add reg.HELP reg.HELP reg.FP ∷ sw r reg.HELP (low_part o) ∷ []) in
      (t : Machine) × GoesTo code size m t × Puts a (m.registers r) (4 * size) m t
  store_slot_by true r o a old m other frame address aligned there room code_is =
      let v = m.registers r in
      let t : Machine = record { registers = m.registers; counter = follow m.counter; words = with_word m.words a v } in
      let effect : machine_after (sw r reg.FP o) m ≡ Some t = rw address (store_word 0 a v old m aligned there) in (
        t,
        comes_by_one code (sw r reg.FP o) refl m t code_is.0 effect,
        record {
          counter = follow_is m.counter (omega arith);
          value = tt;
          kept = λ q h. refl;
          words = refl;
        },
      )
  store_slot_by false r o a old m other frame address aligned there room code_is =
      let upper = cast_unsigned w32 (high_part o) in
      let base = word (int upper +ℤ int (m.registers reg.FP)) in
      let two = far_base reg.HELP o m refl refl frame (omega arith) code_is.0 code_is.1.0 in
      let s = two.0 in
      let does = two.2 in
      let v = m.registers r in
      let t : Machine = record { registers = s.registers; counter = follow s.counter; words = with_word s.words a v } in
      let at : offset (s.registers reg.HELP) (low_part o) ≡ a = two.3 ∙ address in
      let same : s.registers r ≡ v = does.kept r other in
      let here : s.words a ≡ writable old = ap (λ w. w a) does.words ∙ there in
      let effect : machine_after (sw r reg.HELP (low_part o)) s ≡ Some t = rw (at, same) (store_word 0 a v old s aligned here) in
      let code_is' = subst (λ p. code p (sw r reg.HELP (low_part o))) (sym does.counter) (second_next (sw r reg.HELP (low_part o)) m.counter code_is.1.1.0) in (
        t,
        comes_on code 2 1 m s t two.1 (comes_by_one code (sw r reg.HELP (low_part o)) refl s t code_is' effect),
        record {
          counter = omega (arith, follow_is s.counter (omega (arith, does.counter)), does.counter);
          value = tt;
          kept = λ q h. does.kept q h;
          words = ap (λ w. with_word w a v) does.words;
        },
      )

  pub store_slot_runs : (r : ℕ) (o : ℤ) (a old : ℕ) (m : Machine) → (r == reg.HELP) ≡ false → m.registers reg.FP < 2 ^ 32
      → offset (m.registers reg.FP) o ≡ a → a % 4 ≡ 0 → m.words a ≡ writable old → m.counter + 12 < 2 ^ 32
      → InstructionsAt code m.counter (store_slot r o)
      → (t : Machine) × GoesTo code (length (store_slot r o)) m t × Puts a (m.registers r) (4 * length (store_slot r o)) m t
  store_slot_runs r o a old m other frame address aligned there room code_is = store_slot_by (is_near o) r o a old m other frame address aligned there room code_is

  -- an offset from the frame pointer, in a register
  load_slot_by : (near : Bool) (r : ℕ) (o : ℤ) (a v : ℕ) (m : Machine) → (r == reg.ZERO) ≡ false → (reg.FP == r) ≡ false → m.registers reg.FP < 2 ^ 32
      → offset (m.registers reg.FP) o ≡ a → a % 4 ≡ 0 → reads (m.words a) ≡ Some v → m.counter + 12 < 2 ^ 32
      → InstructionsAt code m.counter (if near then lw r reg.FP o ∷ [] else lui r (high_part o) ∷ add r r reg.FP ∷ lw r r (low_part o) ∷ [])
      → let size = length (if near then lw r reg.FP o ∷ [] else lui r (high_part o) ∷ add r r reg.FP ∷ lw r r (low_part o) ∷ []) in
      (t : Machine) × GoesTo code size m t × Sets r v (4 * size) m t
  load_slot_by true r o a v m nonzero other frame address aligned there room code_is =
      sets_by_one (lw r reg.FP o) refl r v m nonzero (omega arith) code_is.0 (rw address (load_word r a v m aligned there))
  load_slot_by false r o a v m nonzero other frame address aligned there room code_is =
      let two = far_base r o m nonzero other frame (omega arith) code_is.0 code_is.1.0 in
      let s = two.0 in
      let does = two.2 in
      let at : offset (s.registers r) (low_part o) ≡ a = two.3 ∙ address in
      let here : reads (s.words a) ≡ Some v = ap (λ w. reads (w a)) does.words ∙ there in
      let code_is' = subst (λ p. code p (lw r r (low_part o))) (sym does.counter) (second_next (lw r r (low_part o)) m.counter code_is.1.1.0) in
      let room' : s.counter + 4 < 2 ^ 32 = omega (arith, does.counter) in
      let last = sets_by_one (lw r r (low_part o)) refl r v s nonzero room' code_is' (rw at (load_word r a v s aligned here)) in
      runs_both code 2 1 m s last.0 two.1 does last.1 last.2 refl (λ q other. (other, other)) last.2.value

  pub load_slot_runs : (r : ℕ) (o : ℤ) (a v : ℕ) (m : Machine) → (r == reg.ZERO) ≡ false → (reg.FP == r) ≡ false → m.registers reg.FP < 2 ^ 32
      → offset (m.registers reg.FP) o ≡ a → a % 4 ≡ 0 → reads (m.words a) ≡ Some v → m.counter + 12 < 2 ^ 32
      → InstructionsAt code m.counter (load_slot r o)
      → (t : Machine) × GoesTo code (length (load_slot r o)) m t × Sets r v (4 * length (load_slot r o)) m t
  load_slot_runs r o a v m nonzero other frame address aligned there room code_is = load_slot_by (is_near o) r o a v m nonzero other frame address aligned there room code_is

  -- one instruction that stores a register's word, at an address that is known
  pub put_at : (source base p a old : ℕ) (o : ℤ) (m : Machine) → m.counter ≡ p → p + 4 < 2 ^ 32 → code p (sw source base o)
      → offset (m.registers base) o ≡ a → a % 4 ≡ 0 → m.words a ≡ writable old
      → GoesTo code 1 m (record { registers = m.registers; counter = p + 4; words = with_word m.words a (m.registers source) })
  put_at source base p a old o m here room code_is address aligned there =
      let next : ℕ → Machine = λ c. record { registers = m.registers; counter = c; words = with_word m.words a (m.registers source) } in
      let effect : machine_after (sw source base o) m ≡ Some (next (follow m.counter)) = rw address (store_word 0 a (m.registers source) old m aligned there) in
      comes_by_one code (sw source base o) refl m (next (p + 4)) (subst (λ n. code n (sw source base o)) (sym here) code_is)
      (effect ∙ ap (λ c. Some (next c)) (ap follow here ∙ follow_is p room))

  -- a register goes to the address in another one
  pub put_runs : (source base a old : ℕ) (m : Machine) → code m.counter (sw source base (pos 0)) → m.counter + 4 < 2 ^ 32 → m.registers base ≡ a → a % 4 ≡ 0 → a < 2 ^ 32 → m.words a ≡ writable old
      → GoesTo code 1 m (record { registers = m.registers; counter = m.counter + 4; words = with_word m.words a (m.registers source) })
  put_runs source base a old m there room base_is aligned fits mapped =
      let address : offset (m.registers base) (pos 0) ≡ a = ap (λ b. offset b (pos 0)) base_is ∙ words.offset_up a 0 (omega (arith, fits)) ∙ omega arith in
      put_at source base m.counter a old (pos 0) m refl room there address aligned mapped

  -- a register takes the word at the address in another one
  pub take_runs : (target base a v : ℕ) (m : Machine) → (target == reg.ZERO) ≡ false → code m.counter (lw target base (pos 0)) → m.counter + 4 < 2 ^ 32 → m.registers base ≡ a → a % 4 ≡ 0 → a < 2 ^ 32
      → reads (m.words a) ≡ Some v → (t : Machine) × GoesTo code 1 m t × Sets target v 4 m t
  take_runs target base a v m nonzero there room base_is aligned fits mapped =
      let address : offset (m.registers base) (pos 0) ≡ a = ap (λ b. offset b (pos 0)) base_is ∙ words.offset_up a 0 (omega (arith, fits)) ∙ omega arith in
      sets_by_one (lw target base (pos 0)) refl target v m nonzero room there (rw address (load_word target a v m aligned mapped))

  -- the number of a service, up to its call
  pub service_runs : (n : ℕ) (m : Machine) → n < 2 ^ 31 → m.registers reg.ZERO ≡ 0 → IsCodeAt code m.counter (service (pos n))
      → (t : Machine) × GoesTo code 1 m t × Sets reg.SERVICE n 4 m t × code t.counter ecall
  service_runs n m small zero_is here =
      let value : word (int (m.registers reg.ZERO) +ℤ int (cast_unsigned w32 (pos n))) ≡ n = rw (zero_is, bits_of n small) (words.word-add 0 n (omega arith) (omega (arith, small)) ∙ omega (arith, small)) in
      let below = here.below in
      let ran = sets_by_one (addi reg.SERVICE reg.ZERO (pos n)) refl reg.SERVICE n m refl (omega (arith, below)) here.there.0 (ap (λ v. Some (machine_with m (with_register m.registers reg.SERVICE v) (follow m.counter))) value) in
      (ran.0, ran.1, ran.2, subst (λ p. code p ecall) (sym ran.2.counter) here.there.1.0)
    where
      bits_of : (n : ℕ) → n < 2 ^ 31 → cast_unsigned w32 (pos n) ≡ n
      bits_of n h = omega (arith, ints, h)
