-- The stack as a map of words, and the start of a run over it.
use Rattle.std.proofs.Common.{◌≡◌, ℕ, ◌-◌, ◌/◌, ◌%◌, ◌<◌, ◌≤◌, List, length, refl, sym, ap, ◌∙◌, arith, ⊎_elim, eq-eqb}
use Rattle.std.proofs.lemmas.Bool.{cases_lt, le-ltb, lt-ltb, ltb-true, ltb-false}
use Rattle.std.proofs.lemmas.List.{get_or-replicate, get_or_past, length-replicate}
use Rattle.std.specs.Prelude.{Bool, true, false, nat_lt, if◌then◌else◌, ◌==◌, slice_index, replicate}
use Rattle.cm_isa.specs.Register.{put}
use Rattle.cm_isa.specs.Machine.{IsMap, word_address}
use Rattle.cm_isa.specs.declared.convention.TheConstants as reg
use Rattle.cm_isa.specs.declared.memory.Shown.TheVariants.{Place, Outside}
use Rattle.cm_isa.proofs.Machine.{put_register}
use Rattle.cm_syntax.specs.declared.stmt.Program.{Program}
use Rattle.cm_meaning.specs.Meaning.{Limits}
use Rattle.cm_gen.specs.Run.{stack_top, start_registers}
use Rattle.cm_serial.specs.Run.{stack_bytes, IsStart}
use Rattle.cm_serial.specs.Stack.{stack_low, stack_shown, stack_view, first_registers, start_machine}

-- an address of the stack, by the place that is shown there
pub shown_at : (count a p : ℕ) → stack_shown count a ≡ Place p → (stack_low count ≤ a) × (a < stack_top) × (p ≡ (a - stack_low count) / 4)
shown_at count a p e = by_tests (nat_lt a (stack_low count)) (nat_lt a stack_top) refl refl e
  where
    by_tests : (under below : Bool) → nat_lt a (stack_low count) ≡ under → nat_lt a stack_top ≡ below
        → (if under then Outside else if below then Place ((a - stack_low count) / 4) else Outside) ≡ Place p
        → (stack_low count ≤ a) × (a < stack_top) × (p ≡ (a - stack_low count) / 4)
    by_tests true below f g e = absurd (outside p e)
      where
        outside : (p : ℕ) → Outside ≡ Place p → ⊥
        outside p e = cc
    by_tests false true f g e = (ltb-false a (stack_low count) f, ltb-true a stack_top g, same _ p e)
      where
        same : (q p : ℕ) → Place q ≡ Place p → p ≡ q
        same q p e = cc
    by_tests false false f g e = absurd (outside p e)
      where
        outside : (p : ℕ) → Outside ≡ Place p → ⊥
        outside p e = cc

-- what is shown below the stack, in it and above it
shown_under : (count a : ℕ) → a < stack_low count → stack_shown count a ≡ Outside
shown_under count a h = let test : nat_lt a (stack_low count) ≡ true = lt-ltb a (stack_low count) h in rw test refl

pub shown_in : (count a : ℕ) → stack_low count ≤ a → a < stack_top → stack_shown count a ≡ Place ((a - stack_low count) / 4)
shown_in count a low high =
    let under : nat_lt a (stack_low count) ≡ false = le-ltb a (stack_low count) low in
    let below : nat_lt a stack_top ≡ true = lt-ltb a stack_top high in
    rw (under, below) refl

shown_above : (count a : ℕ) → stack_low count ≤ a → stack_top ≤ a → stack_shown count a ≡ Outside
shown_above count a low high =
    let under : nat_lt a (stack_low count) ≡ false = le-ltb a (stack_low count) low in
    let below : nat_lt a stack_top ≡ false = le-ltb a stack_top high in
    rw (under, below) refl

-- the stack is a map of words
pub stack_is_map : (stack : List ℕ) → IsMap (stack_view stack)
stack_is_map stack = record {
  whole = λ a. ⊎_elim (under a) (λ low. ⊎_elim (within a low) (above a low) (cases_lt a stack_top)) (cases_lt a (stack_low count));
  apart = λ a b p e f. apart a b p (shown_at count a p e) (shown_at count b p f);
}
  where
    count : ℕ
    count = length stack

    low_aligned : stack_low count % 4 ≡ 0
    low_aligned = omega arith

    under : (a : ℕ) → a < stack_low count → stack_shown count a ≡ stack_shown count (word_address a)
    under a h = shown_under count a h ∙ sym (shown_under count (word_address a) (omega arith))

    within : (a : ℕ) → stack_low count ≤ a → a < stack_top → stack_shown count a ≡ stack_shown count (word_address a)
    within a low high =
        let place : (a - stack_low count) / 4 ≡ (word_address a - stack_low count) / 4 = omega (arith, low_aligned) in
        shown_in count a low high ∙ ap Place place ∙ sym (shown_in count (word_address a) (omega (arith, low_aligned)) (omega arith))

    above : (a : ℕ) → stack_low count ≤ a → stack_top ≤ a → stack_shown count a ≡ stack_shown count (word_address a)
    above a low high = shown_above count a low high ∙ sym (shown_above count (word_address a) (omega (arith, low_aligned)) (omega arith))

    apart : (a b p : ℕ) → (stack_low count ≤ a) × (a < stack_top) × (p ≡ (a - stack_low count) / 4)
        → (stack_low count ≤ b) × (b < stack_top) × (p ≡ (b - stack_low count) / 4) → word_address a ≡ word_address b
    apart a b p e f = omega (arith, low_aligned, e.0, e.2, f.0, f.2)

-- ---- the start

nought : (n r : ℕ) → slice_index (replicate n 0) r ≡ 0
nought n r = ⊎_elim (λ h. get_or-replicate n r 0 0 h) (λ h. get_or_past (replicate n 0) r 0 (omega (arith, length-replicate {A = ℕ} n 0, h))) (cases_lt r n)

-- the list of the first registers
first_is : (account ticks r : ℕ) → slice_index (first_registers account ticks) r ≡ start_registers account ticks r
first_is account ticks r =
    put_register (put (put (replicate 32 0) reg.SP stack_top) reg.ACCOUNT account) reg.TICKS ticks (omega arith) r
    ∙ ap (λ x. if r == reg.TICKS then ticks else x) (put_register (put (replicate 32 0) reg.SP stack_top) reg.ACCOUNT account (omega arith) r
    ∙ ap (λ x. if r == reg.ACCOUNT then account else x) (put_register (replicate 32 0) reg.SP stack_top (omega arith) r
    ∙ ap (λ x. if r == reg.SP then stack_top else x) (nought 32 r)))

-- the machine at the start of a run over a stack of zeros is at its start
pub zeros_start : (program : Program) (limits : Limits) → stack_bytes limits % 4 ≡ 0 → stack_bytes limits ≤ stack_top
    → IsStart program limits (start_machine (stack_bytes limits) limits.ticks program.main)
zeros_start program limits whole small = record {
  registers = first_is (stack_bytes limits) limits.ticks;
  counter = refl;
  mapped = λ a aligned low high.
      let stack = replicate (stack_bytes limits / 4) 0 in
      let count : length stack ≡ stack_bytes limits / 4 = length-replicate {A = ℕ} (stack_bytes limits / 4) 0 in
      let place = (a - stack_low (length stack)) / 4 in
      let test : (a % 4 == 0) ≡ true = eq-eqb (a % 4) 0 aligned in
      let here = shown_in (length stack) a (omega (arith, count, whole, low)) high in
      let inside : nat_lt place (length stack) ≡ true = lt-ltb place (length stack) (omega (arith, count, whole, low, high, small)) in
      rw (test, here, inside) tt;
}
