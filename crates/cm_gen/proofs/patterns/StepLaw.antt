-- Steps of a machine, one after another, and what the instructions of the patterns do in one step.
use Rattle.cm_isa.specs.declared.convention.TheConstants as reg
use Rattle.std.proofs.Common.{◌≡◌, ℕ, zero, suc, ◌+◌, ◌-◌, ◌*◌, ◌%◌, ◌^◌, ◌<◌, List, [], ◌∷◌, ◌++◌, length, Some, refl, sym, subst, arith, eq-eqb}
use Rattle.std.specs.Prelude.{true, false, ◌==◌, if◌then◌else◌}
use Rattle.cm_isa.specs.Operation.{Operation}
use Rattle.cm_isa.specs.declared.execution.Action.TheVariants.{Loads, Stores}
use Rattle.cm_isa.specs.declared.execution.Size.TheVariants.{Whole}
use Rattle.cm_isa.specs.Action.{follow}
use Rattle.cm_isa.specs.Machine.{Machine, Code, InstructionsAt, machine_after, action_machine, machine_with, with_word, writable, reads}
use Rattle.cm_isa.specs.Run.{ComesTo}
use Rattle.cm_gen.specs.Returns.{plain, link_of, GoesTo}
use Rattle.cm_isa.specs.Register.{with_register}

-- the next instruction's address, where it doesn't wrap
pub follow_is : (p : ℕ) → p + 4 < 2 ^ 32 → follow p ≡ p + 4
follow_is p h = omega arith

module _ (code : Code) where
  -- one step
  pub comes_by_one : (i : Operation) → link_of i ≡ plain → (m next : Machine) → code m.counter i → machine_after i m ≡ Some next → GoesTo code 1 m next
  comes_by_one i is_plain m next code_is effect = (next, record { instruction = i; there = code_is; effect = effect }, is_plain, refl)

  -- steps after steps
  pub comes_on : (a b : ℕ) (m n o : Machine) → GoesTo code a m n → GoesTo code b n o → GoesTo code (a + b) m o
  comes_on zero b m n o first second =
      let e : 0 + b ≡ b = omega arith in
      subst (λ k. GoesTo code k m o) (sym e) (subst (λ q. GoesTo code b q o) (sym first) second)
  comes_on (suc a) b m n o first second =
      let e : suc a + b ≡ suc (a + b) = omega arith in
      subst (λ k. GoesTo code k m o) (sym e) (first.0, first.1, first.2, comes_on a b first.0 n o first.3 second)

  -- such steps are steps of instructions
  pub comes_by_steps : (n : ℕ) (m last : Machine) → GoesTo code n m last → ComesTo code n m last
  comes_by_steps zero m last h = h
  comes_by_steps (suc n) m last h = (h.0, h.1, comes_by_steps n h.0 last h.3)

  -- the front and the back of instructions one after another
  pub instructions_front : (p : ℕ) (a b : List Operation) → InstructionsAt code p (a ++ b) → InstructionsAt code p a
  instructions_front p [] b h = tt
  instructions_front p (i ∷ a) b h = (h.0, instructions_front (p + 4) a b h.1)

  pub instructions_back : (p : ℕ) (a b : List Operation) → InstructionsAt code p (a ++ b) → InstructionsAt code (p + 4 * length a) b
  instructions_back p [] b h = let e : p ≡ p + 0 = omega arith in subst (λ n. InstructionsAt code n b) e h
  instructions_back p (i ∷ a) b h =
      let e : p + 4 + 4 * length a ≡ p + 4 * length (i ∷ a) = omega arith in
      subst (λ n. InstructionsAt code n b) e (instructions_back (p + 4) a b h.1)

-- what a register is after a write to it, and after a write to another one
pub with_register_same : (rs : ℕ → ℕ) (rd v : ℕ) → (rd == reg.ZERO) ≡ false → with_register rs rd v rd ≡ v
with_register_same rs rd v nonzero = let e : (rd == rd) ≡ true = eq-eqb rd rd refl in rw (nonzero, e) refl

pub with_register_other : (rs : ℕ → ℕ) (rd v r : ℕ) → (r == rd) ≡ false → with_register rs rd v r ≡ rs r
with_register_other rs rd v r other = elim (rd == reg.ZERO) as (λ b. (if b then rs r else (if r == rd then v else rs r)) ≡ rs r) [ true ↦ refl | false ↦ rw other refl ]

-- a load of a whole word that is mapped
pub load_word : (rd a v : ℕ) (m : Machine) → a % 4 ≡ 0 → reads (m.words a) ≡ Some v → action_machine (Loads Whole true a) rd m ≡ Some (machine_with m (with_register m.registers rd v) (follow m.counter))
load_word rd a v m aligned there =
    let base : a - 0 ≡ a = omega arith in
    rw (aligned, base, there) refl

-- a store to a whole word that is mapped
pub store_word : (rd a v old : ℕ) (m : Machine) → a % 4 ≡ 0 → m.words a ≡ writable old
    → action_machine (Stores Whole a v) rd m ≡ Some (record { registers = m.registers; counter = follow m.counter; words = with_word m.words a v })
store_word rd a v old m aligned there =
    let base : a - 0 ≡ a = omega arith in
    rw (aligned, base, there) refl
