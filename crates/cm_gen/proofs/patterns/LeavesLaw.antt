-- What a run of instructions leaves: where it comes to, what it puts into registers and words, and all else as it was.
use Rattle.std.proofs.lemmas.Bool.{or_parts}
use Rattle.std.proofs.Common.{◌≡◌, ℕ, ◌+◌, ◌*◌, length, List, ◌++◌, refl, ap, ◌∙◌, subst, sym, arith, length-append, Some}
use Rattle.std.specs.Prelude.{Bool, false, ◌==◌, ◌||◌}
use Rattle.cm_isa.specs.declared.convention.TheConstants as reg
use Rattle.cm_isa.specs.Operation.{Operation}
use Rattle.cm_isa.specs.Machine.{Machine, Mapped, Code, machine_with, with_word}
use Rattle.cm_isa.specs.Run.{replied_machine}
use Rattle.cm_gen.specs.Returns.{GoesTo}
use Rattle.cm_gen.proofs.patterns.StepLaw.{comes_on}

-- The machine t is at an address `bytes` further than m, `says` is true of its registers, those that it may not have changed
-- are as in m, and its words are what `write` makes of those of m.
pub record Leaves (may : ℕ → Bool) (says : (ℕ → ℕ) → Type 0) (write : Mapped → Mapped) (bytes : ℕ) (m t : Machine) : Type 0 where
  pub counter : t.counter ≡ m.counter + bytes
  pub value : says t.registers
  pub kept : (q : ℕ) → may q ≡ false → t.registers q ≡ m.registers q
  pub words : t.words ≡ write m.words

-- register r has the word v
abbrev pub Sets : (r v bytes : ℕ) → (m t : Machine) → Type 0
Sets r v bytes m t = Leaves (λ q. q == r) (λ t. t r ≡ v) (λ w. w) bytes m t

-- the word at the address a is v, and x7 may have changed
abbrev pub Puts : (a v bytes : ℕ) → (m t : Machine) → Type 0
Puts a v bytes m t = Leaves (λ q. q == reg.HELP) (λ t. Unit {0}) (λ w. with_word w a v) bytes m t

-- What two runs leave, one behind the other: a register that the whole may not have changed is one that neither has.
pub leaves_both : {f g h : ℕ → Bool} {P Q R : (ℕ → ℕ) → Type 0} {w z : Mapped → Mapped} {a b c : ℕ} (m s t : Machine) → Leaves f P w a m s → Leaves g Q z b s t
    → c ≡ a + b → ((q : ℕ) → h q ≡ false → (f q ≡ false) × (g q ≡ false)) → R t.registers → Leaves h R (λ x. z (w x)) c m t
leaves_both {z = z} m s t first second size apart value = record {
  counter = let x = first.counter in let y = second.counter in omega (arith, x, y, size);
  value = value;
  kept = λ q other. let n = apart q other in second.kept q n.1 ∙ first.kept q n.0;
  words = second.words ∙ ap z first.words;
}

-- the registers that only calls and returns change, and 0
pub record SameRegisters (r t : ℕ → ℕ) : Type 0 where
  pub zero_is : t reg.ZERO ≡ r reg.ZERO
  pub sp : t reg.SP ≡ r reg.SP
  pub account : t reg.ACCOUNT ≡ r reg.ACCOUNT
  pub ticks : t reg.TICKS ≡ r reg.TICKS
  pub pointer : t reg.FP ≡ r reg.FP

pub same_self : (r : ℕ → ℕ) → SameRegisters r r
same_self r = record { zero_is = refl; sp = refl; account = refl; ticks = refl; pointer = refl }

pub same_after : {r s t : ℕ → ℕ} → SameRegisters r s → SameRegisters s t → SameRegisters r t
same_after a b = record { zero_is = b.zero_is ∙ a.zero_is; sp = b.sp ∙ a.sp; account = b.account ∙ a.account; ticks = b.ticks ∙ a.ticks; pointer = b.pointer ∙ a.pointer }

-- a run may change one of them
abbrev pub touches : (ℕ → Bool) → Bool
touches f = f reg.ZERO || (f reg.SP || (f reg.ACCOUNT || (f reg.TICKS || f reg.FP)))

-- behind a run that may not: where it says which registers it may change the test is `refl`
pub same_leaves : {f : ℕ → Bool} {P : (ℕ → ℕ) → Type 0} {w : Mapped → Mapped} {bytes : ℕ} {m t : Machine} → touches f ≡ false → Leaves f P w bytes m t → SameRegisters m.registers t.registers
same_leaves none does =
    let a = or_parts _ _ none in
    let b = or_parts _ _ a.1 in
    let c = or_parts _ _ b.1 in
    let d = or_parts _ _ c.1 in
    record { zero_is = does.kept reg.ZERO a.0; sp = does.kept reg.SP b.0; account = does.kept reg.ACCOUNT c.0; ticks = does.kept reg.TICKS d.0; pointer = does.kept reg.FP d.1 }

-- behind the reply of a service
pub same_replied : {r : ℕ → ℕ} (t : Machine) (v : ℕ) → SameRegisters r t.registers → SameRegisters r (replied_machine t (Some v)).registers
same_replied t v same = record { zero_is = same.zero_is; sp = same.sp; account = same.account; ticks = same.ticks; pointer = same.pointer }

-- other things are true of the registers
pub leaves_say : {f : ℕ → Bool} {P Q : (ℕ → ℕ) → Type 0} {w : Mapped → Mapped} {a : ℕ} {m t : Machine} → Leaves f P w a m t → Q t.registers → Leaves f Q w a m t
leaves_say does value = record { counter = does.counter; value = value; kept = does.kept; words = does.words }

module _ (code : Code) where
  -- the run too
  pub runs_both : {f g h : ℕ → Bool} {P Q R : (ℕ → ℕ) → Type 0} {w z : Mapped → Mapped} {a b c : ℕ} (x y : ℕ) (m s t : Machine)
      → GoesTo code x m s → Leaves f P w a m s → GoesTo code y s t → Leaves g Q z b s t
      → c ≡ a + b → ((q : ℕ) → h q ≡ false → (f q ≡ false) × (g q ≡ false)) → R t.registers
      → (t : Machine) × GoesTo code (x + y) m t × Leaves h R (λ x. z (w x)) c m t
  runs_both x y m s t first left second right size apart value = (t, comes_on code x y m s t first second, leaves_both m s t left right size apart value)

  -- each instruction of two codes is done
  pub codes_come : (b c : List Operation) (m s t : Machine) → GoesTo code (length b) m s → GoesTo code (length c) s t → GoesTo code (length (b ++ c)) m t
  codes_come b c m s t first second = subst (λ n. GoesTo code n m t) (sym (length-append b c)) (comes_on code (length b) (length c) m s t first second)

  pub codes_both : {f g h : ℕ → Bool} {P Q R : (ℕ → ℕ) → Type 0} {w z : Mapped → Mapped} (b c : List Operation) (m s t : Machine)
      → GoesTo code (length b) m s → Leaves f P w (4 * length b) m s → GoesTo code (length c) s t → Leaves g Q z (4 * length c) s t
      → ((q : ℕ) → h q ≡ false → (f q ≡ false) × (g q ≡ false)) → R t.registers
      → (t : Machine) × GoesTo code (length (b ++ c)) m t × Leaves h R (λ x. z (w x)) (4 * length (b ++ c)) m t
  codes_both b c m s t first left second right apart value =
      let size = length-append b c in
      (t, codes_come b c m s t first second, leaves_both m s t left right (omega (arith, size)) apart value)

  -- a branch goes first
  pub runs_behind : {f : ℕ → Bool} {P : (ℕ → ℕ) → Type 0} {w : Mapped → Mapped} {a c : ℕ} (b n : ℕ) (m t : Machine)
      → let s = machine_with m m.registers (m.counter + b) in GoesTo code 1 m s → GoesTo code n s t → Leaves f P w a s t → c ≡ b + a
      → (t : Machine) × GoesTo code (1 + n) m t × Leaves f P w c m t
  runs_behind b n m t first second does size = (
    t,
    comes_on code 1 n m (machine_with m m.registers (m.counter + b)) t first second,
    record { counter = let x = does.counter in omega (arith, x, size); value = does.value; kept = does.kept; words = does.words },
  )
