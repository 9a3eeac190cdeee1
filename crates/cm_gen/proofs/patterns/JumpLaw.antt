-- Jumps and branches, and the jumps that stand before a rest.
use Rattle.cm_isa.specs.Alu as alu
use Rattle.cm_isa.specs.Register.{with_register}
use Rattle.cm_isa.specs.Action.{follow}
use Rattle.std.proofs.Common.{◌≡◌, ◌≢◌, ℕ, zero, suc, ◌+◌, ◌-◌, ◌*◌, ◌%◌, ◌^◌, ◌<◌, ◌≤◌, List, [], ◌∷◌, length, Some, refl, sym, ap, ◌∙◌, subst, arith}
use Rattle.std.proofs.lemmas.Bool.{ne_eqb}
use Rattle.std.proofs.lemmas.Int.{ints}
use Rattle.std.specs.Prelude.{true, false, ◌==◌, ℤ, pos, negsuc, ◌+ℤ◌, FitsSigned, ◌-ℤ◌}
use Rattle.std.specs.Int.{w32}
use Rattle.cm_isa.specs.declared.convention.TheConstants as reg
use Rattle.cm_isa.specs.Bits.{minus}
use Rattle.cm_isa.specs.Alu.{int, offset}
use Rattle.cm_isa.specs.Machine.{Machine, Code, machine_after, machine_with}
use Rattle.cm_gen.specs.Returns.{GoesTo}
use Rattle.cm_syntax.specs.Operator.{is_zero}
use Rattle.cm_gen.specs.Assembler.{jal, bne}
use Rattle.cm_gen.specs.Part.{Part}
use Rattle.cm_gen.specs.Standing.{JumpsTo, BehindJumps, LeadsTo, StandsThen}
use Rattle.cm_gen.specs.FrameWord.{bits}
use Rattle.cm_gen.proofs.patterns.WordLaw as words
use Rattle.cm_gen.proofs.patterns.StepLaw.{comes_by_one, comes_on, follow_is}
use Rattle.cm_gen.proofs.patterns.StandingLaw.{then_below}

-- ---- single jumps

-- the machine with another counter
abbrev pub moved : Machine → (counter : ℕ) → Machine
moved m p = machine_with m m.registers p

pub jumps_on : (n : ℕ) (m : Machine) → (m.counter + n) % 4 ≡ 0 → m.counter + n < 2 ^ 32 → machine_after (jal reg.ZERO (pos n)) m ≡ Some (moved m (m.counter + n))
jumps_on n m aligned room = let e = words.offset_up m.counter n room in rw (e, aligned) refl

pub jumps_back : (n : ℕ) (m : Machine) (loop : ℕ) → m.counter ≡ loop + n → loop % 4 ≡ 0 → m.counter < 2 ^ 32 → machine_after (jal reg.ZERO (minus n)) m ≡ Some (moved m loop)
jumps_back n m loop is four room =
    let e : offset m.counter (minus n) ≡ loop = words.offset_down m.counter n (omega (arith, is)) room (minus n) (less m.counter n (omega (arith, is))) ∙ omega (arith, is) in
    rw (e, four) refl
  where
    less : (f k : ℕ) → k ≤ f → pos f +ℤ minus k ≡ pos (f - k)
    less f k h = omega (arith, ints)

-- a jump to an address
pub jump_to : (rd a : ℕ) (o : ℤ) (m : Machine) → offset m.counter o ≡ a → a % 4 ≡ 0 → machine_after (jal rd o) m ≡ Some (machine_with m (with_register m.registers rd (follow m.counter)) a)
jump_to rd a o m there aligned = rw (there, aligned) refl

-- the distance between two addresses leads from one to the other
pub distance_to : (p a : ℕ) → a < 2 ^ 32 → offset p (pos a -ℤ pos p) ≡ a
distance_to p a small = ap alu.word (sum p a) ∙ words.word-pos a small
  where
    sum : (p a : ℕ) → pos p +ℤ (pos a -ℤ pos p) ≡ pos a
    sum p a = omega (arith, ints)

-- branches over one word, by VALUE
pub bne_over : (m : Machine) → m.registers reg.ZERO ≡ 0 → m.registers reg.VALUE ≢ 0 → m.counter % 4 ≡ 0 → m.counter + 8 < 2 ^ 32
    → machine_after (bne reg.VALUE reg.ZERO (pos 8)) m ≡ Some (moved m (m.counter + 8))
bne_over m zero_is some aligned room =
    let e = words.offset_up m.counter 8 room in
    let differ : (m.registers reg.VALUE == 0) ≡ false = ne_eqb (m.registers reg.VALUE) 0 some in
    let four : (m.counter + 8) % 4 ≡ 0 = omega (arith, aligned) in
    rw (zero_is, differ, e, four) refl

pub bne_next : (m : Machine) → m.registers reg.ZERO ≡ 0 → m.registers reg.VALUE ≡ 0 → m.counter + 4 < 2 ^ 32 → machine_after (bne reg.VALUE reg.ZERO (pos 8)) m ≡ Some (moved m (m.counter + 4))
bne_next m zero_is none room = let e = follow_is m.counter room in rw (zero_is, none, e) refl

-- ---- words that are 0

pub is_nothing : (a : ℤ) → is_zero a ≡ true → (r : ℕ) → r ≡ bits a → r ≡ 0
is_nothing (pos zero) h r e = e
is_nothing (pos (suc n)) h r e = absurd (cc h)
is_nothing (negsuc n) h r e = absurd (cc h)

pub is_something : (a : ℤ) → is_zero a ≡ false → FitsSigned w32 a → (r : ℕ) → r ≡ bits a → r ≢ 0
is_something a h fits r e z = nonzero a h (sym (words.int-cast_unsigned a fits) ∙ ap int (sym e ∙ z))
  where
    nonzero : (a : ℤ) → is_zero a ≡ false → a ≡ pos 0 → ⊥
    nonzero a h e = cc (ap is_zero e, h)

module _ (code : Code) where
  -- one jump forward
  pub jump_runs : (m : Machine) (q : ℕ) → JumpsTo code m.counter q → GoesTo code 1 m (moved m q)
  jump_runs m q j =
      let n = 4 * j.words in
      let aligned = j.jump.aligned in
      let target = j.target in
      let below = j.below in
      let e : m.counter + n ≡ q = omega (arith, target) in
      comes_by_one code (jal reg.ZERO (pos n)) refl m (moved m q) j.jump.there
      (jumps_on n m (omega (arith, aligned)) (omega (arith, target, below)) ∙ ap (λ p. Some (moved m p)) e)

  -- the jumps before a place are done
  pub jumps_run : (n : ℕ) (K : ℕ → Type 0) (m : Machine) → BehindJumps code n K m.counter → (q : ℕ) × GoesTo code n m (moved m q) × K q
  jumps_run zero K m h = (m.counter, refl, h)
  jumps_run (suc n) K m h =
      let on = jumps_run n K (moved m h.0) h.2 in
      let e : 1 + n ≡ suc n = omega arith in
      (on.0, subst (λ c. GoesTo code c m (moved m on.0)) e (comes_on code 1 n m (moved m h.0) (moved m on.0) (jump_runs m h.0 h.1) on.1), on.2)

  -- what is said of where jumps lead is that it leads on by jumps
  pub leads_join : (n : ℕ) (K L : ℕ → Type 0) (p : ℕ) → BehindJumps code n K p → ((q : ℕ) → K q → LeadsTo code L q) → LeadsTo code L p
  leads_join zero K L p h f = f p h
  leads_join (suc n) K L p h f = let on = leads_join n K L h.0 h.2 f in (suc on.0, (h.0, h.1, on.1))

  pub then_join : (parts : List Part) (K L : ℕ → Type 0) (p : ℕ) → StandsThen code parts K p → ((q : ℕ) → K q → LeadsTo code L q) → StandsThen code parts L p
  then_join [] K L p h f = leads_join h.0 K L p h.1 f
  then_join (first ∷ more) K L p h f = (h.0, then_join more K L (p + 4) h.1 f)

  -- behind some parts the place is far below the end of the addresses, and in whole words
  pub end_place : (parts : List Part) (K : ℕ → Type 0) (p : ℕ) → p < 2 ^ 30 → StandsThen code parts K p → p + 4 * length parts < 2 ^ 30
  end_place [] K p room h = omega (arith, room)
  end_place (first ∷ more) K p room h = then_below code first more K p h
