-- Each operator of the language and the code that computes it from two words.
use Rattle.cm_gen.proofs.patterns.StandingLaw.{IsCodeAt, code_front, code_back}
use Rattle.std.proofs.Common.{◌≡◌, ◌≢◌, ℕ, zero, suc, ◌+◌, ◌-◌, ◌*◌, ◌/◌, ◌%◌, ◌^◌, ◌<◌, List, [], ◌∷◌, ◌++◌, length, Option, None, Some, refl, sym, ap, ◌∙◌, subst, arith, inl, inr, eq-eqb}
use Rattle.std.proofs.lemmas.Bool.{ne_eqb, eqb-true, lt-ltb, le-ltb, true≢false}
use Rattle.std.proofs.lemmas.Bool.Decides.{eqb_tells, leb_tells, Decides-int_eq}
use Rattle.std.proofs.lemmas.Nat.{and_le_l, or_lt, xor_lt, xor_block}
use Rattle.std.proofs.lemmas.Int.{ints, of_z-to_z}
use Rattle.std.proofs.lemmas.Option.{none-some, same_Some}
use Rattle.std.specs.Prelude.{Bool, true, false, not, ◌==◌, if◌then◌else◌, nat_lt, nat_le, ℤ, pos, negsuc, ◌+ℤ◌, ◌-ℤ◌, ◌*ℤ◌, FitsSigned, int_lt, int_le, int_div, int_rem, bit_and, bit_or, bit_xor}
use Rattle.std.specs.Int.{w32, cast_signed, int_shl, int_shr, int_bit_and, int_bit_or, int_bit_xor, int_bit_not}
use Rattle.std.specs.Int.Signed.{mag_shr}
use Rattle.std.specs.Ordering.{int_eq}
use Rattle.cm_isa.specs.Operation.{Operation, ecall}
use Rattle.cm_isa.specs.Alu.{int, word, bit, all_ones}
use Rattle.cm_isa.specs.Machine.{Machine, Code, machine_after, machine_with}
use Rattle.cm_isa.specs.Action.{follow}
use Rattle.cm_gen.specs.Returns.{plain, link_of, GoesTo}
use Rattle.cm_isa.specs.Register.{with_register}
use Rattle.cm_gen.specs.Assembler.{bne, div, rem}
use Rattle.cm_isa.specs.declared.convention.TheConstants as reg
use Rattle.cm_syntax.specs.declared.expr.Op.{Op}
use Rattle.cm_syntax.specs.declared.expr.Op.TheVariants as op
use Rattle.cm_syntax.specs.Word.{wrap}
use Rattle.cm_syntax.specs.Operator.{is_zero, truth_value, shift_amount, binary_value, divides, unary_value}
use Rattle.cm_meaning.proofs.OperatorLaw.{shift_bits}
use Rattle.cm_gen.specs.FrameWord.{bits}
use Rattle.cm_gen.specs.Code.{service}
use Rattle.cm_gen.specs.Expression.{operator_code, prefix_code, test_divisor}
use Rattle.cm_gen.proofs.patterns.WordLaw as words
use Rattle.cm_gen.proofs.patterns.StepLaw.{comes_by_one, comes_on, follow_is}
use Rattle.cm_gen.proofs.patterns.PatternLaw.{sets_by_one, sets_by_two, service_runs}
use Rattle.cm_gen.proofs.patterns.LeavesLaw.{Sets, runs_behind}

-- ---- the words of values

-- a word from its bits
bits_signed : (n : ℕ) → n < 2 ^ 32 → n ≡ bits (cast_signed w32 n)
bits_signed n h = sym (of_z-to_z w32 n h)

-- a shift to the left, of bits
shl_is : (a b : ℤ) → FitsSigned w32 b → bits a * 2 ^ (bits b % 32) % 2 ^ 32 ≡ bits (int_shl w32 a (shift_amount b))
shl_is a b y = ap (λ k. bits a * 2 ^ k % 2 ^ 32) (shift_bits b y) ∙ bits_signed _ (omega arith)

-- and to the right
shr_fits : (a : ℤ) (k : ℕ) → FitsSigned w32 a → FitsSigned w32 (int_shr a k)
shr_fits a k x = let h = mag_shr a (2 ^ k) in let s = x.sfits in record { sfits = omega (arith, h, s) }

shr_is : (a b : ℤ) → FitsSigned w32 a → FitsSigned w32 b → word (int_shr (int (bits a)) (bits b % 32)) ≡ bits (int_shr a (shift_amount b))
shr_is a b x y = ap (λ z. word (int_shr z (bits b % 32))) (words.int-cast_unsigned a x) ∙ ap (λ k. word (int_shr a k)) (shift_bits b y) ∙ words.word-fits (int_shr a (shift_amount b)) (shr_fits a (shift_amount b) x)

-- truth values
truth_bits : (t : Bool) → bit t ≡ bits (truth_value t)
truth_bits true = refl
truth_bits false = refl

turned_bit : (t : Bool) → bit_xor (bit t) 1 ≡ bits (truth_value (not t))
turned_bit true = refl
turned_bit false = refl

not_less : (a b : ℕ) → not (nat_lt b a) ≡ nat_le a b
not_less a b = elim (leb_tells a b) [
  | inl few ↦ let e = le-ltb b a few.1 in let f = few.0 in rw (e, f) refl
  | inr many ↦ let e = lt-ltb b a many.1 in let f = many.0 in rw (e, f) refl
]

no_more : (a b : ℤ) → not (int_lt b a) ≡ int_le a b
no_more (pos a) (pos b) = not_less a b
no_more (pos a) (negsuc b) = refl
no_more (negsuc a) (pos b) = refl
no_more (negsuc a) (negsuc b) = not_less b a

less_is : (a b : ℤ) → FitsSigned w32 a → FitsSigned w32 b → bit (int_lt (int (bits a)) (int (bits b))) ≡ bit (int_lt a b)
less_is a b x y = ap (λ z. bit (int_lt z (int (bits b)))) (words.int-cast_unsigned a x) ∙ ap (λ z. bit (int_lt a z)) (words.int-cast_unsigned b y)

-- equal numbers have equal bits
same_tests : (s t : Bool) → (s ≡ true → t ≡ true) → (t ≡ true → s ≡ true) → s ≡ t
same_tests true t f g = sym (f refl)
same_tests false true f g = g refl
same_tests false false f g = refl

same_bits : (a b : ℤ) → FitsSigned w32 a → FitsSigned w32 b → int_eq a b ≡ (bits a == bits b)
same_bits a b x y = same_tests (int_eq a b) (bits a == bits b) (λ e. eq-eqb (bits a) (bits b) (ap bits ((Decides-int_eq a b).0 e)))
    (λ e. (Decides-int_eq a b).1 (sym (words.int-cast_unsigned a x) ∙ ap int (eqb-true (bits a) (bits b) e) ∙ words.int-cast_unsigned b y))

-- the difference of two words is 0 where they are equal
difference_zero : (m n : ℕ) → m < 2 ^ 32 → n < 2 ^ 32 → bit (nat_lt ((m + (2 ^ 32 - n)) % 2 ^ 32) 1) ≡ bit (m == n)
difference_zero m n p q = elim (eqb_tells m n) [
  | inl same ↦ let i = same.1 in let d : (m + (2 ^ 32 - n)) % 2 ^ 32 ≡ 0 = omega (arith, p, q, i) in let e = same.0 in rw (d, e) refl
  | inr other ↦ let i = other.1 in let d : nat_lt ((m + (2 ^ 32 - n)) % 2 ^ 32) 1 ≡ false = le-ltb _ 1 (omega (arith, p, q, i)) in let e = other.0 in rw (d, e) refl
]

difference_some : (m n : ℕ) → m < 2 ^ 32 → n < 2 ^ 32 → bit (nat_lt 0 ((m + (2 ^ 32 - n)) % 2 ^ 32)) ≡ bit (not (m == n))
difference_some m n p q = elim (eqb_tells m n) [
  | inl same ↦ let i = same.1 in let d : (m + (2 ^ 32 - n)) % 2 ^ 32 ≡ 0 = omega (arith, p, q, i) in let e = same.0 in rw (d, e) refl
  | inr other ↦ let i = other.1 in let d : nat_lt 0 ((m + (2 ^ 32 - n)) % 2 ^ 32) ≡ true = lt-ltb 0 _ (omega (arith, p, q, i)) in let e = other.0 in rw (d, e) refl
]

-- all bits turned
turned_low : (n : ℕ) → n < 2 → bit_xor n 1 ≡ 1 - n
turned_low zero h = refl
turned_low (suc zero) h = refl
turned_low (suc (suc n)) h = absurd (omega (arith, h))

turned_more : (p n : ℕ) → n < 2 * p → bit_xor (n / 2) (p - 1) ≡ p - 1 - n / 2 → bit_xor n (2 * p - 1) ≡ 2 * p - 1 - n
turned_more p n h before =
    let e : n / 2 * 2 + n % 2 ≡ n = omega arith in
    let f : (p - 1) * 2 + 1 ≡ 2 * p - 1 = omega (arith, h) in
    let low = turned_low (n % 2) (omega arith) in
    ap (λ m. bit_xor m (2 * p - 1)) (sym e) ∙ ap (λ m. bit_xor (n / 2 * 2 + n % 2) m) (sym f) ∙ xor_block 1 (n / 2) (p - 1) (n % 2) 1 (omega arith) (omega arith) ∙ omega (arith, before, low, h)

turned_bits : (k n : ℕ) → n < 2 ^ k → bit_xor n (2 ^ k - 1) ≡ 2 ^ k - 1 - n
turned_bits zero n h = let e : n ≡ 0 = omega (arith, h) in rw e refl
turned_bits (suc k) n h =
    let e : 2 ^ suc k ≡ 2 * 2 ^ k = omega arith in
    subst (λ p. bit_xor n (p - 1) ≡ p - 1 - n) (sym e) (turned_more (2 ^ k) n (omega (arith, h, e)) (turned_bits k (n / 2) (omega (arith, h, e))))

flip_is : (a : ℤ) → FitsSigned w32 a → bit_xor (bits a) all_ones ≡ bits (int_bit_not w32 a)
flip_is a x = let h = words.cast_unsigned_below a x in turned_bits 32 (bits a) h ∙ bits_signed (2 ^ 32 - 1 - bits a) (omega arith)

not_is : (a : ℤ) → FitsSigned w32 a → bit (nat_lt (bits a) 1) ≡ bits (truth_value (is_zero a))
not_is (pos zero) x = refl
not_is (pos (suc n)) x = let e : nat_lt (suc n) 1 ≡ false = le-ltb (suc n) 1 (omega arith) in rw e refl
not_is (negsuc n) x = let e : nat_lt (bits (negsuc n)) 1 ≡ false = le-ltb (bits (negsuc n)) 1 (omega (arith, ints, x)) in rw e refl

-- a word that isn't 0 has bits
pub nonzero_bits : (a : ℤ) → FitsSigned w32 a → is_zero a ≡ false → bits a ≢ 0
nonzero_bits (pos zero) x h = absurd (true≢false h)
nonzero_bits (pos (suc n)) x h = λ e. omega (arith, e)
nonzero_bits (negsuc n) x h = λ e. omega (arith, ints, x, e)

pub zero_bits : (a : ℤ) → is_zero a ≡ true → bits a ≡ 0
zero_bits (pos zero) h = refl
zero_bits (pos (suc n)) h = cc h
zero_bits (negsuc n) h = cc h

-- ---- the code

module _ (code : Code) (m : Machine) (zero_is : m.registers reg.ZERO ≡ 0) where
  -- some instructions put the value into VALUE
  abbrev pub Computes : List Operation → ℤ → Type 0
  Computes is v = (n : ℕ) × (t : Machine) × GoesTo code n m t × Sets reg.VALUE (bits v) (4 * length is) m t

  abbrev valued : ℕ → Option Machine
  valued w = Some (machine_with m (with_register m.registers reg.VALUE w) (follow m.counter))

  -- one instruction does, or two
  one : (i : Operation) → link_of i ≡ plain → (v : ℤ) (w : ℕ) → IsCodeAt code m.counter (i ∷ []) → machine_after i m ≡ valued w → w ≡ bits v → Computes (i ∷ []) v
  one i is_plain v w here effect means =
      let below = here.below in
      let ran = sets_by_one code i is_plain reg.VALUE (bits v) m refl (omega (arith, below)) here.there.0 (effect ∙ ap valued means) in
      (1, ran.0, ran.1, ran.2)

  two : (i j : Operation) → link_of i ≡ plain → link_of j ≡ plain → (v : ℤ) (u : ℕ) (f : ℕ → ℕ) → IsCodeAt code m.counter (i ∷ j ∷ []) → machine_after i m ≡ valued u
      → ((t : Machine) → Sets reg.VALUE u 4 m t → machine_after j t ≡ Some (machine_with t (with_register t.registers reg.VALUE (f (t.registers reg.VALUE))) (follow t.counter))) → f u ≡ bits v → Computes (i ∷ j ∷ []) v
  two i j plain_i plain_j v u f here effect next means =
      let below = here.below in
      let ran = sets_by_two code i j plain_i plain_j reg.VALUE u (bits v) m refl (omega (arith, below)) here.there.0 here.there.1.0 effect
      (λ t does. next t does ∙ ap (λ w. Some (machine_with t (with_register t.registers reg.VALUE w) (follow t.counter))) (ap f does.value ∙ means)) in
      (2, ran.0, ran.1, ran.2)

  given : (is : List Operation) (z v : ℤ) → Some z ≡ Some v → Computes is z → Computes is v
  given is z v e ran = subst (Computes is) (same_Some z v e) ran

  -- a unary operator
  pub prefix_runs : (o : Op) (a v : ℤ) → FitsSigned w32 a → m.registers reg.VALUE ≡ bits a → unary_value o a ≡ Some v → IsCodeAt code m.counter (prefix_code o) → Computes (prefix_code o) v
  prefix_runs op.Neg a v x value e here = given (prefix_code op.Neg) _ v e (one _ refl (wrap (pos 0 -ℤ a)) _ here refl (rw (zero_is, value) (ap (λ z. word (pos 0 -ℤ z)) (words.int-cast_unsigned a x) ∙ sym (words.cast_unsigned-wrap (pos 0 -ℤ a)))))
  prefix_runs op.Not a v x value e here = given (prefix_code op.Not) _ v e (one _ refl (truth_value (is_zero a)) _ here refl (rw value (not_is a x)))
  prefix_runs op.Flip a v x value e here = given (prefix_code op.Flip) _ v e (one _ refl (int_bit_not w32 a) _ here refl (rw value (flip_is a x)))
  prefix_runs _ a v x value e here = absurd (none-some v e)

  -- a binary operator
  module _ (a b : ℤ) (x : FitsSigned w32 a) (y : FitsSigned w32 b) (left : m.registers reg.LEFT ≡ bits a) (value : m.registers reg.VALUE ≡ bits b) where
    joined_bits : (f : ℤ → ℤ → ℤ) → word (f (int (bits a)) (int (bits b))) ≡ bits (wrap (f a b))
    joined_bits f = ap (λ z. word (f z (int (bits b)))) (words.int-cast_unsigned a x) ∙ ap (λ z. word (f a z)) (words.int-cast_unsigned b y) ∙ sym (words.cast_unsigned-wrap (f a b))

    joined : (f : ℤ → ℤ → ℤ) → word (f (int (m.registers reg.LEFT)) (int (m.registers reg.VALUE))) ≡ bits (wrap (f a b))
    joined f = rw (left, value) (joined_bits f)

    nonzero : is_zero b ≡ false → (bits b == 0) ≡ false
    nonzero no_zero = ne_eqb (bits b) 0 (nonzero_bits b y no_zero)

    -- an instruction behind the test of a divisor, which passes
    tested : (i : Operation) → link_of i ≡ plain → (v : ℤ) (w : ℕ) → is_zero b ≡ false → IsCodeAt code m.counter (test_divisor ++ i ∷ [])
        → machine_after i (machine_with m m.registers (m.counter + 12)) ≡ Some (machine_with m (with_register m.registers reg.VALUE w) (follow (m.counter + 12))) → w ≡ bits v → Computes (test_divisor ++ i ∷ []) v
    tested i is_plain v w no_zero here effect means =
        let s : Machine = machine_with m m.registers (m.counter + 12) in
        let below = here.below in
        let aligned = here.aligned in
        let up = words.offset_up m.counter 12 (omega (arith, below)) in
        let four : (m.counter + 12) % 4 ≡ 0 = omega (arith, aligned) in
        let differ : (m.registers reg.VALUE == 0) ≡ false = rw (value, nonzero no_zero) refl in
        let first = comes_by_one code (bne reg.VALUE reg.ZERO (pos 12)) refl m s here.there.0 (rw (zero_is, differ, up, four) refl) in
        let e : m.counter + 4 + 4 + 4 ≡ m.counter + 12 = omega arith in
        let ran = sets_by_one code i is_plain reg.VALUE (bits v) s refl (omega (arith, below)) (subst (λ p. code p i) e here.there.1.1.1.0) (effect ∙ ap (λ w. Some (machine_with m (with_register m.registers reg.VALUE w) (follow (m.counter + 12)))) means) in
        let all = runs_behind code 12 1 m ran.0 first ran.1 ran.2 refl in
        (2, all.0, all.1, all.2)

    difference : word (int (m.registers reg.LEFT) -ℤ int (m.registers reg.VALUE)) ≡ (bits a + (2 ^ 32 - bits b)) % 2 ^ 32
    difference = rw (left, value) (words.word-sub (bits a) (bits b) (words.cast_unsigned_below a x) (words.cast_unsigned_below b y))

    quotient : (is : List Operation) (z v : ℤ) (t : Bool) → is_zero b ≡ t → (if t then None else Some z) ≡ Some v → (is_zero b ≡ false → Computes is z) → Computes is v
    quotient is z v true zero_b e ran = absurd (none-some v e)
    quotient is z v false some_b e ran = given is z v e (ran some_b)

    pub operator_runs : (o : Op) (v : ℤ) → binary_value o a b ≡ Some v → IsCodeAt code m.counter (operator_code o) → Computes (operator_code o) v
    operator_runs op.Mul v e here = given (operator_code op.Mul) _ v e (one _ refl (wrap (a *ℤ b)) _ here refl (joined (λ a b. a *ℤ b)))
    operator_runs op.Div v e here = quotient (operator_code op.Div) _ v (is_zero b) refl e (λ no_zero. tested _ refl (wrap (int_div a b)) _ no_zero here refl (rw (left, value, nonzero no_zero) (joined_bits (λ a b. int_div a b))))
    operator_runs op.Rem v e here = quotient (operator_code op.Rem) _ v (is_zero b) refl e (λ no_zero. tested _ refl (wrap (int_rem a b)) _ no_zero here refl (rw (left, value, nonzero no_zero) (joined_bits (λ a b. int_rem a b))))
    operator_runs op.Add v e here = given (operator_code op.Add) _ v e (one _ refl (wrap (a +ℤ b)) _ here refl (joined (λ a b. a +ℤ b)))
    operator_runs op.Sub v e here = given (operator_code op.Sub) _ v e (one _ refl (wrap (a -ℤ b)) _ here refl (joined (λ a b. a -ℤ b)))
    operator_runs op.Shl v e here = given (operator_code op.Shl) _ v e (one _ refl (int_shl w32 a (shift_amount b)) _ here refl (rw (left, value) (shl_is a b y)))
    operator_runs op.Shr v e here = given (operator_code op.Shr) _ v e (one _ refl (int_shr a (shift_amount b)) _ here refl (rw (left, value) (shr_is a b x y)))
    operator_runs op.Lt v e here = given (operator_code op.Lt) _ v e (one _ refl (truth_value (int_lt a b)) _ here refl (rw (left, value) (less_is a b x y ∙ truth_bits (int_lt a b))))
    operator_runs op.Le v e here = given (operator_code op.Le) _ v e (two _ _ refl refl (truth_value (int_le a b)) _ (λ u. bit_xor u 1) here refl (λ t does. refl)
        (rw (left, value) (ap (λ u. bit_xor u 1) (less_is b a y x) ∙ turned_bit (int_lt b a) ∙ ap (λ t. bits (truth_value t)) (no_more a b))))
    operator_runs op.Gt v e here = given (operator_code op.Gt) _ v e (one _ refl (truth_value (int_lt b a)) _ here refl (rw (left, value) (less_is b a y x ∙ truth_bits (int_lt b a))))
    operator_runs op.Ge v e here = given (operator_code op.Ge) _ v e (two _ _ refl refl (truth_value (int_le b a)) _ (λ u. bit_xor u 1) here refl (λ t does. refl)
        (rw (left, value) (ap (λ u. bit_xor u 1) (less_is a b x y) ∙ turned_bit (int_lt a b) ∙ ap (λ t. bits (truth_value t)) (no_more b a))))
    operator_runs op.Eq v e here = given (operator_code op.Eq) _ v e (two _ _ refl refl (truth_value (int_eq a b)) _ (λ u. bit (nat_lt u 1)) here refl (λ t does. refl)
        (ap (λ u. bit (nat_lt u 1)) difference ∙ difference_zero (bits a) (bits b) (words.cast_unsigned_below a x) (words.cast_unsigned_below b y) ∙ truth_bits (bits a == bits b) ∙ ap (λ t. bits (truth_value t)) (sym (same_bits a b x y))))
    operator_runs op.Ne v e here = given (operator_code op.Ne) _ v e (two _ _ refl refl (truth_value (not (int_eq a b))) _ (λ u. bit (nat_lt 0 u)) here refl
        (λ t does. let z : t.registers reg.ZERO ≡ 0 = does.kept reg.ZERO refl ∙ zero_is in rw z refl)
        (ap (λ u. bit (nat_lt 0 u)) difference ∙ difference_some (bits a) (bits b) (words.cast_unsigned_below a x) (words.cast_unsigned_below b y) ∙ truth_bits (not (bits a == bits b)) ∙ ap (λ t. bits (truth_value (not t))) (sym (same_bits a b x y))))
    operator_runs op.And v e here = given (operator_code op.And) _ v e (one _ refl (int_bit_and w32 a b) _ here refl (rw (left, value) (let l = and_le_l (bits a) (bits b) in let h = words.cast_unsigned_below a x in bits_signed (bit_and (bits a) (bits b)) (omega (arith, l, h)))))
    operator_runs op.Xor v e here = given (operator_code op.Xor) _ v e (one _ refl (int_bit_xor w32 a b) _ here refl (rw (left, value) (bits_signed (bit_xor (bits a) (bits b)) (xor_lt 32 (bits a) (bits b) (words.cast_unsigned_below a x) (words.cast_unsigned_below b y)))))
    operator_runs op.Or v e here = given (operator_code op.Or) _ v e (one _ refl (int_bit_or w32 a b) _ here refl (rw (left, value) (bits_signed (bit_or (bits a) (bits b)) (or_lt 32 (bits a) (bits b) (words.cast_unsigned_below a x) (words.cast_unsigned_below b y)))))
    operator_runs _ v e here = absurd (none-some v e)

    -- a division by 0 is at service 7
    pub operator_traps : (o : Op) → binary_value o a b ≡ None → divides o ≡ true → IsCodeAt code m.counter (operator_code o) → (n : ℕ) × (t : Machine) × GoesTo code n m t × code t.counter ecall × (t.registers reg.SERVICE ≡ 7) × (t.registers reg.TICKS ≡ m.registers reg.TICKS)
    operator_traps o e d here = by_operator o e d here
      where
        trap : (i : Operation) → is_zero b ≡ true → IsCodeAt code m.counter (test_divisor ++ i ∷ []) → (n : ℕ) × (t : Machine) × GoesTo code n m t × code t.counter ecall × (t.registers reg.SERVICE ≡ 7) × (t.registers reg.TICKS ≡ m.registers reg.TICKS)
        trap i zero_b here =
            let s : Machine = machine_with m m.registers (m.counter + 4) in
            let below = here.below in
            let same : m.registers reg.VALUE ≡ 0 = value ∙ zero_bits b zero_b in
            let next = follow_is m.counter (omega (arith, below)) in
            let first = comes_by_one code (bne reg.VALUE reg.ZERO (pos 12)) refl m s here.there.0 (rw (zero_is, same, next) refl) in
            let at = code_front code (service (pos 7)) (i ∷ []) (code_back code (bne reg.VALUE reg.ZERO (pos 12) ∷ []) (service (pos 7) ++ i ∷ []) (omega arith) here) in
            let ran = service_runs code 7 s (omega arith) zero_is at in
            (2, ran.0, comes_on code 1 1 m s ran.0 first ran.1, ran.3, ran.2.value, ran.2.kept reg.TICKS refl)

        by_zero : (i : Operation) (z : ℤ) (t : Bool) → is_zero b ≡ t → (if t then None else Some z) ≡ None → IsCodeAt code m.counter (test_divisor ++ i ∷ [])
            → (n : ℕ) × (t : Machine) × GoesTo code n m t × code t.counter ecall × (t.registers reg.SERVICE ≡ 7) × (t.registers reg.TICKS ≡ m.registers reg.TICKS)
        by_zero i z true is e here = trap i is here
        by_zero i z false is e here = absurd (none-some z (sym e))

        by_operator : (o : Op) → binary_value o a b ≡ None → divides o ≡ true → IsCodeAt code m.counter (operator_code o) → (n : ℕ) × (t : Machine) × GoesTo code n m t × code t.counter ecall × (t.registers reg.SERVICE ≡ 7) × (t.registers reg.TICKS ≡ m.registers reg.TICKS)
        by_operator op.Div e d here = by_zero (div reg.VALUE reg.LEFT reg.VALUE) (wrap (int_div a b)) (is_zero b) refl e here
        by_operator op.Rem e d here = by_zero (rem reg.VALUE reg.LEFT reg.VALUE) (wrap (int_rem a b)) (is_zero b) refl e here
        by_operator _ e d here = cc d
