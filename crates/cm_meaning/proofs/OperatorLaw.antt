-- What the code's operators on words give.
use Rattle.std.proofs.Common.{◌≡◌, ℕ, zero, suc, ◌-◌, ◌%◌, ◌/◌, ◌^◌, ◌<◌, ◌≤◌, refl, sym, ap, ◌∙◌, subst, arith, of_z, to_z}
use Rattle.std.specs.Prelude.{Bool, true, ℤ, pos, negsuc, neg_ℤ, ◌-ℤ◌, FitsSigned, int_div, unsigned_abs}
use Rattle.std.specs.Int.{w32, int_wrap, int_wrapping_div, int_wrapping_neg, int_shl, int_shr}
use Rattle.std.proofs.lemmas.Int.{ints, to_z-of_z, SFits-int_wrap, wrapping_neg_is}
use Rattle.std.proofs.Math.Nat.{div-le_self}
use Rattle.cm_syntax.specs.Word.{wrap}
use Rattle.cm_syntax.specs.Operator.{natural, shift_amount}
use Rattle.cm_syntax.specs.Step.{is_index}
use Rattle.cm_meaning.proofs.EvaluatorLaw.{index_is}

-- a number of no more bits is brought back by its bits
wrapped_bits : (z : ℤ) → unsigned_abs z < 2 ^ 32 → to_z w32 (of_z w32 z) ≡ wrap z
unfolding int_wrap
wrapped_bits (pos n) h = let e : n % 2 ^ 32 ≡ n = omega arith in ap (to_z w32) (sym e)
wrapped_bits (negsuc n) h = let e : 2 ^ 32 - 1 - n % 2 ^ 32 ≡ 2 ^ 32 - suc n = omega arith in ap (to_z w32) (sym e)

abs_neg : (n : ℕ) → unsigned_abs (neg_ℤ (pos n)) ≡ n
abs_neg zero = refl
abs_neg (suc n) = refl

-- a quotient is no greater than what is divided
quotient_small : (a b : ℤ) → unsigned_abs (int_div a b) ≤ unsigned_abs a
quotient_small (pos a) (pos b) = div-le_self a b
quotient_small (pos a) (negsuc b) = subst (λ n. n ≤ a) (sym (abs_neg (a / suc b))) (div-le_self a (suc b))
quotient_small (negsuc a) (pos b) = subst (λ n. n ≤ suc a) (sym (abs_neg (suc a / b))) (div-le_self (suc a) b)
quotient_small (negsuc a) (negsuc b) = div-le_self (suc a) (suc b)

-- a quotient by its bits
pub quotient_is : (a b q : ℤ) → FitsSigned w32 a → FitsSigned w32 b → q ≡ int_wrapping_div w32 (to_z w32 (of_z w32 a)) (to_z w32 (of_z w32 b))
    → to_z w32 (of_z w32 q) ≡ wrap (int_div a b)
quotient_is a b q fa fb is =
    let low : unsigned_abs (int_div a b) < 2 ^ 32 = omega (arith, ints, quotient_small a b, fa) in
    let one : q ≡ wrap (int_div a b) = is ∙ ap (λ x. int_wrapping_div w32 x (to_z w32 (of_z w32 b))) (to_z-of_z w32 a fa)
    ∙ ap (int_wrapping_div w32 a) (to_z-of_z w32 b fb) ∙ wrapped_bits (int_div a b) low in
    ap (λ x. to_z w32 (of_z w32 x)) one ∙ to_z-of_z w32 (wrap (int_div a b)) (SFits-int_wrap w32 (int_div a b))

pub negative_is : (a n : ℤ) → FitsSigned w32 a → n ≡ int_wrapping_neg w32 (to_z w32 (of_z w32 a)) → to_z w32 (of_z w32 n) ≡ wrap (pos 0 -ℤ a)
negative_is a n fa is =
    let minus : neg_ℤ a ≡ pos 0 -ℤ a = omega (arith, ints) in
    let one : n ≡ wrap (pos 0 -ℤ a) = is ∙ ap (int_wrapping_neg w32) (to_z-of_z w32 a fa) ∙ wrapping_neg_is w32 a fa ∙ ap wrap minus in
    ap (λ x. to_z w32 (of_z w32 x)) one ∙ to_z-of_z w32 (wrap (pos 0 -ℤ a)) (SFits-int_wrap w32 (pos 0 -ℤ a))

-- the low five bits of a word
pub shift_bits : (v : ℤ) → FitsSigned w32 v → of_z w32 v % 32 ≡ shift_amount v
shift_bits (pos n) h = refl
shift_bits (negsuc n) h = omega (arith, ints, h)

pub left_shift_is : (a b r : ℤ) (n : ℕ) → FitsSigned w32 a → FitsSigned w32 b → FitsSigned w32 r → n ≡ of_z w32 (to_z w32 (of_z w32 b))
    → r ≡ int_shl w32 (to_z w32 (of_z w32 a)) (n % 32) → to_z w32 (of_z w32 r) ≡ int_shl w32 a (shift_amount b)
left_shift_is a b r n fa fb fr bits is = to_z-of_z w32 r fr ∙ is ∙ ap (λ x. int_shl w32 x (n % 32)) (to_z-of_z w32 a fa)
    ∙ ap (int_shl w32 a) (ap (λ x. x % 32) (bits ∙ ap (of_z w32) (to_z-of_z w32 b fb)) ∙ shift_bits b fb)

pub right_shift_is : (a b r : ℤ) (n : ℕ) → FitsSigned w32 a → FitsSigned w32 b → FitsSigned w32 r → n ≡ of_z w32 (to_z w32 (of_z w32 b))
    → r ≡ int_shr (to_z w32 (of_z w32 a)) (n % 32) → to_z w32 (of_z w32 r) ≡ int_shr a (shift_amount b)
right_shift_is a b r n fa fb fr bits is = to_z-of_z w32 r fr ∙ is ∙ ap (λ x. int_shr x (n % 32)) (to_z-of_z w32 a fa)
    ∙ ap (int_shr a) (ap (λ x. x % 32) (bits ∙ ap (of_z w32) (to_z-of_z w32 b fb)) ∙ shift_bits b fb)

-- ---- indices as the code has them

pub index_true : (v : ℤ) (count : ℕ) (b : Bool) → FitsSigned w32 v → b ≡ is_index (to_z w32 (of_z w32 v)) count → b ≡ true → is_index v count ≡ true
index_true v count b fits is holds = ap (λ z. is_index z count) (sym (to_z-of_z w32 v fits)) ∙ sym is ∙ holds

pub index_number : (v : ℤ) (count : ℕ) → FitsSigned w32 v → is_index v count ≡ true → unsigned_abs (to_z w32 (of_z w32 v)) ≡ natural v
index_number v count fits within = let n = index_is v count within in
    ap unsigned_abs (to_z-of_z w32 v fits ∙ n.1) ∙ sym (ap natural n.1)
