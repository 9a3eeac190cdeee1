-- What operators give is a word.
use Rattle.std.proofs.lemmas.Option.{same_Some, none-some}
use Rattle.std.proofs.Common.{◌≡◌, ℕ, ◌<◌, ◌^◌, subst, arith, of_z, to_z}
use Rattle.std.specs.Prelude.{Bool, true, false, ℤ, pos, negsuc, None, Some, FitsSigned, if◌then◌else◌}
use Rattle.std.specs.Int.{w32, int_shr}
use Rattle.std.proofs.lemmas.Int.{ints, SFits-int_wrap}
use Rattle.std.proofs.lemmas.Nat.{shr_le, and_le_l, xor_of_32, or_of_32}
use Rattle.cm_syntax.specs.declared.expr.Op.{Op}
use Rattle.cm_syntax.specs.declared.expr.Op.TheVariants as op
use Rattle.cm_syntax.specs.Operator.{truth_value, is_zero, binary_value, unary_value, shift_amount}

-- a number that is less than half of the range
pub natural_fits : (n : ℕ) → n < 2 ^ 31 → FitsSigned w32 (pos n)
natural_fits n l = omega (arith, ints, l)

truth_fits : (b : Bool) → FitsSigned w32 (truth_value b)
truth_fits true = natural_fits 1 (omega arith)
truth_fits false = natural_fits 0 (omega arith)

bits_fit : (n : ℕ) → n < 2 ^ 32 → FitsSigned w32 (to_z w32 n)
bits_fit n l = omega (arith, ints, l)

bits_below : (v : ℤ) → FitsSigned w32 v → of_z w32 v < 2 ^ 32
bits_below (pos n) h = omega (arith, ints, h)
bits_below (negsuc n) h = omega (arith, ints, h)

shifted_fits : (a : ℤ) (k : ℕ) → FitsSigned w32 a → FitsSigned w32 (int_shr a k)
shifted_fits (pos n) k h = let less = shr_le n k in omega (arith, ints, h, less)
shifted_fits (negsuc n) k h = let less = shr_le n k in omega (arith, ints, h, less)

given : (v w : ℤ) → FitsSigned w32 v → Some v ≡ Some w → FitsSigned w32 w
given v w h e = subst (FitsSigned w32) (same_Some v w e) h

divided_fits : (q : Bool) (v w : ℤ) → FitsSigned w32 v → (if q then None else Some v) ≡ Some w → FitsSigned w32 w
divided_fits true v w h e = absurd (none-some w e)
divided_fits false v w h e = given v w h e

-- what a binary operator gives
pub binary_fits : (o : Op) (a b v : ℤ) → FitsSigned w32 a → FitsSigned w32 b → binary_value o a b ≡ Some v → FitsSigned w32 v
binary_fits op.Mul a b v x y e = given _ v (SFits-int_wrap w32 _) e
binary_fits op.Div a b v x y e = divided_fits (is_zero b) _ v (SFits-int_wrap w32 _) e
binary_fits op.Rem a b v x y e = divided_fits (is_zero b) _ v (SFits-int_wrap w32 _) e
binary_fits op.Add a b v x y e = given _ v (SFits-int_wrap w32 _) e
binary_fits op.Sub a b v x y e = given _ v (SFits-int_wrap w32 _) e
binary_fits op.Shl a b v x y e = given _ v (bits_fit _ (omega arith)) e
binary_fits op.Shr a b v x y e = given _ v (shifted_fits a (shift_amount b) x) e
binary_fits op.Lt a b v x y e = given _ v (truth_fits _) e
binary_fits op.Le a b v x y e = given _ v (truth_fits _) e
binary_fits op.Gt a b v x y e = given _ v (truth_fits _) e
binary_fits op.Ge a b v x y e = given _ v (truth_fits _) e
binary_fits op.Eq a b v x y e = given _ v (truth_fits _) e
binary_fits op.Ne a b v x y e = given _ v (truth_fits _) e
binary_fits op.And a b v x y e = given _ v (bits_fit _ (let less = and_le_l (of_z w32 a) (of_z w32 b) in omega (arith, less, bits_below a x))) e
binary_fits op.Xor a b v x y e = given _ v (bits_fit _ (xor_of_32 (of_z w32 a) (of_z w32 b) (bits_below a x) (bits_below b y))) e
binary_fits op.Or a b v x y e = given _ v (bits_fit _ (or_of_32 (of_z w32 a) (of_z w32 b) (bits_below a x) (bits_below b y))) e
binary_fits _ a b v x y e = absurd (none-some v e)

-- what a unary operator gives
pub unary_fits : (o : Op) (a v : ℤ) → FitsSigned w32 a → unary_value o a ≡ Some v → FitsSigned w32 v
unary_fits op.Neg a v x e = given _ v (SFits-int_wrap w32 _) e
unary_fits op.Not a v x e = given _ v (truth_fits _) e
unary_fits op.Flip a v x e = given _ v (bits_fit _ (omega arith)) e
unary_fits _ a v x e = absurd (none-some v e)
