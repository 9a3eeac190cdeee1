-- The operators of the source language on words. What each gives is said on whole numbers, and brought back into
-- the range of a word.
use Rattle.std.specs.Prelude.{ℕ, zero, ℤ, pos, negsuc, ◌+ℤ◌, ◌-ℤ◌, ◌*ℤ◌, Bool, true, false, not, if◌then◌else◌, Option, None, Some, int_lt, int_le, int_div, int_rem}
use Rattle.std.specs.Int.{w32, int_rem_euclid, int_shl, int_shr, int_bit_and, int_bit_or, int_bit_xor, int_bit_not}
use Rattle.std.specs.Ordering.{int_eq}
use Rattle.cm_syntax.specs.declared.expr.Op.{Op}
use Rattle.cm_syntax.specs.declared.expr.Op.TheVariants as op
use Rattle.cm_syntax.specs.Word.{wrap}

-- whether a word is 0; every other word counts as true
abbrev pub is_zero : ℤ → Bool
is_zero (pos zero) = true
is_zero _ = false

-- 1 for true and 0 for false
abbrev pub truth_value : Bool → ℤ
truth_value b = if b then pos 1 else pos 0

-- the natural number that a word is, and 0 for a negative one
abbrev pub natural : ℤ → ℕ
natural (pos n) = n
natural (negsuc n) = 0

-- by how much a shift shifts: the low five bits of its right operand
abbrev pub shift_amount : ℤ → ℕ
shift_amount v = natural (int_rem_euclid v (pos 32))

-- What a binary operator gives of its left and its right operand. `/` and `%` truncate towards zero and have no
-- value where the right operand is 0; `&&` and `||` have none here, since they may stop early.
abbrev pub binary_value : Op → (left right : ℤ) → Option ℤ
binary_value op.Mul a b = Some (wrap (a *ℤ b))
binary_value op.Div a b = if is_zero b then None else Some (wrap (int_div a b))
binary_value op.Rem a b = if is_zero b then None else Some (wrap (int_rem a b))
binary_value op.Add a b = Some (wrap (a +ℤ b))
binary_value op.Sub a b = Some (wrap (a -ℤ b))
binary_value op.Shl a b = Some (int_shl w32 a (shift_amount b))
binary_value op.Shr a b = Some (int_shr a (shift_amount b))
binary_value op.Lt a b = Some (truth_value (int_lt a b))
binary_value op.Le a b = Some (truth_value (int_le a b))
binary_value op.Gt a b = Some (truth_value (int_lt b a))
binary_value op.Ge a b = Some (truth_value (int_le b a))
binary_value op.Eq a b = Some (truth_value (int_eq a b))
binary_value op.Ne a b = Some (truth_value (not (int_eq a b)))
binary_value op.And a b = Some (int_bit_and w32 a b)
binary_value op.Xor a b = Some (int_bit_xor w32 a b)
binary_value op.Or a b = Some (int_bit_or w32 a b)
binary_value _ a b = None

-- an operator that has no value where its right operand is 0
abbrev pub divides : Op → Bool
divides op.Div = true
divides op.Rem = true
divides _ = false

-- what a unary operator gives of its operand
abbrev pub unary_value : Op → (operand : ℤ) → Option ℤ
unary_value op.Neg a = Some (wrap (pos 0 -ℤ a))
unary_value op.Not a = Some (truth_value (is_zero a))
unary_value op.Flip a = Some (int_bit_not w32 a)
unary_value _ a = None
