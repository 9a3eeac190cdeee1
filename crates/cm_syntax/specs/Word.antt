-- The words of the source language and its operators on them.
-- A word is a whole number from -2^31 to 2^31 - 1, in two's complement.
use Rattle.std.specs.Prelude.{ℤ, ◌+ℤ◌, ◌-ℤ◌, ◌*ℤ◌, Option, None, Some, FitsSigned}
use Rattle.std.specs.Int.{w32, int_wrap}
use Rattle.cm_syntax.specs.declared.expr.Op.{Op}
use Rattle.cm_syntax.specs.declared.expr.Op.TheVariants.{Mul, Add, Sub}

-- a whole number that is a word
abbrev pub IsWord : ℤ → Type 0
IsWord z = FitsSigned w32 z

-- a whole number brought back into the range of a word, modulo 2^32
abbrev pub wrap : ℤ → ℤ
wrap z = int_wrap w32 z

-- what an operator of those that have code today gives of its left and its right operand
abbrev pub apply_operator : Op → ℤ → ℤ → Option ℤ
apply_operator Mul left right = Some (wrap (left *ℤ right))
apply_operator Add left right = Some (wrap (left +ℤ right))
apply_operator Sub left right = Some (wrap (left -ℤ right))
apply_operator _ left right = None
