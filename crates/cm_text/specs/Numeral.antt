-- The numbers of standard input.
use Rattle.std.specs.Prelude.{ℕ, ℤ, pos, neg_ℤ, List, drop, slice_index, Bool, ◌==◌, if◌then◌else◌, FitsSigned}
use Rattle.std.specs.Int.{w32}
use Rattle.std.specs.Str.Parse.{IsNumeral, digits_value}

-- the bytes begin with '-'
abbrev pub has_minus : List ℕ → Bool
has_minus bytes = slice_index bytes 0 == 45

-- the bytes after an optional '-'
abbrev pub digits_of : List ℕ → List ℕ
digits_of bytes = if has_minus bytes then drop 1 bytes else bytes

-- the value that a '-' and decimal digits write
abbrev pub number_value : List ℕ → ℤ
number_value bytes =
    if has_minus bytes then neg_ℤ (pos (digits_value 10 (digits_of bytes))) else pos (digits_value 10 (digits_of bytes))

-- an optional '-', then one or more decimal digits, with a value from -2147483648 to 2147483647
abbrev pub IsNumber : List ℕ → Type 0
IsNumber bytes = IsNumeral 10 (digits_of bytes) × FitsSigned w32 (number_value bytes)
