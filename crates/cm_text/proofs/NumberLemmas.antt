-- A number is ASCII, and so it is text.
use Rattle.std.proofs.Common.{◌≡◌, ◌<◌, ℕ, List, [], ◌∷◌, Bool, true, false, nat_eq, arith, zero, suc, refl, if◌then◌else◌}
use Rattle.std.proofs.lemmas.Bool.Decides.{nat_tests}
use Rattle.std.proofs.lemmas.Str.{IsUtf8-from_ascii}
use Rattle.std.proofs.lemmas.Fmt.{IsAscii-from_digits}
use Rattle.std.specs.Str.{IsAscii, IsUtf8}
use Rattle.std.specs.Str.Parse.{IsNumeral}
use Rattle.cm_text.specs.Numeral.{IsNumber}

IsAscii-cons : (c : ℕ) (cs : List ℕ) → c < 128 → IsAscii cs → IsAscii (c ∷ cs)
IsAscii-cons c cs first rest zero = first
IsAscii-cons c cs first rest (suc i) = rest i

IsAscii-signed : (c : ℕ) (cs : List ℕ) (minus : Bool) → nat_eq c 45 ≡ minus → IsNumeral 10 (if minus then cs else c ∷ cs) → IsAscii (c ∷ cs)
IsAscii-signed c cs true is digits = let small : c < 128 = grind (arith, nat_tests) in IsAscii-cons c cs small (IsAscii-from_digits cs digits.1)
IsAscii-signed c cs false is digits = IsAscii-from_digits (c ∷ cs) digits.1

pub IsUtf8-from_number : (bytes : List ℕ) → IsNumber bytes → IsUtf8 bytes
IsUtf8-from_number [] number = let none : 0 < 0 = number.0.0 in absurd (omega arith)
IsUtf8-from_number (c ∷ cs) number = IsUtf8-from_ascii (c ∷ cs) (IsAscii-signed c cs (nat_eq c 45) refl number.0)
