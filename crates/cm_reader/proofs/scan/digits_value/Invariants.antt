use Rattle.std.proofs.Common.{◌≡◌, ◌≤◌, min, drop}
use Rattle.std.specs.Str.Parse.{digits_value, digits_value_after}
use Rattle.cm_reader.proofs.scan.digits_value.Given as goal

-- with the digits that are left, the value so far comes to the whole
abbrev pub invariant-loop-digit : goal.invariant-loop-digit
invariant-loop-digit l =
    (l.value ≤ 2147483648) × (min (digits_value_after 10 l.value (drop l.digit-index l.digits)) 2147483648 ≡ min (digits_value 10 l.digits) 2147483648)
