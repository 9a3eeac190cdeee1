-- How the source and the input grow by one index.
use Rattle.std.proofs.Common.{◌≡◌, ℕ, zero, suc, ◌+◌, ◌*◌, ◌/◌, ◌%◌, List, ◌++◌, ap, ◌∙◌, sym, refl, arith, add-one}
use Rattle.cm_big.specs.Draw.{next_value, value_after}
use Rattle.cm_big.specs.Source.{each, function_line, function_lines}

-- one index more
pub each_more : {A : Type 0} (count : ℕ) (part : ℕ → List A) → each (count + 1) part ≡ each count part ++ part count
each_more count part = rw add-one refl

-- one value more
pub value_more : (count value : ℕ) → value_after (suc count) value ≡ next_value (value_after count value)
value_more zero value = refl
value_more (suc count) value = value_more count (next_value value)

-- one function more, by the two values that are next
pub function_more : (value index first second : ℕ) → first ≡ next_value (value_after (2 * index) value) → second ≡ next_value first
    → (function_lines value (index + 1) ≡ function_lines value index ++ function_line index (first / 65536 % 100) (second / 65536 % 100))
    × (value_after (2 * (index + 1)) value ≡ second)
function_more value index first second one two =
    let first_is : value_after (suc (2 * index)) value ≡ first = value_more (2 * index) value ∙ sym one in
    let second_is : value_after (suc (2 * index + 1)) value ≡ second =
    value_more (2 * index + 1) value ∙ ap next_value (rw add-one first_is) ∙ sym two in
    let twice : 2 * (index + 1) ≡ suc (2 * index + 1) = omega arith in
    (each_more index _ ∙ rw (first_is, second_is) refl, rw twice second_is)
