-- Laws of words as numbers below 2 ^ 32.
use Rattle.std.proofs.Common.{◌≡◌, ◌*◌, ◌%◌, ◌^◌, ◌<◌, ℕ, ℤ, pos, negsuc, ◌*ℤ◌, arith, ap, sym, ◌∙◌}
use Rattle.std.proofs.lemmas.Int.{of_z-to_z, wrapping_mul-bits}
use Rattle.std.specs.Int.{w32, cast_unsigned, int_wrap}
use Rattle.cm_isa.specs.Alu.{int, word}

-- a word is below 2 ^ 32
pub word_small : (z : ℤ) → word z < 2 ^ 32
word_small (pos n) = omega arith
word_small (negsuc n) = omega arith

-- the low word of a product is the same for signed and unsigned numbers
pub low_product : (m n : ℕ) → m < 2 ^ 32 → n < 2 ^ 32 → (m * n) % 2 ^ 32 ≡ word (int m *ℤ int n)
unfolding int_wrap
low_product m n p q =
    let small : (m * n) % 2 ^ 32 < 2 ^ 32 = omega arith in
    sym (of_z-to_z w32 ((m * n) % 2 ^ 32) small)
    ∙ ap (cast_unsigned w32) (wrapping_mul-bits w32 m n p q)
    ∙ of_z-to_z w32 (word (int m *ℤ int n)) (word_small (int m *ℤ int n))
