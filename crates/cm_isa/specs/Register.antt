-- The registers, as a list of words in the code and as a function in the laws (RISC-V Unprivileged ISA, RV32I 2.1).
use Rattle.std.specs.Prelude.{◌≡◌, ℕ, ◌<◌, ◌^◌, List, length, ◌==◌, if◌then◌else◌, Option, Some, None, slice_index, slice_set}

-- 32 words, of which the first is 0
pub record IsRegisters (rs : List ℕ) : Type 0 where
  pub count : length rs ≡ 32
  pub first : slice_index rs 0 ≡ 0
  pub words : (r : ℕ) → slice_index rs r < 2 ^ 32

-- a register takes a word; register 0 stays 0
abbrev pub put : List ℕ → (register word : ℕ) → List ℕ
put rs register word = if register == 0 then rs else slice_set rs register word

-- a register takes a word, if there is one
abbrev pub put_result : List ℕ → (register : ℕ) → Option ℕ → List ℕ
put_result rs register (Some word) = put rs register word
put_result rs register None = rs

-- the same of registers as a function; register 0 stays as it is
abbrev pub with_register : (ℕ → ℕ) → (register word : ℕ) → ℕ → ℕ
with_register registers rd word r = if rd == 0 then registers r else if r == rd then word else registers r

abbrev pub with_result : (ℕ → ℕ) → (register : ℕ) → Option ℕ → ℕ → ℕ
with_result registers rd (Some word) = with_register registers rd word
with_result registers rd None = registers
