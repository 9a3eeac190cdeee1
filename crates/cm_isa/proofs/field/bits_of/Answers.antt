use Rattle.std.proofs.Common.{◌≡◌, ◌+◌, ◌-◌, ◌/◌, ◌%◌, ◌^◌, ℕ, arith, bit_and}
use Rattle.std.proofs.lemmas.Nat.{and_mask, pow_pos}
use Rattle.cm_isa.proofs.field.bits_of.Goals as goal

-- a mask of the lowest bits takes the remainder
masked : (n m k : ℕ) → m + 1 ≡ 2 ^ k → bit_and n m ≡ n % 2 ^ k
masked n m k e =
    let mask : m ≡ 2 ^ k - 1 = omega arith in
    rw mask (and_mask n k)

pub returns-clause-value : goal.returns-clause-value
returns-clause-value c = masked (c.args.word / 2 ^ c.args.low) _ _ c.ones.ensures

pub returns-clause-small : goal.returns-clause-small
returns-clause-small c =
    rw (masked (c.args.word / 2 ^ c.args.low) _ _ c.ones.ensures)
    (omega (arith, pow_pos (c.args.high + 1 - c.args.low)))
