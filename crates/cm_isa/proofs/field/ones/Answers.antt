use Rattle.std.proofs.Common.{◌≡◌, ◌-◌, ◌^◌, ◌≤◌, arith, ap}
use Rattle.std.proofs.lemmas.Nat.Bits.{ones_shr}
use Rattle.std.proofs.lemmas.Nat.{pow_pos}
use Rattle.cm_isa.proofs.field.ones.Goals as goal

pub returns : goal.returns
returns c =
    let within : 32 - c.args.width ≤ 32 = omega arith in
    let same : 32 - (32 - c.args.width) ≡ c.args.width = omega arith in
    let power : 2 ^ (32 - (32 - c.args.width)) ≡ 2 ^ c.args.width = ap (λ k. 2 ^ k) same in
    omega (arith, ones_shr 32 (32 - c.args.width) within, power, pow_pos c.args.width)
