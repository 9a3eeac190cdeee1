use Rattle.std.proofs.Common.{◌≡◌, ℕ, zero, suc, ap, ◌∙◌, sym, refl, arith, slice_index, replicate, length, Some}
use Rattle.cm_isa.specs.Register.{with_register}
use Rattle.cm_isa.proofs.Machine.{put_result_register}
use Rattle.cm_isa.specs.declared.convention.TheConstants as reg
use Rattle.cm_gen.specs.Run.{stack_top}
use Rattle.cm_strand.proofs.root.start_regs.Goals as goal

-- registers of 0
zeros : (n r : ℕ) → 0 ≡ slice_index (replicate n 0) r
zeros zero r = refl
zeros (suc n) zero = refl
zeros (suc n) (suc r) = zeros n r

pub returns : goal.returns
returns c =
    let none : (λ (r : ℕ). 0) ≡ slice_index c.zero-regs.result = (λ i r. zeros 32 r i) ∙ ap slice_index (sym c.zero-regs.ensures) in
    let count = ap length c.zero-regs.ensures in let first = c.set.ensures.shape.count in let second = c.set-2.ensures.shape.count in
    ap (λ f. with_register (with_register (with_register f reg.SP stack_top) reg.ACCOUNT c.args.account) reg.TICKS c.args.ticks)
    none
    ∙ ap (λ f. with_register (with_register f reg.ACCOUNT c.args.account) reg.TICKS c.args.ticks)
    (sym (put_result_register c.zero-regs.result reg.SP (Some stack_top) (omega (arith, count))) ∙ ap slice_index (sym c.set.ensures.value))
    ∙ ap (λ f. with_register f reg.TICKS c.args.ticks)
    (sym (put_result_register c.set.new.self reg.ACCOUNT (Some c.args.account) (omega (arith, first))) ∙ ap slice_index (sym c.set-2.ensures.value))
    ∙ sym (put_result_register c.set-2.new.self reg.TICKS (Some c.args.ticks) (omega (arith, second))) ∙ ap slice_index (sym c.set-3.ensures.value)
