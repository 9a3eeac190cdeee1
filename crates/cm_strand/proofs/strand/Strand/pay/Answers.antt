use Rattle.std.proofs.Common.{ap, ◌∙◌, sym, arith, ◌-◌, slice_index}
use Rattle.cm_isa.specs.Register.{with_register, put}
use Rattle.cm_isa.specs.declared.convention.TheConstants as reg
use Rattle.cm_strand.specs.Strand.{done_ticks}
use Rattle.cm_strand.proofs.SeenLaw.{with_put}
use Rattle.cm_strand.proofs.LogLaw.{done_goes_on}
use Rattle.cm_strand.proofs.strand.Strand.pay.Goals as goal

pub overflow_sub-left : goal.overflow_sub-left
overflow_sub-left c =
    let (S, H, e, aside, words, h, at, none, done, fits) = c.requires in
    let ticks = (c.pay-ticks.ensures S.log H e aside h.log at none done).1 in
    let left = c.get-left.ensures.value ∙ ap (λ f. f reg.TICKS) (sym h.registers) in omega (arith, ticks, left, fits)

pub returns-clause-strand : goal.returns-clause-strand
returns-clause-strand c = λ S H e aside words h at none done on.
    let paid = c.pay-ticks.ensures S.log H e aside h.log at none done in
    let rs = c.args.self.now.hart.regs in record {
      registers = ap (λ f. with_register f reg.TICKS (f reg.TICKS - done_ticks e)) h.registers
          ∙ with_put rs reg.TICKS (slice_index rs reg.TICKS - done_ticks e) c.read_registers.ensures (omega arith)
          ∙ ap slice_index ((λ i. put rs reg.TICKS (sym c.get-left.ensures.value i - sym paid.1 i)) ∙ sym c.set.ensures.value);
      counter = h.counter;
      start = h.start;
      log = paid.0;
      scopes = h.scopes;
      course = done_goes_on e done ∙ sym on ∙ h.course;
    }
