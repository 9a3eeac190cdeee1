use Rattle.cm_strand.proofs.answer.merge.Goals as goal

pub returns-clause-strand : goal.returns-clause-strand
returns-clause-strand c = λ S h H aside words at none. record {
  registers = h.registers;
  counter = h.counter;
  start = h.start;
  log = c.fill.ensures S.log h.log H aside at none;
  scopes = h.scopes;
  course = h.course;
}
