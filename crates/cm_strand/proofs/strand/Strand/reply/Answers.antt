use Rattle.cm_strand.proofs.SeenLaw.{replied}
use Rattle.cm_strand.proofs.strand.Strand.reply.Goals as goal

pub returns-clause-strand : goal.returns-clause-strand
returns-clause-strand c = λ S h. replied c.args.self.now S c.args.word c.reply.new.self h c.read_registers.ensures c.reply.ensures.hart
