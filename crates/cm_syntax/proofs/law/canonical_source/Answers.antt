use Rattle.cm_syntax.proofs.printing.ProgramPrinting.{canonical_reads_back}
use Rattle.cm_syntax.proofs.law.canonical_source.Goals as goal

pub returns : goal.returns
returns c = canonical_reads_back
