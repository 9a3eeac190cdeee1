use Rattle.cm_syntax.proofs.parser.takes.Reached.{one_count}
use Rattle.cm_syntax.proofs.law.one_count.Goals as goal

pub returns : goal.returns
returns c = one_count
