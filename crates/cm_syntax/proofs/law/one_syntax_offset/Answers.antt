use Rattle.cm_syntax.proofs.refusing.RefusalLaw.{Syntax-one}
use Rattle.cm_syntax.proofs.law.one_syntax_offset.Goals as goal

pub returns : goal.returns
returns c = Syntax-one
