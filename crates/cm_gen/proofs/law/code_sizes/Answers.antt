use Rattle.cm_gen.proofs.sizes.SizeLaw.{size-statement, size-body}
use Rattle.cm_gen.proofs.law.code_sizes.Goals as goal

pub returns-clause-statement : goal.returns-clause-statement
returns-clause-statement c = size-statement

pub returns-clause-body : goal.returns-clause-body
returns-clause-body c = size-body
