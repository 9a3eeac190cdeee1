use Rattle.std.proofs.Common.{refl}
use Rattle.cm_syntax.proofs.parser.SourceText.{has_function}
use Rattle.cm_syntax.proofs.law.updates_of_source.Goals as goal

pub returns : goal.returns
returns c = has_function refl
