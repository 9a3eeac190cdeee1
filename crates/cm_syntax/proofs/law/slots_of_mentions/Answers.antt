use Rattle.cm_syntax.proofs.naming.NameLaw.{ResolvesTo-slot}
use Rattle.cm_syntax.proofs.law.slots_of_mentions.Goals as goal

pub returns : goal.returns
returns c = ResolvesTo-slot
