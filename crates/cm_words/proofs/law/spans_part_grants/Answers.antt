use Rattle.cm_words.proofs.HeldLaw.{parted_places, halved_places, cut_sums, half_sums}
use Rattle.cm_words.proofs.law.spans_part_grants.Goals as goal

pub returns-clause-parted : goal.returns-clause-parted
returns-clause-parted c = parted_places

pub returns-clause-halved : goal.returns-clause-halved
returns-clause-halved c = halved_places

pub returns-clause-parts : goal.returns-clause-parts
returns-clause-parts c = cut_sums

pub returns-clause-halves : goal.returns-clause-halves
returns-clause-halves c = half_sums
