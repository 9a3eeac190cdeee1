use Rattle.cm_strand.proofs.FallLaw.{hole_of_fall}
use Rattle.cm_strand.proofs.ending.decide.Goals as goal

pub child_end-requires-clause-hole : goal.child_end-requires-clause-hole
child_end-requires-clause-hole c =
    let (log, same, is) = c.requires in hole_of_fall c.args.fall c.in-Trapped.hole c.in-Trapped.ticks c.in-Trapped.kind log c.args.output c.in-Trapped.is same is
