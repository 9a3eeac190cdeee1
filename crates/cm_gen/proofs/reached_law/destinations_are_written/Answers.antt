use Rattle.std.specs.Prelude.{◌*◌}
use Rattle.cm_gen.proofs.reached_law.destinations_are_written.Goals as goal
use Rattle.cm_gen.proofs.pieces.PieceLaw.{reached_child}
use Rattle.cm_gen.proofs.pieces.DestinationLaw.{settled_holds, has_address}

pub returns-clause-settled : goal.returns-clause-settled
returns-clause-settled c = λ program input limits p d own x joined ask r out u n w frames mapped runs accepted reached note f shape held.
    settled_holds program limits.page (limits.stack * limits.page) input runs (reached_child program input limits runs accepted p reached note) frames mapped f shape held

pub returns-clause-address : goal.returns-clause-address
returns-clause-address c = λ program input limits p d own x joined ask r frames runs accepted fits reached note shape.
    has_address program limits.page (limits.stack * limits.page) input runs (reached_child program input limits runs accepted p reached note) frames fits shape
