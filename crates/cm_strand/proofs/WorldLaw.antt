-- What is known of a world's pieces and of its code.
use Rattle.std.proofs.Common.{ℕ}
use Rattle.std.specs.Prelude.{◌*◌}
use Rattle.cm_meaning.specs.Meaning.{Piece, begun, main_ask}
use Rattle.cm_strand.specs.Law.{World}
use Rattle.cm_strand.proofs.FactLaw.{CodeFacts, code_facts}
use Rattle.cm_strand.proofs.KnownLaw.{KnownFacts, known}

-- the pages' bytes of the stack, and main's piece
abbrev pub limit_of : World → ℕ
limit_of w = w.limits.stack * w.limits.page

abbrev pub first_of : World → Piece
first_of w = begun (main_ask w.program w.limits)

pub known_of : (w : World) → KnownFacts w.program w.limits.page (limit_of w) w.input (first_of w)
known_of w = known w.program w.limits w.input w.runs w.accepted w.small

pub code_of : (w : World) → CodeFacts w.program w.limits.page (limit_of w) w.input w.image
code_of w = code_facts w.program w.limits.page (limit_of w) w.input w.image w.runs w.compiled
