use Rattle.cm_strand.proofs.WorldLaw.{limit_of, first_of, known_of, code_of}
use Rattle.cm_strand.proofs.law.strands_spawn.Goals as goal
use Rattle.cm_strand.proofs.SpawnLaw.{spawns_child}

pub returns : goal.returns
returns c = λ w request asked given s spot p lent kept due more x a b c. spawns_child w.program w.limits.page (limit_of w) w.input w.image (first_of w) request (code_of w) (known_of w) asked given s spot p lent kept due more x a.0 a.1 b c
