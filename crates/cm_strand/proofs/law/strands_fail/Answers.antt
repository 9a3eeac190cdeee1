use Rattle.cm_strand.proofs.WorldLaw.{limit_of, first_of, known_of, code_of}
use Rattle.cm_strand.proofs.law.strands_fail.Goals as goal
use Rattle.cm_strand.proofs.OtherLaw.{closes}
use Rattle.cm_strand.proofs.FailLaw.{traps_strand, spends_ticks}

pub returns-clause-trap : goal.returns-clause-trap
returns-clause-trap c = λ w request asked given s spot p k x a b. traps_strand w.program w.limits.page (limit_of w) w.input w.image (first_of w) request (code_of w) (known_of w) asked given s spot p k x a.0 a.1 b

pub returns-clause-spent : goal.returns-clause-spent
returns-clause-spent c = λ w request asked given s spot p x a b. spends_ticks w.program w.limits.page (limit_of w) w.input w.image (first_of w) request (code_of w) (known_of w) asked given s spot p x a.0 a.1 b

pub returns-clause-close : goal.returns-clause-close
returns-clause-close c = λ w request asked given s spot p kind scope inner x a b d. closes w.program w.limits.page (limit_of w) w.input w.image (first_of w) request (code_of w) (known_of w) asked given s spot p kind scope inner x a b d
