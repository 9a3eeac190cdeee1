use Rattle.cm_strand.proofs.WorldLaw.{limit_of, first_of, known_of, code_of}
use Rattle.cm_strand.proofs.law.strands_answer.Goals as goal
use Rattle.cm_strand.proofs.EndLaw.{returns_as, fails_as}

pub returns-clause-value : goal.returns-clause-value
returns-clause-value c = λ w request asked given s spot p all x a b c. returns_as w.program w.limits.page (limit_of w) w.input w.image (first_of w) request (code_of w) (known_of w) asked given s spot p all x a.0 a.1 b c

pub returns-clause-otherwise : goal.returns-clause-otherwise
returns-clause-otherwise c = λ w request asked given s spot p kind v all x a b c. fails_as w.program w.limits.page (limit_of w) w.input w.image (first_of w) request given s spot p kind v all x a b c
