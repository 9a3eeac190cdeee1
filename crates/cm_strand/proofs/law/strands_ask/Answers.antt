use Rattle.cm_strand.proofs.WorldLaw.{limit_of, first_of, known_of, code_of}
use Rattle.cm_strand.proofs.ServiceLaw.{asks_known, hears_input}
use Rattle.cm_strand.proofs.law.strands_ask.Goals as goal

pub returns-clause-known : goal.returns-clause-known
returns-clause-known c = λ w request asked given s spot p x a. asks_known w.program w.limits.page (limit_of w) w.input w.image (first_of w) request (code_of w) (known_of w) asked given s spot p x a.0 a.1

pub returns-clause-input : goal.returns-clause-input
returns-clause-input c = λ w request asked given s spot p x a two. hears_input w.program w.limits.page (limit_of w) w.input w.image (first_of w) request (code_of w) (known_of w) asked given s spot p x a.0 a.1 two
