use Rattle.cm_strand.proofs.WorldLaw.{limit_of, first_of, known_of, code_of}
use Rattle.cm_strand.proofs.law.strands_hear.Goals as goal
use Rattle.cm_strand.proofs.AnswerLaw.{collects_answer, pops_answer}
use Rattle.cm_strand.proofs.OtherLaw.{lowers}

pub returns-clause-collect : goal.returns-clause-collect
returns-clause-collect c = λ w request asked given given_later more s spot p n H e all aside back words x a b c d f. collects_answer w.program w.limits.page (limit_of w) w.input w.image (first_of w) request (code_of w) (known_of w) asked given given_later more s spot p n H e all aside back words x a b c d f

pub returns-clause-pop : goal.returns-clause-pop
returns-clause-pop c = λ w request asked given given_later more s spot p H log e all aside back words x a b c. pops_answer w.program w.limits.page (limit_of w) w.input w.image (first_of w) request (code_of w) (known_of w) asked given given_later more s spot p H log e all aside back words x a b c

pub returns-clause-lower : goal.returns-clause-lower
returns-clause-lower c = λ w request asked given s H log spot p scope outer some x a b. lowers w.program w.limits.page (limit_of w) w.input w.image (first_of w) request (code_of w) (known_of w) asked given s H log spot p scope outer some x a b
