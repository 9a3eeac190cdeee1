use Rattle.cm_strand.proofs.WorldLaw.{limit_of, first_of, known_of, code_of}
use Rattle.cm_strand.proofs.law.strands_go_on.Goals as goal
use Rattle.cm_strand.proofs.CarriedLaw.{instruction}
use Rattle.cm_strand.proofs.ServiceLaw.{prints_number, replies_word, syncs_alone}
use Rattle.cm_strand.proofs.OtherLaw.{takes_page}

pub returns-clause-instruction : goal.returns-clause-instruction
returns-clause-instruction c = λ w request asked given s spot p next words x a b c d e. instruction w.program w.limits.page (limit_of w) w.input w.image (first_of w) request (code_of w) (known_of w) asked given s spot p next words x a b c d e

pub returns-clause-print : goal.returns-clause-print
returns-clause-print c = λ w request asked given s spot p x a b. prints_number w.program w.limits.page (limit_of w) w.input w.image (first_of w) request (code_of w) (known_of w) asked given s spot p x a.0 a.1 b

pub returns-clause-reply : goal.returns-clause-reply
returns-clause-reply c = λ w request asked given s spot p word x a b. replies_word w.program w.limits.page (limit_of w) w.input w.image (first_of w) request (code_of w) (known_of w) asked given s spot p word x a.0 a.1 b

pub returns-clause-pass : goal.returns-clause-pass
returns-clause-pass c = λ w request asked given s spot p x a b c. syncs_alone w.program w.limits.page (limit_of w) w.input w.image (first_of w) request (code_of w) (known_of w) asked given s spot p x a.0 a.1 b c

pub returns-clause-page : goal.returns-clause-page
returns-clause-page c = λ w request asked given given_later s spot p more words x a b. takes_page w.program w.limits.page (limit_of w) w.input w.image (first_of w) request (code_of w) (known_of w) asked given given_later s spot p more words x a b
