use Rattle.std.proofs.Common.{ap, ◌∙◌, sym}
use Rattle.cm_strand.specs.Strand.{Strand, Course}
use Rattle.cm_strand.specs.Turn.{outer, stopped_course}
use Rattle.cm_strand.proofs.WorldLaw.{limit_of, first_of, known_of, code_of}
use Rattle.cm_strand.proofs.law.strands_join.Goals as goal
use Rattle.cm_strand.proofs.JoinLaw.{joins_children, joins_ending, breaks_off}

pub returns-clause-fits : goal.returns-clause-fits
returns-clause-fits c = λ w request asked given s spot p scope outer words x a b c d e f g. joins_children w.program w.limits.page (limit_of w) w.input w.image (first_of w) request (code_of w) (known_of w) asked given s spot p scope outer words x a.0 a.1 b c d e f g

pub returns-clause-breaks : goal.returns-clause-breaks
returns-clause-breaks c = λ w request asked given s spot p scope outer x a b c d e f. breaks_off w.program w.limits.page (limit_of w) w.input w.image (first_of w) request (code_of w) (known_of w) asked given s spot p scope outer x a.0 a.1 b c d e f

pub returns-clause-ending_ : goal.returns-clause-ending_
returns-clause-ending_ c = λ w request asked given s spot p kind scope outer words x a b d e f. joins_ending w.program w.limits.page (limit_of w) w.input w.image (first_of w) request (code_of w) (known_of w) asked given s spot p kind scope outer words x a b d e f

-- a strand past a scope, in another course
abbrev past : Strand → Course → Strand
past s c = record s { scopes = outer s.scopes; course = c }

pub returns-clause-breaks_off : goal.returns-clause-breaks_off
returns-clause-breaks_off c = λ s is. ap (λ k. past s (stopped_course k)) is

pub returns-clause-closes : goal.returns-clause-closes
returns-clause-closes c = λ s kind is. ap (past s) (ap stopped_course is ∙ sym is)
