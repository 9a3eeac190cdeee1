use Rattle.cm_meaning.proofs.CheckedLaw.{call_end, program_end}
use Rattle.cm_meaning.proofs.ForkMeaning.{fork_serial}
use Rattle.cm_meaning.proofs.fork_law.checked_programs_fork.Goals as goal

pub returns-clause-end : goal.returns-clause-end
returns-clause-end c = λ program input limits e sound accepted s. program_end program input limits sound accepted e s

pub returns-clause-only : goal.returns-clause-only
returns-clause-only c = λ program input limits e sound accepted f. fork_serial program input limits e f

pub returns-clause-calls : goal.returns-clause-calls
returns-clause-calls c = λ program input limits ask sound accepted r. call_end program input limits sound accepted ask r
