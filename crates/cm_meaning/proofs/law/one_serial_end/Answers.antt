use Rattle.cm_syntax.specs.Stack.{Stack, Destination}
use Rattle.cm_syntax.specs.Rest.{Control}
use Rattle.cm_syntax.specs.Step.{step, inside}
use Rattle.cm_meaning.specs.Weight.{weight}
use Rattle.cm_meaning.proofs.WeightLaw.{lowers_serial}
use Rattle.cm_meaning.proofs.EndLaw.{some_end, one_end, one_stack}
use Rattle.cm_meaning.proofs.law.one_serial_end.Goals as goal

pub returns-clause-some : goal.returns-clause-some
returns-clause-some c = λ program page input a h limit. some_end Control Stack Destination (step program page input) inside (weight program) (lowers_serial program page input) limit a h

pub returns-clause-one : goal.returns-clause-one
returns-clause-one c = λ program page input a h v w limit d e x y. one_end Control Stack Destination (step program page input) inside a h limit d e v w x y

pub returns-clause-words : goal.returns-clause-words
returns-clause-words c = λ program page input a h v w limit out u n x y. one_stack Control Stack Destination (step program page input) inside a h limit out u n v w x y
