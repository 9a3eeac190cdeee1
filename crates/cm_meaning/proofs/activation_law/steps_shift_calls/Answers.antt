use Rattle.cm_meaning.proofs.ShiftLaw.{shift, base_kept, within_one}
use Rattle.cm_meaning.proofs.activation_law.steps_shift_calls.Goals as goal

pub returns-clause-calls : goal.returns-clause-calls
returns-clause-calls c = shift

pub returns-clause-base : goal.returns-clause-base
returns-clause-base c = λ program page input control d h g. base_kept program page input control d h g

pub returns-clause-one : goal.returns-clause-one
returns-clause-one c = λ program page input control d h g. within_one program page input control d h g
