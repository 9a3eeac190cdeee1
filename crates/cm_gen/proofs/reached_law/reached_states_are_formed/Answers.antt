use Rattle.cm_gen.proofs.reached_law.reached_states_are_formed.Goals as goal
use Rattle.cm_gen.proofs.pieces.PieceLaw.{reached_formed, reached_child}

pub returns-clause-pieces : goal.returns-clause-pieces
returns-clause-pieces c = λ program input limits p runs accepted reached. reached_formed program input limits runs accepted p reached

pub returns-clause-children : goal.returns-clause-children
returns-clause-children c = λ program input limits p d own x joined ask r runs accepted reached note. reached_child program input limits runs accepted p reached note
