use Rattle.cm_syntax.proofs.CellLaw.{cell_comm, cell_assoc, cell_same, cell_cancel, writable_alone, value_sum, settle_sum, no_share_twice, no_share_forgotten, one_word}
use Rattle.cm_syntax.proofs.cell_law.cells_come_together.Goals as goal

pub returns-clause-commutes : goal.returns-clause-commutes
returns-clause-commutes c = cell_comm

pub returns-clause-associates : goal.returns-clause-associates
returns-clause-associates c = cell_assoc

pub returns-clause-one_sum : goal.returns-clause-one_sum
returns-clause-one_sum c = cell_same

pub returns-clause-one_rest : goal.returns-clause-one_rest
returns-clause-one_rest c = cell_cancel

pub returns-clause-written_by_one : goal.returns-clause-written_by_one
returns-clause-written_by_one c = writable_alone

pub returns-clause-reads_alike : goal.returns-clause-reads_alike
returns-clause-reads_alike c = value_sum

pub returns-clause-no_more_than_whole : goal.returns-clause-no_more_than_whole
returns-clause-no_more_than_whole c = λ q v w d s. s

pub returns-clause-no_share_twice : goal.returns-clause-no_share_twice
returns-clause-no_share_twice c = no_share_twice

pub returns-clause-no_share_forgotten : goal.returns-clause-no_share_forgotten
returns-clause-no_share_forgotten c = no_share_forgotten

pub returns-clause-one_word : goal.returns-clause-one_word
returns-clause-one_word c = one_word

pub returns-clause-settles : goal.returns-clause-settles
returns-clause-settles c = settle_sum
