use Rattle.std.proofs.Common.{[], refl, arith}
use Rattle.std.specs.Int.{int_wrap}
use Rattle.cm_meaning.specs.Row as row
use Rattle.cm_meaning.proofs.RowLaw.{done, spent}
use Rattle.cm_meaning.proofs.row.loop_ticks.Goals as goal

pub returns-clause-enough : goal.returns-clause-enough
unfolding int_wrap
returns-clause-enough c = done row.three_turns [] (row.with_ticks 4) 100 refl (omega arith)

pub returns-clause-spent : goal.returns-clause-spent
unfolding int_wrap
returns-clause-spent c = spent row.three_turns [] (row.with_ticks 3) 250 (omega arith)
