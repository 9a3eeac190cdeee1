use Rattle.std.specs.Prelude.{[]}
use Rattle.std.proofs.Common.{refl, arith}
use Rattle.cm_meaning.specs.Row as row
use Rattle.cm_meaning.proofs.RowLaw.{gets_stuck}
use Rattle.cm_meaning.proofs.row.unset_words_unread.Goals as goal

pub returns : goal.returns
returns c = gets_stuck row.reads_unset [] (row.with_ticks 1) 20 refl (omega arith)
