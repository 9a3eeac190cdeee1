use Rattle.std.proofs.Math.Nat.{le_trans}
use Rattle.cm_strand.proofs.law.free_words_stay.Goals as goal
use Rattle.cm_strand.proofs.ClearLaw.{runs_on_free, covers_more, covers_less, spares_by_spawn, spares_by_answer, spares_by_join}

pub returns-clause-more : goal.returns-clause-more
returns-clause-more c = covers_more

pub returns-clause-less : goal.returns-clause-less
returns-clause-less c = covers_less

pub returns-clause-spawn : goal.returns-clause-spawn
returns-clause-spawn c = spares_by_spawn

pub returns-clause-answer : goal.returns-clause-answer
returns-clause-answer c = spares_by_answer

pub returns-clause-join_ : goal.returns-clause-join_
returns-clause-join_ c = spares_by_join

pub returns-clause-serve : goal.returns-clause-serve
returns-clause-serve c = λ w given s spot bottom balance covers spare above there a even low high.
    (runs_on_free given s.words s.log bottom spot.low balance covers spare).1 a even (le_trans above low) high
