use Rattle.cm_meaning.specs.Meaning.{main_ask}
use Rattle.cm_strand.proofs.UnsharedStepLaw.{unshared_empty, reached_unshared, reached_back}
use Rattle.cm_strand.proofs.law.no_word_is_shared_yet.Goals as goal

pub returns-clause-held : goal.returns-clause-held
returns-clause-held c = λ w p r. reached_unshared w.program w.limits.page w.input (main_ask w.program w.limits) unshared_empty p r

pub returns-clause-back : goal.returns-clause-back
returns-clause-back c = λ w p d own x joined q out v n g r note. reached_back w.program w.limits.page w.input (main_ask w.program w.limits) unshared_empty p d own x joined q out v n g r note
