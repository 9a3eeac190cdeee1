use Rattle.cm_meaning.proofs.CheckedLaw.{given_back}
use Rattle.cm_meaning.proofs.fork_law.children_give_back.Goals as goal

pub returns : goal.returns
returns c = λ program input limits p d own x joined ask r out v n w sound accepted reached note f. given_back program input limits sound accepted p d own x joined ask r reached note out v n w f
