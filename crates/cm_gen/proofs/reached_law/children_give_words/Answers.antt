use Rattle.std.specs.Prelude.{◌*◌}
use Rattle.cm_meaning.specs.Meaning.{begun}
use Rattle.cm_gen.proofs.reached_law.children_give_words.Goals as goal
use Rattle.cm_gen.proofs.pieces.PieceLaw.{reached_formed, reached_child}
use Rattle.cm_gen.proofs.pieces.SpawnLaw.{words_fit, child_ends, gives_value}
use Rattle.cm_gen.proofs.pieces.DestinationLaw.{lent_scalar}

pub returns-clause-words : goal.returns-clause-words
returns-clause-words c = λ program input limits ask out v n w runs accepted reached f.
    words_fit program limits.page (limits.stack * limits.page) input runs (reached_formed program input limits runs accepted (begun ask) reached) f

pub returns-clause-value : goal.returns-clause-value
returns-clause-value c = λ program input limits p d own x joined ask r out v n w runs accepted reached note f.
    let s = reached_child program input limits runs accepted p reached note in
    gives_value program limits.page (limits.stack * limits.page) input runs s (child_ends program limits.page (limits.stack * limits.page) input runs s f)

pub returns-clause-destination : goal.returns-clause-destination
returns-clause-destination c = λ program input limits p d own x joined ask r runs accepted reached note.
    lent_scalar program limits.page (limits.stack * limits.page) input runs (reached_child program input limits runs accepted p reached note)
