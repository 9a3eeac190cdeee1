use Rattle.cm_meaning.proofs.BesideLaw.{beside, goes_on, parted_whole}
use Rattle.cm_meaning.proofs.law.steps_beside_words.Goals as goal

pub returns-clause-same : goal.returns-clause-same
returns-clause-same c = λ program page input control h b g o. beside program page input h b g o control

pub returns-clause-needed : goal.returns-clause-needed
returns-clause-needed c = λ program page input control h b g o has on e. on (goes_on program page input h b g o control has e)

pub returns-clause-parts : goal.returns-clause-parts
returns-clause-parts c = λ words lent kept more_lent more_kept h whole. parted_whole words lent kept more_lent more_kept h whole
