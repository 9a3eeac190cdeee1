use Rattle.cm_worker.proofs.WordsLaw.{same_known, stored_shares}
use Rattle.cm_worker.proofs.grant_words.GrantWordsWords.store.Goals as goal

pub returns-clause-same_rest : goal.returns-clause-same_rest
returns-clause-same_rest c = same_known _ _ _ _ _ _ _ c.store.ensures.here (stored_shares _ _ _ _ c.requires c.store.ensures.put)
