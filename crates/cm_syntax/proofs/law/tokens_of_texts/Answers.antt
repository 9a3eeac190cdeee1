use Rattle.cm_syntax.proofs.parser.SourceText.{tokens_of}
use Rattle.cm_syntax.proofs.law.tokens_of_texts.Goals as goal

pub returns-clause-longest : goal.returns-clause-longest
returns-clause-longest c = tokens_of _

pub returns-clause-comment : goal.returns-clause-comment
returns-clause-comment c = tokens_of _

pub returns-clause-words : goal.returns-clause-words
returns-clause-words c = tokens_of _

pub returns-clause-faulty : goal.returns-clause-faulty
returns-clause-faulty c = tokens_of _

pub returns-clause-all_signs : goal.returns-clause-all_signs
returns-clause-all_signs c = tokens_of _

pub returns-clause-all_words : goal.returns-clause-all_words
returns-clause-all_words c = tokens_of _

pub returns-clause-words_set_aside : goal.returns-clause-words_set_aside
returns-clause-words_set_aside c = tokens_of _
