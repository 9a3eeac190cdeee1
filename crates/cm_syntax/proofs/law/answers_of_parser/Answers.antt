use Rattle.cm_syntax.proofs.parser.Answer.{text_answered}
use Rattle.cm_syntax.proofs.law.answers_of_parser.Goals as goal

pub returns : goal.returns
returns c = text_answered
