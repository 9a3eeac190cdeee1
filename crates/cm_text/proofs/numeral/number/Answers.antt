use Rattle.cm_text.proofs.NumberLemmas.{IsUtf8-from_number}
use Rattle.cm_text.proofs.numeral.number.Goals as goal

pub returns-in_default-from_utf8 : goal.returns-in_default-from_utf8
returns-in_default-from_utf8 c = λ number. c.in_default-from_utf8.ensures.cases.0 (IsUtf8-from_number _ number)
