use Rattle.cm_gen.proofs.ahead.TurnsLaw.{length-turns, length-credit, length-function_turns, length-function_credit}
use Rattle.cm_gen.proofs.ahead_law.each_word_has_turns.Goals as goal

pub returns-clause-statement : goal.returns-clause-statement
returns-clause-statement c = length-turns

pub returns-clause-credit : goal.returns-clause-credit
returns-clause-credit c = length-credit

pub returns-clause-function : goal.returns-clause-function
returns-clause-function c = length-function_turns

pub returns-clause-function_credit : goal.returns-clause-function_credit
returns-clause-function_credit c = length-function_credit
