use Rattle.cm_syntax.proofs.parser.SourceText.{is_accepted}
use Rattle.cm_syntax.proofs.law.sources_at_limits.Goals as goal

pub returns-clause-deepest_loop : goal.returns-clause-deepest_loop
returns-clause-deepest_loop c = is_accepted tt

pub returns-clause-most_parentheses : goal.returns-clause-most_parentheses
returns-clause-most_parentheses c = is_accepted tt

pub returns-clause-most_operators : goal.returns-clause-most_operators
returns-clause-most_operators c = is_accepted tt

pub returns-clause-greatest_literal : goal.returns-clause-greatest_literal
returns-clause-greatest_literal c = is_accepted tt

pub returns-clause-least_array : goal.returns-clause-least_array
returns-clause-least_array c = is_accepted tt

pub returns-clause-greatest_array : goal.returns-clause-greatest_array
returns-clause-greatest_array c = is_accepted tt
