use Rattle.std.proofs.Common.{refl, inr}
use Rattle.cm_syntax.proofs.parser.SourceText.{is_refused}
use Rattle.cm_syntax.proofs.law.refused_sources.Goals as goal

pub returns-clause-empty : goal.returns-clause-empty
returns-clause-empty c = is_refused refl

pub returns-clause-no_brace : goal.returns-clause-no_brace
returns-clause-no_brace c = is_refused refl

pub returns-clause-leading_zero : goal.returns-clause-leading_zero
returns-clause-leading_zero c = is_refused refl

pub returns-clause-lone_byte : goal.returns-clause-lone_byte
returns-clause-lone_byte c = is_refused refl

pub returns-clause-unclosed : goal.returns-clause-unclosed
returns-clause-unclosed c = is_refused refl

pub returns-clause-reserved : goal.returns-clause-reserved
returns-clause-reserved c = is_refused refl

pub returns-clause-number_and_letter : goal.returns-clause-number_and_letter
returns-clause-number_and_letter c = is_refused refl

pub returns-clause-unclosed_later : goal.returns-clause-unclosed_later
returns-clause-unclosed_later c = is_refused refl

pub returns-clause-number_for_name : goal.returns-clause-number_for_name
returns-clause-number_for_name c = is_refused refl

pub returns-clause-word_for_name : goal.returns-clause-word_for_name
returns-clause-word_for_name c = is_refused refl

pub returns-clause-literal : goal.returns-clause-literal
returns-clause-literal c = is_refused refl

pub returns-clause-no_words : goal.returns-clause-no_words
returns-clause-no_words c = is_refused refl

pub returns-clause-many_words : goal.returns-clause-many_words
returns-clause-many_words c = is_refused refl

pub returns-clause-parentheses : goal.returns-clause-parentheses
returns-clause-parentheses c = is_refused refl

pub returns-clause-operators : goal.returns-clause-operators
returns-clause-operators c = is_refused refl

pub returns-clause-loops : goal.returns-clause-loops
returns-clause-loops c = is_refused refl

pub returns-clause-less_loops : goal.returns-clause-less_loops
returns-clause-less_loops c = is_refused refl

pub returns-clause-no_value : goal.returns-clause-no_value
returns-clause-no_value c = is_refused refl

pub returns-clause-second_else : goal.returns-clause-second_else
returns-clause-second_else c = is_refused refl

pub returns-clause-element_spawn : goal.returns-clause-element_spawn
returns-clause-element_spawn c = is_refused refl

pub returns-clause-for_spawn : goal.returns-clause-for_spawn
returns-clause-for_spawn c = is_refused refl

pub returns-clause-reference : goal.returns-clause-reference
returns-clause-reference c = is_refused refl

pub returns-clause-trailing_comma : goal.returns-clause-trailing_comma
returns-clause-trailing_comma c = is_refused refl

pub returns-clause-declared_body : goal.returns-clause-declared_body
returns-clause-declared_body c = is_refused refl

pub returns-clause-behind : goal.returns-clause-behind
returns-clause-behind c = is_refused refl

pub returns-clause-first_refused : goal.returns-clause-first_refused
returns-clause-first_refused c = is_refused refl

pub returns-clause-too_long : goal.returns-clause-too_long
returns-clause-too_long c = λ bytes long. inr (refl, long)
