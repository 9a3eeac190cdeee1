use Rattle.std.proofs.Common.{refl}
use Rattle.cm_syntax.proofs.parser.SourceText.{is_refused}
use Rattle.cm_syntax.proofs.law.refused_bodies.Goals as goal

pub returns-clause-no_value : goal.returns-clause-no_value
returns-clause-no_value c = is_refused refl

pub returns-clause-no_parenthesis : goal.returns-clause-no_parenthesis
returns-clause-no_parenthesis c = is_refused refl

pub returns-clause-third_part : goal.returns-clause-third_part
returns-clause-third_part c = is_refused refl

pub returns-clause-no_comma : goal.returns-clause-no_comma
returns-clause-no_comma c = is_refused refl

pub returns-clause-no_assignment : goal.returns-clause-no_assignment
returns-clause-no_assignment c = is_refused refl

pub returns-clause-no_argument : goal.returns-clause-no_argument
returns-clause-no_argument c = is_refused refl

pub returns-clause-lone_else : goal.returns-clause-lone_else
returns-clause-lone_else c = is_refused refl

pub returns-clause-two_values : goal.returns-clause-two_values
returns-clause-two_values c = is_refused refl

pub returns-clause-no_semicolon : goal.returns-clause-no_semicolon
returns-clause-no_semicolon c = is_refused refl

pub returns-clause-spawned_value : goal.returns-clause-spawned_value
returns-clause-spawned_value c = is_refused refl

pub returns-clause-no_bracket : goal.returns-clause-no_bracket
returns-clause-no_bracket c = is_refused refl

pub returns-clause-no_name : goal.returns-clause-no_name
returns-clause-no_name c = is_refused refl
