-- Arguments, as the code goes through them.
use Rattle.std.specs.Prelude.{List, Option, None, Some}
use Rattle.std.specs.List.{flat_map}
use Rattle.cm_syntax.specs.declared.name.Name.{Name}
use Rattle.cm_syntax.specs.declared.expr.Mark.{Mark}
use Rattle.cm_syntax.specs.declared.expr.Expr.{Expr}
use Rattle.cm_syntax.specs.declared.expr.Expr.TheVariants as expression
use Rattle.cm_syntax.specs.declared.expr.Arg.{Arg}
use Rattle.cm_syntax.specs.Resolution.{Variable, ArgumentForm, value_form, slice_form, any_form, Use, argument_uses}
use Rattle.cm_names.specs.declared.expression.Form.{Form}
use Rattle.cm_names.specs.declared.expression.Form.TheVariants as form

-- the form, as the language has it
abbrev pub form_of : Form → ArgumentForm
form_of form.Value = value_form
form_of form.Slice = slice_form
form_of form.Any = any_form

-- the name that an expression is, where it is nothing else
abbrev pub bare_of : Expr Name → Option (Mark Name)
bare_of (expression.Scalar x) = Some x
bare_of _ = None

-- the uses in arguments, one after another
abbrev pub uses_of_arguments : List Variable → List (Arg Name) → List Use
uses_of_arguments visible arguments = flat_map (argument_uses visible) arguments
