-- The tree that a parse tree stands for: parentheses, commas and the spelling of an update are not in it.
use Rattle.std.specs.Prelude.{ℕ, pos, Bool, if◌then◌else◌, List, [], ◌∷◌, Option, None, Some, is_some}
use Rattle.cm_syntax.specs.declared.name.Name.{Name}
use Rattle.cm_syntax.specs.declared.expr.Op.TheVariants as op
use Rattle.cm_syntax.specs.declared.expr.Expr.{Expr}
use Rattle.cm_syntax.specs.declared.expr.Expr.TheVariants as expression
use Rattle.cm_syntax.specs.declared.expr.Arg.{Arg}
use Rattle.cm_syntax.specs.declared.expr.Arg.TheVariants as argument
use Rattle.cm_syntax.specs.declared.expr.Call.{Call}
use Rattle.cm_syntax.specs.declared.stmt.Slot.TheVariants as slot
use Rattle.cm_syntax.specs.declared.stmt.Item.{Item}
use Rattle.cm_syntax.specs.declared.stmt.Target.{Target}
use Rattle.cm_syntax.specs.declared.stmt.Target.TheVariants as target
use Rattle.cm_syntax.specs.declared.stmt.Stmt.{Stmt}
use Rattle.cm_syntax.specs.declared.stmt.Stmt.TheVariants as statement
use Rattle.cm_syntax.specs.declared.stmt.Function.{Function}
use Rattle.cm_syntax.specs.ParseTree.{Expression, Arguments, Argument, AnyExpression, Declaration, Simple, FirstPart, Plain, Statements, Parameter, ParameterList, Parameters}
use Rattle.cm_syntax.specs.ParseTree as grammar

abbrev mutual
  pub lower_expression : {level : ℕ} → Expression level → Expr Name
  lower_expression (Expression.literal at value) = expression.Number (pos value)
  lower_expression (Expression.variable x) = expression.Scalar x
  lower_expression (Expression.element a opening index closing) = expression.Index a (lower_expression index)
  lower_expression (Expression.pointee star p) = expression.Index p (expression.Number (pos 0))
  lower_expression (Expression.called call) = expression.Call (lower_call call)
  lower_expression (Expression.len word opening a closing) = expression.Len a
  lower_expression (Expression.input word opening index closing) = expression.Input (lower_expression index)
  lower_expression (Expression.inputs word opening closing) = expression.Inputs
  lower_expression (Expression.grouped opening inner closing) = lower_expression inner
  lower_expression (Expression.prefixed op unary at operand tight) = expression.Unary op (lower_expression operand)
  lower_expression (Expression.joined op binary left loose at right tight) = expression.Binary op (lower_expression left) (lower_expression right)

  pub lower_call : grammar.Call → Call Name
  lower_call (grammar.Call.alone f opening closing) = record { function = f; arguments = [] }
  lower_call (grammar.Call.with_ f opening arguments closing) = record { function = f; arguments = lower_arguments arguments }

  pub lower_arguments : Arguments → List (Arg Name)
  lower_arguments (Arguments.last one) = lower_argument one ∷ []
  lower_arguments (Arguments.before one comma more) = lower_argument one ∷ lower_arguments more

  pub lower_argument : Argument → Arg Name
  lower_argument (Argument.value value) = argument.Value (lower_expression value)
  lower_argument (Argument.address at x) = argument.Address x

abbrev pub lower_any : AnyExpression → Expr Name
lower_any (AnyExpression.any value) = lower_expression value

abbrev pub lower_optional : Option AnyExpression → Option (Expr Name)
lower_optional None = None
lower_optional (Some value) = Some (lower_any value)

abbrev pub lower_item : grammar.Item → Item Name
lower_item (grammar.Item.scalar x) = record { name = x; slot = slot.Scalar; first = None }
lower_item (grammar.Item.set x assign value) = record { name = x; slot = slot.Scalar; first = Some (lower_any value) }
lower_item (grammar.Item.array a opening at size closing) = record { name = a; slot = slot.Array size; first = None }

abbrev pub lower_items : grammar.Items → List (Item Name)
lower_items (grammar.Items.last one) = lower_item one ∷ []
lower_items (grammar.Items.before one comma more) = lower_item one ∷ lower_items more

abbrev pub lower_declaration : Declaration → Stmt Name
lower_declaration d = statement.Declare (lower_items d.items)

abbrev pub lower_target : grammar.Target → Target Name
lower_target (grammar.Target.scalar x) = target.Scalar x
lower_target (grammar.Target.element a opening index closing) = target.Index a (lower_any index)
lower_target (grammar.Target.pointee star p) = target.Index p (expression.Number (pos 0))

-- `t ++` is `t += 1`
abbrev pub lower_step : Bool → grammar.Target → Stmt Name
lower_step up target = statement.Assign (lower_target target) (Some (if up then op.Add else op.Sub)) (expression.Number (pos 1))

abbrev pub lower_simple : Simple → Stmt Name
lower_simple (Simple.assign target at value) = statement.Assign (lower_target target) None (lower_any value)
lower_simple (Simple.update target op updates at value) = statement.Assign (lower_target target) (Some op) (lower_any value)
lower_simple (Simple.step_after target up at) = lower_step up target
lower_simple (Simple.step_before up at target) = lower_step up target
lower_simple (Simple.call call) = statement.Call (lower_call call)

abbrev pub lower_first_part : FirstPart → Stmt Name
lower_first_part FirstPart.nothing = statement.Empty
lower_first_part (FirstPart.declare declaration) = lower_declaration declaration
lower_first_part (FirstPart.simple s) = lower_simple s

abbrev pub lower_last_part : Option Simple → Stmt Name
lower_last_part None = statement.Empty
lower_last_part (Some s) = lower_simple s

abbrev mutual
  pub lower_plain : {is_open : Bool} → Plain is_open → Stmt Name
  lower_plain (Plain.simple s semicolon) = lower_simple s
  lower_plain (Plain.empty semicolon) = statement.Empty
  lower_plain (Plain.block opening body closing) = statement.Block (lower_statements body)
  lower_plain (Plain.if_alone word opening test closing chosen) = statement.If (lower_any test) (lower_plain chosen) None
  lower_plain (Plain.if_else word opening test closing chosen at other) = statement.If (lower_any test) (lower_plain chosen) (Some (lower_plain other))
  lower_plain (Plain.while word opening test closing body) = statement.While (lower_any test) (lower_plain body)
  lower_plain (Plain.for word opening first semicolon test second step closing body) =
      statement.For (lower_first_part first) (lower_optional test) (lower_last_part step) (lower_plain body)
  lower_plain (Plain.split word whole at index as_ left comma right opening body closing) =
      statement.Split whole (lower_any index) left right (lower_statements body) closing
  lower_plain (Plain.return word value semicolon) = statement.Return word (lower_optional value)
  lower_plain (Plain.print word opening value closing semicolon) = statement.Print (lower_any value)
  lower_plain (Plain.sync word semicolon) = statement.Sync word
  lower_plain (Plain.spawn word call semicolon) = statement.Spawn word None (lower_call call)
  lower_plain (Plain.spawn_into x assign word call semicolon) = statement.Spawn word (Some x) (lower_call call)

  pub lower_statements : Statements → List (Stmt Name)
  lower_statements Statements.none = []
  lower_statements (Statements.declare declaration semicolon more) = lower_declaration declaration ∷ lower_statements more
  lower_statements (Statements.plain first more) = lower_plain first ∷ lower_statements more

abbrev pub lower_parameter : Parameter → Item Name
lower_parameter (Parameter.scalar int_at x) = record { name = x; slot = slot.Scalar; first = None }
lower_parameter (Parameter.slice int_at a opening closing) = record { name = a; slot = slot.Slice; first = None }
lower_parameter (Parameter.pointer int_at star p) = record { name = p; slot = slot.Slice; first = None }

abbrev pub lower_parameter_list : ParameterList → List (Item Name)
lower_parameter_list (ParameterList.last one) = lower_parameter one ∷ []
lower_parameter_list (ParameterList.before one comma more) = lower_parameter one ∷ lower_parameter_list more

abbrev pub lower_parameters : Parameters → List (Item Name)
lower_parameters Parameters.none = []
lower_parameters (Parameters.void at) = []
lower_parameters (Parameters.list all) = lower_parameter_list all

abbrev pub lower_function : grammar.Function → Function Name
lower_function f = record {
  name = f.name;
  cilk = is_some f.cilk_at;
  gives = f.gives;
  parameters = lower_parameters f.parameters;
  body = lower_statements f.body;
  slots = [];
}

abbrev pub lower_program : grammar.Program → List (Function Name)
lower_program (grammar.Program.last f) = lower_function f ∷ []
lower_program (grammar.Program.before f more) = lower_function f ∷ lower_program more
