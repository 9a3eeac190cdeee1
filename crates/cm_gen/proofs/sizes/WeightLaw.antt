-- What is read has at least as many tokens as its weight, and a text has at least as many bytes as tokens.
use Rattle.std.proofs.Common.{◌≡◌, ℕ, ◌+◌, ◌≤◌, Bool, Option, None, Some, List, [], ◌∷◌, ◌++◌, length, refl, ap, ◌∙◌, arith, length-append}
use Rattle.std.specs.Prelude.{pos}
use Rattle.cm_syntax.specs.declared.name.Name.{Name}
use Rattle.cm_syntax.specs.declared.expr.Mark.{Mark}
use Rattle.cm_syntax.specs.declared.expr.Op.{Op}
use Rattle.cm_syntax.specs.declared.expr.Expr.{Expr}
use Rattle.cm_syntax.specs.declared.expr.Expr.TheVariants as expression
use Rattle.cm_syntax.specs.declared.expr.Call as calls
use Rattle.cm_syntax.specs.declared.expr.Call.{Row_of-Arg, end_of-Arg, more_of-Arg, items-the_row-Arg, items_hidden-the_row-Arg-1}
use Rattle.cm_syntax.specs.declared.stmt.Stmt.{Stmt, Row_of-Stmt, end_of-Stmt, more_of-Stmt, items-the_row-Stmt, items_hidden-the_row-Stmt-1}
use Rattle.cm_syntax.specs.declared.stmt.Stmt.TheVariants as statement
use Rattle.cm_syntax.specs.declared.stmt.Tree.{Tree}
use Rattle.cm_syntax.specs.Shape.{Binary-Joined, Unary-Prefixed, Index-Element, Input-InputAt}
use Rattle.cm_syntax.proofs.StatementLaw.{If-Alone, If-Else, While-Loop, For-Loop}
use Rattle.cm_syntax.proofs.OffsetLaw.{Ascend, tokens_ascend}
use Rattle.cm_syntax.specs.Token.{LocatedToken}
use Rattle.cm_syntax.specs.Grammar.{IsSourceOf}
use Rattle.cm_syntax.specs.ParseTree.{Expression, Arguments, Argument, AnyExpression, Declaration, Simple, FirstPart, Plain, Statements, Parameter, ParameterList, Parameters}
use Rattle.cm_syntax.specs.ParseTree as grammar
use Rattle.cm_syntax.specs.Yield.{Quantity, nothing, depth, CountedToken, operators_of, expression_tokens, call_tokens, arguments_tokens, argument_tokens, any_tokens, optional_tokens, item_tokens, items_tokens, declaration_tokens, target_tokens, simple_call_tokens, simple_tokens, first_part_tokens, last_part_tokens, plain_tokens, statements_tokens, parameter_tokens, parameter_list_tokens, parameters_tokens, cilk_tokens, function_tokens, program_tokens}
use Rattle.cm_syntax.specs.Lowering.{lower_expression, lower_call, lower_arguments, lower_argument, lower_any, lower_optional, lower_item, lower_items, lower_declaration, lower_target, lower_simple, lower_first_part, lower_last_part, lower_plain, lower_statements, lower_parameter_list, lower_parameters, lower_function, lower_program}
use Rattle.cm_syntax.proofs.Rows.{row_of_block, row_of_call}
use Rattle.cm_syntax.proofs.YieldLaw.{length-located}
use Rattle.cm_gen.proofs.sizes.Weight.{expression_weight, row_weight, argument_weight, list_weight, optional_weight, items_weight, target_weight, statement_weight, row_of_statements_weight, body_weight, function_weight, functions_weight}

-- ---- weights, as the reader makes what is weighed

weight-Index : (a : Mark Name) (index : Expr Name) → expression_weight (expression.Index a index) ≡ expression_weight index + 1
weight-Index a index = ap expression_weight (Index-Element a index)

weight-Input : (index : Expr Name) → expression_weight (expression.Input index) ≡ expression_weight index + 1
weight-Input index = ap expression_weight (Input-InputAt index)

weight-Unary : (o : Op) (operand : Expr Name) → expression_weight (expression.Unary o operand) ≡ expression_weight operand + 1
weight-Unary o operand = ap expression_weight (Unary-Prefixed o operand)

weight-Binary : (o : Op) (left right : Expr Name) → expression_weight (expression.Binary o left right) ≡ expression_weight left + expression_weight right + 1
weight-Binary o left right = ap expression_weight (Binary-Joined o left right)

row_is : (n : _) (row : Row_of-Arg Name n) → row_weight row ≡ list_weight (items-the_row-Arg Name n row)
row_is n end_of-Arg = refl
row_is n (more_of-Arg first more) = ap (λ w. argument_weight first + w) (row_is _ more)

weight-Call : (c : calls.Call Name) → expression_weight (expression.Call c) ≡ list_weight c.arguments + 1
weight-Call c =
    let row = row_of_call (expression.Call c) in
    ap (λ w. w + 1) (row_is row.0 row.1 ∙ ap list_weight (items_hidden-the_row-Arg-1 Name c.arguments))

block_is : (n : _) (row : Row_of-Stmt Name n) → row_of_statements_weight row ≡ body_weight (items-the_row-Stmt Name n row)
block_is n end_of-Stmt = refl
block_is n (more_of-Stmt first more) = ap (λ w. statement_weight first + w) (block_is _ more)

weight-Block : (body : List (Stmt Name)) → statement_weight (statement.Block body) ≡ body_weight body
weight-Block body =
    let row = row_of_block (statement.Block body) in
    block_is row.0 row.1 ∙ ap body_weight (items_hidden-the_row-Stmt-1 Name body)

weight-Split : (whole : Mark Name) (index : Expr Name) (left right : Mark Name) (body : List (Stmt Name)) (close : ℕ)
    → statement_weight (statement.Split whole index left right body close) ≡ expression_weight index + body_weight body + 1
weight-Split whole index left right body close =
    let row = row_of_block (statement.Split whole index left right body close) in
    ap (λ w. expression_weight index + w + 1) (block_is row.0 row.1 ∙ ap body_weight (items_hidden-the_row-Stmt-1 Name body))

-- ---- at least so many tokens

-- there are at least so many tokens
record AtLeast (n : ℕ) (tokens : List CountedToken) : Type 0 where
  many : n ≤ length tokens

end : AtLeast 0 []
end = record { many = omega arith }

-- a token and those behind it
one : {n : ℕ} (t : CountedToken) {tokens : List CountedToken} → AtLeast n tokens → AtLeast (n + 1) (t ∷ tokens)
one t h = record { many = omega (arith, h.many) }

-- tokens and those behind them
both : {m n : ℕ} {x y : List CountedToken} → AtLeast m x → AtLeast n y → AtLeast (m + n) (x ++ y)
both {x = x} {y = y} h k = record { many = omega (arith, h.many, k.many, length-append x y) }

fewer : {m n : ℕ} {x : List CountedToken} → AtLeast m x → n ≤ m → AtLeast n x
fewer h le = record { many = omega (arith, h.many, le) }

-- ---- expressions

mutual
  of_expression : {level : ℕ} (n : ℕ) (e : Expression level) → AtLeast (expression_weight (lower_expression e)) (expression_tokens n e)
  of_expression n (Expression.literal at value) = one _ end
  of_expression n (Expression.variable x) = one _ end
  of_expression n (Expression.element a opening index closing) =
      fewer (one _ (one _ (both (of_expression 0 index) (one _ end)))) (omega (arith, weight-Index a (lower_expression index)))
  of_expression n (Expression.pointee star p) = fewer (one _ (one _ end)) (omega (arith, weight-Index p (expression.Number (pos 0))))
  of_expression n (Expression.called c) = of_call c
  of_expression n (Expression.len word opening a closing) = fewer (one _ (one _ (one _ (one _ end)))) (omega arith)
  of_expression n (Expression.input word opening index closing) =
      fewer (one _ (one _ (both (of_expression 0 index) (one _ end)))) (omega (arith, weight-Input (lower_expression index)))
  of_expression n (Expression.inputs word opening closing) = fewer (one _ (one _ (one _ end))) (omega arith)
  of_expression n (Expression.grouped opening inner closing) = fewer (one _ (both (of_expression 0 inner) (one _ end))) (omega arith)
  of_expression n (Expression.prefixed o unary at operand tight) =
      fewer (one _ (of_expression (n + 1) operand)) (omega (arith, weight-Unary o (lower_expression operand)))
  of_expression n (Expression.joined o binary left loose at right tight) =
      fewer (both (of_expression n left) (one _ (of_expression (n + operators_of left + 1) right)))
      (omega (arith, weight-Binary o (lower_expression left) (lower_expression right)))

  of_call : (c : grammar.Call) → AtLeast (expression_weight (expression.Call (lower_call c))) (call_tokens c)
  of_call (grammar.Call.alone f opening closing) =
      fewer (one _ (one _ (one _ end))) (omega (arith, weight-Call (lower_call (grammar.Call.alone f opening closing))))
  of_call (grammar.Call.with_ f opening all closing) =
      fewer (one _ (one _ (both (of_arguments all) (one _ end)))) (omega (arith, weight-Call (lower_call (grammar.Call.with_ f opening all closing))))

  of_arguments : (all : Arguments) → AtLeast (list_weight (lower_arguments all)) (arguments_tokens all)
  of_arguments (Arguments.last a) = fewer (of_argument a) (omega arith)
  of_arguments (Arguments.before a comma more) = fewer (both (of_argument a) (one _ (of_arguments more))) (omega arith)

  of_argument : (a : Argument) → AtLeast (argument_weight (lower_argument a)) (argument_tokens a)
  of_argument (Argument.value value) = of_expression 0 value
  of_argument (Argument.address at x) = fewer (one _ (one _ end)) (omega arith)

of_any : (e : AnyExpression) → AtLeast (expression_weight (lower_any e)) (any_tokens e)
of_any (AnyExpression.any value) = of_expression 0 value

of_optional : (o : Option AnyExpression) → AtLeast (optional_weight (lower_optional o)) (optional_tokens o)
of_optional None = end
of_optional (Some value) = of_any value

-- ---- declarations and simple statements

of_item : (i : grammar.Item) → AtLeast (1 + optional_weight (lower_item i).first) (item_tokens i)
of_item (grammar.Item.scalar x) = one _ end
of_item (grammar.Item.set x assign value) = fewer (one _ (one _ (of_any value))) (omega arith)
of_item (grammar.Item.array a opening at size closing) = fewer (one _ (one _ (one _ (one _ end)))) (omega arith)

of_items : (all : grammar.Items) → AtLeast (items_weight (lower_items all)) (items_tokens all)
of_items (grammar.Items.last i) = fewer (of_item i) (omega arith)
of_items (grammar.Items.before i comma more) = fewer (both (of_item i) (one _ (of_items more))) (omega arith)

of_declaration : (q : Quantity) (d : Declaration) → AtLeast (statement_weight (lower_declaration d)) (declaration_tokens q d)
of_declaration q d = fewer (one _ (of_items d.items)) (omega arith)

of_target : (q : Quantity) (t : grammar.Target) → AtLeast (target_weight (lower_target t)) (target_tokens q t)
of_target q (grammar.Target.scalar x) = one _ end
of_target q (grammar.Target.element a opening index closing) = fewer (one _ (one _ (both (of_any index) (one _ end)))) (omega arith)
of_target q (grammar.Target.pointee star p) = fewer (one _ (one _ end)) (omega arith)

of_simple_call : (q : Quantity) (c : grammar.Call) → AtLeast (expression_weight (expression.Call (lower_call c))) (simple_call_tokens q c)
of_simple_call q (grammar.Call.alone f opening closing) =
    fewer (one _ (one _ (one _ end))) (omega (arith, weight-Call (lower_call (grammar.Call.alone f opening closing))))
of_simple_call q (grammar.Call.with_ f opening all closing) =
    fewer (one _ (one _ (both (of_arguments all) (one _ end)))) (omega (arith, weight-Call (lower_call (grammar.Call.with_ f opening all closing))))

of_simple : (q : Quantity) (s : Simple) → AtLeast (statement_weight (lower_simple s)) (simple_tokens q s)
of_simple q (Simple.assign t at value) = fewer (both (of_target q t) (one _ (of_any value))) (omega arith)
of_simple q (Simple.update t o updates at value) = fewer (both (of_target q t) (one _ (of_any value))) (omega arith)
of_simple q (Simple.step_after t up at) = fewer (both (of_target q t) (one _ end)) (omega arith)
of_simple q (Simple.step_before up at t) = fewer (one _ (of_target nothing t)) (omega arith)
of_simple q (Simple.call c) = of_simple_call q c

of_first_part : (p : FirstPart) → AtLeast (statement_weight (lower_first_part p)) (first_part_tokens p)
of_first_part FirstPart.nothing = end
of_first_part (FirstPart.declare d) = of_declaration nothing d
of_first_part (FirstPart.simple s) = of_simple nothing s

of_last_part : (p : Option Simple) → AtLeast (statement_weight (lower_last_part p)) (last_part_tokens p)
of_last_part None = end
of_last_part (Some s) = of_simple nothing s

-- ---- statements

mutual
  of_plain : {is_open : Bool} (d inner : ℕ) (s : Plain is_open) → AtLeast (statement_weight (lower_plain s)) (plain_tokens d inner s)
  of_plain d inner (Plain.simple s semicolon) = fewer (both (of_simple (depth d) s) (one _ end)) (omega arith)
  of_plain d inner (Plain.empty semicolon) = fewer (one _ end) (omega arith)
  of_plain d inner (Plain.block opening body closing) =
      fewer (one _ (both (of_statements inner body) (one _ end))) (omega (arith, weight-Block (lower_statements body)))
  of_plain d inner (Plain.if_alone word opening test closing chosen) =
      fewer (one _ (one _ (both (of_any test) (one _ (of_plain (d + 1) (d + 1) chosen)))))
      (omega (arith, ap statement_weight (If-Alone (lower_any test) (lower_plain chosen))))
  of_plain d inner (Plain.if_else word opening test closing chosen at other) =
      fewer (one _ (one _ (both (of_any test) (one _ (both (of_plain (d + 1) (d + 1) chosen) (one _ (of_plain (d + 1) (d + 1) other)))))))
      (omega (arith, ap statement_weight (If-Else (lower_any test) (lower_plain chosen) (lower_plain other))))
  of_plain d inner (Plain.while word opening test closing body) =
      fewer (one _ (one _ (both (of_any test) (one _ (of_plain (d + 1) (d + 1) body)))))
      (omega (arith, ap statement_weight (While-Loop (lower_any test) (lower_plain body))))
  of_plain d inner (Plain.for word opening first semicolon test second step closing body) =
      fewer (one _ (one _ (both (of_first_part first) (one _ (both (of_optional test) (one _ (both (of_last_part step) (one _ (of_plain (d + 1) (d + 1) body)))))))))
      (omega (arith, ap statement_weight (For-Loop (lower_first_part first) (lower_optional test) (lower_last_part step) (lower_plain body))))
  of_plain d inner (Plain.split word whole at index as_ left comma right opening body closing) =
      fewer (one _ (one _ (one _ (both (of_any index) (one _ (one _ (one _ (one _ (one _ (both (of_statements (d + 1) body) (one _ end)))))))))))
      (omega (arith, weight-Split whole (lower_any index) left right (lower_statements body) closing))
  of_plain d inner (Plain.return word value semicolon) = fewer (one _ (both (of_optional value) (one _ end))) (omega arith)
  of_plain d inner (Plain.print word opening value closing semicolon) =
      fewer (one _ (one _ (both (of_any value) (one _ (one _ end))))) (omega arith)
  of_plain d inner (Plain.sync word semicolon) = fewer (one _ (one _ end)) (omega arith)
  of_plain d inner (Plain.spawn word c semicolon) = fewer (one _ (both (of_call c) (one _ end))) (omega arith)
  of_plain d inner (Plain.spawn_into x assign word c semicolon) = fewer (one _ (one _ (one _ (both (of_call c) (one _ end))))) (omega arith)

  of_statements : (d : ℕ) (all : Statements) → AtLeast (body_weight (lower_statements all)) (statements_tokens d all)
  of_statements d Statements.none = end
  of_statements d (Statements.declare declaration semicolon more) =
      fewer (both (of_declaration (depth d) declaration) (one _ (of_statements d more))) (omega arith)
  of_statements d (Statements.plain first more) = both (of_plain d (d + 1) first) (of_statements d more)

-- ---- functions

of_parameter : (p : Parameter) → AtLeast 1 (parameter_tokens p)
of_parameter (Parameter.scalar int_at x) = fewer (one _ (one _ end)) (omega arith)
of_parameter (Parameter.slice int_at a opening closing) = fewer (one _ (one _ (one _ (one _ end)))) (omega arith)
of_parameter (Parameter.pointer int_at star p) = fewer (one _ (one _ (one _ end))) (omega arith)

of_parameter_list : (all : ParameterList) → AtLeast (length (lower_parameter_list all)) (parameter_list_tokens all)
of_parameter_list (ParameterList.last p) = of_parameter p
of_parameter_list (ParameterList.before p comma more) = fewer (both (of_parameter p) (one _ (of_parameter_list more))) (omega arith)

of_parameters : (all : Parameters) → AtLeast (length (lower_parameters all)) (parameters_tokens all)
of_parameters Parameters.none = end
of_parameters (Parameters.void at) = fewer (one _ end) (omega arith)
of_parameters (Parameters.list all) = of_parameter_list all

of_mark : (o : Option ℕ) → AtLeast 0 (cilk_tokens o)
of_mark o = record { many = omega arith }

of_function : (f : grammar.Function) → AtLeast (function_weight (lower_function f)) (function_tokens f)
of_function f =
    fewer (both (of_mark f.cilk_at) (one _ (one _ (one _ (both (of_parameters f.parameters) (one _ (one _ (both (of_statements 1 f.body) (one _ end)))))))))
    (omega arith)

of_program : (p : grammar.Program) → AtLeast (functions_weight (lower_program p)) (program_tokens p)
of_program (grammar.Program.last f) = fewer (of_function f) (omega arith)
of_program (grammar.Program.before f more) = both (of_function f) (of_program more)

-- ---- texts

few : (low high : ℕ) (tokens : List LocatedToken) → Ascend low high tokens → low + length tokens ≤ high
few low high [] h = omega (arith, h)
few low high (t ∷ tokens) h = omega (arith, h.0, few (t.at + 1) high tokens h.2)

-- a source's functions weigh at most as much as the text has bytes
pub source_weight : (bytes : List ℕ) (tree : Tree) → IsSourceOf bytes tree → functions_weight tree.functions ≤ length bytes
source_weight bytes tree (tokens, read, (parse, same, lowered), long) =
    let count = few 0 (0 + length bytes) tokens (tokens_ascend read) in
    let weight = (of_program parse).many in
    omega (arith, count, weight, length-located (program_tokens parse), ap length same, ap functions_weight lowered)
