-- The literals of a sound program are words, and no array in it is empty.
use Rattle.std.proofs.lemmas.Option.{same_Some, none-some}
use Rattle.std.proofs.Common.{◌≡◌, ℕ, zero, suc, ◌+◌, ◌<◌, List, [], ◌∷◌, ◌++◌, Option, None, Some, refl, sym, ap, ◌∙◌, subst, arith, append_assoc, inl, inr}
use Rattle.std.specs.Prelude.{Bool, pos, FitsSigned, slice_get}
use Rattle.std.specs.Int.{w32}
use Rattle.std.proofs.lemmas.Bool.{cases_lt}
use Rattle.cm_syntax.specs.declared.name.Name.{Name}
use Rattle.cm_syntax.specs.declared.expr.Mark.{Mark}
use Rattle.cm_syntax.specs.declared.expr.Expr.{Expr}
use Rattle.cm_syntax.specs.declared.expr.Expr.TheVariants as expression
use Rattle.cm_syntax.specs.declared.expr.Arg.{Arg}
use Rattle.cm_syntax.specs.declared.expr.Arg.TheVariants as arg
use Rattle.cm_syntax.specs.declared.expr.Call.{Call, Row_of-Arg, end_of-Arg, more_of-Arg, items-the_row-Arg, items_hidden-the_row-Arg-1}
use Rattle.cm_syntax.specs.declared.stmt.Item as items
use Rattle.cm_syntax.specs.declared.stmt.Target.{Target}
use Rattle.cm_syntax.specs.declared.stmt.Target.TheVariants as targets
use Rattle.cm_syntax.specs.declared.stmt.Stmt.{Stmt, Row_of-Stmt, end_of-Stmt, more_of-Stmt, items-the_row-Stmt, items_hidden-the_row-Stmt-1}
use Rattle.cm_syntax.specs.declared.stmt.Stmt.TheVariants as statement
use Rattle.cm_syntax.specs.declared.stmt.Function.{Function}
use Rattle.cm_syntax.specs.declared.stmt.Program.{Program}
use Rattle.cm_syntax.specs.Shape.{Joined, Prefixed, Element, InputAt, IfAlone, IfElse, WhileLoop, ForLoop, Binary-Joined, Unary-Prefixed, Index-Element, Input-InputAt}
use Rattle.cm_syntax.specs.Token.{Tokens}
use Rattle.cm_syntax.specs.ParseTree.{Expression, Arguments, Argument, AnyExpression, Simple, FirstPart, Plain, Statements}
use Rattle.cm_syntax.specs.ParseTree as grammar
use Rattle.cm_syntax.specs.Yield.{Quantity, CountedToken, expression_tokens, call_tokens, arguments_tokens, argument_tokens, any_tokens, optional_tokens, item_tokens, items_tokens, declaration_tokens, target_tokens, simple_call_tokens, simple_tokens, first_part_tokens, last_part_tokens, plain_tokens, statements_tokens, cilk_tokens, parameters_tokens, function_tokens, program_tokens, located_tokens}
use Rattle.cm_syntax.specs.Lowering.{lower_expression, lower_call, lower_arguments, lower_argument, lower_any, lower_optional, lower_item, lower_items, lower_target, lower_step, lower_simple, lower_first_part, lower_last_part, lower_plain, lower_statements, lower_function, lower_program}
use Rattle.cm_syntax.specs.Refusal.{IsTooMuch, Refusal, HasNoRefusal}
use Rattle.cm_syntax.specs.Limit.{max_literal}
use Rattle.cm_syntax.specs.Resolution.{Variable, Scope, lookup, inner_scope, function_scope, declare_name, declare_items, split_scope, reserve_slots, scope_after, ArgumentForm, value_form, slice_form, any_form, variable_form, resolve_mark, resolve_function_mark, resolve_bare, resolve_expression, resolve_arguments, resolve_argument, resolve_optional, resolve_call, resolve_target, resolve_items, resolve_statement, resolve_statements, resolve_body, resolve_functions}
use Rattle.cm_syntax.specs.Fault.{IsSoundProgram}
use Rattle.cm_syntax.proofs.Rows.{row_of_block, row_of_call}
use Rattle.cm_syntax.proofs.YieldLaw.{located-append}
use Rattle.cm_syntax.proofs.StatementLaw.{If-Alone, If-Else, While-Loop, For-Loop}
use Rattle.cm_gen.specs.Literal.{LiteralsFit, RowLiteralsFit, ArgumentLiteralsFit, OptionLiteralsFit, HasSize, ItemsLiteralsFit, TargetLiteralsFit, StatementLiteralsFit, SequenceLiteralsFit, BodyLiteralsFit}
use Rattle.cm_gen.proofs.states.ValueFitsLaw.{natural_fits}

-- ---- the tokens of a source without a refused offset

-- at none of the tokens is too much counted
abbrev AreSmall : List CountedToken → Type 0
AreSmall [] = Unit {0}
AreSmall (t ∷ more) = (IsTooMuch t.quantity → ⊥) × AreSmall more

apart : (a b : List CountedToken) → AreSmall (a ++ b) → AreSmall a × AreSmall b
apart [] b h = (tt, h)
apart (t ∷ a) b h = let later = apart a b h.1 in ((h.0, later.0), later.1)

module _ (bytes : List ℕ) (source : grammar.Program) (read : Tokens 0 bytes (located_tokens (program_tokens source))) (sound : HasNoRefusal bytes) where
  small_from : (before more : List CountedToken) → program_tokens source ≡ before ++ more → AreSmall more
  small_from before [] begins = tt
  small_from before (t ∷ more) begins = (
    λ much. sound Refusal.size t.located.at (inl (record {
      before = before;
      token = t;
      after = located_tokens more;
      read = subst (Tokens 0 bytes) (ap located_tokens begins ∙ located-append before (t ∷ more)) read;
      offset = refl;
      source = source;
      more = more;
      begins = begins;
      much = inl much;
    })),
    small_from (before ++ t ∷ []) more (begins ∙ sym (append_assoc before (t ∷ []) more)),
  )

literal_fits : (n : ℕ) → (max_literal < n → ⊥) → FitsSigned w32 (pos n)
literal_fits n small = elim (cases_lt max_literal n) [
  | inl more ↦ absurd (small more)
  | inr less ↦ natural_fits n (omega (arith, less))
]

some_words : (n : ℕ) → (n ≡ 0 → ⊥) → 0 < n
some_words zero h = absurd (h refl)
some_words (suc n) h = omega arith

-- ---- each variant as it is made

abbrev ListLiteralsFit : {N : Type 0} → List (Arg N) → Type 0
ListLiteralsFit [] = Unit {0}
ListLiteralsFit (first ∷ more) = ArgumentLiteralsFit first × ListLiteralsFit more

row_literals : {N : Type 0} (n : _) (row : Row_of-Arg N n) → ListLiteralsFit (items-the_row-Arg N n row) → RowLiteralsFit row
row_literals n end_of-Arg h = tt
row_literals n (more_of-Arg first more) h = (h.0, row_literals _ more h.1)

literals-Call : {N : Type 0} (call : Call N) → ListLiteralsFit call.arguments → LiteralsFit (expression.Call call)
literals-Call {N} call h =
    let row = row_of_call (expression.Call call) in
    row_literals row.0 row.1 (subst ListLiteralsFit (sym (items_hidden-the_row-Arg-1 N call.arguments)) h)

sequence_literals : {N : Type 0} (n : _) (row : Row_of-Stmt N n) → BodyLiteralsFit (items-the_row-Stmt N n row) → SequenceLiteralsFit row
sequence_literals n end_of-Stmt h = tt
sequence_literals n (more_of-Stmt first more) h = (h.0, sequence_literals _ more h.1)

literals-Block : {N : Type 0} (body : List (Stmt N)) → BodyLiteralsFit body → StatementLiteralsFit (statement.Block body)
literals-Block {N} body h =
    let row = row_of_block (statement.Block body) in
    sequence_literals row.0 row.1 (subst BodyLiteralsFit (sym (items_hidden-the_row-Stmt-1 N body)) h)

literals-Split : {N : Type 0} (whole : Mark N) (place : Expr N) (l r : Mark N) (body : List (Stmt N)) (close : _) →
    LiteralsFit place → BodyLiteralsFit body → StatementLiteralsFit (statement.Split whole place l r body close)
literals-Split {N} whole place l r body close p h =
    let row = row_of_block (statement.Split whole place l r body close) in
    (p, sequence_literals row.0 row.1 (subst BodyLiteralsFit (sym (items_hidden-the_row-Stmt-1 N body)) h))

-- ---- trees of a source

zero_fits : FitsSigned w32 (pos 0)
zero_fits = natural_fits 0 (omega arith)

one_fits : FitsSigned w32 (pos 1)
one_fits = natural_fits 1 (omega arith)

mutual
  expression_literals : {level : _} (n : ℕ) (e : Expression level) → AreSmall (expression_tokens n e) → LiteralsFit (lower_expression e)
  expression_literals n (Expression.literal at value) h = literal_fits value h.0
  expression_literals n (Expression.variable x) h = tt
  expression_literals n (Expression.element a opening index closing) h =
      subst LiteralsFit (sym (Index-Element a (lower_expression index))) (expression_literals 0 index (apart (expression_tokens 0 index) _ h.1.1).0)
  expression_literals n (Expression.pointee star p) h = subst LiteralsFit (sym (Index-Element p _)) zero_fits
  expression_literals n (Expression.called call) h = call_literals call h
  expression_literals n (Expression.len word opening a closing) h = tt
  expression_literals n (Expression.input word opening index closing) h =
      subst LiteralsFit (sym (Input-InputAt (lower_expression index))) (expression_literals 0 index (apart (expression_tokens 0 index) _ h.1.1).0)
  expression_literals n (Expression.inputs word opening closing) h = tt
  expression_literals n (Expression.grouped opening inner closing) h = expression_literals 0 inner (apart (expression_tokens 0 inner) _ h.1).0
  expression_literals n (Expression.prefixed o unary at operand tight) h =
      subst LiteralsFit (sym (Unary-Prefixed o (lower_expression operand))) (expression_literals (n + 1) operand h.1)
  expression_literals n (Expression.joined o binary left loose at right tight) h =
      let both = apart (expression_tokens n left) _ h in
      subst LiteralsFit (sym (Binary-Joined o (lower_expression left) (lower_expression right))) (expression_literals n left both.0, expression_literals _ right both.1.1)

  call_literals : (call : grammar.Call) → AreSmall (call_tokens call) → LiteralsFit (expression.Call (lower_call call))
  call_literals (grammar.Call.alone f opening closing) h = literals-Call (lower_call (grammar.Call.alone f opening closing)) tt
  call_literals (grammar.Call.with_ f opening arguments closing) h =
      literals-Call (lower_call (grammar.Call.with_ f opening arguments closing)) (arguments_literals arguments (apart (arguments_tokens arguments) _ h.1.1).0)

  arguments_literals : (arguments : Arguments) → AreSmall (arguments_tokens arguments) → ListLiteralsFit (lower_arguments arguments)
  arguments_literals (Arguments.last one) h = (argument_literals one h, tt)
  arguments_literals (Arguments.before one comma more) h =
      let both = apart (argument_tokens one) _ h in
      (argument_literals one both.0, arguments_literals more both.1.1)

  argument_literals : (one : Argument) → AreSmall (argument_tokens one) → ArgumentLiteralsFit (lower_argument one)
  argument_literals (Argument.value value) h = expression_literals 0 value h
  argument_literals (Argument.address at x) h = tt

any_literals : (e : AnyExpression) → AreSmall (any_tokens e) → LiteralsFit (lower_any e)
any_literals (AnyExpression.any value) h = expression_literals 0 value h

optional_literals : (e : Option AnyExpression) → AreSmall (optional_tokens e) → OptionLiteralsFit (lower_optional e)
optional_literals None h = tt
optional_literals (Some value) h = any_literals value h

item_literals : (x : grammar.Item) → AreSmall (item_tokens x) → OptionLiteralsFit (lower_item x).first × HasSize (lower_item x).slot
item_literals (grammar.Item.scalar x) h = (tt, tt)
item_literals (grammar.Item.set x assign value) h = (any_literals value h.1.1, tt)
item_literals (grammar.Item.array a opening at size closing) h = (tt, some_words size (λ none_. h.1.1.0 (inl none_)))

items_literals : (row : grammar.Items) → AreSmall (items_tokens row) → ItemsLiteralsFit (lower_items row)
items_literals (grammar.Items.last one) h = let first = item_literals one h in (first.0, tt, first.1)
items_literals (grammar.Items.before one comma more) h =
    let both = apart (item_tokens one) _ h in
    let first = item_literals one both.0 in
    (first.0, items_literals more both.1.1, first.1)

target_literals : (q : Quantity) (t : grammar.Target) → AreSmall (target_tokens q t) → TargetLiteralsFit (lower_target t)
target_literals q (grammar.Target.scalar x) h = tt
target_literals q (grammar.Target.element a opening index closing) h = any_literals index (apart (any_tokens index) _ h.1.1).0
target_literals q (grammar.Target.pointee star p) h = zero_fits

simple_call_literals : (q : Quantity) (call : grammar.Call) → AreSmall (simple_call_tokens q call) → LiteralsFit (expression.Call (lower_call call))
simple_call_literals q (grammar.Call.alone f opening closing) h = literals-Call (lower_call (grammar.Call.alone f opening closing)) tt
simple_call_literals q (grammar.Call.with_ f opening arguments closing) h =
    literals-Call (lower_call (grammar.Call.with_ f opening arguments closing)) (arguments_literals arguments (apart (arguments_tokens arguments) _ h.1.1).0)

step_literals : (up : Bool) (t : grammar.Target) → TargetLiteralsFit (lower_target t) → StatementLiteralsFit (lower_step up t)
step_literals up t h = (h, one_fits)

simple_literals : (q : Quantity) (s : Simple) → AreSmall (simple_tokens q s) → StatementLiteralsFit (lower_simple s)
simple_literals q (Simple.assign t at value) h = let both = apart (target_tokens q t) _ h in (target_literals q t both.0, any_literals value both.1.1)
simple_literals q (Simple.update t o updates at value) h = let both = apart (target_tokens q t) _ h in (target_literals q t both.0, any_literals value both.1.1)
simple_literals q (Simple.step_after t up at) h = step_literals up t (target_literals q t (apart (target_tokens q t) _ h).0)
simple_literals q (Simple.step_before up at t) h = step_literals up t (target_literals Quantity.nothing t h.1)
simple_literals q (Simple.call call) h = simple_call_literals q call h

first_literals : (s : FirstPart) → AreSmall (first_part_tokens s) → StatementLiteralsFit (lower_first_part s)
first_literals FirstPart.nothing h = tt
first_literals (FirstPart.declare declaration) h = items_literals declaration.items h.1
first_literals (FirstPart.simple s) h = simple_literals Quantity.nothing s h

last_literals : (s : Option Simple) → AreSmall (last_part_tokens s) → StatementLiteralsFit (lower_last_part s)
last_literals None h = tt
last_literals (Some s) h = simple_literals Quantity.nothing s h

mutual
  plain_literals : {is_open : Bool} (d inner : ℕ) (s : Plain is_open) → AreSmall (plain_tokens d inner s) → StatementLiteralsFit (lower_plain s)
  plain_literals d inner (Plain.simple s semicolon) h = simple_literals (Quantity.depth d) s (apart (simple_tokens (Quantity.depth d) s) _ h).0
  plain_literals d inner (Plain.empty semicolon) h = tt
  plain_literals d inner (Plain.block opening body closing) h = literals-Block (lower_statements body) (statements_literals inner body (apart (statements_tokens inner body) _ h.1).0)
  plain_literals d inner (Plain.if_alone word opening test closing chosen) h =
      let a = apart (any_tokens test) _ h.1.1 in
      subst StatementLiteralsFit (sym (If-Alone (lower_any test) (lower_plain chosen))) (any_literals test a.0, plain_literals (d + 1) (d + 1) chosen a.1.1)
  plain_literals d inner (Plain.if_else word opening test closing chosen at other) h =
      let a = apart (any_tokens test) _ h.1.1 in
      let b = apart (plain_tokens (d + 1) (d + 1) chosen) _ a.1.1 in
      subst StatementLiteralsFit (sym (If-Else (lower_any test) (lower_plain chosen) (lower_plain other)))
      (any_literals test a.0, plain_literals (d + 1) (d + 1) chosen b.0, plain_literals (d + 1) (d + 1) other b.1.1)
  plain_literals d inner (Plain.while word opening test closing body) h =
      let a = apart (any_tokens test) _ h.1.1 in
      subst StatementLiteralsFit (sym (While-Loop (lower_any test) (lower_plain body))) (any_literals test a.0, plain_literals (d + 1) (d + 1) body a.1.1)
  plain_literals d inner (Plain.for word opening first semicolon test second step closing body) h =
      let a = apart (first_part_tokens first) _ h.1.1 in
      let b = apart (optional_tokens test) _ a.1.1 in
      let c = apart (last_part_tokens step) _ b.1.1 in
      subst StatementLiteralsFit (sym (For-Loop (lower_first_part first) (lower_optional test) (lower_last_part step) (lower_plain body)))
      (first_literals first a.0, optional_literals test b.0, last_literals step c.0, plain_literals (d + 1) (d + 1) body c.1.1)
  plain_literals d inner (Plain.split word whole at index as_ left comma right opening body closing) h =
      let a = apart (any_tokens index) _ h.1.1.1 in
      let b = apart (statements_tokens (d + 1) body) _ a.1.1.1.1.1.1 in
      literals-Split whole (lower_any index) left right (lower_statements body) closing (any_literals index a.0) (statements_literals (d + 1) body b.0)
  plain_literals d inner (Plain.return word value semicolon) h = optional_literals value (apart (optional_tokens value) _ h.1).0
  plain_literals d inner (Plain.print word opening value closing semicolon) h = any_literals value (apart (any_tokens value) _ h.1.1).0
  plain_literals d inner (Plain.sync word semicolon) h = tt
  plain_literals d inner (Plain.spawn word call semicolon) h = call_literals call (apart (call_tokens call) _ h.1).0
  plain_literals d inner (Plain.spawn_into x assign word call semicolon) h = call_literals call (apart (call_tokens call) _ h.1.1.1).0

  statements_literals : (d : ℕ) (body : Statements) → AreSmall (statements_tokens d body) → BodyLiteralsFit (lower_statements body)
  statements_literals d Statements.none h = tt
  statements_literals d (Statements.declare declaration semicolon more) h =
      let a = apart (declaration_tokens (Quantity.depth d) declaration) _ h in
      (items_literals declaration.items a.0.1, statements_literals d more a.1.1)
  statements_literals d (Statements.plain first more) h =
      let a = apart (plain_tokens d (d + 1) first) _ h in
      (plain_literals d (d + 1) first a.0, statements_literals d more a.1)

-- of functions
abbrev AllLiteralsFit : {N : Type 0} → List (Function N) → Type 0
AllLiteralsFit [] = Unit {0}
AllLiteralsFit (f ∷ more) = BodyLiteralsFit f.body × AllLiteralsFit more

function_literals : (f : grammar.Function) → AreSmall (function_tokens f) → BodyLiteralsFit (lower_function f).body
function_literals f h =
    let a = apart (cilk_tokens f.cilk_at) _ h in
    let b = apart (parameters_tokens f.parameters) _ a.1.1.1.1 in
    statements_literals 1 f.body (apart (statements_tokens 1 f.body) _ b.1.1.1).0

program_literals : (source : grammar.Program) → AreSmall (program_tokens source) → AllLiteralsFit (lower_program source)
program_literals (grammar.Program.last f) h = (function_literals f h, tt)
program_literals (grammar.Program.before f more) h = let a = apart (function_tokens f) _ h in (function_literals f a.0, program_literals more a.1)

-- ---- the numbered program

module _ (functions : List (Function Name)) where
  bare_literals : (visible : List Variable) (x : Mark Name) (form : ArgumentForm) → ArgumentLiteralsFit (resolve_bare visible x form)
  bare_literals visible x value_form = tt
  bare_literals visible x slice_form = tt
  bare_literals visible x any_form = tt

  mutual
    numbered_expression : (visible : List Variable) (e : Expr Name) → LiteralsFit e → LiteralsFit (resolve_expression functions visible e)
    numbered_expression visible (expression.Number n) h = h
    numbered_expression visible (expression.Scalar x) h = tt
    numbered_expression visible (Element a index) h =
        subst LiteralsFit (sym (Index-Element (resolve_mark visible a) (resolve_expression functions visible index))) (numbered_expression visible index h)
    numbered_expression visible (expression.Len a) h = tt
    numbered_expression visible (InputAt index) h = subst LiteralsFit (sym (Input-InputAt (resolve_expression functions visible index))) (numbered_expression visible index h)
    numbered_expression visible expression.Inputs h = tt
    numbered_expression visible (Prefixed o e) h = subst LiteralsFit (sym (Unary-Prefixed o (resolve_expression functions visible e))) (numbered_expression visible e h)
    numbered_expression visible (Joined o l r) h =
        subst LiteralsFit (sym (Binary-Joined o (resolve_expression functions visible l) (resolve_expression functions visible r))) (numbered_expression visible l h.0, numbered_expression visible r h.1)
    numbered_expression visible (expression.Call' g _ row) h =
        literals-Call (record { function = resolve_function_mark functions g; arguments = resolve_arguments functions visible row }) (numbered_arguments visible row h)

    numbered_arguments : {n : _} (visible : List Variable) (row : Row_of-Arg Name n) → RowLiteralsFit row → ListLiteralsFit (resolve_arguments functions visible row)
    numbered_arguments visible end_of-Arg h = tt
    numbered_arguments visible (more_of-Arg first more) h = (numbered_argument visible first h.0, numbered_arguments visible more h.1)

    numbered_argument : (visible : List Variable) (a : Arg Name) → ArgumentLiteralsFit a → ArgumentLiteralsFit (resolve_argument functions visible a)
    numbered_argument visible (arg.Value (expression.Scalar x)) h = bare_literals visible x (variable_form (lookup visible x.name))
    numbered_argument visible (arg.Value value) h = numbered_expression visible value h
    numbered_argument visible (arg.Slice a) h = tt
    numbered_argument visible (arg.Address x) h = tt

  numbered_optional : (visible : List Variable) (e : Option (Expr Name)) → OptionLiteralsFit e → OptionLiteralsFit (resolve_optional functions visible e)
  numbered_optional visible None h = tt
  numbered_optional visible (Some e) h = numbered_expression visible e h

  numbered_call : (visible : List Variable) (e : Expr Name) → LiteralsFit e → LiteralsFit (expression.Call (resolve_call functions visible e))
  numbered_call visible (expression.Call' g _ row) h =
      literals-Call (record { function = resolve_function_mark functions g; arguments = resolve_arguments functions visible row }) (numbered_arguments visible row h)
  numbered_call visible e h = literals-Call (resolve_call functions visible e) tt

  numbered_items : (scope : Scope) (row : List (items.Item Name)) → ItemsLiteralsFit row → ItemsLiteralsFit (resolve_items functions scope row)
  numbered_items scope [] h = tt
  numbered_items scope (x ∷ more) h = (numbered_optional scope.visible x.first h.0, numbered_items (declare_name scope x.name x.slot) more h.1, h.2)

  numbered_target : (visible : List Variable) (t : Target Name) → TargetLiteralsFit t → TargetLiteralsFit (resolve_target functions visible t)
  numbered_target visible (targets.Scalar x) h = tt
  numbered_target visible (targets.Index a index) h = numbered_expression visible index h

  mutual
    numbered_statement : (scope : Scope) (s : Stmt Name) → StatementLiteralsFit s → StatementLiteralsFit (resolve_statement functions scope s)
    numbered_statement scope statement.Empty h = tt
    numbered_statement scope (statement.Declare row) h = numbered_items scope row h
    numbered_statement scope (statement.Assign written o e) h = (numbered_target scope.visible written h.0, numbered_expression scope.visible e h.1)
    numbered_statement scope (statement.Call call) h = numbered_call scope.visible (expression.Call call) h
    numbered_statement scope (statement.Spawn at x call) h = numbered_call scope.visible (expression.Call call) h
    numbered_statement scope (statement.Sync at) h = tt
    numbered_statement scope (IfAlone t s) h =
        subst StatementLiteralsFit (sym (If-Alone (resolve_expression functions scope.visible t) (resolve_statement functions (inner_scope scope) s)))
        (numbered_expression scope.visible t h.0, numbered_statement (inner_scope scope) s h.1)
    numbered_statement scope (IfElse t s o) h =
        subst StatementLiteralsFit (sym (If-Else (resolve_expression functions scope.visible t) (resolve_statement functions (inner_scope scope) s) (resolve_statement functions (inner_scope (reserve_slots scope s)) o)))
        (numbered_expression scope.visible t h.0, numbered_statement (inner_scope scope) s h.1, numbered_statement (inner_scope (reserve_slots scope s)) o h.2)
    numbered_statement scope (WhileLoop t b) h =
        subst StatementLiteralsFit (sym (While-Loop (resolve_expression functions scope.visible t) (resolve_statement functions (inner_scope scope) b)))
        (numbered_expression scope.visible t h.0, numbered_statement (inner_scope scope) b h.1)
    numbered_statement scope (ForLoop first t s b) h =
        let header = scope_after (inner_scope scope) first in
        let within = inner_scope (reserve_slots header s) in
        subst StatementLiteralsFit (sym (For-Loop (resolve_statement functions (inner_scope scope) first) (resolve_optional functions header.visible t) (resolve_statement functions header s) (resolve_statement functions within b)))
        (numbered_statement (inner_scope scope) first h.0, numbered_optional header.visible t h.1, numbered_statement header s h.2, numbered_statement within b h.3)
    numbered_statement scope (statement.Split' whole e left right _ row close) h =
        let l : Mark ℕ = record { name = scope.next_slot; at = left.at } in
        let r : Mark ℕ = record { name = scope.next_slot + 1; at = right.at } in
        literals-Split (resolve_mark scope.visible whole) (resolve_expression functions scope.visible e) l r (resolve_statements functions (inner_scope (split_scope scope whole left right)) row) close
        (numbered_expression scope.visible e h.0) (numbered_statements (inner_scope (split_scope scope whole left right)) row h.1)
    numbered_statement scope (statement.Return at e) h = numbered_optional scope.visible e h
    numbered_statement scope (statement.Print e) h = numbered_expression scope.visible e h
    numbered_statement scope (statement.Block' _ row) h = literals-Block (resolve_statements functions (inner_scope scope) row) (numbered_statements (inner_scope scope) row h)

    numbered_statements : {n : _} (scope : Scope) (row : Row_of-Stmt Name n) → SequenceLiteralsFit row → BodyLiteralsFit (resolve_statements functions scope row)
    numbered_statements scope end_of-Stmt h = tt
    numbered_statements scope (more_of-Stmt first more) h = (numbered_statement scope first h.0, numbered_statements (scope_after scope first) more h.1)

  numbered_body : (scope : Scope) (body : List (Stmt Name)) → BodyLiteralsFit body → BodyLiteralsFit (resolve_body functions scope body)
  numbered_body scope [] h = tt
  numbered_body scope (first ∷ more) h = (numbered_statement scope first h.0, numbered_body (scope_after scope first) more h.1)

  numbered_functions : (index : ℕ) (fs : List (Function Name)) → AllLiteralsFit fs → AllLiteralsFit (resolve_functions functions index fs)
  numbered_functions index [] h = tt
  numbered_functions index (f ∷ more) h = (numbered_body (declare_items function_scope f.parameters) f.body h.0, numbered_functions (index + 1) more h.1)

literals_at : (fs : List (Function ℕ)) (i : ℕ) (f : Function ℕ) → AllLiteralsFit fs → slice_get fs i ≡ Some f → BodyLiteralsFit f.body
literals_at [] i f h e = absurd (none-some f e)
literals_at (g ∷ fs) zero f h e = subst (λ (z : Function ℕ). BodyLiteralsFit z.body) (same_Some g f e) h.0
literals_at (g ∷ fs) (suc i) f h e = literals_at fs i f h.1 e

-- the literals in a function of a sound program are words, and its arrays have at least one word
pub sound_literals : (program : Program) → IsSoundProgram program → (f : ℕ) (function : Function ℕ) → slice_get program.functions f ≡ Some function → BodyLiteralsFit function.body
sound_literals program (tree, (bytes, (tokens, read, (source, yields, is), counted), sound), clean, made) f function e =
    let small = small_from bytes source (subst (Tokens 0 bytes) (sym yields) read) sound [] (program_tokens source) refl in
    let all : AllLiteralsFit tree.functions = subst AllLiteralsFit is (program_literals source small) in
    literals_at program.functions f function (subst (λ (p : Program). AllLiteralsFit p.functions) (sym made) (numbered_functions tree.functions 0 tree.functions all)) e
