-- The numbers of a program are the slots and the indices of the uses, and its own names are numbered in their order.
use Rattle.std.proofs.Common.{◌≡◌, ℕ, zero, suc, ◌+◌, Bool, true, false, List, [], ◌∷◌, ◌++◌, length, refl, sym, ap, ◌∙◌, arith, Option, None, Some, append_assoc, length-append, if◌then◌else◌}
use Rattle.std.proofs.lemmas.List.{length-map}
use Rattle.std.specs.Prelude.{⊤, map, option_map}
use Rattle.std.specs.List.{list_any, range_with_len}
use Rattle.cm_syntax.specs.declared.name.Name.{Name}
use Rattle.cm_syntax.specs.declared.expr.Mark.{Mark}
use Rattle.cm_syntax.specs.declared.expr.Expr.{Expr}
use Rattle.cm_syntax.specs.declared.expr.Expr.TheVariants as expression
use Rattle.cm_syntax.specs.declared.expr.Arg.{Arg}
use Rattle.cm_syntax.specs.declared.expr.Arg.TheVariants as argument
use Rattle.cm_syntax.specs.declared.expr.Call.{Call, Row_of-Arg, end_of-Arg, more_of-Arg, items-the_row-Arg, items_hidden-the_row-Arg-1}
use Rattle.cm_syntax.specs.declared.stmt.Item.{Item}
use Rattle.cm_syntax.specs.declared.stmt.Target.{Target}
use Rattle.cm_syntax.specs.declared.stmt.Target.TheVariants as target
use Rattle.cm_syntax.specs.declared.stmt.Stmt.{Stmt, Row_of-Stmt, end_of-Stmt, more_of-Stmt, items-the_row-Stmt, items_hidden-the_row-Stmt-1}
use Rattle.cm_syntax.specs.declared.stmt.Stmt.TheVariants as statement
use Rattle.cm_syntax.specs.declared.stmt.Function.{Function}
use Rattle.cm_syntax.specs.Shape.{Joined, Prefixed, Element, InputAt, IfAlone, IfElse, WhileLoop, ForLoop, Binary-Joined, Unary-Prefixed, Index-Element, Input-InputAt}
use Rattle.cm_syntax.specs.Text.{is_same}
use Rattle.cm_syntax.specs.Resolution.{Variable, Scope, Role, lookup, inner_scope, function_scope, declare_name, declare_items, split_scope, slot_count, slots_count, reserve_slots, scope_after, statement_slots, body_slots, function_slots, ArgumentForm, value_form, slice_form, any_form, variable_form, Use, mention, redeclaration, parallel_keyword, expression_uses, arguments_uses, argument_uses, optional_uses, call_uses, target_uses, redeclaration_uses, items_uses, spawn_uses, statement_uses, statements_uses, body_uses, function_uses, variable_number, function_number, resolve_mark, resolve_bare, resolve_expression, resolve_arguments, resolve_argument, resolve_optional, resolve_call, resolve_target, resolve_items, resolve_statement, resolve_statements, resolve_body, resolve_function}
use Rattle.cm_syntax.specs.Number.{expression_numbers, arguments_numbers, argument_numbers, optional_numbers, target_numbers, destination_numbers, items_numbers, statement_numbers, statements_numbers, body_numbers, function_numbers, declared_items, declared_statement, declared_statements, declared_body, declared_numbers, use_numbers, uses_numbers}
use Rattle.cm_syntax.proofs.Rows.{row_of_block, row_of_call}
use Rattle.cm_syntax.proofs.StatementLaw.{If-Alone, If-Else, While-Loop, For-Loop}
use Rattle.cm_syntax.proofs.naming.NameLaw.{slots_counted}

-- ---- the numbers of each variant as the code makes it

-- the numbers of arguments in a list
abbrev list_numbers : List (Arg ℕ) → List ℕ
list_numbers [] = []
list_numbers (first ∷ more) = argument_numbers first ++ list_numbers more

row_numbers : (n : _) (row : Row_of-Arg ℕ n) → arguments_numbers row ≡ list_numbers (items-the_row-Arg ℕ n row)
row_numbers n end_of-Arg = refl
row_numbers n (more_of-Arg first more) = ap (λ t. argument_numbers first ++ t) (row_numbers _ more)

numbers-Call : (call : Call ℕ) → expression_numbers (expression.Call call) ≡ call.function.name ∷ list_numbers call.arguments
numbers-Call call =
    let row = row_of_call (expression.Call call) in
    ap (λ t. call.function.name ∷ t) (row_numbers row.0 row.1 ∙ ap list_numbers (items_hidden-the_row-Arg-1 ℕ call.arguments))

block_numbers : (n : _) (row : Row_of-Stmt ℕ n) → statements_numbers row ≡ body_numbers (items-the_row-Stmt ℕ n row)
block_numbers n end_of-Stmt = refl
block_numbers n (more_of-Stmt first more) = ap (λ t. statement_numbers first ++ t) (block_numbers _ more)

block_declares : (n : _) (row : Row_of-Stmt ℕ n) → declared_statements row ≡ declared_body (items-the_row-Stmt ℕ n row)
block_declares n end_of-Stmt = refl
block_declares n (more_of-Stmt first more) = ap (λ t. declared_statement first ++ t) (block_declares _ more)

numbers-Block : (body : List (Stmt ℕ)) → statement_numbers (statement.Block body) ≡ body_numbers body
numbers-Block body =
    let row = row_of_block (statement.Block body) in
    block_numbers row.0 row.1 ∙ ap body_numbers (items_hidden-the_row-Stmt-1 ℕ body)

declares-Block : (body : List (Stmt ℕ)) → declared_statement (statement.Block body) ≡ declared_body body
declares-Block body =
    let row = row_of_block (statement.Block body) in
    block_declares row.0 row.1 ∙ ap declared_body (items_hidden-the_row-Stmt-1 ℕ body)

numbers-Split : (whole : Mark ℕ) (index : Expr ℕ) (left right : Mark ℕ) (body : List (Stmt ℕ)) (close : ℕ) →
    statement_numbers (statement.Split whole index left right body close) ≡ whole.name ∷ (expression_numbers index ++ body_numbers body)
numbers-Split whole index left right body close =
    let row = row_of_block (statement.Split whole index left right body close) in
    ap (λ t. whole.name ∷ (expression_numbers index ++ t)) (block_numbers row.0 row.1 ∙ ap body_numbers (items_hidden-the_row-Stmt-1 ℕ body))

declares-Split : (whole : Mark ℕ) (index : Expr ℕ) (left right : Mark ℕ) (body : List (Stmt ℕ)) (close : ℕ) →
    declared_statement (statement.Split whole index left right body close) ≡ left.name ∷ right.name ∷ declared_body body
declares-Split whole index left right body close =
    let row = row_of_block (statement.Split whole index left right body close) in
    ap (λ t. left.name ∷ right.name ∷ t) (block_declares row.0 row.1 ∙ ap declared_body (items_hidden-the_row-Stmt-1 ℕ body))

-- ---- mentions

module _ (functions : List (Function Name)) where
  uses-append : (a b : List Use) → uses_numbers functions (a ++ b) ≡ uses_numbers functions a ++ uses_numbers functions b
  uses-append [] b = refl
  uses-append (first ∷ more) b =
      ap (λ t. use_numbers functions first ++ t) (uses-append more b) ∙ sym (append_assoc (use_numbers functions first) (uses_numbers functions more) (uses_numbers functions b))

  -- two lists of uses, one behind the other
  both : (a b : List Use) (x y : List ℕ) → x ≡ uses_numbers functions a → y ≡ uses_numbers functions b → x ++ y ≡ uses_numbers functions (a ++ b)
  both a b x y h i = ap (λ t. t ++ y) h ∙ (ap (λ t. uses_numbers functions a ++ t) i ∙ sym (uses-append a b))

  -- a mention, and then other uses
  mentioned : (v : Option Variable) (x : Mark Name) (role : Role) (rest : List ℕ) (uses : List Use) → rest ≡ uses_numbers functions uses →
      variable_number v ∷ rest ≡ uses_numbers functions (mention x role v ∷ uses)
  mentioned None x role rest uses h = ap (λ t. 0 ∷ t) h
  mentioned (Some v) x role rest uses h = ap (λ t. v.slot ∷ t) h

  bare_numbers : (visible : List Variable) (x : Mark Name) (form : ArgumentForm) → argument_numbers (resolve_bare visible x form) ≡ variable_number (lookup visible x.name) ∷ []
  bare_numbers visible x value_form = refl
  bare_numbers visible x slice_form = refl
  bare_numbers visible x any_form = refl

  mutual
    expression_numbered : (visible : List Variable) (e : Expr Name) → expression_numbers (resolve_expression functions visible e) ≡ uses_numbers functions (expression_uses visible e)
    expression_numbered visible (expression.Number value) = refl
    expression_numbered visible (expression.Scalar x) = mentioned (lookup visible x.name) x Role.value_read [] [] refl
    expression_numbered visible (Element a index) =
        ap expression_numbers (Index-Element (resolve_mark visible a) (resolve_expression functions visible index)) ∙
        mentioned (lookup visible a.name) a Role.element_read _ (expression_uses visible index) (expression_numbered visible index)
    expression_numbered visible (expression.Len a) = mentioned (lookup visible a.name) a Role.length_read [] [] refl
    expression_numbered visible (InputAt index) = ap expression_numbers (Input-InputAt (resolve_expression functions visible index)) ∙ expression_numbered visible index
    expression_numbered visible expression.Inputs = refl
    expression_numbered visible (Prefixed op operand) = ap expression_numbers (Unary-Prefixed op (resolve_expression functions visible operand)) ∙ expression_numbered visible operand
    expression_numbered visible (Joined op left right) =
        ap expression_numbers (Binary-Joined op (resolve_expression functions visible left) (resolve_expression functions visible right)) ∙
        both (expression_uses visible left) (expression_uses visible right) _ _ (expression_numbered visible left) (expression_numbered visible right)
    expression_numbered visible (expression.Call' f _ arguments) =
        numbers-Call (record { function = record { name = function_number functions f.name; at = f.at }; arguments = resolve_arguments functions visible arguments }) ∙
        ap (λ t. function_number functions f.name ∷ t) (arguments_numbered visible arguments)

    arguments_numbered : {n : _} (visible : List Variable) (arguments : Row_of-Arg Name n) →
        list_numbers (resolve_arguments functions visible arguments) ≡ uses_numbers functions (arguments_uses visible arguments)
    arguments_numbered visible end_of-Arg = refl
    arguments_numbered visible (more_of-Arg first more) =
        both (argument_uses visible first) (arguments_uses visible more) _ _ (argument_numbered visible first) (arguments_numbered visible more)

    argument_numbered : (visible : List Variable) (one : Arg Name) → argument_numbers (resolve_argument functions visible one) ≡ uses_numbers functions (argument_uses visible one)
    argument_numbered visible (argument.Value (expression.Scalar x)) =
        bare_numbers visible x (variable_form (lookup visible x.name)) ∙ mentioned (lookup visible x.name) x Role.bare_argument [] [] refl
    argument_numbered visible (argument.Value value) = expression_numbered visible value
    argument_numbered visible (argument.Slice a) = mentioned (lookup visible a.name) a Role.bare_argument [] [] refl
    argument_numbered visible (argument.Address x) = mentioned (lookup visible x.name) x Role.reference [] [] refl

  optional_numbered : (visible : List Variable) (value : Option (Expr Name)) →
      optional_numbers (resolve_optional functions visible value) ≡ uses_numbers functions (optional_uses visible value)
  optional_numbered visible None = refl
  optional_numbered visible (Some value) = expression_numbered visible value

  abbrev IsCall : Expr Name → Type 0
  IsCall (expression.Call' f _ arguments) = ⊤
  IsCall _ = ⊥

  call_numbered : (visible : List Variable) (wanted : Bool) (e : Expr Name) → IsCall e →
      expression_numbers (expression.Call (resolve_call functions visible e)) ≡ uses_numbers functions (call_uses visible wanted e)
  call_numbered visible wanted (expression.Call' f t arguments) is = expression_numbered visible (expression.Call' f t arguments)
  call_numbered visible wanted _ is = elim is [ ]

  target_numbered : (visible : List Variable) (t : Target Name) → target_numbers (resolve_target functions visible t) ≡ uses_numbers functions (target_uses visible t)
  target_numbered visible (target.Scalar x) = mentioned (lookup visible x.name) x Role.value_write [] [] refl
  target_numbered visible (target.Index a index) =
      mentioned (lookup visible a.name) a Role.element_write _ (expression_uses visible index) (expression_numbered visible index)

  -- a name that stands a second time has no number
  doubled_numbered : (b : Bool) (at : ℕ) → [] ≡ uses_numbers functions (if b then redeclaration at ∷ [] else [])
  doubled_numbered true at = refl
  doubled_numbered false at = refl

  items_numbered : (scope : Scope) (items : List (Item Name)) → items_numbers (resolve_items functions scope items) ≡ uses_numbers functions (items_uses scope items)
  items_numbered scope [] = refl
  items_numbered scope (item ∷ more) =
      let behind = items_uses (declare_name scope item.name item.slot) more in
      both (redeclaration_uses scope item.name) (optional_uses scope.visible item.first ++ behind) [] _ (doubled_numbered (list_any (is_same item.name.name) scope.declared) item.name.at)
      (both (optional_uses scope.visible item.first) behind _ _ (optional_numbered scope.visible item.first) (items_numbered (declare_name scope item.name item.slot) more))

  spawn_numbered : (visible : List Variable) (at : ℕ) (destination : Option (Mark Name)) (call : Call Name) →
      destination_numbers (option_map (resolve_mark visible) destination) ++ expression_numbers (expression.Call (resolve_call functions visible (expression.Call call)))
      ≡ uses_numbers functions (spawn_uses visible at destination call)
  spawn_numbered visible at None call = call_numbered visible false (expression.Call call) tt
  spawn_numbered visible at (Some x) call =
      mentioned (lookup visible x.name) x Role.spawn_destination _ (parallel_keyword at ∷ call_uses visible true (expression.Call call))
      (call_numbered visible true (expression.Call call) tt)

  mutual
    statement_numbered : (scope : Scope) (s : Stmt Name) → statement_numbers (resolve_statement functions scope s) ≡ uses_numbers functions (statement_uses scope s)
    statement_numbered scope statement.Empty = refl
    statement_numbered scope (statement.Declare items) = items_numbered scope items
    statement_numbered scope (statement.Assign written op value) =
        both (target_uses scope.visible written) (expression_uses scope.visible value) _ _ (target_numbered scope.visible written) (expression_numbered scope.visible value)
    statement_numbered scope (statement.Call call) = call_numbered scope.visible false (expression.Call call) tt
    statement_numbered scope (statement.Spawn at destination call) = spawn_numbered scope.visible at destination call
    statement_numbered scope (statement.Sync at) = refl
    statement_numbered scope (IfAlone test chosen) =
        ap statement_numbers (If-Alone (resolve_expression functions scope.visible test) (resolve_statement functions (inner_scope scope) chosen)) ∙
        both (expression_uses scope.visible test) (statement_uses (inner_scope scope) chosen) _ _ (expression_numbered scope.visible test) (statement_numbered (inner_scope scope) chosen)
    statement_numbered scope (IfElse test chosen other) =
        let inner = inner_scope scope in
        let behind = inner_scope (reserve_slots scope chosen) in
        ap statement_numbers (If-Else (resolve_expression functions scope.visible test) (resolve_statement functions inner chosen) (resolve_statement functions behind other)) ∙
        both (expression_uses scope.visible test) (statement_uses inner chosen ++ statement_uses behind other) _ _ (expression_numbered scope.visible test)
        (both (statement_uses inner chosen) (statement_uses behind other) _ _ (statement_numbered inner chosen) (statement_numbered behind other))
    statement_numbered scope (WhileLoop test body) =
        ap statement_numbers (While-Loop (resolve_expression functions scope.visible test) (resolve_statement functions (inner_scope scope) body)) ∙
        both (expression_uses scope.visible test) (statement_uses (inner_scope scope) body) _ _ (expression_numbered scope.visible test) (statement_numbered (inner_scope scope) body)
    statement_numbered scope (ForLoop first test step body) =
        let inner = inner_scope scope in
        let header = scope_after inner first in
        let behind = inner_scope (reserve_slots header step) in
        let third = statement_uses header step in
        let fourth = statement_uses behind body in
        ap statement_numbers (For-Loop (resolve_statement functions inner first) (resolve_optional functions header.visible test) (resolve_statement functions header step) (resolve_statement functions behind body)) ∙
        both (statement_uses inner first) (optional_uses header.visible test ++ (third ++ fourth)) _ _ (statement_numbered inner first)
        (both (optional_uses header.visible test) (third ++ fourth) _ _ (optional_numbered header.visible test)
        (both third fourth _ _ (statement_numbered header step) (statement_numbered behind body)))
    statement_numbered scope (statement.Split' whole index left right _ body close) =
        let parts = inner_scope (split_scope scope whole left right) in
        let doubled = if is_same left.name right.name then redeclaration right.at ∷ [] else [] in
        numbers-Split (resolve_mark scope.visible whole) (resolve_expression functions scope.visible index)
        (record { name = scope.next_slot; at = left.at }) (record { name = scope.next_slot + 1; at = right.at }) (resolve_statements functions parts body) close ∙
        mentioned (lookup scope.visible whole.name) whole Role.split_whole _ (expression_uses scope.visible index ++ (doubled ++ statements_uses parts body))
        (both (expression_uses scope.visible index) (doubled ++ statements_uses parts body) _ _ (expression_numbered scope.visible index)
        (both doubled (statements_uses parts body) [] _ (doubled_numbered (is_same left.name right.name) right.at) (statements_numbered parts body)))
    statement_numbered scope (statement.Return at value) = optional_numbered scope.visible value
    statement_numbered scope (statement.Print value) = expression_numbered scope.visible value
    statement_numbered scope (statement.Block' _ body) =
        numbers-Block (resolve_statements functions (inner_scope scope) body) ∙ statements_numbered (inner_scope scope) body

    statements_numbered : {n : _} (scope : Scope) (ss : Row_of-Stmt Name n) → body_numbers (resolve_statements functions scope ss) ≡ uses_numbers functions (statements_uses scope ss)
    statements_numbered scope end_of-Stmt = refl
    statements_numbered scope (more_of-Stmt first more) =
        both (statement_uses scope first) (statements_uses (scope_after scope first) more) _ _ (statement_numbered scope first) (statements_numbered (scope_after scope first) more)

  body_numbered : (scope : Scope) (ss : List (Stmt Name)) → body_numbers (resolve_body functions scope ss) ≡ uses_numbers functions (body_uses scope ss)
  body_numbered scope [] = refl
  body_numbered scope (first ∷ more) =
      both (statement_uses scope first) (body_uses (scope_after scope first) more) _ _ (statement_numbered scope first) (body_numbered (scope_after scope first) more)

  -- the numbers of a function's mentions are those of its uses
  pub function_numbered : (index : ℕ) (f : Function Name) → function_numbers (resolve_function functions index f) ≡ uses_numbers functions (function_uses f)
  function_numbered index f =
      let outer = declare_items function_scope f.parameters in
      both (items_uses function_scope f.parameters) (body_uses outer f.body) _ _ (items_numbered function_scope f.parameters) (body_numbered outer f.body)

-- ---- declared names

range-append : (a m n : ℕ) → range_with_len a (m + n) ≡ range_with_len a m ++ range_with_len (a + m) n
range-append a zero n = let start : a + 0 ≡ a = omega arith in let all : 0 + n ≡ n = omega arith in rw (start, all) refl
range-append a (suc m) n =
    let count : suc m + n ≡ suc (m + n) = omega arith in
    let start : (a + 1) + m ≡ a + suc m = omega arith in
    rw count (ap (λ t. a ∷ t) (range-append (a + 1) m n ∙ ap (λ s. range_with_len (a + 1) m ++ range_with_len s n) start))

-- two lists of declared names, one behind the other
range_both : (a m n b : ℕ) (x y : List ℕ) → x ≡ range_with_len a m → y ≡ range_with_len b n → b ≡ a + m → x ++ y ≡ range_with_len a (m + n)
range_both a m n b x y h i e =
    ap (λ t. t ++ y) h ∙ (ap (λ t. range_with_len a m ++ t) (i ∙ ap (λ s. range_with_len s n) e) ∙ sym (range-append a m n))

next_after_items : (scope : Scope) (items : List (Item Name)) → (declare_items scope items).next_slot ≡ scope.next_slot + length items
next_after_items scope [] = omega arith
next_after_items scope (item ∷ more) = let h = next_after_items (declare_name scope item.name item.slot) more in omega (arith, h)

next_after : (scope : Scope) (s : Stmt Name) → (scope_after scope s).next_slot ≡ scope.next_slot + slot_count s
next_after scope (statement.Declare items) = next_after_items scope items
next_after scope _ = refl

module _ (functions : List (Function Name)) where
  items_declared : (scope : Scope) (items : List (Item Name)) → declared_items (resolve_items functions scope items) ≡ range_with_len scope.next_slot (length items)
  items_declared scope [] = refl
  items_declared scope (item ∷ more) = ap (λ t. scope.next_slot ∷ t) (items_declared (declare_name scope item.name item.slot) more)

  mutual
    statement_declared : (scope : Scope) (s : Stmt Name) → declared_statement (resolve_statement functions scope s) ≡ range_with_len scope.next_slot (slot_count s)
    statement_declared scope statement.Empty = refl
    statement_declared scope (statement.Declare items) = items_declared scope items
    statement_declared scope (statement.Assign written op value) = refl
    statement_declared scope (statement.Call call) = refl
    statement_declared scope (statement.Spawn at destination call) = refl
    statement_declared scope (statement.Sync at) = refl
    statement_declared scope (IfAlone test chosen) =
        ap declared_statement (If-Alone (resolve_expression functions scope.visible test) (resolve_statement functions (inner_scope scope) chosen)) ∙ statement_declared (inner_scope scope) chosen
    statement_declared scope (IfElse test chosen other) =
        let inner = inner_scope scope in
        let behind = inner_scope (reserve_slots scope chosen) in
        ap declared_statement (If-Else (resolve_expression functions scope.visible test) (resolve_statement functions inner chosen) (resolve_statement functions behind other)) ∙
        range_both _ (slot_count chosen) (slot_count other) _ _ _ (statement_declared inner chosen) (statement_declared behind other) refl
    statement_declared scope (WhileLoop test body) =
        ap declared_statement (While-Loop (resolve_expression functions scope.visible test) (resolve_statement functions (inner_scope scope) body)) ∙ statement_declared (inner_scope scope) body
    statement_declared scope (ForLoop first test step body) =
        let inner = inner_scope scope in
        let header = scope_after inner first in
        let behind = inner_scope (reserve_slots header step) in
        ap declared_statement (For-Loop (resolve_statement functions inner first) (resolve_optional functions header.visible test) (resolve_statement functions header step) (resolve_statement functions behind body)) ∙
        range_both _ (slot_count first) (slot_count step + slot_count body) _ _ _ (statement_declared inner first)
        (range_both _ (slot_count step) (slot_count body) _ _ _ (statement_declared header step) (statement_declared behind body) refl) (next_after inner first)
    statement_declared scope (statement.Split' whole index left right _ body close) =
        let parts = inner_scope (split_scope scope whole left right) in
        declares-Split (resolve_mark scope.visible whole) (resolve_expression functions scope.visible index)
        (record { name = scope.next_slot; at = left.at }) (record { name = scope.next_slot + 1; at = right.at }) (resolve_statements functions parts body) close ∙
        (ap (λ t. scope.next_slot ∷ (scope.next_slot + 1) ∷ t) (statements_declared parts body) ∙ sym (two_more (slots_count body)))
      where
        two_more : (n : ℕ) → range_with_len scope.next_slot (2 + n) ≡ scope.next_slot ∷ (scope.next_slot + 1) ∷ range_with_len (scope.next_slot + 1 + 1) n
        two_more n = let e : 2 + n ≡ suc (suc n) = omega arith in rw e refl
    statement_declared scope (statement.Return at value) = refl
    statement_declared scope (statement.Print value) = refl
    statement_declared scope (statement.Block' _ body) =
        declares-Block (resolve_statements functions (inner_scope scope) body) ∙ statements_declared (inner_scope scope) body

    statements_declared : {n : _} (scope : Scope) (ss : Row_of-Stmt Name n) → declared_body (resolve_statements functions scope ss) ≡ range_with_len scope.next_slot (slots_count ss)
    statements_declared scope end_of-Stmt = refl
    statements_declared scope (more_of-Stmt first more) =
        range_both _ (slot_count first) (slots_count more) _ _ _ (statement_declared scope first) (statements_declared (scope_after scope first) more) (next_after scope first)

  body_declared : (scope : Scope) (ss : List (Stmt Name)) → declared_body (resolve_body functions scope ss) ≡ range_with_len scope.next_slot (length (body_slots scope ss))
  body_declared scope [] = refl
  body_declared scope (first ∷ more) =
      let behind = scope_after scope first in
      let counted : slot_count first + length (body_slots behind more) ≡ length (body_slots scope (first ∷ more)) =
      omega (arith, length-append (statement_slots scope first) (body_slots behind more), slots_counted scope first) in
      range_both _ (slot_count first) (length (body_slots behind more)) _ _ _ (statement_declared scope first) (body_declared behind more) (next_after scope first) ∙
      ap (range_with_len scope.next_slot) counted

  -- a function's own names are numbered in the order of the text, one for each of its slots
  pub function_declared : (index : ℕ) (f : Function Name) → declared_numbers (resolve_function functions index f) ≡ range_with_len 0 (length (function_slots f))
  function_declared index f =
      let outer = declare_items function_scope f.parameters in
      let counted : length f.parameters + length (body_slots outer f.body) ≡ length (function_slots f) =
      omega (arith, length-append (map (λ (item : Item Name). item.slot) f.parameters) (body_slots outer f.body), length-map f.parameters (λ (item : Item Name). item.slot)) in
      range_both _ (length f.parameters) (length (body_slots outer f.body)) _ _ _ (items_declared function_scope f.parameters) (body_declared outer f.body) (next_after_items function_scope f.parameters) ∙
      ap (range_with_len 0) counted
