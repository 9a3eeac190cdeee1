-- The code of a sound program calls functions of small indices only.
use Rattle.std.proofs.lemmas.Bool.{true≢false}
use Rattle.std.proofs.lemmas.Option.{none-some}
use Rattle.std.proofs.Common.{◌≡◌, ℕ, ◌+◌, ◌<◌, ◌≤◌, ◌^◌, Bool, true, false, Option, None, Some, List, [], ◌∷◌, ◌++◌, length, refl, sym, ap, ◌∙◌, subst, arith}
use Rattle.std.specs.Prelude.{pos, unwrap_or}
use Rattle.std.specs.List.{position}
use Rattle.std.proofs.lemmas.List.Quantifiers.{position-Some}
use Rattle.cm_isa.specs.Operation.{Operation}
use Rattle.cm_isa.specs.declared.convention.TheConstants as reg
use Rattle.cm_syntax.specs.declared.name.Name.{Name}
use Rattle.cm_syntax.specs.declared.expr.Mark.{Mark}
use Rattle.cm_syntax.specs.declared.expr.Op.{Op}
use Rattle.cm_syntax.specs.declared.expr.Op.TheVariants as op
use Rattle.cm_syntax.specs.declared.expr.Expr.{Expr}
use Rattle.cm_syntax.specs.declared.expr.Expr.TheVariants as expression
use Rattle.cm_syntax.specs.declared.expr.Arg.{Arg}
use Rattle.cm_syntax.specs.declared.expr.Arg.TheVariants as argument
use Rattle.cm_syntax.specs.declared.expr.Call.{Call, Row_of-Arg, end_of-Arg, more_of-Arg, items_hidden-the_row-Arg-1}
use Rattle.cm_syntax.specs.declared.stmt.Slot.{Slot}
use Rattle.cm_syntax.specs.Extent.{extent_of}
use Rattle.cm_syntax.specs.declared.stmt.Extent.{Extent}
use Rattle.cm_syntax.specs.declared.stmt.Extent.TheVariants as extent
use Rattle.cm_syntax.specs.declared.stmt.Item.{Item}
use Rattle.cm_syntax.specs.declared.stmt.Target.{Target}
use Rattle.cm_syntax.specs.declared.stmt.Target.TheVariants as target
use Rattle.cm_syntax.specs.declared.stmt.Stmt.{Stmt, Row_of-Stmt, end_of-Stmt, more_of-Stmt, items_hidden-the_row-Stmt-1}
use Rattle.cm_syntax.specs.declared.stmt.Stmt.TheVariants as statement
use Rattle.cm_syntax.specs.declared.stmt.Function.{Function}
use Rattle.cm_syntax.specs.declared.stmt.Program.{Program}
use Rattle.cm_syntax.specs.Shape.{Joined, Prefixed, Element, InputAt, IfAlone, IfElse, WhileLoop, ForLoop, Binary-Joined, Unary-Prefixed, Index-Element, Input-InputAt}
use Rattle.cm_syntax.specs.Limit.{max_functions}
use Rattle.cm_syntax.specs.Frame.{argument_words}
use Rattle.cm_syntax.specs.Rest.{Purpose, called, spawned}
use Rattle.cm_syntax.specs.Text.{is_same}
use Rattle.cm_syntax.specs.Resolution.{Variable, Scope, lookup, inner_scope, function_scope, declare_name, declare_items, split_scope, reserve_slots, scope_after, ArgumentForm, value_form, slice_form, any_form, variable_form, function_number, resolve_mark, resolve_bare, resolve_expression, resolve_arguments, resolve_argument, resolve_optional, resolve_call, resolve_target, resolve_items, resolve_statement, resolve_statements, resolve_body, resolve_function, resolve_functions}
use Rattle.cm_syntax.specs.Fault.{IsSoundProgram}
use Rattle.cm_syntax.proofs.Rows.{row_of_block, row_of_call}
use Rattle.cm_syntax.proofs.StatementLaw.{If-Alone, If-Else, While-Loop, For-Loop}
use Rattle.cm_gen.specs.declared.form.Form.{Form}
use Rattle.cm_gen.specs.declared.form.Form.TheVariants.{Serial, Cilk}
use Rattle.cm_gen.specs.Part.{Part, straight}
use Rattle.cm_gen.specs.Builder.{AreCallsWithin}
use Rattle.cm_gen.specs.Code.{service, tick, entry, leave}
use Rattle.cm_gen.specs.Expression.{locate_code, skip, skip_if, skip_unless, back_over, truth_code, keep_word, expression_code, both_of, either_of}
use Rattle.cm_gen.specs.Statement.{deliver_code, exit_code, item_code, items_code, assignment_code, enter_code, invoke_code, sync_code, choice_of, test_code, loop_code, loop_words, part_code, print_code, optional_code, statement_code, statement_size, body_code, body_size, item_for}
use Rattle.cm_gen.specs.Image.{fall_code, form_in, need_of, frame_bytes_of, parameters_code, function_code, functions_code, marked, program_code}
use Rattle.cm_gen.specs.Fits.{argument_code, list_code}
use Rattle.cm_gen.proofs.parts.ExpressionLaw.{list_of_row-code}
use Rattle.cm_gen.proofs.parts.StatementLaw.{row_code_is}
use Rattle.cm_gen.proofs.parts.FunctionLaw.{marked_same, marked_other}
use Rattle.cm_gen.proofs.sizes.SoundFitsLaw.{sound_functions, length-resolved}

-- all calls are of small indices
record Within (code : List Part) : Type 0 where
  all : AreCallsWithin (2 ^ 16) code

empty : Within []
empty = record { all = tt }

both_are : (x y : List Part) → AreCallsWithin (2 ^ 16) x → AreCallsWithin (2 ^ 16) y → AreCallsWithin (2 ^ 16) (x ++ y)
both_are [] y h k = k
both_are (p ∷ x) y h k = (h.0, both_are x y h.1 k)

both : (x y : List Part) → Within x → Within y → Within (x ++ y)
both x y h k = record { all = both_are x y h.all k.all }

straight_are : (is : List Operation) → AreCallsWithin (2 ^ 16) (straight is)
straight_are [] = tt
straight_are (i ∷ is) = (tt, straight_are is)

plainly : (is : List Operation) → Within (straight is)
plainly is = record { all = straight_are is }

-- code before and behind instructions
after : (is : List Operation) (y : List Part) → Within y → Within (straight is ++ y)
after is y h = both (straight is) y (plainly is) h

before : (x : List Part) (is : List Operation) → Within x → Within (x ++ straight is)
before x is h = both x (straight is) h (plainly is)

position_below : {X : Type 0} (test : X → Bool) (xs : List X) (i : ℕ) → position test xs ≡ Some i → i < length xs
position_below test [] i e = absurd (none-some _ e)
position_below test (x ∷ xs) i e = (position-Some test (x ∷ xs) i x e).0

joined : (slots : List Slot) (o : Op) (l r : Expr ℕ) (d : ℕ) → Within (expression_code slots l d) → ((d : ℕ) → Within (expression_code slots r d)) → Within (expression_code slots (Joined o l r) d)
joined slots op.Both l r d h k = both (expression_code slots l d) (both_of (expression_code slots r d)) h (after (skip_unless (length (expression_code slots r d))) (expression_code slots r d ++ straight truth_code) (before (expression_code slots r d) truth_code (k d)))
joined slots op.Either l r d h k = both (expression_code slots l d) (either_of (expression_code slots r d)) h (after (skip_if (length (expression_code slots r d))) (expression_code slots r d ++ straight truth_code) (before (expression_code slots r d) truth_code (k d)))
joined slots o l r d h k = both (expression_code slots l d) _ h (after (keep_word slots d) _ (before (expression_code slots r (d + 1)) _ (k (d + 1))))

within-Call : (slots : List Slot) (c : Call ℕ) (d : ℕ) → c.function.name < 2 ^ 16 → Within (list_code slots c.arguments d 0) → Within (expression_code slots (expression.Call c) d)
within-Call slots c d small h =
    let row = row_of_call (expression.Call c) in
    let same = list_of_row-code row.0 row.1 slots d 0 ∙ ap (λ (l : List (Arg ℕ)). list_code slots l d 0) (items_hidden-the_row-Arg-1 ℕ c.arguments) in
    both _ _ (subst Within (sym same) h) (record { all = (small, (tt, tt)) })

entered : (form : Form) (slots : List Slot) (purpose : Purpose) (f : ℕ) → f < 2 ^ 16 → Within (enter_code form slots purpose f)
entered Serial slots called f small = record { all = (small, tt) }
entered Cilk slots called f small = record { all = (small, tt) }
entered Serial slots (spawned x) f small = record { all = (small, straight_are (deliver_code slots x)) }
entered Cilk slots (spawned x) f small = plainly _

within-invoke : (form : Form) (slots : List Slot) (purpose : Purpose) (c : Call ℕ) → c.function.name < 2 ^ 16 → Within (list_code slots c.arguments 0 0) → Within (invoke_code form slots purpose (expression.Call c))
within-invoke form slots purpose c small h =
    let row = row_of_call (expression.Call c) in
    let same = list_of_row-code row.0 row.1 slots 0 0 ∙ ap (λ (l : List (Arg ℕ)). list_code slots l 0 0) (items_hidden-the_row-Arg-1 ℕ c.arguments) in
    both _ _ (subst Within (sym same) h) (entered form slots purpose c.function.name small)

looped : (slots : List Slot) (t : Option (Expr ℕ)) (inner : List Part) → Within (optional_code slots t) → Within inner → Within (loop_code slots t inner)
looped slots None inner h k = after tick _ (before inner (back_over (length inner + 4)) k)
looped slots (Some t) inner h k = both (expression_code slots t 0) (test_code (length (expression_code slots t 0)) inner) h (after (skip_unless (length inner + 5)) _ (after tick _ (before inner (back_over (length (expression_code slots t 0) + (length inner + 6))) k)))

chosen_or : (chosen other : List Part) → Within chosen → Within other → Within (choice_of chosen other)
chosen_or chosen other h k = after (skip_unless (length chosen + 1)) _ (both chosen _ h (after (skip (length other)) other k))

item_within : (slots : List Slot) (x : ℕ) (s : Extent) (o : Option (Expr ℕ)) → Within (optional_code slots o) → Within (item_for slots x s o)
item_within slots x extent.Word None h = plainly _
item_within slots x extent.Word (Some e) h = before (expression_code slots e 0) _ h
item_within slots x (extent.Words n) None h = plainly _
item_within slots x (extent.Words n) (Some e) h = plainly _
item_within slots x extent.Reference None h = empty
item_within slots x extent.Reference (Some e) h = empty

-- ---- trees whose functions are numbered

module _ (functions : List (Function Name)) (few : length functions ≤ max_functions) where
  small_number : (g : Name) → function_number functions g < 2 ^ 16
  small_number g = by_place (position (λ h. is_same h.name.name g) functions) refl
    where
      by_place : (o : Option ℕ) → position (λ h. is_same h.name.name g) functions ≡ o → unwrap_or o 0 < 2 ^ 16
      by_place None is = omega arith
      by_place (Some i) is = omega (arith, position_below (λ h. is_same h.name.name g) functions i is, few)

  -- a call as its number and its arguments
  abbrev call_made : {n : _} → List Variable → Mark Name → Row_of-Arg Name n → Call ℕ
  call_made visible g row = record { function = record { name = function_number functions g.name; at = g.at }; arguments = resolve_arguments functions visible row }

  bare : (slots : List Slot) (visible : List Variable) (x : Mark Name) (form : ArgumentForm) (j : ℕ) → Within (argument_code slots (resolve_bare visible x form) j)
  bare slots visible x value_form j = before (expression_code slots (expression.Scalar (resolve_mark visible x)) j) _ (plainly _)
  bare slots visible x slice_form j = plainly _
  bare slots visible x any_form j = before (expression_code slots (expression.Scalar (resolve_mark visible x)) j) _ (plainly _)

  renamed : (slots : List Slot) (e shape : Expr ℕ) (d : ℕ) → e ≡ shape → Within (expression_code slots shape d) → Within (expression_code slots e d)
  renamed slots e shape d is h = subst (λ x. Within (expression_code slots x d)) (sym is) h

  mutual
    of_expression : (slots : List Slot) (visible : List Variable) (e : Expr Name) (d : ℕ) → Within (expression_code slots (resolve_expression functions visible e) d)
    of_expression slots visible (expression.Number n) d = plainly _
    of_expression slots visible (expression.Scalar x) d = plainly _
    of_expression slots visible (Element a index) d =
        let i : Expr ℕ = resolve_expression functions visible index in
        renamed slots _ (Element (resolve_mark visible a) i) d (Index-Element (resolve_mark visible a) i) (before (expression_code slots i d) _ (of_expression slots visible index d))
    of_expression slots visible (expression.Len a) d = plainly _
    of_expression slots visible (InputAt index) d =
        let i : Expr ℕ = resolve_expression functions visible index in
        renamed slots _ (InputAt i) d (Input-InputAt i) (before (expression_code slots i d) (service (pos 2)) (of_expression slots visible index d))
    of_expression slots visible expression.Inputs d = plainly (service (pos 3))
    of_expression slots visible (Prefixed o operand) d =
        let i : Expr ℕ = resolve_expression functions visible operand in
        renamed slots _ (Prefixed o i) d (Unary-Prefixed o i) (before (expression_code slots i d) _ (of_expression slots visible operand d))
    of_expression slots visible (Joined o left right) d =
        let l : Expr ℕ = resolve_expression functions visible left in
        let r : Expr ℕ = resolve_expression functions visible right in
        renamed slots _ (Joined o l r) d (Binary-Joined o l r) (joined slots o l r d (of_expression slots visible left d) (λ d. of_expression slots visible right d))
    of_expression slots visible (expression.Call' g _ row) d = within-Call slots (call_made visible g row) d (small_number g.name) (of_arguments slots visible row d 0)

    of_arguments : {n : _} (slots : List Slot) (visible : List Variable) (row : Row_of-Arg Name n) (d w : ℕ) → Within (list_code slots (resolve_arguments functions visible row) d w)
    of_arguments slots visible end_of-Arg d w = plainly _
    of_arguments slots visible (more_of-Arg first more) d w =
        both (argument_code slots (resolve_argument functions visible first) (d + w)) _ (of_argument slots visible first (d + w))
        (of_arguments slots visible more d (w + argument_words (resolve_argument functions visible first)))

    of_argument : (slots : List Slot) (visible : List Variable) (a : Arg Name) (j : ℕ) → Within (argument_code slots (resolve_argument functions visible a) j)
    of_argument slots visible (argument.Value (expression.Scalar x)) j = bare slots visible x (variable_form (lookup visible x.name)) j
    of_argument slots visible (argument.Value value) j = before (expression_code slots (resolve_expression functions visible value) j) _ (of_expression slots visible value j)
    of_argument slots visible (argument.Slice a) j = plainly _
    of_argument slots visible (argument.Address x) j = plainly _

  of_optional : (slots : List Slot) (visible : List Variable) (o : Option (Expr Name)) → Within (optional_code slots (resolve_optional functions visible o))
  of_optional slots visible None = empty
  of_optional slots visible (Some e) = of_expression slots visible e 0

  of_invoke : (form : Form) (slots : List Slot) (purpose : Purpose) (visible : List Variable) (e : Expr Name) → Within (invoke_code form slots purpose (expression.Call (resolve_call functions visible e)))
  of_invoke form slots purpose visible (expression.Call' g _ row) = within-invoke form slots purpose (call_made visible g row) (small_number g.name) (of_arguments slots visible row 0 0)
  of_invoke form slots purpose visible e = within-invoke form slots purpose (resolve_call functions visible e) (omega arith) empty

  of_items : (slots : List Slot) (scope : Scope) (items : List (Item Name)) → Within (items_code slots (resolve_items functions scope items))
  of_items slots scope [] = empty
  of_items slots scope (item ∷ more) =
      both (item_code slots scope.next_slot item.slot (resolve_optional functions scope.visible item.first)) _
      (item_within slots scope.next_slot (extent_of item.slot) (resolve_optional functions scope.visible item.first) (of_optional slots scope.visible item.first))
      (of_items slots (declare_name scope item.name item.slot) more)

  of_assignment : (slots : List Slot) (visible : List Variable) (written : Target Name) (o : Option Op) (e : Expr Name)
      → Within (assignment_code slots (resolve_target functions visible written) o (resolve_expression functions visible e))
  of_assignment slots visible (target.Scalar x) None e = before _ _ (of_expression slots visible e 0)
  of_assignment slots visible (target.Scalar x) (Some o) e = before _ _ (of_expression slots visible e 0)
  of_assignment slots visible (target.Index a index) o e =
      both (expression_code slots (resolve_expression functions visible index) 0) _ (of_expression slots visible index 0)
      (after (locate_code slots (resolve_mark visible a).name ++ keep_word slots 0) _ (before (expression_code slots (resolve_expression functions visible e) 1) _ (of_expression slots visible e 1)))

  shaped : (form : Form) (slots : List Slot) (n : ℕ) (s shape : Stmt ℕ) → s ≡ shape → Within (statement_code form slots n shape) → Within (statement_code form slots n s)
  shaped form slots n s shape is h = subst (λ x. Within (statement_code form slots n x)) (sym is) h

  listed : (form : Form) (slots : List Slot) (n : ℕ) (body : List (Stmt ℕ)) → Within (body_code form slots n body) → Within (statement_code form slots n (statement.Block body))
  listed form slots n body h =
      let row = row_of_block (statement.Block body) in
      let same = row_code_is form slots n row.0 row.1 ∙ ap (body_code form slots n) (items_hidden-the_row-Stmt-1 ℕ body) in
      subst Within (sym same) h

  mutual
    of_statement : (form : Form) (slots : List Slot) (n : ℕ) (scope : Scope) (s : Stmt Name) → Within (statement_code form slots n (resolve_statement functions scope s))
    of_statement form slots n scope statement.Empty = empty
    of_statement form slots n scope (statement.Declare items) = of_items slots scope items
    of_statement form slots n scope (statement.Assign written o value) = of_assignment slots scope.visible written o value
    of_statement form slots n scope (statement.Call call) = of_invoke Serial slots called scope.visible (expression.Call call)
    of_statement form slots n scope (statement.Spawn at destination call) = of_invoke form slots _ scope.visible (expression.Call call)
    of_statement form slots n scope (statement.Sync at) = plainly (sync_code form)
    of_statement form slots n scope (IfAlone test chosen) =
        let t : Expr ℕ = resolve_expression functions scope.visible test in
        let c : Stmt ℕ = resolve_statement functions (inner_scope scope) chosen in
        shaped form slots n (statement.If t c None) (IfAlone t c) (If-Alone t c)
        (both (expression_code slots t 0) _ (of_expression slots scope.visible test 0) (after (skip_unless (length (statement_code form slots n c))) (statement_code form slots n c) (of_statement form slots n (inner_scope scope) chosen)))
    of_statement form slots n scope (IfElse test chosen other) =
        let beside = inner_scope (reserve_slots scope chosen) in
        let t : Expr ℕ = resolve_expression functions scope.visible test in
        let c : Stmt ℕ = resolve_statement functions (inner_scope scope) chosen in
        let o : Stmt ℕ = resolve_statement functions beside other in
        let m : ℕ = n + (statement_size form slots o + 1) in
        shaped form slots n (statement.If t c (Some o)) (IfElse t c o) (If-Else t c o)
        (both (expression_code slots t 0) _ (of_expression slots scope.visible test 0)
        (chosen_or (statement_code form slots m c) (statement_code form slots n o) (of_statement form slots m (inner_scope scope) chosen) (of_statement form slots n beside other)))
    of_statement form slots n scope (WhileLoop test body) =
        let t : Expr ℕ = resolve_expression functions scope.visible test in
        let b : Stmt ℕ = resolve_statement functions (inner_scope scope) body in
        shaped form slots n (statement.While t b) (WhileLoop t b) (While-Loop t b)
        (looped slots (Some t) (statement_code form slots (n + 1) b) (of_expression slots scope.visible test 0) (of_statement form slots (n + 1) (inner_scope scope) body))
    of_statement form slots n scope (ForLoop first test step body) =
        let header = scope_after (inner_scope scope) first in
        let within = inner_scope (reserve_slots header step) in
        let a : Stmt ℕ = resolve_statement functions (inner_scope scope) first in
        let t : Option (Expr ℕ) = resolve_optional functions header.visible test in
        let c : Stmt ℕ = resolve_statement functions header step in
        let b : Stmt ℕ = resolve_statement functions within body in
        let m : ℕ = n + ((statement_size form slots b + statement_size form slots c) + loop_words slots t) in
        shaped form slots n (statement.For a t c b) (ForLoop a t c b) (For-Loop a t c b)
        (both (statement_code form slots m a) _ (of_statement form slots m (inner_scope scope) first)
        (looped slots t _ (of_optional slots header.visible test)
        (both (statement_code form slots (n + 1 + statement_size form slots c) b) _ (of_statement form slots (n + 1 + statement_size form slots c) within body) (of_statement form slots (n + 1) header step))))
    of_statement form slots n scope (statement.Split' whole index left right _ body close) =
        let within = inner_scope (split_scope scope whole left right) in
        both (expression_code slots (resolve_expression functions scope.visible index) 0) _ (of_expression slots scope.visible index 0)
        (after (part_code slots (resolve_mark scope.visible whole).name scope.next_slot (scope.next_slot + 1)) _
        (listed form slots n (resolve_statements functions within body) (of_statements form slots n within body)))
    of_statement form slots n scope (statement.Return at value) = before (optional_code slots (resolve_optional functions scope.visible value)) (exit_code n) (of_optional slots scope.visible value)
    of_statement form slots n scope (statement.Print value) = both _ print_code (of_expression slots scope.visible value 0) (after tick (straight (service (pos 1))) (plainly (service (pos 1))))
    of_statement form slots n scope (statement.Block' _ body) = listed form slots n (resolve_statements functions (inner_scope scope) body) (of_statements form slots n (inner_scope scope) body)

    of_statements : {k : _} (form : Form) (slots : List Slot) (n : ℕ) (scope : Scope) (row : Row_of-Stmt Name k) → Within (body_code form slots n (resolve_statements functions scope row))
    of_statements form slots n scope end_of-Stmt = empty
    of_statements form slots n scope (more_of-Stmt first more) =
        let m : ℕ = n + body_size form slots (resolve_statements functions (scope_after scope first) more) in
        both (statement_code form slots m (resolve_statement functions scope first)) _ (of_statement form slots m scope first) (of_statements form slots n (scope_after scope first) more)

  of_body : (form : Form) (slots : List Slot) (n : ℕ) (scope : Scope) (body : List (Stmt Name)) → Within (body_code form slots n (resolve_body functions scope body))
  of_body form slots n scope [] = empty
  of_body form slots n scope (first ∷ more) =
      let m : ℕ = n + body_size form slots (resolve_body functions (scope_after scope first) more) in
      both (statement_code form slots m (resolve_statement functions scope first)) _ (of_statement form slots m scope first) (of_body form slots n (scope_after scope first) more)

  of_function : (form : Form) (page index : ℕ) (f : Function Name) → Within (function_code form page (resolve_function functions index f))
  of_function form page index f =
      let g : Function ℕ = resolve_function functions index f in
      after (entry (frame_bytes_of g) (need_of page g)) _ (after (parameters_code g.slots 0 reg.RESULT g.parameters) _
      (both (body_code (form_in form g) g.slots 1 g.body) _ (of_body (form_in form g) g.slots 1 (declare_items function_scope f.parameters) f.body)
      (after fall_code _ (after (sync_code (form_in form g)) _ (plainly (leave (need_of page g)))))))

  if_marked : (b c : Bool) (form : Form) (page : ℕ) (g : Function ℕ) (more : List (Function ℕ)) → g.cilk ≡ b → Within (function_code form page g) → Within (functions_code form page (marked c more))
      → Within (functions_code form page (marked c (g ∷ more)))
  if_marked true true form page g more is h k = subst (λ (l : List (Function ℕ)). Within (functions_code form page l)) (sym (marked_same true g more is)) (both (function_code form page g) (functions_code form page (marked true more)) h k)
  if_marked true false form page g more is h k = subst (λ (l : List (Function ℕ)). Within (functions_code form page l)) (sym (marked_other false g more (λ e. true≢false (sym is ∙ e)))) k
  if_marked false true form page g more is h k = subst (λ (l : List (Function ℕ)). Within (functions_code form page l)) (sym (marked_other true g more (λ e. true≢false (sym e ∙ is)))) k
  if_marked false false form page g more is h k = subst (λ (l : List (Function ℕ)). Within (functions_code form page l)) (sym (marked_same false g more is)) (both (function_code form page g) (functions_code form page (marked false more)) h k)

  of_functions : (c : Bool) (form : Form) (page index : ℕ) (fs : List (Function Name)) → Within (functions_code form page (marked c (resolve_functions functions index fs)))
  of_functions true form page index [] = empty
  of_functions false form page index [] = empty
  of_functions c form page index (f ∷ more) =
      if_marked f.cilk c form page (resolve_function functions index f) (resolve_functions functions (index + 1) more) refl (of_function form page index f) (of_functions c form page (index + 1) more)

pub sound_calls : (program : Program) (form : Form) (page : ℕ) → IsSoundProgram program → AreCallsWithin (2 ^ 16) (program_code program form page)
sound_calls program form page (tree, source, clean, is) =
    let fs = tree.functions in
    let few : length fs ≤ max_functions = omega (arith, (sound_functions program (tree, source, clean, is)).1, ap (λ (p : Program). length p.functions) is, length-resolved fs 0 fs) in
    (subst (λ (p : Program). Within (program_code p form page)) (sym is)
    (both (functions_code form page (marked false (resolve_functions fs 0 fs))) _ (of_functions fs few false form page 0 fs) (of_functions fs few true form page 0 fs))).all
