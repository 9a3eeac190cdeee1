-- A program has at most 24 words of code for each token that it is written with.
use Rattle.std.proofs.Common.{◌≡◌, ℕ, suc, ◌+◌, ◌*◌, ◌<◌, ◌≤◌, ◌^◌, Bool, true, false, Option, None, Some, List, [], ◌∷◌, length, refl, sym, ap, ◌∙◌, subst, arith, length-append, ◌⊎◌, inl, inr}
use Rattle.std.specs.Prelude.{pos}
use Rattle.std.proofs.lemmas.Bool.{cases_lt, true≢false}
use Rattle.cm_isa.specs.Operation.{Operation}
use Rattle.cm_isa.specs.declared.convention.TheConstants as reg
use Rattle.cm_syntax.specs.declared.name.Name.{Name}
use Rattle.cm_syntax.specs.declared.expr.Mark.{Mark}
use Rattle.cm_syntax.specs.declared.expr.Op.{Op}
use Rattle.cm_syntax.specs.declared.expr.Expr.{Expr}
use Rattle.cm_syntax.specs.declared.expr.Expr.TheVariants as expression
use Rattle.cm_syntax.specs.declared.expr.Arg.{Arg}
use Rattle.cm_syntax.specs.declared.expr.Arg.TheVariants as argument
use Rattle.cm_syntax.specs.declared.expr.Call.{Call, Row_of-Arg, end_of-Arg, more_of-Arg}
use Rattle.cm_syntax.specs.declared.stmt.Slot.{Slot}
use Rattle.cm_syntax.specs.declared.stmt.Item.{Item}
use Rattle.cm_syntax.specs.declared.stmt.Target.{Target}
use Rattle.cm_syntax.specs.declared.stmt.Target.TheVariants as target
use Rattle.cm_syntax.specs.declared.stmt.Stmt.{Stmt, Row_of-Stmt, end_of-Stmt, more_of-Stmt, items-the_row-Stmt, items_hidden-the_row-Stmt-1}
use Rattle.cm_syntax.specs.declared.stmt.Stmt.TheVariants as statement
use Rattle.cm_syntax.specs.declared.stmt.Function.{Function}
use Rattle.cm_syntax.specs.declared.stmt.Program.{Program}
use Rattle.cm_syntax.specs.declared.stmt.Tree.{Tree}
use Rattle.cm_syntax.specs.Shape.{Joined, Prefixed, Element, InputAt, IfAlone, IfElse, WhileLoop, ForLoop, Binary-Joined, Unary-Prefixed, Index-Element, Input-InputAt}
use Rattle.cm_syntax.specs.Frame.{argument_words}
use Rattle.cm_syntax.specs.Rest.{Purpose, called}
use Rattle.cm_syntax.specs.Resolution.{Variable, Scope, lookup, inner_scope, function_scope, declare_name, declare_items, split_scope, reserve_slots, scope_after, ArgumentForm, value_form, slice_form, any_form, variable_form, resolve_mark, resolve_bare, resolve_expression, resolve_arguments, resolve_argument, resolve_optional, resolve_call, resolve_target, resolve_items, resolve_statement, resolve_statements, resolve_body, resolve_function, resolve_functions}
use Rattle.cm_syntax.specs.Fault.{program_of, IsSoundProgram}
use Rattle.cm_syntax.specs.Grammar.{IsSourceOf}
use Rattle.cm_syntax.specs.Limit.{max_source_bytes}
use Rattle.cm_syntax.specs.Refusal.{HasNoRefusal, size}
use Rattle.cm_syntax.proofs.StatementLaw.{If-Alone, If-Else, While-Loop, For-Loop}
use Rattle.cm_gen.specs.declared.form.Form.{Form}
use Rattle.cm_gen.specs.declared.form.Form.TheVariants.{Serial}
use Rattle.cm_gen.specs.Part.{Part, straight, laid}
use Rattle.cm_gen.specs.Code.{service}
use Rattle.cm_gen.specs.Expression.{slot_offset, keep_word, expression_code}
use Rattle.cm_gen.specs.Statement.{item_code, items_code, assignment_code, invoke_code, statement_size, sequence_size, body_code, body_size}
use Rattle.cm_gen.specs.Image.{fall_code, form_in, need_of, frame_bytes_of, parameters_code, function_code, functions_code, marked, program_code, front_of, functions_start, image_of}
use Rattle.cm_gen.specs.Fits.{argument_code, list_code}
use Rattle.cm_syntax.specs.Extent.{extent_of}
use Rattle.cm_syntax.proofs.Rows.{row_of_block}
use Rattle.cm_gen.proofs.parts.FunctionLaw.{marked_same, marked_other}
use Rattle.cm_gen.proofs.sizes.SizeLaw.{size-body}
use Rattle.cm_gen.proofs.images.ImageLaw.{length-front}
use Rattle.cm_gen.proofs.sizes.SoundFitsLaw.{length-resolved}
use Rattle.cm_gen.proofs.sizes.PartBoundLaw as part
use Rattle.cm_gen.proofs.sizes.PartBoundLaw.{Words, written, wide, straightly, together, exactly, Short, short, behind, renamed, joined_short, call_short, invoked, Optional, item_short, updated, stored}
use Rattle.cm_gen.proofs.sizes.Weight.{expression_weight, row_weight, argument_weight, optional_weight, items_weight, target_weight, statement_weight, row_of_statements_weight, body_weight, function_weight, functions_weight}
use Rattle.cm_gen.proofs.sizes.WeightLaw.{source_weight}

-- each expression has a weight
some_weight : (e : Expr Name) → 1 ≤ expression_weight e
some_weight (expression.Number n) = omega arith
some_weight (expression.Scalar x) = omega arith
some_weight (Element a index) = omega arith
some_weight (expression.Len a) = omega arith
some_weight (InputAt index) = omega arith
some_weight expression.Inputs = omega arith
some_weight (Prefixed o operand) = omega arith
some_weight (Joined o left right) = omega arith
some_weight (expression.Call' g _ row) = omega arith

-- ---- arguments

bare_words : (slots : List Slot) (visible : List Variable) (x : Mark Name) (form : ArgumentForm) (j : ℕ)
    → length (argument_code slots (resolve_bare visible x form) j) + 3 * argument_words (resolve_bare visible x form) ≤ 24
bare_words slots visible x value_form j = omega (arith, (together (straightly (part.load reg.VALUE (slot_offset slots (resolve_mark visible x).name))) (straightly (part.keep slots j))).most)
bare_words slots visible x slice_form j = omega (arith, (straightly (part.slice slots (resolve_mark visible x).name j)).most)
bare_words slots visible x any_form j = omega (arith, (together (straightly (part.load reg.VALUE (slot_offset slots (resolve_mark visible x).name))) (straightly (part.keep slots j))).most)

module _ (functions : List (Function Name)) where
  mutual
    of_expression : (slots : List Slot) (visible : List Variable) (e : Expr Name) (d : ℕ) → Short (expression_weight e) (expression_code slots (resolve_expression functions visible e) d)
    of_expression slots visible (expression.Number n) d = short (straightly (part.number reg.VALUE n)) (omega arith)
    of_expression slots visible (expression.Scalar x) d = short (straightly (part.load reg.VALUE (slot_offset slots (resolve_mark visible x).name))) (omega arith)
    of_expression slots visible (Element a index) d =
        let i : Expr ℕ = resolve_expression functions visible index in
        renamed slots _ (Element (resolve_mark visible a) i) d _ (Index-Element (resolve_mark visible a) i)
        (behind (of_expression slots visible index d) (part.element slots (resolve_mark visible a).name) (omega arith))
    of_expression slots visible (expression.Len a) d = short (straightly (part.length_words slots (resolve_mark visible a).name)) (omega arith)
    of_expression slots visible (InputAt index) d =
        let i : Expr ℕ = resolve_expression functions visible index in
        renamed slots _ (InputAt i) d _ (Input-InputAt i) (behind (of_expression slots visible index d) (written 2 (service (pos 2)) (omega arith)) (omega arith))
    of_expression slots visible expression.Inputs d = short (straightly (written 2 (service (pos 3)) (omega arith))) (omega arith)
    of_expression slots visible (Prefixed o operand) d =
        let i : Expr ℕ = resolve_expression functions visible operand in
        renamed slots _ (Prefixed o i) d _ (Unary-Prefixed o i) (behind (of_expression slots visible operand d) (part.prefix o) (omega arith))
    of_expression slots visible (Joined o left right) d =
        let l : Expr ℕ = resolve_expression functions visible left in
        let r : Expr ℕ = resolve_expression functions visible right in
        renamed slots _ (Joined o l r) d _ (Binary-Joined o l r) (joined_short slots o l r d _ _ (of_expression slots visible left d) (λ d. of_expression slots visible right d))
    of_expression slots visible (expression.Call' g _ row) d =
        call_short slots (resolve_call functions visible (expression.Call' g _ row)) d _ (record { most = omega (arith, of_arguments slots visible row d 0) })

    of_arguments : {n : _} (slots : List Slot) (visible : List Variable) (row : Row_of-Arg Name n) (d w : ℕ)
        → length (list_code slots (resolve_arguments functions visible row) d w) ≤ 24 * row_weight row + 3 * w
    of_arguments slots visible end_of-Arg d w = omega (arith, (straightly (part.handed slots d reg.RESULT w)).most)
    of_arguments slots visible (more_of-Arg first more) d w =
        let a : Arg ℕ = resolve_argument functions visible first in
        let later = list_code slots (resolve_arguments functions visible more) d (w + argument_words a) in
        omega (arith, of_argument slots visible first (d + w), of_arguments slots visible more d (w + argument_words a), length-append (argument_code slots a (d + w)) later)

    of_argument : (slots : List Slot) (visible : List Variable) (a : Arg Name) (j : ℕ)
        → length (argument_code slots (resolve_argument functions visible a) j) + 3 * argument_words (resolve_argument functions visible a) ≤ 24 * argument_weight a
    of_argument slots visible (argument.Value (expression.Scalar x)) j = bare_words slots visible x (variable_form (lookup visible x.name)) j
    of_argument slots visible (argument.Value value) j =
        let code : List Part = expression_code slots (resolve_expression functions visible value) j in
        omega (arith, (of_expression slots visible value j).most, (straightly (part.keep slots j)).most, length-append code (straight (keep_word slots j)))
    of_argument slots visible (argument.Slice a) j = omega (arith, (straightly (part.slice slots (resolve_mark visible a).name j)).most)
    of_argument slots visible (argument.Address x) j = omega (arith, (straightly (part.scalar slots (resolve_mark visible x).name j)).most)

  of_optional : (slots : List Slot) (visible : List Variable) (o : Option (Expr Name)) → Optional slots (optional_weight o) (resolve_optional functions visible o)
  of_optional slots visible None = tt
  of_optional slots visible (Some e) = of_expression slots visible e 0

  of_invoke : (form : Form) (slots : List Slot) (purpose : Purpose) (visible : List Variable) (e : Expr Name)
      → length (invoke_code form slots purpose (expression.Call (resolve_call functions visible e))) ≤ 24 * expression_weight e
  of_invoke form slots purpose visible (expression.Call' g _ row) =
      let c : Call ℕ = resolve_call functions visible (expression.Call' g _ row) in
      omega (arith, (invoked form slots purpose c (row_weight row) (record { most = omega (arith, of_arguments slots visible row 0 0) })).most)
  of_invoke form slots purpose visible e = omega (arith, some_weight e, (invoked form slots purpose (resolve_call functions visible e) 0 (record { most = omega arith })).most)

  of_items : (slots : List Slot) (scope : Scope) (items : List (Item Name)) → length (items_code slots (resolve_items functions scope items)) ≤ 24 * items_weight items
  of_items slots scope [] = omega arith
  of_items slots scope (item ∷ more) =
      let o : Option (Expr ℕ) = resolve_optional functions scope.visible item.first in
      let first = item_short slots scope.next_slot (extent_of item.slot) (optional_weight item.first) o (of_optional slots scope.visible item.first) in
      let next = declare_name scope item.name item.slot in
      omega (arith, first.most, of_items slots next more, length-append (item_code slots scope.next_slot item.slot o) (items_code slots (resolve_items functions next more)))

  of_assignment : (slots : List Slot) (visible : List Variable) (written : Target Name) (o : Option Op) (e : Expr Name)
      → length (assignment_code slots (resolve_target functions visible written) o (resolve_expression functions visible e)) ≤ 24 * (target_weight written + expression_weight e)
  of_assignment slots visible (target.Scalar x) None e =
      let value = of_expression slots visible e 0 in
      omega (arith, value.most, (together (exactly (expression_code slots (resolve_expression functions visible e) 0)) (straightly (part.assigned slots (resolve_mark visible x).name))).most)
  of_assignment slots visible (target.Scalar x) (Some o) e =
      let value = of_expression slots visible e 0 in
      omega (arith, value.most, (together (exactly (expression_code slots (resolve_expression functions visible e) 0)) (straightly (updated slots (resolve_mark visible x).name o))).most)
  of_assignment slots visible (target.Index a index) o e =
      let x : ℕ = (resolve_mark visible a).name in
      let place = of_expression slots visible index 0 in
      let value = of_expression slots visible e 1 in
      let i : List Part = expression_code slots (resolve_expression functions visible index) 0 in
      let v : List Part = expression_code slots (resolve_expression functions visible e) 1 in
      omega (arith, place.most, value.most, (together (exactly i) (together (straightly (part.joined (part.locate slots x) (part.keep slots 0))) (together (exactly v) (straightly (stored slots o))))).most)

  -- ---- statements

  shaped : (form : Form) (slots : List Slot) (n : ℕ) (s shape : Stmt ℕ) → s ≡ shape → statement_size form slots shape ≤ n → statement_size form slots s ≤ n
  shaped form slots n s shape is h = subst (λ x. statement_size form slots x ≤ n) (sym is) h

  row_size : (form : Form) (slots : List Slot) (n : _) (row : Row_of-Stmt ℕ n) → sequence_size form slots row ≡ body_size form slots (items-the_row-Stmt ℕ n row)
  row_size form slots n end_of-Stmt = refl
  row_size form slots n (more_of-Stmt first more) = ap (λ m. statement_size form slots first + m) (row_size form slots _ more)

  block_size : (form : Form) (slots : List Slot) (body : List (Stmt ℕ)) → statement_size form slots (statement.Block body) ≡ body_size form slots body
  block_size form slots body =
      let row = row_of_block (statement.Block body) in
      row_size form slots row.0 row.1 ∙ ap (body_size form slots) (items_hidden-the_row-Stmt-1 ℕ body)

  mutual
    of_statement : (form : Form) (slots : List Slot) (scope : Scope) (s : Stmt Name) → statement_size form slots (resolve_statement functions scope s) ≤ 24 * statement_weight s
    of_statement form slots scope statement.Empty = omega arith
    of_statement form slots scope (statement.Declare items) = of_items slots scope items
    of_statement form slots scope (statement.Assign written o value) = of_assignment slots scope.visible written o value
    of_statement form slots scope (statement.Call c) = of_invoke Serial slots called scope.visible (expression.Call c)
    of_statement form slots scope (statement.Spawn at destination c) = of_invoke form slots _ scope.visible (expression.Call c)
    of_statement form slots scope (statement.Sync at) = part.synced form
    of_statement form slots scope (IfAlone test chosen) =
        let t : Expr ℕ = resolve_expression functions scope.visible test in
        let c : Stmt ℕ = resolve_statement functions (inner_scope scope) chosen in
        shaped form slots _ (statement.If t c None) (IfAlone t c) (If-Alone t c)
        (omega (arith, (of_expression slots scope.visible test 0).most, of_statement form slots (inner_scope scope) chosen))
    of_statement form slots scope (IfElse test chosen other) =
        let beside = inner_scope (reserve_slots scope chosen) in
        let t : Expr ℕ = resolve_expression functions scope.visible test in
        let c : Stmt ℕ = resolve_statement functions (inner_scope scope) chosen in
        let o : Stmt ℕ = resolve_statement functions beside other in
        shaped form slots _ (statement.If t c (Some o)) (IfElse t c o) (If-Else t c o)
        (omega (arith, (of_expression slots scope.visible test 0).most, of_statement form slots (inner_scope scope) chosen, of_statement form slots beside other))
    of_statement form slots scope (WhileLoop test body) =
        let t : Expr ℕ = resolve_expression functions scope.visible test in
        let b : Stmt ℕ = resolve_statement functions (inner_scope scope) body in
        shaped form slots _ (statement.While t b) (WhileLoop t b) (While-Loop t b)
        (omega (arith, (of_expression slots scope.visible test 0).most, of_statement form slots (inner_scope scope) body))
    of_statement form slots scope (ForLoop first test step body) =
        let header = scope_after (inner_scope scope) first in
        let within = inner_scope (reserve_slots header step) in
        let a : Stmt ℕ = resolve_statement functions (inner_scope scope) first in
        let t : Option (Expr ℕ) = resolve_optional functions header.visible test in
        let c : Stmt ℕ = resolve_statement functions header step in
        let b : Stmt ℕ = resolve_statement functions within body in
        shaped form slots _ (statement.For a t c b) (ForLoop a t c b) (For-Loop a t c b)
        (omega (arith, of_statement form slots (inner_scope scope) first, part.loop_bound slots (optional_weight test) t (of_optional slots header.visible test), of_statement form slots header step, of_statement form slots within body))
    of_statement form slots scope (statement.Split' whole index left right _ body close) =
        let within = inner_scope (split_scope scope whole left right) in
        let t : Expr ℕ = resolve_expression functions scope.visible index in
        let inside : List (Stmt ℕ) = resolve_statements functions within body in
        let same : statement_size form slots (statement.Block inside) ≡ body_size form slots inside = block_size form slots inside in
        omega (arith, same, (of_expression slots scope.visible index 0).most, (part.parted slots (resolve_mark scope.visible whole).name scope.next_slot (scope.next_slot + 1)).most, of_statements form slots within body)
    of_statement form slots scope (statement.Return at value) = part.returned slots (optional_weight value) (resolve_optional functions scope.visible value) (of_optional slots scope.visible value)
    of_statement form slots scope (statement.Print value) = omega (arith, (of_expression slots scope.visible value 0).most)
    of_statement form slots scope (statement.Block' _ body) =
        let inside : List (Stmt ℕ) = resolve_statements functions (inner_scope scope) body in
        let same : statement_size form slots (statement.Block inside) ≡ body_size form slots inside = block_size form slots inside in
        omega (arith, same, of_statements form slots (inner_scope scope) body)

    of_statements : {k : _} (form : Form) (slots : List Slot) (scope : Scope) (row : Row_of-Stmt Name k) → body_size form slots (resolve_statements functions scope row) ≤ 24 * row_of_statements_weight row
    of_statements form slots scope end_of-Stmt = omega arith
    of_statements form slots scope (more_of-Stmt first more) = omega (arith, of_statement form slots scope first, of_statements form slots (scope_after scope first) more)

  of_body : (form : Form) (slots : List Slot) (scope : Scope) (body : List (Stmt Name)) → body_size form slots (resolve_body functions scope body) ≤ 24 * body_weight body
  of_body form slots scope [] = omega arith
  of_body form slots scope (first ∷ more) = omega (arith, of_statement form slots scope first, of_body form slots (scope_after scope first) more)

  -- ---- functions

  of_parameters : (slots : List Slot) (scope : Scope) (x r : ℕ) (items : List (Item Name)) → Words (6 * length items) (parameters_code slots x r (resolve_items functions scope items))
  of_parameters slots scope x r [] = wide (written 0 _ (omega arith)) (omega arith)
  of_parameters slots scope x r (item ∷ more) =
      wide (part.joined (part.parameter slots x r (extent_of item.slot)) (of_parameters slots (declare_name scope item.name item.slot) (x + 1) _ more)) (omega arith)

  -- with the function's word in the table
  of_function : (form : Form) (page index : ℕ) (f : Function Name) → length (function_code form page (resolve_function functions index f)) + 1 ≤ 24 * function_weight f
  of_function form page index f =
      let g : Function ℕ = resolve_function functions index f in
      let own = form_in form g in
      let body : List Part = body_code own g.slots 1 g.body in
      let all = together (straightly (part.entered_frame (frame_bytes_of g) (need_of page g)))
      (together (straightly (of_parameters g.slots function_scope 0 reg.RESULT f.parameters))
      (together (exactly body) (together (exactly (straight fall_code)) (together (straightly (part.sync own)) (straightly (part.left (need_of page g))))))) in
      omega (arith, all.most, size-body own g.slots 1 g.body, of_body own g.slots (declare_items function_scope f.parameters) f.body)

  -- a function stands among those that are marked or among those that aren't
  one_more : (b : Bool) (form : Form) (page : ℕ) (g : Function ℕ) (more : List (Function ℕ)) → g.cilk ≡ b
      → length (functions_code form page (marked false (g ∷ more))) + length (functions_code form page (marked true (g ∷ more)))
      ≡ length (function_code form page g) + (length (functions_code form page (marked false more)) + length (functions_code form page (marked true more)))
  one_more true form page g more is =
      let with_ = ap (λ (l : List (Function ℕ)). length (functions_code form page l)) (marked_same true g more is) in
      let without = ap (λ (l : List (Function ℕ)). length (functions_code form page l)) (marked_other false g more (λ e. true≢false (sym is ∙ e))) in
      omega (arith, with_, without, length-append (function_code form page g) (functions_code form page (marked true more)))
  one_more false form page g more is =
      let with_ = ap (λ (l : List (Function ℕ)). length (functions_code form page l)) (marked_same false g more is) in
      let without = ap (λ (l : List (Function ℕ)). length (functions_code form page l)) (marked_other true g more (λ e. true≢false (sym e ∙ is))) in
      omega (arith, with_, without, length-append (function_code form page g) (functions_code form page (marked false more)))

  of_functions : (form : Form) (page index : ℕ) (fs : List (Function Name))
      → length (functions_code form page (marked false (resolve_functions functions index fs))) + length (functions_code form page (marked true (resolve_functions functions index fs)))
      + length fs ≤ 24 * functions_weight fs
  of_functions form page index [] = omega arith
  of_functions form page index (f ∷ more) =
      let g : Function ℕ = resolve_function functions index f in
      omega (arith, one_more g.cilk form page g (resolve_functions functions (index + 1) more) refl, of_function form page index f, of_functions form page (index + 1) more)

-- ---- images

length-laid : (address : ℕ) (code : List Part) → length (laid address code) ≡ length code
length-laid address [] = refl
length-laid address (p ∷ code) = ap suc (length-laid (address + 4) code)

-- the words of an image
pub length-image : (program : Program) (form : Form) (page : ℕ) → length (image_of program form page) ≡ 2 + length program.functions + length (program_code program form page)
length-image program form page =
    let code = program_code program form page in
    let body : List Operation = laid (functions_start program) code in
    omega (arith, length-append (front_of program form page) body, length-front program form page, length-laid (functions_start program) code)

-- an image has at most 24 words for each byte of its source, and two
pub source_bound : (bytes : List ℕ) (tree : Tree) (form : Form) (page : ℕ) → IsSourceOf bytes tree → length (image_of (program_of tree) form page) ≤ 24 * length bytes + 2
source_bound bytes tree form page source =
    let fs : List (Function ℕ) = resolve_functions tree.functions 0 tree.functions in
    omega (
      arith,
      length-image (program_of tree) form page,
      length-resolved tree.functions 0 tree.functions,
      of_functions tree.functions form page 0 tree.functions,
      source_weight bytes tree source,
      length-append (functions_code form page (marked false fs)) (functions_code form page (marked true fs)),
    )

-- a sound source isn't too long
sound_length : (bytes : List ℕ) → HasNoRefusal bytes → length bytes ≤ max_source_bytes
sound_length bytes none = by_cases (cases_lt max_source_bytes (length bytes))
  where
    by_cases : (max_source_bytes < length bytes) ⊎ (length bytes ≤ max_source_bytes) → length bytes ≤ max_source_bytes
    by_cases (inl more) = absurd (none size max_source_bytes (inr (refl, more)))
    by_cases (inr le) = le

-- the image of a sound program has fewer words than a number of 32 bits can say
pub sound_bound : (program : Program) (form : Form) (page : ℕ) → IsSoundProgram program → length (image_of program form page) < 2 ^ 32
sound_bound program form page (tree, (bytes, source, none), clean, is) =
    omega (arith, source_bound bytes tree form page source, sound_length bytes none, ap (λ p. length (image_of p form page)) is)
