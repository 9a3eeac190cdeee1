-- The code of a sound program can be made: its functions fit.
use Rattle.std.proofs.lemmas.Option.{none-some, same_Some}
use Rattle.std.proofs.Common.{◌≡◌, ℕ, zero, suc, ◌+◌, ◌<◌, ◌≤◌, ◌^◌, Bool, true, false, not, ◌&&◌, ◌||◌, Option, None, Some, List, [], ◌∷◌, ◌++◌, length, map, refl, sym, ap, ◌∙◌, subst, arith, cond, All, get_or, if◌then◌else◌}
use Rattle.std.specs.Prelude.{nat_lt, ◌==◌, unwrap_or}
use Rattle.std.specs.List.{find, list_any, flat_map, position}
use Rattle.std.proofs.lemmas.Bool.{eqb-true, eq-eqb, ltb-false, true≢false}
use Rattle.std.proofs.lemmas.List.Elements.{All-head, All-tail}
use Rattle.cm_syntax.proofs.naming.SoundLaw.{sound_frame, nothing_first, nothing_second, no_fault}
use Rattle.std.proofs.lemmas.List.Quantifiers.{position-Some}
use Rattle.cm_syntax.specs.declared.name.Name.{Name}
use Rattle.cm_syntax.specs.declared.expr.Mark.{Mark}
use Rattle.cm_syntax.specs.declared.expr.Expr.{Expr}
use Rattle.cm_syntax.specs.declared.expr.Expr.TheVariants as expression
use Rattle.cm_syntax.specs.declared.expr.Arg.{Arg}
use Rattle.cm_syntax.specs.declared.expr.Arg.TheVariants as argument
use Rattle.cm_syntax.specs.declared.expr.Call.{Call, Row_of-Arg, end_of-Arg, more_of-Arg, items-the_row-Arg, items_hidden-the_row-Arg-1}
use Rattle.cm_syntax.specs.declared.stmt.Slot.{Slot}
use Rattle.cm_syntax.specs.declared.stmt.Slot.TheVariants as slot
use Rattle.cm_syntax.specs.declared.stmt.Item.{Item}
use Rattle.cm_syntax.specs.declared.stmt.Target.{Target}
use Rattle.cm_syntax.specs.declared.stmt.Target.TheVariants as target
use Rattle.cm_syntax.specs.declared.stmt.Stmt.{Stmt, Row_of-Stmt, end_of-Stmt, more_of-Stmt, items-the_row-Stmt, items_hidden-the_row-Stmt-1}
use Rattle.cm_syntax.specs.declared.stmt.Stmt.TheVariants as statement
use Rattle.cm_syntax.specs.declared.stmt.Function.{Function}
use Rattle.cm_syntax.specs.declared.stmt.Program.{Program}
use Rattle.cm_syntax.specs.Shape.{Joined, Prefixed, Element, InputAt, IfAlone, IfElse, WhileLoop, ForLoop, Binary-Joined, Unary-Prefixed, Index-Element, Input-InputAt}
use Rattle.cm_syntax.specs.Frame.{slot_words, slots_words, argument_words, arguments_words, temporaries, optional_temporaries, items_temporaries, assignment_temporaries, statement_temporaries, body_temporaries, frame_words}
use Rattle.cm_syntax.specs.Limit.{max_frame_words, max_functions, max_parameter_words}
use Rattle.cm_syntax.specs.Resolution.{Variable, Scope, Role, bare_argument, lookup, inner_scope, function_scope, declare_name, declare_items, split_scope, reserve_slots, scope_after, statement_slots, statements_slots, body_slots, function_slots, ArgumentForm, value_form, slice_form, any_form, variable_form, argument_form, argument_forms, Use, mention, is_fit, expression_uses, arguments_uses, argument_uses, optional_uses, call_uses, target_uses, redeclaration_uses, items_uses, statement_uses, statements_uses, body_uses, function_uses, lookup_function, function_number, resolve_mark, mention_of, has_value, resolve_bare, resolve_expression, resolve_arguments, resolve_argument, resolve_optional, resolve_call, resolve_target, resolve_items, resolve_statement, resolve_statements, resolve_body, resolve_function, resolve_functions}
use Rattle.cm_syntax.specs.Fault.{twice, kind, frame, count, arity, fault_where, is_misfit, has_misfit, parameter_slots, call_faults, use_faults, is_wrong_main, frame_of, function_faults, functions_faults, IsSoundProgram}
use Rattle.cm_syntax.specs.Text.{is_same}
use Rattle.cm_syntax.specs.ParseTree as grammar
use Rattle.cm_syntax.specs.ParseTree.{Parameter, ParameterList, Parameters}
use Rattle.cm_syntax.specs.Lowering.{lower_parameter, lower_parameter_list, lower_parameters, lower_program}
use Rattle.cm_syntax.proofs.StatementLaw as measure
use Rattle.cm_syntax.proofs.StatementLaw.{If-Alone, If-Else, While-Loop, For-Loop}
use Rattle.cm_syntax.proofs.FrameLaw.{words_of}
use Rattle.cm_syntax.proofs.Rows.{row_of_block, row_of_call}
use Rattle.cm_gen.specs.Fits.{max_argument_words, Fits, HasShortCalls, RowHasShortCalls, ArgumentHasShortCalls, OptionFits, ItemsFit, AssignmentFits, StatementFits, SequenceFits, BodyFits, ParametersFit, FunctionFits, FunctionsFit}
use Rattle.cm_gen.proofs.sizes.FitsLaw.{fits}

-- ---- lists and tests

both_nothing : {A : Type 0} (a b : List A) → a ≡ [] → b ≡ [] → a ++ b ≡ []
both_nothing a b e g = ap (λ l. l ++ b) e ∙ g

-- where nothing comes of two lists, nothing comes of each
parts : {A B : Type 0} (g : A → List B) (xs ys : List A) → flat_map g (xs ++ ys) ≡ [] → (flat_map g xs ≡ []) × (flat_map g ys ≡ [])
parts g [] ys e = (refl, e)
parts g (x ∷ xs) ys e =
    let more = parts g xs ys (nothing_second (g x) (flat_map g (xs ++ ys)) e) in
    (both_nothing (g x) (flat_map g xs) (nothing_first (g x) (flat_map g (xs ++ ys)) e) more.0, more.1)

or_parts : (a b : Bool) → (a || b) ≡ false → (a ≡ false) × (b ≡ false)
or_parts true b e = absurd (true≢false e)
or_parts false b e = (refl, e)

not_not : (b : Bool) → not b ≡ false → b ≡ true
not_not true e = refl
not_not false e = absurd (true≢false e)

slots_words-append : (a b : List Slot) → slots_words (a ++ b) ≡ slots_words a + slots_words b
slots_words-append [] b = omega arith
slots_words-append (s ∷ a) b = omega (arith, slots_words-append a b)

-- ---- what the code makes, by the shapes

abbrev ListIsShort : List (Arg ℕ) → Type 0
ListIsShort [] = Unit {0}
ListIsShort (first ∷ more) = ArgumentHasShortCalls first × ListIsShort more

row_short : (n : _) (row : Row_of-Arg ℕ n) → ListIsShort (items-the_row-Arg ℕ n row) → RowHasShortCalls row
row_short n end_of-Arg h = tt
row_short n (more_of-Arg first more) h = (h.0, row_short _ more h.1)

row_words : (n : _) (row : Row_of-Arg ℕ n) → arguments_words row ≡ words_of (items-the_row-Arg ℕ n row)
row_words n end_of-Arg = refl
row_words n (more_of-Arg first more) = ap (λ x. argument_words first + x) (row_words _ more)

short-Call : (c : Call ℕ) → words_of c.arguments ≤ max_argument_words → ListIsShort c.arguments → HasShortCalls (expression.Call c)
short-Call c few short =
    let row = row_of_call (expression.Call c) in
    let same = items_hidden-the_row-Arg-1 ℕ c.arguments in
    let words : arguments_words row.1 ≡ words_of c.arguments = row_words row.0 row.1 ∙ ap words_of same in
    (subst (λ n. n ≤ max_argument_words) (sym words) few, row_short row.0 row.1 (subst ListIsShort (sym same) short))

-- a statement as the code makes it, of a shape
shaped : (s shape : Stmt ℕ) → s ≡ shape → statement_temporaries s ≤ max_frame_words → (statement_temporaries shape ≤ max_frame_words → StatementFits shape) → StatementFits s
shaped s shape is le h = subst StatementFits (sym is) (h (subst (λ x. statement_temporaries x ≤ max_frame_words) is le))

row_fits : (n : _) (row : Row_of-Stmt ℕ n) → BodyFits (items-the_row-Stmt ℕ n row) → SequenceFits row
row_fits n end_of-Stmt h = tt
row_fits n (more_of-Stmt first more) h = (h.0, row_fits _ more h.1)

fits-Block : (body : List (Stmt ℕ)) → statement_temporaries (statement.Block body) ≤ max_frame_words → (body_temporaries body ≤ max_frame_words → BodyFits body) → StatementFits (statement.Block body)
fits-Block body le h =
    let row = row_of_block (statement.Block body) in
    let most = (measure.holds-Block (statement.Block body) body body refl refl).most in
    row_fits row.0 row.1 (subst BodyFits (sym (items_hidden-the_row-Stmt-1 ℕ body)) (h (omega (arith, most, le))))

fits-Split : (whole : Mark ℕ) (place : Expr ℕ) (left right : Mark ℕ) (body : List (Stmt ℕ)) (close : ℕ) → statement_temporaries (statement.Split whole place left right body close) ≤ max_frame_words
    → (temporaries place 0 ≤ max_frame_words → Fits place 0) → (body_temporaries body ≤ max_frame_words → BodyFits body) → StatementFits (statement.Split whole place left right body close)
fits-Split whole place left right body close le g h =
    let row = row_of_block (statement.Split whole place left right body close) in
    let most = (measure.holds-Split (statement.Split whole place left right body close) whole place left right body close body refl refl).most in
    (g (omega (arith, most, le)), row_fits row.0 row.1 (subst BodyFits (sym (items_hidden-the_row-Stmt-1 ℕ body)) (h (omega (arith, most, le)))))

-- ---- parameters

-- no parameter is an array
abbrev NoArray : Slot → Type 0
NoArray slot.Scalar = Unit {0}
NoArray (slot.Array n) = ⊥
NoArray slot.Slice = Unit {0}

abbrev NoArrays : List Slot → Type 0
NoArrays [] = Unit {0}
NoArrays (first ∷ more) = NoArray first × NoArrays more

-- a function with few words of parameters
abbrev IsShort : Function Name → Type 0
IsShort f = (slots_words (parameter_slots f) ≤ max_parameter_words) × NoArrays (parameter_slots f)

abbrev AreShort : List (Function Name) → Type 0
AreShort [] = Unit {0}
AreShort (first ∷ more) = IsShort first × AreShort more

found_here : (b : Bool) (g f : Function Name) (later : Option (Function Name)) → IsShort g → (later ≡ Some f → IsShort f) → cond b (Some g) later ≡ Some f → IsShort f
found_here true g f later h more e = subst IsShort (same_Some _ _ e) h
found_here false g f later h more e = more e

found_is_short : (test : Function Name → Bool) (fs : List (Function Name)) (f : Function Name) → AreShort fs → find test fs ≡ Some f → IsShort f
found_is_short test [] f h e = absurd (none-some _ e)
found_is_short test (g ∷ fs) f h e = found_here (test g) g f (find test fs) h.0 (found_is_short test fs f h.1) e

some_word : (s : Slot) → NoArray s → 1 ≤ slot_words s
some_word slot.Scalar h = omega arith
some_word (slot.Array n) h = absurd h
some_word slot.Slice h = omega arith

-- ---- arguments

-- the words of an argument of a form
abbrev form_words : ArgumentForm → ℕ
form_words value_form = 1
form_words slice_form = 2
form_words any_form = 0

fit_words : (form : ArgumentForm) (s : Slot) → is_misfit form s ≡ false → (form ≡ any_form → ⊥) → NoArray s → form_words form ≡ slot_words s
fit_words value_form slot.Scalar e n h = refl
fit_words value_form (slot.Array k) e n h = absurd h
fit_words value_form slot.Slice e n h = absurd (true≢false e)
fit_words slice_form slot.Scalar e n h = absurd (true≢false e)
fit_words slice_form (slot.Array k) e n h = absurd h
fit_words slice_form slot.Slice e n h = refl
fit_words any_form s e n h = absurd (n refl)

bare_words : (visible : List Variable) (x : Mark Name) (form : ArgumentForm) → (form ≡ any_form → ⊥) → argument_words (resolve_bare visible x form) ≡ form_words form
bare_words visible x value_form n = refl
bare_words visible x slice_form n = refl
bare_words visible x any_form n = absurd (n refl)

bare_short : (visible : List Variable) (x : Mark Name) (form : ArgumentForm) → ArgumentHasShortCalls (resolve_bare visible x form)
bare_short visible x value_form = tt
bare_short visible x slice_form = tt
bare_short visible x any_form = tt

value_no_any : value_form ≡ any_form → ⊥
value_no_any e = cc

slice_no_any : slice_form ≡ any_form → ⊥
slice_no_any e = cc

choice_no_any : (b : Bool) → (if b then value_form else slice_form) ≡ any_form → ⊥
choice_no_any true e = value_no_any e
choice_no_any false e = slice_no_any e

-- a call without faults has the words of its function's parameters
abbrev Matches : Option (Function Name) → List ArgumentForm → Type 0
Matches None forms = ⊥
Matches (Some callee) forms = (length forms ≡ length (parameter_slots callee)) × (has_misfit forms (parameter_slots callee) ≡ false)

call_matches : (at : ℕ) (o : Option (Function Name)) (forms : List ArgumentForm) (wanted : Bool) → call_faults at o forms wanted ≡ [] → Matches o forms
call_matches at None forms wanted e = cc
call_matches at (Some callee) forms wanted e =
    let many = not (length forms == length (parameter_slots callee)) in
    let other = has_misfit forms (parameter_slots callee) || (wanted && not callee.gives) in
    let first = no_fault many at arity (nothing_first (fault_where many at arity) (fault_where other at kind) e) in
    let second = no_fault other at kind (nothing_second (fault_where many at arity) (fault_where other at kind) e) in
    (eqb-true (length forms) (length (parameter_slots callee)) (not_not _ first), (or_parts (has_misfit forms (parameter_slots callee)) (wanted && not callee.gives) second).0)

-- ---- trees in which no use is faulty, within functions of few parameters

module _ (functions : List (Function Name)) (f : Function Name) (short : AreShort functions) (few : length functions ≤ max_functions) where
  -- no use is faulty
  abbrev Clean : List Use → Type 0
  Clean uses = flat_map (use_faults functions f) uses ≡ []

  behind : (u : Use) (more : List Use) → Clean (u ∷ more) → Clean more
  behind u more e = nothing_second (use_faults functions f u) (flat_map (use_faults functions f) more) e

  two : (xs ys : List Use) → Clean (xs ++ ys) → Clean xs × Clean ys
  two xs ys e = parts (use_faults functions f) xs ys e

  known : (x : Mark Name) (role : Role) (o : Option Variable) → Clean (mention x role o ∷ []) → variable_form o ≡ any_form → ⊥
  known x role None e n = cc
  known x role (Some v) e n = choice_no_any (is_fit Role.value_read v.kind) n

  -- the words of an argument are those of its form, which is known
  argument_is : (visible : List Variable) (a : Arg Name) → Clean (argument_uses visible a)
      → (argument_form visible a ≡ any_form → ⊥) × (argument_words (resolve_argument functions visible a) ≡ form_words (argument_form visible a))
  argument_is visible (argument.Value (expression.Scalar x)) e =
      let named = known x bare_argument (lookup visible x.name) e in
      (named, bare_words visible x (variable_form (lookup visible x.name)) named)
  argument_is visible (argument.Value value) e = (value_no_any, refl)
  argument_is visible (argument.Slice a) e = (slice_no_any, refl)
  argument_is visible (argument.Address x) e = (slice_no_any, refl)

  words_same : {n : _} (visible : List Variable) (row : Row_of-Arg Name n) (ps : List Slot) → Clean (arguments_uses visible row)
      → length (argument_forms visible row) ≡ length ps → has_misfit (argument_forms visible row) ps ≡ false → NoArrays ps
      → words_of (resolve_arguments functions visible row) ≡ slots_words ps
  words_same visible end_of-Arg [] e l m h = refl
  words_same visible end_of-Arg (p ∷ ps) e l m h = absurd (omega (arith, l))
  words_same visible (more_of-Arg first more) [] e l m h = absurd (omega (arith, l))
  words_same visible (more_of-Arg first more) (p ∷ ps) e l m h =
      let uses = two (argument_uses visible first) (arguments_uses visible more) e in
      let misfits = or_parts (is_misfit (argument_form visible first) p) (has_misfit (argument_forms visible more) ps) m in
      let one = argument_is visible first uses.0 in
      let size : form_words (argument_form visible first) ≡ slot_words p = fit_words (argument_form visible first) p misfits.0 one.0 h.0 in
      let later = words_same visible more ps uses.1 (omega (arith, l)) misfits.1 h.1 in
      omega (arith, one.1, size, later)

  -- a call of a known function has few words
  few_words : {n : _} (visible : List Variable) (g : Name) (row : Row_of-Arg Name n) (o : Option (Function Name)) → lookup_function functions g ≡ o
      → Matches o (argument_forms visible row) → Clean (arguments_uses visible row) → words_of (resolve_arguments functions visible row) ≤ max_argument_words
  few_words visible g row None is m e = absurd m
  few_words visible g row (Some callee) is m e =
      let callee_short = found_is_short (λ h. is_same h.name.name g) functions callee short is in
      let same = words_same visible row (parameter_slots callee) e m.0 m.1 callee_short.1 in
      omega (arith, same, callee_short.0)

  -- a call as its number and its arguments
  abbrev call_made : {n : _} → List Variable → Mark Name → Row_of-Arg Name n → Call ℕ
  call_made visible g row = record { function = record { name = function_number functions g.name; at = g.at }; arguments = resolve_arguments functions visible row }

  short_call : {n : _} (visible : List Variable) (g : Mark Name) (row : Row_of-Arg Name n) (wanted : Bool)
      → Clean (Use.call_use g (argument_forms visible row) wanted ∷ arguments_uses visible row) → ListIsShort (resolve_arguments functions visible row)
      → HasShortCalls (expression.Call (call_made visible g row))
  short_call visible g row wanted h listed =
      let forms = argument_forms visible row in
      let here : call_faults g.at (lookup_function functions g.name) forms wanted ≡ [] =
      nothing_first (call_faults g.at (lookup_function functions g.name) forms wanted) (flat_map (use_faults functions f) (arguments_uses visible row)) h in
      let m = call_matches g.at (lookup_function functions g.name) forms wanted here in
      short-Call (call_made visible g row) (few_words visible g.name row (lookup_function functions g.name) refl m (behind (Use.call_use g forms wanted) (arguments_uses visible row) h)) listed

  mutual
    short_expression : (visible : List Variable) (e : Expr Name) → Clean (expression_uses visible e) → HasShortCalls (resolve_expression functions visible e)
    short_expression visible (expression.Number n) h = tt
    short_expression visible (expression.Scalar x) h = tt
    short_expression visible (Element a index) h =
        subst HasShortCalls (sym (Index-Element (resolve_mark visible a) (resolve_expression functions visible index))) (short_expression visible index (behind (mention_of visible a Role.element_read) (expression_uses visible index) h))
    short_expression visible (expression.Len a) h = tt
    short_expression visible (InputAt index) h = subst HasShortCalls (sym (Input-InputAt (resolve_expression functions visible index))) (short_expression visible index h)
    short_expression visible expression.Inputs h = tt
    short_expression visible (Prefixed o operand) h = subst HasShortCalls (sym (Unary-Prefixed o (resolve_expression functions visible operand))) (short_expression visible operand h)
    short_expression visible (Joined o left right) h =
        let uses = two (expression_uses visible left) (expression_uses visible right) h in
        subst HasShortCalls (sym (Binary-Joined o (resolve_expression functions visible left) (resolve_expression functions visible right))) (short_expression visible left uses.0, short_expression visible right uses.1)
    short_expression visible (expression.Call' g _ row) h = short_call visible g row true h (short_arguments visible row (behind (Use.call_use g (argument_forms visible row) true) (arguments_uses visible row) h))

    short_arguments : {n : _} (visible : List Variable) (row : Row_of-Arg Name n) → Clean (arguments_uses visible row) → ListIsShort (resolve_arguments functions visible row)
    short_arguments visible end_of-Arg h = tt
    short_arguments visible (more_of-Arg first more) h =
        let uses = two (argument_uses visible first) (arguments_uses visible more) h in
        (short_argument visible first uses.0, short_arguments visible more uses.1)

    short_argument : (visible : List Variable) (a : Arg Name) → Clean (argument_uses visible a) → ArgumentHasShortCalls (resolve_argument functions visible a)
    short_argument visible (argument.Value (expression.Scalar x)) h = bare_short visible x (variable_form (lookup visible x.name))
    short_argument visible (argument.Value value) h = short_expression visible value h
    short_argument visible (argument.Slice a) h = tt
    short_argument visible (argument.Address x) h = tt

  fits_here : (visible : List Variable) (e : Expr Name) (d : ℕ) → Clean (expression_uses visible e) → temporaries (resolve_expression functions visible e) d ≤ max_frame_words
      → Fits (resolve_expression functions visible e) d
  fits_here visible e d h le = fits (resolve_expression functions visible e) d (short_expression visible e h) le

  fits_optional : (visible : List Variable) (o : Option (Expr Name)) → Clean (optional_uses visible o) → optional_temporaries (resolve_optional functions visible o) ≤ max_frame_words
      → OptionFits (resolve_optional functions visible o)
  fits_optional visible None h le = tt
  fits_optional visible (Some e) h le = fits_here visible e 0 h le

  -- a call that is a statement or is spawned
  call_fits : (visible : List Variable) (wanted : Bool) (e : Expr Name) → Clean (call_uses visible wanted e) → HasShortCalls (expression.Call (resolve_call functions visible e))
  call_fits visible wanted (expression.Call' g _ row) h = short_call visible g row wanted h (short_arguments visible row (behind (Use.call_use g (argument_forms visible row) wanted) (arguments_uses visible row) h))
  call_fits visible wanted e h = short-Call (resolve_call functions visible e) (omega arith) tt

  small_number : (g : Name) → function_number functions g < 2 ^ 16
  small_number g = by_place (position (λ h. is_same h.name.name g) functions) refl
    where
      by_place : (o : Option ℕ) → position (λ h. is_same h.name.name g) functions ≡ o → unwrap_or o 0 < 2 ^ 16
      by_place None is = omega arith
      by_place (Some i) is =
          let within = (position-Some (λ h. is_same h.name.name g) functions i f is).0 in
          omega (arith, within, few)

  call_index : (visible : List Variable) (e : Expr Name) → (resolve_call functions visible e).function.name < 2 ^ 16
  call_index visible (expression.Call' g _ row) = small_number g.name
  call_index visible _ = omega arith

  fits_items : (scope : Scope) (items : List (Item Name)) → Clean (items_uses scope items) → slots_words (map (λ item. item.slot) items) ≤ max_frame_words
      → items_temporaries (resolve_items functions scope items) ≤ max_frame_words → ItemsFit (resolve_items functions scope items)
  fits_items scope [] h size le = tt
  fits_items scope (item ∷ more) h size le =
      let later = two (redeclaration_uses scope item.name) (optional_uses scope.visible item.first ++ items_uses (declare_name scope item.name item.slot) more) h in
      let uses = two (optional_uses scope.visible item.first) (items_uses (declare_name scope item.name item.slot) more) later.1 in
      (omega (arith, size), fits_optional scope.visible item.first uses.0 (omega (arith, le)), fits_items (declare_name scope item.name item.slot) more uses.1 (omega (arith, size)) (omega (arith, le)))

  fits_assignment : (visible : List Variable) (written : Target Name) (value : Expr Name) → Clean (target_uses visible written ++ expression_uses visible value)
      → assignment_temporaries (resolve_target functions visible written) (resolve_expression functions visible value) ≤ max_frame_words
      → AssignmentFits (resolve_target functions visible written) (resolve_expression functions visible value)
  fits_assignment visible (target.Scalar x) value h le = fits_here visible value 0 (behind (mention_of visible x Role.value_write) (expression_uses visible value) h) le
  fits_assignment visible (target.Index a index) value h le =
      let uses = two (expression_uses visible index) (expression_uses visible value) (behind (mention_of visible a Role.element_write) (expression_uses visible index ++ expression_uses visible value) h) in
      (fits_here visible index 0 uses.0 (omega (arith, le)), fits_here visible value 1 uses.1 (omega (arith, le)))

  mutual
    fits_statement : (scope : Scope) (s : Stmt Name) → Clean (statement_uses scope s) → slots_words (statement_slots scope s) ≤ max_frame_words
        → statement_temporaries (resolve_statement functions scope s) ≤ max_frame_words → StatementFits (resolve_statement functions scope s)
    fits_statement scope statement.Empty h size le = tt
    fits_statement scope (statement.Declare items) h size le = fits_items scope items h size le
    fits_statement scope (statement.Assign written o value) h size le = fits_assignment scope.visible written value h le
    fits_statement scope (statement.Call call) h size le = fits (expression.Call (resolve_call functions scope.visible (expression.Call call))) 0 (call_fits scope.visible false (expression.Call call) h) le
    fits_statement scope (statement.Spawn at None call) h size le =
        (fits (expression.Call (resolve_call functions scope.visible (expression.Call call))) 0 (call_fits scope.visible false (expression.Call call) (behind (Use.parallel_keyword at) (call_uses scope.visible false (expression.Call call)) h)) le, call_index scope.visible (expression.Call call))
    fits_statement scope (statement.Spawn at (Some x) call) h size le =
        let uses = call_uses scope.visible true (expression.Call call) in
        (fits (expression.Call (resolve_call functions scope.visible (expression.Call call))) 0 (call_fits scope.visible true (expression.Call call) (behind (Use.parallel_keyword at) uses (behind (mention_of scope.visible x Role.spawn_destination) (Use.parallel_keyword at ∷ uses) h))) le, call_index scope.visible (expression.Call call))
    fits_statement scope (statement.Sync at) h size le = tt
    fits_statement scope (IfAlone test chosen) h size le =
        let uses = two (expression_uses scope.visible test) (statement_uses (inner_scope scope) chosen) h in
        let t : Expr ℕ = resolve_expression functions scope.visible test in
        let c : Stmt ℕ = resolve_statement functions (inner_scope scope) chosen in
        shaped (statement.If t c None) (IfAlone t c) (If-Alone t c) le
        (λ le. (fits_here scope.visible test 0 uses.0 (omega (arith, le)), fits_statement (inner_scope scope) chosen uses.1 size (omega (arith, le))))
    fits_statement scope (IfElse test chosen other) h size le =
        let beside = inner_scope (reserve_slots scope chosen) in
        let uses = two (expression_uses scope.visible test) (statement_uses (inner_scope scope) chosen ++ statement_uses beside other) h in
        let both = two (statement_uses (inner_scope scope) chosen) (statement_uses beside other) uses.1 in
        let sizes = slots_words-append (statement_slots (inner_scope scope) chosen) (statement_slots beside other) in
        let t : Expr ℕ = resolve_expression functions scope.visible test in
        let c : Stmt ℕ = resolve_statement functions (inner_scope scope) chosen in
        let o : Stmt ℕ = resolve_statement functions beside other in
        shaped (statement.If t c (Some o)) (IfElse t c o) (If-Else t c o) le
        (λ le. (
          fits_here scope.visible test 0 uses.0 (omega (arith, le)),
          fits_statement (inner_scope scope) chosen both.0 (omega (arith, sizes, size)) (omega (arith, le)),
          fits_statement beside other both.1 (omega (arith, sizes, size)) (omega (arith, le)),
        ))
    fits_statement scope (WhileLoop test body) h size le =
        let uses = two (expression_uses scope.visible test) (statement_uses (inner_scope scope) body) h in
        let t : Expr ℕ = resolve_expression functions scope.visible test in
        let b : Stmt ℕ = resolve_statement functions (inner_scope scope) body in
        shaped (statement.While t b) (WhileLoop t b) (While-Loop t b) le
        (λ le. (fits_here scope.visible test 0 uses.0 (omega (arith, le)), fits_statement (inner_scope scope) body uses.1 size (omega (arith, le))))
    fits_statement scope (ForLoop first test step body) h size le =
        let header = scope_after (inner_scope scope) first in
        let within = inner_scope (reserve_slots header step) in
        let uses = two (statement_uses (inner_scope scope) first) (optional_uses header.visible test ++ (statement_uses header step ++ statement_uses within body)) h in
        let later = two (optional_uses header.visible test) (statement_uses header step ++ statement_uses within body) uses.1 in
        let both = two (statement_uses header step) (statement_uses within body) later.1 in
        let sizes = slots_words-append (statement_slots (inner_scope scope) first) (statement_slots header step ++ statement_slots within body) in
        let more = slots_words-append (statement_slots header step) (statement_slots within body) in
        let a : Stmt ℕ = resolve_statement functions (inner_scope scope) first in
        let t : Option (Expr ℕ) = resolve_optional functions header.visible test in
        let c : Stmt ℕ = resolve_statement functions header step in
        let b : Stmt ℕ = resolve_statement functions within body in
        shaped (statement.For a t c b) (ForLoop a t c b) (For-Loop a t c b) le
        (λ le. (
          fits_statement (inner_scope scope) first uses.0 (omega (arith, sizes, more, size)) (omega (arith, le)),
          fits_optional header.visible test later.0 (omega (arith, le)),
          fits_statement header step both.0 (omega (arith, sizes, more, size)) (omega (arith, le)),
          fits_statement within body both.1 (omega (arith, sizes, more, size)) (omega (arith, le)),
        ))
    fits_statement scope (statement.Split' whole index left right _ body close) h size le =
        let within = inner_scope (split_scope scope whole left right) in
        let same : List Use = if is_same left.name right.name then Use.redeclaration right.at ∷ [] else [] in
        let uses = two (expression_uses scope.visible index) (same ++ statements_uses within body) (behind (mention_of scope.visible whole Role.split_whole) (expression_uses scope.visible index ++ (same ++ statements_uses within body)) h) in
        let inner = two same (statements_uses within body) uses.1 in
        let l : Mark ℕ = record { name = scope.next_slot; at = left.at } in
        let r : Mark ℕ = record { name = scope.next_slot + 1; at = right.at } in
        fits-Split (resolve_mark scope.visible whole) (resolve_expression functions scope.visible index) l r (resolve_statements functions within body) close le (fits_here scope.visible index 0 uses.0) (fits_statements within body inner.1 (omega (arith, size)))
    fits_statement scope (statement.Return at value) h size le = fits_optional scope.visible value (behind (Use.return_keyword at (has_value value)) (optional_uses scope.visible value) h) le
    fits_statement scope (statement.Print value) h size le = fits_here scope.visible value 0 h le
    fits_statement scope (statement.Block' _ body) h size le = fits-Block (resolve_statements functions (inner_scope scope) body) le (fits_statements (inner_scope scope) body h size)

    fits_statements : {n : _} (scope : Scope) (row : Row_of-Stmt Name n) → Clean (statements_uses scope row) → slots_words (statements_slots scope row) ≤ max_frame_words
        → body_temporaries (resolve_statements functions scope row) ≤ max_frame_words → BodyFits (resolve_statements functions scope row)
    fits_statements scope end_of-Stmt h size le = tt
    fits_statements scope (more_of-Stmt first more) h size le =
        let uses = two (statement_uses scope first) (statements_uses (scope_after scope first) more) h in
        let sizes = slots_words-append (statement_slots scope first) (statements_slots (scope_after scope first) more) in (
          fits_statement scope first uses.0 (omega (arith, sizes, size)) (omega (arith, le)),
          fits_statements (scope_after scope first) more uses.1 (omega (arith, sizes, size)) (omega (arith, le)),
        )

  fits_body : (scope : Scope) (body : List (Stmt Name)) → Clean (body_uses scope body) → slots_words (body_slots scope body) ≤ max_frame_words
      → body_temporaries (resolve_body functions scope body) ≤ max_frame_words → BodyFits (resolve_body functions scope body)
  fits_body scope [] h size le = tt
  fits_body scope (first ∷ more) h size le =
      let uses = two (statement_uses scope first) (body_uses (scope_after scope first) more) h in
      let sizes = slots_words-append (statement_slots scope first) (body_slots (scope_after scope first) more) in (
        fits_statement scope first uses.0 (omega (arith, sizes, size)) (omega (arith, le)),
        fits_body (scope_after scope first) more uses.1 (omega (arith, sizes, size)) (omega (arith, le)),
      )

  fits_parameters : (scope : Scope) (items : List (Item Name)) (x r : ℕ) → NoArrays (map (λ item. item.slot) items) → x + slots_words (map (λ item. item.slot) items) ≤ 2 ^ 16
      → r + slots_words (map (λ item. item.slot) items) ≤ 32 → ParametersFit x r (resolve_items functions scope items)
  fits_parameters scope [] x r h low le = tt
  fits_parameters scope (item ∷ more) x r h low le =
      let one = some_word item.slot h.0 in
      (omega (arith, one, low), omega (arith, le), fits_parameters (declare_name scope item.name item.slot) more (x + 1) (r + slot_words item.slot) h.1 (omega (arith, one, low)) (omega (arith, le)))

-- ---- functions

-- a function without faults, and its number of words
fits_function : (functions : List (Function Name)) (f : Function Name) (index : ℕ) → AreShort functions → length functions ≤ max_functions → IsShort f
    → flat_map (use_faults functions f) (function_uses f) ≡ [] → frame_words (resolve_function functions index f) ≤ max_frame_words
    → FunctionFits (resolve_function functions index f)
fits_function functions f index short few own h le =
    let scope = declare_items function_scope f.parameters in
    let uses = parts (use_faults functions f) (items_uses function_scope f.parameters) (body_uses scope f.body) h in
    let sizes : slots_words (function_slots f) ≡ slots_words (parameter_slots f) + slots_words (body_slots scope f.body) = slots_words-append (parameter_slots f) (body_slots scope f.body) in
    record {
      frame = le;
      body_fits = fits_body functions f short few scope f.body uses.1 (omega (arith, sizes, le)) (omega (arith, le));
      parameters_fit = fits_parameters functions f short few function_scope f.parameters 0 10 own.1 (omega (arith, own.0)) (omega (arith, own.0));
    }

-- of a function without faults: it has few words of parameters, no use is faulty, and it isn't the 257th
record Faultless (functions : List (Function Name)) (index : ℕ) (f : Function Name) : Type 0 where
  frame_fits : nat_lt max_frame_words (frame_of functions f) ≡ false
  in_number : (index == max_functions) ≡ false
  words : nat_lt max_parameter_words (slots_words (parameter_slots f)) ≡ false
  uses : flat_map (use_faults functions f) (function_uses f) ≡ []

faultless : (functions before : List (Function Name)) (index : ℕ) (f : Function Name) → function_faults functions before index f ≡ [] → Faultless functions index f
faultless functions before index f e =
    let doubled = fault_where (list_any (λ g. is_same g.name.name f.name.name) before) f.name.at twice in
    let misused = fault_where (is_wrong_main functions f) f.name.at kind in
    let great = fault_where (nat_lt max_frame_words (frame_of functions f)) f.name.at frame in
    let many = fault_where (index == max_functions || nat_lt max_parameter_words (slots_words (parameter_slots f))) f.name.at count in
    let uses = flat_map (use_faults functions f) (function_uses f) in
    let behind_main = nothing_second misused (great ++ (many ++ uses)) (nothing_second doubled (misused ++ (great ++ (many ++ uses))) e) in
    let behind_frame = nothing_second great (many ++ uses) behind_main in
    let counts = or_parts (index == max_functions) (nat_lt max_parameter_words (slots_words (parameter_slots f))) (no_fault _ f.name.at count (nothing_first many uses behind_frame)) in
    record {
      frame_fits = no_fault _ f.name.at frame (nothing_first great (many ++ uses) behind_main);
      in_number = counts.0;
      words = counts.1;
      uses = nothing_second many uses behind_frame;
    }

-- no function has an array as a parameter
abbrev HaveNoArrays : List (Function Name) → Type 0
HaveNoArrays [] = Unit {0}
HaveNoArrays (first ∷ more) = NoArrays (parameter_slots first) × HaveNoArrays more

are_short : (functions before : List (Function Name)) (index : ℕ) (fs : List (Function Name)) → functions_faults functions before index fs ≡ [] → HaveNoArrays fs → AreShort fs
are_short functions before index [] e h = tt
are_short functions before index (f ∷ more) e h =
    let first = faultless functions before index f (nothing_first _ _ e) in
    ((ltb-false max_parameter_words (slots_words (parameter_slots f)) first.words, h.0), are_short functions (before ++ f ∷ []) (index + 1) more (nothing_second _ _ e) h.1)

other_number : (a b : ℕ) → (a == b) ≡ false → a ≡ b → ⊥
other_number a b e is = true≢false (sym (eq-eqb a b is) ∙ e)

are_few : (functions before : List (Function Name)) (index : ℕ) (fs : List (Function Name)) → functions_faults functions before index fs ≡ [] → index ≤ max_functions → index + length fs ≤ max_functions
are_few functions before index [] e le = omega (arith, le)
are_few functions before index (f ∷ more) e le =
    let first = faultless functions before index f (nothing_first _ _ e) in
    let other = other_number index max_functions first.in_number in
    let later = are_few functions (before ++ f ∷ []) (index + 1) more (nothing_second (function_faults functions before index f) (functions_faults functions (before ++ f ∷ []) (index + 1) more) e) (omega (arith, le, other)) in
    omega (arith, later)

fits_functions : (functions before : List (Function Name)) (index : ℕ) (fs : List (Function Name)) → AreShort functions → length functions ≤ max_functions → AreShort fs
    → functions_faults functions before index fs ≡ [] → All (λ g. frame_words g ≤ max_frame_words) (resolve_functions functions index fs)
    → FunctionsFit (resolve_functions functions index fs)
fits_functions functions before index [] short few own e frames = tt
fits_functions functions before index (f ∷ more) short few own e frames =
    let first = faultless functions before index f (nothing_first _ _ e) in (
      fits_function functions f index short few own.0 first.uses (All-head (λ g. frame_words g ≤ max_frame_words) (resolve_function functions index f) (resolve_functions functions (index + 1) more) frames),
      fits_functions functions (before ++ f ∷ []) (index + 1) more short few own.1 (nothing_second _ _ e) (All-tail (λ g. frame_words g ≤ max_frame_words) (resolve_function functions index f) (resolve_functions functions (index + 1) more) frames),
    )

-- ---- the functions of a source have no arrays as parameters

no_array : (p : Parameter) → NoArray (lower_parameter p).slot
no_array (Parameter.scalar _ x) = tt
no_array (Parameter.slice _ a _ _) = tt
no_array (Parameter.pointer _ _ p) = tt

no_arrays_in : (ps : ParameterList) → NoArrays (map (λ item. item.slot) (lower_parameter_list ps))
no_arrays_in (ParameterList.last one) = (no_array one, tt)
no_arrays_in (ParameterList.before one _ more) = (no_array one, no_arrays_in more)

no_arrays : (ps : Parameters) → NoArrays (map (λ item. item.slot) (lower_parameters ps))
no_arrays Parameters.none = tt
no_arrays (Parameters.void _) = tt
no_arrays (Parameters.list all) = no_arrays_in all

have_no_arrays : (p : grammar.Program) → HaveNoArrays (lower_program p)
have_no_arrays (grammar.Program.last f) = (no_arrays f.parameters, tt)
have_no_arrays (grammar.Program.before f more) = (no_arrays f.parameters, have_no_arrays more)

-- ---- programs

same_at : (fs : List (Function ℕ)) (k : ℕ) (f g : Function ℕ) → k < length fs → get_or fs k f ≡ get_or fs k g
same_at [] k f g lt = absurd (omega (arith, lt))
same_at (h ∷ fs) zero f g lt = refl
same_at (h ∷ fs) (suc k) f g lt = same_at fs k f g (omega (arith, lt))

frames_fit : (program : Program) → IsSoundProgram program → All (λ g. frame_words g ≤ max_frame_words) program.functions
frames_fit program sound k f lt = sound_frame (get_or program.functions k f) (program, sound, (k, lt, same_at program.functions k (get_or program.functions k f) f lt))

pub length-resolved : (functions : List (Function Name)) (index : ℕ) (fs : List (Function Name)) → length (resolve_functions functions index fs) ≡ length fs
length-resolved functions index [] = refl
length-resolved functions index (f ∷ more) = ap suc (length-resolved functions (index + 1) more)

-- the functions of a sound program fit, and they are few
pub sound_functions : (program : Program) → IsSoundProgram program → FunctionsFit program.functions × (length program.functions ≤ max_functions)
sound_functions program (tree, source, clean, is) =
    let fs = tree.functions in
    let none : functions_faults fs [] 0 fs ≡ [] = nothing_first _ _ clean in
    let plain : HaveNoArrays fs = subst HaveNoArrays source.1.2.2 (have_no_arrays source.1.2.0) in
    let short = are_short fs [] 0 fs none plain in
    let few : length fs ≤ max_functions = omega (arith, are_few fs [] 0 fs none (omega arith)) in
    let all : FunctionsFit (resolve_functions fs 0 fs) = fits_functions fs [] 0 fs short few short none (subst (λ (p : Program). All (λ g. frame_words g ≤ max_frame_words) p.functions) is (frames_fit program (tree, source, clean, is))) in
    (subst (λ (p : Program). FunctionsFit p.functions) (sym is) all, omega (arith, few, ap (λ (p : Program). length p.functions) is, length-resolved fs 0 fs))
