-- Where no use in a statement is faulty, the statement with its names numbered is well typed.
use Rattle.std.proofs.Common.{◌≡◌, ℕ, ◌+◌, true, false, not, List, [], ◌∷◌, ◌++◌, length, map, refl, sym, ap, ◌∙◌, subst, arith, Option, None, Some, append_assoc, length-append, if◌then◌else◌, Contains, slice_get, option_map}
use Rattle.std.proofs.lemmas.Bool.{not-false}
use Rattle.cm_syntax.specs.declared.name.Name.{Name}
use Rattle.cm_syntax.specs.declared.expr.Mark.{Mark}
use Rattle.cm_syntax.specs.declared.expr.Expr.{Expr}
use Rattle.cm_syntax.specs.declared.expr.Expr.TheVariants as expression
use Rattle.cm_syntax.specs.declared.expr.Call.{Call}
use Rattle.cm_syntax.specs.declared.stmt.Slot.{Slot}
use Rattle.cm_syntax.specs.declared.stmt.Slot.TheVariants as slot
use Rattle.cm_syntax.specs.declared.stmt.Item.{Item}
use Rattle.cm_syntax.specs.declared.stmt.Stmt.{Stmt, Row_of-Stmt, end_of-Stmt, more_of-Stmt, items-the_row-Stmt, items_hidden-the_row-Stmt-1}
use Rattle.cm_syntax.specs.declared.stmt.Stmt.TheVariants as statement
use Rattle.cm_syntax.specs.Shape.{IfAlone, IfElse, WhileLoop, ForLoop}
use Rattle.cm_syntax.specs.Text.{is_same}
use Rattle.cm_syntax.specs.Resolution.{Variable, Scope, Role, lookup, hide, inner_scope, declare_name, declare_items, part_kind, part_slot, split_scope, reserve_slots, scope_after, statement_slots, statements_slots, body_slots, redeclaration, return_keyword, expression_uses, optional_uses, target_uses, redeclaration_uses, items_uses, spawn_uses, has_value, statement_uses, statements_uses, body_uses, resolve_mark, resolve_expression, resolve_optional, resolve_call, resolve_items, resolve_statement, resolve_statements, resolve_body}
use Rattle.cm_syntax.specs.Fault.{Variant}
use Rattle.cm_syntax.proofs.StatementLaw.{If-Alone, If-Else, While-Loop, For-Loop}
use Rattle.cm_syntax.proofs.naming.NameLaw.{slots_counted, Each, get_behind}
use Rattle.cm_syntax.proofs.Rows.{row_of_block}
use Rattle.cm_syntax.proofs.naming.SoundLaw.{no_fault}
use Rattle.cm_meaning.specs.Typing.{set_by_items, set_behind, IsSetRow, TypedExpression, TypedItems, TypedReturn, TypedStatement, TypedSequence, TypedBody}
use Rattle.cm_meaning.proofs.FormedLaw.{FormedExpression, FormedOptional, FormedItems, FormedStatement, FormedSequence, FormedBody}
use Rattle.cm_meaning.proofs.TypedExpressionLaw.{Each-parts, Setting, IsClean, AreSet, without_set, more_set, set_scalar, set_row, typed_expression, typed_optional, typed_own_call, typed_target, typed_item}

-- ---- lists

Contains-first : (xs : List ℕ) (x : ℕ) → Contains (x ∷ xs) x
Contains-first xs x = (0, omega arith, refl)

-- each part of a split is a slice
parts_are : (v : Option Variable) → part_slot v ≡ slot.Slice
parts_are None = refl
parts_are (Some v) = of_kind v.kind
  where
    of_kind : (k : Slot) → part_kind k ≡ slot.Slice
    of_kind slot.Scalar = refl
    of_kind (slot.Array words) = refl
    of_kind slot.Slice = refl

module _ (here : Setting) where
  open here use {functions, numbered, slots, own as f, known}

  -- ---- points of the function

  -- What is visible is set, and the next slots are these.
  pub record Fits (set : List ℕ) (scope : Scope) (coming : List Slot) : Type 0 where
    pub visible : AreSet here set scope.visible
    pub before : List Slot
    pub at : length before ≡ scope.next_slot
    pub parts : slots ≡ before ++ coming

  pub next_is : (set : List ℕ) (scope : Scope) (kind : Slot) (coming : List Slot) → Fits set scope (kind ∷ coming) → slice_get slots scope.next_slot ≡ Some kind
  next_is set scope kind coming h = ap (λ s. slice_get s scope.next_slot) h.parts ∙ (ap (slice_get (h.before ++ kind ∷ coming)) (sym h.at) ∙ get_behind h.before kind coming)

  pub declared_fits : (set : List ℕ) (scope : Scope) (x : Mark Name) (kind : Slot) (coming : List Slot) → Fits set scope (kind ∷ coming) → Fits (scope.next_slot ∷ set) (declare_name scope x kind) coming
  declared_fits set scope x kind coming h = record {
    visible = ((Contains-first set scope.next_slot, next_is set scope kind coming h), more_set here set scope.next_slot scope.visible h.visible);
    before = h.before ++ kind ∷ [];
    at = omega (arith, length-append h.before (kind ∷ []), h.at);
    parts = h.parts ∙ sym (append_assoc h.before (kind ∷ []) coming);
  }

  pub within_fits : (set : List ℕ) (scope : Scope) (coming : List Slot) → Fits set scope coming → Fits set (inner_scope scope) coming
  within_fits set scope coming h = record { visible = h.visible; before = h.before; at = h.at; parts = h.parts }

  -- behind slots of what comes first, which may have a scope of its own
  pub past_fits : (set : List ℕ) (scope own : Scope) (s : Stmt Name) (coming : List Slot) → Fits set scope (statement_slots own s ++ coming) → Fits set (reserve_slots scope s) coming
  past_fits set scope own s coming h = record {
    visible = h.visible;
    before = h.before ++ statement_slots own s;
    at = omega (arith, length-append h.before (statement_slots own s), h.at, slots_counted own s);
    parts = h.parts ∙ sym (append_assoc h.before (statement_slots own s) coming);
  }

  pub items_fit : (set : List ℕ) (scope : Scope) (items : List (Item Name)) (coming : List Slot) → Fits set scope (map (λ item. item.slot) items ++ coming) →
      Fits (set_by_items set (resolve_items functions scope items)) (declare_items scope items) coming
  items_fit set scope [] coming h = h
  items_fit set scope (item ∷ more) coming h =
      items_fit (scope.next_slot ∷ set) (declare_name scope item.name item.slot) more coming (declared_fits set scope item.name item.slot (map (λ item. item.slot) more ++ coming) h)

  pub regrouped : (set : List ℕ) (scope : Scope) (a b coming : List Slot) → Fits set scope ((a ++ b) ++ coming) → Fits set scope (a ++ (b ++ coming))
  regrouped set scope a b coming h = record { visible = h.visible; before = h.before; at = h.at; parts = h.parts ∙ ap (λ s. h.before ++ s) (append_assoc a b coming) }

  pub after_fits : (set : List ℕ) (scope : Scope) (s : Stmt Name) (coming : List Slot) → Fits set scope (statement_slots scope s ++ coming) →
      Fits (set_behind set (resolve_statement functions scope s)) (scope_after scope s) coming
  after_fits set scope (statement.Declare items) coming h = items_fit set scope items coming h
  after_fits set scope (IfAlone test chosen) coming h = past_fits set scope scope (IfAlone test chosen) coming h
  after_fits set scope (IfElse test chosen other) coming h = past_fits set scope scope (IfElse test chosen other) coming h
  after_fits set scope (WhileLoop test body) coming h = past_fits set scope scope (WhileLoop test body) coming h
  after_fits set scope (ForLoop first test step body) coming h = past_fits set scope scope (ForLoop first test step body) coming h
  after_fits set scope s coming h = past_fits set scope scope s coming h

  -- the parts of a split
  pub parts_fit : (set : List ℕ) (scope : Scope) (whole left right : Mark Name) (coming : List Slot) →
      Fits set scope (part_slot (lookup scope.visible whole.name) ∷ part_slot (lookup scope.visible whole.name) ∷ coming) →
      Fits ((scope.next_slot + 1) ∷ scope.next_slot ∷ set) (split_scope scope whole left right) coming
  parts_fit set scope whole left right coming h =
      let hidden : Scope = record { visible = hide whole.name scope.visible; declared = []; next_slot = scope.next_slot } in
      let kind = part_slot (lookup scope.visible whole.name) in
      declared_fits (scope.next_slot ∷ set) (declare_name hidden left kind) right kind coming (declared_fits set hidden left kind (kind ∷ coming)
      (record { visible = without_set here set whole.name scope.visible h.visible; before = h.before; at = h.at; parts = h.parts }))

  -- ---- statements

  -- the statements of a row are those of its list
  block_typed : (n : _) (set : List ℕ) (row : Row_of-Stmt ℕ n) → TypedBody numbered slots f.gives set (items-the_row-Stmt ℕ n row) → TypedSequence numbered slots f.gives set row
  block_typed n set end_of-Stmt h = tt
  block_typed n set (more_of-Stmt first more) h = (h.0, block_typed _ (set_behind set first) more h.1)

  made_block : (set : List ℕ) (body : List (Stmt ℕ)) → TypedBody numbered slots f.gives set body → TypedStatement numbered slots f.gives set (statement.Block body)
  made_block set body h =
      let row = row_of_block (statement.Block body) in
      block_typed row.0 set row.1 (subst (TypedBody numbered slots f.gives set) (sym (items_hidden-the_row-Stmt-1 ℕ body)) h)

  made_split : (set : List ℕ) (whole : Mark ℕ) (index : Expr ℕ) (left right : Mark ℕ) (body : List (Stmt ℕ)) (close : ℕ) → IsSetRow numbered slots set whole.name → TypedExpression numbered slots set index →
      slice_get slots left.name ≡ Some slot.Slice → slice_get slots right.name ≡ Some slot.Slice → TypedBody numbered slots f.gives (right.name ∷ left.name ∷ set) body →
      TypedStatement numbered slots f.gives set (statement.Split whole index left right body close)
  made_split set whole index left right body close a e l r h =
      let row = row_of_block (statement.Split whole index left right body close) in
      (a, e, l, r, block_typed row.0 (right.name ∷ left.name ∷ set) row.1 (subst (TypedBody numbered slots f.gives (right.name ∷ left.name ∷ set)) (sym (items_hidden-the_row-Stmt-1 ℕ body)) h))

  typed_items : (set : List ℕ) (scope : Scope) (items : List (Item Name)) (coming : List Slot) → Fits set scope (map (λ item. item.slot) items ++ coming) → FormedItems items →
      Each (IsClean here) (items_uses scope items) → TypedItems numbered slots set (resolve_items functions scope items)
  typed_items set scope [] coming h w c = tt
  typed_items set scope (item ∷ more) coming h w c =
      let behind = map (λ (item : Item Name). item.slot) more ++ coming in
      let later = declare_name scope item.name item.slot in
      let rest = Each-parts (IsClean here) (redeclaration_uses scope item.name) (optional_uses scope.visible item.first ++ items_uses later more) c in
      let parts = Each-parts (IsClean here) (optional_uses scope.visible item.first) (items_uses later more) rest.right in (
        next_is set scope item.slot behind h,
        typed_item here set scope.visible item.slot item.first h.visible w.0 parts.left,
        typed_items (scope.next_slot ∷ set) later more coming (declared_fits set scope item.name item.slot behind h) w.1 parts.right,
      )

  typed_spawn : (set : List ℕ) (visible : List Variable) (at : ℕ) (x : Option (Mark Name)) (call : Call Name) → AreSet here set visible → FormedExpression (expression.Call call) →
      Each (IsClean here) (spawn_uses visible at x call) →
      TypedStatement numbered slots f.gives set (statement.Spawn at (option_map (resolve_mark visible) x) (resolve_call functions visible (expression.Call call)))
  typed_spawn set visible at None call h w c = (tt, typed_own_call here set visible false (expression.Call call) tt h w c.1)
  typed_spawn set visible at (Some x) call h w c =
      (set_scalar here Role.spawn_destination refl (λ words. refl) set visible x h c.0, typed_own_call here set visible true (expression.Call call) tt h w c.1.1)

  typed_return : (set : List ℕ) (visible : List Variable) (at : ℕ) (value : Option (Expr Name)) → AreSet here set visible → FormedOptional value →
      (IsClean here) (return_keyword at (has_value value)) → Each (IsClean here) (optional_uses visible value) → TypedReturn numbered slots f.gives set (resolve_optional functions visible value)
  typed_return set visible at None h w c d = no_fault f.gives at Variant.kind c
  typed_return set visible at (Some e) h w c d = (not-false f.gives (no_fault (not f.gives) at Variant.kind c), typed_expression here set visible e h w d)

  mutual
    typed_statement : (set : List ℕ) (scope : Scope) (s : Stmt Name) (coming : List Slot) → Fits set scope (statement_slots scope s ++ coming) → FormedStatement s →
        Each (IsClean here) (statement_uses scope s) → TypedStatement numbered slots f.gives set (resolve_statement functions scope s)
    typed_statement set scope statement.Empty coming h w c = tt
    typed_statement set scope (statement.Declare items) coming h w c = typed_items set scope items coming h w c
    typed_statement set scope (statement.Assign written op value) coming h w c =
        let parts = Each-parts (IsClean here) (target_uses scope.visible written) (expression_uses scope.visible value) c in
        (typed_target here set scope.visible written h.visible w.0 parts.left, w.1, typed_expression here set scope.visible value h.visible w.2 parts.right)
    typed_statement set scope (statement.Call call) coming h w c = typed_own_call here set scope.visible false (expression.Call call) tt h.visible w c
    typed_statement set scope (statement.Spawn at destination call) coming h w c = typed_spawn set scope.visible at destination call h.visible w c
    typed_statement set scope (statement.Sync at) coming h w c = tt
    typed_statement set scope (IfAlone test chosen) coming h w c =
        let inner = inner_scope scope in
        let parts = Each-parts (IsClean here) (expression_uses scope.visible test) (statement_uses inner chosen) c in
        subst (TypedStatement numbered slots f.gives set) (sym (If-Alone (resolve_expression functions scope.visible test) (resolve_statement functions inner chosen))) (
          typed_expression here set scope.visible test h.visible w.0 parts.left,
          typed_statement set inner chosen coming (within_fits set scope (statement_slots inner chosen ++ coming) h) w.1 parts.right,
        )
    typed_statement set scope (IfElse test chosen other) coming h w c =
        let inner = inner_scope scope in
        let behind = inner_scope (reserve_slots scope chosen) in
        let first = statement_slots inner chosen in
        let second = statement_slots behind other in
        let split = regrouped set scope first second coming h in
        let rest = Each-parts (IsClean here) (expression_uses scope.visible test) (statement_uses inner chosen ++ statement_uses behind other) c in
        let parts = Each-parts (IsClean here) (statement_uses inner chosen) (statement_uses behind other) rest.right in
        subst (TypedStatement numbered slots f.gives set) (sym (If-Else (resolve_expression functions scope.visible test) (resolve_statement functions inner chosen) (resolve_statement functions behind other))) (
          typed_expression here set scope.visible test h.visible w.0 rest.left,
          typed_statement set inner chosen (second ++ coming) (within_fits set scope (first ++ (second ++ coming)) split) w.1 parts.left,
          typed_statement set behind other coming (within_fits set (reserve_slots scope chosen) (second ++ coming) (past_fits set scope inner chosen (second ++ coming) split)) w.2 parts.right,
        )
    typed_statement set scope (WhileLoop test body) coming h w c =
        let inner = inner_scope scope in
        let parts = Each-parts (IsClean here) (expression_uses scope.visible test) (statement_uses inner body) c in
        subst (TypedStatement numbered slots f.gives set) (sym (While-Loop (resolve_expression functions scope.visible test) (resolve_statement functions inner body))) (
          typed_expression here set scope.visible test h.visible w.0 parts.left,
          typed_statement set inner body coming (within_fits set scope (statement_slots inner body ++ coming) h) w.1 parts.right,
        )
    typed_statement set scope (ForLoop first test step body) coming h w c =
        let inner = inner_scope scope in
        let header = scope_after inner first in
        let behind = inner_scope (reserve_slots header step) in
        let last = statement_slots behind body in
        let rest = statement_slots header step ++ last in
        let outer = within_fits set scope _ (regrouped set scope (statement_slots inner first) rest coming h) in
        let later = set_behind set (resolve_statement functions inner first) in
        let known_there = after_fits set inner first (rest ++ coming) outer in
        let split = regrouped later header (statement_slots header step) last coming known_there in
        let third = statement_uses header step in
        let fourth = statement_uses behind body in
        let a = Each-parts (IsClean here) (statement_uses inner first) (optional_uses header.visible test ++ (third ++ fourth)) c in
        let b = Each-parts (IsClean here) (optional_uses header.visible test) (third ++ fourth) a.right in
        let d = Each-parts (IsClean here) third fourth b.right in
        subst (TypedStatement numbered slots f.gives set)
        (sym (For-Loop (resolve_statement functions inner first) (resolve_optional functions header.visible test) (resolve_statement functions header step) (resolve_statement functions behind body))) (
          typed_statement set inner first (rest ++ coming) outer w.0 a.left,
          typed_optional here later header.visible test known_there.visible w.1 b.left,
          typed_statement later header step (last ++ coming) split w.2 d.left,
          typed_statement later behind body coming
              (within_fits later (reserve_slots header step) (last ++ coming) (past_fits later header header step (last ++ coming) split)) w.3 d.right,
        )
    typed_statement set scope (statement.Split' whole index left right _ body close) coming h w c =
        let kind = part_slot (lookup scope.visible whole.name) in
        let split = split_scope scope whole left right in
        let inner = inner_scope split in
        let all = statements_slots inner body ++ coming in
        let later = (scope.next_slot + 1) ∷ scope.next_slot ∷ set in
        let doubled = if is_same left.name right.name then redeclaration right.at ∷ [] else [] in
        let a = Each-parts (IsClean here) (expression_uses scope.visible index) (doubled ++ statements_uses inner body) c.1 in
        let b = Each-parts (IsClean here) doubled (statements_uses inner body) a.right in
        let slice = ap Some (parts_are (lookup scope.visible whole.name)) in
        made_split set (resolve_mark scope.visible whole) (resolve_expression functions scope.visible index)
        (record { name = scope.next_slot; at = left.at }) (record { name = scope.next_slot + 1; at = right.at }) (resolve_statements functions inner body) close
        (set_row here Role.split_whole refl set scope.visible whole h.visible c.0)
        (typed_expression here set scope.visible index h.visible w.0 a.left)
        (next_is set scope kind (kind ∷ all) h ∙ slice)
        (next_is (scope.next_slot ∷ set) (declare_name scope left kind) kind all (declared_fits set scope left kind (kind ∷ all) h) ∙ slice)
        (typed_sequence later inner body coming (within_fits later split all (parts_fit set scope whole left right all h)) w.1 b.right)
    typed_statement set scope (statement.Return at value) coming h w c = typed_return set scope.visible at value h.visible w c.0 c.1
    typed_statement set scope (statement.Print value) coming h w c = typed_expression here set scope.visible value h.visible w c
    typed_statement set scope (statement.Block' _ body) coming h w c =
        made_block set (resolve_statements functions (inner_scope scope) body)
        (typed_sequence set (inner_scope scope) body coming (within_fits set scope (statements_slots (inner_scope scope) body ++ coming) h) w c)

    typed_sequence : {n : _} (set : List ℕ) (scope : Scope) (ss : Row_of-Stmt Name n) (coming : List Slot) → Fits set scope (statements_slots scope ss ++ coming) → FormedSequence ss →
        Each (IsClean here) (statements_uses scope ss) → TypedBody numbered slots f.gives set (resolve_statements functions scope ss)
    typed_sequence set scope end_of-Stmt coming h w c = tt
    typed_sequence set scope (more_of-Stmt first more) coming h w c =
        let behind = scope_after scope first in
        let split = regrouped set scope (statement_slots scope first) (statements_slots behind more) coming h in
        let parts = Each-parts (IsClean here) (statement_uses scope first) (statements_uses behind more) c in (
          typed_statement set scope first (statements_slots behind more ++ coming) split w.0 parts.left,
          typed_sequence (set_behind set (resolve_statement functions scope first)) behind more coming
              (after_fits set scope first (statements_slots behind more ++ coming) split) w.1 parts.right,
        )

  pub typed_body : (set : List ℕ) (scope : Scope) (ss : List (Stmt Name)) (coming : List Slot) → Fits set scope (body_slots scope ss ++ coming) → FormedBody ss →
      Each (IsClean here) (body_uses scope ss) → TypedBody numbered slots f.gives set (resolve_body functions scope ss)
  typed_body set scope [] coming h w c = tt
  typed_body set scope (first ∷ more) coming h w c =
      let behind = scope_after scope first in
      let split = regrouped set scope (statement_slots scope first) (body_slots behind more) coming h in
      let parts = Each-parts (IsClean here) (statement_uses scope first) (body_uses behind more) c in (
        typed_statement set scope first (body_slots behind more ++ coming) split w.0 parts.left,
        typed_body (set_behind set (resolve_statement functions scope first)) behind more coming
            (after_fits set scope first (body_slots behind more ++ coming) split) w.1 parts.right,
      )
