-- What a mention stands for has its slot among the slots of its function.
use Rattle.std.proofs.Common.{◌≡◌, ℕ, zero, suc, Bool, true, false, List, [], ◌∷◌, ◌++◌, length, refl, sym, ap, ◌∙◌, subst, arith, Option, None, Some, append_assoc, append-nil, length-append, if◌then◌else◌, cond}
use Rattle.std.proofs.lemmas.List.{length-map}
use Rattle.std.specs.Prelude.{⊤, map, slice_get}
use Rattle.std.specs.List.{list_any}
use Rattle.cm_syntax.specs.declared.name.Name.{Name}
use Rattle.cm_syntax.specs.declared.expr.Mark.{Mark}
use Rattle.cm_syntax.specs.declared.expr.Expr.{Expr}
use Rattle.cm_syntax.specs.declared.expr.Expr.TheVariants as expression
use Rattle.cm_syntax.specs.declared.expr.Arg.{Arg}
use Rattle.cm_syntax.specs.declared.expr.Arg.TheVariants as argument
use Rattle.cm_syntax.specs.declared.expr.Call.{Call, Row_of-Arg, end_of-Arg, more_of-Arg}
use Rattle.cm_syntax.specs.declared.stmt.Slot.{Slot}
use Rattle.cm_syntax.specs.declared.stmt.Item.{Item}
use Rattle.cm_syntax.specs.declared.stmt.Target.{Target}
use Rattle.cm_syntax.specs.declared.stmt.Target.TheVariants as target
use Rattle.cm_syntax.specs.declared.stmt.Stmt.{Stmt, Row_of-Stmt, end_of-Stmt, more_of-Stmt}
use Rattle.cm_syntax.specs.declared.stmt.Stmt.TheVariants as statement
use Rattle.cm_syntax.specs.declared.stmt.Function.{Function}
use Rattle.cm_syntax.specs.Shape.{Joined, Prefixed, Element, InputAt, IfAlone, IfElse, WhileLoop, ForLoop}
use Rattle.cm_syntax.specs.Text.{is_same}
use Rattle.cm_syntax.specs.Resolution.{Variable, Scope, lookup, hide, inner_scope, declare_name, part_slot, split_scope, slot_count, slots_count, statement_slots, statements_slots, body_slots, function_slots, declare_items, reserve_slots, scope_after, Use, mention, redeclaration, expression_uses, arguments_uses, argument_uses, optional_uses, call_uses, target_uses, redeclaration_uses, items_uses, spawn_uses, statement_uses, statements_uses, body_uses, function_uses, function_scope, ResolvesTo}

-- ---- each of a list's elements

-- each element has the property
abbrev pub Each : {A : Type 0} → (A → Type 0) → List A → Type 0
Each P [] = ⊤
Each P (x ∷ xs) = P x × Each P xs

Each-append : {A : Type 0} (P : A → Type 0) (xs ys : List A) → Each P xs → Each P ys → Each P (xs ++ ys)
Each-append P [] ys h i = i
Each-append P (x ∷ xs) ys h i = (h.0, Each-append P xs ys h.1 i)

Each-at : {A : Type 0} (P : A → Type 0) (xs : List A) (i : ℕ) (x : A) → Each P xs → slice_get xs i ≡ Some x → P x
Each-at P [] i x h e = absurd (cc)
Each-at P (y ∷ xs) zero x h e = let same : y ≡ x = cc in subst P same h.0
Each-at P (y ∷ xs) (suc i) x h e = Each-at P xs i x h.1 e

-- the slot that stands behind those before it
pub get_behind : (before : List Slot) (kind : Slot) (rest : List Slot) → slice_get (before ++ kind ∷ rest) (length before) ≡ Some kind
get_behind [] kind rest = refl
get_behind (k ∷ before) kind rest = get_behind before kind rest

-- a statement has as many slots as are counted
mutual
  pub slots_counted : (scope : Scope) (s : Stmt Name) → length (statement_slots scope s) ≡ slot_count s
  slots_counted scope (statement.Declare items) = length-map items (λ (item : Item Name). item.slot)
  slots_counted scope (IfAlone test chosen) = slots_counted (inner_scope scope) chosen
  slots_counted scope (IfElse test chosen other) =
      let first = statement_slots (inner_scope scope) chosen in
      let second = statement_slots (inner_scope (reserve_slots scope chosen)) other in
      omega (arith, length-append first second, slots_counted (inner_scope scope) chosen, slots_counted (inner_scope (reserve_slots scope chosen)) other)
  slots_counted scope (WhileLoop test body) = slots_counted (inner_scope scope) body
  slots_counted scope (ForLoop first test step body) =
      let header = scope_after (inner_scope scope) first in
      let inner = inner_scope (reserve_slots header step) in
      let behind = statement_slots header step ++ statement_slots inner body in
      omega (
        arith,
        length-append (statement_slots (inner_scope scope) first) behind,
        length-append (statement_slots header step) (statement_slots inner body),
        slots_counted (inner_scope scope) first,
        slots_counted header step,
        slots_counted inner body,
      )
  slots_counted scope (statement.Split' whole index left right _ body close) =
      omega (arith, row_slots_counted (inner_scope (split_scope scope whole left right)) body)
  slots_counted scope (statement.Block' _ body) = row_slots_counted (inner_scope scope) body
  slots_counted scope _ = refl

  row_slots_counted : {n : _} (scope : Scope) (ss : Row_of-Stmt Name n) → length (statements_slots scope ss) ≡ slots_count ss
  row_slots_counted scope end_of-Stmt = refl
  row_slots_counted scope (more_of-Stmt first more) =
      omega (arith, length-append (statement_slots scope first) (statements_slots (scope_after scope first) more), slots_counted scope first, row_slots_counted (scope_after scope first) more)

module _ (all : List Slot) where
  -- the variable has its slot among all slots
  abbrev Agrees : Variable → Type 0
  Agrees v = slice_get all v.slot ≡ Some v.kind

  abbrev MayAgree : Option Variable → Type 0
  MayAgree None = ⊤
  MayAgree (Some v) = Agrees v

  abbrev UseAgrees : Use → Type 0
  UseAgrees (mention x role v) = MayAgree v
  UseAgrees _ = ⊤

  named_agrees : (visible : List Variable) (x : Name) → Each Agrees visible → MayAgree (lookup visible x)
  named_agrees [] x h = tt
  named_agrees (v ∷ visible) x h = by_test (is_same v.name x) (named_agrees visible x h.1)
    where
      by_test : (b : Bool) → MayAgree (lookup visible x) → MayAgree (cond b (Some v) (lookup visible x))
      by_test true more = h.0
      by_test false more = more

  without_agrees : (x : Name) (visible : List Variable) → Each Agrees visible → Each Agrees (hide x visible)
  without_agrees x [] h = tt
  without_agrees x (v ∷ visible) h = by_test (is_same v.name x) (without_agrees x visible h.1)
    where
      by_test : (b : Bool) → Each Agrees (hide x visible) → Each Agrees (if b then visible else v ∷ hide x visible)
      by_test true more = h.1
      by_test false more = (h.0, more)

  -- what is known agrees, and the next slots are these
  record Fits (scope : Scope) (coming : List Slot) : Type 0 where
    visible : Each Agrees scope.visible
    before : List Slot
    at : length before ≡ scope.next_slot
    parts : all ≡ before ++ coming

  declared_fits : (scope : Scope) (x : Mark Name) (kind : Slot) (coming : List Slot) → Fits scope (kind ∷ coming) → Fits (declare_name scope x kind) coming
  declared_fits scope x kind coming h = record {
    visible = (ap (λ s. slice_get s scope.next_slot) h.parts ∙ (ap (slice_get (h.before ++ kind ∷ coming)) (sym h.at) ∙ get_behind h.before kind coming), h.visible);
    before = h.before ++ kind ∷ [];
    at = omega (arith, length-append h.before (kind ∷ []), h.at);
    parts = h.parts ∙ sym (append_assoc h.before (kind ∷ []) coming);
  }

  within_fits : (scope : Scope) (coming : List Slot) → Fits scope coming → Fits (inner_scope scope) coming
  within_fits scope coming h = record { visible = h.visible; before = h.before; at = h.at; parts = h.parts }

  -- slots of what comes first, which may have a scope of its own, and then of the rest
  past_fits : (scope own : Scope) (s : Stmt Name) (coming : List Slot) → Fits scope (statement_slots own s ++ coming) → Fits (reserve_slots scope s) coming
  past_fits scope own s coming h = record {
    visible = h.visible;
    before = h.before ++ statement_slots own s;
    at = omega (arith, length-append h.before (statement_slots own s), h.at, slots_counted own s);
    parts = h.parts ∙ sym (append_assoc h.before (statement_slots own s) coming);
  }

  items_fit : (scope : Scope) (items : List (Item Name)) (coming : List Slot) → Fits scope (map (λ item. item.slot) items ++ coming) → Fits (declare_items scope items) coming
  items_fit scope [] coming h = h
  items_fit scope (item ∷ more) coming h =
      items_fit (declare_name scope item.name item.slot) more coming (declared_fits scope item.name item.slot (map (λ item. item.slot) more ++ coming) h)

  regrouped : (scope : Scope) (a b coming : List Slot) → Fits scope ((a ++ b) ++ coming) → Fits scope (a ++ (b ++ coming))
  regrouped scope a b coming h = record { visible = h.visible; before = h.before; at = h.at; parts = h.parts ∙ ap (λ s. h.before ++ s) (append_assoc a b coming) }

  -- ---- uses

  mutual
    expression_agrees : (visible : List Variable) (e : Expr Name) → Each Agrees visible → Each UseAgrees (expression_uses visible e)
    expression_agrees visible (expression.Number value) h = tt
    expression_agrees visible (expression.Scalar x) h = (named_agrees visible x.name h, tt)
    expression_agrees visible (Element a index) h = (named_agrees visible a.name h, expression_agrees visible index h)
    expression_agrees visible (expression.Len a) h = (named_agrees visible a.name h, tt)
    expression_agrees visible (InputAt index) h = expression_agrees visible index h
    expression_agrees visible expression.Inputs h = tt
    expression_agrees visible (Prefixed op operand) h = expression_agrees visible operand h
    expression_agrees visible (Joined op left right) h =
        Each-append UseAgrees (expression_uses visible left) (expression_uses visible right) (expression_agrees visible left h) (expression_agrees visible right h)
    expression_agrees visible (expression.Call' f _ arguments) h = (tt, arguments_agree visible arguments h)

    arguments_agree : {n : _} (visible : List Variable) (arguments : Row_of-Arg Name n) → Each Agrees visible → Each UseAgrees (arguments_uses visible arguments)
    arguments_agree visible end_of-Arg h = tt
    arguments_agree visible (more_of-Arg first more) h =
        Each-append UseAgrees (argument_uses visible first) (arguments_uses visible more) (argument_agrees visible first h) (arguments_agree visible more h)

    argument_agrees : (visible : List Variable) (one : Arg Name) → Each Agrees visible → Each UseAgrees (argument_uses visible one)
    argument_agrees visible (argument.Value (expression.Scalar x)) h = (named_agrees visible x.name h, tt)
    argument_agrees visible (argument.Value value) h = expression_agrees visible value h
    argument_agrees visible (argument.Slice a) h = (named_agrees visible a.name h, tt)
    argument_agrees visible (argument.Address x) h = (named_agrees visible x.name h, tt)

  optional_agrees : (visible : List Variable) (value : Option (Expr Name)) → Each Agrees visible → Each UseAgrees (optional_uses visible value)
  optional_agrees visible None h = tt
  optional_agrees visible (Some value) h = expression_agrees visible value h

  call_agrees : (visible : List Variable) (wanted : Bool) (e : Expr Name) → Each Agrees visible → Each UseAgrees (call_uses visible wanted e)
  call_agrees visible wanted (expression.Call' f _ arguments) h = (tt, arguments_agree visible arguments h)
  call_agrees visible wanted _ h = tt

  target_agrees : (visible : List Variable) (t : Target Name) → Each Agrees visible → Each UseAgrees (target_uses visible t)
  target_agrees visible (target.Scalar x) h = (named_agrees visible x.name h, tt)
  target_agrees visible (target.Index a index) h = (named_agrees visible a.name h, expression_agrees visible index h)

  again_agrees : (scope : Scope) (x : Mark Name) → Each UseAgrees (redeclaration_uses scope x)
  again_agrees scope x = by_test (list_any (is_same x.name) scope.declared)
    where
      by_test : (b : Bool) → Each UseAgrees (if b then redeclaration x.at ∷ [] else [])
      by_test true = (tt, tt)
      by_test false = tt

  doubled_agrees : (b : Bool) (at : ℕ) → Each UseAgrees (if b then redeclaration at ∷ [] else [])
  doubled_agrees true at = (tt, tt)
  doubled_agrees false at = tt

  items_agree : (scope : Scope) (items : List (Item Name)) (coming : List Slot) → Fits scope (map (λ item. item.slot) items ++ coming) → Each UseAgrees (items_uses scope items)
  items_agree scope [] coming h = tt
  items_agree scope (item ∷ more) coming h =
      let behind = items_uses (declare_name scope item.name item.slot) more in
      Each-append UseAgrees (redeclaration_uses scope item.name) (optional_uses scope.visible item.first ++ behind) (again_agrees scope item.name)
      (Each-append UseAgrees (optional_uses scope.visible item.first) behind (optional_agrees scope.visible item.first h.visible)
      (items_agree (declare_name scope item.name item.slot) more coming (declared_fits scope item.name item.slot (map (λ item. item.slot) more ++ coming) h)))

  spawn_agrees : (visible : List Variable) (at : ℕ) (destination : Option (Mark Name)) (call : Call Name) → Each Agrees visible → Each UseAgrees (spawn_uses visible at destination call)
  spawn_agrees visible at None call h = (tt, call_agrees visible false (expression.Call call) h)
  spawn_agrees visible at (Some x) call h = (named_agrees visible x.name h, (tt, call_agrees visible true (expression.Call call) h))

  after_fits : (scope : Scope) (s : Stmt Name) (coming : List Slot) → Fits scope (statement_slots scope s ++ coming) → Fits (scope_after scope s) coming
  after_fits scope (statement.Declare items) coming h = items_fit scope items coming h
  after_fits scope s coming h = past_fits scope scope s coming h

  parts_fit : (scope : Scope) (whole left right : Mark Name) (coming : List Slot) →
      Fits scope (part_slot (lookup scope.visible whole.name) ∷ part_slot (lookup scope.visible whole.name) ∷ coming) → Fits (split_scope scope whole left right) coming
  parts_fit scope whole left right coming h =
      let hidden : Scope = record { visible = hide whole.name scope.visible; declared = []; next_slot = scope.next_slot } in
      let kind = part_slot (lookup scope.visible whole.name) in
      declared_fits (declare_name hidden left kind) right kind coming (declared_fits hidden left kind (kind ∷ coming)
      (record { visible = without_agrees whole.name scope.visible h.visible; before = h.before; at = h.at; parts = h.parts }))

  mutual
    statement_agrees : (scope : Scope) (s : Stmt Name) (coming : List Slot) → Fits scope (statement_slots scope s ++ coming) → Each UseAgrees (statement_uses scope s)
    statement_agrees scope statement.Empty coming h = tt
    statement_agrees scope (statement.Declare items) coming h = items_agree scope items coming h
    statement_agrees scope (statement.Assign written op value) coming h =
        Each-append UseAgrees (target_uses scope.visible written) (expression_uses scope.visible value) (target_agrees scope.visible written h.visible) (expression_agrees scope.visible value h.visible)
    statement_agrees scope (statement.Call call) coming h = call_agrees scope.visible false (expression.Call call) h.visible
    statement_agrees scope (statement.Spawn at destination call) coming h = spawn_agrees scope.visible at destination call h.visible
    statement_agrees scope (statement.Sync at) coming h = (tt, tt)
    statement_agrees scope (IfAlone test chosen) coming h =
        let inner = inner_scope scope in
        Each-append UseAgrees (expression_uses scope.visible test) (statement_uses inner chosen) (expression_agrees scope.visible test h.visible)
        (statement_agrees inner chosen coming (within_fits scope (statement_slots inner chosen ++ coming) h))
    statement_agrees scope (IfElse test chosen other) coming h =
        let inner = inner_scope scope in
        let behind = inner_scope (reserve_slots scope chosen) in
        let first = statement_slots inner chosen in
        let second = statement_slots behind other in
        let split = regrouped scope first second coming h in
        Each-append UseAgrees (expression_uses scope.visible test) (statement_uses inner chosen ++ statement_uses behind other) (expression_agrees scope.visible test h.visible)
        (Each-append UseAgrees (statement_uses inner chosen) (statement_uses behind other)
        (statement_agrees inner chosen (second ++ coming) (within_fits scope (first ++ (second ++ coming)) split))
        (statement_agrees behind other coming
        (within_fits (reserve_slots scope chosen) (second ++ coming) (past_fits scope inner chosen (second ++ coming) split))))
    statement_agrees scope (WhileLoop test body) coming h =
        let inner = inner_scope scope in
        Each-append UseAgrees (expression_uses scope.visible test) (statement_uses inner body) (expression_agrees scope.visible test h.visible)
        (statement_agrees inner body coming (within_fits scope (statement_slots inner body ++ coming) h))
    statement_agrees scope (ForLoop first test step body) coming h =
        let inner = inner_scope scope in
        let header = scope_after inner first in
        let behind = inner_scope (reserve_slots header step) in
        let last = statement_slots behind body in
        let rest = statement_slots header step ++ last in
        let outer = within_fits scope _ (regrouped scope (statement_slots inner first) rest coming h) in
        let known = after_fits inner first (rest ++ coming) outer in
        let split = regrouped header (statement_slots header step) last coming known in
        let third = statement_uses header step in
        let fourth = statement_uses behind body in
        Each-append UseAgrees (statement_uses inner first) (optional_uses header.visible test ++ (third ++ fourth)) (statement_agrees inner first (rest ++ coming) outer)
        (Each-append UseAgrees (optional_uses header.visible test) (third ++ fourth) (optional_agrees header.visible test known.visible)
        (Each-append UseAgrees third fourth (statement_agrees header step (last ++ coming) split)
        (statement_agrees behind body coming
        (within_fits (reserve_slots header step) (last ++ coming) (past_fits header header step (last ++ coming) split)))))
    statement_agrees scope (statement.Split' whole index left right _ body close) coming h =
        let parts = inner_scope (split_scope scope whole left right) in
        let doubled = if is_same left.name right.name then redeclaration right.at ∷ [] else [] in (
          named_agrees scope.visible whole.name h.visible,
          Each-append UseAgrees (expression_uses scope.visible index) (doubled ++ statements_uses parts body) (expression_agrees scope.visible index h.visible)
              (Each-append UseAgrees doubled (statements_uses parts body) (doubled_agrees (is_same left.name right.name) right.at)
              (statements_agree parts body coming (within_fits (split_scope scope whole left right) (statements_slots parts body ++ coming)
              (parts_fit scope whole left right (statements_slots parts body ++ coming) h)))),
        )
    statement_agrees scope (statement.Return at value) coming h = (tt, optional_agrees scope.visible value h.visible)
    statement_agrees scope (statement.Print value) coming h = expression_agrees scope.visible value h.visible
    statement_agrees scope (statement.Block' _ body) coming h =
        statements_agree (inner_scope scope) body coming (within_fits scope (statements_slots (inner_scope scope) body ++ coming) h)

    statements_agree : {n : _} (scope : Scope) (ss : Row_of-Stmt Name n) (coming : List Slot) → Fits scope (statements_slots scope ss ++ coming) → Each UseAgrees (statements_uses scope ss)
    statements_agree scope end_of-Stmt coming h = tt
    statements_agree scope (more_of-Stmt first more) coming h =
        let behind = scope_after scope first in
        let split = regrouped scope (statement_slots scope first) (statements_slots behind more) coming h in
        Each-append UseAgrees (statement_uses scope first) (statements_uses behind more) (statement_agrees scope first (statements_slots behind more ++ coming) split)
        (statements_agree behind more coming (after_fits scope first (statements_slots behind more ++ coming) split))

  body_agrees : (scope : Scope) (ss : List (Stmt Name)) (coming : List Slot) → Fits scope (body_slots scope ss ++ coming) → Each UseAgrees (body_uses scope ss)
  body_agrees scope [] coming h = tt
  body_agrees scope (first ∷ more) coming h =
      let behind = scope_after scope first in
      let split = regrouped scope (statement_slots scope first) (body_slots behind more) coming h in
      Each-append UseAgrees (statement_uses scope first) (body_uses behind more) (statement_agrees scope first (body_slots behind more ++ coming) split)
      (body_agrees behind more coming (after_fits scope first (body_slots behind more ++ coming) split))

-- each mention of a function stands for a variable whose slot is of its kind
pub ResolvesTo-slot : (f : Function Name) (i : ℕ) (v : Variable) → ResolvesTo f i v → slice_get (function_slots f) v.slot ≡ Some v.kind
ResolvesTo-slot f i v (x, role, is) =
    let all = function_slots f in
    let outer = declare_items function_scope f.parameters in
    let slots = body_slots outer f.body in
    let start : Fits all function_scope (map (λ item. item.slot) f.parameters ++ slots) = record { visible = tt; before = []; at = refl; parts = refl } in
    let behind : Fits all outer (slots ++ []) =
    items_fit all function_scope f.parameters (slots ++ []) (subst (λ s. Fits all function_scope (map (λ item. item.slot) f.parameters ++ s)) (sym (append-nil slots)) start) in
    Each-at (UseAgrees all) (function_uses f) i (mention x role (Some v))
    (Each-append (UseAgrees all) (items_uses function_scope f.parameters) (body_uses outer f.body)
    (items_agree all function_scope f.parameters slots start) (body_agrees all outer f.body [] behind)) is
