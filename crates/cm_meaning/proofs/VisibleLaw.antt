-- In a sound program each mention is of a visible variable.
use Rattle.std.proofs.Common.{◌≡◌, ℕ, suc, ◌+◌, ◌<◌, ◌≤◌, Bool, true, false, cond, List, [], ◌∷◌, ◌++◌, length, map, refl, sym, ap, ◌∙◌, subst, arith, Option, None, Some, if◌then◌else◌, Contains, slice_get, option_map, append-nil, inl, inr}
use Rattle.std.specs.Prelude.{⊤}
use Rattle.cm_syntax.specs.declared.name.Name.{Name}
use Rattle.cm_syntax.specs.declared.expr.Mark.{Mark}
use Rattle.cm_syntax.specs.declared.expr.Expr.{Expr}
use Rattle.cm_syntax.specs.declared.expr.Expr.TheVariants as expression
use Rattle.cm_syntax.specs.declared.expr.Arg.{Arg}
use Rattle.cm_syntax.specs.declared.expr.Arg.TheVariants as argument
use Rattle.cm_syntax.specs.declared.expr.Call.{Call, Row_of-Arg, end_of-Arg, more_of-Arg, items-the_row-Arg, items_hidden-the_row-Arg-1}
use Rattle.cm_syntax.specs.declared.stmt.Slot.{Slot}
use Rattle.cm_syntax.specs.declared.stmt.Slot.TheVariants as slot
use Rattle.cm_syntax.specs.declared.stmt.Item.{Item}
use Rattle.cm_syntax.specs.declared.stmt.Target.{Target}
use Rattle.cm_syntax.specs.declared.stmt.Target.TheVariants as target
use Rattle.cm_syntax.specs.declared.stmt.Stmt.{Stmt, Row_of-Stmt, end_of-Stmt, more_of-Stmt, items-the_row-Stmt, items_hidden-the_row-Stmt-1}
use Rattle.cm_syntax.specs.declared.stmt.Stmt.TheVariants as statement
use Rattle.cm_syntax.specs.declared.stmt.Function.{Function}
use Rattle.cm_syntax.specs.declared.stmt.Program.{Program}
use Rattle.cm_syntax.specs.Shape.{Joined, Prefixed, Element, InputAt, IfAlone, IfElse, WhileLoop, ForLoop, Binary-Joined, Unary-Prefixed, Index-Element, Input-InputAt}
use Rattle.cm_syntax.specs.Text.{is_same}
use Rattle.cm_syntax.specs.Resolution.{Variable, Scope, Role, ArgumentForm, value_form, slice_form, any_form, lookup, hide, inner_scope, function_scope, declare_name, declare_items, split_scope, reserve_slots, scope_after, slot_count, statement_slots, statements_slots, body_slots, function_slots, redeclaration, redeclaration_uses, mention, mention_of, variable_form, expression_uses, arguments_uses, argument_uses, optional_uses, call_uses, target_uses, items_uses, spawn_uses, statement_uses, statements_uses, body_uses, variable_number, resolve_mark, resolve_bare, resolve_expression, resolve_arguments, resolve_argument, resolve_optional, resolve_call, resolve_target, resolve_items, resolve_statement, resolve_statements, resolve_body, resolve_function, resolve_functions}
use Rattle.cm_syntax.specs.Fault.{use_faults, functions_faults, IsSoundProgram}
use Rattle.cm_syntax.proofs.StatementLaw.{If-Alone, If-Else, While-Loop, For-Loop}
use Rattle.cm_syntax.proofs.Rows.{row_of_call, row_of_block}
use Rattle.cm_syntax.proofs.naming.NameLaw.{Each}
use Rattle.cm_syntax.proofs.naming.SoundLaw.{nothing_first}
use Rattle.cm_meaning.specs.Typing.{set_by_items, set_behind}
use Rattle.cm_meaning.specs.Visible.{Among, IsOpen, IsFresh, IsVisible, SeesExpression, SeesArguments, SeesArgument, SeesOptional, SeesItem, SeesItems, SeesTarget, SeesStatement, SeesSequence, SeesBody, SeesFunction, SeesProgram}
use Rattle.cm_meaning.proofs.FormedLaw.{FormedExpression, FormedArguments, FormedArgument, FormedOptional, FormedItem, FormedItems, FormedTarget, FormedStatement, FormedSequence, FormedBody, FormedFunction, sound_formed}
use Rattle.cm_meaning.proofs.TypedExpressionLaw.{Each-parts, Setting, IsClean, IsCall}
use Rattle.cm_meaning.proofs.TypedStatementLaw.{Fits, next_is, declared_fits, within_fits, past_fits, items_fit, regrouped, after_fits, parts_fit}
use Rattle.cm_meaning.proofs.TypingLaw.{Contains-at, clean_at, Clean, resolved_at, known_function, numbered}

module _ (here : Setting) where
  open here use {functions, slots}

  -- ---- what is visible

  abbrev Clear : (known hidden : List ℕ) → Variable → Type 0
  Clear known hidden v = IsVisible slots known hidden v.slot

  -- the later ones of the visible variables have lower slots
  abbrev Falling : ℕ → List Variable → Type 0
  Falling n [] = ⊤
  Falling n (v ∷ visible) = (v.slot < n) × Falling v.slot visible

  -- Each visible variable may be mentioned, and the next slot is new.
  pub record Seen (known hidden : List ℕ) (scope : Scope) : Type 0 where
    pub clear : Each (Clear known hidden) scope.visible
    pub falling : Falling scope.next_slot scope.visible
    pub known_low : (x : ℕ) → Among known x → x < scope.next_slot
    pub hidden_low : (x : ℕ) → Among hidden x → x < scope.next_slot

  falling_more : (m n : ℕ) (visible : List Variable) → m ≤ n → Falling m visible → Falling n visible
  falling_more m n [] l f = tt
  falling_more m n (v ∷ visible) l f = (omega (arith, f.0, l), f.1)

  hide_falling : (x : Name) (n : ℕ) (visible : List Variable) → Falling n visible → Falling n (hide x visible)
  hide_falling x n [] f = tt
  hide_falling x n (v ∷ visible) f = by (hide_falling x v.slot visible f.1) (is_same v.name x)
    where
      less : v.slot ≤ n
      less = let l = f.0 in omega (arith, l)

      by : Falling v.slot (hide x visible) → (b : Bool) → Falling n (if b then visible else v ∷ hide x visible)
      by g true = falling_more v.slot n visible less f.1
      by g false = (f.0, g)

  lookup_low : (x : Name) (n : ℕ) (visible : List Variable) (u : Variable) → Falling n visible → lookup visible x ≡ Some u → u.slot < n
  lookup_low x n [] u f e = absurd (cc)
  lookup_low x n (v ∷ visible) u f e = by (lookup_low x v.slot visible u f.1) (is_same v.name x) e
    where
      by : (lookup visible x ≡ Some u → u.slot < v.slot) → (b : Bool) → cond b (Some v) (lookup visible x) ≡ Some u → u.slot < n
      by g true e = let is : v ≡ u = cc in subst (λ w. w.slot < n) is f.0
      by g false e = let l = g e in let m = f.0 in omega (arith, l, m)

  -- more is known, and one more variable is hidden, which isn't this one
  clear_apart : (known hidden : List ℕ) (left right s : ℕ) (v : Variable) → (s ≡ v.slot → ⊥) → Clear known hidden v → Clear (right ∷ left ∷ known) (s ∷ hidden) v
  clear_apart known hidden left right s v ne c = record {
    named = λ e. inr (inr (c.named e));
    open_ = λ a. elim a [ inl e ↦ ne e | inr b ↦ c.open_ b ];
  }

  later_clear : (known hidden : List ℕ) (left right s n : ℕ) (visible : List Variable) → n ≤ s → Falling n visible → Each (Clear known hidden) visible → Each (Clear (right ∷ left ∷ known) (s ∷ hidden)) visible
  later_clear known hidden left right s n [] l f c = tt
  later_clear known hidden left right s n (v ∷ visible) l f c =
      (clear_apart known hidden left right s v (λ e. let m = f.0 in omega (arith, e, l, m)) c.0, later_clear known hidden left right s v.slot visible (let m = f.0 in omega (arith, m, l)) f.1 c.1)

  hide_clear : (known hidden : List ℕ) (left right : ℕ) (x : Name) (n : ℕ) (visible : List Variable) (u : Variable) → Falling n visible → lookup visible x ≡ Some u → Each (Clear known hidden) visible
      → Each (Clear (right ∷ left ∷ known) (u.slot ∷ hidden)) (hide x visible)
  hide_clear known hidden left right x n [] u f e c = tt
  hide_clear known hidden left right x n (v ∷ visible) u f e c = by (λ e. hide_clear known hidden left right x v.slot visible u f.1 e c.1) (is_same v.name x) e
    where
      by : (lookup visible x ≡ Some u → Each (Clear (right ∷ left ∷ known) (u.slot ∷ hidden)) (hide x visible)) → (b : Bool) → cond b (Some v) (lookup visible x) ≡ Some u → Each (Clear (right ∷ left ∷ known) (u.slot ∷ hidden)) (if b then visible else v ∷ hide x visible)
      by g true e = let is : v ≡ u = cc in subst (λ w. Each (Clear (right ∷ left ∷ known) (w.slot ∷ hidden)) visible) is (later_clear known hidden left right v.slot v.slot visible (omega arith) f.1 c.1)
      by g false e = (clear_apart known hidden left right u.slot v (λ q. let l = lookup_low x v.slot visible u f.1 e in omega (arith, q, l)) c.0, g e)

  not_slice : (kind : Slot) (first : Option (Expr Name)) → FormedItem kind first → kind ≡ slot.Slice → ⊥
  not_slice slot.Scalar first w e = cc e
  not_slice (slot.Array words) first w e = cc e
  not_slice slot.Slice first w e = w

  next_open : (known hidden : List ℕ) (scope : Scope) → Seen known hidden scope → IsOpen hidden scope.next_slot
  next_open known hidden scope s a = let l = s.hidden_low scope.next_slot a in omega (arith, l)

  -- behind a declared name
  declared_seen : (known hidden : List ℕ) (scope : Scope) (x : Mark Name) (kind : Slot) → (slice_get slots scope.next_slot ≡ Some slot.Slice → Among known scope.next_slot) → Seen known hidden scope → Seen known hidden (declare_name scope x kind)
  declared_seen known hidden scope x kind named s = record {
    clear = (record { named = named; open_ = next_open known hidden scope s }, s.clear);
    falling = (omega arith, s.falling);
    known_low = λ y a. let l = s.known_low y a in omega (arith, l);
    hidden_low = λ y a. let l = s.hidden_low y a in omega (arith, l);
  }

  -- an item's slot is no slice
  item_named : (known : List ℕ) (set : List ℕ) (scope : Scope) (item : Item Name) (coming : List Slot) → Fits here set scope (item.slot ∷ coming) → FormedItem item.slot item.first
      → slice_get slots scope.next_slot ≡ Some slot.Slice → Among known scope.next_slot
  item_named known set scope item coming h w e = absurd (not_slice item.slot item.first w (same (sym (next_is here set scope item.slot coming h) ∙ e)))
    where
      same : Some item.slot ≡ Some slot.Slice → item.slot ≡ slot.Slice
      same e = cc e

  items_seen : (known hidden set : List ℕ) (scope : Scope) (items : List (Item Name)) (coming : List Slot) → Fits here set scope (map (λ item. item.slot) items ++ coming) → FormedItems items
      → Seen known hidden scope → Seen known hidden (declare_items scope items)
  items_seen known hidden set scope [] coming h w s = s
  items_seen known hidden set scope (item ∷ more) coming h w s =
      let behind = map (λ (item : Item Name). item.slot) more ++ coming in
      items_seen known hidden (scope.next_slot ∷ set) (declare_name scope item.name item.slot) more coming (declared_fits here set scope item.name item.slot behind h) w.1
      (declared_seen known hidden scope item.name item.slot (item_named known set scope item behind h w.0) s)

  inner_seen : (known hidden : List ℕ) (scope : Scope) → Seen known hidden scope → Seen known hidden (inner_scope scope)
  inner_seen known hidden scope s = record { clear = s.clear; falling = s.falling; known_low = s.known_low; hidden_low = s.hidden_low }

  reserved_seen : (known hidden : List ℕ) (scope : Scope) (z : Stmt Name) → Seen known hidden scope → Seen known hidden (reserve_slots scope z)
  reserved_seen known hidden scope z s = record {
    clear = s.clear;
    falling = falling_more scope.next_slot (scope.next_slot + slot_count z) scope.visible (omega arith) s.falling;
    known_low = λ y a. let l = s.known_low y a in omega (arith, l);
    hidden_low = λ y a. let l = s.hidden_low y a in omega (arith, l);
  }

  after_seen : (known hidden set : List ℕ) (scope : Scope) (z : Stmt Name) (coming : List Slot) → Fits here set scope (statement_slots scope z ++ coming) → FormedStatement z → Seen known hidden scope → Seen known hidden (scope_after scope z)
  after_seen known hidden set scope (statement.Declare items) coming h w s = items_seen known hidden set scope items coming h w s
  after_seen known hidden set scope (IfAlone test chosen) coming h w s = reserved_seen known hidden scope (IfAlone test chosen) s
  after_seen known hidden set scope (IfElse test chosen other) coming h w s = reserved_seen known hidden scope (IfElse test chosen other) s
  after_seen known hidden set scope (WhileLoop test body) coming h w s = reserved_seen known hidden scope (WhileLoop test body) s
  after_seen known hidden set scope (ForLoop first test step body) coming h w s = reserved_seen known hidden scope (ForLoop first test step body) s
  after_seen known hidden set scope z coming h w s = reserved_seen known hidden scope z s

  -- ---- mentions

  abbrev MaySee : (known hidden : List ℕ) → Option Variable → Type 0
  MaySee known hidden None = ⊤
  MaySee known hidden (Some v) = Clear known hidden v

  found_seen : (known hidden : List ℕ) (visible : List Variable) (x : Name) → Each (Clear known hidden) visible → MaySee known hidden (lookup visible x)
  found_seen known hidden [] x c = tt
  found_seen known hidden (v ∷ visible) x c = by (is_same v.name x) (found_seen known hidden visible x c.1)
    where
      by : (b : Bool) → MaySee known hidden (lookup visible x) → MaySee known hidden (cond b (Some v) (lookup visible x))
      by true more = c.0
      by false more = more

  -- a name without a fault stands for a variable
  found : (visible : List Variable) (x : Mark Name) (role : Role) → IsClean here (mention_of visible x role) → (u : Variable) × (lookup visible x.name ≡ Some u)
  found visible x role c = by (lookup visible x.name) refl c
    where
      by : (z : Option Variable) → lookup visible x.name ≡ z → IsClean here (mention x role z) → (u : Variable) × (lookup visible x.name ≡ Some u)
      by None e c = absurd (cc)
      by (Some u) e c = (u, e)

  module _ (known hidden : List ℕ) where
    seen_mark : (visible : List Variable) (x : Mark Name) (role : Role) → Each (Clear known hidden) visible → IsClean here (mention_of visible x role) → IsVisible slots known hidden (variable_number (lookup visible x.name))
    seen_mark visible x role s c =
        let u = found visible x role c in
        subst (λ z. IsVisible slots known hidden (variable_number z)) (sym u.1) (subst (MaySee known hidden) u.1 (found_seen known hidden visible x.name s))

    -- ---- expressions

    abbrev SeesList : List (Arg ℕ) → Type 0
    SeesList arguments = Each (SeesArgument slots known hidden) arguments

    row_seen : (n : _) (row : Row_of-Arg ℕ n) → SeesList (items-the_row-Arg ℕ n row) → SeesArguments slots known hidden row
    row_seen n end_of-Arg h = tt
    row_seen n (more_of-Arg first more) h = (h.0, row_seen _ more h.1)

    seen_call : (call : Call ℕ) → SeesList call.arguments → SeesExpression slots known hidden (expression.Call call)
    seen_call call h =
        let row = row_of_call (expression.Call call) in
        row_seen row.0 row.1 (subst SeesList (sym (items_hidden-the_row-Arg-1 ℕ call.arguments)) h)

    seen_bare : (visible : List Variable) (x : Mark Name) (form : ArgumentForm) → IsVisible slots known hidden (variable_number (lookup visible x.name)) → SeesArgument slots known hidden (resolve_bare visible x form)
    seen_bare visible x slice_form v = v
    seen_bare visible x value_form v = v.open_
    seen_bare visible x any_form v = v.open_

    mutual
      seen_expression : (visible : List Variable) (e : Expr Name) → Each (Clear known hidden) visible → FormedExpression e → Each (IsClean here) (expression_uses visible e) → SeesExpression slots known hidden (resolve_expression functions visible e)
      seen_expression visible (expression.Number value) s w c = tt
      seen_expression visible (expression.Scalar x) s w c = (seen_mark visible x Role.value_read s c.0).open_
      seen_expression visible (Element a index) s w c =
          subst (SeesExpression slots known hidden) (sym (Index-Element (resolve_mark visible a) (resolve_expression functions visible index)))
          (seen_mark visible a Role.element_read s c.0, seen_expression visible index s w c.1)
      seen_expression visible (expression.Len a) s w c = seen_mark visible a Role.length_read s c.0
      seen_expression visible (InputAt index) s w c =
          subst (SeesExpression slots known hidden) (sym (Input-InputAt (resolve_expression functions visible index))) (seen_expression visible index s w c)
      seen_expression visible expression.Inputs s w c = tt
      seen_expression visible (Prefixed op operand) s w c =
          subst (SeesExpression slots known hidden) (sym (Unary-Prefixed op (resolve_expression functions visible operand))) (seen_expression visible operand s w.1 c)
      seen_expression visible (Joined op left right) s w c =
          let parts = Each-parts (IsClean here) (expression_uses visible left) (expression_uses visible right) c in
          subst (SeesExpression slots known hidden) (sym (Binary-Joined op (resolve_expression functions visible left) (resolve_expression functions visible right)))
          (seen_expression visible left s w.1 parts.left, seen_expression visible right s w.2 parts.right)
      seen_expression visible (expression.Call' g _ arguments) s w c = seen_call (resolve_call functions visible (expression.Call' g _ arguments)) (seen_arguments visible arguments s w c.1)

      seen_arguments : {n : _} (visible : List Variable) (arguments : Row_of-Arg Name n) → Each (Clear known hidden) visible → FormedArguments arguments → Each (IsClean here) (arguments_uses visible arguments) → SeesList (resolve_arguments functions visible arguments)
      seen_arguments visible end_of-Arg s w c = tt
      seen_arguments visible (more_of-Arg first more) s w c =
          let parts = Each-parts (IsClean here) (argument_uses visible first) (arguments_uses visible more) c in
          (seen_argument visible first s w.0 parts.left, seen_arguments visible more s w.1 parts.right)

      seen_argument : (visible : List Variable) (one : Arg Name) → Each (Clear known hidden) visible → FormedArgument one → Each (IsClean here) (argument_uses visible one) → SeesArgument slots known hidden (resolve_argument functions visible one)
      seen_argument visible (argument.Value (expression.Scalar x)) s w c = seen_bare visible x (variable_form (lookup visible x.name)) (seen_mark visible x Role.bare_argument s c.0)
      seen_argument visible (argument.Value value) s w c = seen_expression visible value s w c
      seen_argument visible (argument.Slice a) s w c = absurd w
      seen_argument visible (argument.Address x) s w c = (seen_mark visible x Role.reference s c.0).open_

    seen_optional : (visible : List Variable) (value : Option (Expr Name)) → Each (Clear known hidden) visible → FormedOptional value → Each (IsClean here) (optional_uses visible value) → SeesOptional slots known hidden (resolve_optional functions visible value)
    seen_optional visible None s w c = tt
    seen_optional visible (Some value) s w c = seen_expression visible value s w c

    seen_own_call : (visible : List Variable) (wanted : Bool) (e : Expr Name) → IsCall here e → Each (Clear known hidden) visible → FormedExpression e → Each (IsClean here) (call_uses visible wanted e)
        → SeesExpression slots known hidden (expression.Call (resolve_call functions visible e))
    seen_own_call visible wanted (expression.Call' g t arguments) is s w c = seen_call (resolve_call functions visible (expression.Call' g t arguments)) (seen_arguments visible arguments s w c.1)
    seen_own_call visible wanted _ is s w c = absurd is

    seen_target : (visible : List Variable) (t : Target Name) → Each (Clear known hidden) visible → FormedTarget t → Each (IsClean here) (target_uses visible t) → SeesTarget slots known hidden (resolve_target functions visible t)
    seen_target visible (target.Scalar x) s w c = (seen_mark visible x Role.value_write s c.0).open_
    seen_target visible (target.Index a index) s w c = (seen_mark visible a Role.element_write s c.0, seen_expression visible index s w c.1)

    seen_spawn : (visible : List Variable) (at : ℕ) (x : Option (Mark Name)) (call : Call Name) → Each (Clear known hidden) visible → FormedExpression (expression.Call call) → Each (IsClean here) (spawn_uses visible at x call)
        → SeesStatement slots known hidden (statement.Spawn at (option_map (resolve_mark visible) x) (resolve_call functions visible (expression.Call call)))
    seen_spawn visible at None call s w c = (tt, seen_own_call visible false (expression.Call call) tt s w c.1)
    seen_spawn visible at (Some x) call s w c = ((seen_mark visible x Role.spawn_destination s c.0).open_, seen_own_call visible true (expression.Call call) tt s w c.1.1)

  seen_item : (known hidden : List ℕ) (visible : List Variable) (kind : Slot) (first : Option (Expr Name)) → Each (Clear known hidden) visible → FormedItem kind first → Each (IsClean here) (optional_uses visible first)
      → SeesItem slots known hidden kind (resolve_optional functions visible first)
  seen_item known hidden visible slot.Scalar first s w c = seen_optional known hidden visible first s w c
  seen_item known hidden visible (slot.Array words) first s w c = tt
  seen_item known hidden visible slot.Slice first s w c = absurd w

  seen_items : (known hidden set : List ℕ) (scope : Scope) (items : List (Item Name)) (coming : List Slot) → Fits here set scope (map (λ item. item.slot) items ++ coming) → FormedItems items
      → Each (IsClean here) (items_uses scope items) → Seen known hidden scope → SeesItems slots known hidden (resolve_items functions scope items)
  seen_items known hidden set scope [] coming h w c s = tt
  seen_items known hidden set scope (item ∷ more) coming h w c s =
      let behind = map (λ (item : Item Name). item.slot) more ++ coming in
      let later = declare_name scope item.name item.slot in
      let rest = Each-parts (IsClean here) (redeclaration_uses scope item.name) (optional_uses scope.visible item.first ++ items_uses later more) c in
      let parts = Each-parts (IsClean here) (optional_uses scope.visible item.first) (items_uses later more) rest.right in (
        next_open known hidden scope s,
        seen_item known hidden scope.visible item.slot item.first s.clear w.0 parts.left,
        seen_items known hidden (scope.next_slot ∷ set) later more coming (declared_fits here set scope item.name item.slot behind h) w.1 parts.right
            (declared_seen known hidden scope item.name item.slot (item_named known set scope item behind h w.0) s),
      )

  -- ---- statements

  block_seen : (n : _) (known hidden : List ℕ) (row : Row_of-Stmt ℕ n) → SeesBody slots known hidden (items-the_row-Stmt ℕ n row) → SeesSequence slots known hidden row
  block_seen n known hidden end_of-Stmt h = tt
  block_seen n known hidden (more_of-Stmt first more) h = (h.0, block_seen _ known hidden more h.1)

  made_block : (known hidden : List ℕ) (body : List (Stmt ℕ)) → SeesBody slots known hidden body → SeesStatement slots known hidden (statement.Block body)
  made_block known hidden body h =
      let row = row_of_block (statement.Block body) in
      block_seen row.0 known hidden row.1 (subst (SeesBody slots known hidden) (sym (items_hidden-the_row-Stmt-1 ℕ body)) h)

  made_split : (known hidden : List ℕ) (whole : Mark ℕ) (index : Expr ℕ) (left right : Mark ℕ) (body : List (Stmt ℕ)) (close : ℕ) → IsVisible slots known hidden whole.name → SeesExpression slots known hidden index
      → IsFresh known hidden whole.name left.name right.name → SeesBody slots (right.name ∷ left.name ∷ known) (whole.name ∷ hidden) body → SeesStatement slots known hidden (statement.Split whole index left right body close)
  made_split known hidden whole index left right body close a e f h =
      let row = row_of_block (statement.Split whole index left right body close) in
      (a, e, f, block_seen row.0 (right.name ∷ left.name ∷ known) (whole.name ∷ hidden) row.1 (subst (SeesBody slots (right.name ∷ left.name ∷ known) (whole.name ∷ hidden)) (sym (items_hidden-the_row-Stmt-1 ℕ body)) h))

  -- within a split
  split_seen : (known hidden : List ℕ) (scope : Scope) (whole left right : Mark Name) (u : Variable) → lookup scope.visible whole.name ≡ Some u → Seen known hidden scope
      → Seen ((scope.next_slot + 1) ∷ scope.next_slot ∷ known) (u.slot ∷ hidden) (inner_scope (split_scope scope whole left right))
  split_seen known hidden scope whole left right u e s = record {
    clear = (
      record { named = λ q. inl refl; open_ = λ a. elim a [ inl q ↦ below (scope.next_slot + 1) (omega arith) q | inr b ↦ apart (scope.next_slot + 1) (omega arith) b ] },
      (
        record { named = λ q. inr (inl refl); open_ = λ a. elim a [ inl q ↦ below scope.next_slot (omega arith) q | inr b ↦ apart scope.next_slot (omega arith) b ] },
        hide_clear known hidden scope.next_slot (scope.next_slot + 1) whole.name scope.next_slot scope.visible u s.falling e s.clear,
      ),
    );
    falling = (omega arith, (omega arith, hide_falling whole.name scope.next_slot scope.visible s.falling));
    known_low = λ y a. elim a [ inl q ↦ omega (arith, q) | inr b ↦ elim b [ inl q ↦ omega (arith, q) | inr d ↦ let l = s.known_low y d in omega (arith, l) ] ];
    hidden_low = λ y a. elim a [ inl q ↦ omega (arith, q, low) | inr b ↦ let l = s.hidden_low y b in omega (arith, l) ];
  }
    where
      low : u.slot < scope.next_slot
      low = lookup_low whole.name scope.next_slot scope.visible u s.falling e

      below : (n : ℕ) → scope.next_slot ≤ n → u.slot ≡ n → ⊥
      below n l q = omega (arith, l, q, low)

      apart : (n : ℕ) → scope.next_slot ≤ n → Among hidden n → ⊥
      apart n l a = let m = s.hidden_low n a in omega (arith, l, m)

  split_fresh : (known hidden : List ℕ) (scope : Scope) (u : Variable) (x : Name) → lookup scope.visible x ≡ Some u → Seen known hidden scope → IsFresh known hidden u.slot scope.next_slot (scope.next_slot + 1)
  split_fresh known hidden scope u x e s = record {
    left_unknown = λ a. let l = s.known_low scope.next_slot a in omega (arith, l);
    right_unknown = λ a. let l = s.known_low (scope.next_slot + 1) a in omega (arith, l);
    left_open = λ a. elim a [ inl q ↦ omega (arith, q, low) | inr b ↦ let l = s.hidden_low scope.next_slot b in omega (arith, l) ];
    right_open = λ a. elim a [ inl q ↦ omega (arith, q, low) | inr b ↦ let l = s.hidden_low (scope.next_slot + 1) b in omega (arith, l) ];
    apart = λ q. omega (arith, q);
  }
    where
      low : u.slot < scope.next_slot
      low = lookup_low x scope.next_slot scope.visible u s.falling e

  mutual
    seen_statement : (known hidden set : List ℕ) (scope : Scope) (z : Stmt Name) (coming : List Slot) → Fits here set scope (statement_slots scope z ++ coming) → FormedStatement z → Each (IsClean here) (statement_uses scope z)
        → Seen known hidden scope → SeesStatement slots known hidden (resolve_statement functions scope z)
    seen_statement known hidden set scope statement.Empty coming h w c s = tt
    seen_statement known hidden set scope (statement.Declare items) coming h w c s = seen_items known hidden set scope items coming h w c s
    seen_statement known hidden set scope (statement.Assign written op value) coming h w c s =
        let parts = Each-parts (IsClean here) (target_uses scope.visible written) (expression_uses scope.visible value) c in
        (seen_target known hidden scope.visible written s.clear w.0 parts.left, seen_expression known hidden scope.visible value s.clear w.2 parts.right)
    seen_statement known hidden set scope (statement.Call call) coming h w c s = seen_own_call known hidden scope.visible false (expression.Call call) tt s.clear w c
    seen_statement known hidden set scope (statement.Spawn at destination call) coming h w c s = seen_spawn known hidden scope.visible at destination call s.clear w c
    seen_statement known hidden set scope (statement.Sync at) coming h w c s = tt
    seen_statement known hidden set scope (IfAlone test chosen) coming h w c s =
        let inner = inner_scope scope in
        let parts = Each-parts (IsClean here) (expression_uses scope.visible test) (statement_uses inner chosen) c in
        subst (SeesStatement slots known hidden) (sym (If-Alone (resolve_expression functions scope.visible test) (resolve_statement functions inner chosen))) (
          seen_expression known hidden scope.visible test s.clear w.0 parts.left,
          seen_statement known hidden set inner chosen coming (within_fits here set scope (statement_slots inner chosen ++ coming) h) w.1 parts.right (inner_seen known hidden scope s),
        )
    seen_statement known hidden set scope (IfElse test chosen other) coming h w c s =
        let inner = inner_scope scope in
        let behind = inner_scope (reserve_slots scope chosen) in
        let first = statement_slots inner chosen in
        let second = statement_slots behind other in
        let split = regrouped here set scope first second coming h in
        let rest = Each-parts (IsClean here) (expression_uses scope.visible test) (statement_uses inner chosen ++ statement_uses behind other) c in
        let parts = Each-parts (IsClean here) (statement_uses inner chosen) (statement_uses behind other) rest.right in
        subst (SeesStatement slots known hidden) (sym (If-Else (resolve_expression functions scope.visible test) (resolve_statement functions inner chosen) (resolve_statement functions behind other))) (
          seen_expression known hidden scope.visible test s.clear w.0 rest.left,
          seen_statement known hidden set inner chosen (second ++ coming) (within_fits here set scope (first ++ (second ++ coming)) split) w.1 parts.left (inner_seen known hidden scope s),
          seen_statement known hidden set behind other coming (within_fits here set (reserve_slots scope chosen) (second ++ coming) (past_fits here set scope inner chosen (second ++ coming) split)) w.2 parts.right
              (inner_seen known hidden (reserve_slots scope chosen) (reserved_seen known hidden scope chosen s)),
        )
    seen_statement known hidden set scope (WhileLoop test body) coming h w c s =
        let inner = inner_scope scope in
        let parts = Each-parts (IsClean here) (expression_uses scope.visible test) (statement_uses inner body) c in
        subst (SeesStatement slots known hidden) (sym (While-Loop (resolve_expression functions scope.visible test) (resolve_statement functions inner body))) (
          seen_expression known hidden scope.visible test s.clear w.0 parts.left,
          seen_statement known hidden set inner body coming (within_fits here set scope (statement_slots inner body ++ coming) h) w.1 parts.right (inner_seen known hidden scope s),
        )
    seen_statement known hidden set scope (ForLoop first test step body) coming h w c s =
        let inner = inner_scope scope in
        let header = scope_after inner first in
        let behind = inner_scope (reserve_slots header step) in
        let last = statement_slots behind body in
        let rest = statement_slots header step ++ last in
        let outer = within_fits here set scope _ (regrouped here set scope (statement_slots inner first) rest coming h) in
        let later = set_behind set (resolve_statement functions inner first) in
        let known_there = after_fits here set inner first (rest ++ coming) outer in
        let split = regrouped here later header (statement_slots header step) last coming known_there in
        let third = statement_uses header step in
        let fourth = statement_uses behind body in
        let a = Each-parts (IsClean here) (statement_uses inner first) (optional_uses header.visible test ++ (third ++ fourth)) c in
        let b = Each-parts (IsClean here) (optional_uses header.visible test) (third ++ fourth) a.right in
        let d = Each-parts (IsClean here) third fourth b.right in
        let start = inner_seen known hidden scope s in
        let in_header = after_seen known hidden set inner first (rest ++ coming) outer w.0 start in
        subst (SeesStatement slots known hidden)
        (sym (For-Loop (resolve_statement functions inner first) (resolve_optional functions header.visible test) (resolve_statement functions header step) (resolve_statement functions behind body))) (
          seen_statement known hidden set inner first (rest ++ coming) outer w.0 a.left start,
          seen_optional known hidden header.visible test in_header.clear w.1 b.left,
          seen_statement known hidden later header step (last ++ coming) split w.2 d.left in_header,
          seen_statement known hidden later behind body coming
              (within_fits here later (reserve_slots header step) (last ++ coming) (past_fits here later header header step (last ++ coming) split)) w.3 d.right
              (inner_seen known hidden (reserve_slots header step) (reserved_seen known hidden header step in_header)),
        )
    seen_statement known hidden set scope (statement.Split' whole index left right _ body close) coming h w c s =
        let split = split_scope scope whole left right in
        let inner = inner_scope split in
        let all = statements_slots inner body ++ coming in
        let later = (scope.next_slot + 1) ∷ scope.next_slot ∷ set in
        let doubled = if is_same left.name right.name then redeclaration right.at ∷ [] else [] in
        let a = Each-parts (IsClean here) (expression_uses scope.visible index) (doubled ++ statements_uses inner body) c.1 in
        let b = Each-parts (IsClean here) doubled (statements_uses inner body) a.right in
        let u = found scope.visible whole Role.split_whole c.0 in
        let slot : u.0.slot ≡ variable_number (lookup scope.visible whole.name) = sym (ap variable_number u.1) in
        made_split known hidden (resolve_mark scope.visible whole) (resolve_expression functions scope.visible index)
        (record { name = scope.next_slot; at = left.at }) (record { name = scope.next_slot + 1; at = right.at }) (resolve_statements functions inner body) close
        (seen_mark known hidden scope.visible whole Role.split_whole s.clear c.0)
        (seen_expression known hidden scope.visible index s.clear w.0 a.left)
        (subst (λ n. IsFresh known hidden n scope.next_slot (scope.next_slot + 1)) slot (split_fresh known hidden scope u.0 whole.name u.1 s))
        (subst (λ n. SeesBody slots ((scope.next_slot + 1) ∷ scope.next_slot ∷ known) (n ∷ hidden) (resolve_statements functions inner body)) slot
        (seen_sequence ((scope.next_slot + 1) ∷ scope.next_slot ∷ known) (u.0.slot ∷ hidden) later inner body coming (within_fits here later split all (parts_fit here set scope whole left right all h)) w.1 b.right
        (split_seen known hidden scope whole left right u.0 u.1 s)))
    seen_statement known hidden set scope (statement.Return at value) coming h w c s = seen_optional known hidden scope.visible value s.clear w c.1
    seen_statement known hidden set scope (statement.Print value) coming h w c s = seen_expression known hidden scope.visible value s.clear w c
    seen_statement known hidden set scope (statement.Block' _ body) coming h w c s =
        made_block known hidden (resolve_statements functions (inner_scope scope) body)
        (seen_sequence known hidden set (inner_scope scope) body coming (within_fits here set scope (statements_slots (inner_scope scope) body ++ coming) h) w c (inner_seen known hidden scope s))

    seen_sequence : {n : _} (known hidden set : List ℕ) (scope : Scope) (ss : Row_of-Stmt Name n) (coming : List Slot) → Fits here set scope (statements_slots scope ss ++ coming) → FormedSequence ss → Each (IsClean here) (statements_uses scope ss)
        → Seen known hidden scope → SeesBody slots known hidden (resolve_statements functions scope ss)
    seen_sequence known hidden set scope end_of-Stmt coming h w c s = tt
    seen_sequence known hidden set scope (more_of-Stmt first more) coming h w c s =
        let behind = scope_after scope first in
        let split = regrouped here set scope (statement_slots scope first) (statements_slots behind more) coming h in
        let parts = Each-parts (IsClean here) (statement_uses scope first) (statements_uses behind more) c in (
          seen_statement known hidden set scope first (statements_slots behind more ++ coming) split w.0 parts.left s,
          seen_sequence known hidden (set_behind set (resolve_statement functions scope first)) behind more coming
              (after_fits here set scope first (statements_slots behind more ++ coming) split) w.1 parts.right
              (after_seen known hidden set scope first (statements_slots behind more ++ coming) split w.0 s),
        )

  pub seen_body : (known hidden set : List ℕ) (scope : Scope) (ss : List (Stmt Name)) (coming : List Slot) → Fits here set scope (body_slots scope ss ++ coming) → FormedBody ss → Each (IsClean here) (body_uses scope ss)
      → Seen known hidden scope → SeesBody slots known hidden (resolve_body functions scope ss)
  seen_body known hidden set scope [] coming h w c s = tt
  seen_body known hidden set scope (first ∷ more) coming h w c s =
      let behind = scope_after scope first in
      let split = regrouped here set scope (statement_slots scope first) (body_slots behind more) coming h in
      let parts = Each-parts (IsClean here) (statement_uses scope first) (body_uses behind more) c in (
        seen_statement known hidden set scope first (body_slots behind more ++ coming) split w.0 parts.left s,
        seen_body known hidden (set_behind set (resolve_statement functions scope first)) behind more coming
            (after_fits here set scope first (body_slots behind more ++ coming) split) w.1 parts.right
            (after_seen known hidden set scope first (body_slots behind more ++ coming) split w.0 s),
      )

  -- behind the parameters
  parameters_seen : (known : List ℕ) (scope : Scope) (items : List (Item Name)) → ((x : ℕ) → scope.next_slot ≤ x → x < scope.next_slot + length items → slice_get slots x ≡ Some slot.Slice → Among known x)
      → Each (Clear known []) scope.visible → Falling scope.next_slot scope.visible
      → Each (Clear known []) (declare_items scope items).visible × Falling (declare_items scope items).next_slot (declare_items scope items).visible × ((declare_items scope items).next_slot ≡ scope.next_slot + length items)
  parameters_seen known scope [] k c f = (c, f, omega arith)
  parameters_seen known scope (item ∷ more) k c f =
      let later = declare_name scope item.name item.slot in
      let r = parameters_seen known later more (λ x l m e. k x (omega (arith, l)) (omega (arith, m)) e) (record { named = k scope.next_slot (omega arith) (omega arith); open_ = λ a. a }, c) (omega arith, f) in
      (r.0, r.1, (let e = r.2 in omega (arith, e)))

-- ---- functions

module _ (functions : List (Function Name)) (formed : (f : Function Name) → Contains functions f → FormedFunction f) (sound : functions_faults functions [] 0 functions ≡ []) where
  resolved_length : (scope : Scope) (items : List (Item Name)) → length (resolve_items functions scope items) ≡ length items
  resolved_length scope [] = refl
  resolved_length scope (item ∷ more) = ap suc (resolved_length (declare_name scope item.name item.slot) more)

  seen_function : (index : ℕ) (f : Function Name) → Contains functions f → Clean functions f → SeesFunction (resolve_function functions index f)
  seen_function index f among_ c known low named =
      let own = map (λ (item : Item Name). item.slot) f.parameters in
      let others = body_slots outer f.body in
      let start : Fits here [] function_scope (own ++ (others ++ [])) = record { visible = tt; before = []; at = refl; parts = ap (λ s. own ++ s) (sym (append-nil others)) } in
      let seen = parameters_seen here known function_scope f.parameters (λ x l m e. named x (omega (arith, m, count)) e) tt tt in
      seen_body here known [] (set_by_items [] (resolve_items functions function_scope f.parameters)) outer f.body [] (items_fit here [] function_scope f.parameters (others ++ []) start)
      (formed f among_).body (Each-parts (λ u. use_faults functions f u ≡ []) (items_uses function_scope f.parameters) (body_uses outer f.body) c.uses).right
      (record { clear = seen.0; falling = seen.1; known_low = λ x a. let l = low x a in let m = seen.2 in omega (arith, l, m, count); hidden_low = λ x a. absurd a })
    where
      here : Setting
      here = record { functions = functions; numbered = numbered functions formed sound; slots = function_slots f; own = f; known = known_function functions formed sound }

      outer : Scope
      outer = declare_items function_scope f.parameters

      count : length (resolve_items functions function_scope f.parameters) ≡ length f.parameters
      count = resolved_length function_scope f.parameters

  seen_at : (index : ℕ) (g : Function ℕ) → slice_get (resolve_functions functions 0 functions) index ≡ Some g → SeesFunction g
  seen_at index g e = by (slice_get functions index) refl (sym (resolved_at functions 0 functions index) ∙ e)
    where
      by : (z : Option (Function Name)) → slice_get functions index ≡ z → option_map (resolve_function functions (0 + index)) z ≡ Some g → SeesFunction g
      by None i h = absurd (cc)
      by (Some f) i h =
          let is : resolve_function functions (0 + index) f ≡ g = cc in
          subst SeesFunction is (seen_function (0 + index) f (Contains-at functions index f i) (clean_at functions [] 0 functions sound index f i))

-- and so in a sound program
pub sound_sees : (program : Program) → IsSoundProgram program → SeesProgram program
sound_sees program s = subst SeesProgram (sym s.3) (seen_at s.0.functions (sound_formed s.0 s.1) (nothing_first (functions_faults s.0.functions [] 0 s.0.functions) _ s.2))
