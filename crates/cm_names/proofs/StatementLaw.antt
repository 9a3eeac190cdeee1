-- What is resolved of a statement, from what is resolved of its parts.
use Rattle.std.proofs.Common.{◌≡◌, ℕ, ◌+◌, Bool, true, false, if◌then◌else◌, List, [], ◌∷◌, ◌++◌, length, drop, Option, None, Some, refl, sym, ap, ◌∙◌, subst, append-nil}
use Rattle.std.specs.Prelude.{is_some, Result, IfOk}
use Rattle.cm_text.specs.declared.error.Memory.{Memory}
use Rattle.cm_syntax.specs.declared.name.Name.{Name}
use Rattle.cm_syntax.specs.declared.expr.Mark.{Mark}
use Rattle.cm_syntax.specs.declared.expr.Op.{Op}
use Rattle.cm_syntax.specs.declared.expr.Expr.{Expr}
use Rattle.cm_syntax.specs.declared.expr.Expr.TheVariants as expression
use Rattle.cm_syntax.specs.declared.expr.Call.{Call}
use Rattle.cm_syntax.specs.declared.stmt.Slot.{Slot}
use Rattle.cm_syntax.specs.declared.stmt.Slot.TheVariants as slot
use Rattle.cm_syntax.specs.declared.stmt.Target.{Target}
use Rattle.cm_syntax.specs.declared.stmt.Stmt.{Stmt, Row_of-Stmt, end_of-Stmt, more_of-Stmt, items-the_row-Stmt, items_hidden-the_row-Stmt-1}
use Rattle.cm_syntax.specs.declared.stmt.Stmt.TheVariants as statement
use Rattle.cm_syntax.specs.declared.stmt.Function.{Function}
use Rattle.cm_syntax.specs.Shape.{IfAlone, IfElse, WhileLoop, ForLoop}
use Rattle.cm_syntax.specs.Text.{is_same}
use Rattle.cm_syntax.specs.Resolution as resolution
use Rattle.cm_syntax.specs.Resolution.{Scope, split_whole, spawn_destination, Use, redeclaration, parallel_keyword, return_keyword, has_value, lookup, hide, part_slot, inner_scope, declare_name, split_scope, slot_count, reserve_slots, scope_after, mention_of, expression_uses, optional_uses, call_uses, target_uses, statement_slots, statement_uses, statements_slots, statements_uses, body_slots, body_uses, resolve_mark, resolve_expression, resolve_optional, resolve_call, resolve_target, resolve_statement, resolve_statements, resolve_body}
use Rattle.cm_syntax.proofs.Rows.{row_of_block}
use Rattle.cm_syntax.proofs.StatementLaw.{If-Alone, If-Else, While-Loop, For-Loop}
use Rattle.cm_syntax.proofs.naming.NameLaw.{slots_counted}
use Rattle.cm_names.specs.declared.variable.Variable.{Variable}
use Rattle.cm_names.specs.declared.variable.Variables.{Variables}
use Rattle.cm_names.specs.declared.pass.Pass.{Pass}
use Rattle.cm_names.specs.declared.statement.Parts.{Parts}
use Rattle.cm_names.specs.Visible.{stack_of, top, below_top}
use Rattle.cm_names.specs.Found.{Found}
use Rattle.cm_names.specs.Finding.{after_use}
use Rattle.cm_names.specs.Passing.{IsAt, Declares, Steps, Reads, DoesStatement, DoesOwn, PassesStatement, PassesInner, DoesBody, PassesBlock, PassesParts, parts_slots, reserve, statement_count, body_count, shown_again}
use Rattle.cm_names.proofs.ScopeLaw.{at_inner, at_hidden, statement_taken_back, body_taken_back, top_taken_back, shows_hidden, shows_again}
use Rattle.cm_names.proofs.StepLaw.{if_ok, joined, declared, reserved, own, own_after}

-- ---- blocks as lists

row_slots : {n : _} (scope : Scope) (row : Row_of-Stmt Name n) → statements_slots scope row ≡ body_slots scope (items-the_row-Stmt Name n row)
row_slots scope end_of-Stmt = refl
row_slots scope (more_of-Stmt first more) = ap (λ t. statement_slots scope first ++ t) (row_slots (scope_after scope first) more)

row_uses : {n : _} (scope : Scope) (row : Row_of-Stmt Name n) → statements_uses scope row ≡ body_uses scope (items-the_row-Stmt Name n row)
row_uses scope end_of-Stmt = refl
row_uses scope (more_of-Stmt first more) = ap (λ t. statement_uses scope first ++ t) (row_uses (scope_after scope first) more)

row_resolved : {n : _} (functions : List (Function Name)) (scope : Scope) (row : Row_of-Stmt Name n) →
    resolve_statements functions scope row ≡ resolve_body functions scope (items-the_row-Stmt Name n row)
row_resolved functions scope end_of-Stmt = refl
row_resolved functions scope (more_of-Stmt first more) = ap (λ t. resolve_statement functions scope first ∷ t) (row_resolved functions (scope_after scope first) more)

block_slots : (scope : Scope) (body : List (Stmt Name)) → statement_slots scope (statement.Block body) ≡ body_slots (inner_scope scope) body
block_slots scope body =
    row_slots (inner_scope scope) (row_of_block (statement.Block body)).1 ∙ ap (body_slots (inner_scope scope)) (items_hidden-the_row-Stmt-1 Name body)

block_uses : (scope : Scope) (body : List (Stmt Name)) → statement_uses scope (statement.Block body) ≡ body_uses (inner_scope scope) body
block_uses scope body =
    row_uses (inner_scope scope) (row_of_block (statement.Block body)).1 ∙ ap (body_uses (inner_scope scope)) (items_hidden-the_row-Stmt-1 Name body)

block_resolved : (functions : List (Function Name)) (scope : Scope) (body : List (Stmt Name)) →
    resolve_statement functions scope (statement.Block body) ≡ statement.Block (resolve_body functions (inner_scope scope) body)
block_resolved functions scope body =
    ap statement.Block (row_resolved functions (inner_scope scope) (row_of_block (statement.Block body)).1 ∙ ap (resolve_body functions (inner_scope scope)) (items_hidden-the_row-Stmt-1 Name body))

module _ (whole : Mark Name) (place : Expr Name) (left right : Mark Name) (body : List (Stmt Name)) (close : ℕ) where
  split_slots : (scope : Scope) → statement_slots scope (statement.Split whole place left right body close) ≡ parts_slots scope whole left right body
  split_slots scope =
      let parts = inner_scope (split_scope scope whole left right) in
      let kind = part_slot (lookup scope.visible whole.name) in
      ap (λ t. kind ∷ kind ∷ t) (row_slots parts (row_of_block (statement.Split whole place left right body close)).1 ∙ ap (body_slots parts) (items_hidden-the_row-Stmt-1 Name body))

  split_uses : (scope : Scope) → statement_uses scope (statement.Split whole place left right body close) ≡
      mention_of scope.visible whole split_whole ∷ (expression_uses scope.visible place ++
      ((if is_same left.name right.name then redeclaration right.at ∷ [] else []) ++ body_uses (inner_scope (split_scope scope whole left right)) body))
  split_uses scope =
      let parts = inner_scope (split_scope scope whole left right) in
      ap (λ t. mention_of scope.visible whole split_whole ∷ (expression_uses scope.visible place ++ ((if is_same left.name right.name then redeclaration right.at ∷ [] else []) ++ t)))
      (row_uses parts (row_of_block (statement.Split whole place left right body close)).1 ∙ ap (body_uses parts) (items_hidden-the_row-Stmt-1 Name body))

  split_resolved : (functions : List (Function Name)) (scope : Scope) → resolve_statement functions scope (statement.Split whole place left right body close) ≡
      statement.Split (resolve_mark scope.visible whole) (resolve_expression functions scope.visible place)
      (record { name = scope.next_slot; at = left.at }) (record { name = scope.next_slot + 1; at = right.at })
      (resolve_body functions (inner_scope (split_scope scope whole left right)) body) close
  split_resolved functions scope =
      let parts = inner_scope (split_scope scope whole left right) in
      ap (λ t. statement.Split (resolve_mark scope.visible whole) (resolve_expression functions scope.visible place)
      (record { name = scope.next_slot; at = left.at }) (record { name = scope.next_slot + 1; at = right.at }) t close)
      (row_resolved functions parts (row_of_block (statement.Split whole place left right body close)).1 ∙ ap (resolve_body functions parts) (items_hidden-the_row-Stmt-1 Name body))

-- ---- statements that declare nothing in their scope

abbrev pub is_declaration : Stmt Name → Bool
is_declaration (statement.Declare items) = true
is_declaration _ = false

after_own : (scope : Scope) (s : Stmt Name) → is_declaration s ≡ false → reserve_slots scope s ≡ scope_after scope s
after_own scope (statement.Declare items) h = absurd (cc)
after_own scope _ h = refl

pub no_declaration-If : (test : Expr Name) (chosen : Stmt Name) (other : Option (Stmt Name)) → is_declaration (statement.If test chosen other) ≡ false
no_declaration-If test chosen None = ap is_declaration (If-Alone test chosen)
no_declaration-If test chosen (Some other) = ap is_declaration (If-Else test chosen other)

pub no_declaration-While : (test : Expr Name) (body : Stmt Name) → is_declaration (statement.While test body) ≡ false
no_declaration-While test body = ap is_declaration (While-Loop test body)

pub no_declaration-For : (first : Stmt Name) (test : Option (Expr Name)) (step body : Stmt Name) → is_declaration (statement.For first test step body) ≡ false
no_declaration-For first test step body = ap is_declaration (For-Loop first test step body)

some_value : (value : Option (Expr Name)) → is_some value ≡ has_value value
some_value None = refl
some_value (Some value) = refl

module _ (functions : List (Function Name)) (f : Function Name) where
  -- the match on a statement
  pub does_own : (base : ℕ) (s shape : Stmt Name) (old new : Pass) (result : Stmt ℕ) → s ≡ shape → is_declaration shape ≡ false → DoesOwn functions f shape old new result →
      DoesStatement functions f base s old new result
  does_own base s shape old new result is owned does =
      subst (λ s. DoesStatement functions f base s old new result) (sym is) (λ scope at.
      let h = does base scope at in
      (h.0, subst (λ after. Steps functions f base (statement_slots scope shape) (statement_uses scope shape) after old new) (after_own scope shape owned) h.1))

  -- the same of what a call gave
  pub hands_on : (base : ℕ) (s shape : Stmt Name) (old new : Pass) (result : Result (Stmt ℕ) Memory) → s ≡ shape → is_declaration shape ≡ false →
      IfOk result (λ r. DoesOwn functions f shape old new r) → IfOk result (λ r. DoesStatement functions f base s old new r)
  hands_on base s shape old new result is owned =
      if_ok (λ r. DoesOwn functions f shape old new r) (λ r. DoesStatement functions f base s old new r) result (λ r. does_own base s shape old new r is owned)

  -- a use that is noted by itself
  pub used : (base : ℕ) (scope : Scope) (use_ : Use) (old : Pass) (found : Found) → IsAt old base scope → found ≡ after_use functions f old.found use_ →
      Steps functions f base [] (use_ ∷ []) scope old (record old { found = found })
  used base scope use_ old found at is = record { at = at; slots_are = sym (append-nil old.slots); found_is = is }

  pub own_assignment : (written : Target Name) (op : Option Op) (value : Expr Name) (old mid new : Pass) (t : Target ℕ) (v : Expr ℕ) →
      Reads functions f old mid t (λ visible. resolve_target functions visible written) (λ visible. target_uses visible written) →
      Reads functions f mid new v (λ visible. resolve_expression functions visible value) (λ visible. expression_uses visible value) →
      DoesOwn functions f (statement.Assign written op value) old new (statement.Assign t op v)
  own_assignment written op value old mid new t v first second base scope at =
      let one = first base scope at in
      let two = second base scope one.1.at in
      let steps = joined functions f base [] [] (target_uses scope.visible written) (expression_uses scope.visible value) scope scope old mid new one.1 two.1 in (
        ap (λ x. statement.Assign x op v) one.0 ∙ ap (λ x. statement.Assign (resolve_target functions scope.visible written) op x) two.0,
        own functions f base scope (statement.Assign written op value) base scope old new at steps steps.at.shown,
      )

  pub own_call : (call : Call Name) (old new : Pass) (k : Call ℕ) →
      Reads functions f old new k (λ visible. resolve_call functions visible (expression.Call call)) (λ visible. call_uses visible false (expression.Call call)) →
      DoesOwn functions f (statement.Call call) old new (statement.Call k)
  own_call call old new k does base scope at =
      let one = does base scope at in
      (ap statement.Call one.0, own functions f base scope (statement.Call call) base scope old new at one.1 one.1.at.shown)

  pub own_print : (value : Expr Name) (old new : Pass) (v : Expr ℕ) →
      Reads functions f old new v (λ visible. resolve_expression functions visible value) (λ visible. expression_uses visible value) →
      DoesOwn functions f (statement.Print value) old new (statement.Print v)
  own_print value old new v does base scope at =
      let one = does base scope at in
      (ap statement.Print one.0, own functions f base scope (statement.Print value) base scope old new at one.1 one.1.at.shown)

  pub own_spawn_alone : (at : ℕ) (destination : Option (Mark Name)) (call : Call Name) (old new : Pass) (found : Found) (k : Call ℕ) → destination ≡ None →
      found ≡ after_use functions f old.found (parallel_keyword at) →
      Reads functions f (record old { found = found }) new k (λ visible. resolve_call functions visible (expression.Call call)) (λ visible. call_uses visible false (expression.Call call)) →
      DoesOwn functions f (statement.Spawn at destination call) old new (statement.Spawn at None k)
  own_spawn_alone at destination call old new found k none noted does =
      subst (λ d. DoesOwn functions f (statement.Spawn at d call) old new (statement.Spawn at None k)) (sym none) (λ base scope here.
      let word = used base scope (parallel_keyword at) old found here noted in
      let one = does base scope word.at in
      let steps = joined functions f base [] [] (parallel_keyword at ∷ []) (call_uses scope.visible false (expression.Call call)) scope scope old (record old { found = found }) new word one.1 in
      (ap (statement.Spawn at None) one.0, own functions f base scope (statement.Spawn at None call) base scope old new here steps steps.at.shown))

  pub own_spawn : (at : ℕ) (destination : Option (Mark Name)) (x : Mark Name) (call : Call Name) (old mid new : Pass) (found : Found) (m : Mark ℕ) (k : Call ℕ) → destination ≡ Some x →
      Reads functions f old mid m (λ visible. resolve_mark visible x) (λ visible. mention_of visible x spawn_destination ∷ []) →
      found ≡ after_use functions f mid.found (parallel_keyword at) →
      Reads functions f (record mid { found = found }) new k (λ visible. resolve_call functions visible (expression.Call call)) (λ visible. call_uses visible true (expression.Call call)) →
      DoesOwn functions f (statement.Spawn at destination call) old new (statement.Spawn at (Some m) k)
  own_spawn at destination x call old mid new found m k some named noted does =
      subst (λ d. DoesOwn functions f (statement.Spawn at d call) old new (statement.Spawn at (Some m) k)) (sym some) (λ base scope here.
      let one = named base scope here in
      let word = used base scope (parallel_keyword at) mid found one.1.at noted in
      let two = does base scope word.at in
      let steps = joined functions f base [] [] (mention_of scope.visible x spawn_destination ∷ []) (parallel_keyword at ∷ call_uses scope.visible true (expression.Call call)) scope scope old mid new one.1
      (joined functions f base [] [] (parallel_keyword at ∷ []) (call_uses scope.visible true (expression.Call call)) scope scope mid (record mid { found = found }) new word two.1) in (
        ap (λ y. statement.Spawn at (Some y) k) one.0 ∙ ap (statement.Spawn at (Some (resolve_mark scope.visible x))) two.0,
        own functions f base scope (statement.Spawn at (Some x) call) base scope old new here steps steps.at.shown,
      ))

  pub own_return : (at : ℕ) (value : Option (Expr Name)) (is_there : Bool) (old new : Pass) (found : Found) (v : Option (Expr ℕ)) → is_there ≡ is_some value →
      found ≡ after_use functions f old.found (return_keyword at is_there) →
      Reads functions f (record old { found = found }) new v (λ visible. resolve_optional functions visible value) (λ visible. optional_uses visible value) →
      DoesOwn functions f (statement.Return at value) old new (statement.Return at v)
  own_return at value is_there old new found v is noted does base scope here =
      let word = used base scope (return_keyword at (has_value value)) old found here (noted ∙ ap (λ b. after_use functions f old.found (return_keyword at b)) (is ∙ some_value value)) in
      let one = does base scope word.at in
      let steps = joined functions f base [] [] (return_keyword at (has_value value) ∷ []) (optional_uses scope.visible value) scope scope old (record old { found = found }) new word one.1 in
      (ap (statement.Return at) one.0, own functions f base scope (statement.Return at value) base scope old new here steps steps.at.shown)

  -- ---- statements in scopes of their own

  -- the beginning of a scope within this one, which has the slots from `base` on
  inner_at : (base outer : ℕ) (scope : Scope) (old : Pass) → base ≡ length old.slots → IsAt old outer scope → IsAt old base (inner_scope scope)
  inner_at base outer scope old is at = subst (λ n. IsAt old n (inner_scope scope)) (at.next ∙ sym is) (at_inner old.variables old.slots outer scope at)

  pub passes : (base : ℕ) (s : Stmt Name) (old mid : Pass) (variables : Variables) (made result : Stmt ℕ) → DoesStatement functions f base s old mid made →
      ((x : Name) → stack_of variables x ≡ drop (statement_count x s) (stack_of mid.variables x)) → result ≡ made →
      PassesStatement functions f base s old (record mid { variables = variables }) result
  passes base s old mid variables made result does taken is scope at =
      let one = does scope at in
      let shown = statement_taken_back mid.variables variables scope s one.1.at.shown taken in
      (is ∙ one.0, own_after functions f base scope s base (scope_after scope s) old mid (record mid { variables = variables }) at one.1 refl refl shown)

  pub passes_inner : (base : ℕ) (s : Stmt Name) (old new : Pass) (result : Stmt ℕ) → base ≡ length old.slots → PassesStatement functions f base s old new result →
      PassesInner functions f s old new result
  passes_inner base s old new result is does outer scope at =
      let one = does (inner_scope scope) (inner_at base outer scope old is at) in (
        one.0,
        reserved functions f outer scope (statement_slots (inner_scope scope) s) (statement_uses (inner_scope scope) s) (slot_count s) old new at
            one.1.slots_are one.1.found_is (slots_counted (inner_scope scope) s) one.1.at.shown,
      )

  pub passes_block : (base : ℕ) (body : List (Stmt Name)) (old mid : Pass) (variables : Variables) (result : List (Stmt ℕ)) → base ≡ length old.slots → DoesBody functions f base body old mid result →
      ((x : Name) → stack_of variables x ≡ drop (body_count x body) (stack_of mid.variables x)) →
      PassesBlock functions f body old (record mid { variables = variables }) result
  passes_block base body old mid variables result is does taken outer scope at =
      let one = does (inner_scope scope) (inner_at base outer scope old is at) in (
        one.0,
        reserved functions f outer scope (body_slots (inner_scope scope) body) (body_uses (inner_scope scope) body) (length (body_slots (inner_scope scope) body)) old (record mid { variables = variables }) at
            one.1.slots_are one.1.found_is refl (body_taken_back mid.variables variables (inner_scope scope) body one.1.at.shown taken),
      )

  -- from a statement in another shape
  abbrev Owned : (base : ℕ) → Scope → (old new : Pass) → Stmt ℕ → Stmt Name → Type 0
  Owned base scope old new result s =
      (result ≡ resolve_statement functions scope s) × Steps functions f base (statement_slots scope s) (statement_uses scope s) (reserve_slots scope s) old new

  pub own_block : (body : List (Stmt Name)) (got : List (Stmt Name)) (old new : Pass) (r : List (Stmt ℕ)) → got ≡ body → PassesBlock functions f got old new r →
      DoesOwn functions f (statement.Block body) old new (statement.Block r)
  own_block body got old new r same does base scope at =
      let one = subst (λ (b : List (Stmt Name)). PassesBlock functions f b old new r) same does base scope at in
      let s = statement.Block body in
      let steps = subst (λ t. Steps functions f base t (statement_uses scope s) (reserve scope (length (body_slots (inner_scope scope) body))) old new) (sym (block_slots scope body))
      (subst (λ u. Steps functions f base (body_slots (inner_scope scope) body) u (reserve scope (length (body_slots (inner_scope scope) body))) old new) (sym (block_uses scope body)) one.1) in (
        ap statement.Block one.0 ∙ sym (block_resolved functions scope body),
        own functions f base scope s base (reserve scope (length (body_slots (inner_scope scope) body))) old new at steps one.1.at.shown,
      )

  pub own_while : (test : Expr Name) (body got : Stmt Name) (old mid new : Pass) (t : Expr ℕ) (b : Stmt ℕ) → got ≡ body →
      Reads functions f old mid t (λ visible. resolve_expression functions visible test) (λ visible. expression_uses visible test) →
      PassesInner functions f got mid new b → DoesOwn functions f (statement.While test body) old new (statement.While t b)
  own_while test body got old mid new t b same first second base scope at =
      let one = first base scope at in
      let two = subst (λ s. PassesInner functions f s mid new b) same second base scope one.1.at in
      let after = reserve_slots scope body in
      let steps = joined functions f base [] (statement_slots (inner_scope scope) body) (expression_uses scope.visible test) (statement_uses (inner_scope scope) body) scope after old mid new one.1 two.1 in
      subst (Owned base scope old new (statement.While t b)) (sym (While-Loop test body)) (
        ap (λ x. statement.While x b) one.0 ∙ ap (statement.While (resolve_expression functions scope.visible test)) two.0,
        own functions f base scope (WhileLoop test body) base after old new at steps steps.at.shown,
      )

  pub own_if_alone : (test : Expr Name) (chosen got : Stmt Name) (other : Option (Stmt Name)) (old mid new : Pass) (t : Expr ℕ) (b : Stmt ℕ) → other ≡ None → got ≡ chosen →
      Reads functions f old mid t (λ visible. resolve_expression functions visible test) (λ visible. expression_uses visible test) →
      PassesInner functions f got mid new b → DoesOwn functions f (statement.If test chosen other) old new (statement.If t b None)
  own_if_alone test chosen got other old mid new t b none same first second base scope at =
      let one = first base scope at in
      let two = subst (λ s. PassesInner functions f s mid new b) same second base scope one.1.at in
      let after = reserve_slots scope chosen in
      let steps = joined functions f base [] (statement_slots (inner_scope scope) chosen) (expression_uses scope.visible test) (statement_uses (inner_scope scope) chosen) scope after old mid new one.1 two.1 in
      subst (Owned base scope old new (statement.If t b None)) (sym (ap (statement.If test chosen) none ∙ If-Alone test chosen)) (
        ap (λ x. statement.If x b None) one.0 ∙ ap (λ x. statement.If (resolve_expression functions scope.visible test) x None) two.0,
        own functions f base scope (IfAlone test chosen) base after old new at steps steps.at.shown,
      )

  pub own_if_else : (test : Expr Name) (chosen got : Stmt Name) (other : Option (Stmt Name)) (second_is got_second : Stmt Name) (old mid late new : Pass) (t : Expr ℕ) (b e : Stmt ℕ) →
      other ≡ Some second_is → got ≡ chosen → got_second ≡ second_is →
      Reads functions f old mid t (λ visible. resolve_expression functions visible test) (λ visible. expression_uses visible test) →
      PassesInner functions f got mid late b → PassesInner functions f got_second late new e →
      DoesOwn functions f (statement.If test chosen other) old new (statement.If t b (Some e))
  own_if_else test chosen got other second_is got_second old mid late new t b e some same same_second first second third base scope at =
      let one = first base scope at in
      let two = subst (λ s. PassesInner functions f s mid late b) same second base scope one.1.at in
      let behind = reserve_slots scope chosen in
      let three = subst (λ s. PassesInner functions f s late new e) same_second third base behind two.1.at in
      let after = reserve_slots behind second_is in
      let both = joined functions f base (statement_slots (inner_scope scope) chosen) (statement_slots (inner_scope behind) second_is)
      (statement_uses (inner_scope scope) chosen) (statement_uses (inner_scope behind) second_is) behind after mid late new two.1 three.1 in
      let steps = joined functions f base [] (statement_slots (inner_scope scope) chosen ++ statement_slots (inner_scope behind) second_is) (expression_uses scope.visible test)
      (statement_uses (inner_scope scope) chosen ++ statement_uses (inner_scope behind) second_is) scope after old mid new one.1 both in
      subst (Owned base scope old new (statement.If t b (Some e))) (sym (ap (statement.If test chosen) some ∙ If-Else test chosen second_is)) (
        ap (λ x. statement.If x b (Some e)) one.0 ∙ (ap (λ x. statement.If (resolve_expression functions scope.visible test) x (Some e)) two.0 ∙
            ap (λ x. statement.If (resolve_expression functions scope.visible test) (resolve_statement functions (inner_scope scope) chosen) (Some x)) three.0),
        own functions f base scope (IfElse test chosen second_is) base after old new at steps steps.at.shown,
      )

  pub own_for : (base : ℕ) (first got_first : Stmt Name) (got_last : Stmt Name) (test : Option (Expr Name)) (step got_step body got_body : Stmt Name) (old p q r last : Pass) (variables : Variables)
      (made h : Stmt ℕ) (t : Option (Expr ℕ)) (g b : Stmt ℕ) → base ≡ length old.slots → got_first ≡ first → got_last ≡ first → got_step ≡ step → got_body ≡ body → h ≡ made →
      DoesStatement functions f base got_first old p made →
      Reads functions f p q t (λ visible. resolve_optional functions visible test) (λ visible. optional_uses visible test) →
      PassesStatement functions f base got_step q r g → PassesInner functions f got_body r last b →
      ((x : Name) → stack_of variables x ≡ drop (statement_count x got_last) (stack_of last.variables x)) →
      DoesOwn functions f (statement.For first test step body) old (record last { variables = variables }) (statement.For h t g b)
  own_for base first got_first got_last test step got_step body got_body old p q r last variables made h t g b is same_first same_last same_step same_body boxed does reads passes_step passes_body taken outer scope at =
      let inner = inner_scope scope in
      let header = scope_after inner first in
      let behind = reserve_slots header step in
      let after = reserve_slots behind body in
      let one = subst (λ s. DoesStatement functions f base s old p made) same_first does inner (inner_at base outer scope old is at) in
      let two = reads base header one.1.at in
      let three = subst (λ s. PassesStatement functions f base s q r g) same_step passes_step header two.1.at in
      let four = subst (λ s. PassesInner functions f s r last b) same_body passes_body base behind three.1.at in
      let third = joined functions f base (statement_slots header step) (statement_slots (inner_scope behind) body) (statement_uses header step) (statement_uses (inner_scope behind) body)
      behind after q r last three.1 four.1 in
      let second = joined functions f base [] (statement_slots header step ++ statement_slots (inner_scope behind) body) (optional_uses header.visible test)
      (statement_uses header step ++ statement_uses (inner_scope behind) body) header after p q last two.1 third in
      let steps = joined functions f base (statement_slots inner first) (statement_slots header step ++ statement_slots (inner_scope behind) body) (statement_uses inner first)
      (optional_uses header.visible test ++ (statement_uses header step ++ statement_uses (inner_scope behind) body)) header after old p last one.1 second in
      let shown = statement_taken_back last.variables variables inner first four.1.at.shown
      (λ x. taken x ∙ ap (λ s. drop (statement_count x s) (stack_of last.variables x)) same_last) in
      let new : Pass = record last { variables = variables } in
      subst (Owned outer scope old new (statement.For h t g b)) (sym (For-Loop first test step body)) (
        ap (λ x. statement.For x t g b) (boxed ∙ one.0) ∙ (ap (λ x. statement.For (resolve_statement functions inner first) x g b) two.0 ∙
            (ap (λ x. statement.For (resolve_statement functions inner first) (resolve_optional functions header.visible test) x b) three.0 ∙
            ap (λ x. statement.For (resolve_statement functions inner first) (resolve_optional functions header.visible test) (resolve_statement functions header step) x) four.0)),
        own_after functions f outer scope (ForLoop first test step body) base after old last new at steps refl refl shown,
      )

  -- ---- a split

  pub own_split : (whole : Mark Name) (place : Expr Name) (left right : Mark Name) (body got : List (Stmt Name)) (close : ℕ) (old p q r new : Pass) (m : Mark ℕ) (e : Expr ℕ) (parts : Parts) → got ≡ body →
      Reads functions f old p m (λ visible. resolve_mark visible whole) (λ visible. mention_of visible whole split_whole ∷ []) →
      Reads functions f p q e (λ visible. resolve_expression functions visible place) (λ visible. expression_uses visible place) →
      ((base : ℕ) (scope : Scope) → IsAt q base scope → Steps functions f base [] (if is_same left.name right.name then redeclaration right.at ∷ [] else []) scope q r) →
      PassesParts functions f whole left right got r new parts →
      DoesOwn functions f (statement.Split whole place left right body close) old new (statement.Split m e parts.left parts.right parts.body close)
  own_split whole place left right body got close old p q r new m e parts same named reads note does base scope at =
      let s = statement.Split whole place left right body close in
      let inner = inner_scope (split_scope scope whole left right) in
      let doubled = if is_same left.name right.name then redeclaration right.at ∷ [] else [] in
      let slots = parts_slots scope whole left right body in
      let after = reserve scope (length slots) in
      let one = named base scope at in
      let two = reads base scope one.1.at in
      let three = note base scope two.1.at in
      let four = subst (λ (ss : List (Stmt Name)). PassesParts functions f whole left right ss r new parts) same does base scope three.at in
      let late = joined functions f base [] slots doubled (body_uses inner body) scope after q r new three four.1 in
      let later = joined functions f base [] slots (expression_uses scope.visible place) (doubled ++ body_uses inner body) scope after p q new two.1 late in
      let all = joined functions f base [] slots (mention_of scope.visible whole split_whole ∷ []) (expression_uses scope.visible place ++ (doubled ++ body_uses inner body)) scope after old p new one.1 later in
      let steps = subst (λ t. Steps functions f base t (statement_uses scope s) after old new) (sym (split_slots whole place left right body close scope))
      (subst (λ u. Steps functions f base slots u after old new) (sym (split_uses whole place left right body close scope)) all) in (
        ap (λ x. statement.Split x e parts.left parts.right parts.body close) one.0 ∙ (ap (λ x. statement.Split (resolve_mark scope.visible whole) x parts.left parts.right parts.body close) two.0 ∙
            (ap (λ (x : Parts). statement.Split (resolve_mark scope.visible whole) (resolve_expression functions scope.visible place) x.left x.right x.body close) four.0 ∙
            sym (split_resolved whole place left right body close functions scope))),
        own functions f base scope s base after old new at steps four.1.at.shown,
      )

  parts_are : (v : Option resolution.Variable) → part_slot v ≡ slot.Slice
  parts_are None = refl
  parts_are (Some v) = of_kind v.kind
    where
      of_kind : (k : Slot) → resolution.part_kind k ≡ slot.Slice
      of_kind slot.Scalar = refl
      of_kind (slot.Array words) = refl
      of_kind slot.Slice = refl

  pub passes_parts : (whole left right : Mark Name) (body : List (Stmt Name)) (old p q last : Pass) (hidden : Option Variable) (without without_right without_left variables : Variables)
      (first second : ℕ) (made : List (Stmt ℕ)) → hidden ≡ top (stack_of old.variables whole.name) →
      ((x : Name) → stack_of without x ≡ (if is_same whole.name x then below_top (stack_of old.variables x) else stack_of old.variables x)) →
      Declares left.name slot.Slice (record old { variables = without }) p first → Declares right.name slot.Slice p q second →
      PassesBlock functions f body q last made →
      ((x : Name) → stack_of without_right x ≡ (if is_same right.name x then below_top (stack_of last.variables x) else stack_of last.variables x)) →
      ((x : Name) → stack_of without_left x ≡ (if is_same left.name x then below_top (stack_of without_right x) else stack_of without_right x)) →
      ((x : Name) → stack_of variables x ≡ shown_again hidden (is_same whole.name x) (stack_of without_left x)) →
      PassesParts functions f whole left right body old (record last { variables = variables })
      (record { left = record { name = first; at = left.at }; right = record { name = second; at = right.at }; body = made })
  passes_parts whole left right body old p q last hidden without without_right without_left variables first second made is taken d e does back_right back_left again outer scope at =
      let kind = part_slot (lookup scope.visible whole.name) in
      let none : Scope = record { visible = hide whole.name scope.visible; declared = []; next_slot = scope.next_slot } in
      let base = scope.next_slot in
      let begun : Pass = record old { variables = without } in
      let d = subst (λ k. Declares left.name k begun p first) (sym (parts_are (lookup scope.visible whole.name))) d in
      let e = subst (λ k. Declares right.name k p q second) (sym (parts_are (lookup scope.visible whole.name))) e in
      let at_none = at_hidden old.variables without old.slots outer scope whole.name at (shows_hidden old.variables without whole.name scope.visible at.shown taken) in
      let start : Steps functions f base [] [] none begun begun = record { at = at_none; slots_are = sym (append-nil old.slots); found_is = refl } in
      let one = declared functions f base [] [] none begun begun p left kind first start d in
      let with_left = declare_name none left kind in
      let two = declared functions f base (kind ∷ []) [] with_left begun p q right kind second one e in
      let split = split_scope scope whole left right in
      let inner = inner_scope split in
      let three = does base split two.at in
      let all = joined functions f base (kind ∷ kind ∷ []) (body_slots inner body) [] (body_uses inner body) split (reserve split (length (body_slots inner body))) begun q last two three.1 in
      let shown_left = top_taken_back last.variables without_right (record { name = right.name; slot = scope.next_slot + 1; kind = kind }) with_left.visible three.1.at.shown back_right in
      let shown_none = top_taken_back without_right without_left (record { name = left.name; slot = scope.next_slot; kind = kind }) none.visible shown_left back_left in
      let shown = shows_again without_left variables whole.name scope.visible hidden (is ∙ ap top (at.shown.each whole.name)) shown_none again in
      let slots = parts_slots scope whole left right body in
      let first_is : first ≡ scope.next_slot = d.number ∙ sym at.next in
      let second_is : second ≡ scope.next_slot + 1 = e.number ∙ sym one.at.next in
      let resolved = resolve_body functions inner body in (
        ap (λ n. record { left = record { name = n; at = left.at }; right = record { name = second; at = right.at }; body = made }) first_is ∙
            (ap (λ n. record { left = record { name = scope.next_slot; at = left.at }; right = record { name = n; at = right.at }; body = made }) second_is ∙
            ap (λ (b : List (Stmt ℕ)). record { left = record { name = scope.next_slot; at = left.at }; right = record { name = scope.next_slot + 1; at = right.at }; body = b }) three.0),
        reserved functions f outer scope slots (body_uses inner body) (length slots) old (record last { variables = variables }) at all.slots_are all.found_is refl shown,
      )
