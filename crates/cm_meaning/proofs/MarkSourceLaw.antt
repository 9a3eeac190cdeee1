-- In a sound program the mark of each function allows its body: its words `spawn` and `sync` are no faults.
use Rattle.std.proofs.Common.{◌≡◌, ℕ, ◌+◌, Bool, not, List, [], ◌∷◌, ◌++◌, refl, sym, ◌∙◌, subst, Option, None, Some, slice_get, option_map, if◌then◌else◌}
use Rattle.std.proofs.lemmas.Bool.{not-false}
use Rattle.std.specs.Prelude.{true}
use Rattle.cm_syntax.specs.declared.name.Name.{Name}
use Rattle.cm_syntax.specs.declared.expr.Mark.{Mark}
use Rattle.cm_syntax.specs.declared.expr.Expr.{Expr}
use Rattle.cm_syntax.specs.declared.expr.Call.{Call}
use Rattle.cm_syntax.specs.declared.stmt.Stmt.{Stmt, Row_of-Stmt, end_of-Stmt, more_of-Stmt, items-the_row-Stmt, items_hidden-the_row-Stmt-1}
use Rattle.cm_syntax.specs.declared.stmt.Stmt.TheVariants as statement
use Rattle.cm_syntax.specs.declared.stmt.Function.{Function}
use Rattle.cm_syntax.specs.declared.stmt.Tree.{Tree}
use Rattle.cm_syntax.specs.declared.stmt.Program.{Program}
use Rattle.cm_syntax.specs.Shape.{IfAlone, IfElse, WhileLoop, ForLoop}
use Rattle.cm_syntax.specs.Text.{is_same}
use Rattle.cm_syntax.specs.Resolution.{Variable, Scope, Use, inner_scope, function_scope, declare_items, split_scope, reserve_slots, scope_after, redeclaration, expression_uses, optional_uses, items_uses, spawn_uses, statement_uses, statements_uses, body_uses, resolve_mark, resolve_expression, resolve_optional, resolve_statement, resolve_statements, resolve_body, resolve_function}
use Rattle.cm_syntax.specs.Fault.{Variant, use_faults, functions_faults, faults, program_of, IsSoundProgram}
use Rattle.cm_syntax.proofs.StatementLaw.{If-Alone, If-Else, While-Loop, For-Loop}
use Rattle.cm_syntax.proofs.Rows.{row_of_block}
use Rattle.cm_syntax.proofs.naming.NameLaw.{Each}
use Rattle.cm_syntax.proofs.naming.SoundLaw.{nothing_first, no_fault}
use Rattle.cm_meaning.specs.Mark.{AllowsStatement, AllowsSequence, AllowsBody, HasAllowedBodies}
use Rattle.cm_meaning.proofs.TypedExpressionLaw.{Each-parts}
use Rattle.cm_meaning.proofs.TypingLaw.{resolved_at, clean_at}

-- the statements of a row are those of its list
row_allowed : (cilk : Bool) (n : _) (row : Row_of-Stmt ℕ n) → AllowsBody cilk (items-the_row-Stmt ℕ n row) → AllowsSequence cilk row
row_allowed cilk n end_of-Stmt h = tt
row_allowed cilk n (more_of-Stmt first more) h = (h.0, row_allowed cilk _ more h.1)

made_block : (cilk : Bool) (body : List (Stmt ℕ)) → AllowsBody cilk body → AllowsStatement cilk (statement.Block body)
made_block cilk body h =
    let row = row_of_block (statement.Block body) in
    row_allowed cilk row.0 row.1 (subst (AllowsBody cilk) (sym (items_hidden-the_row-Stmt-1 ℕ body)) h)

made_split : (cilk : Bool) (whole : Mark ℕ) (index : Expr ℕ) (left right : Mark ℕ) (body : List (Stmt ℕ)) (close : ℕ) → AllowsBody cilk body → AllowsStatement cilk (statement.Split whole index left right body close)
made_split cilk whole index left right body close h =
    let row = row_of_block (statement.Split whole index left right body close) in
    row_allowed cilk row.0 row.1 (subst (AllowsBody cilk) (sym (items_hidden-the_row-Stmt-1 ℕ body)) h)

module _ (functions : List (Function Name)) (f : Function Name) where
  abbrev IsClean : Use → Type 0
  IsClean u = use_faults functions f u ≡ []

  abbrev Resolved : Scope → Stmt Name → Stmt ℕ
  Resolved = resolve_statement functions

  -- a spawn's word is no fault
  spawn_allowed : (visible : List Variable) (at : ℕ) (x : Option (Mark Name)) (call : Call Name) → Each IsClean (spawn_uses visible at x call) → f.cilk ≡ true
  spawn_allowed visible at None call c = not-false f.cilk (no_fault (not f.cilk) at Variant.kind c.0)
  spawn_allowed visible at (Some x) call c = not-false f.cilk (no_fault (not f.cilk) at Variant.kind c.1.0)

  mutual
    statement_allowed : (scope : Scope) (s : Stmt Name) → Each IsClean (statement_uses scope s) → AllowsStatement f.cilk (Resolved scope s)
    statement_allowed scope statement.Empty c = tt
    statement_allowed scope (statement.Declare items) c = tt
    statement_allowed scope (statement.Assign written o value) c = tt
    statement_allowed scope (statement.Call call) c = tt
    statement_allowed scope (statement.Spawn at x call) c = spawn_allowed scope.visible at x call c
    statement_allowed scope (statement.Sync at) c = not-false f.cilk (no_fault (not f.cilk) at Variant.kind c.0)
    statement_allowed scope (IfAlone test chosen) c =
        let a = Each-parts IsClean (expression_uses scope.visible test) (statement_uses (inner_scope scope) chosen) c in
        subst (AllowsStatement f.cilk) (sym (If-Alone (resolve_expression functions scope.visible test) (Resolved (inner_scope scope) chosen))) (statement_allowed (inner_scope scope) chosen a.right)
    statement_allowed scope (IfElse test chosen other) c =
        let behind = inner_scope (reserve_slots scope chosen) in
        let a = Each-parts IsClean (expression_uses scope.visible test) (statement_uses (inner_scope scope) chosen ++ statement_uses behind other) c in
        let b = Each-parts IsClean (statement_uses (inner_scope scope) chosen) (statement_uses behind other) a.right in
        subst (AllowsStatement f.cilk) (sym (If-Else (resolve_expression functions scope.visible test) (Resolved (inner_scope scope) chosen) (Resolved behind other)))
        (statement_allowed (inner_scope scope) chosen b.left, statement_allowed behind other b.right)
    statement_allowed scope (WhileLoop test body) c =
        let a = Each-parts IsClean (expression_uses scope.visible test) (statement_uses (inner_scope scope) body) c in
        subst (AllowsStatement f.cilk) (sym (While-Loop (resolve_expression functions scope.visible test) (Resolved (inner_scope scope) body))) (statement_allowed (inner_scope scope) body a.right)
    statement_allowed scope (ForLoop first test step body) c =
        let inner = inner_scope scope in
        let header = scope_after inner first in
        let behind = inner_scope (reserve_slots header step) in
        let a = Each-parts IsClean (statement_uses inner first) (optional_uses header.visible test ++ (statement_uses header step ++ statement_uses behind body)) c in
        let b = Each-parts IsClean (optional_uses header.visible test) (statement_uses header step ++ statement_uses behind body) a.right in
        let d = Each-parts IsClean (statement_uses header step) (statement_uses behind body) b.right in
        subst (AllowsStatement f.cilk) (sym (For-Loop (Resolved inner first) (resolve_optional functions header.visible test) (Resolved header step) (Resolved behind body)))
        (statement_allowed inner first a.left, statement_allowed header step d.left, statement_allowed behind body d.right)
    statement_allowed scope (statement.Split' whole index left right _ body close) c =
        let inner = inner_scope (split_scope scope whole left right) in
        let doubled = if is_same left.name right.name then redeclaration right.at ∷ [] else [] in
        let a = Each-parts IsClean (expression_uses scope.visible index) (doubled ++ statements_uses inner body) c.1 in
        let b = Each-parts IsClean doubled (statements_uses inner body) a.right in
        made_split f.cilk (resolve_mark scope.visible whole) (resolve_expression functions scope.visible index) (record { name = scope.next_slot; at = left.at }) (record { name = scope.next_slot + 1; at = right.at })
        (resolve_statements functions inner body) close (sequence_allowed inner body b.right)
    statement_allowed scope (statement.Return at value) c = tt
    statement_allowed scope (statement.Print value) c = tt
    statement_allowed scope (statement.Block' _ body) c = made_block f.cilk (resolve_statements functions (inner_scope scope) body) (sequence_allowed (inner_scope scope) body c)

    sequence_allowed : {n : _} (scope : Scope) (row : Row_of-Stmt Name n) → Each IsClean (statements_uses scope row) → AllowsBody f.cilk (resolve_statements functions scope row)
    sequence_allowed scope end_of-Stmt c = tt
    sequence_allowed scope (more_of-Stmt first more) c =
        let a = Each-parts IsClean (statement_uses scope first) (statements_uses (scope_after scope first) more) c in
        (statement_allowed scope first a.left, sequence_allowed (scope_after scope first) more a.right)

  body_allowed : (scope : Scope) (body : List (Stmt Name)) → Each IsClean (body_uses scope body) → AllowsBody f.cilk (resolve_body functions scope body)
  body_allowed scope [] c = tt
  body_allowed scope (first ∷ more) c =
      let a = Each-parts IsClean (statement_uses scope first) (body_uses (scope_after scope first) more) c in
      (statement_allowed scope first a.left, body_allowed (scope_after scope first) more a.right)

tree_allowed : (tree : Tree) → faults tree ≡ [] → HasAllowedBodies (program_of tree)
tree_allowed tree e index function found = by (slice_get tree.functions index) refl (sym (resolved_at tree.functions 0 tree.functions index) ∙ found)
  where
    by : (z : Option (Function Name)) → slice_get tree.functions index ≡ z → option_map (resolve_function tree.functions (0 + index)) z ≡ Some function → AllowsBody function.cilk function.body
    by None i h = absurd (cc)
    by (Some f) i h =
        let is : resolve_function tree.functions (0 + index) f ≡ function = cc in
        let clean = clean_at tree.functions [] 0 tree.functions (nothing_first (functions_faults tree.functions [] 0 tree.functions) _ e) index f i in
        let scope = declare_items function_scope f.parameters in
        subst (λ (z : Function ℕ). AllowsBody z.cilk z.body) is (body_allowed tree.functions f scope f.body (Each-parts (IsClean tree.functions f) (items_uses function_scope f.parameters) (body_uses scope f.body) clean.uses).right)

-- so it is in a sound program
pub bodies_allowed : (program : Program) → IsSoundProgram program → HasAllowedBodies program
bodies_allowed program s = subst HasAllowedBodies (sym s.3) (tree_allowed s.0 s.2)
