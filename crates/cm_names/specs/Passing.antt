-- What the resolution of a function has come to at a scope, and what a piece of the function changes.
use Rattle.std.specs.Prelude.{◌≡◌, ℕ, ◌+◌, ◌<◌, ◌≤◌, nat_lt, ⊤, Bool, false, not, if◌then◌else◌, List, [], ◌∷◌, ◌++◌, length, map, Option, None, Some}
use Rattle.std.specs.List.{list_any}
use Rattle.cm_syntax.specs.declared.name.Name.{Name}
use Rattle.cm_syntax.specs.declared.expr.Mark.{Mark}
use Rattle.cm_syntax.specs.declared.stmt.Slot.{Slot}
use Rattle.cm_syntax.specs.declared.stmt.Item.{Item}
use Rattle.cm_syntax.specs.declared.stmt.Stmt.{Stmt}
use Rattle.cm_syntax.specs.declared.stmt.Stmt.TheVariants as statement
use Rattle.cm_syntax.specs.declared.stmt.Function.{Function}
use Rattle.cm_syntax.specs.Text.{is_same}
use Rattle.cm_syntax.specs.Resolution as resolution
use Rattle.cm_syntax.specs.Resolution.{Scope, Use, lookup, part_slot, inner_scope, declare_name, declare_items, split_scope, reserve_slots, scope_after, statement_slots, body_slots, statement_uses, body_uses, items_uses, redeclaration_uses, optional_uses, resolve_items, resolve_statement, resolve_body, resolve_optional}
use Rattle.cm_names.specs.declared.variable.Variable.{Variable}
use Rattle.cm_names.specs.declared.variable.Variables.{Variables}
use Rattle.cm_names.specs.declared.pass.Pass.{Pass}
use Rattle.cm_names.specs.declared.statement.Parts.{Parts}
use Rattle.cm_names.specs.Visible.{Sight, Shows, stack_of}
use Rattle.cm_names.specs.Finding.{after_uses}

-- ---- where the resolution stands

-- the slots of these variables are below the number
abbrev pub AllBelow : ℕ → Sight → Type 0
AllBelow n [] = ⊤
AllBelow n (v ∷ visible) = (v.slot < n) × AllBelow n visible

-- whether it is a variable whose slot is at least the base
abbrev pub is_since : (base : ℕ) → Option resolution.Variable → Bool
is_since base None = false
is_since base (Some v) = not (nat_lt v.slot base)

-- the same of a variable that is kept in the table
abbrev pub is_kept_since : (base : ℕ) → Option Variable → Bool
is_kept_since base None = false
is_kept_since base (Some v) = not (nat_lt v.slot base)

-- The table and the slots are those of the scope. What the scope has declared are the names whose nearest variable has a
-- slot of the base or a later one: slots grow in the order of the text, and scopes within this one have ended.
pub record At (variables : Variables) (slots : List Slot) (base : ℕ) (scope : Scope) : Type 0 where
  pub shown : Shows variables scope.visible
  pub next : scope.next_slot ≡ length slots
  pub since : (x : Name) → list_any (is_same x) scope.declared ≡ is_since base (lookup scope.visible x)
  pub below : AllBelow scope.next_slot scope.visible
  pub based : base ≤ scope.next_slot

abbrev pub IsAt : Pass → (base : ℕ) → Scope → Type 0
IsAt pass base scope = At pass.variables pass.slots base scope

-- a name was declared: it has the next slot
pub record Declares (x : Name) (kind : Slot) (old new : Pass) (slot : ℕ) : Type 0 where
  pub number : slot ≡ length old.slots
  pub slots : new.slots ≡ old.slots ++ kind ∷ []
  pub found : new.found ≡ old.found
  pub each : (y : Name) → stack_of new.variables y ≡ (if is_same x y then record { slot = slot; kind = kind } ∷ stack_of old.variables y else stack_of old.variables y)

-- a stack on which what was hidden stands again, if the stack is of its name
abbrev pub shown_again : (hidden : Option Variable) → (is_of_name : Bool) → List Variable → List Variable
shown_again None is_of_name stack = stack
shown_again (Some v) is_of_name stack = if is_of_name then v ∷ stack else stack

-- ---- what is declared in a scope, name by name

-- how many of the items have this name
abbrev pub items_count : Name → List (Item Name) → ℕ
items_count x [] = 0
items_count x (item ∷ more) = (if is_same item.name.name x then 1 else 0) + items_count x more

-- how many variables of this name are visible behind a statement, beside those before it
abbrev pub statement_count : Name → Stmt Name → ℕ
statement_count x (statement.Declare items) = items_count x items
statement_count x _ = 0

abbrev pub body_count : Name → List (Stmt Name) → ℕ
body_count x [] = 0
body_count x (first ∷ more) = statement_count x first + body_count x more

-- behind statements of one block
abbrev pub scope_behind : Scope → List (Stmt Name) → Scope
scope_behind scope [] = scope
scope_behind scope (first ∷ more) = scope_behind (scope_after scope first) more

-- behind a part whose declarations aren't visible any more, but have so many slots
abbrev pub reserve : Scope → (slots : ℕ) → Scope
reserve scope slots = record { visible = scope.visible; declared = scope.declared; next_slot = scope.next_slot + slots }

-- the slots of the parts of a split, and of its block
abbrev pub parts_slots : Scope → (whole left right : Mark Name) → List (Stmt Name) → List Slot
parts_slots scope whole left right body =
    let kind = part_slot (lookup scope.visible whole.name) in
    kind ∷ kind ∷ body_slots (inner_scope (split_scope scope whole left right)) body

-- ---- pieces of a function

-- A piece with these slots and uses was resolved, and the resolution stands behind it.
pub record Steps (functions : List (Function Name)) (f : Function Name) (base : ℕ) (slots : List Slot) (uses : List Use) (after : Scope) (old new : Pass) : Type 0 where
  pub at : IsAt new base after
  pub slots_are : new.slots ≡ old.slots ++ slots
  pub found_is : new.found ≡ after_uses functions f old.found uses

-- From each scope at which the resolution stood, the result is the piece's value, and the resolution stands behind the
-- piece.
abbrev pub Does : {Y : Type 0} → (functions : List (Function Name)) → (f : Function Name) → (base : ℕ) → (old new : Pass) → (result : Y) →
    (value : Scope → Y) → (slots : Scope → List Slot) → (uses : Scope → List Use) → (after : Scope → Scope) → Type 0
Does functions f base old new result value slots uses after =
    (scope : Scope) → IsAt old base scope → (result ≡ value scope) × Steps functions f base (slots scope) (uses scope) (after scope) old new

module _ (functions : List (Function Name)) (f : Function Name) where
  -- something without declarations, which is seen by its uses alone
  abbrev pub Reads : {Y : Type 0} → (old new : Pass) → (result : Y) → (value : Sight → Y) → (uses : Sight → List Use) → Type 0
  Reads old new result value uses =
      (base : ℕ) → Does functions f base old new result (λ scope. value scope.visible) (λ scope. []) (λ scope. uses scope.visible) (λ scope. scope)

  -- an item
  abbrev pub DoesItem : (base : ℕ) → Item Name → (old new : Pass) → Item ℕ → Type 0
  DoesItem base item old new result = Does functions f base old new result
      (λ scope. record { name = record { name = scope.next_slot; at = item.name.at }; slot = item.slot; first = resolve_optional functions scope.visible item.first })
      (λ scope. item.slot ∷ []) (λ scope. redeclaration_uses scope item.name ++ optional_uses scope.visible item.first)
      (λ scope. declare_name scope item.name item.slot)

  -- items
  abbrev pub DoesItems : (base : ℕ) → List (Item Name) → (old new : Pass) → List (Item ℕ) → Type 0
  DoesItems base items old new result = Does functions f base old new result
      (λ scope. resolve_items functions scope items) (λ scope. map (λ item. item.slot) items) (λ scope. items_uses scope items)
      (λ scope. declare_items scope items)

  -- a statement
  abbrev pub DoesStatement : (base : ℕ) → Stmt Name → (old new : Pass) → Stmt ℕ → Type 0
  DoesStatement base s old new result = Does functions f base old new result
      (λ scope. resolve_statement functions scope s) (λ scope. statement_slots scope s) (λ scope. statement_uses scope s)
      (λ scope. scope_after scope s)

  -- a statement whose declarations are taken back
  abbrev pub PassesStatement : (base : ℕ) → Stmt Name → (old new : Pass) → Stmt ℕ → Type 0
  PassesStatement base s old new result = Does functions f base old new result
      (λ scope. resolve_statement functions scope s) (λ scope. statement_slots scope s) (λ scope. statement_uses scope s)
      (λ scope. reserve_slots scope s)

  -- a statement that declares nothing in the scope that it stands in
  abbrev pub DoesOwn : Stmt Name → (old new : Pass) → Stmt ℕ → Type 0
  DoesOwn s old new result = (base : ℕ) → PassesStatement base s old new result

  -- a statement in a scope of its own
  abbrev pub PassesInner : Stmt Name → (old new : Pass) → Stmt ℕ → Type 0
  PassesInner s old new result = (base : ℕ) → Does functions f base old new result
      (λ scope. resolve_statement functions (inner_scope scope) s) (λ scope. statement_slots (inner_scope scope) s)
      (λ scope. statement_uses (inner_scope scope) s) (λ scope. reserve_slots scope s)

  -- statements of one block
  abbrev pub DoesBody : (base : ℕ) → List (Stmt Name) → (old new : Pass) → List (Stmt ℕ) → Type 0
  DoesBody base body old new result = Does functions f base old new result
      (λ scope. resolve_body functions scope body) (λ scope. body_slots scope body) (λ scope. body_uses scope body)
      (λ scope. scope_behind scope body)

  -- a block, whose statements are in a scope of its own
  abbrev pub PassesBlock : List (Stmt Name) → (old new : Pass) → List (Stmt ℕ) → Type 0
  PassesBlock body old new result = (base : ℕ) → Does functions f base old new result
      (λ scope. resolve_body functions (inner_scope scope) body) (λ scope. body_slots (inner_scope scope) body)
      (λ scope. body_uses (inner_scope scope) body) (λ scope. reserve scope (length (body_slots (inner_scope scope) body)))

  -- the parts of a split and its block
  abbrev pub PassesParts : (whole left right : Mark Name) → List (Stmt Name) → (old new : Pass) → Parts → Type 0
  PassesParts whole left right body old new result = (base : ℕ) → Does functions f base old new result
      (λ scope. record {
        left = record { name = scope.next_slot; at = left.at };
        right = record { name = scope.next_slot + 1; at = right.at };
        body = resolve_body functions (inner_scope (split_scope scope whole left right)) body;
      })
      (λ scope. parts_slots scope whole left right body)
      (λ scope. body_uses (inner_scope (split_scope scope whole left right)) body)
      (λ scope. reserve scope (length (parts_slots scope whole left right body)))
