-- Pieces of a function, one after another.
use Rattle.std.proofs.Common.{◌≡◌, ℕ, ◌+◌, ◌<◌, ◌≤◌, List, [], ◌∷◌, ◌++◌, length, drop, get_or, Option, Result, Ok, Err, IfOk, refl, sym, ap, ◌∙◌, subst, append_assoc, append-nil}
use Rattle.std.specs.Prelude.{map}
use Rattle.std.proofs.lemmas.List.{at_drop_all}
use Rattle.std.proofs.lemmas.List.Sums.{fold-append}
use Rattle.cm_text.specs.declared.error.Memory.{Memory}
use Rattle.cm_syntax.specs.declared.name.Name.{Name}
use Rattle.cm_syntax.specs.declared.expr.Mark.{Mark}
use Rattle.cm_syntax.specs.declared.expr.Expr.{Expr}
use Rattle.cm_syntax.specs.declared.stmt.Slot.{Slot}
use Rattle.cm_syntax.specs.declared.stmt.Item.{Item}
use Rattle.cm_syntax.specs.declared.stmt.Stmt.{Stmt}
use Rattle.cm_syntax.specs.declared.stmt.Function.{Function}
use Rattle.cm_syntax.specs.Resolution.{Scope, Use, declare_name, declare_items, slot_count, reserve_slots, scope_after, statement_slots, statement_uses, body_slots, body_uses, items_uses, redeclaration_uses, optional_uses, resolve_items, resolve_statement, resolve_body, resolve_optional}
use Rattle.cm_syntax.proofs.FrameLaw.{next}
use Rattle.cm_syntax.proofs.naming.NameLaw.{slots_counted}
use Rattle.cm_names.specs.declared.pass.Pass.{Pass}
use Rattle.cm_names.specs.Visible.{Shows}
use Rattle.cm_names.specs.Finding.{after_use, after_uses}
use Rattle.cm_names.specs.Passing.{IsAt, Declares, Steps, Does, Reads, DoesItem, DoesItems, DoesStatement, DoesBody, reserve, scope_behind}
use Rattle.cm_names.proofs.ScopeLaw.{at_declared, at_reserved}

-- a fact of a result that comes only with `Ok`
pub if_ok : {Y : Type 0} (P Q : Y → Type 0) (r : Result Y Memory) → ((y : Y) → P y → Q y) → IfOk r P → IfOk r Q
if_ok P Q (Ok y) f h = f y h
if_ok P Q (Err e) f h = tt

module _ (functions : List (Function Name)) (f : Function Name) (base : ℕ) where
  -- two pieces
  pub joined : (s t : List Slot) (u v : List Use) (mid after : Scope) (old now new : Pass) → Steps functions f base s u mid old now → Steps functions f base t v after now new →
      Steps functions f base (s ++ t) (u ++ v) after old new
  joined s t u v mid after old now new first second = record {
    at = second.at;
    slots_are = second.slots_are ∙ (ap (λ x. x ++ t) first.slots_are ∙ append_assoc old.slots s t);
    found_is = second.found_is ∙ (ap (λ x. after_uses functions f x v) first.found_is ∙ sym (fold-append (after_use functions f) old.found u v));
  }

  -- a piece, and then the declaration of a name
  pub declared : (s : List Slot) (u : List Use) (scope : Scope) (old now new : Pass) (x : Mark Name) (kind : Slot) (slot : ℕ) → Steps functions f base s u scope old now →
      Declares x.name kind now new slot → Steps functions f base (s ++ kind ∷ []) u (declare_name scope x kind) old new
  declared s u scope old now new x kind slot first d = record {
    at = at_declared now new base slot scope x kind d first.at;
    slots_are = d.slots ∙ (ap (λ x. x ++ kind ∷ []) first.slots_are ∙ append_assoc old.slots s (kind ∷ []));
    found_is = d.found ∙ first.found_is;
  }

  -- a piece whose declarations aren't visible any more
  pub reserved : (scope : Scope) (slots : List Slot) (uses : List Use) (n : ℕ) (old new : Pass) → IsAt old base scope → new.slots ≡ old.slots ++ slots →
      new.found ≡ after_uses functions f old.found uses → length slots ≡ n → Shows new.variables scope.visible →
      Steps functions f base slots uses (reserve scope n) old new
  reserved scope slots uses n old new at slots_are found_is count shown = record {
    at = at_reserved old.variables new.variables old.slots slots new.slots base n scope at slots_are count shown;
    slots_are = slots_are;
    found_is = found_is;
  }

  -- a statement whose declarations aren't visible any more
  pub own : (scope : Scope) (s : Stmt Name) (other : ℕ) (mid : Scope) (old new : Pass) → IsAt old base scope →
      Steps functions f other (statement_slots scope s) (statement_uses scope s) mid old new → Shows new.variables scope.visible →
      Steps functions f base (statement_slots scope s) (statement_uses scope s) (reserve_slots scope s) old new
  own scope s other mid old new at steps shown =
      reserved scope (statement_slots scope s) (statement_uses scope s) (slot_count s) old new at steps.slots_are steps.found_is (slots_counted scope s) shown

  -- the same in which another table of variables takes the place of that of the pieces
  pub own_after : (scope : Scope) (s : Stmt Name) (other : ℕ) (mid : Scope) (old now new : Pass) → IsAt old base scope →
      Steps functions f other (statement_slots scope s) (statement_uses scope s) mid old now → new.slots ≡ now.slots → new.found ≡ now.found →
      Shows new.variables scope.visible → Steps functions f base (statement_slots scope s) (statement_uses scope s) (reserve_slots scope s) old new
  own_after scope s other mid old now new at steps slots found shown =
      reserved scope (statement_slots scope s) (statement_uses scope s) (slot_count s) old new at (slots ∙ steps.slots_are) (found ∙ steps.found_is) (slots_counted scope s) shown

-- ---- lists

module _ {X Y : Type 0} (after : Scope → X → Scope) (slots : Scope → X → List Slot) (uses : Scope → X → List Use) (value : Scope → X → Y) where
  abbrev pub walk_after : Scope → List X → Scope
  walk_after scope [] = scope
  walk_after scope (x ∷ xs) = walk_after (after scope x) xs

  abbrev pub walk_slots : Scope → List X → List Slot
  walk_slots scope [] = []
  walk_slots scope (x ∷ xs) = slots scope x ++ walk_slots (after scope x) xs

  abbrev pub walk_uses : Scope → List X → List Use
  walk_uses scope [] = []
  walk_uses scope (x ∷ xs) = uses scope x ++ walk_uses (after scope x) xs

  abbrev pub walk_values : Scope → List X → List Y
  walk_values scope [] = []
  walk_values scope (x ∷ xs) = value scope x ∷ walk_values (after scope x) xs

  module _ (functions : List (Function Name)) (f : Function Name) (base : ℕ) where
    -- with the pieces that are left, what was resolved comes to the whole
    pub record LeftAt (scope : Scope) (all left : List X) (old new : Pass) (made : List Y) : Type 0 where
      pub now : Scope
      pub at : IsAt new base now
      pub behind : walk_after now left ≡ walk_after scope all
      pub slots_are : new.slots ++ walk_slots now left ≡ old.slots ++ walk_slots scope all
      pub found_is : after_uses functions f new.found (walk_uses now left) ≡ after_uses functions f old.found (walk_uses scope all)
      pub values_are : made ++ walk_values now left ≡ walk_values scope all

    abbrev pub Left : (all left : List X) → (old new : Pass) → (made : List Y) → Type 0
    Left all left old new made = (scope : Scope) → IsAt old base scope → LeftAt scope all left old new made

    pub walk_init : (all : List X) (old : Pass) (made : List Y) → made ≡ [] → Left all all old old made
    walk_init all old made none scope at = record {
      now = scope;
      at = at;
      behind = refl;
      slots_are = refl;
      found_is = refl;
      values_are = ap (λ t. t ++ walk_values scope all) none;
    }

    pub walk_step : (all : List X) (i : ℕ) (x : X) (old mid new : Pass) (made grown : List Y) (y : Y) → i < length all → x ≡ get_or all i x →
        Left all (drop i all) old mid made → Does functions f base mid new y (λ scope. value scope x) (λ scope. slots scope x) (λ scope. uses scope x) (λ scope. after scope x) →
        grown ≡ made ++ y ∷ [] → Left all (drop (i + 1) all) old new grown
    walk_step all i x old mid new made grown y lt is left does more scope at =
        let rest = drop (i + 1) all in
        let before : LeftAt scope all (x ∷ rest) old mid made = subst (λ (xs : List X). LeftAt scope all xs old mid made) (next all i x lt is) (left scope at) in
        let now = before.now in
        let step = does now before.at in
        record {
          now = after now x;
          at = step.1.at;
          behind = before.behind;
          slots_are = ap (λ t. t ++ walk_slots (after now x) rest) step.1.slots_are ∙ (append_assoc mid.slots (slots now x) (walk_slots (after now x) rest) ∙ before.slots_are);
          found_is = ap (λ t. after_uses functions f t (walk_uses (after now x) rest)) step.1.found_is ∙
              (sym (fold-append (after_use functions f) mid.found (uses now x) (walk_uses (after now x) rest)) ∙ before.found_is);
          values_are = ap (λ t. t ++ walk_values (after now x) rest) more ∙ (append_assoc made (y ∷ []) (walk_values (after now x) rest) ∙
              (ap (λ v. made ++ v ∷ walk_values (after now x) rest) step.0 ∙ before.values_are));
        }

    pub walk_end : (all : List X) (i : ℕ) (old new : Pass) (made : List Y) → length all ≤ i → Left all (drop i all) old new made →
        Does functions f base old new made (λ scope. walk_values scope all) (λ scope. walk_slots scope all) (λ scope. walk_uses scope all) (λ scope. walk_after scope all)
    walk_end all i old new made le left scope at =
        let none : drop i all ≡ [] = at_drop_all (λ (xs : List X). xs) all i le in
        let last : LeftAt scope all [] old new made = subst (λ (xs : List X). LeftAt scope all xs old new made) none (left scope at) in (
          sym (append-nil made) ∙ last.values_are,
          record {
            at = subst (λ s. IsAt new base s) last.behind last.at;
            slots_are = sym (append-nil new.slots) ∙ last.slots_are;
            found_is = last.found_is;
          },
        )

-- ---- items and statements as such lists

module _ (functions : List (Function Name)) where
  abbrev pub item_after : Scope → Item Name → Scope
  item_after scope item = declare_name scope item.name item.slot

  abbrev pub item_slots : Scope → Item Name → List Slot
  item_slots scope item = item.slot ∷ []

  abbrev pub item_uses : Scope → Item Name → List Use
  item_uses scope item = redeclaration_uses scope item.name ++ optional_uses scope.visible item.first

  abbrev pub item_value : Scope → Item Name → Item ℕ
  item_value scope item = record { name = record { name = scope.next_slot; at = item.name.at }; slot = item.slot; first = resolve_optional functions scope.visible item.first }

  abbrev pub ItemsLeft : (f : Function Name) → (base : ℕ) → (all left : List (Item Name)) → (old new : Pass) → List (Item ℕ) → Type 0
  ItemsLeft f base = Left item_after item_slots item_uses item_value functions f base

  items_after : (scope : Scope) (items : List (Item Name)) → walk_after item_after item_slots item_uses item_value scope items ≡ declare_items scope items
  items_after scope [] = refl
  items_after scope (item ∷ more) = items_after (item_after scope item) more

  items_slots : (scope : Scope) (items : List (Item Name)) → walk_slots item_after item_slots item_uses item_value scope items ≡ map (λ item. item.slot) items
  items_slots scope [] = refl
  items_slots scope (item ∷ more) = ap (λ t. item.slot ∷ t) (items_slots (item_after scope item) more)

  uses_of_items : (scope : Scope) (items : List (Item Name)) → walk_uses item_after item_slots item_uses item_value scope items ≡ items_uses scope items
  uses_of_items scope [] = refl
  uses_of_items scope (item ∷ more) =
      ap (λ t. item_uses scope item ++ t) (uses_of_items (item_after scope item) more) ∙
      append_assoc (redeclaration_uses scope item.name) (optional_uses scope.visible item.first) (items_uses (item_after scope item) more)

  items_values : (scope : Scope) (items : List (Item Name)) → walk_values item_after item_slots item_uses item_value scope items ≡ resolve_items functions scope items
  items_values scope [] = refl
  items_values scope (item ∷ more) = ap (λ t. item_value scope item ∷ t) (items_values (item_after scope item) more)

  pub items_init : (f : Function Name) (base : ℕ) (all : List (Item Name)) (old : Pass) (made : List (Item ℕ)) → made ≡ [] → ItemsLeft f base all all old old made
  items_init f base = walk_init item_after item_slots item_uses item_value functions f base

  pub items_step : (f : Function Name) (base : ℕ) (all : List (Item Name)) (i : ℕ) (item : Item Name) (old mid new : Pass) (made grown : List (Item ℕ)) (y : Item ℕ) → i < length all → item ≡ get_or all i item →
      ItemsLeft f base all (drop i all) old mid made → DoesItem functions f base item mid new y → grown ≡ made ++ y ∷ [] → ItemsLeft f base all (drop (i + 1) all) old new grown
  items_step f base = walk_step item_after item_slots item_uses item_value functions f base

  -- an item: the test of its name, its value, and its declaration
  pub does_item : (f : Function Name) (base : ℕ) (item : Item Name) (old noted read new : Pass) (first : Option (Expr ℕ)) (slot : ℕ) →
      ((scope : Scope) → IsAt old base scope → Steps functions f base [] (redeclaration_uses scope item.name) scope old noted) →
      Reads functions f noted read first (λ visible. resolve_optional functions visible item.first) (λ visible. optional_uses visible item.first) →
      Declares item.name.name item.slot read new slot →
      DoesItem functions f base item old new (record { name = record { name = slot; at = item.name.at }; slot = item.slot; first = first })
  does_item f base item old noted read new first slot note reads d scope at =
      let noted_is = note scope at in
      let read_is = reads base scope noted_is.at in
      let both = joined functions f base [] [] (redeclaration_uses scope item.name) (optional_uses scope.visible item.first) scope scope old noted read noted_is read_is.1 in
      let number : slot ≡ scope.next_slot = d.number ∙ sym both.at.next in (
        ap (λ n. record { name = record { name = n; at = item.name.at }; slot = item.slot; first = first }) number ∙
            ap (λ e. record { name = record { name = scope.next_slot; at = item.name.at }; slot = item.slot; first = e }) read_is.0,
        declared functions f base [] (redeclaration_uses scope item.name ++ optional_uses scope.visible item.first) scope old read new item.name item.slot slot both d,
      )

  pub items_end : (f : Function Name) (base : ℕ) (all : List (Item Name)) (i : ℕ) (old new : Pass) (made : List (Item ℕ)) → length all ≤ i →
      ItemsLeft f base all (drop i all) old new made → DoesItems functions f base all old new made
  items_end f base all i old new made le left scope at =
      let does = walk_end item_after item_slots item_uses item_value functions f base all i old new made le left scope at in (
        does.0 ∙ items_values scope all,
        record {
          at = subst (λ s. IsAt new base s) (items_after scope all) does.1.at;
          slots_are = does.1.slots_are ∙ ap (λ t. old.slots ++ t) (items_slots scope all);
          found_is = does.1.found_is ∙ ap (λ t. after_uses functions f old.found t) (uses_of_items scope all);
        },
      )

  abbrev pub BodyLeft : (f : Function Name) → (base : ℕ) → (all left : List (Stmt Name)) → (old new : Pass) → List (Stmt ℕ) → Type 0
  BodyLeft f base = Left scope_after statement_slots statement_uses (resolve_statement functions) functions f base

  body_after : (scope : Scope) (body : List (Stmt Name)) → walk_after scope_after statement_slots statement_uses (resolve_statement functions) scope body ≡ scope_behind scope body
  body_after scope [] = refl
  body_after scope (first ∷ more) = body_after (scope_after scope first) more

  slots_of_body : (scope : Scope) (body : List (Stmt Name)) → walk_slots scope_after statement_slots statement_uses (resolve_statement functions) scope body ≡ body_slots scope body
  slots_of_body scope [] = refl
  slots_of_body scope (first ∷ more) = ap (λ t. statement_slots scope first ++ t) (slots_of_body (scope_after scope first) more)

  uses_of_body : (scope : Scope) (body : List (Stmt Name)) → walk_uses scope_after statement_slots statement_uses (resolve_statement functions) scope body ≡ body_uses scope body
  uses_of_body scope [] = refl
  uses_of_body scope (first ∷ more) = ap (λ t. statement_uses scope first ++ t) (uses_of_body (scope_after scope first) more)

  body_values : (scope : Scope) (body : List (Stmt Name)) → walk_values scope_after statement_slots statement_uses (resolve_statement functions) scope body ≡ resolve_body functions scope body
  body_values scope [] = refl
  body_values scope (first ∷ more) = ap (λ t. resolve_statement functions scope first ∷ t) (body_values (scope_after scope first) more)

  pub body_step : (f : Function Name) (base : ℕ) (all : List (Stmt Name)) (i : ℕ) (s : Stmt Name) (old mid new : Pass) (made grown : List (Stmt ℕ)) (y : Stmt ℕ) → i < length all → s ≡ get_or all i s →
      BodyLeft f base all (drop i all) old mid made → DoesStatement functions f base s mid new y → grown ≡ made ++ y ∷ [] → BodyLeft f base all (drop (i + 1) all) old new grown
  body_step f base = walk_step scope_after statement_slots statement_uses (resolve_statement functions) functions f base

  pub body_end : (f : Function Name) (base : ℕ) (all : List (Stmt Name)) (i : ℕ) (old new : Pass) (made : List (Stmt ℕ)) → length all ≤ i →
      BodyLeft f base all (drop i all) old new made → DoesBody functions f base all old new made
  body_end f base all i old new made le left scope at =
      let does = walk_end scope_after statement_slots statement_uses (resolve_statement functions) functions f base all i old new made le left scope at in (
        does.0 ∙ body_values scope all,
        record {
          at = subst (λ s. IsAt new base s) (body_after scope all) does.1.at;
          slots_are = does.1.slots_are ∙ ap (λ t. old.slots ++ t) (slots_of_body scope all);
          found_is = does.1.found_is ∙ ap (λ t. after_uses functions f old.found t) (uses_of_body scope all);
        },
      )
