-- Scopes, and the table of variables that stands for what is visible in them.
use Rattle.std.proofs.Common.{◌≡◌, ℕ, suc, ◌+◌, ◌<◌, ◌≤◌, Bool, true, false, cond, ◌||◌, not, if◌then◌else◌, List, [], ◌∷◌, ◌++◌, length, drop, get_or, Option, None, Some, unwrap_or, refl, sym, ap, ◌∙◌, length-append, arith}
use Rattle.std.specs.Prelude.{nat_lt}
use Rattle.std.specs.List.{list_any}
use Rattle.std.proofs.lemmas.List.{drop-drop, at_drop_all}
use Rattle.std.proofs.lemmas.Bool.{true≢false}
use Rattle.std.proofs.lemmas.Bool.Decides.{nat_tests}
use Rattle.std.proofs.lemmas.Cmp.{nat_list_eq_equiv}
use Rattle.cm_syntax.specs.declared.name.Name.{Name}
use Rattle.cm_syntax.specs.declared.expr.Mark.{Mark}
use Rattle.cm_syntax.specs.declared.stmt.Slot.{Slot}
use Rattle.cm_syntax.specs.declared.stmt.Item.{Item}
use Rattle.cm_syntax.specs.declared.stmt.Stmt.{Stmt}
use Rattle.cm_syntax.specs.declared.stmt.Stmt.TheVariants as statement
use Rattle.cm_syntax.specs.Text.{is_same}
use Rattle.cm_syntax.specs.Resolution as resolution
use Rattle.cm_syntax.specs.Resolution.{Scope, lookup, hide, inner_scope, declare_name, declare_items, scope_after}
use Rattle.cm_syntax.proofs.FrameLaw.{next}
use Rattle.cm_syntax.proofs.lexing.Spelling.{is_same-equal}
use Rattle.cm_names.specs.declared.variable.Variable.{Variable}
use Rattle.cm_names.specs.declared.variable.Variables.{Variables}
use Rattle.cm_names.specs.declared.pass.Pass.{Pass}
use Rattle.cm_names.specs.Visible.{Sight, Shows, kept_of, of_name, stack_of, top, below_top}
use Rattle.cm_names.specs.Passing.{AllBelow, is_since, At, IsAt, Declares, reserve, items_count, statement_count, body_count, scope_behind, shown_again}

-- ---- slots

below_more : (m n : ℕ) (visible : Sight) → m ≤ n → AllBelow m visible → AllBelow n visible
below_more m n [] le h = tt
below_more m n (v ∷ visible) le h = (omega (arith, h.0), below_more m n visible le h.1)

lt_test : (m n : ℕ) → m < n → not (nat_lt m n) ≡ false
lt_test m n lt = grind (arith, nat_tests)

le_test : (m n : ℕ) → n ≤ m → not (nat_lt m n) ≡ true
le_test m n le = grind (arith, nat_tests)

-- no visible variable has a later slot
found_below : (n : ℕ) (visible : Sight) (x : Name) → AllBelow n visible → is_since n (lookup visible x) ≡ false
found_below n [] x h = refl
found_below n (v ∷ visible) x h = by_test (is_same v.name x) (found_below n visible x h.1)
  where
    by_test : (b : Bool) → is_since n (lookup visible x) ≡ false → is_since n (cond b (Some v) (lookup visible x)) ≡ false
    by_test true more = lt_test v.slot n h.0
    by_test false more = more

-- ---- where the resolution stands

-- at the beginning of a scope within this one
pub at_inner : (variables : Variables) (slots : List Slot) (base : ℕ) (scope : Scope) → At variables slots base scope →
    At variables slots scope.next_slot (inner_scope scope)
at_inner variables slots base scope h = record {
  shown = h.shown;
  next = h.next;
  since = λ x. sym (found_below scope.next_slot scope.visible x h.below);
  below = h.below;
  based = omega arith;
}

-- behind a part whose declarations aren't visible any more
pub at_reserved : (variables later : Variables) (slots more after : List Slot) (base n : ℕ) (scope : Scope) → At variables slots base scope →
    after ≡ slots ++ more → length more ≡ n → Shows later scope.visible → At later after base (reserve scope n)
at_reserved variables later slots more after base n scope h is count shown = record {
  shown = shown;
  next = omega (arith, h.next, ap length is, length-append slots more, count);
  since = h.since;
  below = below_more scope.next_slot (scope.next_slot + n) scope.visible (omega arith) h.below;
  based = omega (arith, h.based);
}

-- behind the declaration of a name
pub at_declared : (old new : Pass) (base slot : ℕ) (scope : Scope) (x : Mark Name) (kind : Slot) → Declares x.name kind old new slot →
    IsAt old base scope → IsAt new base (declare_name scope x kind)
at_declared old new base slot scope x kind d h =
    let v : resolution.Variable = record { name = x.name; slot = scope.next_slot; kind = kind } in
    let number : slot ≡ scope.next_slot = d.number ∙ sym h.next in
    record {
      shown = record {
        each = λ y. d.each y ∙
            (ap (λ n. if is_same x.name y then record { slot = n; kind = kind } ∷ stack_of old.variables y else stack_of old.variables y) number ∙
            ap (λ stack. if is_same x.name y then kept_of v ∷ stack else stack) (h.shown.each y));
      };
      next = omega (arith, h.next, ap length d.slots, length-append old.slots (kind ∷ []));
      since = λ y. ap (λ b. b || list_any (is_same y) scope.declared) (nat_list_eq_equiv.symm y x.name) ∙ by_test y (is_same x.name y);
      below = (omega arith, below_more scope.next_slot (scope.next_slot + 1) scope.visible (omega arith) h.below);
      based = omega (arith, h.based);
    }
  where
    by_test : (y : Name) (b : Bool) → (b || list_any (is_same y) scope.declared) ≡
        is_since base (cond b (Some (record { name = x.name; slot = scope.next_slot; kind = kind })) (lookup scope.visible y))
    by_test y true = sym (le_test scope.next_slot base h.based)
    by_test y false = h.since y

-- ---- taking back

drop_one : (b : Bool) (n : ℕ) (v : Variable) (stack : List Variable) → drop (n + (if b then 1 else 0)) (if b then v ∷ stack else stack) ≡ drop n stack
drop_one true n v stack = let e : n + 1 ≡ suc n = omega arith in rw e refl
drop_one false n v stack = let e : n + 0 ≡ n = omega arith in rw e refl

items_back : (x : Name) (scope : Scope) (items : List (Item Name)) (n : ℕ) →
    drop (n + items_count x items) (of_name (declare_items scope items).visible x) ≡ drop n (of_name scope.visible x)
items_back x scope [] n = let e : n + 0 ≡ n = omega arith in rw e refl
items_back x scope (item ∷ more) n =
    let b = is_same item.name.name x in
    let one : ℕ = if b then 1 else 0 in
    let e : n + (one + items_count x more) ≡ (n + one) + items_count x more = omega arith in
    rw e (items_back x (declare_name scope item.name item.slot) more (n + one) ∙
    drop_one b n (record { slot = scope.next_slot; kind = item.slot }) (of_name scope.visible x))

statement_back : (x : Name) (scope : Scope) (s : Stmt Name) (n : ℕ) →
    drop (n + statement_count x s) (of_name (scope_after scope s).visible x) ≡ drop n (of_name scope.visible x)
statement_back x scope (statement.Declare items) n = items_back x scope items n
statement_back x scope _ n = let e : n + 0 ≡ n = omega arith in rw e refl

body_back : (x : Name) (scope : Scope) (body : List (Stmt Name)) (n : ℕ) →
    drop (n + body_count x body) (of_name (scope_behind scope body).visible x) ≡ drop n (of_name scope.visible x)
body_back x scope [] n = let e : n + 0 ≡ n = omega arith in rw e refl
body_back x scope (first ∷ more) n =
    let e : n + (statement_count x first + body_count x more) ≡ (n + statement_count x first) + body_count x more = omega arith in
    rw e (body_back x (scope_after scope first) more (n + statement_count x first) ∙ statement_back x scope first n)

from_zero : (c : ℕ) (stack rest : List Variable) → drop (0 + c) stack ≡ rest → drop c stack ≡ rest
from_zero c stack rest h = let e : 0 + c ≡ c = omega arith in rw (← e) h

-- a name is taken back as often as the list has it
one_back : (b : Bool) (stack : List Variable) → (if b then below_top stack else stack) ≡ drop (if b then 1 else 0) stack
one_back true [] = refl
one_back true (v ∷ stack) = refl
one_back false stack = refl

-- a list whose items are taken back one after another
module _ {X : Type 0} (count : List X → ℕ) (one : X → ℕ) where
  pub record Counts : Type 0 where
    pub none : count [] ≡ 0
    pub more : (x : X) (xs : List X) → count (x ∷ xs) ≡ one x + count xs

  pub taken_step : Counts → (xs : List X) (i : ℕ) (x : X) (old new whole : List Variable) → i < length xs → x ≡ get_or xs i x →
      drop (count (drop i xs)) old ≡ whole → new ≡ drop (one x) old → drop (count (drop (i + 1) xs)) new ≡ whole
  taken_step h xs i x old new whole lt is all taken =
      ap (drop (count (drop (i + 1) xs))) taken ∙ (drop-drop (count (drop (i + 1) xs)) (one x) old ∙
      (ap (λ n. drop n old) (sym (ap count (next xs i x lt is) ∙ h.more x (drop (i + 1) xs))) ∙ all))

  pub taken_end : Counts → (xs : List X) (i : ℕ) (old whole : List Variable) → length xs ≤ i → drop (count (drop i xs)) old ≡ whole → old ≡ whole
  taken_end h xs i old whole le all = sym (ap (λ n. drop n old) (at_drop_all count xs i le ∙ h.none)) ∙ all

pub items_step : (x : Name) (items : List (Item Name)) (i : ℕ) (item : Item Name) (old new whole : List Variable) → i < length items → item ≡ get_or items i item →
    drop (items_count x (drop i items)) old ≡ whole → new ≡ (if is_same item.name.name x then below_top old else old) →
    drop (items_count x (drop (i + 1) items)) new ≡ whole
items_step x items i item old new whole lt is all taken =
    taken_step (items_count x) (λ item. if is_same item.name.name x then 1 else 0) (record { none = refl; more = λ _ _. refl }) items i item old new whole lt is all
    (taken ∙ one_back (is_same item.name.name x) old)

pub items_end : (x : Name) (items : List (Item Name)) (i : ℕ) (old whole : List Variable) → length items ≤ i →
    drop (items_count x (drop i items)) old ≡ whole → old ≡ whole
items_end x = taken_end (items_count x) (λ item. if is_same item.name.name x then 1 else 0) (record { none = refl; more = λ _ _. refl })

pub body_step : (x : Name) (body : List (Stmt Name)) (i : ℕ) (s : Stmt Name) (old new whole : List Variable) → i < length body → s ≡ get_or body i s →
    drop (body_count x (drop i body)) old ≡ whole → new ≡ drop (statement_count x s) old → drop (body_count x (drop (i + 1) body)) new ≡ whole
body_step x = taken_step (body_count x) (statement_count x) (record { none = refl; more = λ _ _. refl })

pub body_end : (x : Name) (body : List (Stmt Name)) (i : ℕ) (old whole : List Variable) → length body ≤ i →
    drop (body_count x (drop i body)) old ≡ whole → old ≡ whole
body_end x = taken_end (body_count x) (statement_count x) (record { none = refl; more = λ _ _. refl })

-- what a statement has declared was taken back
pub statement_taken_back : (old new : Variables) (scope : Scope) (s : Stmt Name) → Shows old (scope_after scope s).visible →
    ((x : Name) → stack_of new x ≡ drop (statement_count x s) (stack_of old x)) → Shows new scope.visible
statement_taken_back old new scope s h taken = record {
  each = λ x. taken x ∙ (ap (drop (statement_count x s)) (h.each x) ∙ from_zero (statement_count x s) _ _ (statement_back x scope s 0));
}

pub body_taken_back : (old new : Variables) (scope : Scope) (body : List (Stmt Name)) → Shows old (scope_behind scope body).visible →
    ((x : Name) → stack_of new x ≡ drop (body_count x body) (stack_of old x)) → Shows new scope.visible
body_taken_back old new scope body h taken = record {
  each = λ x. taken x ∙ (ap (drop (body_count x body)) (h.each x) ∙ from_zero (body_count x body) _ _ (body_back x scope body 0));
}

-- the nearest variable was taken out
pub top_taken_back : (old new : Variables) (v : resolution.Variable) (visible : Sight) → Shows old (v ∷ visible) →
    ((x : Name) → stack_of new x ≡ (if is_same v.name x then below_top (stack_of old x) else stack_of old x)) → Shows new visible
top_taken_back old new v visible h taken = record {
  each = λ x.
      taken x ∙ (ap (λ stack. if is_same v.name x then below_top stack else stack) (h.each x) ∙ by_test x (is_same v.name x));
}
  where
    by_test : (x : Name) (b : Bool) → (if b then below_top (if b then kept_of v ∷ of_name visible x else of_name visible x) else (if b then kept_of v ∷ of_name visible x else of_name visible x)) ≡ of_name visible x
    by_test x true = refl
    by_test x false = refl

-- ---- hiding

of_hidden : (x : Name) (visible : Sight) (y : Name) → of_name (hide x visible) y ≡ (if is_same x y then below_top (of_name visible y) else of_name visible y)
of_hidden x [] y = by_test (is_same x y)
  where
    by_test : (b : Bool) → of_name [] y ≡ (if b then below_top (of_name [] y) else of_name [] y)
    by_test true = refl
    by_test false = refl
of_hidden x (v ∷ visible) y = by_test (is_same v.name x) (is_same x y) (is_same v.name y) refl refl refl (of_hidden x visible y)
  where
    by_test : (a b c : Bool) → is_same v.name x ≡ a → is_same x y ≡ b → is_same v.name y ≡ c →
        of_name (hide x visible) y ≡ (if is_same x y then below_top (of_name visible y) else of_name visible y) →
        of_name (if a then visible else v ∷ hide x visible) y ≡
        (if b then below_top (if c then kept_of v ∷ of_name visible y else of_name visible y) else (if c then kept_of v ∷ of_name visible y else of_name visible y))
    by_test true true true h i j more = refl
    by_test true false false h i j more = refl
    by_test true true false h i j more = absurd (true≢false (sym i ∙ (sym (nat_list_eq_equiv.congr v.name x y h) ∙ j)))
    by_test true false true h i j more = absurd (true≢false (sym j ∙ (nat_list_eq_equiv.congr v.name x y h ∙ i)))
    by_test false true true h i j more =
        absurd (true≢false (sym i ∙ (nat_list_eq_equiv.symm x y ∙ (sym (nat_list_eq_equiv.congr v.name y x j) ∙ h))))
    by_test false true false h i j more =
        ap (λ t. if t then kept_of v ∷ of_name (hide x visible) y else of_name (hide x visible) y) j ∙
        (more ∙ ap (λ t. if t then below_top (of_name visible y) else of_name visible y) i)
    by_test false false true h i j more =
        ap (λ t. if t then kept_of v ∷ of_name (hide x visible) y else of_name (hide x visible) y) j ∙
        ap (λ stack. kept_of v ∷ stack) (more ∙ ap (λ t. if t then below_top (of_name visible y) else of_name visible y) i)
    by_test false false false h i j more =
        ap (λ t. if t then kept_of v ∷ of_name (hide x visible) y else of_name (hide x visible) y) j ∙
        (more ∙ ap (λ t. if t then below_top (of_name visible y) else of_name visible y) i)

below_hidden : (n : ℕ) (x : Name) (visible : Sight) → AllBelow n visible → AllBelow n (hide x visible)
below_hidden n x [] h = tt
below_hidden n x (v ∷ visible) h = by_test (is_same v.name x) (below_hidden n x visible h.1)
  where
    by_test : (b : Bool) → AllBelow n (hide x visible) → AllBelow n (if b then visible else v ∷ hide x visible)
    by_test true more = h.1
    by_test false more = (h.0, more)

-- at the beginning of a scope within this one in which a name's nearest variable isn't visible
pub at_hidden : (variables later : Variables) (slots : List Slot) (base : ℕ) (scope : Scope) (x : Name) → At variables slots base scope → Shows later (hide x scope.visible) →
    At later slots scope.next_slot (record { visible = hide x scope.visible; declared = []; next_slot = scope.next_slot })
at_hidden variables later slots base scope x h shown =
    let below = below_hidden scope.next_slot x scope.visible h.below in
    record {
      shown = shown;
      next = h.next;
      since = λ y. sym (found_below scope.next_slot (hide x scope.visible) y below);
      below = below;
      based = omega arith;
    }

-- without the nearest variable of the name, the others are visible
pub shows_hidden : (old new : Variables) (x : Name) (visible : Sight) → Shows old visible →
    ((y : Name) → stack_of new y ≡ (if is_same x y then below_top (stack_of old y) else stack_of old y)) → Shows new (hide x visible)
shows_hidden old new x visible h taken = record {
  each = λ y.
      taken y ∙ (ap (λ stack. if is_same x y then below_top stack else stack) (h.each y) ∙ sym (of_hidden x visible y));
}

restored : (hidden : Option Variable) (stack : List Variable) → hidden ≡ top stack → shown_again hidden true (below_top stack) ≡ stack
restored None [] e = refl
restored None (v ∷ stack) e = absurd (cc)
restored (Some w) [] e = absurd (cc)
restored (Some w) (v ∷ stack) e = ap (λ found. unwrap_or found w ∷ stack) e

untouched : (hidden : Option Variable) (stack : List Variable) → shown_again hidden false stack ≡ stack
untouched None stack = refl
untouched (Some w) stack = refl

-- and with it again, it is as before
pub shows_again : (old new : Variables) (x : Name) (visible : Sight) (hidden : Option Variable) → hidden ≡ top (of_name visible x) → Shows old (hide x visible) →
    ((y : Name) → stack_of new y ≡ shown_again hidden (is_same x y) (stack_of old y)) → Shows new visible
shows_again old new x visible hidden is h again = record {
  each = λ y.
      again y ∙ (ap (shown_again hidden (is_same x y)) (h.each y ∙ of_hidden x visible y) ∙ by_test y (is_same x y) refl);
}
  where
    by_test : (y : Name) (b : Bool) → is_same x y ≡ b →
        shown_again hidden b (if b then below_top (of_name visible y) else of_name visible y) ≡ of_name visible y
    by_test y true e = restored hidden (of_name visible y) (is ∙ ap (λ z. top (of_name visible z)) (is_same-equal x y e))
    by_test y false e = untouched hidden (of_name visible y)
