-- The canonical text of each declaration and assignment has a parse tree, which stands for it in all but offsets.
use Rattle.std.proofs.Common.{◌≡◌, ℕ, Bool, true, false, List, [], ◌∷◌, ◌++◌, refl, sym, ap, ◌∙◌, arith, Option, None, Some}
use Rattle.std.specs.Prelude.{if◌then◌else◌, pos, map, option_map}
use Rattle.cm_syntax.specs.declared.name.Name.{Name}
use Rattle.cm_syntax.specs.declared.token.Sign.TheVariants as sign
use Rattle.cm_syntax.specs.declared.expr.Op.{Op}
use Rattle.cm_syntax.specs.declared.expr.Op.TheVariants as op
use Rattle.cm_syntax.specs.declared.expr.Expr.{Expr}
use Rattle.cm_syntax.specs.declared.expr.Expr.TheVariants as expression
use Rattle.cm_syntax.specs.declared.stmt.Slot.TheVariants as slot
use Rattle.cm_syntax.specs.declared.stmt.Item.{Item}
use Rattle.cm_syntax.specs.declared.stmt.Target.{Target}
use Rattle.cm_syntax.specs.declared.stmt.Target.TheVariants as target
use Rattle.cm_syntax.specs.declared.stmt.Stmt.{Stmt}
use Rattle.cm_syntax.specs.declared.stmt.Stmt.TheVariants as statement
use Rattle.cm_syntax.specs.Token.{Token}
use Rattle.cm_syntax.specs.ParseTree.{Mark, is_update, Expression, AnyExpression, Simple}
use Rattle.cm_syntax.specs.ParseTree as grammar
use Rattle.cm_syntax.specs.Yield.{Quantity, any_tokens, optional_tokens, item_tokens, items_tokens, target_tokens, simple_call_tokens, simple_tokens, update_sign, call_tokens}
use Rattle.cm_syntax.specs.Lowering.{lower_any, lower_optional, lower_item, lower_items, lower_target, lower_simple}
use Rattle.cm_syntax.specs.Canonical.{sign_token, expression_text, optional_text, item_text, items_text, target_text, simple_text}
use Rattle.cm_syntax.specs.Offset.{bare, bare_expression, bare_item, bare_target, bare_statement}
use Rattle.cm_syntax.proofs.printing.Laying.{Writable, behind}
use Rattle.cm_syntax.proofs.printing.TextLaw.{IndexText, starred, bracketed, index_text}
use Rattle.cm_syntax.proofs.printing.Printing.{past, Lays, none, one, both, as_text, AreWritable, front_writable, back_writable, moved, print_expression, print_call}

-- ---- expressions of any level

pub record PrintedAny (at : ℕ) (e : Expr Name) : Type 0 where
  pub parse : AnyExpression
  pub lays : Lays at (any_tokens parse) (expression_text e)
  pub same : bare_expression (lower_any parse) ≡ bare_expression e

pub print_any : (p : AnyExpression) → AreWritable (any_tokens p) → (at : ℕ) → PrintedAny at (lower_any p)
print_any (AnyExpression.any value) w at =
    let printed = print_expression 0 value w at in
    record { parse = AnyExpression.any printed.parse; lays = printed.lays 0; same = printed.same }

pub record PrintedOptional (at : ℕ) (value : Option (Expr Name)) : Type 0 where
  pub parse : Option AnyExpression
  pub lays : Lays at (optional_tokens parse) (optional_text value)
  pub same : option_map bare_expression (lower_optional parse) ≡ option_map bare_expression value

pub print_optional : (p : Option AnyExpression) → AreWritable (optional_tokens p) → (at : ℕ) → PrintedOptional at (lower_optional p)
print_optional None w at = record { parse = None; lays = none; same = refl }
print_optional (Some value) w at =
    let printed = print_any value w at in
    record { parse = Some printed.parse; lays = printed.lays; same = ap Some printed.same }

-- ---- declarations

pub record PrintedItem (at : ℕ) (item : Item Name) : Type 0 where
  pub parse : grammar.Item
  pub lays : Lays at (item_tokens parse) (item_text item)
  pub same : bare_item (lower_item parse) ≡ bare_item item

pub record PrintedItems (at : ℕ) (items : List (Item Name)) : Type 0 where
  pub parse : grammar.Items
  pub lays : Lays at (items_tokens parse) (items_text items)
  pub same : map bare_item (lower_items parse) ≡ map bare_item items

print_item : (p : grammar.Item) → AreWritable (item_tokens p) → (at : ℕ) → PrintedItem at (lower_item p)
print_item (grammar.Item.scalar x) w at = record { parse = grammar.Item.scalar (moved x at); lays = one (Token.name x.name) w.0 none; same = refl }
print_item (grammar.Item.set x assign value) w at =
    let sign_at = behind at (Token.name x.name) in
    let printed = print_any value w.1.1 (behind sign_at (Token.sign sign.Assign)) in
    record {
      parse = grammar.Item.set (moved x at) sign_at printed.parse;
      lays = one (Token.name x.name) w.0 (one (Token.sign sign.Assign) tt printed.lays);
      same = ap (λ e. record { name = bare x; slot = slot.Scalar; first = Some e }) printed.same;
    }
print_item (grammar.Item.array a opening _ size closing) w at = record {
  parse = grammar.Item.array (moved a at) _ _ size _;
  lays = one (Token.name a.name) w.0 (one (Token.sign sign.BracketOpen) tt (one (Token.number size) w.1.1.0 (one (Token.sign sign.BracketClose) tt none)));
  same = refl;
}

items-more : (first : Item Name) (more : grammar.Items) → items_text (first ∷ lower_items more) ≡ item_text first ++ (sign_token sign.Comma ∷ items_text (lower_items more))
items-more first (grammar.Items.last second) = refl
items-more first (grammar.Items.before second comma more) = refl

pub print_items : (p : grammar.Items) → AreWritable (items_tokens p) → (at : ℕ) → PrintedItems at (lower_items p)
print_items (grammar.Items.last item) w at =
    let printed = print_item item w at in
    record { parse = grammar.Items.last printed.parse; lays = printed.lays; same = ap (λ x. x ∷ []) printed.same }
print_items (grammar.Items.before item comma more) w at =
    let first = lower_item item in
    let printed = print_item item (front_writable (item_tokens item) _ w) at in
    let behind_first = back_writable (item_tokens item) _ w in
    let rest = print_items more behind_first.1 (behind (past at (item_text first)) (Token.sign sign.Comma)) in
    record {
      parse = grammar.Items.before printed.parse (past at (item_text first)) rest.parse;
      lays = as_text (items-more first more) (both (item_text first) printed.lays (one (Token.sign sign.Comma) tt rest.lays));
      same = ap (λ x. x ∷ map bare_item (lower_items rest.parse)) printed.same ∙ ap (λ t. bare_item first ∷ t) rest.same;
    }

-- ---- simple statements

-- what is written: a target's text and what stands behind it
pub record PrintedTarget (at : ℕ) (t : Target Name) : Type 0 where
  pub parse : grammar.Target
  pub lays : (first : Quantity) → Lays at (target_tokens first parse) (target_text t)
  pub same : bare_target (lower_target parse) ≡ bare_target t

starred_target : (a : Mark) (e : Expr Name) → Writable (Token.name a.name) → e ≡ expression.Number (pos 0) → (at : ℕ) → PrintedTarget at (target.Index a e)
starred_target a e w zero_is at = record {
  parse = grammar.Target.pointee at (moved a (behind at (Token.sign sign.Star)));
  lays = λ first. as_text (ap (λ x. target_text (target.Index a x)) zero_is) (one (Token.sign sign.Star) tt (one (Token.name a.name) w none));
  same = ap (λ x. target.Index (bare a) (bare_expression x)) (sym zero_is);
}

target_by : (a : Mark) (e : Expr Name) → Writable (Token.name a.name) → ((at : ℕ) → PrintedAny at e) → IndexText e → (at : ℕ) → PrintedTarget at (target.Index a e)
target_by a e w printed (starred zero_is) at = starred_target a e w zero_is at
target_by a e w printed (bracketed _ text) at =
    let opening = behind at (Token.name a.name) in
    let inner = printed (behind opening (Token.sign sign.BracketOpen)) in
    record {
      parse = grammar.Target.element (moved a at) opening inner.parse (past (behind opening (Token.sign sign.BracketOpen)) (expression_text e));
      lays = λ first. as_text (text a)
          (one (Token.name a.name) w (one (Token.sign sign.BracketOpen) tt (both (expression_text e) inner.lays (one (Token.sign sign.BracketClose) tt none))));
      same = ap (λ x. target.Index (bare a) x) inner.same;
    }

print_target : (first : Quantity) (p : grammar.Target) → AreWritable (target_tokens first p) → (at : ℕ) → PrintedTarget at (lower_target p)
print_target first (grammar.Target.scalar x) w at =
    record { parse = grammar.Target.scalar (moved x at); lays = λ first. one (Token.name x.name) w.0 none; same = refl }
print_target first (grammar.Target.element a opening index closing) w at =
    target_by a (lower_any index) w.0 (print_any index (front_writable (any_tokens index) _ w.1.1)) (index_text (lower_any index)) at
print_target first (grammar.Target.pointee star p) w at = starred_target p (expression.Number (pos 0)) w.1.0 refl at

-- a simple statement without its semicolon
pub record PrintedSimple (at : ℕ) (s : Stmt Name) : Type 0 where
  pub parse : Simple
  pub lays : (first : Quantity) → Lays at (simple_tokens first parse) (simple_text s)
  pub same : bare_statement (lower_simple parse) ≡ bare_statement s

-- an update by an operator
updated : (t : Target Name) (o : Op) → is_update o ≡ true → ((at : ℕ) → PrintedTarget at t) → (e : Expr Name) → ((at : ℕ) → PrintedAny at e) →
    (at : ℕ) → PrintedSimple at (statement.Assign t (Some o) e)
updated t o updates printed e value at =
    let left = printed at in
    let sign_at = past at (target_text t) in
    let right = value (behind sign_at (Token.sign (update_sign o))) in
    record {
      parse = Simple.update left.parse o updates sign_at right.parse;
      lays = λ first. both (target_text t) (left.lays first) (one (Token.sign (update_sign o)) tt right.lays);
      same = ap (λ x. statement.Assign x (Some o) (bare_expression (lower_any right.parse))) left.same ∙ ap (λ x. statement.Assign (bare_target t) (Some o) x) right.same;
    }

-- the literal 1
print_one : (at : ℕ) → PrintedAny at (expression.Number (pos 1))
print_one at = record { parse = AnyExpression.any (Expression.literal at 1); lays = one (Token.number 1) (omega arith) none; same = refl }

stepped : (up : Bool) (p : grammar.Target) (first : Quantity) → AreWritable (target_tokens first p) → (at : ℕ) →
    PrintedSimple at (statement.Assign (lower_target p) (Some (if up then op.Add else op.Sub)) (expression.Number (pos 1)))
stepped true p first w at = updated (lower_target p) op.Add refl (print_target first p w) (expression.Number (pos 1)) print_one at
stepped false p first w at = updated (lower_target p) op.Sub refl (print_target first p w) (expression.Number (pos 1)) print_one at

call_writable : (first : Quantity) (call : grammar.Call) → AreWritable (simple_call_tokens first call) → AreWritable (call_tokens call)
call_writable first (grammar.Call.alone f opening closing) w = w
call_writable first (grammar.Call.with_ f opening arguments closing) w = w

pub print_simple : (first : Quantity) (p : Simple) → AreWritable (simple_tokens first p) → (at : ℕ) → PrintedSimple at (lower_simple p)
print_simple first (Simple.assign p _ value) w at =
    let t = lower_target p in
    let left = print_target first p (front_writable (target_tokens first p) _ w) at in
    let behind_left = back_writable (target_tokens first p) _ w in
    let right = print_any value behind_left.1 (behind (past at (target_text t)) (Token.sign sign.Assign)) in
    record {
      parse = Simple.assign left.parse (past at (target_text t)) right.parse;
      lays = λ first. both (target_text t) (left.lays first) (one (Token.sign sign.Assign) tt right.lays);
      same = ap (λ x. statement.Assign x None (bare_expression (lower_any right.parse))) left.same ∙ ap (λ x. statement.Assign (bare_target t) None x) right.same;
    }
print_simple first (Simple.update p o updates _ value) w at =
    let behind_left = back_writable (target_tokens first p) _ w in
    updated (lower_target p) o updates (print_target first p (front_writable (target_tokens first p) _ w)) (lower_any value) (print_any value behind_left.1) at
print_simple first (Simple.step_after p up _) w at = stepped up p first (front_writable (target_tokens first p) _ w) at
print_simple first (Simple.step_before up _ p) w at = stepped up p Quantity.nothing w.1 at
print_simple first (Simple.call call) w at =
    let printed = print_call call (call_writable first call w) at in
    record { parse = Simple.call printed.parse; lays = printed.begins; same = ap statement.Call printed.same }
