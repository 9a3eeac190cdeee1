-- The machine takes the tokens of each declaration and statement with their counts, and goes on with its tree.
use Rattle.std.proofs.Common.{◌≡◌, ℕ, ◌+◌, Bool, true, false, List, [], ◌∷◌, ◌++◌, refl, sym, ap, subst, Option, None, Some, append_assoc, append-nil}
use Rattle.std.proofs.lemmas.Bool.{false≢true}
use Rattle.cm_syntax.specs.declared.name.Name.{Name}
use Rattle.cm_syntax.specs.declared.expr.Op.{Op}
use Rattle.cm_syntax.specs.declared.expr.Op.TheVariants as op
use Rattle.cm_syntax.specs.declared.expr.Expr.{Expr}
use Rattle.cm_syntax.specs.declared.stmt.Item.{Item}
use Rattle.cm_syntax.specs.declared.stmt.Target.{Target}
use Rattle.cm_syntax.specs.declared.stmt.Target.TheVariants as target
use Rattle.cm_syntax.specs.declared.stmt.Stmt.{Stmt}
use Rattle.cm_syntax.specs.declared.stmt.Stmt.TheVariants as statement
use Rattle.cm_syntax.specs.declared.token.Keyword.TheVariants as keyword
use Rattle.cm_syntax.specs.declared.token.Sign.TheVariants as sign
use Rattle.cm_syntax.specs.Token.{Token, LocatedToken}
use Rattle.cm_syntax.specs.ParseTree.{Mark, Offset, is_update, AnyExpression, Declaration, Simple, FirstPart, Plain, Statements}
use Rattle.cm_syntax.specs.ParseTree as grammar
use Rattle.cm_syntax.specs.Yield.{Quantity, CountedToken, depth, sign_at, update_sign, any_tokens, optional_tokens, call_tokens, item_tokens, items_tokens, declaration_tokens, target_tokens, simple_tokens, first_part_tokens, last_part_tokens, plain_tokens, statements_tokens, located_tokens}
use Rattle.cm_syntax.specs.Lowering.{lower_optional, lower_call, lower_item, lower_items, lower_declaration, lower_target, lower_simple, lower_first_part, lower_last_part, lower_plain, lower_statements}
use Rattle.cm_syntax.specs.Parser.{State, goes, step, value, declarator, declaration, with_semicolon, spawned, writing_step, is_sign}
use Rattle.cm_syntax.proofs.YieldLaw.{regroup}
use Rattle.cm_syntax.proofs.parser.trace.Trace.{Leads, trace, took, none, one, both, passes, left, alike}
use Rattle.cm_syntax.proofs.parser.trace.Front.{begins_value, begins_simple, begins_plain, begins_with, other_sign, other_word, by_front, trace_alike, any_begins, simple_begins, plain_begins, no_else, statements_no_else}
use Rattle.cm_syntax.proofs.parser.trace.ExpressionTrace.{Ends, paren_ends, bracket_ends, comma_ends, semicolon_ends, as_ends, any_leads, call_leads, named_call_leads}

-- ---- declarations

-- a token that ends an item, an assignment or a call
pub record Closes (t : Token) : Type 0 where
  pub ends : Ends t
  pub no_assign : is_sign sign.Assign t ≡ false
  pub no_index : is_sign sign.BracketOpen t ≡ false

pub semicolon_closes : Closes (Token.sign sign.Semicolon)
semicolon_closes = record { ends = semicolon_ends; no_assign = refl; no_index = refl }

pub comma_closes : Closes (Token.sign sign.Comma)
comma_closes = record { ends = comma_ends; no_assign = refl; no_index = refl }

pub paren_closes : Closes (Token.sign sign.ParenClose)
paren_closes = record { ends = paren_ends; no_assign = refl; no_index = refl }

item_leads : (i : grammar.Item) (before : List (Item Name)) (k : List (Item Name) → State) (t : LocatedToken) (rest : List LocatedToken) → Closes t.token →
    Leads (declarator before k) (item_tokens i) (t ∷ rest) (State.more_items (before ++ lower_item i ∷ []) k)
item_leads (grammar.Item.scalar x) before k t rest closes = one refl (passes (rw (closes.no_assign, closes.no_index) refl))
item_leads (grammar.Item.set x assign e) before k t rest closes = one refl (one refl (any_leads e _ t rest closes.ends))
item_leads (grammar.Item.array a opening at size closing) before k t rest closes = one refl (one refl (one refl (one refl none)))

-- the declarators behind others, up to a token that is no comma
items_lead : (all : grammar.Items) (before : List (Item Name)) (k : List (Item Name) → State) (t : LocatedToken) (rest : List LocatedToken) → Closes t.token →
    is_sign sign.Comma t.token ≡ false → Leads (declarator before k) (items_tokens all) (t ∷ rest) (k (before ++ lower_items all))
items_lead (grammar.Items.last single) before k t rest closes no_comma = left (item_leads single before k t rest closes) (passes (rw no_comma refl))
items_lead (grammar.Items.before first comma more) before k t rest closes no_comma =
    both (item_leads first before k _ _ comma_closes)
    (one refl (subst (λ found. Leads (declarator (before ++ lower_item first ∷ []) k) (items_tokens more) (t ∷ rest) (k found))
    (append_assoc before (lower_item first ∷ []) (lower_items more)) (items_lead more (before ++ lower_item first ∷ []) k t rest closes no_comma)))

-- a declaration behind its `int`
declaration_leads : (d : Declaration) (k : Stmt Name → State) (at : Offset) (rest : List LocatedToken) →
    Leads (declaration k) (items_tokens d.items) ((sign_at sign.Semicolon at).located ∷ rest) (k (lower_declaration d))
declaration_leads d k at rest = items_lead d.items [] (λ items. k (statement.Declare items)) _ rest semicolon_closes refl

-- ---- assignments and calls

target_leads : (w : grammar.Target) (k : Target Name → State) (t : LocatedToken) (rest : List LocatedToken) → is_sign sign.BracketOpen t.token ≡ false →
    Leads (State.target_next k) (target_tokens Quantity.nothing w) (t ∷ rest) (k (lower_target w))
target_leads (grammar.Target.scalar x) k t rest no_index = one refl (passes (rw no_index refl))
target_leads (grammar.Target.element a opening i closing) k t rest no_index = one refl (one refl (both (any_leads i _ _ _ bracket_ends) (one refl none)))
target_leads (grammar.Target.pointee star p) k t rest no_index = one refl (one refl none)

-- a target with which an assignment begins
first_target_leads : (w : grammar.Target) (first : Quantity) (k : Stmt Name → State) (t : LocatedToken) (rest : List LocatedToken) →
    is_sign sign.BracketOpen t.token ≡ false → is_sign sign.ParenOpen t.token ≡ false →
    Leads (State.simple first k) (target_tokens first w) (t ∷ rest) (State.writing (lower_target w) k)
first_target_leads (grammar.Target.scalar x) first k t rest no_index no_call = one refl (passes (rw (no_index, no_call) refl))
first_target_leads (grammar.Target.element a opening i closing) first k t rest no_index no_call =
    one refl (one refl (both (any_leads i _ _ _ bracket_ends) (one refl none)))
first_target_leads (grammar.Target.pointee star p) first k t rest no_index no_call = one refl (one refl none)

-- what the sign of an update is, and what it is not
record UpdateSign (o : Op) : Type 0 where
  writes : (written : Target Name) (k : Stmt Name → State) →
      writing_step (Token.sign (update_sign o)) written k ≡ goes Quantity.nothing (value (λ e. k (statement.Assign written (Some o) e)))
  no_index : is_sign sign.BracketOpen (Token.sign (update_sign o)) ≡ false
  no_call : is_sign sign.ParenOpen (Token.sign (update_sign o)) ≡ false
  no_assign : is_sign sign.Assign (Token.sign (update_sign o)) ≡ false

update_signs : (o : Op) → is_update o ≡ true → UpdateSign o
update_signs op.Mul e = record { writes = λ t k. refl; no_index = refl; no_call = refl; no_assign = refl }
update_signs op.Div e = record { writes = λ t k. refl; no_index = refl; no_call = refl; no_assign = refl }
update_signs op.Rem e = record { writes = λ t k. refl; no_index = refl; no_call = refl; no_assign = refl }
update_signs op.Add e = record { writes = λ t k. refl; no_index = refl; no_call = refl; no_assign = refl }
update_signs op.Sub e = record { writes = λ t k. refl; no_index = refl; no_call = refl; no_assign = refl }
update_signs op.Shl e = record { writes = λ t k. refl; no_index = refl; no_call = refl; no_assign = refl }
update_signs op.Shr e = record { writes = λ t k. refl; no_index = refl; no_call = refl; no_assign = refl }
update_signs op.And e = record { writes = λ t k. refl; no_index = refl; no_call = refl; no_assign = refl }
update_signs op.Xor e = record { writes = λ t k. refl; no_index = refl; no_call = refl; no_assign = refl }
update_signs op.Or e = record { writes = λ t k. refl; no_index = refl; no_call = refl; no_assign = refl }
update_signs _ e = absurd (false≢true e)

simple_leads : (s : Simple) (first : Quantity) (k : Stmt Name → State) (t : LocatedToken) (rest : List LocatedToken) → Closes t.token →
    Leads (State.simple first k) (simple_tokens first s) (t ∷ rest) (k (lower_simple s))
simple_leads (Simple.assign w at e) first k t rest closes = both (first_target_leads w first k _ _ refl refl) (one refl (any_leads e _ t rest closes.ends))
simple_leads (Simple.update w o updates at e) first k t rest closes =
    let signs = update_signs o updates in
    both (first_target_leads w first k _ _ signs.no_index signs.no_call)
    (one (signs.writes (lower_target w) k) (any_leads e _ t rest closes.ends))
simple_leads (Simple.step_after w true at) first k t rest closes = both (first_target_leads w first k _ _ refl refl) (one refl none)
simple_leads (Simple.step_after w false at) first k t rest closes = both (first_target_leads w first k _ _ refl refl) (one refl none)
simple_leads (Simple.step_before true at w) first k t rest closes = one refl (target_leads w _ t rest closes.no_index)
simple_leads (Simple.step_before false at w) first k t rest closes = one refl (target_leads w _ t rest closes.no_index)
simple_leads (Simple.call (grammar.Call.alone f opening closing)) first k t rest closes = one refl (one refl (one refl none))
simple_leads (Simple.call (grammar.Call.with_ f opening arguments closing)) first k t rest closes =
    one refl (one refl (call_leads (grammar.Call.with_ f opening arguments closing) (λ made. k (statement.Call made)) (t ∷ rest)))

-- where a value stands behind `x =`, it is taken as one
destination_value : (x : Mark) (k : Stmt Name → State) (t : LocatedToken) → begins_value t.token ≡ true →
    step (State.destination x k) t.token t.at ≡ step (value (λ e. with_semicolon k (statement.Assign (target.Scalar x) None e))) t.token t.at
destination_value x k t h = rw (other_word begins_value keyword.Spawn t.token refl h) refl

-- a statement takes an assignment or a call as one
plain_simple : (s : Simple) (d inner : ℕ) (k : Stmt Name → State) (rest : List LocatedToken) →
    trace (State.plain d inner k) (located_tokens (simple_tokens (depth d) s) ++ rest) ≡ trace (State.simple (depth d) (with_semicolon k)) (located_tokens (simple_tokens (depth d) s) ++ rest)
plain_simple (Simple.assign (grammar.Target.scalar x) at e) d inner k rest =
    ap (λ more. took (depth d) (took Quantity.nothing more))
    (trace_alike (State.destination x k) (value (λ e. with_semicolon k (statement.Assign (target.Scalar x) None e))) begins_value
    (located_tokens (any_tokens e) ++ rest) (any_begins e rest) (destination_value x k))
plain_simple (Simple.assign (grammar.Target.element a opening i closing) at e) d inner k rest = refl
plain_simple (Simple.assign (grammar.Target.pointee star p) at e) d inner k rest = refl
plain_simple (Simple.update (grammar.Target.scalar x) o updates at e) d inner k rest = rw (update_signs o updates).no_assign refl
plain_simple (Simple.update (grammar.Target.element a opening i closing) o updates at e) d inner k rest = refl
plain_simple (Simple.update (grammar.Target.pointee star p) o updates at e) d inner k rest = refl
plain_simple (Simple.step_after (grammar.Target.scalar x) true at) d inner k rest = refl
plain_simple (Simple.step_after (grammar.Target.scalar x) false at) d inner k rest = refl
plain_simple (Simple.step_after (grammar.Target.element a opening i closing) up at) d inner k rest = refl
plain_simple (Simple.step_after (grammar.Target.pointee star p) up at) d inner k rest = refl
plain_simple (Simple.step_before true at w) d inner k rest = refl
plain_simple (Simple.step_before false at w) d inner k rest = refl
plain_simple (Simple.call (grammar.Call.alone f opening closing)) d inner k rest = refl
plain_simple (Simple.call (grammar.Call.with_ f opening arguments closing)) d inner k rest = refl

-- ---- parts of statements

optional_leads : (e : Option AnyExpression) (k : Option (Expr Name) → State) (at : Offset) (rest : List LocatedToken) →
    Leads (State.optional_value k) (optional_tokens e) ((sign_at sign.Semicolon at).located ∷ rest) (k (lower_optional e))
optional_leads None k at rest = passes refl
optional_leads (Some e) k at rest =
    by_front begins_value (any_begins e _) (λ t h. rw (other_sign begins_value sign.Semicolon t.token refl h) refl)
    (any_leads e (λ e. k (Some e)) _ rest semicolon_ends)

first_part_leads : (f : FirstPart) (k : Stmt Name → State) (at : Offset) (rest : List LocatedToken) →
    Leads (State.first_part k) (first_part_tokens f) ((sign_at sign.Semicolon at).located ∷ rest) (k (lower_first_part f))
first_part_leads FirstPart.nothing k at rest = passes refl
first_part_leads (FirstPart.declare d) k at rest = one refl (declaration_leads d k at rest)
first_part_leads (FirstPart.simple s) k at rest =
    by_front begins_simple (simple_begins s Quantity.nothing _)
    (λ t h. rw (other_sign begins_simple sign.Semicolon t.token refl h, other_word begins_simple keyword.Int t.token refl h) refl)
    (simple_leads s Quantity.nothing k _ rest semicolon_closes)

last_part_leads : (s : Option Simple) (k : Stmt Name → State) (at : Offset) (rest : List LocatedToken) →
    Leads (State.last_part k) (last_part_tokens s) ((sign_at sign.ParenClose at).located ∷ rest) (k (lower_last_part s))
last_part_leads None k at rest = passes refl
last_part_leads (Some s) k at rest =
    by_front begins_simple (simple_begins s Quantity.nothing _) (λ t h. rw (other_sign begins_simple sign.ParenClose t.token refl h) refl)
    (simple_leads s Quantity.nothing k _ rest paren_closes)

-- a call with its semicolon, behind `spawn`
spawned_leads : (made : grammar.Call) (word : Offset) (written : Option Mark) (k : Stmt Name → State) (at : Offset) (rest : List LocatedToken) →
    Leads (spawned word written k) (call_tokens made ++ sign_at sign.Semicolon at ∷ []) rest (k (statement.Spawn word written (lower_call made)))
spawned_leads made word written k at rest = both (named_call_leads made (λ found. with_semicolon k (statement.Spawn word written found)) _) (one refl none)

-- ---- statements

-- where a statement begins a block goes on with it
statement_plain : (d : ℕ) (before : List (Stmt Name)) (k : List (Stmt Name) → Offset → State) (t : LocatedToken) → begins_plain t.token ≡ true →
    step (State.statements d before k) t.token t.at ≡ step (State.plain d (d + 1) (λ s. State.statements d (before ++ s ∷ []) k)) t.token t.at
statement_plain d before k t h = rw (other_sign begins_plain sign.BraceClose t.token refl h, other_word begins_plain keyword.Int t.token refl h) refl

mutual
  -- a statement; where it is open, no `else` follows
  pub plain_leads : {is_open : Bool} (p : Plain is_open) (d inner : ℕ) (k : Stmt Name → State) (rest : List LocatedToken) →
      (is_open ≡ true → begins_with no_else rest ≡ true) → Leads (State.plain d inner k) (plain_tokens d inner p) rest (k (lower_plain p))
  plain_leads (Plain.simple s semicolon) d inner k rest follows =
      alike (rw (regroup (simple_tokens (depth d) s) (sign_at sign.Semicolon semicolon ∷ []) rest) (plain_simple s d inner k _))
      (both (simple_leads s (depth d) (with_semicolon k) _ _ semicolon_closes) (one refl none))
  plain_leads (Plain.empty semicolon) d inner k rest follows = one refl none
  plain_leads (Plain.block opening inside closing) d inner k rest follows = one refl (statements_lead inside inner [] _ closing rest)
  plain_leads (Plain.if_alone word opening test closing chosen) d inner k rest follows =
      one refl (one refl (both (any_leads test _ _ _ paren_ends) (one refl
      (left (plain_leads chosen (d + 1) (d + 1) _ rest (λ is_open. follows refl))
      (by_front no_else (follows refl) (λ t h. rw (other_word no_else keyword.Else t.token refl h) refl) none)))))
  plain_leads (Plain.if_else word opening test closing chosen at other) d inner k rest follows =
      one refl (one refl (both (any_leads test _ _ _ paren_ends) (one refl
      (both (plain_leads chosen (d + 1) (d + 1) _ _ (λ is_open. absurd (false≢true is_open)))
      (one refl (plain_leads other (d + 1) (d + 1) _ rest follows))))))
  plain_leads (Plain.while word opening test closing inside) d inner k rest follows =
      one refl (one refl (both (any_leads test _ _ _ paren_ends) (one refl (plain_leads inside (d + 1) (d + 1) _ rest follows))))
  plain_leads (Plain.for word opening first at test second last closing inside) d inner k rest follows =
      one refl (one refl (both (first_part_leads first _ at _) (one refl
      (both (optional_leads test _ second _) (one refl
      (both (last_part_leads last _ closing _) (one refl (plain_leads inside (d + 1) (d + 1) _ rest follows))))))))
  plain_leads (Plain.split word whole at i as_ first comma second opening inside closing) d inner k rest follows =
      one refl (one refl (one refl (both (any_leads i _ _ _ as_ends) (one refl (one refl (one refl (one refl (one refl
      (statements_lead inside (d + 1) [] _ closing rest)))))))))
  plain_leads (Plain.return word given semicolon) d inner k rest follows = one refl (both (optional_leads given _ semicolon _) (one refl none))
  plain_leads (Plain.print word opening e closing semicolon) d inner k rest follows =
      one refl (one refl (both (any_leads e _ _ _ paren_ends) (one refl (one refl none))))
  plain_leads (Plain.sync word semicolon) d inner k rest follows = one refl (one refl none)
  plain_leads (Plain.spawn word made semicolon) d inner k rest follows = one refl (spawned_leads made word None k semicolon rest)
  plain_leads (Plain.spawn_into x assign word made semicolon) d inner k rest follows =
      one refl (one refl (one refl (spawned_leads made word (Some x) k semicolon rest)))

  -- the statements of a block behind others, with the closing brace
  pub statements_lead : (all : Statements) (d : ℕ) (before : List (Stmt Name)) (k : List (Stmt Name) → Offset → State) (closing : Offset) (rest : List LocatedToken) →
      Leads (State.statements d before k) (statements_tokens d all ++ sign_at sign.BraceClose closing ∷ []) rest (k (before ++ lower_statements all) closing)
  statements_lead Statements.none d before k closing rest =
      subst (λ found. Leads (State.statements d before k) (sign_at sign.BraceClose closing ∷ []) rest (k found closing)) (sym (append-nil before)) (one refl none)
  statements_lead (Statements.declare declaration semicolon more) d before k closing rest =
      let end : List CountedToken = sign_at sign.BraceClose closing ∷ [] in
      let behind : List CountedToken = sign_at sign.Semicolon semicolon ∷ statements_tokens d more in
      let s = lower_declaration declaration in
      subst (λ tokens. Leads (State.statements d before k) tokens rest (k (before ++ (s ∷ lower_statements more)) closing))
      (sym (append_assoc (declaration_tokens (depth d) declaration) behind end))
      (one refl (both (declaration_leads declaration (with_semicolon (λ s. State.statements d (before ++ s ∷ []) k)) semicolon _) (one refl
      (subst (λ found. Leads (State.statements d (before ++ s ∷ []) k) (statements_tokens d more ++ end) rest (k found closing)) (append_assoc before (s ∷ []) (lower_statements more))
      (statements_lead more d (before ++ s ∷ []) k closing rest)))))
  statements_lead (Statements.plain first more) d before k closing rest =
      let end : List CountedToken = sign_at sign.BraceClose closing ∷ [] in
      let behind : List CountedToken = statements_tokens d more ++ end in
      let s = lower_plain first in
      subst (λ tokens. Leads (State.statements d before k) tokens rest (k (before ++ (s ∷ lower_statements more)) closing))
      (sym (append_assoc (plain_tokens d (d + 1) first) (statements_tokens d more) end))
      (by_front begins_plain (rw (regroup (plain_tokens d (d + 1) first) behind rest) (plain_begins first d (d + 1) _)) (statement_plain d before k)
      (both (plain_leads first d (d + 1) (λ s. State.statements d (before ++ s ∷ []) k) _ (λ is_open. statements_no_else more d closing rest))
      (subst (λ found. Leads (State.statements d (before ++ s ∷ []) k) behind rest (k found closing)) (append_assoc before (s ∷ []) (lower_statements more))
      (statements_lead more d (before ++ s ∷ []) k closing rest))))
