-- A token that is taken in a state of a declaration or a statement, with what may follow the next state, may follow the
-- state.
use Rattle.std.proofs.Common.{◌≡◌, ℕ, true, false, List, [], ◌∷◌, refl, ◌∙◌, subst, None, Some, pos}
use Rattle.cm_syntax.specs.declared.name.Name.{Name}
use Rattle.cm_syntax.specs.declared.expr.Op.{Op}
use Rattle.cm_syntax.specs.declared.expr.Op.TheVariants as op
use Rattle.cm_syntax.specs.declared.expr.Expr.TheVariants as expression
use Rattle.cm_syntax.specs.declared.expr.Call.{Call}
use Rattle.cm_syntax.specs.declared.stmt.Slot.TheVariants as slot
use Rattle.cm_syntax.specs.declared.stmt.Item.{Item}
use Rattle.cm_syntax.specs.declared.stmt.Target.{Target}
use Rattle.cm_syntax.specs.declared.stmt.Target.TheVariants as target
use Rattle.cm_syntax.specs.declared.stmt.Stmt.{Stmt}
use Rattle.cm_syntax.specs.declared.stmt.Stmt.TheVariants as statement
use Rattle.cm_syntax.specs.declared.token.Keyword.TheVariants as keyword
use Rattle.cm_syntax.specs.declared.token.Sign.TheVariants as sign
use Rattle.cm_syntax.specs.Token.{Token, LocatedToken, token_at}
use Rattle.cm_syntax.specs.ParseTree.{Mark, Offset, is_update, AnyExpression, Declaration, Simple, FirstPart, Plain, Statements}
use Rattle.cm_syntax.specs.ParseTree as grammar
use Rattle.cm_syntax.specs.Yield.{Quantity, update_sign}
use Rattle.cm_syntax.specs.Parser.{State, step, is_sign, call_of, item, declarator, declaration, words_step, count_on, pointee, target_step, update_step, writing_step, simple_name_step, simple_step}
use Rattle.cm_syntax.proofs.parser.takes.Written.{sign_then, word_then, name_then, call_then, any_then, item_then, items_then, declaration_then, target_then, simple_then, first_part_then, last_part_then}
use Rattle.cm_syntax.proofs.parser.takes.Wanted.{Begins, begins, Closed, closed_then, FirstArguments, first_arguments_then, ItemName, item_name_then, Words, MoreItems, more_items_then, TargetName, target_name_then, Writing, writing_then, SimpleName, simple_name_then, Continues}
use Rattle.cm_syntax.proofs.parser.takes.ExpressionTakes.{Enters, by_either, by_sign, by_word, BehindValue, value_begins, closed_begins}

-- behind a statement a continuation goes on
abbrev pub BehindStatement : (Stmt Name → State) → List LocatedToken → Type 0
BehindStatement k rest = (s : Stmt Name) × Continues (k s) rest

-- behind declarators a continuation goes on
abbrev pub BehindItems : (List (Item Name) → State) → List LocatedToken → Type 0
BehindItems k rest = (all : List (Item Name)) × Continues (k all) rest

-- behind a declarator a continuation goes on
abbrev pub BehindItem : (Item Name → State) → List LocatedToken → Type 0
BehindItem k rest = (i : Item Name) × Continues (k i) rest

-- behind a target a continuation goes on
abbrev BehindTarget : (Target Name → State) → List LocatedToken → Type 0
BehindTarget k rest = (t : Target Name) × Continues (k t) rest

-- behind a call a continuation goes on
abbrev pub BehindCall : (Call Name → State) → List LocatedToken → Type 0
BehindCall k rest = (c : Call Name) × Continues (k c) rest

-- ---- declarations

pub words_take : (token : Token) (at : Offset) (k : ℕ → State) (w : List LocatedToken) → Enters (words_step token k) w → Continues (State.array_words k) (token_at token at ∷ w)
words_take (Token.number n) at k w h = begins (Words.words at n) w (n, h)
words_take (Token.name _) at k w h = absurd h
words_take (Token.sign _) at k w h = absurd h
words_take (Token.keyword _) at k w h = absurd h
words_take Token.unfit at k w h = absurd h

pub item_name_takes : (x : Mark) (token : Token) (at : Offset) (k : Item Name → State) (w : List LocatedToken) →
    (Enters (step (k (item x slot.Scalar)) token at) w → Continues (k (item x slot.Scalar)) (token_at token at ∷ w)) →
    Enters (step (State.item_name x k) token at) w → Continues (State.item_name x k) (token_at token at ∷ w)
item_name_takes x token at k w passes h =
    by_sign sign.Assign token _ _ w (λ t. Continues (State.item_name x k) (token_at t at ∷ w))
    (λ h. by_value w (value_begins (λ e. k (record { name = x; slot = slot.Scalar; first = Some e })) w h))
    (λ h. by_sign sign.BracketOpen token _ _ w (λ t. Continues (State.item_name x k) (token_at t at ∷ w)) (λ h. by_array w h)
    (λ h. begins ItemName.nothing (token_at token at ∷ w) (item x slot.Scalar, passes h)) h) h
  where
    by_value : (w : List LocatedToken) → Begins any_then (BehindValue (λ e. k (record { name = x; slot = slot.Scalar; first = Some e }))) w →
        Begins item_name_then (BehindItem k) (sign_then sign.Assign at w)
    by_value w (begins e rest (tree, h)) = begins (ItemName.set at e) rest (record { name = x; slot = slot.Scalar; first = Some tree }, h)

    by_array : (w : List LocatedToken) → Continues (State.array_words (λ words. State.sign_next sign.BracketClose (k (item x (slot.Array words))))) w →
        Begins item_name_then (BehindItem k) (sign_then sign.BracketOpen at w)
    by_array w (begins (Words.words offset n) _ (words, begins closing rest h)) = begins (ItemName.array at offset n closing) rest (item x (slot.Array words), h)

-- a declarator of a name
named_item : Mark → ItemName → grammar.Item
named_item x ItemName.nothing = grammar.Item.scalar x
named_item x (ItemName.set at e) = grammar.Item.set x at e
named_item x (ItemName.array opening at words closing) = grammar.Item.array x opening at words closing

named_item_same : (x : Mark) (i : ItemName) (rest : List LocatedToken) → item_then (named_item x i) rest ≡ name_then x (item_name_then i rest)
unfolding named_item
named_item_same x ItemName.nothing rest = refl
named_item_same x (ItemName.set at e) rest = refl
named_item_same x (ItemName.array opening at words closing) rest = refl

-- a declarator, and what follows it
item_joined : (i : grammar.Item) (k : List (Item Name) → State) (w : List LocatedToken) → Begins more_items_then (BehindItems k) w → Begins items_then (BehindItems k) (item_then i w)
item_joined i k w (begins MoreItems.none rest h) = begins (grammar.Items.last i) rest h
item_joined i k w (begins (MoreItems.some comma all) rest h) = begins (grammar.Items.before i comma all) rest h

pub items_begin : (before : List (Item Name)) (k : List (Item Name) → State) (w : List LocatedToken) → Continues (declarator before k) w → Begins items_then (BehindItems k) w
items_begin before k w (begins x _ (tree, begins i rest (one, h))) =
    subst (Begins items_then (BehindItems k)) (named_item_same x i rest) (item_joined (named_item x i) k rest h)

pub more_items_take : (token : Token) (at : Offset) (before : List (Item Name)) (k : List (Item Name) → State) (w : List LocatedToken) →
    (Enters (step (k before) token at) w → Continues (k before) (token_at token at ∷ w)) →
    Enters (step (State.more_items before k) token at) w → Continues (State.more_items before k) (token_at token at ∷ w)
more_items_take token at before k w passes h =
    by_sign sign.Comma token _ _ w (λ t. Continues (State.more_items before k) (token_at t at ∷ w)) (λ h. by_items w (items_begin before k w h))
    (λ h. begins MoreItems.none (token_at token at ∷ w) (before, passes h)) h
  where
    by_items : (w : List LocatedToken) → Begins items_then (BehindItems k) w → Begins more_items_then (BehindItems k) (sign_then sign.Comma at w)
    by_items w (begins all rest h) = begins (MoreItems.some at all) rest h

-- behind the `int` of a declaration
pub declaration_begins : (at : Offset) (k : Stmt Name → State) (w : List LocatedToken) → Continues (declaration k) w → Begins declaration_then (BehindStatement k) (word_then keyword.Int at w)
declaration_begins at k w h = by_items w (items_begin [] (λ items. k (statement.Declare items)) w h)
  where
    by_items : (w : List LocatedToken) → Begins items_then (BehindItems (λ items. k (statement.Declare items))) w → Begins declaration_then (BehindStatement k) (word_then keyword.Int at w)
    by_items w (begins all rest (trees, h)) = begins (record { int_at = at; items = all }) rest (statement.Declare trees, h)

-- ---- targets

pub target_name_takes : (x : Mark) (token : Token) (at : Offset) (k : Target Name → State) (w : List LocatedToken) →
    (Enters (step (k (target.Scalar x)) token at) w → Continues (k (target.Scalar x)) (token_at token at ∷ w)) →
    Enters (step (State.target_name x k) token at) w → Continues (State.target_name x k) (token_at token at ∷ w)
target_name_takes x token at k w passes h =
    by_sign sign.BracketOpen token _ _ w (λ t. Continues (State.target_name x k) (token_at t at ∷ w))
    (λ h. by_index w (closed_begins sign.BracketClose (λ e. k (target.Index x e)) w h))
    (λ h. begins TargetName.nothing (token_at token at ∷ w) (target.Scalar x, passes h)) h
  where
    by_index : (w : List LocatedToken) → Begins (closed_then sign.BracketClose) (BehindValue (λ e. k (target.Index x e))) w → Begins target_name_then (BehindTarget k) (sign_then sign.BracketOpen at w)
    by_index w (begins i rest (tree, h)) = begins (TargetName.index at i) rest (target.Index x tree, h)

-- a target that begins with a name
named_target : Mark → TargetName → grammar.Target
named_target x TargetName.nothing = grammar.Target.scalar x
named_target x (TargetName.index opening (Closed.closed e closing)) = grammar.Target.element x opening e closing

named_target_same : (x : Mark) (t : TargetName) (rest : List LocatedToken) → target_then (named_target x t) rest ≡ name_then x (target_name_then t rest)
unfolding named_target
named_target_same x TargetName.nothing rest = refl
named_target_same x (TargetName.index opening (Closed.closed e closing)) rest = refl

pointee_begins : (at : Offset) (k : Target Name → State) (w : List LocatedToken) → Continues (pointee k) w → Begins target_then (BehindTarget k) (sign_then sign.Star at w)
pointee_begins at k w (begins p rest (tree, h)) = begins (grammar.Target.pointee at p) rest (target.Index tree (expression.Number (pos 0)), h)

pub target_takes : (token : Token) (at : Offset) (k : Target Name → State) (w : List LocatedToken) → Enters (target_step token at k) w → Continues (State.target_next k) (token_at token at ∷ w)
target_takes (Token.name x) at k w h = by_name w h
  where
    by_name : (w : List LocatedToken) → Continues (State.target_name (record { name = x; at = at }) k) w → Begins target_then (BehindTarget k) (token_at (Token.name x) at ∷ w)
    by_name w (begins t rest h) =
        subst (Begins target_then (BehindTarget k)) (named_target_same (record { name = x; at = at }) t rest) (begins (named_target (record { name = x; at = at }) t) rest h)
target_takes (Token.sign sign.Star) at k w h = pointee_begins at k w h
target_takes (Token.sign _) at k w h = absurd h
target_takes (Token.keyword _) at k w h = absurd h
target_takes (Token.number _) at k w h = absurd h
target_takes Token.unfit at k w h = absurd h

-- ---- assignments and calls

update_takes : (o : Op) → is_update o ≡ true → (at : Offset) (written : Target Name) (k : Stmt Name → State) (w : List LocatedToken) →
    Enters (update_step (Some o) written k) w → Begins writing_then (BehindStatement k) (sign_then (update_sign o) at w)
update_takes o updates at written k w h = by_value w (value_begins (λ e. k (statement.Assign written (Some o) e)) w h)
  where
    by_value : (w : List LocatedToken) → Begins any_then (BehindValue (λ e. k (statement.Assign written (Some o) e))) w → Begins writing_then (BehindStatement k) (sign_then (update_sign o) at w)
    by_value w (begins e rest (tree, h)) = begins (Writing.update o updates at e) rest (statement.Assign written (Some o) tree, h)

pub writing_takes : (token : Token) (at : Offset) (written : Target Name) (k : Stmt Name → State) (w : List LocatedToken) →
    Enters (writing_step token written k) w → Continues (State.writing written k) (token_at token at ∷ w)
writing_takes (Token.sign sign.Assign) at written k w h = by_value w (value_begins (λ e. k (statement.Assign written None e)) w h)
  where
    by_value : (w : List LocatedToken) → Begins any_then (BehindValue (λ e. k (statement.Assign written None e))) w → Begins writing_then (BehindStatement k) (sign_then sign.Assign at w)
    by_value w (begins e rest (tree, h)) = begins (Writing.assign at e) rest (statement.Assign written None tree, h)
writing_takes (Token.sign sign.PlusPlus) at written k w h = begins (Writing.step true at) w (count_on true written, h)
writing_takes (Token.sign sign.MinusMinus) at written k w h = begins (Writing.step false at) w (count_on false written, h)
writing_takes (Token.sign sign.StarAssign) at written k w h = update_takes op.Mul refl at written k w h
writing_takes (Token.sign sign.SlashAssign) at written k w h = update_takes op.Div refl at written k w h
writing_takes (Token.sign sign.PercentAssign) at written k w h = update_takes op.Rem refl at written k w h
writing_takes (Token.sign sign.PlusAssign) at written k w h = update_takes op.Add refl at written k w h
writing_takes (Token.sign sign.MinusAssign) at written k w h = update_takes op.Sub refl at written k w h
writing_takes (Token.sign sign.ShiftLeftAssign) at written k w h = update_takes op.Shl refl at written k w h
writing_takes (Token.sign sign.ShiftRightAssign) at written k w h = update_takes op.Shr refl at written k w h
writing_takes (Token.sign sign.AndAssign) at written k w h = update_takes op.And refl at written k w h
writing_takes (Token.sign sign.CaretAssign) at written k w h = update_takes op.Xor refl at written k w h
writing_takes (Token.sign sign.OrAssign) at written k w h = update_takes op.Or refl at written k w h
writing_takes (Token.sign _) at written k w h = absurd h
writing_takes (Token.name _) at written k w h = absurd h
writing_takes (Token.keyword _) at written k w h = absurd h
writing_takes (Token.number _) at written k w h = absurd h
writing_takes Token.unfit at written k w h = absurd h

pub simple_name_takes : (x : Mark) (token : Token) (at : Offset) (k : Stmt Name → State) (w : List LocatedToken) →
    Enters (simple_name_step token x k) w → Continues (State.simple_name x k) (token_at token at ∷ w)
simple_name_takes x token at k w h =
    by_sign sign.BracketOpen token _ _ w (λ t. Continues (State.simple_name x k) (token_at t at ∷ w))
    (λ h. by_index w (closed_begins sign.BracketClose (λ e. State.writing (target.Index x e) k) w h))
    (λ h. by_sign sign.ParenOpen token _ _ w (λ t. Continues (State.simple_name x k) (token_at t at ∷ w)) (λ h. by_call w h)
    (λ h. by_writing (token_at token at ∷ w) (writing_takes token at (target.Scalar x) k w h)) h) h
  where
    by_index : (w : List LocatedToken) → Begins (closed_then sign.BracketClose) (BehindValue (λ e. State.writing (target.Index x e) k)) w →
        Begins simple_name_then (BehindStatement k) (sign_then sign.BracketOpen at w)
    by_index w (begins i _ (tree, begins writing rest h)) = begins (SimpleName.writes (TargetName.index at i) writing) rest h

    by_call : (w : List LocatedToken) → Continues (call_of x (λ made. k (statement.Call made))) w → Begins simple_name_then (BehindStatement k) (sign_then sign.ParenOpen at w)
    by_call w (begins all rest (trees, h)) = begins (SimpleName.call at all) rest (statement.Call (record { function = x; arguments = trees }), h)

    by_writing : (w : List LocatedToken) → Begins writing_then (BehindStatement k) w → Begins simple_name_then (BehindStatement k) w
    by_writing w (begins writing rest h) = begins (SimpleName.writes TargetName.nothing writing) rest h

-- a call of a name
pub named_call : Mark → (opening : Offset) → FirstArguments → grammar.Call
named_call x opening (FirstArguments.none closing) = grammar.Call.alone x opening closing
named_call x opening (FirstArguments.some all closing) = grammar.Call.with_ x opening all closing

pub named_call_same : (x : Mark) (opening : Offset) (all : FirstArguments) (rest : List LocatedToken) →
    call_then (named_call x opening all) rest ≡ name_then x (sign_then sign.ParenOpen opening (first_arguments_then all rest))
unfolding named_call
named_call_same x opening (FirstArguments.none closing) rest = refl
named_call_same x opening (FirstArguments.some all closing) rest = refl

-- an assignment of this target
written_simple : grammar.Target → Writing → Simple
written_simple t (Writing.assign at e) = Simple.assign t at e
written_simple t (Writing.update o updates at e) = Simple.update t o updates at e
written_simple t (Writing.step up at) = Simple.step_after t up at

written_simple_same : (t : grammar.Target) (writing : Writing) (rest : List LocatedToken) → simple_then (written_simple t writing) rest ≡ target_then t (writing_then writing rest)
unfolding written_simple
written_simple_same t (Writing.assign at e) rest = refl
written_simple_same t (Writing.update o updates at e) rest = refl
written_simple_same t (Writing.step up at) rest = refl

-- an assignment or a call that begins with a name
pub named_simple : Mark → SimpleName → Simple
named_simple x (SimpleName.writes t writing) = written_simple (named_target x t) writing
named_simple x (SimpleName.call opening all) = Simple.call (named_call x opening all)

pub named_simple_same : (x : Mark) (s : SimpleName) (rest : List LocatedToken) → simple_then (named_simple x s) rest ≡ name_then x (simple_name_then s rest)
unfolding named_simple
named_simple_same x (SimpleName.writes t writing) rest = written_simple_same (named_target x t) writing rest ∙ named_target_same x t (writing_then writing rest)
named_simple_same x (SimpleName.call opening all) rest = named_call_same x opening all rest

pub simple_takes : (token : Token) (at : Offset) (first : Quantity) (k : Stmt Name → State) (w : List LocatedToken) →
    Enters (simple_step token at first k) w → Begins simple_then (BehindStatement k) (token_at token at ∷ w)
simple_takes (Token.name x) at first k w h = by_name w h
  where
    by_name : (w : List LocatedToken) → Continues (State.simple_name (record { name = x; at = at }) k) w → Begins simple_then (BehindStatement k) (token_at (Token.name x) at ∷ w)
    by_name w (begins s rest h) =
        subst (Begins simple_then (BehindStatement k)) (named_simple_same (record { name = x; at = at }) s rest) (begins (named_simple (record { name = x; at = at }) s) rest h)
simple_takes (Token.sign sign.Star) at first k w h = by_target (sign_then sign.Star at w) (pointee_begins at (λ written. State.writing written k) w h)
  where
    by_target : (w : List LocatedToken) → Begins target_then (BehindTarget (λ written. State.writing written k)) w → Begins simple_then (BehindStatement k) w
    by_target w (begins t _ (tree, begins writing rest h)) = subst (Begins simple_then (BehindStatement k)) (written_simple_same t writing rest) (begins (written_simple t writing) rest h)
simple_takes (Token.sign sign.PlusPlus) at first k w (begins t rest (tree, h)) = begins (Simple.step_before true at t) rest (count_on true tree, h)
simple_takes (Token.sign sign.MinusMinus) at first k w (begins t rest (tree, h)) = begins (Simple.step_before false at t) rest (count_on false tree, h)
simple_takes (Token.sign _) at first k w h = absurd h
simple_takes (Token.keyword _) at first k w h = absurd h
simple_takes (Token.number _) at first k w h = absurd h
simple_takes Token.unfit at first k w h = absurd h

-- ---- the parts of a `for`

pub first_part_takes : (token : Token) (at : Offset) (k : Stmt Name → State) (w : List LocatedToken) →
    (Enters (step (k statement.Empty) token at) w → Continues (k statement.Empty) (token_at token at ∷ w)) →
    Enters (step (State.first_part k) token at) w → Continues (State.first_part k) (token_at token at ∷ w)
first_part_takes token at k w passes h =
    by_either (is_sign sign.Semicolon token) (step (k statement.Empty) token at) _ w (λ h. begins FirstPart.nothing (token_at token at ∷ w) (statement.Empty, passes h))
    (λ h. by_word keyword.Int token _ _ w (λ t. Continues (State.first_part k) (token_at t at ∷ w)) (λ h. by_declaration (word_then keyword.Int at w) (declaration_begins at k w h))
    (λ h. by_simple (token_at token at ∷ w) (simple_takes token at Quantity.nothing k w h)) h) h
  where
    by_declaration : (w : List LocatedToken) → Begins declaration_then (BehindStatement k) w → Begins first_part_then (BehindStatement k) w
    by_declaration w (begins d rest h) = begins (FirstPart.declare d) rest h

    by_simple : (w : List LocatedToken) → Begins simple_then (BehindStatement k) w → Begins first_part_then (BehindStatement k) w
    by_simple w (begins s rest h) = begins (FirstPart.simple s) rest h

pub last_part_takes : (token : Token) (at : Offset) (k : Stmt Name → State) (w : List LocatedToken) →
    (Enters (step (k statement.Empty) token at) w → Continues (k statement.Empty) (token_at token at ∷ w)) →
    Enters (step (State.last_part k) token at) w → Continues (State.last_part k) (token_at token at ∷ w)
last_part_takes token at k w passes h =
    by_either (is_sign sign.ParenClose token) (step (k statement.Empty) token at) (simple_step token at Quantity.nothing k) w (λ h. begins None (token_at token at ∷ w) (statement.Empty, passes h))
    (λ h. by_simple (token_at token at ∷ w) (simple_takes token at Quantity.nothing k w h)) h
  where
    by_simple : (w : List LocatedToken) → Begins simple_then (BehindStatement k) w → Begins last_part_then (BehindStatement k) w
    by_simple w (begins s rest h) = begins (Some s) rest h
