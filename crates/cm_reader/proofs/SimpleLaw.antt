-- What the machine does at the first tokens of parts of declarations, assignments and calls.
use Rattle.std.proofs.Common.{◌≡◌, ℕ, Bool, true, false, List, [], ◌∷◌, refl, ap, ◌∙◌, Option, None, Some}
use Rattle.std.proofs.lemmas.Bool.{true≢false, false≢true}
use Rattle.cm_syntax.specs.declared.name.Name.{Name}
use Rattle.cm_syntax.specs.declared.expr.Op.{Op}
use Rattle.cm_syntax.specs.declared.stmt.Item.{Item}
use Rattle.cm_syntax.specs.declared.stmt.Slot.TheVariants as slot
use Rattle.cm_syntax.specs.declared.stmt.Target.{Target}
use Rattle.cm_syntax.specs.declared.stmt.Target.TheVariants as target
use Rattle.cm_syntax.specs.declared.stmt.Stmt.{Stmt}
use Rattle.cm_syntax.specs.declared.stmt.Stmt.TheVariants as statement
use Rattle.cm_syntax.specs.declared.token.Sign.TheVariants as sign
use Rattle.cm_syntax.specs.Token.{Token}
use Rattle.cm_syntax.specs.ParseTree.{Mark}
use Rattle.cm_syntax.specs.Yield.{Quantity}
use Rattle.cm_syntax.specs.Parser.{State, Next, goes, stops, on, is_sign, is_within, value, index, call_of, item, declarator, pointee, count_on, simple_step, target_step, writing_step, words_step}
use Rattle.cm_reader.specs.declared.token.LocatedToken.{LocatedToken}
use Rattle.cm_reader.specs.Next.{token_of, is_next, next_number, token_number, next_assignment, token_assignment}
use Rattle.cm_reader.specs.Read.{answer, IsStuck, Goes, TakesName, TakesNameToken}

-- ---- declarators

pub item_comma_goes : (before : List (Item Name)) (k : List (Item Name) → State) (tokens : List LocatedToken) → is_next sign.Comma tokens ≡ true →
    Goes (State.more_items before k) tokens true (declarator before k)
item_comma_goes before k [] h = absurd (false≢true h)
item_comma_goes before k (t ∷ tokens) h = (Quantity.nothing, rw h refl, refl)

pub items_end : (length : ℕ) (before : List (Item Name)) (k : List (Item Name) → State) (tokens : List LocatedToken) → is_next sign.Comma tokens ≡ false →
    answer length (State.more_items before k) tokens ≡ answer length (k before) tokens
items_end length before k [] absent = refl
items_end length before k (t ∷ tokens) absent = rw absent refl

pub item_value_goes : (x : Mark) (k : Item Name → State) (tokens : List LocatedToken) → is_next sign.Assign tokens ≡ true →
    Goes (State.item_name x k) tokens true (value (λ e. k (record { name = x; slot = slot.Scalar; first = Some e })))
item_value_goes x k [] h = absurd (false≢true h)
item_value_goes x k (t ∷ tokens) h = (Quantity.nothing, rw h refl, refl)

pub item_array_goes : (x : Mark) (k : Item Name → State) (tokens : List LocatedToken) → is_next sign.Assign tokens ≡ false → is_next sign.BracketOpen tokens ≡ true →
    Goes (State.item_name x k) tokens true (State.array_words (λ words. State.sign_next sign.BracketClose (k (item x (slot.Array words)))))
item_array_goes x k [] absent h = absurd (false≢true h)
item_array_goes x k (t ∷ tokens) absent h = (Quantity.nothing, rw (absent, h) refl, refl)

pub item_scalar_same : (length : ℕ) (x : Mark) (k : Item Name → State) (tokens : List LocatedToken) → is_next sign.Assign tokens ≡ false → is_next sign.BracketOpen tokens ≡ false →
    answer length (State.item_name x k) tokens ≡ answer length (k (item x slot.Scalar)) tokens
item_scalar_same length x k [] absent none = refl
item_scalar_same length x k (t ∷ tokens) absent none = rw (absent, none) refl

pub words_goes : (words : ℕ) (k : ℕ → State) (tokens : List LocatedToken) → next_number tokens ≡ Some words →
    Goes (State.array_words k) tokens (is_within (Quantity.words words)) (k words)
words_goes words k [] h = let absent : None ≡ Some words = h in absurd (cc)
words_goes words k (t ∷ tokens) h = (Quantity.words words, by_token (token_of t.token) h, refl)
  where
    by_token : (token : Token) → token_number token ≡ Some words → words_step token k ≡ goes (Quantity.words words) (k words)
    by_token (Token.number n) h = let same : n ≡ words = cc in rw same refl
    by_token (Token.sign s) h = let absent : None ≡ Some words = h in absurd (cc)
    by_token (Token.keyword w) h = let absent : None ≡ Some words = h in absurd (cc)
    by_token (Token.name x) h = let absent : None ≡ Some words = h in absurd (cc)
    by_token Token.unfit h = let absent : None ≡ Some words = h in absurd (cc)

pub words_stuck : (k : ℕ → State) (tokens : List LocatedToken) → next_number tokens ≡ None → IsStuck (State.array_words k) tokens
words_stuck k [] h = refl
words_stuck k (t ∷ tokens) h = by_token (token_of t.token) h
  where
    by_token : (token : Token) → token_number token ≡ None → words_step token k ≡ stops
    by_token (Token.number n) h = let absent : Some n ≡ None = h in absurd (cc)
    by_token (Token.sign s) h = refl
    by_token (Token.keyword w) h = refl
    by_token (Token.name x) h = refl
    by_token Token.unfit h = refl

-- ---- targets

pub pointee_goes : (k : Target Name → State) (tokens : List LocatedToken) → is_next sign.Star tokens ≡ true → Goes (State.target_next k) tokens true (pointee k)
pointee_goes k [] h = absurd (false≢true h)
pointee_goes k (t ∷ tokens) h = (Quantity.nothing, by_token (token_of t.token) h, refl)
  where
    by_token : (token : Token) → is_sign sign.Star token ≡ true → target_step token t.at k ≡ on (pointee k)
    by_token (Token.sign sign.Star) h = refl
    by_token (Token.sign _) h = absurd (false≢true h)
    by_token (Token.keyword w) h = absurd (false≢true h)
    by_token (Token.name x) h = absurd (false≢true h)
    by_token (Token.number v) h = absurd (false≢true h)
    by_token Token.unfit h = absurd (false≢true h)

pub target_takes_name : (k : Target Name → State) (tokens : List LocatedToken) → is_next sign.Star tokens ≡ false →
    TakesName (State.target_next k) tokens true (λ x. State.target_name x k)
target_takes_name k [] absent = refl
target_takes_name k (t ∷ tokens) absent = by_token (token_of t.token) absent
  where
    by_token : (token : Token) → is_sign sign.Star token ≡ false → TakesNameToken (State.target_next k) token t.at true (λ x. State.target_name x k)
    by_token (Token.sign sign.Star) absent = absurd (true≢false absent)
    by_token (Token.sign _) absent = refl
    by_token (Token.keyword w) absent = refl
    by_token (Token.name x) absent = (Quantity.nothing, refl, refl)
    by_token (Token.number v) absent = refl
    by_token Token.unfit absent = refl

pub target_index_goes : (x : Mark) (k : Target Name → State) (tokens : List LocatedToken) → is_next sign.BracketOpen tokens ≡ true →
    Goes (State.target_name x k) tokens true (index (λ e. k (target.Index x e)))
target_index_goes x k [] h = absurd (false≢true h)
target_index_goes x k (t ∷ tokens) h = (Quantity.nothing, rw h refl, refl)

pub target_scalar_same : (length : ℕ) (x : Mark) (k : Target Name → State) (tokens : List LocatedToken) → is_next sign.BracketOpen tokens ≡ false →
    answer length (State.target_name x k) tokens ≡ answer length (k (target.Scalar x)) tokens
target_scalar_same length x k [] absent = refl
target_scalar_same length x k (t ∷ tokens) absent = rw absent refl

-- ---- the sign of an assignment

pub up_goes : (written : Target Name) (k : Stmt Name → State) (tokens : List LocatedToken) → is_next sign.PlusPlus tokens ≡ true →
    Goes (State.writing written k) tokens true (k (count_on true written))
up_goes written k [] h = absurd (false≢true h)
up_goes written k (t ∷ tokens) h = (Quantity.nothing, by_token (token_of t.token) h, refl)
  where
    by_token : (token : Token) → is_sign sign.PlusPlus token ≡ true → writing_step token written k ≡ on (k (count_on true written))
    by_token (Token.sign sign.PlusPlus) h = refl
    by_token (Token.sign _) h = absurd (false≢true h)
    by_token (Token.keyword w) h = absurd (false≢true h)
    by_token (Token.name x) h = absurd (false≢true h)
    by_token (Token.number v) h = absurd (false≢true h)
    by_token Token.unfit h = absurd (false≢true h)

pub down_goes : (written : Target Name) (k : Stmt Name → State) (tokens : List LocatedToken) → is_next sign.MinusMinus tokens ≡ true →
    Goes (State.writing written k) tokens true (k (count_on false written))
down_goes written k [] h = absurd (false≢true h)
down_goes written k (t ∷ tokens) h = (Quantity.nothing, by_token (token_of t.token) h, refl)
  where
    by_token : (token : Token) → is_sign sign.MinusMinus token ≡ true → writing_step token written k ≡ on (k (count_on false written))
    by_token (Token.sign sign.MinusMinus) h = refl
    by_token (Token.sign _) h = absurd (false≢true h)
    by_token (Token.keyword w) h = absurd (false≢true h)
    by_token (Token.name x) h = absurd (false≢true h)
    by_token (Token.number v) h = absurd (false≢true h)
    by_token Token.unfit h = absurd (false≢true h)

-- what a sign does behind a target, by the assignment whose sign it is
abbrev pub assignment_next : Option (Option Op) → Target Name → (Stmt Name → State) → Next
assignment_next None written k = stops
assignment_next (Some o) written k = on (value (λ e. k (statement.Assign written o e)))

assignment_step : (token : Token) (written : Target Name) (k : Stmt Name → State) → is_sign sign.PlusPlus token ≡ false → is_sign sign.MinusMinus token ≡ false →
    writing_step token written k ≡ assignment_next (token_assignment token) written k
assignment_step (Token.sign sign.PlusPlus) written k up down = absurd (true≢false up)
assignment_step (Token.sign sign.MinusMinus) written k up down = absurd (true≢false down)
assignment_step (Token.sign sign.Assign) written k up down = refl
assignment_step (Token.sign sign.StarAssign) written k up down = refl
assignment_step (Token.sign sign.SlashAssign) written k up down = refl
assignment_step (Token.sign sign.PercentAssign) written k up down = refl
assignment_step (Token.sign sign.PlusAssign) written k up down = refl
assignment_step (Token.sign sign.MinusAssign) written k up down = refl
assignment_step (Token.sign sign.ShiftLeftAssign) written k up down = refl
assignment_step (Token.sign sign.ShiftRightAssign) written k up down = refl
assignment_step (Token.sign sign.AndAssign) written k up down = refl
assignment_step (Token.sign sign.CaretAssign) written k up down = refl
assignment_step (Token.sign sign.OrAssign) written k up down = refl
assignment_step (Token.sign _) written k up down = refl
assignment_step (Token.keyword w) written k up down = refl
assignment_step (Token.name x) written k up down = refl
assignment_step (Token.number v) written k up down = refl
assignment_step Token.unfit written k up down = refl

pub assignment_goes : (written : Target Name) (k : Stmt Name → State) (o : Option Op) (tokens : List LocatedToken) → is_next sign.PlusPlus tokens ≡ false → is_next sign.MinusMinus tokens ≡ false →
    next_assignment tokens ≡ Some o → Goes (State.writing written k) tokens true (value (λ e. k (statement.Assign written o e)))
assignment_goes written k o [] up down h = let absent : None ≡ Some o = h in absurd (cc)
assignment_goes written k o (t ∷ tokens) up down h =
    (Quantity.nothing, assignment_step (token_of t.token) written k up down ∙ ap (λ found. assignment_next found written k) h, refl)

pub assignment_stuck : (written : Target Name) (k : Stmt Name → State) (tokens : List LocatedToken) → is_next sign.PlusPlus tokens ≡ false → is_next sign.MinusMinus tokens ≡ false →
    next_assignment tokens ≡ None → IsStuck (State.writing written k) tokens
assignment_stuck written k [] up down h = refl
assignment_stuck written k (t ∷ tokens) up down h =
    assignment_step (token_of t.token) written k up down ∙ ap (λ found. assignment_next found written k) h

-- ---- assignments and calls

pub simple_pointee_goes : (q : Quantity) (k : Stmt Name → State) (fits : Bool) (tokens : List LocatedToken) → is_within q ≡ fits → is_next sign.Star tokens ≡ true →
    Goes (State.simple q k) tokens fits (pointee (λ written. State.writing written k))
simple_pointee_goes q k fits [] within h = absurd (false≢true h)
simple_pointee_goes q k fits (t ∷ tokens) within h = (q, by_token (token_of t.token) h, within)
  where
    by_token : (token : Token) → is_sign sign.Star token ≡ true → simple_step token t.at q k ≡ goes q (pointee (λ written. State.writing written k))
    by_token (Token.sign sign.Star) h = refl
    by_token (Token.sign _) h = absurd (false≢true h)
    by_token (Token.keyword w) h = absurd (false≢true h)
    by_token (Token.name x) h = absurd (false≢true h)
    by_token (Token.number v) h = absurd (false≢true h)
    by_token Token.unfit h = absurd (false≢true h)

pub simple_up_goes : (q : Quantity) (k : Stmt Name → State) (fits : Bool) (tokens : List LocatedToken) → is_within q ≡ fits → is_next sign.PlusPlus tokens ≡ true →
    Goes (State.simple q k) tokens fits (State.target_next (λ written. k (count_on true written)))
simple_up_goes q k fits [] within h = absurd (false≢true h)
simple_up_goes q k fits (t ∷ tokens) within h = (q, by_token (token_of t.token) h, within)
  where
    by_token : (token : Token) → is_sign sign.PlusPlus token ≡ true → simple_step token t.at q k ≡ goes q (State.target_next (λ written. k (count_on true written)))
    by_token (Token.sign sign.PlusPlus) h = refl
    by_token (Token.sign _) h = absurd (false≢true h)
    by_token (Token.keyword w) h = absurd (false≢true h)
    by_token (Token.name x) h = absurd (false≢true h)
    by_token (Token.number v) h = absurd (false≢true h)
    by_token Token.unfit h = absurd (false≢true h)

pub simple_down_goes : (q : Quantity) (k : Stmt Name → State) (fits : Bool) (tokens : List LocatedToken) → is_within q ≡ fits → is_next sign.MinusMinus tokens ≡ true →
    Goes (State.simple q k) tokens fits (State.target_next (λ written. k (count_on false written)))
simple_down_goes q k fits [] within h = absurd (false≢true h)
simple_down_goes q k fits (t ∷ tokens) within h = (q, by_token (token_of t.token) h, within)
  where
    by_token : (token : Token) → is_sign sign.MinusMinus token ≡ true → simple_step token t.at q k ≡ goes q (State.target_next (λ written. k (count_on false written)))
    by_token (Token.sign sign.MinusMinus) h = refl
    by_token (Token.sign _) h = absurd (false≢true h)
    by_token (Token.keyword w) h = absurd (false≢true h)
    by_token (Token.name x) h = absurd (false≢true h)
    by_token (Token.number v) h = absurd (false≢true h)
    by_token Token.unfit h = absurd (false≢true h)

pub simple_takes_name : (q : Quantity) (k : Stmt Name → State) (fits : Bool) (tokens : List LocatedToken) → is_within q ≡ fits → is_next sign.Star tokens ≡ false →
    is_next sign.PlusPlus tokens ≡ false → is_next sign.MinusMinus tokens ≡ false → TakesName (State.simple q k) tokens fits (λ x. State.simple_name x k)
simple_takes_name q k fits [] within star up down = refl
simple_takes_name q k fits (t ∷ tokens) within star up down = by_token (token_of t.token) star up down
  where
    by_token : (token : Token) → is_sign sign.Star token ≡ false → is_sign sign.PlusPlus token ≡ false → is_sign sign.MinusMinus token ≡ false →
        TakesNameToken (State.simple q k) token t.at fits (λ x. State.simple_name x k)
    by_token (Token.sign sign.Star) star up down = absurd (true≢false star)
    by_token (Token.sign sign.PlusPlus) star up down = absurd (true≢false up)
    by_token (Token.sign sign.MinusMinus) star up down = absurd (true≢false down)
    by_token (Token.sign _) star up down = refl
    by_token (Token.keyword w) star up down = refl
    by_token (Token.name x) star up down = (q, refl, within)
    by_token (Token.number v) star up down = refl
    by_token Token.unfit star up down = refl

pub simple_index_goes : (x : Mark) (k : Stmt Name → State) (tokens : List LocatedToken) → is_next sign.BracketOpen tokens ≡ true →
    Goes (State.simple_name x k) tokens true (index (λ e. State.writing (target.Index x e) k))
simple_index_goes x k [] h = absurd (false≢true h)
simple_index_goes x k (t ∷ tokens) h = (Quantity.nothing, rw h refl, refl)

pub simple_call_goes : (x : Mark) (k : Stmt Name → State) (tokens : List LocatedToken) → is_next sign.BracketOpen tokens ≡ false → is_next sign.ParenOpen tokens ≡ true →
    Goes (State.simple_name x k) tokens true (call_of x (λ made. k (statement.Call made)))
simple_call_goes x k [] absent h = absurd (false≢true h)
simple_call_goes x k (t ∷ tokens) absent h = (Quantity.nothing, rw (absent, h) refl, refl)

pub simple_writing_same : (length : ℕ) (x : Mark) (k : Stmt Name → State) (tokens : List LocatedToken) → is_next sign.BracketOpen tokens ≡ false → is_next sign.ParenOpen tokens ≡ false →
    answer length (State.simple_name x k) tokens ≡ answer length (State.writing (target.Scalar x) k) tokens
simple_writing_same length x k [] absent none = refl
simple_writing_same length x k (t ∷ tokens) absent none = rw (absent, none) refl
