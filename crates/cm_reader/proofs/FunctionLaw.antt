-- What the machine does at the first tokens of parts of functions.
use Rattle.std.proofs.Common.{◌≡◌, ℕ, Bool, true, false, List, [], ◌∷◌, ◌++◌, refl, arith}
use Rattle.std.specs.Prelude.{◌==◌, length as token_count}
use Rattle.std.proofs.lemmas.Bool.{true≢false, false≢true, eqb-true}
use Rattle.cm_syntax.specs.declared.name.Name.{Name}
use Rattle.cm_syntax.specs.declared.stmt.Item.{Item}
use Rattle.cm_syntax.specs.declared.stmt.Slot.TheVariants as slot
use Rattle.cm_syntax.specs.declared.stmt.Function.{Function}
use Rattle.cm_syntax.specs.declared.token.Keyword.TheVariants as keyword
use Rattle.cm_syntax.specs.declared.token.Sign.TheVariants as sign
use Rattle.cm_syntax.specs.Token.{Token}
use Rattle.cm_syntax.specs.ParseTree.{Mark}
use Rattle.cm_syntax.specs.Yield.{Quantity}
use Rattle.cm_syntax.specs.Parser.{State, on, step, is_sign, is_word, item, function_of, type_step, parameter_step, end_answer, some_functions}
use Rattle.cm_reader.specs.declared.token.LocatedToken.{LocatedToken}
use Rattle.cm_reader.specs.Next.{token_of, is_next, is_next_word}
use Rattle.cm_reader.specs.Read.{answer, Goes, TakesName, TakesNameToken, parameter_next, some_parameters}
use Rattle.cm_reader.proofs.StepLaw.{step_same}

-- ---- the mark and the type

pub mark_goes : (k : Function Name → State) (tokens : List LocatedToken) → is_next_word keyword.Cilk tokens ≡ true →
    Goes (State.function_next k) tokens true (State.return_type (λ gives. function_of true gives k))
mark_goes k [] h = absurd (false≢true h)
mark_goes k (t ∷ tokens) h = (Quantity.nothing, rw h refl, refl)

pub no_mark_same : (length : ℕ) (k : Function Name → State) (tokens : List LocatedToken) → is_next_word keyword.Cilk tokens ≡ false →
    answer length (State.function_next k) tokens ≡ answer length (State.return_type (λ gives. function_of false gives k)) tokens
no_mark_same length k [] absent = refl
no_mark_same length k (t ∷ tokens) absent = rw absent refl

pub int_goes : (k : Bool → State) (tokens : List LocatedToken) → is_next_word keyword.Int tokens ≡ true → Goes (State.return_type k) tokens true (k true)
int_goes k [] h = absurd (false≢true h)
int_goes k (t ∷ tokens) h = (Quantity.nothing, by_token (token_of t.token) h, refl)
  where
    by_token : (token : Token) → is_word keyword.Int token ≡ true → type_step token k ≡ on (k true)
    by_token (Token.keyword keyword.Int) h = refl
    by_token (Token.keyword _) h = absurd (false≢true h)
    by_token (Token.sign s) h = absurd (false≢true h)
    by_token (Token.name x) h = absurd (false≢true h)
    by_token (Token.number n) h = absurd (false≢true h)
    by_token Token.unfit h = absurd (false≢true h)

pub void_same : (length : ℕ) (k : Bool → State) (tokens : List LocatedToken) → is_next_word keyword.Int tokens ≡ false →
    answer length (State.return_type k) tokens ≡ answer length (State.word_next keyword.Void (k false)) tokens
void_same length k [] absent = refl
void_same length k (t ∷ tokens) absent =
    step_same length (State.return_type k) (State.word_next keyword.Void (k false)) t tokens (by_token (token_of t.token) absent)
  where
    by_token : (token : Token) → is_word keyword.Int token ≡ false → type_step token k ≡ step (State.word_next keyword.Void (k false)) token t.at
    by_token (Token.keyword keyword.Int) absent = absurd (true≢false absent)
    by_token (Token.keyword keyword.Void) absent = refl
    by_token (Token.keyword _) absent = refl
    by_token (Token.sign s) absent = refl
    by_token (Token.name x) absent = refl
    by_token (Token.number n) absent = refl
    by_token Token.unfit absent = refl

-- ---- parameters

pub no_parameter_goes : (k : List (Item Name) → State) (tokens : List LocatedToken) → is_next sign.ParenClose tokens ≡ true →
    Goes (State.first_parameter k) tokens true (k [])
no_parameter_goes k [] h = absurd (false≢true h)
no_parameter_goes k (t ∷ tokens) h = (Quantity.nothing, rw h refl, refl)

pub void_goes : (k : List (Item Name) → State) (tokens : List LocatedToken) → is_next sign.ParenClose tokens ≡ false → is_next_word keyword.Void tokens ≡ true →
    Goes (State.first_parameter k) tokens true (State.sign_next sign.ParenClose (k []))
void_goes k [] absent h = absurd (false≢true h)
void_goes k (t ∷ tokens) absent h = (Quantity.nothing, rw (absent, h) refl, refl)

pub some_parameters_same : (length : ℕ) (k : List (Item Name) → State) (tokens : List LocatedToken) → is_next sign.ParenClose tokens ≡ false → is_next_word keyword.Void tokens ≡ false →
    answer length (State.first_parameter k) tokens ≡ answer length (some_parameters k) tokens
some_parameters_same length k [] absent none = refl
some_parameters_same length k (t ∷ tokens) absent none = rw (absent, none) refl

pub parameter_comma_goes : (before : List (Item Name)) (k : List (Item Name) → State) (tokens : List LocatedToken) → is_next sign.Comma tokens ≡ true →
    Goes (State.more_parameters before k) tokens true (parameter_next (λ one. State.more_parameters (before ++ one ∷ []) k))
parameter_comma_goes before k [] h = absurd (false≢true h)
parameter_comma_goes before k (t ∷ tokens) h = (Quantity.nothing, rw h refl, refl)

pub parameters_end : (length : ℕ) (before : List (Item Name)) (k : List (Item Name) → State) (tokens : List LocatedToken) → is_next sign.Comma tokens ≡ false →
    answer length (State.more_parameters before k) tokens ≡ answer length (State.sign_next sign.ParenClose (k before)) tokens
parameters_end length before k [] absent = refl
parameters_end length before k (t ∷ tokens) absent = rw absent refl

pub pointer_goes : (k : Item Name → State) (tokens : List LocatedToken) → is_next sign.Star tokens ≡ true →
    Goes (State.parameter_declarator k) tokens true (State.name_next (λ p. k (item p slot.Slice)))
pointer_goes k [] h = absurd (false≢true h)
pointer_goes k (t ∷ tokens) h = (Quantity.nothing, by_token (token_of t.token) h, refl)
  where
    by_token : (token : Token) → is_sign sign.Star token ≡ true → parameter_step token t.at k ≡ on (State.name_next (λ p. k (item p slot.Slice)))
    by_token (Token.sign sign.Star) h = refl
    by_token (Token.sign _) h = absurd (false≢true h)
    by_token (Token.keyword w) h = absurd (false≢true h)
    by_token (Token.name x) h = absurd (false≢true h)
    by_token (Token.number n) h = absurd (false≢true h)
    by_token Token.unfit h = absurd (false≢true h)

pub parameter_takes_name : (k : Item Name → State) (tokens : List LocatedToken) → is_next sign.Star tokens ≡ false →
    TakesName (State.parameter_declarator k) tokens true (λ x. State.parameter_name x k)
parameter_takes_name k [] absent = refl
parameter_takes_name k (t ∷ tokens) absent = by_token (token_of t.token) absent
  where
    by_token : (token : Token) → is_sign sign.Star token ≡ false → TakesNameToken (State.parameter_declarator k) token t.at true (λ x. State.parameter_name x k)
    by_token (Token.sign sign.Star) absent = absurd (true≢false absent)
    by_token (Token.sign _) absent = refl
    by_token (Token.keyword w) absent = refl
    by_token (Token.name x) absent = (Quantity.nothing, refl, refl)
    by_token (Token.number n) absent = refl
    by_token Token.unfit absent = refl

pub slice_goes : (x : Mark) (k : Item Name → State) (tokens : List LocatedToken) → is_next sign.BracketOpen tokens ≡ true →
    Goes (State.parameter_name x k) tokens true (State.sign_next sign.BracketClose (k (item x slot.Slice)))
slice_goes x k [] h = absurd (false≢true h)
slice_goes x k (t ∷ tokens) h = (Quantity.nothing, rw h refl, refl)

pub parameter_scalar_same : (length : ℕ) (x : Mark) (k : Item Name → State) (tokens : List LocatedToken) → is_next sign.BracketOpen tokens ≡ false →
    answer length (State.parameter_name x k) tokens ≡ answer length (k (item x slot.Scalar)) tokens
parameter_scalar_same length x k [] absent = refl
parameter_scalar_same length x k (t ∷ tokens) absent = rw absent refl

-- ---- programs

-- where there is a token more, a function is wanted
pub functions_go_on : (length : ℕ) (before : List (Function Name)) (tokens : List LocatedToken) → (token_count tokens == 0) ≡ false →
    answer length (State.functions_next before) tokens ≡ answer length (State.function_next (λ f. State.functions_next (before ++ f ∷ []))) tokens
functions_go_on length before [] some = absurd (true≢false some)
functions_go_on length before (t ∷ tokens) some = refl

-- where the tokens end
pub functions_finish : (length : ℕ) (before : List (Function Name)) (tokens : List LocatedToken) → (token_count tokens == 0) ≡ true →
    answer length (State.functions_next before) tokens ≡ end_answer length (some_functions before)
functions_finish length before [] none = refl
functions_finish length before (t ∷ tokens) none =
    let zero : token_count (t ∷ tokens) ≡ 0 = eqb-true (token_count (t ∷ tokens)) 0 none in absurd (omega (arith, zero))
