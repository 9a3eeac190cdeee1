-- Laws of the machine's steps, for the code that follows it.
use Rattle.std.proofs.Common.{◌≡◌, ℕ, Bool, true, List, [], ◌∷◌, refl, sym, ap, subst}
use Rattle.std.specs.Prelude.{IfOk, IfErr, Result, Ok, Err}
use Rattle.std.specs.Result.{IsErrAnd}
use Rattle.std.proofs.lemmas.Bool.{false≢true}
use Rattle.cm_syntax.specs.declared.name.Name.{Name}
use Rattle.cm_syntax.specs.declared.token.Keyword.{Keyword}
use Rattle.cm_syntax.specs.declared.token.Sign.{Sign}
use Rattle.cm_syntax.specs.Token.{Token}
use Rattle.cm_syntax.specs.ParseTree.{Mark}
use Rattle.cm_syntax.specs.Yield.{Quantity}
use Rattle.cm_syntax.specs.Parser.{State, goes, step, is_within, Answer, token_answer, run}
use Rattle.cm_reader.specs.declared.token.LocatedToken.{LocatedToken}
use Rattle.cm_reader.specs.declared.token.Token.{Token as HeldToken}
use Rattle.cm_reader.specs.declared.token.Token.TheVariants as held
use Rattle.cm_reader.specs.declared.refusal.ReadRefusal.{ReadRefusal}
use Rattle.cm_reader.specs.Next.{token_of, nested, is_next, is_next_word}
use Rattle.cm_reader.specs.Read.{answer, IsRefusal, Goes, TakesName, TakesNameToken}

-- ---- answers of calls

pub ok_map : {A E : Type 0} {P Q : A → Type 0} (r : Result A E) → ((a : A) → P a → Q a) → IfOk r P → IfOk r Q
ok_map (Ok a) f h = f a h
ok_map (Err e) f h = tt

pub err_map : {A E : Type 0} {P Q : E → Type 0} (r : Result A E) → ((e : E) → P e → Q e) → IfErr r P → IfErr r Q
err_map (Ok a) f h = tt
err_map (Err e) f h = f e h

-- what holds of an error holds of the result that hands it on
pub err_same : {A E : Type 0} (P : E → Type 0) (r : Result A E) (x : E) → IsErrAnd r (λ e. e ≡ x) → P x → IfErr r P
err_same P (Ok a) x same h = tt
err_same P (Err e) x same h = subst P (sym same) h

-- a refusal behind a part is one in front of it
pub refused_on : (r : ReadRefusal) {a b : Answer} → a ≡ b → IsRefusal r b → IsRefusal r a
refused_on r e h = subst (λ x. IsRefusal r x) (sym e) h

-- ---- one token

-- two states that do the same at the next token
pub step_same : (length : ℕ) (s other : State) (t : LocatedToken) (tokens : List LocatedToken) →
    step s (token_of t.token) t.at ≡ step other (token_of t.token) t.at → answer length s (t ∷ tokens) ≡ answer length other (t ∷ tokens)
step_same length s other t tokens same =
    ap (λ x. token_answer length x t.too_nested t.at (λ next. run length next (nested tokens))) same

pub sign_goes : (s : Sign) (next : State) (tokens : List LocatedToken) → is_next s tokens ≡ true → Goes (State.sign_next s next) tokens true next
sign_goes s next [] h = absurd (false≢true h)
sign_goes s next (t ∷ tokens) h = (Quantity.nothing, rw h refl, refl)

pub word_goes : (k : Keyword) (next : State) (tokens : List LocatedToken) → is_next_word k tokens ≡ true →
    Goes (State.word_next k next) tokens true next
word_goes k next [] h = absurd (false≢true h)
word_goes k next (t ∷ tokens) h = (Quantity.nothing, rw h refl, refl)

-- a state that wants a name takes the one that stands next
pub name_goes : (s : State) (k : Mark → State) (fits : Bool) (t : LocatedToken) (x : Name) (tokens rest : List LocatedToken) →
    tokens ≡ t ∷ rest → t.token ≡ held.Name x → TakesName s tokens fits k → Goes s tokens fits (k (record { name = x; at = t.at }))
name_goes s k fits t x tokens rest e is h =
    subst (λ l. Goes s l fits (k (record { name = x; at = t.at }))) (sym e) (by_token t.token is (subst (λ l. TakesName s l fits k) e h))
  where
    by_token : (token : HeldToken) → token ≡ held.Name x → TakesNameToken s (token_of token) t.at fits k →
        (q : Quantity) × (step s (token_of token) t.at ≡ goes q (k (record { name = x; at = t.at }))) × (is_within q ≡ fits)
    by_token (held.Name y) is h = rw (← (let same : y ≡ x = cc in same)) h
    by_token (held.Keyword k) is h = let other : held.Keyword k ≡ held.Name x = is in cc
    by_token (held.Sign k) is h = let other : held.Sign k ≡ held.Name x = is in cc
    by_token (held.Number k) is h = let other : held.Number k ≡ held.Name x = is in cc
    by_token held.Unfit is h = let other : held.Unfit ≡ held.Name x = is in cc

pub next_takes_name : (k : Mark → State) (tokens : List LocatedToken) → TakesName (State.name_next k) tokens true k
next_takes_name k [] = refl
next_takes_name k (t ∷ tokens) = by_token (token_of t.token)
  where
    by_token : (token : Token) → TakesNameToken (State.name_next k) token t.at true k
    by_token (Token.name x) = (Quantity.nothing, refl, refl)
    by_token (Token.keyword w) = refl
    by_token (Token.sign s) = refl
    by_token (Token.number n) = refl
    by_token Token.unfit = refl
