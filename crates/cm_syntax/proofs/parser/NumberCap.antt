-- The machine answers the same whatever a number is that is beyond each limit.
use Rattle.std.proofs.Common.{◌≡◌, ℕ, ◌+◌, ◌-◌, ◌<◌, Bool, true, false, ◌&&◌, List, [], ◌∷◌, refl, ap, ◌∙◌, arith}
use Rattle.std.specs.Prelude.{⊤, nat_lt, map, if◌then◌else◌}
use Rattle.std.proofs.lemmas.Bool.{ltb-true}
use Rattle.std.proofs.lemmas.Bool.Decides.{nat_tests}
use Rattle.cm_syntax.proofs.parser.TokenStep.{CountsNumber, AlikeNumbers, alike_numbers}
use Rattle.cm_syntax.specs.Limit.{max_literal, max_source_bytes, max_open_brackets}
use Rattle.cm_syntax.specs.Token.{Token, LocatedToken, token_at}
use Rattle.cm_syntax.specs.ParseTree.{Offset}
use Rattle.cm_syntax.specs.Yield.{Quantity}
use Rattle.cm_syntax.specs.Refusal.{is_opening, is_closing}
use Rattle.cm_syntax.specs.Parser.{State, Next, goes, stops, step, is_within, Answer, token_answer, run, nested_tokens, readable, capped, capped_token, start, text_answer}

-- both aren't wanted, or what is counted at both is beyond its limit
abbrev pub BothRefused : Next → Next → Type 0
BothRefused stops stops = ⊤
BothRefused (goes q next) (goes r other) = (is_within q ≡ false) × (is_within r ≡ false)
BothRefused _ _ = ⊥

great_literal : (n : ℕ) → max_literal < n → is_within (Quantity.literal n) ≡ false
great_literal n lt = grind (arith, nat_tests)

great_words : (n : ℕ) → max_literal < n → is_within (Quantity.words n) ≡ false
great_words n lt = grind (arith, nat_tests)

-- what is counted at a number that is beyond each limit
great_number : (n : ℕ) (q : Quantity) → max_literal < n → CountsNumber n q → is_within q ≡ false
great_number n Quantity.nothing lt h = absurd h
great_number n (Quantity.depth d) lt h = absurd h
great_number n (Quantity.operators k) lt h = absurd h
great_number n (Quantity.literal value) lt h = ap (λ v. is_within (Quantity.literal v)) h ∙ great_literal n lt
great_number n (Quantity.words words) lt h = ap (λ v. is_within (Quantity.words v)) h ∙ great_words n lt

both_refused : (n m : ℕ) → max_literal < n → max_literal < m → (a b : Next) → AlikeNumbers n m a b → BothRefused a b
both_refused n m great also stops stops h = tt
both_refused n m great also stops (goes r other) h = absurd h
both_refused n m great also (goes q next) stops h = absurd h
both_refused n m great also (goes q next) (goes r other) h = (great_number n q great h.0, great_number m r also h.1)

-- the answer is the same where both are refused
same_answer : (length : ℕ) (a b : Next) (too_nested : Bool) (at : Offset) (more : State → Answer) → BothRefused a b → token_answer length a too_nested at more ≡ token_answer length b too_nested at more
same_answer length stops stops too_nested at more h = refl
same_answer length stops (goes r other) too_nested at more h = absurd h
same_answer length (goes q next) stops too_nested at more h = absurd h
same_answer length (goes q next) (goes r other) too_nested at more h = rw (h.0, h.1) refl

number_answer : (length : ℕ) (s : State) (n : ℕ) (at : Offset) (too_nested : Bool) (more : State → Answer) →
    token_answer length (step s (capped_token (Token.number n)) at) too_nested at more ≡ token_answer length (step s (Token.number n) at) too_nested at more
number_answer length s n at too_nested more = by_limit (nat_lt max_literal n) refl
  where
    by_limit : (b : Bool) → nat_lt max_literal n ≡ b →
        token_answer length (step s (Token.number (if b then max_literal + 1 else n)) at) too_nested at more ≡ token_answer length (step s (Token.number n) at) too_nested at more
    by_limit true b = same_answer length _ _ too_nested at more (both_refused (max_literal + 1) n (omega arith) (ltb-true max_literal n b) _ _ (alike_numbers (max_literal + 1) n at s))
    by_limit false b = refl

-- the answer of the machine is the same where numbers are capped
pub capped_answer : (length opened closed : ℕ) (s : State) (tokens : List LocatedToken) →
    run length s (nested_tokens opened closed (readable (map capped tokens))) ≡ run length s (nested_tokens opened closed (readable tokens))
capped_answer length opened closed s [] = refl
capped_answer length opened closed s (t ∷ tokens) = by_limit (nat_lt t.at max_source_bytes) t.token (λ o c next. capped_answer length o c next tokens)
  where
    by_token : (token : Token) → ((o c : ℕ) (next : State) → run length next (nested_tokens o c (readable (map capped tokens))) ≡ run length next (nested_tokens o c (readable tokens))) →
        run length s (nested_tokens opened closed (capped (token_at token t.at) ∷ readable (map capped tokens))) ≡ run length s (nested_tokens opened closed (token_at token t.at ∷ readable tokens))
    by_token (Token.number n) more =
        number_answer length s n t.at false (λ next. run length next (nested_tokens opened closed (readable (map capped tokens)))) ∙
        λ i. token_answer length (step s (Token.number n) t.at) false t.at (λ next. more opened closed next i)
    by_token (Token.sign found) more = λ i. token_answer length (step s (Token.sign found) t.at) (is_opening (Token.sign found) && nat_lt max_open_brackets (opened + 1 - closed)) t.at
        (λ next. more (if is_opening (Token.sign found) then opened + 1 else opened) (if is_closing (Token.sign found) then closed + 1 else closed) next i)
    by_token (Token.keyword k) more = λ i. token_answer length (step s (Token.keyword k) t.at) false t.at (λ next. more opened closed next i)
    by_token (Token.name x) more = λ i. token_answer length (step s (Token.name x) t.at) false t.at (λ next. more opened closed next i)
    by_token Token.unfit more = λ i. token_answer length (step s Token.unfit t.at) false t.at (λ next. more opened closed next i)

    by_limit : (b : Bool) (token : Token) → ((o c : ℕ) (next : State) → run length next (nested_tokens o c (readable (map capped tokens))) ≡ run length next (nested_tokens o c (readable tokens))) →
        run length s (nested_tokens opened closed (if b then capped (token_at token t.at) ∷ readable (map capped tokens) else [])) ≡
        run length s (nested_tokens opened closed (if b then token_at token t.at ∷ readable tokens else []))
    by_limit true token more = by_token token more
    by_limit false token more = refl

-- the answer to a text is the same where numbers are capped
pub capped_text : (tokens : List LocatedToken) (length : ℕ) → text_answer (map capped tokens) length ≡ text_answer tokens length
capped_text tokens length = capped_answer length 0 0 start tokens
