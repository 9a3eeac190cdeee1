-- What the answer of the machine says of the tokens that it takes.
use Rattle.std.proofs.Common.{◌≡◌, ℕ, ◌+◌, ◌<◌, Bool, true, false, not, ◌&&◌, List, [], ◌∷◌, ◌++◌, length, refl, sym, ap, ◌∙◌, subst, arith, ◌⊎◌, inl, inr, append_assoc, append-nil, if◌then◌else◌, cond}
use Rattle.std.specs.Prelude.{⊤, ◌-◌, nat_lt, count_by}
use Rattle.std.proofs.lemmas.Bool.{true≢false, false≢true, ltb-true, lt-ltb, and_parts, and_from}
use Rattle.std.proofs.lemmas.List.Sums.{sum_by-append}
use Rattle.std.proofs.lemmas.Bool.Decides.{nat_tests}
use Rattle.cm_syntax.specs.declared.token.Sign.TheVariants as sign
use Rattle.cm_syntax.specs.Limit.{max_source_bytes, max_open_brackets, max_depth, max_operators, max_literal, max_array_words}
use Rattle.cm_syntax.specs.Token.{Token, LocatedToken}
use Rattle.cm_syntax.specs.Yield.{Quantity, CountedToken, located_tokens}
use Rattle.cm_syntax.specs.Refusal.{Refusal, is_opening, is_closing, open_brackets, IsTooMuch, IsTooNested}
use Rattle.cm_syntax.specs.Parser.{State, Next, goes, stops, step, finish, is_within, readable, nested_tokens, Answer, refused, end_answer, token_answer, run}
use Rattle.cm_syntax.proofs.parser.takes.Reached.{Reached}

-- ---- limits

much_depth : (d : ℕ) → is_within (Quantity.depth d) ≡ false → max_depth < d
much_depth d h = grind (arith, nat_tests)

much_operators : (n : ℕ) → is_within (Quantity.operators n) ≡ false → max_operators < n
much_operators n h = grind (arith, nat_tests)

much_literal : (n : ℕ) → is_within (Quantity.literal n) ≡ false → max_literal < n
much_literal n h = grind (arith, nat_tests)

much_words : (n : ℕ) → is_within (Quantity.words n) ≡ false → (n ≡ 0) ⊎ (max_array_words < n)
much_words n h = grind (arith, nat_tests)

-- what isn't within its limit is too much
pub beyond_much : (q : Quantity) → is_within q ≡ false → IsTooMuch q
beyond_much Quantity.nothing h = absurd (true≢false h)
beyond_much (Quantity.depth d) h = much_depth d h
beyond_much (Quantity.operators n) h = much_operators n h
beyond_much (Quantity.literal n) h = much_literal n h
beyond_much (Quantity.words n) h = much_words n h

within_depth : (d : ℕ) → is_within (Quantity.depth d) ≡ true → max_depth < d → ⊥
within_depth d h lt = grind (arith, nat_tests)

within_operators : (n : ℕ) → is_within (Quantity.operators n) ≡ true → max_operators < n → ⊥
within_operators n h lt = grind (arith, nat_tests)

within_literal : (n : ℕ) → is_within (Quantity.literal n) ≡ true → max_literal < n → ⊥
within_literal n h lt = grind (arith, nat_tests)

within_words : (n : ℕ) → is_within (Quantity.words n) ≡ true → (n ≡ 0) ⊎ (max_array_words < n) → ⊥
within_words n h much = grind (arith, nat_tests)

-- what is within its limit isn't
pub within_not_much : (q : Quantity) → is_within q ≡ true → IsTooMuch q → ⊥
within_not_much Quantity.nothing h much = much
within_not_much (Quantity.depth d) h much = within_depth d h much
within_not_much (Quantity.operators n) h much = within_operators n h much
within_not_much (Quantity.literal n) h much = within_literal n h much
within_not_much (Quantity.words n) h much = within_words n h much

-- ---- brackets

abbrev pub openings : List LocatedToken → ℕ
openings tokens = count_by (λ t. is_opening t.token) tokens

abbrev pub closings : List LocatedToken → ℕ
closings tokens = count_by (λ t. is_closing t.token) tokens

-- one token more
count_by-last : {X : Type 0} (test : X → Bool) (xs : List X) (x : X) → count_by test (xs ++ x ∷ []) ≡ (if test x then count_by test xs + 1 else count_by test xs)
count_by-last test xs x = sum_by-append (λ x. cond (test x) 1 0) xs (x ∷ []) ∙ by_test (count_by test xs) (test x)
  where
    by_test : (n : ℕ) (b : Bool) → n + (0 + cond b 1 0) ≡ (if b then n + 1 else n)
    by_test n true = omega arith
    by_test n false = omega arith

opening_closes : (token : Token) → is_opening token ≡ true → is_closing token ≡ false
opening_closes (Token.sign sign.ParenOpen) h = refl
opening_closes (Token.sign sign.BracketOpen) h = refl
opening_closes (Token.sign _) h = absurd (false≢true h)
opening_closes (Token.keyword k) h = absurd (false≢true h)
opening_closes (Token.name x) h = absurd (false≢true h)
opening_closes (Token.number n) h = absurd (false≢true h)
opening_closes Token.unfit h = absurd (false≢true h)

-- the brackets that are open behind one more opening bracket
open_behind : (before : List LocatedToken) (t : LocatedToken) → is_opening t.token ≡ true → open_brackets (before ++ t ∷ []) ≡ openings before + 1 - closings before
open_behind before t h =
    let opened : openings (before ++ t ∷ []) ≡ openings before + 1 = count_by-last (λ t. is_opening t.token) before t ∙ ap (λ b. if b then openings before + 1 else openings before) h in
    let closed : closings (before ++ t ∷ []) ≡ closings before =
    count_by-last (λ t. is_closing t.token) before t ∙ ap (λ b. if b then closings before + 1 else closings before) (opening_closes t.token h) in
    rw (opened, closed) refl

-- whether a token opens one bracket too many behind these
abbrev nests : List LocatedToken → LocatedToken → Bool
nests before t = is_opening t.token && nat_lt max_open_brackets (openings before + 1 - closings before)

pub nests_too_much : (before : List LocatedToken) (t : LocatedToken) → nests before t ≡ true → IsTooNested before t
nests_too_much before t h =
    let parts = and_parts (is_opening t.token) _ h in
    (parts.0, subst (λ n. max_open_brackets < n) (sym (open_behind before t parts.0)) (ltb-true max_open_brackets _ parts.1))

pub no_nest : (before : List LocatedToken) (t : LocatedToken) → nests before t ≡ false → IsTooNested before t → ⊥
no_nest before t h much =
    let deep = lt-ltb max_open_brackets (openings before + 1 - closings before) (subst (λ n. max_open_brackets < n) (open_behind before t much.0) much.1) in
    true≢false (sym (and_from (is_opening t.token) _ much.0 deep) ∙ h)

-- ---- the tokens in front of the one that is refused

-- nothing that is counted at these tokens, behind others, is beyond its limit
abbrev pub AllWithin : (before : List LocatedToken) → List CountedToken → Type 0
AllWithin before [] = ⊤
AllWithin before (t ∷ tokens) = (is_within t.quantity ≡ true) × (nests before t.located ≡ false) × AllWithin (before ++ t.located ∷ []) tokens

pub within_at : (before : List LocatedToken) (a : List CountedToken) (t : CountedToken) (b : List CountedToken) → AllWithin before (a ++ t ∷ b) →
    IsTooMuch t.quantity ⊎ IsTooNested (before ++ located_tokens a) t.located → ⊥
within_at before [] t b h (inl much) = within_not_much t.quantity h.0 much
within_at before [] t b h (inr nested) = no_nest before t.located h.1 (subst (λ x. IsTooNested x t.located) (append-nil before) nested)
within_at before (u ∷ a) t b h much =
    within_at (before ++ u.located ∷ []) a t b h.2
    (subst (λ x. IsTooMuch t.quantity ⊎ IsTooNested x t.located) (sym (append_assoc before (u.located ∷ []) (located_tokens a))) much)

-- the machine takes the tokens in front of these, within all limits
pub record Front (s : State) (before : List LocatedToken) (tokens : List LocatedToken) (behind : List LocatedToken) : Type 0 where
  pub front : List CountedToken
  pub last : State
  pub parts : tokens ≡ located_tokens front ++ behind
  pub reached : Reached s front last
  pub within : AllWithin before front

-- what an answer of the machine says
pub data Outcome (length : ℕ) (s : State) (before : List LocatedToken) (tokens : List LocatedToken) : Answer → Type 0 where
  -- a token isn't wanted
  stopped : (t : LocatedToken) (after : List LocatedToken) (f : Front s before tokens (t ∷ after)) → t.at < max_source_bytes → step f.last t.token t.at ≡ stops →
      Outcome length s before tokens (refused Refusal.syntax_ t.at)
  -- what is counted at a token is too much
  exceeded : (t : CountedToken) (after : List LocatedToken) (f : Front s before tokens (t.located ∷ after)) → t.located.at < max_source_bytes → (next : State) →
      step f.last t.located.token t.located.at ≡ goes t.quantity next → IsTooMuch t.quantity ⊎ IsTooNested (before ++ located_tokens f.front) t.located →
      Outcome length s before tokens (refused Refusal.size t.located.at)
  -- the tokens that may be read end
  ended : (after : List LocatedToken) (f : Front s before tokens after) → readable after ≡ [] → Outcome length s before tokens (end_answer length (finish f.last))

-- a token in front
abbrev one_more : (length : ℕ) (s next : State) (before : List LocatedToken) (t : LocatedToken) (quantity : Quantity) (tokens behind : List LocatedToken) → step s t.token t.at ≡ goes quantity next →
    is_within quantity ≡ true → nests before t ≡ false → Front next (before ++ t ∷ []) tokens behind → Front s before (t ∷ tokens) behind
one_more length s next before t quantity tokens behind e small flat f = record {
  front = record { located = t; quantity = quantity } ∷ f.front;
  last = f.last;
  parts = ap (λ x. t ∷ x) f.parts;
  reached = (next, e, f.reached);
  within = (small, flat, f.within);
}

more_before : (length : ℕ) (s next : State) (before : List LocatedToken) (t : LocatedToken) (quantity : Quantity) (tokens : List LocatedToken) (answer : Answer) → step s t.token t.at ≡ goes quantity next →
    is_within quantity ≡ true → nests before t ≡ false → Outcome length next (before ++ t ∷ []) tokens answer → Outcome length s before (t ∷ tokens) answer
more_before length s next before t quantity tokens answer e small flat (stopped u after f low stop) =
    stopped u after (one_more length s next before t quantity tokens (u ∷ after) e small flat f) low stop
more_before length s next before t quantity tokens answer e small flat (exceeded u after f low then_ goes_on much) =
    exceeded u after (one_more length s next before t quantity tokens (u.located ∷ after) e small flat f) low then_ goes_on
    (subst (λ x. IsTooMuch u.quantity ⊎ IsTooNested x u.located) (append_assoc before (t ∷ []) (located_tokens f.front)) much)
more_before length s next before t quantity tokens answer e small flat (ended after f none) = ended after (one_more length s next before t quantity tokens after e small flat f) none

abbrev nothing_taken : (s : State) (before tokens : List LocatedToken) → Front s before tokens tokens
nothing_taken s before tokens = record { front = []; last = s; parts = refl; reached = refl; within = tt }

-- a token that isn't within the limits
beyond : (before : List LocatedToken) (t : LocatedToken) (quantity : Quantity) → (is_within quantity && not (nests before t)) ≡ false → IsTooMuch quantity ⊎ IsTooNested before t
beyond before t quantity h = by_quantity (is_within quantity) refl h
  where
    by_nesting : (b : Bool) → nests before t ≡ b → not b ≡ false → IsTooMuch quantity ⊎ IsTooNested before t
    by_nesting true e h = inr (nests_too_much before t e)
    by_nesting false e h = absurd (true≢false h)

    by_quantity : (b : Bool) → is_within quantity ≡ b → (b && not (nests before t)) ≡ false → IsTooMuch quantity ⊎ IsTooNested before t
    by_quantity true e h = by_nesting (nests before t) refl h
    by_quantity false e h = inl (beyond_much quantity e)

not_true : (b : Bool) → not b ≡ true → b ≡ false
not_true true h = absurd (false≢true h)
not_true false h = refl

-- the answer behind one token more
abbrev answer_behind : (length : ℕ) (before : List LocatedToken) (t : LocatedToken) (tokens : List LocatedToken) → State → Answer
answer_behind length before t tokens next =
    run length next (nested_tokens (if is_opening t.token then openings before + 1 else openings before) (if is_closing t.token then closings before + 1 else closings before) (readable tokens))

-- what the answer says, behind these tokens
pub outcome : (length : ℕ) (s : State) (before : List LocatedToken) (tokens : List LocatedToken) →
    Outcome length s before tokens (run length s (nested_tokens (openings before) (closings before) (readable tokens)))
outcome length s before [] = ended [] (nothing_taken s before []) refl
outcome length s before (t ∷ tokens) = by_limit (nat_lt t.at max_source_bytes) refl (λ next. outcome length next (before ++ t ∷ []) tokens)
  where
    by_next : (n : Next) → step s t.token t.at ≡ n → t.at < max_source_bytes → ((next : State) → Outcome length next (before ++ t ∷ []) tokens (answer_behind length before t tokens next)) →
        Outcome length s before (t ∷ tokens) (token_answer length n (nests before t) t.at (answer_behind length before t tokens))
    by_next stops e low more = stopped t tokens (nothing_taken s before (t ∷ tokens)) low e
    by_next (goes quantity next) e low more = by_within (is_within quantity && not (nests before t)) refl
      where
        by_within : (b : Bool) → (is_within quantity && not (nests before t)) ≡ b → Outcome length s before (t ∷ tokens) (if b then answer_behind length before t tokens next else refused Refusal.size t.at)
        by_within true h =
            let parts = and_parts (is_within quantity) _ h in
            more_before length s next before t quantity tokens (answer_behind length before t tokens next) e parts.0 (not_true (nests before t) parts.1) (more next)
        by_within false h =
            exceeded (record { located = t; quantity = quantity }) tokens (nothing_taken s before (t ∷ tokens)) low next e
            (subst (λ x. IsTooMuch quantity ⊎ IsTooNested x t) (sym (append-nil before)) (beyond before t quantity h))

    by_limit : (b : Bool) → nat_lt t.at max_source_bytes ≡ b →
        ((next : State) → Outcome length next (before ++ t ∷ []) tokens (run length next (nested_tokens (openings (before ++ t ∷ [])) (closings (before ++ t ∷ [])) (readable tokens)))) →
        Outcome length s before (t ∷ tokens) (run length s (nested_tokens (openings before) (closings before) (if b then t ∷ readable tokens else [])))
    by_limit true low more = by_next (step s t.token t.at) refl (ltb-true t.at max_source_bytes low)
        (λ next. subst (λ n. Outcome length next (before ++ t ∷ []) tokens (run length next (nested_tokens n (if is_closing t.token then closings before + 1 else closings before) (readable tokens))))
        (count_by-last (λ t. is_opening t.token) before t)
        (subst (λ n. Outcome length next (before ++ t ∷ []) tokens (run length next (nested_tokens (openings (before ++ t ∷ [])) n (readable tokens)))) (count_by-last (λ t. is_closing t.token) before t) (more next)))
    by_limit false high more = ended (t ∷ tokens) (nothing_taken s before (t ∷ tokens)) (rw high refl)
