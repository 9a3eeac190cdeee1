-- What stands at the front of a text, as the code finds it.
use Rattle.std.proofs.Common.{◌≡◌, ℕ, zero, suc, ◌+◌, ◌-◌, ◌<◌, ◌≤◌, Bool, true, false, ◌&&◌, List, [], ◌∷◌, ◌++◌, length, take, drop, length-append, length-drop, append_assoc, min, inl, inr, refl, sym, ap, ◌∙◌, subst, arith}
use Rattle.std.specs.Prelude.{if◌then◌else◌, nat_lt, map, Option, Some, None, option_map}
use Rattle.std.proofs.lemmas.List.{take_at, drop-drop, at_drop_all}
use Rattle.std.proofs.lemmas.Bool.{cases_lt}
use Rattle.std.proofs.lemmas.Bool.Decides.{nat_tests}
use Rattle.cm_syntax.specs.declared.token.Sign.{Sign}
use Rattle.cm_syntax.specs.Limit.{max_source_bytes, max_open_brackets}
use Rattle.cm_syntax.specs.Text.{is_space, is_word_byte}
use Rattle.cm_syntax.specs.Token.{Token, LocatedToken, token_at, begins, Tokens}
use Rattle.cm_syntax.specs.Lexer.{front, behind, opens_line, opens_block, has_end, Next, next, skips, finds, fails, block_length, run_next, run_token, sign_next, sign_there, followed, lexed}
use Rattle.cm_syntax.specs.Refusal.{is_opening, is_closing}
use Rattle.cm_syntax.specs.Parser.{capped_token, capped, readable, NestedToken, nested_tokens, run, start, text_answer}
use Rattle.cm_syntax.proofs.parser.NumberCap.{capped_text}
use Rattle.cm_syntax.proofs.lexing.TokenLaw.{Tokens-one}
use Rattle.cm_syntax.proofs.lexing.Lexing.{front-behind, lexed_front, lexed_tokens, IsSized, next_sized}
use Rattle.cm_reader.specs.declared.token.Token.{Token as HeldToken}
use Rattle.cm_reader.specs.declared.token.Token.TheVariants as held
use Rattle.cm_reader.specs.declared.token.LocatedToken.{LocatedToken as HeldLocatedToken}
use Rattle.cm_reader.specs.Next.{token_of, nested_of, nested}
use Rattle.cm_reader.specs.Found.{capped_next}

pub front_within : (test : ℕ → Bool) (bytes : List ℕ) → length (front test bytes) ≤ length bytes
front_within test bytes = omega (arith, ap length (front-behind test bytes), length-append (front test bytes) (behind test bytes))

pub front_taken : (test : ℕ → Bool) (bytes : List ℕ) (n : ℕ) → n ≡ length (front test bytes) → take n bytes ≡ front test bytes
front_taken test bytes n is = ap (take n) (front-behind test bytes) ∙ take_at (front test bytes) (behind test bytes) n (sym is)

module _ (bytes : List ℕ) (black : begins is_space bytes ≡ false) where
  module _ (no_line : opens_line bytes ≡ false) where
    pub next_block : opens_block bytes ≡ true → next bytes ≡ (if has_end (drop 2 bytes) then skips (block_length bytes) else fails)
    next_block b = rw (black, no_line, b) refl

    module _ (no_block : opens_block bytes ≡ false) where
      pub next_run : begins is_word_byte bytes ≡ true → next bytes ≡ run_next (run_token (front is_word_byte bytes)) (length (front is_word_byte bytes))
      next_run w = rw (black, no_line, no_block, w) refl

      pub next_sign : begins is_word_byte bytes ≡ false → next bytes ≡ sign_next (sign_there bytes)
      next_sign w = rw (black, no_line, no_block, w) refl

pub capped_sign : (o : Option Sign) → capped_next (sign_next o) ≡ sign_next o
capped_sign (Some s) = refl
capped_sign None = refl

pub capped_block : (b : Bool) (n : ℕ) → capped_next (if b then skips n else fails) ≡ (if b then skips n else fails)
capped_block true n = refl
capped_block false n = refl

pub capped_run : (k o : Option Token) (n m : ℕ) → k ≡ option_map capped_token o → n ≡ m → run_next k n ≡ capped_next (run_next o m)
capped_run k (Some token) n m e f = λ i. run_next (e i) (f i)
capped_run k None n m e f = λ i. run_next (e i) (f i)

-- ---- the tokens that are left

-- the tokens of a text that stand from this offset on and may be read
abbrev pub tokens_left : List ℕ → (at : ℕ) → List LocatedToken
tokens_left bytes at = readable (map capped (lexed (length (drop at bytes)) at (drop at bytes)))

within_limit : (at : ℕ) → at < max_source_bytes → nat_lt at max_source_bytes ≡ true
within_limit at lt = grind (arith, nat_tests)

beyond_limit : (at : ℕ) → max_source_bytes ≤ at → nat_lt at max_source_bytes ≡ false
beyond_limit at le = grind (arith, nat_tests)

-- what is found at an offset that may be read is read
followed_read : (found : Next) (at : ℕ) (more : ℕ → List LocatedToken) → at < max_source_bytes →
    readable (map capped (followed found at more)) ≡ followed (capped_next found) at (λ n. readable (map capped (more n)))
followed_read (skips n) at more lt = refl
followed_read (finds token n) at more lt = rw (within_limit at lt) refl
followed_read fails at more lt = rw (within_limit at lt) refl

-- the tokens that are left behind what is found at an offset
left_found : (bytes : List ℕ) (at : ℕ) (found : Next) → at < length bytes → at < max_source_bytes → found ≡ capped_next (next (drop at bytes)) →
    tokens_left bytes at ≡ followed found at (λ n. tokens_left bytes (at + n))
left_found bytes at found some lt is =
    let rest = drop at bytes in
    let stands = ap (λ tokens. readable (map capped tokens)) (lexed_front at rest (omega (arith, length-drop at bytes))) in
    let read = followed_read (next rest) at (λ n. lexed (length (drop n rest)) (at + n) (drop n rest)) lt in
    let behind : followed (capped_next (next rest)) at (λ n. readable (map capped (lexed (length (drop n rest)) (at + n) (drop n rest)))) ≡
    followed (capped_next (next rest)) at (λ n. tokens_left bytes (at + n)) =
    λ i. followed (capped_next (next rest)) at (λ n. readable (map capped (lexed (length (drop-drop n at bytes i)) (at + n) (drop-drop n at bytes i)))) in
    stands ∙ (read ∙ (behind ∙ sym (ap (λ f. followed f at (λ n. tokens_left bytes (at + n))) is)))

capped_sized : (found : Next) (bytes : List ℕ) → IsSized found bytes → IsSized (capped_next found) bytes
capped_sized (skips n) bytes h = h
capped_sized (finds token n) bytes h = h
capped_sized fails bytes h = h

module _ (bytes : List ℕ) (at : ℕ) (some : at < length bytes) (lt : at < max_source_bytes) where
  sized : (found : Next) → found ≡ capped_next (next (drop at bytes)) → IsSized found (drop at bytes)
  sized found is =
      subst (λ f. IsSized f (drop at bytes)) (sym is) (capped_sized (next (drop at bytes)) (drop at bytes) (next_sized (drop at bytes) (omega (arith, length-drop at bytes))))

  -- what was taken, and which tokens are left
  pub record Taken (n : ℕ) (tokens : List LocatedToken → List LocatedToken) : Type 0 where
    pub more : 0 < n
    pub within : at + n ≤ length bytes
    pub left : tokens_left bytes at ≡ tokens (tokens_left bytes (at + n))

  pub left_skips : (n : ℕ) → skips n ≡ capped_next (next (drop at bytes)) → Taken n (λ rest. rest)
  left_skips n is =
      let size = sized (skips n) is in
      record { more = size.0; within = omega (arith, size.1, length-drop at bytes); left = left_found bytes at (skips n) some lt is }

  pub left_finds : (token : Token) (n : ℕ) → finds token n ≡ capped_next (next (drop at bytes)) → Taken n (λ rest. token_at token at ∷ rest)
  left_finds token n is =
      let size = sized (finds token n) is in
      record { more = size.0; within = omega (arith, size.1, length-drop at bytes); left = left_found bytes at (finds token n) some lt is }

  pub left_fails : fails ≡ capped_next (next (drop at bytes)) → tokens_left bytes at ≡ token_at Token.unfit at ∷ []
  left_fails is = left_found bytes at fails some lt is

-- at the end of the text none is left
left_end : (bytes : List ℕ) (at : ℕ) → length bytes ≤ at → tokens_left bytes at ≡ []
left_end bytes at le = at_drop_all (λ (xs : List ℕ). readable (map capped (lexed (length xs) at xs))) bytes at le

-- beyond the limit none may be read
followed_far : (found : Next) (at : ℕ) (more : ℕ → List LocatedToken) → max_source_bytes ≤ at → ((n : ℕ) → readable (map capped (more n)) ≡ []) →
    readable (map capped (followed found at more)) ≡ []
followed_far (skips n) at more le h = h n
followed_far (finds token n) at more le h = rw (beyond_limit at le) refl
followed_far fails at more le h = rw (beyond_limit at le) refl

lexed_far : (steps at : ℕ) (bytes : List ℕ) → max_source_bytes ≤ at → readable (map capped (lexed steps at bytes)) ≡ []
lexed_far zero at bytes le = refl
lexed_far (suc steps) at [] le = refl
lexed_far (suc steps) at (b ∷ bytes) le =
    followed_far (next (b ∷ bytes)) at (λ n. lexed steps (at + n) (drop n (b ∷ bytes))) le (λ n. lexed_far steps (at + n) (drop n (b ∷ bytes)) (omega arith))

left_far : (bytes : List ℕ) (at : ℕ) → max_source_bytes ≤ at → tokens_left bytes at ≡ []
left_far bytes at le = lexed_far (length (drop at bytes)) at (drop at bytes) le

pub left_none : (bytes : List ℕ) (at end : ℕ) → end ≡ min (length bytes) max_source_bytes → end ≤ at → tokens_left bytes at ≡ []
left_none bytes at end is le = elim (cases_lt at (length bytes)) [ inl some ↦ left_far bytes at (omega arith) | inr all ↦ left_end bytes at all ]

-- ---- the tokens that were found

nested-append : (xs ys : List HeldLocatedToken) → nested (xs ++ ys) ≡ nested xs ++ nested ys
nested-append [] ys = refl
nested-append (x ∷ xs) ys = ap (λ ts. nested_of x ∷ ts) (nested-append xs ys)

-- one token more
pub found_more : (list new : List HeldLocatedToken) (token : HeldToken) (at : ℕ) (too_nested : Bool) (o c p d : ℕ) (left rest : List LocatedToken) (whole : List NestedToken) →
    new ≡ list ++ record { token = token; at = at; too_nested = too_nested } ∷ [] →
    too_nested ≡ (is_opening (token_of token) && nat_lt max_open_brackets (o + 1 - c)) →
    p ≡ (if is_opening (token_of token) then o + 1 else o) → d ≡ (if is_closing (token_of token) then c + 1 else c) →
    left ≡ token_at (token_of token) at ∷ rest → nested list ++ nested_tokens o c left ≡ whole → nested new ++ nested_tokens p d rest ≡ whole
found_more list new token at too_nested o c p d left rest whole is nested_is p_is d_is left_is all =
    rw (is, p_is, d_is, nested_is) (
    ap (λ ts. ts ++ nested_tokens (if is_opening (token_of token) then o + 1 else o) (if is_closing (token_of token) then c + 1 else c) rest)
    (nested-append list (record { token = token; at = at; too_nested = is_opening (token_of token) && nat_lt max_open_brackets (o + 1 - c) } ∷ [])) ∙
    (append_assoc (nested list) _ _ ∙ (sym (ap (λ ts. nested list ++ nested_tokens o c ts) left_is) ∙ all)))

-- the last token, a byte that begins nothing
pub found_last : (list new : List HeldLocatedToken) (at o c : ℕ) (left : List LocatedToken) (whole : List NestedToken) →
    new ≡ list ++ record { token = held.Unfit; at = at; too_nested = false } ∷ [] → left ≡ token_at Token.unfit at ∷ [] →
    nested list ++ nested_tokens o c left ≡ whole → nested new ≡ whole
found_last list new at o c left whole is left_is all =
    ap nested is ∙ (nested-append list (record { token = held.Unfit; at = at; too_nested = false } ∷ []) ∙
    (sym (ap (λ ts. nested list ++ nested_tokens o c ts) left_is) ∙ all))

-- a count that is at most the offset stays so
pub grown : (b : Bool) (count new at n : ℕ) → new ≡ (if b then count + 1 else count) → count ≤ at → 0 < n → new ≤ at + n
grown true count new at n is le more = omega arith
grown false count new at n is le more = omega arith

-- all tokens are found
pub found_all : (bytes : List ℕ) (all : List LocatedToken) (list : List NestedToken) → Tokens 0 bytes all → list ≡ nested_tokens 0 0 (tokens_left bytes 0) →
    list ≡ nested_tokens 0 0 (readable (map capped all))
found_all bytes all list h is = is ∙ ap (λ tokens. nested_tokens 0 0 (readable (map capped tokens))) (Tokens-one (lexed_tokens (length bytes) 0 bytes (omega arith)) h)

-- the machine answers to the tokens that were found as to the text
pub tokens_answer : (all : List LocatedToken) (list : List NestedToken) (size : ℕ) → list ≡ nested_tokens 0 0 (readable (map capped all)) →
    run size start list ≡ text_answer all size
tokens_answer all list size is = ap (run size start) is ∙ capped_text all size
