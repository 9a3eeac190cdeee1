-- Tokens laid out with one space between two of them, and that these are the tokens of the text so made.
use Rattle.std.proofs.Common.{◌≡◌, ℕ, zero, suc, ◌+◌, ◌^◌, ◌<◌, ◌≤◌, Bool, true, false, not, ◌&&◌, ◌||◌, List, [], ◌∷◌, ◌++◌, length, get_or, map, ◌⊎◌, cond, Some, refl, sym, ap, ◌∙◌, subst, arith, inl, inr, append-nil}
use Rattle.std.specs.Prelude.{⊤, ◌==◌, slice_index}
use Rattle.std.specs.Char.{is_ascii_digit}
use Rattle.std.specs.Fmt.{decimal}
use Rattle.std.specs.List.{list_all, find, join_with_byte}
use Rattle.std.specs.Str.{all_ascii_digits}
use Rattle.std.proofs.lemmas.Bool.{and_parts}
use Rattle.std.proofs.lemmas.Bool.Decides.{nat_tests}
use Rattle.std.proofs.lemmas.Fmt.{decimal_digit, decimal_nonempty, first_decimal, digits_decimal, digits_value-decimal}
use Rattle.std.proofs.lemmas.Str.Parse.{numerals_by_value, tells_all_ascii_digits}
use Rattle.cm_syntax.specs.declared.token.Sign.{Sign}
use Rattle.cm_syntax.specs.Text.{is_space, is_word_byte, is_same, sign_text}
use Rattle.cm_syntax.specs.Token.{Token, LocatedToken, token_at, DoesNotBegin, begins, IsName, IsNumber, Spells, OpensComment, IsFirstToken, Tokens}
use Rattle.cm_syntax.specs.Canonical.{token_text}
use Rattle.cm_syntax.specs.Lexer.{all_signs, front}
use Rattle.cm_syntax.proofs.lexing.Spelling.{sign_written-text}
use Rattle.cm_syntax.proofs.lexing.TokenLaw.{word_no_space, word_or_sign, token_some}
use Rattle.cm_syntax.proofs.lexing.Lexing.{passing_front, whole_front, begins_all, run_apart}

-- a token that can be written: a name is a name, and a number isn't more than the greatest literal
abbrev pub Writable : Token → Type 0
Writable (Token.name bytes) = IsName bytes
Writable (Token.number value) = value ≤ 2147483647
Writable Token.unfit = ⊥
Writable _ = ⊤

-- all of them can be written
abbrev pub AllWritable : List Token → Type 0
AllWritable [] = ⊤
AllWritable (t ∷ ts) = Writable t × AllWritable ts

-- the offset behind a token and the space after it
abbrev pub behind : ℕ → Token → ℕ
behind at t = at + length (token_text t) + 1

-- the tokens with their offsets, with one space between two of them
abbrev pub laid : ℕ → List Token → List LocatedToken
laid at [] = []
laid at (t ∷ ts) = token_at t at ∷ laid (behind at t) ts

-- ---- how a writable token is spelled

-- the two tests for digits agree
same_digits : (text : List ℕ) → all_ascii_digits text ≡ list_all is_ascii_digit text
same_digits [] = refl
same_digits (b ∷ text) = ap (λ t. is_ascii_digit b && t) (same_digits text)

-- a number is written without a leading zero
decimal_plain : (n : ℕ) → n < 2 ^ 64 → slice_index (decimal n) 0 ≡ 48 → length (decimal n) ≡ 1
decimal_plain zero small e = ap length (decimal_digit 0 (omega arith))
decimal_plain (suc n) small e = absurd (omega (arith, first_decimal (suc n) (omega arith) small))

-- a number is spelled by its digits
decimal_number : (n : ℕ) → n < 2 ^ 64 → IsNumber (decimal n) n
decimal_number n small =
    let own = numerals_by_value _ tells_all_ascii_digits in
    let digits : list_all is_ascii_digit (decimal n) ≡ true = sym (same_digits (decimal n)) ∙ digits_decimal own n small in
    record {
      begins_so = begins_all is_ascii_digit (decimal n) (decimal_nonempty n small) digits;
      digits = digits;
      plain = decimal_plain n small;
      same = sym (digits_value-decimal own n small);
    }

-- a writable token is spelled by its text
writable_spelled : (t : Token) → Writable t → Spells t (token_text t)
writable_spelled (Token.keyword k) h = refl
writable_spelled (Token.sign s) h = refl
writable_spelled (Token.name bytes) h = (refl, h)
writable_spelled (Token.number value) h = decimal_number value (omega arith)
writable_spelled Token.unfit h = absurd h

-- ---- the bytes of a token

-- a byte other than white space
abbrev is_black : ℕ → Bool
is_black byte = not (is_space byte)

-- the text and a space don't begin a comment
abbrev is_no_comment : List ℕ → Bool
is_no_comment text = not (get_or text 0 0 == 47 && (get_or text 1 0 == 47 || get_or text 1 0 == 42))

-- what is found is among those of which the test holds
found_holds : {X : Type 0} (test holds : X → Bool) (xs : List X) (x : X) → find test xs ≡ Some x → list_all holds xs ≡ true → holds x ≡ true
found_holds test holds [] x e all = cc
found_holds test holds (y ∷ xs) x e all =
    let parts = and_parts (holds y) (list_all holds xs) all in by_test (test y) parts.0 (λ found. found_holds test holds xs x found parts.1) e
  where
    by_test : (t : Bool) → holds y ≡ true → (find test xs ≡ Some x → holds x ≡ true) → cond t (Some y) (find test xs) ≡ Some x → holds x ≡ true
    by_test true h more e = let same : y ≡ x = cc in ap holds (sym same) ∙ h
    by_test false h more e = more e

-- no sign has white space in it or begins a comment
sign_holds : (s : Sign) → (list_all is_black (sign_text s) && is_no_comment (sign_text s)) ≡ true
sign_holds s =
    let holds : Sign → Bool = λ t. list_all is_black (sign_text t) && is_no_comment (sign_text t) in
    found_holds (λ t. is_same (sign_text t) (sign_text s)) holds all_signs s (sign_written-text s) refl

sign_bytes : (s : Sign) → (list_all is_black (sign_text s) ≡ true) × (is_no_comment (sign_text s) ≡ true)
sign_bytes s = and_parts (list_all is_black (sign_text s)) (is_no_comment (sign_text s)) (sign_holds s)

-- nor has a word
word_bytes : (text : List ℕ) → list_all is_word_byte text ≡ true → list_all is_black text ≡ true
word_bytes [] h = refl
word_bytes (b ∷ text) h =
    let parts = and_parts (is_word_byte b) (list_all is_word_byte text) h in
    rw (word_no_space b parts.0, word_bytes text parts.1) refl

word_no_comment : (text : List ℕ) → begins is_word_byte text ≡ true → is_no_comment text ≡ true
word_no_comment [] h = refl
word_no_comment (b ∷ text) h = grind (arith, nat_tests)

-- nor any token
token_bytes : (t : Token) (text : List ℕ) → Spells t text → list_all is_black text ≡ true
token_bytes t text h = elim (word_or_sign t text h) [
  | inl word ↦ word_bytes text word.1
  | inr found ↦ ap (list_all is_black) found.1 ∙ (sign_bytes found.0).0
]

token_no_comment : (t : Token) (text : List ℕ) → Spells t text → is_no_comment text ≡ true
token_no_comment t text h = elim (word_or_sign t text h) [
  | inl word ↦ word_no_comment text word.0
  | inr found ↦ ap is_no_comment found.1 ∙ (sign_bytes found.0).1
]

-- ---- a token before white space or the end

-- no word byte follows
no_word_behind : (rest : List ℕ) → DoesNotBegin is_black rest → DoesNotBegin is_word_byte rest
no_word_behind [] h = tt
no_word_behind (b ∷ rest) h = grind (arith, nat_tests)

-- the text of a token begins no comment there
no_pair : (text rest more : List ℕ) (c : ℕ) → 0 < length text → is_no_comment text ≡ true → DoesNotBegin is_black rest →
    (c ≡ 47) ⊎ (c ≡ 42) → text ++ rest ≡ 47 ∷ c ∷ more → ⊥
no_pair [] rest more c some slash black h e = absurd (omega arith)
no_pair (a ∷ []) [] more c some slash black h e = absurd (omega (arith, ap length e))
no_pair (a ∷ []) (b ∷ rest) more c some slash black h e =
    let second : b ≡ c = omega (arith, ap (λ text. get_or text 1 0) e) in grind (arith, nat_tests)
no_pair (a ∷ b ∷ text) rest more c some slash black h e =
    let first : a ≡ 47 = omega (arith, ap (λ text. get_or text 0 0) e) in
    let second : b ≡ c = omega (arith, ap (λ text. get_or text 1 0) e) in grind (arith, nat_tests)

no_comment_before : (text rest : List ℕ) → 0 < length text → is_no_comment text ≡ true → DoesNotBegin is_black rest → OpensComment (text ++ rest) → ⊥
no_comment_before text rest some slash black (more, inl e) = no_pair text rest more 47 some slash black (inl refl) e
no_comment_before text rest some slash black (more, inr e) = no_pair text rest more 42 some slash black (inr refl) e

-- no other token is longer
longest_there : (text rest longer less : List ℕ) → list_all is_black text ≡ true → DoesNotBegin is_black rest → list_all is_black longer ≡ true →
    text ++ rest ≡ longer ++ less → length longer ≤ length text
longest_there text rest longer less black no_more all parts =
    omega (
      arith,
      passing_front is_black longer less all,
      ap (λ bytes. length (front is_black bytes)) parts,
      ap length (whole_front is_black text rest black no_more),
    )

-- a writable token stands there
writable_stands : (t : Token) (rest : List ℕ) → Writable t → DoesNotBegin is_black rest → IsFirstToken (token_text t ++ rest) t (token_text t) rest
writable_stands t rest h black =
    let spelled = writable_spelled t h in
    let black_text = token_bytes t (token_text t) spelled in
    record {
      parts = refl;
      spelled = spelled;
      longest = λ other longer less is parts. longest_there (token_text t) rest longer less black_text black (token_bytes other longer is) parts;
      apart = run_apart t rest (no_word_behind rest black);
      no_comment = no_comment_before (token_text t) rest (token_some t (token_text t) spelled) (token_no_comment t (token_text t) spelled) black;
    }

-- ---- the tokens of the text

-- the text of writable tokens with one space between two of them has these tokens
pub laid_tokens : (at : ℕ) (ts : List Token) → AllWritable ts → Tokens at (join_with_byte 32 (map token_text ts)) (laid at ts)
laid_tokens at [] h = Tokens.end
laid_tokens at (t ∷ []) h =
    Tokens.token (subst (λ bytes. IsFirstToken bytes t (token_text t) []) (append-nil (token_text t)) (writable_stands t [] h.0 tt)) Tokens.end
laid_tokens at (t ∷ u ∷ ts) h =
    let stands = writable_stands t (32 ∷ join_with_byte 32 (map token_text (u ∷ ts))) h.0 refl in
    Tokens.token stands (Tokens.space refl (laid_tokens (behind at t) (u ∷ ts) h.1))
