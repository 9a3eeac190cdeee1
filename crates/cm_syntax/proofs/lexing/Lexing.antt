-- Each text has a token list: a reader of tokens, and that what it gives is the list of the definition.
use Rattle.std.proofs.Common.{◌≡◌, ◌≢◌, ℕ, zero, suc, ◌+◌, ◌<◌, ◌≤◌, Bool, true, false, ◌&&◌, ◌||◌, List, [], ◌∷◌, ◌++◌, length, get_or, take, drop, refl, sym, ap, ◌∙◌, subst, arith, Option, None, Some, inl, inr, not, if◌then◌else◌, append_assoc, length-append, cond}
use Rattle.std.proofs.lemmas.List.{take_at, drop_at, take-append-drop}
use Rattle.std.proofs.Common.{length-take, length-drop}
use Rattle.std.specs.Prelude.{◌==◌, ⊤, slice_index, codes}
use Rattle.std.specs.List.{list_all, find}
use Rattle.std.specs.Char.{is_ascii_digit}
use Rattle.std.specs.Str.Parse.{digits_value}
use Rattle.std.proofs.lemmas.Bool.{and_parts, true≢false, and_from, eqb-true}
use Rattle.std.proofs.lemmas.Bool.Decides.{nat_tests}
use Rattle.cm_syntax.specs.declared.token.Keyword.{Keyword}
use Rattle.cm_syntax.specs.declared.token.Sign.{Sign}
use Rattle.cm_syntax.specs.Text.{is_space, is_letter, is_word_byte, is_same, keyword_text, sign_text}
use Rattle.cm_syntax.specs.Token.{Token, LocatedToken, DoesNotBegin, begins, is_reserved, IsNumber, Spells, IsApart, IsComment, OpensComment, IsFirstToken, IsFaulty, Tokens}
use Rattle.cm_syntax.specs.Lexer.{all_keywords, all_signs, keyword_written, sign_written, front, behind, is_number, run_by, run_token, first_of_two, sign_there, in_line, opens_line, opens_block, closes, has_end, before_end, behind_end, Next, skips, finds, fails, run_next, sign_next, line_length, block_length, next, followed, lexed}
use Rattle.cm_syntax.proofs.lexing.Spelling.{keyword_written-text, keyword_begins, reserved_begins, sign_written-text, sign_short, sign_begins, is_same-equal}
use Rattle.cm_syntax.proofs.lexing.TokenLaw.{Tokens-one, word_or_sign, token_some, digits_in_word, comment_opens, dropped}

-- ---- the bytes at the front that pass a test, and the others

pub front-behind : (test : ℕ → Bool) (bytes : List ℕ) → bytes ≡ front test bytes ++ behind test bytes
front-behind test [] = refl
front-behind test (b ∷ bytes) =
    elim (test b) as (λ t. b ∷ bytes ≡ (if t then b ∷ front test bytes else []) ++ (if t then behind test bytes else b ∷ bytes))
    [ true ↦ ap (λ more. b ∷ more) (front-behind test bytes) | false ↦ refl ]

pub front_passes : (test : ℕ → Bool) (bytes : List ℕ) → list_all test (front test bytes) ≡ true
front_passes test [] = refl
front_passes test (b ∷ bytes) =
    let passes : (t : Bool) → test b ≡ t → list_all test (if t then b ∷ front test bytes else []) ≡ true
    = λ t. elim t as (λ t. test b ≡ t → list_all test (if t then b ∷ front test bytes else []) ≡ true)
    [ true ↦ λ e. and_from _ _ e (front_passes test bytes) | false ↦ λ e. refl ] in
    passes (test b) refl

pub behind_begins : (test : ℕ → Bool) (bytes : List ℕ) → DoesNotBegin test (behind test bytes)
behind_begins test [] = tt
behind_begins test (b ∷ bytes) =
    let passes : (t : Bool) → test b ≡ t → DoesNotBegin test (if t then behind test bytes else b ∷ bytes)
    = λ t. elim t as (λ t. test b ≡ t → DoesNotBegin test (if t then behind test bytes else b ∷ bytes))
    [ true ↦ λ e. behind_begins test bytes | false ↦ λ e. e ] in
    passes (test b) refl

-- bytes at the front that pass are no more than all of these
pub passing_front : (test : ℕ → Bool) (text less : List ℕ) → list_all test text ≡ true → length text ≤ length (front test (text ++ less))
passing_front test [] less h = omega arith
passing_front test (b ∷ text) less h =
    let parts = and_parts (test b) (list_all test text) h in
    rw parts.0 (omega (arith, passing_front test text less parts.1))

-- a front that passes, before a byte that doesn't, is all of the bytes that pass
pub whole_front : (test : ℕ → Bool) (text rest : List ℕ) → list_all test text ≡ true → DoesNotBegin test rest → front test (text ++ rest) ≡ text
whole_front test [] [] h n = refl
whole_front test [] (b ∷ rest) h n = rw n refl
whole_front test (b ∷ text) rest h n =
    let parts = and_parts (test b) (list_all test text) h in
    rw parts.0 (ap (λ more. b ∷ more) (whole_front test text rest parts.1 n))

pub begins_all : (test : ℕ → Bool) (text : List ℕ) → 0 < length text → list_all test text ≡ true → begins test text ≡ true
begins_all test [] some h = absurd (omega arith)
begins_all test (b ∷ text) some h = (and_parts (test b) (list_all test text) h).0

begins_front : (test : ℕ → Bool) (text rest : List ℕ) → 0 < length text → begins test (text ++ rest) ≡ begins test text
begins_front test [] rest some = absurd (omega arith)
begins_front test (b ∷ text) rest some = refl

begins_run : (test : ℕ → Bool) (bytes : List ℕ) → begins test bytes ≡ true → 0 < length (front test bytes)
begins_run test [] h = absurd (true≢false (sym h))
begins_run test (b ∷ bytes) h = rw h (omega arith)

-- ---- what is found passes

find-passes : {X : Type 0} (test : X → Bool) (xs : List X) (x : X) → find test xs ≡ Some x → test x ≡ true
find-passes test [] x e = cc
find-passes test (y ∷ xs) x e = at_test (test y) refl (λ found. find-passes test xs x found) e
  where
    at_test : (t : Bool) → test y ≡ t → (find test xs ≡ Some x → test x ≡ true) → cond t (Some y) (find test xs) ≡ Some x → test x ≡ true
    at_test true h more e = let same : y ≡ x = cc in ap test (sym same) ∙ h
    at_test false h more e = more e

keyword_found : (text : List ℕ) (k : Keyword) → keyword_written text ≡ Some k → text ≡ keyword_text k
keyword_found text k e = sym (is_same-equal (keyword_text k) text (find-passes (λ j. is_same (keyword_text j) text) all_keywords k e))

keyword_none : (text : List ℕ) (k : Keyword) → keyword_written text ≡ None → text ≡ keyword_text k → ⊥
keyword_none text k e same = let found : None ≡ Some k = sym e ∙ (ap keyword_written same ∙ keyword_written-text k) in cc

sign_found : (text : List ℕ) (s : Sign) → sign_written text ≡ Some s → text ≡ sign_text s
sign_found text s e = sym (is_same-equal (sign_text s) text (find-passes (λ t. is_same (sign_text t) text) all_signs s e))

sign_none : (text : List ℕ) (s : Sign) → sign_written text ≡ None → text ≡ sign_text s → ⊥
sign_none text s e same = let found : None ≡ Some s = sym e ∙ (ap sign_written same ∙ sign_written-text s) in cc

-- ---- a run of letters, digits and `_`

no_letter : (b : ℕ) → is_word_byte b ≡ true → is_letter b ≡ false → is_ascii_digit b ≡ true
no_letter b h l = ap (λ t. t || is_ascii_digit b) (sym l) ∙ h

no_letter_first : (text : List ℕ) → begins is_word_byte text ≡ true → begins is_letter text ≡ false → begins is_ascii_digit text ≡ true
no_letter_first [] h l = h
no_letter_first (b ∷ text) h l = no_letter b h l

number_plain : (text : List ℕ) → (not (slice_index text 0 == 48) || length text == 1) ≡ true → slice_index text 0 ≡ 48 → length text ≡ 1
number_plain text h e = grind (arith, nat_tests)

number_plain_back : (text : List ℕ) → (slice_index text 0 ≡ 48 → length text ≡ 1) → (not (slice_index text 0 == 48) || length text == 1) ≡ true
number_plain_back text h = grind (arith, nat_tests)

number_spelled : (text : List ℕ) → begins is_ascii_digit text ≡ true → is_number text ≡ true → IsNumber text (digits_value 10 text)
number_spelled text d h =
    let parts = and_parts (list_all is_ascii_digit text) _ h in
    record { begins_so = d; digits = parts.0; plain = number_plain text parts.1; same = refl }

run_spelled : (text : List ℕ) (t : Token) → begins is_word_byte text ≡ true → list_all is_word_byte text ≡ true → run_token text ≡ Some t → Spells t text
run_spelled text t b w e = by_keyword (keyword_written text) refl e
  where
    by_number : (n : Bool) → is_number text ≡ n → begins is_letter text ≡ false → (if n then Some (Token.number (digits_value 10 text)) else None) ≡ Some t → Spells t text
    by_number true n l e = let same : Token.number (digits_value 10 text) ≡ t = cc in subst (λ u. Spells u text) same (number_spelled text (no_letter_first text b l) n)
    by_number false n l e = absurd (cc)

    by_reserved : (r : Bool) → is_reserved text ≡ r → keyword_written text ≡ None → begins is_letter text ≡ true → (if r then Some Token.unfit else Some (Token.name text)) ≡ Some t → Spells t text
    by_reserved true r k l e = let same : Token.unfit ≡ t = cc in subst (λ u. Spells u text) same r
    by_reserved false r k l e =
        let same : Token.name text ≡ t = cc in
        subst (λ u. Spells u text) same (refl, record { begins_so = l; word = w; free = λ j. keyword_none text j k; not_reserved = r })

    by_letter : (l : Bool) → begins is_letter text ≡ l → keyword_written text ≡ None →
        (if l then (if is_reserved text then Some Token.unfit else Some (Token.name text)) else (if is_number text then Some (Token.number (digits_value 10 text)) else None)) ≡ Some t → Spells t text
    by_letter true l k e = by_reserved (is_reserved text) refl k l e
    by_letter false l k e = by_number (is_number text) refl l e

    by_keyword : (o : Option Keyword) → keyword_written text ≡ o → run_by o text ≡ Some t → Spells t text
    by_keyword (Some k) o e = let same : Token.keyword k ≡ t = cc in subst (λ u. Spells u text) same (keyword_found text k o)
    by_keyword None o e = by_letter (begins is_letter text) refl o e

-- where a run is no token it begins with a digit, and is no number
run_refused : (text : List ℕ) → run_token text ≡ None → (begins is_letter text ≡ false) × (is_number text ≡ false)
run_refused text e = by_keyword (keyword_written text) e
  where
    by_number : (n : Bool) → is_number text ≡ n → (if n then Some (Token.number (digits_value 10 text)) else None) ≡ None → is_number text ≡ false
    by_number true n e = absurd (cc)
    by_number false n e = n

    by_reserved : (r : Bool) → (if r then Some Token.unfit else Some (Token.name text)) ≡ None → ⊥
    by_reserved true e = cc
    by_reserved false e = cc

    by_letter : (l : Bool) → begins is_letter text ≡ l →
        (if l then (if is_reserved text then Some Token.unfit else Some (Token.name text)) else (if is_number text then Some (Token.number (digits_value 10 text)) else None)) ≡ None →
        (begins is_letter text ≡ false) × (is_number text ≡ false)
    by_letter true l e = absurd (by_reserved (is_reserved text) e)
    by_letter false l e = (l, by_number (is_number text) refl e)

    by_keyword : (o : Option Keyword) → run_by o text ≡ None → (begins is_letter text ≡ false) × (is_number text ≡ false)
    by_keyword (Some k) e = absurd (cc)
    by_keyword None e = by_letter (begins is_letter text) refl e

-- ---- a run of letters, digits and `_` in a text

-- the parts of a text with a run at its front
run_parts : (bytes : List ℕ) → begins is_word_byte bytes ≡ true →
    (0 < length (front is_word_byte bytes)) × (begins is_word_byte (front is_word_byte bytes) ≡ true)
run_parts bytes b =
    let some = begins_run is_word_byte bytes b in
    (some, begins_all is_word_byte (front is_word_byte bytes) some (front_passes is_word_byte bytes))

-- a sign doesn't stand where a letter, a digit or `_` does
no_sign_there : (bytes text less : List ℕ) (s : Sign) → begins is_word_byte bytes ≡ true → bytes ≡ text ++ less → text ≡ sign_text s → ⊥
no_sign_there bytes text less s b parts e =
    let some : 0 < length text = omega (arith, ap length e, sign_short s) in
    true≢false (sym b ∙ (ap (begins is_word_byte) parts ∙ (begins_front is_word_byte text less some ∙ (ap (begins is_word_byte) e ∙ sign_begins s))))

-- no token that fits is longer than the run
run_longest : (bytes : List ℕ) → begins is_word_byte bytes ≡ true → (other : Token) (longer less : List ℕ) → Spells other longer → bytes ≡ longer ++ less →
    length longer ≤ length (front is_word_byte bytes)
run_longest bytes b other longer less h parts = elim (word_or_sign other longer h) [
  | inl word ↦ subst (λ x. length longer ≤ length (front is_word_byte x)) (sym parts) (passing_front is_word_byte longer less word.1)
  | inr found ↦ absurd (no_sign_there bytes longer less found.0 b parts found.1)
]

no_slash : (rest : List ℕ) (bytes : List ℕ) (c : ℕ) → begins is_word_byte bytes ≡ true → bytes ≡ 47 ∷ c ∷ rest → ⊥
no_slash rest bytes c b e = true≢false (sym b ∙ ap (begins is_word_byte) e)

no_comment_there : (bytes : List ℕ) → begins is_word_byte bytes ≡ true → OpensComment bytes → ⊥
no_comment_there bytes b (rest, inl e) = no_slash rest bytes 47 b e
no_comment_there bytes b (rest, inr e) = no_slash rest bytes 42 b e

pub run_apart : (t : Token) (rest : List ℕ) → DoesNotBegin is_word_byte rest → IsApart t rest
run_apart (Token.keyword k) rest h = tt
run_apart (Token.sign s) rest h = tt
run_apart (Token.name x) rest h = tt
run_apart (Token.number n) rest h = h
run_apart Token.unfit rest h = tt

run_stands : (bytes : List ℕ) (t : Token) → begins is_word_byte bytes ≡ true → run_token (front is_word_byte bytes) ≡ Some t →
    IsFirstToken bytes t (front is_word_byte bytes) (behind is_word_byte bytes)
run_stands bytes t b e = record {
  parts = front-behind is_word_byte bytes;
  spelled = run_spelled (front is_word_byte bytes) t (run_parts bytes b).1 (front_passes is_word_byte bytes) e;
  longest = run_longest bytes b;
  apart = run_apart t (behind is_word_byte bytes) (behind_begins is_word_byte bytes);
  no_comment = no_comment_there bytes b;
}

-- the first byte of a front
first_same : (test : ℕ → Bool) (bytes : List ℕ) → begins is_word_byte bytes ≡ true → begins test (front is_word_byte bytes) ≡ begins test bytes
first_same test bytes b =
    sym (ap (begins test) (front-behind is_word_byte bytes) ∙ begins_front test (front is_word_byte bytes) (behind is_word_byte bytes) (run_parts bytes b).0)

-- Where the run is no token, none stands: it would be a number, and so the whole run.
lettered_there : (bytes : List ℕ) (text rest : List ℕ) → begins is_word_byte bytes ≡ true → bytes ≡ text ++ rest → 0 < length text →
    begins is_letter text ≡ true → begins is_letter (front is_word_byte bytes) ≡ false → ⊥
lettered_there bytes text rest b parts some l refused =
    true≢false (sym l ∙ (sym (begins_front is_letter text rest some) ∙ (sym (ap (begins is_letter) parts) ∙ (sym (first_same is_letter bytes b) ∙ refused))))

run_no_token : (bytes : List ℕ) → begins is_word_byte bytes ≡ true → run_token (front is_word_byte bytes) ≡ None → (t : Token) (text rest : List ℕ) → IsFirstToken bytes t text rest → ⊥
run_no_token bytes b e t text rest h = by_token t h.spelled h.apart
  where
    refused : (begins is_letter (front is_word_byte bytes) ≡ false) × (is_number (front is_word_byte bytes) ≡ false)
    refused = run_refused (front is_word_byte bytes) e

    lettered : (begins is_letter text ≡ true) → ⊥
    lettered l = lettered_there bytes text rest b h.parts (token_some t text h.spelled) l refused.0

    by_token : (u : Token) → Spells u text → IsApart u rest → ⊥
    by_token (Token.keyword k) s a = lettered (ap (begins is_letter) s ∙ keyword_begins k)
    by_token (Token.sign s) e a = no_sign_there bytes text rest s b h.parts e
    by_token (Token.name x) s a = lettered s.1.begins_so
    by_token (Token.number n) s a =
        let whole : front is_word_byte bytes ≡ text = ap (front is_word_byte) h.parts ∙ whole_front is_word_byte text rest (digits_in_word text s.digits) a in
        let number : is_number text ≡ true = and_from _ _ s.digits (number_plain_back text s.plain) in
        true≢false (sym number ∙ (sym (ap is_number whole) ∙ refused.1))
    by_token Token.unfit s a = lettered (reserved_begins text s)

-- ---- signs

-- a sign's text at the front is what is taken by its length
taken : (bytes longer less : List ℕ) (k : ℕ) → bytes ≡ longer ++ less → length longer ≡ k → take k bytes ≡ longer
taken bytes longer less k parts len = ap (take k) parts ∙ take_at longer less k len

not_this_long : (bytes longer less : List ℕ) (s : Sign) (k : ℕ) → bytes ≡ longer ++ less → longer ≡ sign_text s → sign_written (take k bytes) ≡ None → length longer ≡ k → ⊥
not_this_long bytes longer less s k parts e none len = sign_none (take k bytes) s none (taken bytes longer less k parts len ∙ e)

-- a sign in a text, by how long it is at most
sign_bounds : (bytes longer less : List ℕ) (s : Sign) → bytes ≡ longer ++ less → longer ≡ sign_text s → (0 < length longer) × (length longer ≤ 3) × (length longer ≤ length bytes)
sign_bounds bytes longer less s parts e =
    (omega (arith, ap length e, sign_short s), omega (arith, ap length e, sign_short s), omega (arith, ap length parts, length-append longer less))

-- no token that isn't a sign stands where no letter, digit or `_` does
no_word_there : (bytes longer less : List ℕ) → begins is_word_byte bytes ≡ false → bytes ≡ longer ++ less → 0 < length longer → begins is_word_byte longer ≡ true → ⊥
no_word_there bytes longer less b parts some w =
    true≢false (sym w ∙ (sym (begins_front is_word_byte longer less some) ∙ (sym (ap (begins is_word_byte) parts) ∙ b)))

module _ (bytes : List ℕ) (other_first : begins is_word_byte bytes ≡ false) where
  -- a token that fits here is a sign of at most k bytes, where none of more bytes stands here
  at_most : (k : ℕ) → ((longer less : List ℕ) (s : Sign) → bytes ≡ longer ++ less → longer ≡ sign_text s → length longer ≤ k) →
      (other : Token) (longer less : List ℕ) → Spells other longer → bytes ≡ longer ++ less → length longer ≤ length (take k bytes)
  at_most k bound other longer less h parts = elim (word_or_sign other longer h) [
    | inl word ↦ absurd (no_word_there bytes longer less other_first parts (token_some other longer h) word.0)
    | inr found ↦ omega (arith, bound longer less found.0 parts found.1, sign_bounds bytes longer less found.0 parts found.1, length-take k bytes)
  ]

  below_three : (longer less : List ℕ) (s : Sign) → bytes ≡ longer ++ less → longer ≡ sign_text s → length longer ≤ 3
  below_three longer less s parts e = (sign_bounds bytes longer less s parts e).1

  below_two : sign_written (take 3 bytes) ≡ None → (longer less : List ℕ) (s : Sign) → bytes ≡ longer ++ less → longer ≡ sign_text s → length longer ≤ 2
  below_two none3 longer less s parts e =
      let bounds = sign_bounds bytes longer less s parts e in
      let not3 : length longer ≢ 3 = not_this_long bytes longer less s 3 parts e none3 in omega arith

  below_one : sign_written (take 3 bytes) ≡ None → sign_written (take 2 bytes) ≡ None → (longer less : List ℕ) (s : Sign) →
      bytes ≡ longer ++ less → longer ≡ sign_text s → length longer ≤ 1
  below_one none3 none2 longer less s parts e =
      let bounds = sign_bounds bytes longer less s parts e in
      let not3 : length longer ≢ 3 = not_this_long bytes longer less s 3 parts e none3 in
      let not2 : length longer ≢ 2 = not_this_long bytes longer less s 2 parts e none2 in omega arith

  module _ (no_comment : OpensComment bytes → ⊥) where
    stands_by : (k : ℕ) (s : Sign) → sign_written (take k bytes) ≡ Some s →
        ((longer less : List ℕ) (s : Sign) → bytes ≡ longer ++ less → longer ≡ sign_text s → length longer ≤ k) →
        IsFirstToken bytes (Token.sign s) (take k bytes) (drop k bytes)
    stands_by k s e bound = record {
      parts = sym (take-append-drop k bytes);
      spelled = sign_found (take k bytes) s e;
      longest = at_most k bound;
      apart = tt;
      no_comment = no_comment;
    }

    -- the sign that is found stands here
    sign_stands : (s : Sign) → sign_there bytes ≡ Some s → (k : ℕ) × IsFirstToken bytes (Token.sign s) (take k bytes) (drop k bytes)
    sign_stands s e = by_three (sign_written (take 3 bytes)) refl e
      where
        by_one : (o : Option Sign) → sign_written (take 1 bytes) ≡ o → sign_written (take 3 bytes) ≡ None → sign_written (take 2 bytes) ≡ None →
            o ≡ Some s → (k : ℕ) × IsFirstToken bytes (Token.sign s) (take k bytes) (drop k bytes)
        by_one o is none3 none2 e = (1, stands_by 1 s (is ∙ e) (below_one none3 none2))

        by_two : (o : Option Sign) → sign_written (take 2 bytes) ≡ o → sign_written (take 3 bytes) ≡ None →
            first_of_two o (sign_written (take 1 bytes)) ≡ Some s → (k : ℕ) × IsFirstToken bytes (Token.sign s) (take k bytes) (drop k bytes)
        by_two (Some t) is none3 e = (2, stands_by 2 s (is ∙ e) (below_two none3))
        by_two None is none3 e = by_one (sign_written (take 1 bytes)) refl none3 is e

        by_three : (o : Option Sign) → sign_written (take 3 bytes) ≡ o →
            first_of_two o (first_of_two (sign_written (take 2 bytes)) (sign_written (take 1 bytes))) ≡ Some s →
            (k : ℕ) × IsFirstToken bytes (Token.sign s) (take k bytes) (drop k bytes)
        by_three (Some t) is e = (3, stands_by 3 s (is ∙ e) below_three)
        by_three None is e = by_two (sign_written (take 2 bytes)) refl is e

  -- where no sign is found no token stands here
  sign_no_token : sign_there bytes ≡ None → (t : Token) (text rest : List ℕ) → IsFirstToken bytes t text rest → ⊥
  sign_no_token e t text rest h = by_three (sign_written (take 3 bytes)) refl e
    where
      no_sign : sign_written (take 3 bytes) ≡ None → sign_written (take 2 bytes) ≡ None → sign_written (take 1 bytes) ≡ None → (s : Sign) → text ≡ sign_text s → ⊥
      no_sign none3 none2 none1 s same =
          let bounds = sign_bounds bytes text rest s h.parts same in
          let at_most_one = below_one none3 none2 text rest s h.parts same in
          not_this_long bytes text rest s 1 h.parts same none1 (omega arith)

      refused : sign_written (take 3 bytes) ≡ None → sign_written (take 2 bytes) ≡ None → sign_written (take 1 bytes) ≡ None → ⊥
      refused none3 none2 none1 = elim (word_or_sign t text h.spelled) [
        | inl word ↦ no_word_there bytes text rest other_first h.parts (token_some t text h.spelled) word.0
        | inr found ↦ no_sign none3 none2 none1 found.0 found.1
      ]

      by_two : (o : Option Sign) → sign_written (take 2 bytes) ≡ o → sign_written (take 3 bytes) ≡ None → first_of_two o (sign_written (take 1 bytes)) ≡ None → ⊥
      by_two (Some s) is none3 e = cc
      by_two None is none3 e = refused none3 is e

      by_three : (o : Option Sign) → sign_written (take 3 bytes) ≡ o →
          first_of_two o (first_of_two (sign_written (take 2 bytes)) (sign_written (take 1 bytes))) ≡ None → ⊥
      by_three (Some s) is e = cc
      by_three None is e = by_two (sign_written (take 2 bytes)) refl is e

-- ---- comments

no_opening : (bytes : List ℕ) → opens_line bytes ≡ false → opens_block bytes ≡ false → OpensComment bytes → ⊥
no_opening bytes l b (rest, inl e) = true≢false (sym (ap opens_line e) ∙ l)
no_opening bytes l b (rest, inr e) = true≢false (sym (ap opens_block e) ∙ b)

pair_front : (a b x y : ℕ) (bytes : List ℕ) → (a == x && b == y) ≡ true → a ∷ b ∷ bytes ≡ x ∷ y ∷ bytes
pair_front a b x y bytes h =
    let parts = and_parts (a == x) (b == y) h in
    λ i. eqb-true a x parts.0 i ∷ eqb-true b y parts.1 i ∷ bytes

line_opened : (bytes : List ℕ) → opens_line bytes ≡ true → bytes ≡ codes "//" ++ drop 2 bytes
line_opened [] h = absurd (true≢false (sym h))
line_opened (a ∷ []) h = absurd (true≢false (sym h))
line_opened (a ∷ b ∷ bytes) h = pair_front a b 47 47 bytes h

block_opened : (bytes : List ℕ) → opens_block bytes ≡ true → bytes ≡ codes "/*" ++ drop 2 bytes
block_opened [] h = absurd (true≢false (sym h))
block_opened (a ∷ []) h = absurd (true≢false (sym h))
block_opened (a ∷ b ∷ bytes) h = pair_front a b 47 42 bytes h

closed_front : (bytes : List ℕ) → closes bytes ≡ true → bytes ≡ codes "*/" ++ drop 2 bytes
closed_front [] h = absurd (true≢false (sym h))
closed_front (a ∷ []) h = absurd (true≢false (sym h))
closed_front (a ∷ b ∷ bytes) h = pair_front a b 42 47 bytes h

end_parts : (bytes : List ℕ) → has_end bytes ≡ true → bytes ≡ before_end bytes ++ (codes "*/" ++ behind_end bytes)
end_parts [] h = absurd (true≢false (sym h))
end_parts (b ∷ bytes) h = by_front (closes (b ∷ bytes)) refl (λ e. end_parts bytes e) h
  where
    by_front : (c : Bool) → closes (b ∷ bytes) ≡ c → (has_end bytes ≡ true → bytes ≡ before_end bytes ++ (codes "*/" ++ behind_end bytes)) →
        (c || has_end bytes) ≡ true →
        b ∷ bytes ≡ (if c then [] else b ∷ before_end bytes) ++ (codes "*/" ++ (if c then drop 2 (b ∷ bytes) else behind_end bytes))
    by_front true c more h = closed_front (b ∷ bytes) c
    by_front false c more h = ap (λ x. b ∷ x) (more h)

-- an end that stands at the front of what goes on with the first end before it
next_is_slash : (bytes rest : List ℕ) → before_end bytes ++ codes "*/" ≡ 47 ∷ rest → has_end bytes ≡ true → closes (42 ∷ bytes) ≡ true
next_is_slash [] rest e h = absurd (true≢false (sym h))
next_is_slash (b ∷ bytes) rest e h = by_front (closes (b ∷ bytes)) e
  where
    by_front : (c : Bool) → (if c then [] else b ∷ before_end bytes) ++ codes "*/" ≡ 47 ∷ rest → (b == 47) ≡ true
    by_front true e = absurd (omega (arith, ap (λ x. get_or x 0 0) e))
    by_front false e = let same : b ≡ 47 = cc in ap (λ x. x == 47) same

first_end : (bytes : List ℕ) → has_end bytes ≡ true → (front behind : List ℕ) → before_end bytes ++ codes "*/" ≡ front ++ (codes "*/" ++ behind) → behind ≡ []
first_end [] h front behind e = absurd (true≢false (sym h))
first_end (b ∷ bytes) h front behind e = by_front (closes (b ∷ bytes)) refl (λ g front e. first_end bytes g front behind e) h front e
  where
    by_front : (c : Bool) → closes (b ∷ bytes) ≡ c →
        (has_end bytes ≡ true → (front : List ℕ) → before_end bytes ++ codes "*/" ≡ front ++ (codes "*/" ++ behind) → behind ≡ []) →
        (c || has_end bytes) ≡ true → (front : List ℕ) → (if c then [] else b ∷ before_end bytes) ++ codes "*/" ≡ front ++ (codes "*/" ++ behind) → behind ≡ []
    by_front true c more h [] e = sym (dropped 42 47 [] behind e)
    by_front true c more h (f ∷ front) e = absurd (omega (arith, ap length e, length-append front (codes "*/" ++ behind)))
    by_front false c more h [] e =
        let star : b ≡ 42 = cc in
        let tail : before_end bytes ++ codes "*/" ≡ 47 ∷ behind = cc in
        absurd (true≢false (sym (next_is_slash bytes behind tail h) ∙ (ap (λ x. closes (x ∷ bytes)) (sym star) ∙ c)))
    by_front false c more h (f ∷ front) e =
        let tail : before_end bytes ++ codes "*/" ≡ front ++ (codes "*/" ++ behind) = cc in more h front tail

ends_somewhere : (front behind : List ℕ) → has_end (front ++ (codes "*/" ++ behind)) ≡ true
ends_somewhere [] behind = refl
ends_somewhere (b ∷ front) behind =
    elim (closes (b ∷ (front ++ (codes "*/" ++ behind)))) as (λ c. (c || has_end (front ++ (codes "*/" ++ behind))) ≡ true)
    [ true ↦ refl | false ↦ ends_somewhere front behind ]

-- an opening that isn't closed is no comment
unclosed : (bytes : List ℕ) → opens_line bytes ≡ false → opens_block bytes ≡ true → has_end (drop 2 bytes) ≡ false →
    (text rest : List ℕ) → bytes ≡ text ++ rest → IsComment text rest → ⊥
unclosed bytes l b e text rest parts (inl h) = true≢false (sym (ap opens_line (parts ∙ ap (λ x. x ++ rest) h.opens)) ∙ l)
unclosed bytes l b e text rest parts (inr h) =
    let whole : bytes ≡ codes "/*" ++ ((h.inside ++ codes "*/") ++ rest) = parts ∙ ap (λ x. x ++ rest) h.opens in
    let inside : drop 2 bytes ≡ h.inside ++ (codes "*/" ++ rest) = ap (drop 2) whole ∙ append_assoc h.inside (codes "*/") rest in
    true≢false (sym (ap has_end inside ∙ ends_somewhere h.inside rest) ∙ e)

-- ---- what stands next

-- The bytes begin so.
IsNext : List ℕ → Next → Type 0
IsNext bytes (skips n) = (0 < n) × (n ≤ length bytes) × ((at : ℕ) (tokens : List LocatedToken) → Tokens (at + n) (drop n bytes) tokens → Tokens at bytes tokens)
IsNext bytes (finds t n) = (text : List ℕ) × (length text ≡ n) × IsFirstToken bytes t text (drop n bytes)
IsNext bytes fails = IsFaulty bytes

skips_space : (bytes : List ℕ) → begins is_space bytes ≡ true → IsNext bytes (skips 1)
unfolding IsNext
skips_space [] h = absurd (true≢false (sym h))
skips_space (b ∷ bytes) h = (omega arith, omega arith, λ at tokens more. Tokens.space h more)

-- a comment of these bytes
skips_comment : (bytes text rest : List ℕ) (n : ℕ) → 0 < n → bytes ≡ text ++ rest → length text ≡ n → IsComment text rest → IsNext bytes (skips n)
unfolding IsNext
skips_comment bytes text rest n some parts len h = (
  some,
  omega (arith, ap length parts, length-append text rest),
  λ at tokens more. Tokens.comment parts h
      (subst (λ r. Tokens (at + length text) r tokens) (ap (drop n) parts ∙ drop_at text rest n len) (subst (λ k. Tokens (at + k) (drop n bytes) tokens) (sym len) more)),
)

skips_line : (bytes : List ℕ) → opens_line bytes ≡ true → IsNext bytes (skips (line_length bytes))
skips_line bytes h =
    let line = front in_line (drop 2 bytes) in
    let rest = behind in_line (drop 2 bytes) in
    let parts : bytes ≡ (codes "//" ++ line) ++ rest = line_opened bytes h ∙ ap (λ x. codes "//" ++ x) (front-behind in_line (drop 2 bytes)) in
    skips_comment bytes (codes "//" ++ line) rest (line_length bytes) (omega arith) parts (omega arith) (inl (record {
      line = line;
      opens = refl;
      one_line = front_passes in_line (drop 2 bytes);
      ends = behind_begins in_line (drop 2 bytes);
    }))

skips_block : (bytes : List ℕ) → opens_block bytes ≡ true → has_end (drop 2 bytes) ≡ true → IsNext bytes (skips (block_length bytes))
skips_block bytes h e =
    let inside = before_end (drop 2 bytes) in
    let rest = behind_end (drop 2 bytes) in
    let parts : bytes ≡ (codes "/*" ++ (inside ++ codes "*/")) ++ rest =
    block_opened bytes h ∙ ap (λ x. codes "/*" ++ x) (end_parts (drop 2 bytes) e ∙ sym (append_assoc inside (codes "*/") rest)) in
    skips_comment bytes (codes "/*" ++ (inside ++ codes "*/")) rest (block_length bytes) (omega arith) parts (omega (arith, length-append inside (codes "*/"))) (inr (record {
      inside = inside;
      opens = refl;
      first = first_end (drop 2 bytes) e;
    }))

not_empty : (bytes : List ℕ) → 0 < length bytes → bytes ≢ []
not_empty bytes some e = absurd (omega (arith, ap length e))

black_there : (bytes : List ℕ) → begins is_space bytes ≡ false → DoesNotBegin is_space bytes
black_there [] h = tt
black_there (b ∷ bytes) h = h

module _ (bytes : List ℕ) (some : 0 < length bytes) (black : begins is_space bytes ≡ false) where
  -- nothing stands here where no comment does, opened or not, and no token
  faulty_there : ((text rest : List ℕ) → bytes ≡ text ++ rest → IsComment text rest → ⊥) →
      ((t : Token) (text rest : List ℕ) → IsFirstToken bytes t text rest → ⊥) → IsFaulty bytes
  faulty_there comment token = record { some = not_empty bytes some; no_space = black_there bytes black; no_comment = comment; no_token = token }

  fails_unclosed : opens_line bytes ≡ false → opens_block bytes ≡ true → has_end (drop 2 bytes) ≡ false → IsNext bytes fails
  unfolding IsNext
  fails_unclosed l b e =
      faulty_there (unclosed bytes l b e) (λ t text rest h. h.no_comment (drop 2 bytes, inr (block_opened bytes b)))

  module _ (l : opens_line bytes ≡ false) (b : opens_block bytes ≡ false) where
    no_comment_at_all : (text rest : List ℕ) → bytes ≡ text ++ rest → IsComment text rest → ⊥
    no_comment_at_all text rest parts h = no_opening bytes l b (comment_opens bytes text rest parts h)

    next_run : begins is_word_byte bytes ≡ true → (o : Option Token) → run_token (front is_word_byte bytes) ≡ o → IsNext bytes (run_next o (length (front is_word_byte bytes)))
    unfolding IsNext
    next_run w (Some t) e =
        let rest : drop (length (front is_word_byte bytes)) bytes ≡ behind is_word_byte bytes =
        ap (drop (length (front is_word_byte bytes))) (front-behind is_word_byte bytes) ∙ drop_at (front is_word_byte bytes) (behind is_word_byte bytes) _ refl in
        (front is_word_byte bytes, refl, subst (λ r. IsFirstToken bytes t (front is_word_byte bytes) r) (sym rest) (run_stands bytes t w e))
    next_run w None e = faulty_there no_comment_at_all (run_no_token bytes w e)

    next_sign : begins is_word_byte bytes ≡ false → (o : Option Sign) → sign_there bytes ≡ o → IsNext bytes (sign_next o)
    unfolding IsNext
    next_sign w (Some s) e =
        let found = sign_stands bytes w (no_opening bytes l b) s e in
        let stands = found.1 in
        let len : length (take found.0 bytes) ≡ length (sign_text s) = ap length stands.spelled in
        let rest : drop (length (sign_text s)) bytes ≡ drop found.0 bytes =
        ap (drop (length (sign_text s))) stands.parts ∙ drop_at (take found.0 bytes) (drop found.0 bytes) _ len in
        (take found.0 bytes, len, subst (λ r. IsFirstToken bytes (Token.sign s) (take found.0 bytes) r) (sym rest) stands)
    next_sign w None e = faulty_there no_comment_at_all (sign_no_token bytes w e)

    next_token : (w : Bool) → begins is_word_byte bytes ≡ w →
        IsNext bytes (if w then run_next (run_token (front is_word_byte bytes)) (length (front is_word_byte bytes)) else sign_next (sign_there bytes))
    next_token true w = next_run w (run_token (front is_word_byte bytes)) refl
    next_token false w = next_sign w (sign_there bytes) refl

  next_block : opens_line bytes ≡ false → opens_block bytes ≡ true → (e : Bool) → has_end (drop 2 bytes) ≡ e →
      IsNext bytes (if e then skips (block_length bytes) else fails)
  next_block l b true e = skips_block bytes b e
  next_block l b false e = fails_unclosed l b e

-- what is said to stand next does
next_stands : (bytes : List ℕ) → 0 < length bytes → IsNext bytes (next bytes)
next_stands bytes some = by_space (begins is_space bytes) refl
  where
    by_block : begins is_space bytes ≡ false → opens_line bytes ≡ false → (b : Bool) → opens_block bytes ≡ b →
        IsNext bytes (if b then (if has_end (drop 2 bytes) then skips (block_length bytes) else fails)
        else (if begins is_word_byte bytes then run_next (run_token (front is_word_byte bytes)) (length (front is_word_byte bytes)) else sign_next (sign_there bytes)))
    by_block black l true b = next_block bytes some black l b (has_end (drop 2 bytes)) refl
    by_block black l false b = next_token bytes some black l b (begins is_word_byte bytes) refl

    by_line : begins is_space bytes ≡ false → (l : Bool) → opens_line bytes ≡ l →
        IsNext bytes (if l then skips (line_length bytes)
        else (if opens_block bytes then (if has_end (drop 2 bytes) then skips (block_length bytes) else fails)
        else (if begins is_word_byte bytes then run_next (run_token (front is_word_byte bytes)) (length (front is_word_byte bytes)) else sign_next (sign_there bytes))))
    by_line black true l = skips_line bytes l
    by_line black false l = by_block black l (opens_block bytes) refl

    by_space : (s : Bool) → begins is_space bytes ≡ s →
        IsNext bytes (if s then skips 1
        else (if opens_line bytes then skips (line_length bytes)
        else (if opens_block bytes then (if has_end (drop 2 bytes) then skips (block_length bytes) else fails)
        else (if begins is_word_byte bytes then run_next (run_token (front is_word_byte bytes)) (length (front is_word_byte bytes)) else sign_next (sign_there bytes)))))
    by_space true s = skips_space bytes s
    by_space false s = by_line s (opens_line bytes) refl

-- ---- the whole list

lexed_next : (steps at : ℕ) (bytes : List ℕ) → 0 < length bytes → length bytes ≤ suc steps → (found : Next) → IsNext bytes found →
    ((at : ℕ) (rest : List ℕ) → length rest ≤ steps → Tokens at rest (lexed steps at rest)) →
    Tokens at bytes (followed found at (λ n. lexed steps (at + n) (drop n bytes)))
unfolding IsNext
lexed_next steps at bytes some le (skips n) h more =
    h.2 at (lexed steps (at + n) (drop n bytes)) (more (at + n) (drop n bytes) (omega (arith, length-drop n bytes, h.0)))
lexed_next steps at bytes some le (finds t n) h more =
    let least : 0 < n = omega (arith, token_some t h.0 h.2.spelled, h.1) in
    Tokens.token h.2 (subst (λ k. Tokens (at + k) (drop n bytes) (lexed steps (at + n) (drop n bytes))) (sym h.1)
    (more (at + n) (drop n bytes) (omega (arith, length-drop n bytes))))
lexed_next steps at bytes some le fails h more = Tokens.fault h

-- they are the tokens of the definition
pub lexed_tokens : (steps at : ℕ) (bytes : List ℕ) → length bytes ≤ steps → Tokens at bytes (lexed steps at bytes)
lexed_tokens zero at [] le = Tokens.end
lexed_tokens zero at (b ∷ bytes) le = absurd (omega arith)
lexed_tokens (suc steps) at [] le = Tokens.end
lexed_tokens (suc steps) at (b ∷ bytes) le =
    lexed_next steps at (b ∷ bytes) (omega arith) le (next (b ∷ bytes)) (next_stands (b ∷ bytes) (omega arith)) (λ at rest le. lexed_tokens steps at rest le)

-- ---- the list, step by step

-- Some bytes are taken, and no more than there are.
abbrev pub IsSized : Next → List ℕ → Type 0
IsSized (skips n) bytes = (0 < n) × (n ≤ length bytes)
IsSized (finds t n) bytes = (0 < n) × (n ≤ length bytes)
IsSized fails bytes = ⊤

pub next_sized : (bytes : List ℕ) → 0 < length bytes → IsSized (next bytes) bytes
unfolding IsNext
next_sized bytes some = by_next (next bytes) (next_stands bytes some)
  where
    by_next : (found : Next) → IsNext bytes found → IsSized found bytes
    by_next (skips n) h = (h.0, h.1)
    by_next (finds t n) h =
        let first = h.2 in
        (omega (arith, token_some t h.0 first.spelled, h.1), omega (arith, h.1, ap length first.parts, length-append h.0 (drop n bytes)))
    by_next fails h = tt

-- so many steps as there are bytes are enough
enough : (steps at : ℕ) (bytes : List ℕ) → length bytes ≤ steps → lexed steps at bytes ≡ lexed (length bytes) at bytes
enough steps at bytes le = Tokens-one (lexed_tokens steps at bytes le) (lexed_tokens (length bytes) at bytes (omega arith))

-- what stands at the front, and then the tokens of what follows it
pub lexed_front : (at : ℕ) (bytes : List ℕ) → 0 < length bytes →
    lexed (length bytes) at bytes ≡ followed (next bytes) at (λ n. lexed (length (drop n bytes)) (at + n) (drop n bytes))
lexed_front at [] some = absurd (omega arith)
lexed_front at (b ∷ bytes) some = by_next (next (b ∷ bytes)) (next_sized (b ∷ bytes) some)
  where
    behind_it : (n : ℕ) → 0 < n → lexed (length bytes) (at + n) (drop n (b ∷ bytes)) ≡ lexed (length (drop n (b ∷ bytes))) (at + n) (drop n (b ∷ bytes))
    behind_it n more = enough (length bytes) (at + n) (drop n (b ∷ bytes)) (omega (arith, length-drop n (b ∷ bytes)))

    by_next : (found : Next) → IsSized found (b ∷ bytes) → followed found at (λ n. lexed (length bytes) (at + n) (drop n (b ∷ bytes))) ≡
        followed found at (λ n. lexed (length (drop n (b ∷ bytes))) (at + n) (drop n (b ∷ bytes)))
    by_next (skips n) h = behind_it n h.0
    by_next (finds t n) h = ap (λ ts. record { token = t; at = at } ∷ ts) (behind_it n h.0)
    by_next fails h = refl
