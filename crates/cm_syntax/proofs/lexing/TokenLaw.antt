-- A text has one token list at most: at each offset one rule applies, in one way.
use Rattle.std.proofs.Common.{◌≡◌, ℕ, ◌+◌, ◌<◌, ◌≤◌, true, false, ◌||◌, List, [], ◌∷◌, ◌++◌, length, get_or, refl, sym, ap, ◌∙◌, subst, arith, ◌⊎◌, inl, inr, not, append_assoc, append-nil, length-append}
use Rattle.std.specs.Prelude.{◌==◌, codes}
use Rattle.std.specs.List.{list_all}
use Rattle.std.specs.Char.{is_ascii_digit}
use Rattle.std.proofs.lemmas.Bool.{and_parts, true≢false, cases_lt}
use Rattle.std.proofs.lemmas.Bool.Decides.{nat_tests}
use Rattle.cm_syntax.specs.declared.token.Keyword.{Keyword}
use Rattle.cm_syntax.specs.declared.token.Sign.{Sign}
use Rattle.cm_syntax.specs.Text.{is_space, is_letter, is_word_byte, keyword_text, sign_text}
use Rattle.cm_syntax.specs.Token.{Token, LocatedToken, DoesNotBegin, begins, is_reserved, Spells, IsComment, OpensComment, IsFirstToken, IsFaulty, Tokens}
use Rattle.cm_syntax.proofs.lexing.Spelling.{keyword_text-injective, keyword_begins, keyword_bytes, keyword_free, sign_text-injective, sign_begins, sign_black, sign_short, reserved_begins, reserved_bytes}

-- ---- bytes

letter_in_word : (b : ℕ) → is_letter b ≡ true → is_word_byte b ≡ true
letter_in_word b h = ap (λ t. t || is_ascii_digit b) h

digit_in_word : (b : ℕ) → is_ascii_digit b ≡ true → is_word_byte b ≡ true
digit_in_word b h = elim (is_letter b) as (λ t. (t || is_ascii_digit b) ≡ true) [ true ↦ refl | false ↦ h ]

letter_no_digit : (b : ℕ) → is_letter b ≡ true → is_ascii_digit b ≡ true → ⊥
letter_no_digit b h d = grind (arith, nat_tests)

pub word_no_space : (b : ℕ) → is_word_byte b ≡ true → is_space b ≡ false
word_no_space b h = grind (arith, nat_tests)

pub digits_in_word : (text : List ℕ) → list_all is_ascii_digit text ≡ true → list_all is_word_byte text ≡ true
digits_in_word [] h = refl
digits_in_word (b ∷ text) h =
    let parts = and_parts (is_ascii_digit b) (list_all is_ascii_digit text) h in
    rw (digit_in_word b parts.0, digits_in_word text parts.1) refl

-- ---- the first byte of a token

pub letter_begins_word : (text : List ℕ) → begins is_letter text ≡ true → begins is_word_byte text ≡ true
letter_begins_word [] h = h
letter_begins_word (b ∷ text) h = letter_in_word b h

pub digit_begins_word : (text : List ℕ) → begins is_ascii_digit text ≡ true → begins is_word_byte text ≡ true
digit_begins_word [] h = h
digit_begins_word (b ∷ text) h = digit_in_word b h

pub letter_or_digit : (text : List ℕ) → begins is_letter text ≡ true → begins is_ascii_digit text ≡ true → ⊥
letter_or_digit [] h d = true≢false (sym h)
letter_or_digit (b ∷ text) h d = letter_no_digit b h d

word_black : (text : List ℕ) → begins is_word_byte text ≡ true → begins is_space text ≡ false
word_black [] h = refl
word_black (b ∷ text) h = word_no_space b h

-- a token other than a sign has word bytes alone, and begins with one
pub word_or_sign : (t : Token) (text : List ℕ) → Spells t text →
    ((begins is_word_byte text ≡ true) × (list_all is_word_byte text ≡ true)) ⊎ ((s : Sign) × (text ≡ sign_text s) × (t ≡ Token.sign s))
word_or_sign (Token.keyword k) text h =
    inl (subst (λ x. (begins is_word_byte x ≡ true) × (list_all is_word_byte x ≡ true)) (sym h) (letter_begins_word (keyword_text k) (keyword_begins k), keyword_bytes k))
word_or_sign (Token.sign s) text h = inr (s, h, refl)
word_or_sign (Token.name x) text h = inl (letter_begins_word text h.1.begins_so, h.1.word)
word_or_sign (Token.number n) text h = inl (digit_begins_word text h.begins_so, digits_in_word text h.digits)
word_or_sign Token.unfit text h = inl (letter_begins_word text (reserved_begins text h), reserved_bytes text h)

pub token_black : (t : Token) (text : List ℕ) → Spells t text → begins is_space text ≡ false
token_black t text h = elim (word_or_sign t text h) [
  | inl word ↦ word_black text word.0
  | inr found ↦ ap (begins is_space) found.1 ∙ sign_black found.0
]

pub token_some : (t : Token) (text : List ℕ) → Spells t text → 0 < length text
token_some t text h = elim (word_or_sign t text h) [
  | inl word ↦ some text word.0
  | inr found ↦ omega (arith, ap length found.1, sign_short found.0)
]
  where
    some : (text : List ℕ) → begins is_word_byte text ≡ true → 0 < length text
    some [] e = absurd (true≢false (sym e))
    some (b ∷ text) e = omega arith

-- ---- a text is one token's

sign_or_word : (s : Sign) (text : List ℕ) → text ≡ sign_text s → begins is_word_byte text ≡ true → ⊥
sign_or_word s text e h = true≢false (sym h ∙ (ap (begins is_word_byte) e ∙ sign_begins s))

keyword_letter : (k : Keyword) (text : List ℕ) → text ≡ keyword_text k → begins is_letter text ≡ true
keyword_letter k text e = ap (begins is_letter) e ∙ keyword_begins k

keyword_or_reserved : (k : Keyword) (text : List ℕ) → text ≡ keyword_text k → is_reserved text ≡ true → ⊥
keyword_or_reserved k text e h = true≢false (sym h ∙ (ap is_reserved e ∙ keyword_free k))

pub Spells-one : (t u : Token) (text : List ℕ) → Spells t text → Spells u text → t ≡ u
Spells-one (Token.keyword j) (Token.keyword k) text h i = ap Token.keyword (keyword_text-injective j k (sym h ∙ i))
Spells-one (Token.keyword j) (Token.sign s) text h i = absurd (sign_or_word s text i (letter_begins_word text (keyword_letter j text h)))
Spells-one (Token.keyword j) (Token.name x) text h i = absurd (i.1.free j h)
Spells-one (Token.keyword j) (Token.number n) text h i = absurd (letter_or_digit text (keyword_letter j text h) i.begins_so)
Spells-one (Token.keyword j) Token.unfit text h i = absurd (keyword_or_reserved j text h i)
Spells-one (Token.sign s) (Token.keyword k) text h i = absurd (sign_or_word s text h (letter_begins_word text (keyword_letter k text i)))
Spells-one (Token.sign s) (Token.sign t) text h i = ap Token.sign (sign_text-injective s t (sym h ∙ i))
Spells-one (Token.sign s) (Token.name x) text h i = absurd (sign_or_word s text h (letter_begins_word text i.1.begins_so))
Spells-one (Token.sign s) (Token.number n) text h i = absurd (sign_or_word s text h (digit_begins_word text i.begins_so))
Spells-one (Token.sign s) Token.unfit text h i = absurd (sign_or_word s text h (letter_begins_word text (reserved_begins text i)))
Spells-one (Token.name x) (Token.keyword k) text h i = absurd (h.1.free k i)
Spells-one (Token.name x) (Token.sign s) text h i = absurd (sign_or_word s text i (letter_begins_word text h.1.begins_so))
Spells-one (Token.name x) (Token.name y) text h i = ap Token.name (sym h.0 ∙ i.0)
Spells-one (Token.name x) (Token.number n) text h i = absurd (letter_or_digit text h.1.begins_so i.begins_so)
Spells-one (Token.name x) Token.unfit text h i = absurd (true≢false (sym i ∙ h.1.not_reserved))
Spells-one (Token.number m) (Token.keyword k) text h i = absurd (letter_or_digit text (keyword_letter k text i) h.begins_so)
Spells-one (Token.number m) (Token.sign s) text h i = absurd (sign_or_word s text i (digit_begins_word text h.begins_so))
Spells-one (Token.number m) (Token.name x) text h i = absurd (letter_or_digit text i.1.begins_so h.begins_so)
Spells-one (Token.number m) (Token.number n) text h i = ap Token.number (h.same ∙ sym i.same)
Spells-one (Token.number m) Token.unfit text h i = absurd (letter_or_digit text (reserved_begins text i) h.begins_so)
Spells-one Token.unfit (Token.keyword k) text h i = absurd (keyword_or_reserved k text i h)
Spells-one Token.unfit (Token.sign s) text h i = absurd (sign_or_word s text i (letter_begins_word text (reserved_begins text h)))
Spells-one Token.unfit (Token.name x) text h i = absurd (true≢false (sym h ∙ i.1.not_reserved))
Spells-one Token.unfit (Token.number n) text h i = absurd (letter_or_digit text (reserved_begins text h) i.begins_so)
Spells-one Token.unfit Token.unfit text h i = refl

-- ---- fronts of one text

-- of two fronts of a text the shorter one is a front of the longer one
pub shorter_front : {A : Type 0} (a b c d : List A) → a ++ b ≡ c ++ d → length a ≤ length c → (m : List A) × (c ≡ a ++ m) × (b ≡ m ++ d)
shorter_front [] b c d e le = (c, refl, e)
shorter_front (x ∷ a) b [] d e le = absurd (omega arith)
shorter_front (x ∷ a) b (y ∷ c) d e le =
    let tails : a ++ b ≡ c ++ d = cc in
    let heads : x ≡ y = cc in
    let found = shorter_front a b c d tails (omega arith) in
    (found.0, (λ i. sym heads i ∷ found.1 i), found.2)

no_more : {A : Type 0} (a m : List A) → length (a ++ m) ≤ length a → m ≡ []
no_more a [] le = refl
no_more a (x ∷ m) le = absurd (omega (arith, length-append a (x ∷ m)))

pub equal_fronts : {A : Type 0} (a b c d : List A) → a ++ b ≡ c ++ d → length a ≤ length c → length c ≤ length a → (a ≡ c) × (b ≡ d)
equal_fronts a b c d e le ge =
    let found = shorter_front a b c d e le in
    let none : found.0 ≡ [] = no_more a found.0 (subst (λ x. length x ≤ length a) found.1 ge) in
    (sym (found.1 ∙ (ap (λ m. a ++ m) none ∙ append-nil a)), found.2 ∙ ap (λ m. m ++ d) none)

pub IsFirstToken-one : (bytes : List ℕ) (t u : Token) (text rest text' rest' : List ℕ) → IsFirstToken bytes t text rest → IsFirstToken bytes u text' rest' →
    (t ≡ u) × (text ≡ text') × (rest ≡ rest')
IsFirstToken-one bytes t u text rest text' rest' h i =
    let fronts = equal_fronts text rest text' rest' (sym h.parts ∙ i.parts) (i.longest t text rest h.spelled h.parts) (h.longest u text' rest' i.spelled i.parts) in
    (Spells-one t u text h.spelled (subst (Spells u) (sym fronts.0) i.spelled), fronts.0, fronts.1)

-- ---- comments

-- a line ends where the line feed stands
line_end : (line rest line' rest' : List ℕ) → list_all (λ b. not (b == 10)) line ≡ true → DoesNotBegin (λ b. not (b == 10)) rest →
    list_all (λ b. not (b == 10)) line' ≡ true → DoesNotBegin (λ b. not (b == 10)) rest' → line ++ rest ≡ line' ++ rest' → line ≡ line'
line_end [] rest [] rest' h e h' e' same = refl
line_end [] [] (b ∷ line') rest' h e h' e' same = absurd (omega (arith, ap length same))
line_end [] (c ∷ rest) (b ∷ line') rest' h e h' e' same =
    let heads : c ≡ b = cc in
    let parts = and_parts (not (b == 10)) _ h' in absurd (true≢false (sym parts.0 ∙ (ap (λ x. not (x == 10)) (sym heads) ∙ e)))
line_end (b ∷ line) rest [] [] h e h' e' same = absurd (omega (arith, ap length same))
line_end (b ∷ line) rest [] (c ∷ rest') h e h' e' same =
    let heads : b ≡ c = cc in
    let parts = and_parts (not (b == 10)) _ h in absurd (true≢false (sym parts.0 ∙ (ap (λ x. not (x == 10)) heads ∙ e')))
line_end (b ∷ line) rest (c ∷ line') rest' h e h' e' same =
    let heads : b ≡ c = cc in
    let tails : line ++ rest ≡ line' ++ rest' = cc in
    let parts = and_parts (not (b == 10)) _ h in
    let parts' = and_parts (not (c == 10)) _ h' in
    λ i. heads i ∷ line_end line rest line' rest' parts.1 e parts'.1 e' tails i

-- the second byte tells a line comment from a block
line_or_block : (a b : List ℕ) → codes "//" ++ a ≡ codes "/*" ++ b → ⊥
line_or_block a b e = absurd (omega (arith, ap (λ text. get_or text 1 0) e))

block_end : (a b rest rest' : List ℕ) → ((front behind : List ℕ) → b ++ codes "*/" ≡ front ++ (codes "*/" ++ behind) → behind ≡ []) →
    (a ++ codes "*/") ++ rest ≡ (b ++ codes "*/") ++ rest' → length (a ++ codes "*/") ≤ length (b ++ codes "*/") → a ++ codes "*/" ≡ b ++ codes "*/"
block_end a b rest rest' first same le =
    let found = shorter_front (a ++ codes "*/") rest (b ++ codes "*/") rest' same le in
    let none : found.0 ≡ [] = first a found.0 (found.1 ∙ append_assoc a (codes "*/") found.0) in
    sym (found.1 ∙ (ap (λ m. (a ++ codes "*/") ++ m) none ∙ append-nil (a ++ codes "*/")))

pub dropped : (x y : ℕ) (a b : List ℕ) → x ∷ y ∷ a ≡ x ∷ y ∷ b → a ≡ b
dropped x y a b e = cc

texts_of_comments : (text rest text' rest' : List ℕ) → IsComment text rest → IsComment text' rest' → text ++ rest ≡ text' ++ rest' → text ≡ text'
texts_of_comments text rest text' rest' (inl h) (inl i) same =
    let both : codes "//" ++ (h.line ++ rest) ≡ codes "//" ++ (i.line ++ rest') = ap (λ x. x ++ rest) (sym h.opens) ∙ (same ∙ ap (λ x. x ++ rest') i.opens) in
    let lines : h.line ≡ i.line = line_end h.line rest i.line rest' h.one_line h.ends i.one_line i.ends (dropped 47 47 _ _ both) in
    h.opens ∙ (ap (λ x. codes "//" ++ x) lines ∙ sym i.opens)
texts_of_comments text rest text' rest' (inl h) (inr i) same =
    absurd (line_or_block (h.line ++ rest) ((i.inside ++ codes "*/") ++ rest') (ap (λ x. x ++ rest) (sym h.opens) ∙ (same ∙ ap (λ x. x ++ rest') i.opens)))
texts_of_comments text rest text' rest' (inr h) (inl i) same =
    absurd (line_or_block (i.line ++ rest') ((h.inside ++ codes "*/") ++ rest) (ap (λ x. x ++ rest') (sym i.opens) ∙ (sym same ∙ ap (λ x. x ++ rest) h.opens)))
texts_of_comments text rest text' rest' (inr h) (inr i) same =
    let both : codes "/*" ++ ((h.inside ++ codes "*/") ++ rest) ≡ codes "/*" ++ ((i.inside ++ codes "*/") ++ rest') =
    ap (λ x. x ++ rest) (sym h.opens) ∙ (same ∙ ap (λ x. x ++ rest') i.opens) in
    let insides = dropped 47 42 _ _ both in
    let ends : h.inside ++ codes "*/" ≡ i.inside ++ codes "*/" =
    elim (cases_lt (length (h.inside ++ codes "*/")) (length (i.inside ++ codes "*/"))) [
      | inl lt ↦ block_end h.inside i.inside rest rest' i.first insides (omega arith)
      | inr ge ↦ sym (block_end i.inside h.inside rest' rest h.first (sym insides) ge)
    ] in
    h.opens ∙ (ap (λ x. codes "/*" ++ x) ends ∙ sym i.opens)

pub IsComment-one : (text rest text' rest' : List ℕ) → IsComment text rest → IsComment text' rest' → text ++ rest ≡ text' ++ rest' → (text ≡ text') × (rest ≡ rest')
IsComment-one text rest text' rest' h i same =
    let texts = texts_of_comments text rest text' rest' h i same in
    equal_fronts text rest text' rest' same (subst (λ x. length text ≤ length x) texts (omega arith)) (subst (λ x. length x ≤ length text) texts (omega arith))

-- a comment begins with `/`, and is no white space and no token
pub comment_opens : (bytes text rest : List ℕ) → bytes ≡ text ++ rest → IsComment text rest → OpensComment bytes
comment_opens bytes text rest parts (inl h) = (h.line ++ rest, inl (parts ∙ ap (λ x. x ++ rest) h.opens))
comment_opens bytes text rest parts (inr h) = ((h.inside ++ codes "*/") ++ rest, inr (parts ∙ ap (λ x. x ++ rest) h.opens))

opening_black : (byte : ℕ) (bytes : List ℕ) → OpensComment (byte ∷ bytes) → is_space byte ≡ false
opening_black byte bytes (rest, inl e) = let slash : byte ≡ 47 = cc in ap is_space slash
opening_black byte bytes (rest, inr e) = let slash : byte ≡ 47 = cc in ap is_space slash

opening_some : OpensComment [] → ⊥
opening_some (rest, inl e) = absurd (omega (arith, ap length e))
opening_some (rest, inr e) = absurd (omega (arith, ap length e))

stands_some : (t : Token) (text rest : List ℕ) → IsFirstToken [] t text rest → ⊥
stands_some t text rest h = absurd (omega (arith, token_some t text h.spelled, ap length h.parts, length-append text rest))

stands_black : (byte : ℕ) (bytes : List ℕ) (t : Token) (text rest : List ℕ) → IsFirstToken (byte ∷ bytes) t text rest → is_space byte ≡ false
stands_black byte bytes t text rest h = first text h.parts (token_some t text h.spelled) (token_black t text h.spelled)
  where
    first : (text : List ℕ) → byte ∷ bytes ≡ text ++ rest → 0 < length text → begins is_space text ≡ false → is_space byte ≡ false
    first [] e some black = absurd (omega arith)
    first (b ∷ text) e some black = let heads : byte ≡ b = cc in ap is_space heads ∙ black

-- ---- one list

module _ {at : ℕ} where
  after_end : {others : List LocatedToken} → Tokens at [] others → [] ≡ others
  after_end Tokens.end = refl
  after_end (Tokens.comment {text = text} {rest = rest} parts h more) = absurd (opening_some (comment_opens [] text rest parts h))
  after_end (Tokens.token {token = t} {text = text} {rest = rest} h more) = absurd (stands_some t text rest h)
  after_end (Tokens.fault h) = absurd (h.some refl)

  after_space : {byte : ℕ} {bytes : List ℕ} {tokens others : List LocatedToken} → is_space byte ≡ true →
      ((rest : List LocatedToken) → Tokens (at + 1) bytes rest → tokens ≡ rest) → Tokens at (byte ∷ bytes) others → tokens ≡ others
  after_space white same (Tokens.space w more) = same _ more
  after_space {byte} {bytes} white same (Tokens.comment {text = text} {rest = rest} parts h more) =
      absurd (true≢false (sym white ∙ opening_black byte bytes (comment_opens (byte ∷ bytes) text rest parts h)))
  after_space {byte} {bytes} white same (Tokens.token {token = t} {text = text} {rest = rest} h more) =
      absurd (true≢false (sym white ∙ stands_black byte bytes t text rest h))
  after_space white same (Tokens.fault h) = absurd (true≢false (sym white ∙ h.no_space))

  after_comment : {bytes text rest : List ℕ} {tokens others : List LocatedToken} → bytes ≡ text ++ rest → IsComment text rest →
      ((more : List LocatedToken) → Tokens (at + length text) rest more → tokens ≡ more) → Tokens at bytes others → tokens ≡ others
  after_comment {text = text} {rest = rest} parts h same Tokens.end = absurd (opening_some (comment_opens [] text rest parts h))
  after_comment {text = text} {rest = rest} parts h same (Tokens.space {byte = byte} {bytes = bytes} white more) =
      absurd (true≢false (sym white ∙ opening_black byte bytes (comment_opens (byte ∷ bytes) text rest parts h)))
  after_comment {text = text} {rest = rest} parts h same (Tokens.comment {text = text'} {rest = rest'} {tokens = later} parts' h' more) =
      let one = IsComment-one text rest text' rest' h h' (sym parts ∙ parts') in
      same later (subst (λ r. Tokens (at + length text) r later) (sym one.1) (subst (λ x. Tokens (at + length x) rest' later) (sym one.0) more))
  after_comment {bytes} {text} {rest} parts h same (Tokens.token stands more) = absurd (stands.no_comment (comment_opens bytes text rest parts h))
  after_comment {text = text} {rest = rest} parts h same (Tokens.fault f) = absurd (f.no_comment text rest parts h)

  after_token : {bytes : List ℕ} (t : Token) {text rest : List ℕ} {tokens others : List LocatedToken} → IsFirstToken bytes t text rest →
      ((more : List LocatedToken) → Tokens (at + length text) rest more → tokens ≡ more) → Tokens at bytes others →
      record { token = t; at = at } ∷ tokens ≡ others
  after_token t {text} {rest} h same Tokens.end = absurd (stands_some t text rest h)
  after_token t {text} {rest} h same (Tokens.space {byte = byte} {bytes = bytes} white more) =
      absurd (true≢false (sym white ∙ stands_black byte bytes t text rest h))
  after_token {bytes} t h same (Tokens.comment {text = text'} {rest = rest'} parts' h' more) =
      absurd (h.no_comment (comment_opens bytes text' rest' parts' h'))
  after_token {bytes} t {text} {rest} h same (Tokens.token {token = u} {text = text'} {rest = rest'} {tokens = later} i more) =
      let one = IsFirstToken-one bytes t u text rest text' rest' h i in
      let tails = same later (subst (λ r. Tokens (at + length text) r later) (sym one.2) (subst (λ x. Tokens (at + length x) rest' later) (sym one.1) more)) in
      λ j. record { token = one.0 j; at = at } ∷ tails j
  after_token t {text} {rest} h same (Tokens.fault f) = absurd (f.no_token t text rest h)

  after_fault : {bytes : List ℕ} {others : List LocatedToken} → IsFaulty bytes → Tokens at bytes others →
      record { token = Token.unfit; at = at } ∷ [] ≡ others
  after_fault f Tokens.end = absurd (f.some refl)
  after_fault f (Tokens.space white more) = absurd (true≢false (sym white ∙ f.no_space))
  after_fault f (Tokens.comment {text = text} {rest = rest} parts h more) = absurd (f.no_comment text rest parts h)
  after_fault f (Tokens.token {token = t} {text = text} {rest = rest} h more) = absurd (f.no_token t text rest h)
  after_fault f (Tokens.fault g) = refl

-- a text has one token list at most
pub Tokens-one : {at : ℕ} {bytes : List ℕ} {tokens others : List LocatedToken} → Tokens at bytes tokens → Tokens at bytes others → tokens ≡ others
Tokens-one Tokens.end d = after_end d
Tokens-one (Tokens.space white more) d = after_space white (λ rest e. Tokens-one more e) d
Tokens-one (Tokens.comment parts h more) d = after_comment parts h (λ rest e. Tokens-one more e) d
Tokens-one (Tokens.token {token = t} h more) d = after_token t h (λ rest e. Tokens-one more e) d
Tokens-one (Tokens.fault f) d = after_fault f d
