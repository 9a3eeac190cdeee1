-- Laws of the listing: lengths, addresses, and that each part is read back.
use Rattle.std.proofs.Common.{◌≡◌, ℕ, zero, suc, ◌+◌, ◌-◌, ◌*◌, ◌/◌, ◌%◌, ◌^◌, ◌<◌, List, [], ◌∷◌, ◌++◌, length, get_or, take, refl, sym, ◌∙◌, append_assoc, arith, length-append}
use Rattle.std.proofs.lemmas.List.{append-nil, length_push, length-take-le, same_from_push, take_more}
use Rattle.std.proofs.lemmas.Bool.Decides.{nat_tests}
use Rattle.cm_asm.specs.Listing.{hex_digit, hex, line, listing_from, listing}

pub length-hex : (k n : ℕ) → length (hex k n) ≡ k
unfolding hex
length-hex zero n = refl
length-hex (suc k) n = omega (arith, length_push (hex k (n / 16)) (hex_digit (n % 16)), length-hex k (n / 16))

-- a number with one more digit at its end
pub hex-push : (k w d : ℕ) → d < 16 → hex (suc k) (w * 16 + d) ≡ hex k w ++ hex_digit d ∷ []
unfolding hex
hex-push k w d small =
    let q : (w * 16 + d) / 16 ≡ w = omega arith in
    let r : (w * 16 + d) % 16 ≡ d = omega arith in
    rw (q, r) refl

pub hex_digit-injective : (a b : ℕ) → a < 16 → b < 16 → hex_digit a ≡ hex_digit b → a ≡ b
hex_digit-injective a b s t e = grind (arith, nat_tests)

pub pow16-suc : (k : ℕ) → 16 ^ suc k ≡ 16 ^ k * 16
pow16-suc k = grind arith

-- a number is known by its digits
pub hex-injective : (k m n : ℕ) → m < 16 ^ k → n < 16 ^ k → hex k m ≡ hex k n → m ≡ n
unfolding hex
hex-injective zero m n s t e = omega arith
hex-injective (suc k) m n s t e =
    let both = same_from_push (hex k (m / 16)) (hex k (n / 16)) (hex_digit (m % 16)) (hex_digit (n % 16)) e in
    let p = pow16-suc k in
    let high : m / 16 ≡ n / 16 = hex-injective k (m / 16) (n / 16) (omega arith) (omega arith) both.0 in
    let low : m % 16 ≡ n % 16 = hex_digit-injective (m % 16) (n % 16) (omega arith) (omega arith) both.1 in
    omega arith

-- digits go on to a whole number of digits
pub hex-padded : (j m w : ℕ) → w < 16 ^ j → (v : ℕ) × (tail : List ℕ) × (v < 16 ^ (j + m)) × (hex (j + m) v ≡ hex j w ++ tail)
hex-padded j zero w small =
    let same : j + zero ≡ j = omega arith in
    (w, [], rw same small, rw same (sym (append-nil (hex j w))))
hex-padded j (suc m) w small =
    let before = hex-padded j m w small in
    let same : j + suc m ≡ suc (j + m) = omega arith in
    let p = pow16-suc (j + m) in
    let fits : before.0 < 16 ^ (j + m) = before.2 in (
      before.0 * 16 + 0,
      before.1 ++ hex_digit 0 ∷ [],
      rw same (omega arith),
      rw (same, hex-push (j + m) before.0 0 (omega arith), before.3) (append_assoc (hex j w) before.1 (hex_digit 0 ∷ [])),
    )

pub length-line : (a w : ℕ) → length (line a w) ≡ 18
unfolding line
length-line a w = omega (arith, length-append (hex 8 a) (32 ∷ (hex 8 w ++ 10 ∷ [])), length-append (hex 8 w) (10 ∷ []), length-hex 8 a, length-hex 8 w)

pub length-listing_from : (a : ℕ) (words : List ℕ) → length (listing_from a words) ≡ 18 * length words
length-listing_from a [] = refl
length-listing_from a (w ∷ words) =
    omega (arith, length-append (line a w) (listing_from (a + 4) words), length-line a w, length-listing_from (a + 4) words)

-- one word more
pub listing_from-push : (a : ℕ) (words : List ℕ) (w : ℕ) → listing_from a (words ++ w ∷ []) ≡ listing_from a words ++ line (a + 4 * length words) w
listing_from-push a [] w = let same : a + 0 ≡ a = omega arith in rw same (append-nil (line a w))
listing_from-push a (v ∷ words) w =
    let same : a + 4 + 4 * length words ≡ a + 4 * suc (length words) = omega arith in
    rw (listing_from-push (a + 4) words w, same) (sym (append_assoc (line a v) (listing_from (a + 4) words) (line (a + 4 * suc (length words)) w)))

pub hex-none : (k n : ℕ) (text : List ℕ) → k ≡ 0 → text ≡ text ++ hex k n
unfolding hex
hex-none zero n text none = sym (append-nil text)
hex-none (suc k) n text none = absurd (omega arith)

pub hex-more : (k n : ℕ) (old mid new : List ℕ) (digit : ℕ) → 0 < k → mid ≡ old ++ hex (k - 1) (n / 16) → digit ≡ hex_digit (n % 16)
    → new ≡ mid ++ digit ∷ [] → new ≡ old ++ hex k n
unfolding hex
hex-more zero n old mid new digit some e f g = absurd (omega arith)
hex-more (suc k) n old mid new digit some e f g =
    let same : suc k - 1 ≡ k = omega arith in
    let front : mid ≡ old ++ hex k (n / 16) = rw same at e in
    rw (g, f, front) (append_assoc old (hex k (n / 16)) (hex_digit (n % 16) ∷ []))

pub line-appended : (a w : ℕ) (t0 t1 t2 t3 t4 : List ℕ) → t1 ≡ t0 ++ hex 8 a → t2 ≡ t1 ++ 32 ∷ [] → t3 ≡ t2 ++ hex 8 w → t4 ≡ t3 ++ 10 ∷ []
    → t4 ≡ t0 ++ line a w
unfolding line
line-appended a w t0 t1 t2 t3 t4 e1 e2 e3 e4 =
    let all : t4 ≡ ((t0 ++ hex 8 a) ++ 32 ∷ []) ++ hex 8 w ++ 10 ∷ [] = cc in
    all ∙ simp append_assoc

pub listing-more : (words text next : List ℕ) (i address : ℕ) → i < length words → text ≡ listing (take i words) → address ≡ 4 * i
    → next ≡ text ++ line address (get_or words i 0) → next ≡ listing (take (i + 1) words)
listing-more words text next i address inside e place f =
    let more = take_more words i 0 inside in
    let size : length (take i words) ≡ i = length-take-le i words (omega arith) in
    let same : 0 + 4 * length (take i words) ≡ address = omega arith in
    rw (f, e, more, listing_from-push 0 (take i words) (get_or words i 0), same) refl
