-- Laws of a line that is read: how far a text and the lines of one address go together.
use Rattle.std.proofs.Common.{◌≡◌, ◌≢◌, ℕ, zero, suc, ◌+◌, ◌-◌, ◌*◌, ◌/◌, ◌%◌, ◌^◌, ◌<◌, ◌≤◌, List, [], ◌∷◌, ◌++◌, length, get_or, take, drop, refl, sym, subst, ◌∙◌, append_assoc, arith, length-append, lit<, ⊎_elim}
use Rattle.std.proofs.lemmas.List.{append-nil, length_push, length-drop, get_or_append_left, get_or-append_right, get_or_push, get_or_at, get_or-drop, take-append-le, take_at, take_all, take_more}
use Rattle.std.proofs.lemmas.Bool.{cases_lt}
use Rattle.std.proofs.Math.Nat.{pow-le-pow_right}
use Rattle.cm_asm.specs.Listing.{hex_digit, hex, line}
use Rattle.cm_asm.specs.Reading.{Agrees, IsHexByte, IsNumberFront, LeavesLine}
use Rattle.cm_asm.proofs.ListLaw.{take-add}
use Rattle.cm_asm.proofs.ListingLaw.{length-hex, hex-push, hex-padded, pow16-suc}

-- ---- the address

Agrees-none : (text expected : List ℕ) → expected ≡ [] → Agrees text expected 0
Agrees-none text expected e = record {
  within = omega arith;
  inside = omega arith;
  same = refl;
  other = rw e (λ h. absurd (omega arith));
}

Agrees-stop : (text expected : List ℕ) (b count : ℕ) → Agrees text expected count → count < length expected → Agrees text (expected ++ b ∷ []) count
Agrees-stop text expected b count h short = record {
  within = omega (arith, length_push expected b);
  inside = h.inside;
  same = h.same ∙ sym (take-append-le count expected (b ∷ []) (omega arith));
  other = λ lt at. rw (get_or_append_left expected (b ∷ []) 0 count short) (h.other short at);
}

Agrees-end : (text expected : List ℕ) (b count : ℕ) → Agrees text expected count → count ≡ length expected
    → (count < length text → b ≢ get_or text count 0) → Agrees text (expected ++ b ∷ []) count
Agrees-end text expected b count h whole ne = record {
  within = omega (arith, length_push expected b);
  inside = h.inside;
  same = h.same ∙ sym (take-append-le count expected (b ∷ []) (omega arith));
  other = λ lt at. rw (get_or_push expected b 0 count (sym whole)) (ne at);
}

Agrees-more : (text expected : List ℕ) (b count : ℕ) → Agrees text expected count → count ≡ length expected
    → count < length text → get_or text count 0 ≡ b → Agrees text (expected ++ b ∷ []) (count + 1)
Agrees-more text expected b count h whole at e = record {
  within = omega (arith, length_push expected b);
  inside = omega arith;
  same =
      let more = take_more text count 0 at in
      let all = take_all count expected (omega arith) in
      let whole_of = take_all (count + 1) (expected ++ b ∷ []) (omega (arith, length_push expected b)) in
      rw (more, whole_of, e, h.same, all) refl;
  other = λ lt. absurd (omega (arith, length_push expected b));
}

-- the digits of a number, without the last and with it
hex-last : (k n : ℕ) → 0 < k → hex k n ≡ hex (k - 1) (n / 16) ++ hex_digit (n % 16) ∷ []
unfolding hex
hex-last zero n some = absurd (omega arith)
hex-last (suc k) n some = let same : suc k - 1 ≡ k = omega arith in rw same refl

pub agreeing-none : (text : List ℕ) (k n : ℕ) → k ≡ 0 → Agrees text (hex k n) 0
unfolding hex
agreeing-none text zero n e = Agrees-none text [] refl
agreeing-none text (suc k) n e = absurd (omega arith)

pub agreeing-stop : (text : List ℕ) (k n count : ℕ) → 0 < k → Agrees text (hex (k - 1) (n / 16)) count → count < k - 1 → Agrees text (hex k n) count
agreeing-stop text k n count some h short =
    rw (hex-last k n some) (Agrees-stop text (hex (k - 1) (n / 16)) (hex_digit (n % 16)) count h (omega (arith, length-hex (k - 1) (n / 16))))

pub agreeing-end : (text : List ℕ) (k n count : ℕ) → 0 < k → Agrees text (hex (k - 1) (n / 16)) count → k - 1 ≤ count
    → (count < length text → hex_digit (n % 16) ≢ get_or text count 0) → Agrees text (hex k n) count
agreeing-end text k n count some h long ne =
    let inside : count ≤ length (hex (k - 1) (n / 16)) = h.within in
    rw (hex-last k n some) (Agrees-end text (hex (k - 1) (n / 16)) (hex_digit (n % 16)) count h (omega (arith, length-hex (k - 1) (n / 16))) ne)

pub agreeing-more : (text : List ℕ) (k n count : ℕ) → 0 < k → Agrees text (hex (k - 1) (n / 16)) count → k - 1 ≤ count
    → count < length text → get_or text count 0 ≡ hex_digit (n % 16) → Agrees text (hex k n) k
agreeing-more text k n count some h long at e =
    let size = length-hex (k - 1) (n / 16) in
    let inside : count ≤ length (hex (k - 1) (n / 16)) = h.within in
    let same : k ≡ count + 1 = omega arith in
    let all : Agrees text (hex k n) (count + 1) =
    rw (hex-last k n some) (Agrees-more text (hex (k - 1) (n / 16)) (hex_digit (n % 16)) count h (omega arith) at e) in
    subst (λ c. Agrees text (hex k n) c) (sym same) all

-- ---- the word

pub number-more : (text : List ℕ) (count value digit : ℕ) → count < length text → take count text ≡ hex count value → digit < 16
    → get_or text count 0 ≡ hex_digit digit → take (count + 1) text ≡ hex (count + 1) (value * 16 + digit)
number-more text count value digit at e small f =
    let same : count + 1 ≡ suc count = omega arith in
    let grown : hex (count + 1) (value * 16 + digit) ≡ hex count value ++ hex_digit digit ∷ [] = rw same (hex-push count value digit small) in
    rw (take_more text count 0 at, e, f, grown) refl

pub number-small : (count value digit : ℕ) → value < 16 ^ count → digit < 16 → value * 16 + digit < 16 ^ (count + 1)
number-small count value digit small d =
    let same : count + 1 ≡ suc count = omega arith in
    let grown : 16 ^ (count + 1) ≡ 16 ^ count * 16 = rw same (pow16-suc count) in
    omega arith

-- each character of a number's digits is one
IsHexByte-hex : (k n j : ℕ) → j < k → IsHexByte (get_or (hex k n) j 0)
unfolding hex
IsHexByte-hex zero n j h = absurd (omega arith)
IsHexByte-hex (suc k) n j h =
    ⊎_elim
    (λ below. rw (get_or_append_left (hex k (n / 16)) (hex_digit (n % 16) ∷ []) 0 j (omega (arith, length-hex k (n / 16)))) (IsHexByte-hex k (n / 16) j below))
    (λ above.
    let last : j ≡ k = omega arith in
    rw (get_or_push (hex k (n / 16)) (hex_digit (n % 16)) 0 j (omega (arith, length-hex k (n / 16)))) (n % 16, omega arith, refl))
    (cases_lt j k)

-- ---- the line

-- the address and the space
pub front_of : ℕ → List ℕ
front_of a = hex 8 a ++ 32 ∷ []

length-front_of : (a : ℕ) → length (front_of a) ≡ 9
unfolding front_of
length-front_of a = omega (arith, length_push (hex 8 a) 32, length-hex 8 a)

line-split : (a w : ℕ) → line a w ≡ front_of a ++ (hex 8 w ++ 10 ∷ [])
unfolding line front_of
line-split a w = sym (append_assoc (hex 8 a) (32 ∷ []) (hex 8 w ++ 10 ∷ []))

take-line_address : (a w m : ℕ) → m ≤ 8 → take m (line a w) ≡ take m (hex 8 a)
unfolding line
take-line_address a w m h = take-append-le m (hex 8 a) (32 ∷ (hex 8 w ++ 10 ∷ [])) (omega (arith, length-hex 8 a))

get_or-line_address : (a w m : ℕ) → m < 8 → get_or (line a w) m 0 ≡ get_or (hex 8 a) m 0
unfolding line
get_or-line_address a w m h = get_or_append_left (hex 8 a) (32 ∷ (hex 8 w ++ 10 ∷ [])) 0 m (omega (arith, length-hex 8 a))

get_or-line_space : (a w : ℕ) → get_or (line a w) 8 0 ≡ 32
unfolding line
get_or-line_space a w = get_or_at (hex 8 a) 32 (hex 8 w ++ 10 ∷ []) 0 8 (length-hex 8 a)

get_or-line_word : (a w m : ℕ) → m < 8 → get_or (line a w) (9 + m) 0 ≡ get_or (hex 8 w) m 0
get_or-line_word a w m h =
    let same : 9 + m - 9 ≡ m = omega arith in
    rw (line-split a w, get_or-append_right (front_of a) (hex 8 w ++ 10 ∷ []) 9 (9 + m) 0 (length-front_of a) (omega arith), same)
    (get_or_append_left (hex 8 w) (10 ∷ []) 0 m (omega (arith, length-hex 8 w)))

get_or-line_end : (a w : ℕ) → get_or (line a w) 17 0 ≡ 10
get_or-line_end a w =
    rw (line-split a w, get_or-append_right (front_of a) (hex 8 w ++ 10 ∷ []) 9 17 0 (length-front_of a) (omega arith))
    (get_or_push (hex 8 w) 10 0 8 (length-hex 8 w))

-- the line up to some digits of the word
take-line_word : (a w v m : ℕ) (tail : List ℕ) → hex 8 w ≡ hex m v ++ tail → take (9 + m) (line a w) ≡ front_of a ++ hex m v
take-line_word a w v m tail e =
    let all : line a w ≡ (front_of a ++ hex m v) ++ (tail ++ 10 ∷ []) =
    rw (line-split a w, e) (simp append_assoc) in
    rw all (take_at (front_of a ++ hex m v) (tail ++ 10 ∷ []) (9 + m) (omega (arith, length-append (front_of a) (hex m v), length-front_of a, length-hex m v)))

pub LeavesLine-address : (a : ℕ) (text : List ℕ) (m : ℕ) → Agrees text (hex 8 a) m → m < 8 → LeavesLine a text m
LeavesLine-address a text m h short = record {
  within = omega arith;
  inside = h.inside;
  front = (0, lit< tt, h.same ∙ sym (take-line_address a 0 m (omega arith)));
  other = λ w at. rw (get_or-line_address a w m short) (h.other (omega (arith, length-hex 8 a)) at);
}

pub LeavesLine-space : (a : ℕ) (text : List ℕ) (m : ℕ) → Agrees text (hex 8 a) m → 8 ≤ m → (8 < length text → get_or text 8 0 ≢ 32) → LeavesLine a text m
LeavesLine-space a text m h long ne =
    let top : m ≤ length (hex 8 a) = h.within in
    let size = length-hex 8 a in
    let same : m ≡ 8 = omega arith in
    record {
      within = omega arith;
      inside = h.inside;
      front = (0, lit< tt, h.same ∙ sym (take-line_address a 0 m (omega arith)));
      other = λ w at e. ne (omega arith) (let f : get_or (line a w) 8 0 ≡ get_or text 8 0 = rw same at e in sym f ∙ get_or-line_space a w);
    }

-- the address and the space were read
pub head-read : (a : ℕ) (text : List ℕ) (m : ℕ) → Agrees text (hex 8 a) m → 8 ≤ m → 8 < length text → get_or text 8 0 ≡ 32 → take 9 text ≡ front_of a
unfolding front_of
head-read a text m h long at e =
    let top : m ≤ length (hex 8 a) = h.within in
    let size = length-hex 8 a in
    let same : m ≡ 8 = omega arith in
    let front : take 8 text ≡ take 8 (hex 8 a) = rw same at h.same in
    let all : take 8 (hex 8 a) ≡ hex 8 a = take_all 8 (hex 8 a) (omega arith) in
    let more : take 9 text ≡ take 8 text ++ get_or text 8 0 ∷ [] = take_more text 8 0 at in
    rw (more, e, front, all) refl

-- the text up to some digits of the word
head-digits : (a v m : ℕ) (text : List ℕ) → take 9 text ≡ front_of a → take m (drop 9 text) ≡ hex m v → take (9 + m) text ≡ front_of a ++ hex m v
head-digits a v m text e f = rw (take-add 9 m text, e, f) refl

pub LeavesLine-word : (a : ℕ) (text : List ℕ) (m v : ℕ) → take 9 text ≡ front_of a → 9 ≤ length text → IsNumberFront (drop 9 text) m v → m < 8
    → LeavesLine a text (9 + m)
LeavesLine-word a text m v head long h short =
    let whole : m + (8 - m) ≡ 8 = omega arith in
    let padded = hex-padded m (8 - m) v h.small in
    let fits : padded.0 < 16 ^ 8 = rw whole at padded.2 in
    let digits : hex 8 padded.0 ≡ hex m v ++ padded.1 = rw whole at padded.3 in
    record {
      within = omega arith;
      inside = let i : m ≤ length (drop 9 text) = h.inside in omega (arith, length-drop 9 text);
      front = (padded.0, fits, head-digits a v m text head h.digits ∙ sym (take-line_word a padded.0 v m padded.1 digits));
      other = λ w at e. h.other short (omega (arith, length-drop 9 text))
          (rw (get_or-drop 9 text m 0, ← e, get_or-line_word a w m short) (IsHexByte-hex 8 w m short));
    }

pub LeavesLine-end : (a : ℕ) (text : List ℕ) (m v : ℕ) → take 9 text ≡ front_of a → 9 ≤ length text → IsNumberFront (drop 9 text) m v → 8 ≤ m
    → (17 < length text → get_or text 17 0 ≢ 10) → LeavesLine a text (9 + m)
LeavesLine-end a text m v head long h full ne =
    let top : m ≤ 8 = h.within in
    let same : m ≡ 8 = omega arith in
    let place : 9 + m ≡ 17 = omega arith in
    let small : v < 16 ^ 8 = rw same at h.small in
    let digits : take 8 (drop 9 text) ≡ hex 8 v = rw same at h.digits in
    record {
      within = omega arith;
      inside = let i : m ≤ length (drop 9 text) = h.inside in omega (arith, length-drop 9 text);
      front = (v, small, rw same (head-digits a v 8 text head digits ∙ sym (take-line_word a v v 8 [] (sym (append-nil (hex 8 v))))));
      other = λ w at e. ne (omega arith) (let f : get_or (line a w) 17 0 ≡ get_or text 17 0 = rw place at e in sym f ∙ get_or-line_end a w);
    }

pub line-read : (a : ℕ) (text : List ℕ) (m v : ℕ) → take 9 text ≡ front_of a → IsNumberFront (drop 9 text) m v → 8 ≤ m
    → 17 < length text → get_or text 17 0 ≡ 10 → take 18 text ≡ line a v
line-read a text m v head h full at e =
    let top : m ≤ 8 = h.within in
    let same : m ≡ 8 = omega arith in
    let digits : take 8 (drop 9 text) ≡ hex 8 v = rw same at h.digits in
    let front : take 17 text ≡ front_of a ++ hex 8 v = head-digits a v 8 text head digits in
    let more : take 18 text ≡ take 17 text ++ get_or text 17 0 ∷ [] = take_more text 17 0 at in
    rw (more, front, e, line-split a v) (append_assoc (front_of a) (hex 8 v) (10 ∷ []))
