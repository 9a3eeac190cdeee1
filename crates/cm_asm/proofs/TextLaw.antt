-- Laws of whole listings: each has one list of words, and a text leaves the listings at one byte at most.
use Rattle.std.proofs.Common.{◌≡◌, ℕ, zero, suc, ◌+◌, ◌-◌, ◌*◌, ◌^◌, ◌<◌, ◌≤◌, List, [], ◌∷◌, ◌++◌, length, get_or, take, drop, refl, ap, sym, ◌∙◌, append_assoc, arith, length-append, ⊎_elim}
use Rattle.std.proofs.lemmas.Bool.{cases_lt}
use Rattle.std.proofs.lemmas.List.{append-nil, append_cancel_left, length_push, length-take, length-take-le, length-drop, get_or_append_left, get_or-append_right, get_or-drop, get_or-take, take_at, drop_at, take_all, take-append-drop, take-take}
use Rattle.cm_asm.specs.Listing.{hex, line, listing_from, listing, AreWords, IsListing, IsFront, LeavesAt}
use Rattle.cm_asm.specs.Reading.{LeavesLine}
use Rattle.cm_asm.proofs.ListingLaw.{length-hex, hex-injective, length-line, length-listing_from, listing_from-push}
use Rattle.cm_asm.proofs.ListLaw.{each-push, take-add}

-- ---- one list of words for each listing

line-injective : (a v w : ℕ) → v < 2 ^ 32 → w < 2 ^ 32 → line a v ≡ line a w → v ≡ w
unfolding line
line-injective a v w s t e =
    let rest : 32 ∷ (hex 8 v ++ 10 ∷ []) ≡ 32 ∷ (hex 8 w ++ 10 ∷ []) = append_cancel_left (hex 8 a) (32 ∷ (hex 8 v ++ 10 ∷ [])) (32 ∷ (hex 8 w ++ 10 ∷ [])) e in
    let tail : hex 8 v ++ 10 ∷ [] ≡ hex 8 w ++ 10 ∷ [] = ap (drop 1) rest in
    let first = take_at (hex 8 v) (10 ∷ []) 8 (length-hex 8 v) in
    let second = take_at (hex 8 w) (10 ∷ []) 8 (length-hex 8 w) in
    hex-injective 8 v w s t (sym first ∙ ap (take 8) tail ∙ second)

listing_from-injective : (a : ℕ) (vs ws : List ℕ) → ((k : ℕ) → get_or vs k 0 < 2 ^ 32) → ((k : ℕ) → get_or ws k 0 < 2 ^ 32)
    → listing_from a vs ≡ listing_from a ws → vs ≡ ws
listing_from-injective a [] [] s t e = refl
listing_from-injective a [] (w ∷ ws) s t e =
    absurd (omega (arith, ap length e, length-append (line a w) (listing_from (a + 4) ws), length-line a w))
listing_from-injective a (v ∷ vs) [] s t e =
    absurd (omega (arith, ap length e, length-append (line a v) (listing_from (a + 4) vs), length-line a v))
listing_from-injective a (v ∷ vs) (w ∷ ws) s t e =
    let first : line a v ≡ line a w =
    sym (take_at (line a v) (listing_from (a + 4) vs) 18 (length-line a v)) ∙ ap (take 18) e ∙ take_at (line a w) (listing_from (a + 4) ws) 18 (length-line a w) in
    let rest : listing_from (a + 4) vs ≡ listing_from (a + 4) ws =
    sym (drop_at (line a v) (listing_from (a + 4) vs) 18 (length-line a v)) ∙ ap (drop 18) e ∙ drop_at (line a w) (listing_from (a + 4) ws) 18 (length-line a w) in
    let head : v ≡ w = line-injective a v w (s 0) (t 0) first in
    let tail : vs ≡ ws = listing_from-injective (a + 4) vs ws (λ k. s (suc k)) (λ k. t (suc k)) rest in
    cc

pub listing-injective : (vs ws : List ℕ) → AreWords vs → AreWords ws → listing vs ≡ listing ws → vs ≡ ws
listing-injective vs ws s t e = listing_from-injective 0 vs ws s.each t.each e

-- ---- the bytes of a listing

get_or-listing_from : (words : List ℕ) (a k n : ℕ) → k < length words → n < 18
    → get_or (listing_from a words) (18 * k + n) 0 ≡ get_or (line (a + 4 * k) (get_or words k 0)) n 0
get_or-listing_from [] a k n inside short = absurd (omega arith)
get_or-listing_from (w ∷ words) a zero n inside short =
    let place : 18 * 0 + n ≡ n = omega arith in
    let same : a + 4 * 0 ≡ a = omega arith in
    rw (place, same) (get_or_append_left (line a w) (listing_from (a + 4) words) 0 n (omega (arith, length-line a w)))
get_or-listing_from (w ∷ words) a (suc k) n inside short =
    let place : 18 * suc k + n - 18 ≡ 18 * k + n = omega arith in
    let same : a + 4 * suc k ≡ a + 4 + 4 * k = omega arith in
    rw (get_or-append_right (line a w) (listing_from (a + 4) words) 18 (18 * suc k + n) 0 (length-line a w) (omega arith), place, same)
    (get_or-listing_from words (a + 4) k n (omega arith) short)

-- ---- words that were read

-- a line more was read
pub listing-read : (text words : List ℕ) (at w : ℕ) → take at text ≡ listing words → at ≡ 18 * length words
    → take 18 (drop at text) ≡ line (4 * length words) w → take (at + 18) text ≡ listing (words ++ w ∷ [])
listing-read text words at w read place e =
    let same : 0 + 4 * length words ≡ 4 * length words = omega arith in
    rw (take-add at 18 text, read, e, listing_from-push 0 words w, same) refl

-- a whole line was there
pub line-inside : (text : List ℕ) (at a w : ℕ) → take 18 (drop at text) ≡ line a w → at ≤ length text → at + 18 ≤ length text
line-inside text at a w e inside =
    let size : length (take 18 (drop at text)) ≡ 18 = ap length e ∙ length-line a w in
    omega (arith, size, length-take 18 (drop at text), length-drop at text)

-- the whole text was read
pub text-read : (text words : List ℕ) (at : ℕ) → take at text ≡ listing words → length text ≤ at → text ≡ listing words
text-read text words at read long = sym (take_all at text long) ∙ read

-- ---- where a text leaves the listings

-- a front of a text that some listing begins with
IsFront-less : (text : List ℕ) (a b : ℕ) → a ≤ b → IsFront (take b text) → IsFront (take a text)
IsFront-less text a b le (words, are, more, e) =
    let front = take-append-drop a (take b text) in
    let less = take-take a b text le in
    let all : take a text ++ drop a (take b text) ≡ take b text = cc in
    (words, are, drop a (take b text) ++ more, sym (append_assoc (take a text) (drop a (take b text)) more) ∙ ap (λ front. front ++ more) all ∙ e)

pub LeavesAt-not_listing : (text : List ℕ) (at : ℕ) → IsListing text → LeavesAt text at → ⊥
LeavesAt-not_listing text at (words, are, e) h =
    ⊎_elim
    (λ inside. h.byte inside (words, are, drop (at + 1) text, take-append-drop (at + 1) text ∙ e))
    (λ past. h.rest (let top = h.within in omega arith) (words, are, e))
    (cases_lt at (length text))

not-before : (text : List ℕ) (a b : ℕ) → LeavesAt text a → LeavesAt text b → a < b → ⊥
not-before text a b h k lt =
    h.byte (let top = k.within in omega arith) (IsFront-less text (a + 1) b (omega arith) k.front)

pub LeavesAt-one : (text : List ℕ) (a b : ℕ) → LeavesAt text a → LeavesAt text b → a ≡ b
LeavesAt-one text a b h k =
    ⊎_elim
    (λ lt. absurd (not-before text a b h k lt))
    (λ le. ⊎_elim (λ gt. absurd (not-before text b a k h gt)) (λ ge. omega arith) (cases_lt b a))
    (cases_lt a b)

-- a line for which there is no room
pub LeavesAt-full : (text words : List ℕ) (at : ℕ) → AreWords words → length words ≡ 4194304 → take at text ≡ listing words
    → at ≡ 18 * length words → at < length text → LeavesAt text at
LeavesAt-full text words at are full read place inside = record {
  within = omega arith;
  front = (words, are, [], append-nil (take at text) ∙ read);
  byte = λ lt (others, theirs, more, e).
      let few = theirs.few in
      let size = ap length e in
      omega (arith, size, length-append (take (at + 1) text) more, length-take-le (at + 1) text (omega arith), length-listing_from 0 others, few);
  rest = λ whole. absurd (omega arith);
}

front-line : (text words : List ℕ) (at count : ℕ) → AreWords words → length words < 4194304 → take at text ≡ listing words
    → LeavesLine (4 * length words) (drop at text) count → IsFront (take (at + count) text)
front-line text words at count are few read h =
    let w = h.front.0 in
    let row = line (4 * length words) w in
    let same : 0 + 4 * length words ≡ 4 * length words = omega arith in
    let all : listing (words ++ w ∷ []) ≡ listing words ++ row = rw (listing_from-push 0 words w, same) refl in
    let read_more : take (at + count) text ≡ listing words ++ take count row = rw (take-add at count text, read, h.front.2) refl in (
      words ++ w ∷ [],
      record { few = omega (arith, length_push words w); each = each-push words w are.each h.front.1 },
      drop count row,
      rw (read_more, all) (append_assoc (listing words) (take count row) (drop count row) ∙ ap (λ rest. listing words ++ rest) (take-append-drop count row)),
    )

byte-line : (text words others more : List ℕ) (at count : ℕ) → at ≡ 18 * length words → LeavesLine (4 * length words) (drop at text) count
    → at + count < length text → take (at + count + 1) text ++ more ≡ listing others → ⊥
byte-line text words others more at count place h lt e =
    let short = h.within in
    let size = ap length e ∙ length-listing_from 0 others in
    let front = length-take-le (at + count + 1) text (omega arith) in
    let longer : length words < length others = omega (arith, size, length-append (take (at + count + 1) text) more, front) in
    let same : 0 + 4 * length words ≡ 4 * length words = omega arith in
    let here : 18 * length words + count ≡ at + count = omega arith in
    let theirs = get_or-listing_from others 0 (length words) count longer short in
    let read : get_or (listing others) (at + count) 0 ≡ get_or (drop at text) count 0 =
    rw (
      ← e,
      get_or_append_left (take (at + count + 1) text) more 0 (at + count) (omega (arith, front)),
      get_or-take (at + count + 1) text (at + count) 0 (omega arith),
      get_or-drop at text count 0,
    ) refl in
    let byte : get_or (line (4 * length words) (get_or others (length words) 0)) count 0 ≡ get_or (drop at text) count 0 =
    sym (rw (here, same) at theirs) ∙ read in
    h.other (get_or others (length words) 0) (omega (arith, length-drop at text)) byte

-- a line that no word has
pub LeavesAt-line : (text words : List ℕ) (at count : ℕ) → AreWords words → length words < 4194304 → take at text ≡ listing words
    → at ≡ 18 * length words → at < length text → LeavesLine (4 * length words) (drop at text) count → LeavesAt text (at + count)
LeavesAt-line text words at count are few read place inside h =
    let some = h.inside in
    let short = h.within in
    let size = length-drop at text in
    record {
      within = omega arith;
      front = front-line text words at count are few read h;
      byte = λ lt (others, theirs, more, e). byte-line text words others more at count place h lt e;
      rest = λ whole (others, theirs, e).
          let all = ap length e ∙ length-listing_from 0 others in
          omega (arith, all);
    }
