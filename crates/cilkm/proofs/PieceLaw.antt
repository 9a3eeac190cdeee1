-- The pieces of a text, one after another, and the first that is wrong.
use Rattle.std.proofs.Common.{to_z, of_z, ◌≡◌, ℕ, suc, ◌+◌, ◌-◌, ◌<◌, ◌≤◌, Bool, true, false, List, [], ◌∷◌, ◌++◌, length, take, drop, get_or, refl, sym, ap, ◌∙◌, subst, arith, append_assoc, append-nil, drop-cons, length-append}
use Rattle.std.specs.Int.{w32}
use Rattle.std.proofs.lemmas.Int.{to_z-of_z}
use Rattle.std.specs.Prelude.{ℤ, codes, FitsSigned, if◌then◌else◌, Result, Ok, Err, IfErr, IsErrAnd}
use Rattle.std.proofs.lemmas.List.{length-map, map-append, drop_all, take_rest, drop-drop, length-take-le}
use Rattle.cm_text.specs.Numeral.{IsNumber}
use Rattle.cm_meaning.specs.Range.{max_input_numbers}
use Rattle.cilkm.specs.Pieces.{Piece, pieces, pieces_behind, is_separator, up_to_separator, AreNumbers, piece_value, HaveValues, IsNext, IsNotNext, IsWrongAt, StopsReading}
use Rattle.cilkm.specs.declared.pieces.PieceStop.{PieceStop}
use Rattle.cilkm.specs.declared.pieces.PieceStop.TheVariants as stop

-- ---- one piece after another

-- a separator is passed over
pub past_separator : (at : ℕ) (apart : Bool) (byte : ℕ) (more : List ℕ) → is_separator byte ≡ true → pieces at apart (byte ∷ more) ≡ pieces (at + 1) true more
past_separator at apart byte more e =
    ap (λ (s : Bool). if s then pieces (at + 1) true more else if apart then record { at = at; bytes = up_to_separator (byte ∷ more) } ∷ pieces (at + 1) false more else pieces (at + 1) false more) e

-- within a piece the next ones begin behind its end
past_piece : (at : ℕ) (bytes : List ℕ) → pieces at false bytes ≡ pieces (at + length (up_to_separator bytes)) true (drop (length (up_to_separator bytes)) bytes)
past_piece at [] = refl
past_piece at (byte ∷ more) = by (is_separator byte) refl (past_piece (at + 1) more)
  where
    by : (s : Bool) → is_separator byte ≡ s
        → pieces (at + 1) false more ≡ pieces (at + 1 + length (up_to_separator more)) true (drop (length (up_to_separator more)) more)
        → (if s then pieces (at + 1) true more else pieces (at + 1) false more)
        ≡ pieces (at + length (if s then [] else byte ∷ up_to_separator more)) true (drop (length (if s then [] else byte ∷ up_to_separator more)) (byte ∷ more))
    by true e later =
        let none : at + 0 ≡ at = omega arith in
        sym (past_separator at true byte more e) ∙ ap (λ n. pieces n true (byte ∷ more)) (sym none)
    by false e later =
        let count : at + 1 + length (up_to_separator more) ≡ at + suc (length (up_to_separator more)) = omega arith in
        later ∙ ap (λ n. pieces n true (drop (length (up_to_separator more)) more)) count

-- a byte that is no separator begins a piece
pub first_piece : (at : ℕ) (byte : ℕ) (more : List ℕ) → is_separator byte ≡ false
    → pieces at true (byte ∷ more) ≡ record { at = at; bytes = up_to_separator (byte ∷ more) }
    ∷ pieces (at + length (up_to_separator (byte ∷ more))) true (drop (length (up_to_separator (byte ∷ more))) (byte ∷ more))
first_piece at byte more e =
    let piece : Piece = record { at = at; bytes = up_to_separator (byte ∷ more) } in
    ap (λ (s : Bool). if s then pieces (at + 1) true more else piece ∷ pieces (at + 1) false more) e
    ∙ ap (λ all. piece ∷ all) (sym (ap (λ (s : Bool). if s then pieces (at + 1) true more else pieces (at + 1) false more) e) ∙ past_piece at (byte ∷ more))

-- the same at a place of the input, by the slices of the code
pub piece_at : (input : List ℕ) (at count : ℕ) → at < length input → is_separator (get_or input at 0) ≡ false
    → count ≤ length (take (length input - at) (drop at input)) → take count (take (length input - at) (drop at input)) ≡ up_to_separator (take (length input - at) (drop at input))
    → pieces at true (drop at input) ≡ record { at = at; bytes = take (at + count - at) (drop at input) } ∷ pieces (at + count) true (drop (at + count) input)
piece_at input at count h e within front =
    let rest : take (length input - at) (drop at input) ≡ drop at input = take_rest input at in
    let room : count ≤ length (drop at input) = subst (λ bytes. count ≤ length bytes) rest within in
    let piece : take count (drop at input) ≡ up_to_separator (drop at input) = subst (λ bytes. take count bytes ≡ up_to_separator bytes) rest front in
    let size : length (up_to_separator (drop at input)) ≡ count = ap length (sym piece) ∙ length-take-le count (drop at input) room in
    let same : count ≡ at + count - at = omega arith in
    subst (λ bytes. pieces at true bytes ≡ record { at = at; bytes = up_to_separator bytes } ∷ pieces (at + length (up_to_separator bytes)) true (drop (length (up_to_separator bytes)) bytes))
    (sym (drop-cons input at 0 h)) (first_piece at (get_or input at 0) (drop (suc at) input) e)
    ∙ ap (λ n. record { at = at; bytes = up_to_separator (drop at input) } ∷ pieces (at + n) true (drop n (drop at input))) size
    ∙ ap (λ bytes. record { at = at; bytes = bytes } ∷ pieces (at + count) true (drop count (drop at input))) (sym piece ∙ ap (λ n. take n (drop at input)) same)
    ∙ ap (λ bytes. record { at = at; bytes = take (at + count - at) (drop at input) } ∷ pieces (at + count) true bytes) (drop-drop count at input)

-- ---- the length of a piece

-- no separator stands before this place
abbrev pub IsInside : (bytes : List ℕ) → (at : ℕ) → Type 0
IsInside bytes at = up_to_separator bytes ≡ take at bytes ++ up_to_separator (drop at bytes)

-- ---- what was read

-- the pieces that were read have these values, and these pieces are left
pub record Read (all rest : List Piece) (values : List ℤ) : Type 0 where
  pub done : List Piece
  pub split : all ≡ done ++ rest
  pub have : HaveValues done values

AreNumbers-push : (done : List Piece) (piece : Piece) → AreNumbers done → IsNumber piece.bytes → AreNumbers (done ++ piece ∷ [])
AreNumbers-push [] piece each number = (number, tt)
AreNumbers-push (first ∷ done) piece each number = (each.0, AreNumbers-push done piece each.1 number)

value_count : (done : List Piece) (values : List ℤ) → HaveValues done values → length values ≡ length done
value_count done values have = ap length have.values_are ∙ length-map done piece_value

-- one more is read, and put last as the code does
pub one_read : (all rest : List Piece) (values now : List ℤ) (piece : Piece) (count : ℕ) (value : ℤ) → Read all (piece ∷ rest) values → count ≡ length values
    → IsNext piece.bytes count value → now ≡ values ++ to_z w32 (of_z w32 value) ∷ [] → Read all rest now
one_read all rest values now piece count value read size next push =
    record {
      done = read.done ++ piece ∷ [];
      split = read.split ∙ sym (append_assoc read.done (piece ∷ []) rest);
      have = record {
        each = AreNumbers-push read.done piece read.have.each next.number;
        few = let done = value_count read.done values read.have in let room = next.room in omega (arith, done, size, room, length-append read.done (piece ∷ []));
        values_are = push ∙ ap (λ last. values ++ last ∷ []) (fits ∙ next.value_is) ∙ ap (λ front. front ++ piece_value piece ∷ []) read.have.values_are ∙ sym (map-append piece_value read.done (piece ∷ []));
      };
    }
  where
    fits : to_z w32 (of_z w32 value) ≡ value
    fits = to_z-of_z w32 value (subst (FitsSigned w32) (sym next.value_is) next.number.1)

-- or it is wrong
pub wrong_read : (all rest : List Piece) (values : List ℤ) (piece : Piece) (count : ℕ) → Read all (piece ∷ rest) values → count ≡ length values
    → IsNotNext piece.bytes count → IsWrongAt all piece.at
wrong_read all rest values piece count read size why =
    record {
      before = read.done;
      wrong = piece;
      behind = rest;
      all_are = read.split;
      offset = refl;
      each = read.have.each;
      few = read.have.few;
      why = subst (IsNotNext piece.bytes) (size ∙ value_count read.done values read.have) why;
    }

-- or all are read
pub all_read : (all : List Piece) (values : List ℤ) → Read all [] values → HaveValues all values
all_read all values read = subst (λ (done : List Piece). HaveValues done values) (sym (read.split ∙ append-nil read.done)) read.have

-- and the answer says so
pub stops_at : {A : Type 0} (all : List Piece) (at : ℕ) (r : Result A PieceStop) (why : PieceStop) → IsErrAnd r (λ found. found ≡ why) → why ≡ stop.Piece at → IsWrongAt all at
    → IfErr r (StopsReading all)
stops_at all at (Ok a) why same is wrong = tt
stops_at all at (Err found) why same is wrong = subst (StopsReading all) (sym (same ∙ is)) wrong

-- ---- the first that is wrong

first_wrong : (b c : List Piece) (g h : Piece) (r s : List Piece) (n : ℕ) → b ++ g ∷ r ≡ c ++ h ∷ s → AreNumbers b → AreNumbers c
    → n + length b ≤ max_input_numbers → n + length c ≤ max_input_numbers
    → (IsNumber g.bytes → max_input_numbers ≤ n + length b) → (IsNumber h.bytes → max_input_numbers ≤ n + length c) → g ≡ h
first_wrong [] [] g h r s n e x y few less why what = cc
first_wrong [] (p ∷ c) g h r s n e x y few less why what =
    let same : g ≡ p = cc in
    let full = why (subst (λ (q : Piece). IsNumber q.bytes) (sym same) y.0) in
    absurd (omega (arith, full, less))
first_wrong (p ∷ b) [] g h r s n e x y few less why what =
    let same : p ≡ h = cc in
    let full = what (subst (λ (q : Piece). IsNumber q.bytes) same x.0) in
    absurd (omega (arith, full, few))
first_wrong (p ∷ b) (q ∷ c) g h r s n e x y few less why what =
    let tails : b ++ g ∷ r ≡ c ++ h ∷ s = cc in
    first_wrong b c g h r s (suc n) tails x.1 y.1 (omega (arith, few)) (omega (arith, less))
    (λ number. let full = why number in omega (arith, full)) (λ number. let full = what number in omega (arith, full))

-- the first wrong piece stands at one offset
pub wrong_once : (all : List Piece) (i j : ℕ) → IsWrongAt all i → IsWrongAt all j → i ≡ j
wrong_once all i j x y =
    let same = first_wrong x.before y.before x.wrong y.wrong x.behind y.behind 0 (sym x.all_are ∙ y.all_are) x.each y.each
    (let few = x.few in omega (arith, few)) (let few = y.few in omega (arith, few))
    (λ number. let full = x.why number in omega (arith, full)) (λ number. let full = y.why number in omega (arith, full)) in
    x.offset ∙ ap (λ (p : Piece). p.at) same ∙ sym y.offset

number_among : (before : List Piece) (piece : Piece) (behind : List Piece) → AreNumbers (before ++ piece ∷ behind) → IsNumber piece.bytes
number_among [] piece behind each = each.0
number_among (first ∷ before) piece behind each = number_among before piece behind each.1

-- and where all are numbers, and not too many, none is wrong
pub wrong_or_values : (all : List Piece) (i : ℕ) (values : List ℤ) → IsWrongAt all i → HaveValues all values → ⊥
wrong_or_values all i values x have =
    let full = x.why (number_among x.before x.wrong x.behind (subst AreNumbers x.all_are have.each)) in
    let size = ap length x.all_are ∙ length-append x.before (x.wrong ∷ x.behind) in
    absurd (omega (arith, full, size, have.few))

-- ---- the end of the line

drop_behind : (front rest : List ℕ) (n : ℕ) → drop (length front + n) (front ++ rest) ≡ drop n rest
drop_behind [] rest n = let same : 0 + n ≡ n = omega arith in ap (λ k. drop k rest) same
drop_behind (byte ∷ front) rest n =
    let same : suc (length front) + n ≡ suc (length front + n) = omega arith in
    ap (λ k. drop k (byte ∷ front ++ rest)) same ∙ drop_behind front rest n

-- the pieces are those behind the percent signs
behind_signs : (source line : List ℕ) → pieces_behind (source ++ line) source ≡ pieces (length source + 2) true (drop 2 line)
behind_signs source line = ap (pieces (length source + 2) true) (drop_behind source line 2)

pub behind_feed : (source more : List ℕ) → pieces_behind (source ++ (codes "%%\n" ++ more)) source ≡ pieces (length source + 3) true more
behind_feed source more =
    let count : length source + 2 + 1 ≡ length source + 3 = omega arith in
    behind_signs source (codes "%%\n" ++ more) ∙ ap (λ n. pieces n true more) count

pub behind_both : (source more : List ℕ) → pieces_behind (source ++ (codes "%%\r\n" ++ more)) source ≡ pieces (length source + 4) true more
behind_both source more =
    let count : length source + 2 + 1 + 1 ≡ length source + 4 = omega arith in
    behind_signs source (codes "%%\r\n" ++ more) ∙ ap (λ n. pieces n true more) count

pub behind_last : (source : List ℕ) → pieces_behind (source ++ codes "%%") source ≡ []
behind_last source = behind_signs source (codes "%%")

pub behind_returned : (source : List ℕ) → pieces_behind (source ++ codes "%%\r") source ≡ []
behind_returned source = behind_signs source (codes "%%\r")

pub behind_none : (source : List ℕ) → pieces_behind source source ≡ []
behind_none source = ap (pieces (length source + 2) true) (drop_all (length source + 2) source (omega arith))
