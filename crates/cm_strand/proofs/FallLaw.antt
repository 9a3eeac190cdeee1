-- What the holes in the code come to is what the log on paper comes to.
use Rattle.std.proofs.Common.{◌≡◌, ℕ, zero, suc, ◌+◌, ◌<◌, List, [], ◌∷◌, ◌++◌, length, IsSome, drop, get_or, min, refl, sym, ap, ◌∙◌, subst, arith}
use Rattle.std.proofs.lemmas.List.{append_assoc, append-nil}
use Rattle.std.specs.Prelude.{ℤ}
use Rattle.cm_syntax.specs.Trap as defined
use Rattle.cm_meaning.specs.End.{Done, Trapped, Spent}
use Rattle.cm_meaning.specs.Piece.{add_number, add_end, going as adds, trapped}
use Rattle.cm_meaning.specs.Ended.{trap_of}
use Rattle.cm_meaning.specs.Output.{Number, Open, Filled, numbers_of, open_count, cut_at, hole_at}
use Rattle.cm_meaning.specs.Output as output
use Rattle.cm_meaning.specs.declared.ended.Trap.{Trap}
use Rattle.cm_strand.specs.Strand.{Filling, empty, filled, Hole, Entry, number, hole, hole_count}
use Rattle.cm_strand.specs.Turn.{AllFilled, add_filling}
use Rattle.cm_strand.specs.Seen.{holes_of, hole_of, filling_of, output_of, entry_of, kind_of}
use Rattle.cm_strand.specs.Fall.{fall_with, fall_from, FallIs, most}
use Rattle.cm_strand.specs.declared.log.Hole as code_hole
use Rattle.cm_strand.specs.declared.log.Filling.TheVariants as filling
use Rattle.cm_strand.specs.declared.ending.Fall.{Fall}
use Rattle.cm_strand.specs.declared.ending.Fall.TheVariants as fall
use Rattle.cm_strand.proofs.LogLaw.{count_holes, count_output}

-- ---- outputs

numbers_both : (xs ys : List output.Entry) → numbers_of (xs ++ ys) ≡ numbers_of xs ++ numbers_of ys
numbers_both [] ys = refl
numbers_both (Number v ∷ xs) ys = ap (λ l. v ∷ l) (numbers_both xs ys)
numbers_both (Open ∷ xs) ys = numbers_both xs ys
numbers_both (Filled ns ∷ xs) ys = ap (λ l. ns ++ l) (numbers_both xs ys) ∙ sym (append_assoc ns (numbers_of xs) (numbers_of ys))

numbers_last : (xs : List output.Entry) (ns : List ℤ) → numbers_of (xs ++ Filled ns ∷ []) ≡ numbers_of xs ++ ns
numbers_last xs ns = numbers_both xs (Filled ns ∷ []) ∙ ap (λ l. numbers_of xs ++ l) (append-nil ns)

open_both : (xs ys : List output.Entry) → open_count (xs ++ ys) ≡ open_count xs + open_count ys
open_both [] ys = omega arith
open_both (Number v ∷ xs) ys = open_both xs ys
open_both (Open ∷ xs) ys = let more = open_both xs ys in omega (arith, more)
open_both (Filled ns ∷ xs) ys = open_both xs ys

none_open : (xs ys : List output.Entry) → open_count xs ≡ 0 → open_count ys ≡ 0 → open_count (xs ++ ys) ≡ 0
none_open xs ys a b = let both = open_both xs ys in omega (arith, both, a, b)

cut_earlier : (xs ys : List output.Entry) (n : ℕ) → n < output.hole_count xs → cut_at n (xs ++ ys) ≡ cut_at n xs
cut_earlier [] ys n h = absurd (omega (arith, h))
cut_earlier (Number v ∷ xs) ys n h = ap (λ l. Number v ∷ l) (cut_earlier xs ys n h)
cut_earlier (Open ∷ xs) ys zero h = refl
cut_earlier (Open ∷ xs) ys (suc n) h = ap (λ l. Open ∷ l) (cut_earlier xs ys n (omega (arith, h)))
cut_earlier (Filled ns ∷ xs) ys zero h = refl
cut_earlier (Filled ns ∷ xs) ys (suc n) h = ap (λ l. Filled ns ∷ l) (cut_earlier xs ys n (omega (arith, h)))

cut_last : (xs : List output.Entry) (p : List ℤ) (n : ℕ) → output.hole_count xs ≡ n → cut_at n (xs ++ Filled p ∷ []) ≡ xs ++ Filled p ∷ []
cut_last [] p zero h = refl
cut_last [] p (suc n) h = absurd (omega (arith, h))
cut_last (Number v ∷ xs) p n h = ap (λ l. Number v ∷ l) (cut_last xs p n h)
cut_last (Open ∷ xs) p zero h = absurd (omega (arith, h))
cut_last (Open ∷ xs) p (suc n) h = ap (λ l. Open ∷ l) (cut_last xs p n (omega (arith, h)))
cut_last (Filled ns ∷ xs) p zero h = absurd (omega (arith, h))
cut_last (Filled ns ∷ xs) p (suc n) h = ap (λ l. Filled ns ∷ l) (cut_last xs p n (omega (arith, h)))

pub some_hole : (xs : List output.Entry) (n : ℕ) → n < output.hole_count xs → IsSome (hole_at n xs)
some_hole [] n h = absurd (omega (arith, h))
some_hole (Number v ∷ xs) n h = some_hole xs n h
some_hole (Open ∷ xs) zero h = refl
some_hole (Open ∷ xs) (suc n) h = some_hole xs n (omega (arith, h))
some_hole (Filled ns ∷ xs) zero h = refl
some_hole (Filled ns ∷ xs) (suc n) h = some_hole xs n (omega (arith, h))

-- ---- the walk over the holes

pub stays_trapped : (hs : List code_hole.Hole) (j i : ℕ) (k : Trap) (n : ℕ) → fall_from j (fall.Trapped i k n) hs ≡ fall.Trapped i k n
stays_trapped [] j i k n = refl
stays_trapped (h ∷ hs) j i k n = stays_trapped hs (suc j) i k n

pub stays_spent : (hs : List code_hole.Hole) (j : ℕ) → fall_from j fall.Spent hs ≡ fall.Spent
stays_spent [] j = refl
stays_spent (h ∷ hs) j = stays_spent hs (suc j)

-- the next hole is added
falls_at : (hs : List code_hole.Hole) (i j : ℕ) (d : code_hole.Hole) (f : Fall) → i < length hs
    → fall_from j f (drop i hs) ≡ fall_from (suc j) (fall_with j (get_or hs i d).used (get_or hs i d).filling f) (drop (suc i) hs)
falls_at [] i j d f h = absurd (omega (arith, h))
falls_at (x ∷ hs) zero j d f h = refl
falls_at (x ∷ hs) (suc i) j d f h = falls_at hs i j d f (omega (arith, h))

pub trapped_here : (hs : List code_hole.Hole) (i t n m : ℕ) (k : Trap) (d : code_hole.Hole) → i < length hs → (get_or hs i d).filling ≡ filling.Trapped k m
    → n ≡ min (min (t + (get_or hs i d).used) most + m) most → fall.Trapped i k n ≡ fall_from i (fall.None t) (drop i hs)
trapped_here hs i t n m k d lt is same =
    ap (λ n. fall.Trapped i k n) same ∙ sym (stays_trapped (drop (suc i) hs) (suc i) i k _)
    ∙ ap (λ F. fall_from (suc i) (fall_with i (get_or hs i d).used F (fall.None t)) (drop (suc i) hs)) (sym is) ∙ sym (falls_at hs i i d (fall.None t) lt)

pub spent_here : (hs : List code_hole.Hole) (i t : ℕ) (d : code_hole.Hole) → i < length hs → (get_or hs i d).filling ≡ filling.Spent
    → fall.Spent ≡ fall_from i (fall.None t) (drop i hs)
spent_here hs i t d lt is =
    sym (stays_spent (drop (suc i) hs) (suc i))
    ∙ ap (λ F. fall_from (suc i) (fall_with i (get_or hs i d).used F (fall.None t)) (drop (suc i) hs)) (sym is) ∙ sym (falls_at hs i i d (fall.None t) lt)

pub empty_here : (hs : List code_hole.Hole) (i t : ℕ) (d : code_hole.Hole) → i < length hs → (get_or hs i d).filling ≡ filling.Empty
    → fall.Spent ≡ fall_from i (fall.None t) (drop i hs)
empty_here hs i t d lt is =
    sym (stays_spent (drop (suc i) hs) (suc i))
    ∙ ap (λ F. fall_from (suc i) (fall_with i (get_or hs i d).used F (fall.None t)) (drop (suc i) hs)) (sym is) ∙ sym (falls_at hs i i d (fall.None t) lt)

fall_last : (hs : List code_hole.Hole) (h : code_hole.Hole) (i : ℕ) (f : Fall)
    → fall_from i f (hs ++ h ∷ []) ≡ fall_with (length hs + i) h.used h.filling (fall_from i f hs)
fall_last [] h i f = let same : i ≡ 0 + i = omega arith in ap (λ n. fall_with n h.used h.filling f) same
fall_last (x ∷ hs) h i f =
    let same : length hs + suc i ≡ suc (length hs) + i = omega arith in let g = fall_with i x.used x.filling f in
    fall_last hs h (suc i) g ∙ ap (λ n. fall_with n h.used h.filling (fall_from (suc i) g hs)) same

-- ---- the log

same_kind : (k : defined.Trap) → trap_of (kind_of k) ≡ k
same_kind defined.Divide = refl
same_kind defined.Index = refl
same_kind defined.Input = refl
same_kind defined.Stack = refl

cut_in : (log : List Entry) (ys : List output.Entry) (i : ℕ) → i < hole_count log → cut_at i (output_of log ++ ys) ≡ cut_at i (output_of log)
cut_in log ys i lt = let count = count_output log in cut_earlier (output_of log) ys i (omega (arith, lt, count))

with_number : (f : Fall) (log : List Entry) (v : ℤ) → FallIs f log → FallIs f (number v ∷ log)
with_number (fall.None n) log v (m, le, sum, none) =
    (m, le, ap (λ z. add_number z v) sum ∙ ap (λ out. adds out m) (sym (numbers_both (output_of log) (Number v ∷ []))), none_open (output_of log) (Number v ∷ []) none refl)
with_number (fall.Trapped i k n) log v (m, le, lt, sum, none) = let same = cut_in log (Number v ∷ []) i lt in
    (m, le, lt, ap (λ z. add_number z v) sum ∙ ap (λ xs. trapped (numbers_of xs) (trap_of k) m) (sym same), ap open_count same ∙ none)
with_number fall.Spent log v sum = ap (λ z. add_number z v) sum

-- a hole behind the first child that isn't Done
behind_it : (F : Filling) (i : ℕ) (k : Trap) (n : ℕ) (log : List Entry) (H : Hole) → FallIs (fall.Trapped i k n) log
    → FallIs (fall.Trapped i k n) (hole (record H { filling = F }) ∷ log)
behind_it F i k n log H (m, le, lt, sum, none) = let same = cut_in log (entry_of F ∷ []) i lt in
    (m, le, omega (arith, lt), ap (λ z. add_filling z H.used F) sum ∙ stays F ∙ ap (λ xs. trapped (numbers_of xs) (trap_of k) m) (sym same), ap open_count same ∙ none)
  where
    stays : (F : Filling) → add_filling (trapped (numbers_of (cut_at i (output_of log))) (trap_of k) m) H.used F ≡ trapped (numbers_of (cut_at i (output_of log))) (trap_of k) m
    stays empty = refl
    stays (filled e b) = refl

with_hole : (F : Filling) (f : Fall) (log : List Entry) (H : Hole) → (F ≡ empty → ⊥) → FallIs f log
    → FallIs (fall_with (hole_count log) H.used (filling_of F) f) (hole (record H { filling = F }) ∷ log)
with_hole empty f log H h is = absurd (h refl)
with_hole (filled e b) (fall.Trapped i k n) log H h is = behind_it (filled e b) i k n log H is
with_hole (filled e b) fall.Spent log H h is = ap (λ z. add_end z H.used e) is
with_hole (filled (Done out v t) b) (fall.None n) log H h (m, le, sum, none) = (
  m + t,
  omega (arith, le),
  ap (λ z. add_end z H.used (Done out v t)) sum ∙ ap (λ l. adds l (m + t)) (sym (numbers_last (output_of log) out)),
  none_open (output_of log) (Filled out ∷ []) none refl,
)
with_hole (filled (Trapped out k t) b) (fall.None n) log H h (m, le, sum, none) =
    let same = cut_last (output_of log) out (hole_count log) (count_output log) in (
      H.used + m + t,
      omega (arith, le),
      omega arith,
      ap (λ z. add_end z H.used (Trapped out k t)) sum
          ∙ (λ i. trapped (sym (ap numbers_of same ∙ numbers_last (output_of log) out) i) (sym (same_kind k) i) (H.used + m + t)),
      ap open_count same ∙ none_open (output_of log) (Filled out ∷ []) none refl,
    )
with_hole (filled Spent b) (fall.None n) log H h (m, le, sum, none) = ap (λ z. add_end z H.used Spent) sum

-- where every hole is filled, the walk over the holes tells what the log comes to
pub log_falls : (log : List Entry) → AllFilled log → FallIs (fall_from 0 (fall.None 0) (holes_of log)) log
log_falls [] all = (0, omega arith, refl, refl)
log_falls (number v ∷ log) all = with_number (fall_from 0 (fall.None 0) (holes_of log)) log v (log_falls log all)
log_falls (hole H ∷ log) all =
    let f = fall_from 0 (fall.None 0) (holes_of log) in let P : Fall → Type 0 = λ g. FallIs g (hole H ∷ log) in
    let count = count_holes log in let same : length (holes_of log) + 0 ≡ hole_count log = omega (arith, count) in
    subst P (sym (fall_last (holes_of log) (hole_of H) 0 (fall.None 0) ∙ ap (λ n. fall_with n H.used (filling_of H.filling) f) same))
    (with_hole H.filling f log H all.0 (log_falls log all.1))

-- the hole of a trapped child is there, and what is left at it has no open hole
pub hole_of_fall : (f : Fall) (i n : ℕ) (k : Trap) (log : List Entry) (out : List output.Entry) → f ≡ fall.Trapped i k n → out ≡ output_of log → FallIs f log
    → IsSome (hole_at i out)
hole_of_fall f i n k log out at same is =
    let P : Fall → Type 0 = λ g. FallIs g log in let Q : List output.Entry → Type 0 = λ l. IsSome (hole_at i l) in
    let (m, le, lt, sum, none) = subst P at is in let count = count_output log in subst Q (sym same) (some_hole (output_of log) i (omega (arith, lt, count)))
