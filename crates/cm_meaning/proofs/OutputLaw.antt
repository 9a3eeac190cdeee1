-- What each change of the numbers and holes that are kept does to the entries.
use Rattle.std.proofs.Common.{◌≡◌, ℕ, zero, suc, ◌+◌, ◌-◌, ◌<◌, ◌≤◌, List, [], ◌∷◌, ◌++◌, length, take, drop, map, slice_set, slice_index_or, Some, None, IsSome, refl, sym, ap, subst, ◌∙◌, add-one, zero-add, arith}
use Rattle.std.specs.Prelude.{ℤ}
use Rattle.std.proofs.lemmas.List.{take-append-le, drop-append-le, length-take, length-take-le, length-drop, take-take, drop-take, map-append, take_all, drop_all}
use Rattle.cm_meaning.specs.declared.output.Printed.{Printed}
use Rattle.cm_meaning.specs.declared.output.Hole.{Hole, Row_of-Hole, end_of-Hole, more_of-Hole, items-the_row-Hole, items_hidden-the_row-Hole-0}
use Rattle.cm_meaning.specs.declared.output.Hole.TheVariants as hole
use Rattle.cm_meaning.specs.Output.{Entry, Number, Open, Filled, numbers_of, hole_count, hole_at, filled_at, cut_at}
use Rattle.cm_meaning.specs.Printed.{before_of, entry_of, row_entries, laid, entries_of, AreOrdered}

-- ---- numbers before an entry

-- the numbers and entries behind them
abbrev pub behind : List ℤ → List Entry → List Entry
behind numbers more = map Number numbers ++ more

pub count_behind : (numbers : List ℤ) (more : List Entry) → hole_count (behind numbers more) ≡ hole_count more
count_behind [] more = refl
count_behind (value ∷ numbers) more = count_behind numbers more

pub hole_behind : (k : ℕ) (numbers : List ℤ) (more : List Entry) → hole_at k (behind numbers more) ≡ hole_at k more
hole_behind k [] more = refl
hole_behind k (value ∷ numbers) more = hole_behind k numbers more

pub fill_behind : (k : ℕ) (piece numbers : List ℤ) (more : List Entry) →
    filled_at k piece (behind numbers more) ≡ behind numbers (filled_at k piece more)
fill_behind k piece [] more = refl
fill_behind k piece (value ∷ numbers) more = ap (λ rest. Number value ∷ rest) (fill_behind k piece numbers more)

pub cut_behind : (k : ℕ) (numbers : List ℤ) (more : List Entry) → cut_at k (behind numbers more) ≡ behind numbers (cut_at k more)
cut_behind k [] more = refl
cut_behind k (value ∷ numbers) more = ap (λ rest. Number value ∷ rest) (cut_behind k numbers more)

behind_append : (numbers : List ℤ) (first : Entry) (more last : List Entry) →
    behind numbers (first ∷ (more ++ last)) ≡ behind numbers (first ∷ more) ++ last
behind_append [] first more last = refl
behind_append (value ∷ numbers) first more last = ap (λ rest. Number value ∷ rest) (behind_append numbers first more last)

-- ---- order

ordered_le : (at end : ℕ) (holes : List Hole) → AreOrdered at end holes → at ≤ end
ordered_le at end [] h = h
ordered_le at end (first ∷ more) (h, rest) = omega (arith, ordered_le (before_of first) end more rest)

-- ---- a number or a hole is put last

pub laid-number : (at end : ℕ) (numbers : List ℤ) (holes : List Hole) (value : ℤ) → at + length numbers ≡ end → AreOrdered at end holes →
    laid at (numbers ++ (value ∷ [])) holes ≡ laid at numbers holes ++ (Number value ∷ [])
laid-number at end numbers [] value is h = map-append Number numbers (value ∷ [])
laid-number at end numbers (first ∷ more) value is (h, rest) =
    let b = before_of first in
    let within = ordered_le b end more rest in
    let few : b - at ≤ length numbers = omega arith in
    let size : b + length (drop (b - at) numbers) ≡ end = omega (arith, length-drop (b - at) numbers) in
    rw (
      take-append-le (b - at) numbers (value ∷ []) few,
      drop-append-le (b - at) numbers (value ∷ []) few,
      laid-number b end (drop (b - at) numbers) more value size rest,
    )
    (behind_append (take (b - at) numbers) (entry_of first) _ (Number value ∷ []))

pub laid-hole : (at end : ℕ) (numbers : List ℤ) (holes : List Hole) → at + length numbers ≡ end → AreOrdered at end holes →
    laid at numbers (holes ++ (hole.Open end ∷ [])) ≡ laid at numbers holes ++ (Open ∷ [])
laid-hole at end numbers [] is h =
    rw (take_all (end - at) numbers (omega arith), drop_all (end - at) numbers (omega arith)) refl
laid-hole at end numbers (first ∷ more) is (h, rest) =
    let b = before_of first in
    let within = ordered_le b end more rest in
    let size : b + length (drop (b - at) numbers) ≡ end = omega (arith, length-drop (b - at) numbers) in
    rw (laid-hole b end (drop (b - at) numbers) more size rest)
    (behind_append (take (b - at) numbers) (entry_of first) _ (Open ∷ []))

pub ordered-number : (at end : ℕ) (holes : List Hole) → AreOrdered at end holes → AreOrdered at (end + 1) holes
ordered-number at end [] h = omega arith
ordered-number at end (first ∷ more) (h, rest) = (h, ordered-number (before_of first) end more rest)

pub ordered-hole : (at end : ℕ) (holes : List Hole) → AreOrdered at end holes → AreOrdered at end (holes ++ (hole.Open end ∷ []))
ordered-hole at end [] h = (h, omega arith)
ordered-hole at end (first ∷ more) (h, rest) = (h, ordered-hole (before_of first) end more rest)

-- ---- the holes are those of the entries

count_first : (first : Hole) (more : List Entry) → hole_count (entry_of first ∷ more) ≡ suc (hole_count more)
count_first (hole.Open before) more = refl
count_first (hole.Filled' before numbers shape holes) more = refl

pub laid-count : (at : ℕ) (numbers : List ℤ) (holes : List Hole) → hole_count (laid at numbers holes) ≡ length holes
laid-count at numbers [] = none numbers
  where
    none : (numbers : List ℤ) → hole_count (map Number numbers) ≡ 0
    none [] = refl
    none (value ∷ more) = none more
laid-count at numbers (first ∷ more) =
    count_behind (take (before_of first - at) numbers) _ ∙ count_first first _ ∙ ap suc (laid-count (before_of first) _ more)

-- ---- a hole is filled

later : (k : ℕ) (first : Hole) (more : List Entry) → hole_at (suc k) (entry_of first ∷ more) ≡ hole_at k more
later k (hole.Open before) more = refl
later k (hole.Filled' before numbers shape holes) more = refl

no_hole : (k : ℕ) (numbers : List ℤ) → hole_at k (map Number numbers) ≡ None
no_hole k [] = refl
no_hole k (value ∷ more) = no_hole k more

-- a hole of the entries is one of the holes
laid-within : (k at : ℕ) (numbers : List ℤ) (holes : List Hole) → IsSome (hole_at k (laid at numbers holes)) → k < length holes
laid-within k at numbers [] h = let none = subst IsSome (no_hole k numbers) h in cc
laid-within zero at numbers (first ∷ more) h = omega arith
laid-within (suc k) at numbers (first ∷ more) h =
    let left = subst IsSome (hole_behind (suc k) (take (before_of first - at) numbers) _ ∙ later k first _) h in
    omega (arith, laid-within k (before_of first) _ more left)

-- the hole of a number that the entries have is one of the holes
pub within : (k : ℕ) (printed : Printed) (entries : List Entry) → entries_of printed ≡ entries → IsSome (hole_at k entries) →
    k < length printed.holes.items
within k printed entries same there =
    laid-within k 0 printed.numbers.items printed.holes.items (subst (λ e. IsSome (hole_at k e)) (sym same) there)

pub within_open : (k : ℕ) (printed : Printed) (entries : List Entry) → entries_of printed ≡ entries → hole_at k entries ≡ Some Open →
    k < length printed.holes.items
within_open k printed entries same is = within k printed entries same (subst IsSome (sym is) refl)

fill_first : (piece : List ℤ) (first : Hole) (more : List Entry) → filled_at zero piece (entry_of first ∷ more) ≡ Filled piece ∷ more
fill_first piece (hole.Open before) more = refl
fill_first piece (hole.Filled' before numbers shape holes) more = refl

fill_later : (k : ℕ) (piece : List ℤ) (first : Hole) (more : List Entry) →
    filled_at (suc k) piece (entry_of first ∷ more) ≡ entry_of first ∷ filled_at k piece more
fill_later k piece (hole.Open before) more = refl
fill_later k piece (hole.Filled' before numbers shape holes) more = refl

pub laid-filled : (k at : ℕ) (numbers piece : List ℤ) (holes : List Hole) (old filled : Hole) → k < length holes →
    old ≡ slice_index_or holes k old → before_of filled ≡ before_of old → entry_of filled ≡ Filled piece →
    laid at numbers (slice_set holes k filled) ≡ filled_at k piece (laid at numbers holes)
laid-filled k at numbers piece [] old filled lt is before entry = absurd (omega arith)
laid-filled zero at numbers piece (first ∷ more) old filled lt is before entry =
    let same = before ∙ ap before_of is in
    let front = take (before_of first - at) numbers in
    rw (same, entry) (sym (fill_behind zero piece front _ ∙ ap (behind front) (fill_first piece first _)))
laid-filled (suc k) at numbers piece (first ∷ more) old filled lt is before entry =
    let front = take (before_of first - at) numbers in
    rw (laid-filled k (before_of first) (drop (before_of first - at) numbers) piece more old filled (omega arith) is before entry)
    (sym (fill_behind (suc k) piece front _ ∙ ap (behind front) (fill_later k piece first _)))

pub ordered-filled : (k at end : ℕ) (holes : List Hole) (old filled : Hole) → k < length holes → old ≡ slice_index_or holes k old →
    before_of filled ≡ before_of old → AreOrdered at end holes → AreOrdered at end (slice_set holes k filled)
ordered-filled k at end [] old filled lt is before h = absurd (omega arith)
ordered-filled zero at end (first ∷ more) old filled lt is before h = rw (before ∙ ap before_of is) h
ordered-filled (suc k) at end (first ∷ more) old filled lt is before (h, rest) =
    (h, ordered-filled k (before_of first) end more old filled (omega arith) is before rest)

-- ---- what stands behind a hole is taken away

cut_first : (first : Hole) (more : List Entry) → cut_at zero (entry_of first ∷ more) ≡ entry_of first ∷ []
cut_first (hole.Open before) more = refl
cut_first (hole.Filled' before numbers shape holes) more = refl

cut_later : (k : ℕ) (first : Hole) (more : List Entry) → cut_at (suc k) (entry_of first ∷ more) ≡ entry_of first ∷ cut_at k more
cut_later k (hole.Open before) more = refl
cut_later k (hole.Filled' before numbers shape holes) more = refl

-- a hole stands among the numbers
record Among (at before end : ℕ) : Type 0 where
  pub low : at ≤ before
  pub high : before ≤ end

among : (k at end : ℕ) (holes : List Hole) (old : Hole) → k < length holes → old ≡ slice_index_or holes k old →
    AreOrdered at end holes → Among at (before_of old) end
among k at end [] old lt is h = absurd (omega arith)
among zero at end (first ∷ more) old lt is (h, rest) =
    let high = ordered_le (before_of first) end more rest in
    let same = ap before_of is in
    record { low = omega arith; high = omega arith }
among (suc k) at end (first ∷ more) old lt is (h, rest) =
    let found = among k (before_of first) end more old (omega arith) is rest in
    record { low = omega (arith, found.low); high = found.high }

drop_of_take : (d n : ℕ) (numbers : List ℤ) → d ≤ n → drop d (take n numbers) ≡ take (n - d) (drop d numbers)
drop_of_take d n numbers le =
    let n_is : n ≡ d + (n - d) = omega arith in
    ap (λ k. drop d (take k numbers)) n_is ∙ drop-take d (n - d) numbers

laid-cut : (k at end n : ℕ) (numbers : List ℤ) (holes : List Hole) (old : Hole) → k < length holes → old ≡ slice_index_or holes k old →
    at + n ≡ before_of old → AreOrdered at end holes → laid at (take n numbers) (take (suc k) holes) ≡ cut_at k (laid at numbers holes)
laid-cut k at end n numbers [] old lt is until h = absurd (omega arith)
laid-cut zero at end n numbers (first ∷ more) old lt is until (h, rest) =
    let b = before_of first in
    let same = ap before_of is in
    let n_is : n ≡ b - at = omega arith in
    let front = take (b - at) numbers in
    let size : length front ≤ b - at = omega (arith, length-take (b - at) numbers) in
    rw (n_is, take_all (b - at) front size, drop_all (b - at) front size)
    (sym (cut_behind zero front _ ∙ ap (behind front) (cut_first first _)))
laid-cut (suc k) at end n numbers (first ∷ more) old lt is until (h, rest) =
    let b = before_of first in
    let found = among k b end more old (omega arith) is rest in
    let front = take (b - at) numbers in
    let low = found.low in
    rw (
      take-take (b - at) n numbers (omega arith),
      drop_of_take (b - at) n numbers (omega arith),
      laid-cut k b end (n - (b - at)) (drop (b - at) numbers) more old (omega arith) is (omega arith) rest,
    )
    (sym (cut_behind (suc k) front _ ∙ ap (behind front) (cut_later k first _)))

ordered-cut : (k at end : ℕ) (holes : List Hole) (old : Hole) → k < length holes → old ≡ slice_index_or holes k old →
    AreOrdered at end holes → AreOrdered at (before_of old) (take (suc k) holes)
ordered-cut k at end [] old lt is h = absurd (omega arith)
ordered-cut zero at end (first ∷ more) old lt is (h, rest) = (h, omega (arith, ap before_of is))
ordered-cut (suc k) at end (first ∷ more) old lt is (h, rest) = (h, ordered-cut k (before_of first) end more old (omega arith) is rest)

-- ---- a filled hole has the numbers of its piece

row_laid : (n : _) (at : ℕ) (numbers : List ℤ) (row : Row_of-Hole n) → row_entries at numbers row ≡ laid at numbers (items-the_row-Hole n row)
row_laid n at numbers end_of-Hole = refl
row_laid n at numbers (more_of-Hole first more) =
    ap (λ rest. behind (take (before_of first - at) numbers) (entry_of first ∷ rest)) (row_laid _ (before_of first) _ more)

abbrev row_of : Hole → (n : _) × Row_of-Hole n
row_of (hole.Open before) = (_, end_of-Hole)
row_of (hole.Filled' before numbers shape holes) = (_, holes)

pub entry_of-Filled : (before : ℕ) (printed : Printed) → entry_of (hole.Filled before printed) ≡ Filled (numbers_of (entries_of printed))
entry_of-Filled before printed =
    let row = row_of (hole.Filled before printed) in
    let same = row_laid row.0 0 printed.numbers.items row.1 ∙ ap (laid 0 printed.numbers.items) (items_hidden-the_row-Hole-0 printed.holes) in
    ap (λ entries. Filled (numbers_of entries)) same

-- ---- the whole is cut

-- What is left when an output is cut: the numbers before a hole, and the holes up to it.
pub record IsCut (k : ℕ) (numbers left : List ℤ) (holes kept : List Hole) (old : Hole) : Type 0 where
  pub there : k < length holes
  pub old_is : old ≡ slice_index_or holes k old
  pub left_is : left ≡ take (before_of old) numbers
  pub kept_is : kept ≡ take (k + 1) holes

pub cut_ordered : (k : ℕ) (numbers left : List ℤ) (holes kept : List Hole) (old : Hole) → IsCut k numbers left holes kept old →
    AreOrdered 0 (length numbers) holes → AreOrdered 0 (length left) kept
cut_ordered k numbers left holes kept old cut h =
    let found = among k 0 (length numbers) holes old cut.there cut.old_is h in
    let size = ap length cut.left_is ∙ length-take-le (before_of old) numbers found.high in
    rw (size, cut.kept_is, add-one k) (ordered-cut k 0 (length numbers) holes old cut.there cut.old_is h)

pub cut_entries : (k : ℕ) (numbers left : List ℤ) (holes kept : List Hole) (old : Hole) → IsCut k numbers left holes kept old →
    AreOrdered 0 (length numbers) holes → laid 0 left kept ≡ cut_at k (laid 0 numbers holes)
cut_entries k numbers left holes kept old cut h =
    rw (cut.left_is, cut.kept_is, add-one k)
    (laid-cut k 0 (length numbers) (before_of old) numbers holes old cut.there cut.old_is (zero-add _) h)
