-- The lines of an output, number by number and hole by hole.
use Rattle.std.proofs.Common.{◌≡◌, ℕ, ◌-◌, ◌≤◌, min, List, [], ◌∷◌, ◌++◌, length, take, drop, map, append_assoc, refl, sym, ap, ◌∙◌, arith}
use Rattle.std.specs.Prelude.{ℤ, codes}
use Rattle.std.specs.Fmt.{signed_decimal}
use Rattle.std.proofs.lemmas.List.{take_min, drop_min, take_rest, length-take, append-nil}
use Rattle.cm_meaning.specs.declared.output.Printed.{Printed}
use Rattle.cm_meaning.specs.declared.output.Hole.{Hole}
use Rattle.cm_meaning.specs.declared.output.Hole.TheVariants as hole
use Rattle.cm_meaning.specs.Output.{Entry, Number, Open, Filled, numbers_of}
use Rattle.cm_meaning.specs.Printed.{before_of, entry_of, laid, entries_of}
use Rattle.cm_meaning.specs.Ended.{lines}
use Rattle.cm_meaning.proofs.OutputLaw.{behind, entry_of-Filled}

lines-append : (xs ys : List ℤ) → lines (xs ++ ys) ≡ lines xs ++ lines ys
lines-append [] ys = refl
lines-append (x ∷ xs) ys =
    ap (λ t. signed_decimal x ++ (codes "\n" ++ t)) (lines-append xs ys)
    ∙ ap (λ t. signed_decimal x ++ t) (sym (append_assoc (codes "\n") (lines xs) (lines ys)))
    ∙ sym (append_assoc (signed_decimal x) (codes "\n" ++ lines xs) (lines ys))

numbers_behind : (numbers : List ℤ) (more : List Entry) → numbers_of (behind numbers more) ≡ numbers ++ numbers_of more
numbers_behind [] more = refl
numbers_behind (x ∷ numbers) more = ap (λ t. x ∷ t) (numbers_behind numbers more)

pub numbers_alone : (numbers : List ℤ) → numbers_of (map Number numbers) ≡ numbers
numbers_alone [] = refl
numbers_alone (x ∷ numbers) = ap (λ t. x ∷ t) (numbers_alone numbers)

numbers_first : (first : Entry) (more : List Entry) → numbers_of (first ∷ more) ≡ numbers_of (first ∷ []) ++ numbers_of more
numbers_first (Number value) more = refl
numbers_first Open more = refl
numbers_first (Filled numbers) more = ap (λ t. t ++ numbers_of more) (sym (append-nil numbers))

-- the lines of what is left, from a hole on: those of the numbers before it, those of its piece, and the others
pub lines_from : (at count : ℕ) (rest : List ℤ) (first : Hole) (more : List Hole) → count ≡ min (before_of first - at) (length rest) →
    lines (numbers_of (laid at rest (first ∷ more))) ≡
    lines (take count rest) ++ (lines (numbers_of (entry_of first ∷ [])) ++ lines (numbers_of (laid (before_of first) (drop count rest) more)))
lines_from at count rest first more is =
    let n = before_of first - at in
    let front = take n rest in
    let later = laid (before_of first) (drop n rest) more in
    rw (is, take_min n rest, drop_min n rest)
    (ap lines (numbers_behind front (entry_of first ∷ later))
    ∙ lines-append front _
    ∙ ap (λ t. lines front ++ t) (ap lines (numbers_first (entry_of first) later) ∙ lines-append _ (numbers_of later)))

-- the lines of a filled hole are those of its piece
pub lines_filled : (first : Hole) (before : ℕ) (piece : Printed) → first ≡ hole.Filled before piece →
    lines (numbers_of (entry_of first ∷ [])) ≡ lines (numbers_of (entries_of piece))
lines_filled first before piece is =
    ap (λ h. lines (numbers_of (entry_of h ∷ []))) is
    ∙ ap (λ e. lines (numbers_of (e ∷ []))) (entry_of-Filled before piece)
    ∙ ap lines (append-nil (numbers_of (entries_of piece)))

-- two parts are put, and what is left follows them
pub put_two : (text first second left whole one two : List ℕ) → one ≡ text ++ first → two ≡ one ++ second →
    text ++ (first ++ (second ++ left)) ≡ whole → two ++ left ≡ whole
put_two text first second left whole one two one_is two_is is =
    rw (two_is, one_is, append_assoc (text ++ first) second left, append_assoc text first (second ++ left)) is

-- a turn of the loop through the holes
pub turn : (text one two whole : List ℕ) (at count before : ℕ) (rest : List ℤ) (first : Hole) (more holes : List Hole) →
    count ≡ min (before_of first - at) (length rest) → before ≡ before_of first → holes ≡ first ∷ more →
    one ≡ text ++ lines (take count rest) → two ≡ one ++ lines (numbers_of (entry_of first ∷ [])) →
    text ++ lines (numbers_of (laid at rest holes)) ≡ whole →
    two ++ lines (numbers_of (laid before (take (length rest - count) (drop count rest)) more)) ≡ whole
turn text one two whole at count before rest first more holes counted before_is holes_is one_is two_is is =
    let parts = ap (λ t. text ++ t) (sym (lines_from at count rest first more counted)) in
    let whole_is = parts ∙ ap (λ h. text ++ lines (numbers_of (laid at rest h))) (sym holes_is) ∙ is in
    rw (before_is, take_rest rest count) (put_two text _ _ _ whole one two one_is two_is whole_is)

-- what is left is no longer than before
pub no_longer : (count most : ℕ) (rest : List ℤ) → length rest ≤ most → length (take (length rest - count) (drop count rest)) ≤ most
no_longer count most rest le = omega (arith, length-take (length rest - count) (drop count rest))
