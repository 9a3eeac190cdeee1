-- How the numbers and holes of an output are kept: the numbers in one list, the holes in another.
use Rattle.std.specs.Prelude.{ℕ, ◌-◌, ◌≤◌, ℤ, List, [], ◌∷◌, ◌++◌, map, take, drop, length}
use Rattle.cm_meaning.specs.declared.output.Printed.{Printed}
use Rattle.cm_meaning.specs.declared.output.Hole.{Hole, Row_of-Hole, end_of-Hole, more_of-Hole}
use Rattle.cm_meaning.specs.declared.output.Hole.TheVariants as hole
use Rattle.cm_meaning.specs.Output.{Entry, Number, Open, Filled, numbers_of}

-- how many of the numbers stand before a hole
abbrev pub before_of : Hole → ℕ
before_of (hole.Open before) = before
before_of (hole.Filled' before numbers shape holes) = before

abbrev mutual
  -- a hole, with the numbers of its piece
  pub entry_of : Hole → Entry
  entry_of (hole.Open before) = Open
  entry_of (hole.Filled' before numbers shape holes) = Filled (numbers_of (row_entries 0 numbers.items holes))

  -- the same as `laid`, of a piece's holes
  pub row_entries : {n : _} → (at : ℕ) → List ℤ → Row_of-Hole n → List Entry
  row_entries at numbers end_of-Hole = map Number numbers
  row_entries at numbers (more_of-Hole first more) =
      map Number (take (before_of first - at) numbers) ++ (entry_of first ∷ row_entries (before_of first) (drop (before_of first - at) numbers) more)

-- the numbers from the at-th on, with the holes that stand among them
abbrev pub laid : (at : ℕ) → List ℤ → List Hole → List Entry
laid at numbers [] = map Number numbers
laid at numbers (first ∷ more) =
    map Number (take (before_of first - at) numbers) ++ (entry_of first ∷ laid (before_of first) (drop (before_of first - at) numbers) more)

-- the entries of what was printed
abbrev pub entries_of : Printed → List Entry
entries_of printed = laid 0 printed.numbers.items printed.holes.items

-- the holes stand in order, none before the number at and none behind the number end
abbrev pub AreOrdered : (at end : ℕ) → List Hole → Type 0
AreOrdered at end [] = at ≤ end
AreOrdered at end (first ∷ more) = (at ≤ before_of first) × AreOrdered (before_of first) end more

-- the holes of what was printed stand in order among its numbers
abbrev pub IsOrdered : Printed → Type 0
IsOrdered printed = AreOrdered 0 (length printed.numbers.items) printed.holes.items
