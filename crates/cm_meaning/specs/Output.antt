-- What an output holds: numbers and holes, and what is done to them.
use Rattle.std.specs.Prelude.{ℕ, zero, suc, ℤ, List, [], ◌∷◌, ◌++◌, Option, Some, None}

-- An entry of an output: a printed number, a hole that isn't filled yet, or a filled hole with the numbers of its piece.
pub data Entry : Type 0 where
  Number : ℤ → Entry
  Open : Entry
  Filled : (numbers : List ℤ) → Entry

-- the numbers in serial order, with the pieces put in; a hole that isn't filled gives none
abbrev pub numbers_of : List Entry → List ℤ
numbers_of [] = []
numbers_of (Number value ∷ more) = value ∷ numbers_of more
numbers_of (Open ∷ more) = numbers_of more
numbers_of (Filled numbers ∷ more) = numbers ++ numbers_of more

-- how many holes there are
abbrev pub hole_count : List Entry → ℕ
hole_count [] = 0
hole_count (Number value ∷ more) = hole_count more
hole_count (Open ∷ more) = suc (hole_count more)
hole_count (Filled numbers ∷ more) = suc (hole_count more)

-- how many holes aren't filled
abbrev pub open_count : List Entry → ℕ
open_count [] = 0
open_count (Number value ∷ more) = open_count more
open_count (Open ∷ more) = suc (open_count more)
open_count (Filled numbers ∷ more) = open_count more

-- the hole of a number, which is how many holes stand before it, and None where it isn't there
abbrev pub hole_at : ℕ → List Entry → Option Entry
hole_at hole [] = None
hole_at hole (Number value ∷ more) = hole_at hole more
hole_at zero (Open ∷ more) = Some Open
hole_at zero (Filled numbers ∷ more) = Some (Filled numbers)
hole_at (suc hole) (Open ∷ more) = hole_at hole more
hole_at (suc hole) (Filled numbers ∷ more) = hole_at hole more

-- the entries with a piece in the hole of this number
abbrev pub filled_at : ℕ → (piece : List ℤ) → List Entry → List Entry
filled_at hole piece [] = []
filled_at hole piece (Number value ∷ more) = Number value ∷ filled_at hole piece more
filled_at zero piece (Open ∷ more) = Filled piece ∷ more
filled_at zero piece (Filled numbers ∷ more) = Filled piece ∷ more
filled_at (suc hole) piece (Open ∷ more) = Open ∷ filled_at hole piece more
filled_at (suc hole) piece (Filled numbers ∷ more) = Filled numbers ∷ filled_at hole piece more

-- the entries up to the hole of this number, and this hole
abbrev pub cut_at : ℕ → List Entry → List Entry
cut_at hole [] = []
cut_at hole (Number value ∷ more) = Number value ∷ cut_at hole more
cut_at zero (Open ∷ more) = Open ∷ []
cut_at zero (Filled numbers ∷ more) = Filled numbers ∷ []
cut_at (suc hole) (Open ∷ more) = Open ∷ cut_at hole more
cut_at (suc hole) (Filled numbers ∷ more) = Filled numbers ∷ cut_at hole more
