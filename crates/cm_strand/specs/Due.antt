-- What a join takes: the ticks of the holes that weren't taken, where a Done child filled each.
use Rattle.std.specs.Prelude.{ℕ, ◌+◌, true, if◌then◌else◌, Option, None, Some, List, [], ◌∷◌, ◌++◌, take, drop, map}
use Rattle.cm_strand.specs.declared.log.Hole.{Hole}
use Rattle.cm_strand.specs.declared.log.Filling.{Filling}
use Rattle.cm_strand.specs.declared.log.Filling.TheVariants.{Empty, Done, Trapped, Spent}

-- the ticks of one hole, and None where no Done child filled it
abbrev pub hole_due : Filling → Option ℕ
hole_due Empty = None
hole_due (Done n paid) = if paid then Some 0 else Some n
hole_due (Trapped k n) = None
hole_due Spent = None

-- both together, where both are there
abbrev pub both : Option ℕ → Option ℕ → Option ℕ
both None b = None
both (Some m) None = None
both (Some m) (Some n) = Some (m + n)

-- those of all holes
abbrev pub all_due : List Hole → Option ℕ
all_due [] = Some 0
all_due (h ∷ holes) = both (hole_due h.filling) (all_due holes)

-- a hole whose ticks are taken
abbrev pub taken : Filling → Filling
taken Empty = Empty
taken (Done n paid) = Done n true
taken (Trapped k n) = Trapped k n
taken Spent = Spent

abbrev pub taken_hole : Hole → Hole
taken_hole h = record h { filling = taken h.filling }

-- the holes from this one on with their ticks taken
abbrev pub joined_holes : (first : ℕ) → List Hole → List Hole
joined_holes first holes = take first holes ++ map taken_hole (drop first holes)
