-- What the holes of a log in the code come to, the first one first, and what that says of the log on paper.
use Rattle.std.specs.Prelude.{◌≡◌, ℕ, suc, ◌+◌, ◌-◌, ◌^◌, ◌<◌, min, List, [], ◌∷◌}
use Rattle.cm_meaning.specs.Piece.{going as adds, trapped, spent}
use Rattle.cm_meaning.specs.Ended.{trap_of}
use Rattle.cm_meaning.specs.Output.{numbers_of, open_count, cut_at}
use Rattle.cm_strand.specs.Strand.{Entry, hole_count}
use Rattle.cm_strand.specs.Turn.{entries_sum}
use Rattle.cm_strand.specs.Seen.{output_of}
use Rattle.cm_strand.specs.declared.log.Hole.{Hole}
use Rattle.cm_strand.specs.declared.log.Filling.{Filling}
use Rattle.cm_strand.specs.declared.log.Filling.TheVariants as filling
use Rattle.cm_strand.specs.declared.ending.Fall.{Fall}
use Rattle.cm_strand.specs.declared.ending.Fall.TheVariants as fall

-- the largest sum
abbrev pub most : ℕ
most = 2 ^ 64 - 1

-- what one hole of this number adds
abbrev pub fall_with : (index used : ℕ) → Filling → Fall → Fall
fall_with index used f (fall.Trapped i k n) = fall.Trapped i k n
fall_with index used f fall.Spent = fall.Spent
fall_with index used filling.Empty (fall.None n) = fall.Spent
fall_with index used (filling.Done m paid) (fall.None n) = fall.None (min (n + m) most)
fall_with index used (filling.Trapped k m) (fall.None n) = fall.Trapped index k (min (min (n + used) most + m) most)
fall_with index used filling.Spent (fall.None n) = fall.Spent

-- all of them, behind what stood before
abbrev pub fall_from : (index : ℕ) → Fall → List Hole → Fall
fall_from index f [] = f
fall_from index f (h ∷ holes) = fall_from (suc index) (fall_with index h.used h.filling f) holes

-- what a log comes to
abbrev pub FallIs : Fall → List Entry → Type 0
FallIs (fall.None n) log = (m : ℕ) × (n ≡ min m most) × (entries_sum log ≡ adds (numbers_of (output_of log)) m) × (open_count (output_of log) ≡ 0)
FallIs (fall.Trapped i k n) log = (m : ℕ) × (n ≡ min m most) × (i < hole_count log)
    × (entries_sum log ≡ trapped (numbers_of (cut_at i (output_of log))) (trap_of k) m) × (open_count (cut_at i (output_of log)) ≡ 0)
FallIs fall.Spent log = entries_sum log ≡ spent
