-- From one spot to another in which no frame moves, over any number of events.
use Rattle.std.specs.Prelude.{ℕ, suc, ◌≤◌, ◌==◌, if◌then◌else◌, List, [], ◌∷◌, length}
use Rattle.cm_gen.specs.Standing.{Frame}
use Rattle.cm_gen.specs.StandsFor.{Spot, Moves}
use Rattle.cm_gen.specs.StandsFor.{spot_at}

-- Frames come and go one by one, and the place of the next one may be another.
pub data Walk : (old new : Spot) → Type 0 where
  rest : {spot : Spot} → Walk spot spot
  move : {old middle new : Spot} → Moves old middle → Walk middle new → Walk old new
  shift_low : {old new : Spot} (low : ℕ) → Walk (spot_at old low) new → Walk old new

-- so many frames are live all the way
abbrev pub LiveOn : (count : ℕ) {old new : Spot} → Walk old new → Type 0
LiveOn n {old = old} rest = n ≤ length old.frames
LiveOn n {old = old} (move m w) = (n ≤ length old.frames) × LiveOn n w
LiveOn n {old = old} (shift_low low w) = (n ≤ length old.frames) × LiveOn n w

-- the first so many frames of a list in which the last one stands first
abbrev pub frames_to : (count : ℕ) → List Frame → List Frame
frames_to n [] = []
frames_to n (F ∷ frames) = if n == suc (length frames) then F ∷ frames else frames_to n frames
