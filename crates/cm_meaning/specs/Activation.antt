-- Rests that fit their frames: the items of a frame end with its join and the end of its call, and then the items of
-- its caller follow.
use Rattle.std.specs.Prelude.{ℕ, suc, ◌-◌, ◌≤◌, List, [], ◌∷◌, length, ⊤}
use Rattle.cm_syntax.specs.Stack.{Stack, IsUnder}
use Rattle.cm_syntax.specs.Rest.{Item, Hand, entering, framing, Control, join, end}

abbrev mutual
  -- the rest of a frame that is running, up to its join
  pub IsInner : List Item → Type 0
  IsInner [] = ⊥
  IsInner (join ∷ k) = IsLeaving k
  IsInner (end ∷ k) = ⊥
  IsInner (_ ∷ k) = IsInner k

  -- behind its join
  pub IsLeaving : List Item → Type 0
  IsLeaving [] = ⊥
  IsLeaving (end ∷ k) = IsOuter k
  IsLeaving (_ ∷ k) = ⊥

  -- the rest behind the end of a call: nothing, or a caller's
  pub IsOuter : List Item → Type 0
  IsOuter [] = ⊤
  IsOuter (join ∷ k) = IsLeaving k
  IsOuter (end ∷ k) = ⊥
  IsOuter (_ ∷ k) = IsInner k

-- a rest with what is at hand: only behind its join may the end of a call stand first
abbrev pub FitsHand : Hand → List Item → Type 0
FitsHand (entering f ws) k = IsOuter k
FitsHand (framing f ws) k = IsOuter k
FitsHand _ (end ∷ k) = IsOuter k
FitsHand _ k = IsOuter k

-- how many frames the rest ends
abbrev pub end_count : List Item → ℕ
end_count [] = 0
end_count (end ∷ k) = suc (end_count k)
end_count (_ ∷ k) = end_count k

-- the number of frames that no end of a call in the rest takes away: those that a piece was begun with
abbrev pub base : Control → ℕ
base c = length c.calls - end_count c.rest

-- The rest and the frames fit, and nothing is held beyond the frames.
pub record IsSettled (c : Control) (h : Stack) : Type 0 where
  pub shape : FitsHand c.hand c.rest
  pub enough : end_count c.rest ≤ length c.calls
  pub below : IsUnder (length c.calls) h
