-- A share as a list of binary strings, from left to right: each string is the way by halvings to a piece of the whole, 0 to
-- the left half and 1 to the right one, and the share is these pieces. No string is the front of another, and never do
-- both halves of one piece stand in it, since then the piece itself would.
use Rattle.std.specs.Prelude.{◌≡◌, zero, Bool, true, false, ◌&&◌, ◌||◌, not, if◌then◌else◌, List, [], ◌∷◌, ◌++◌, map}
use Rattle.cm_share.specs.Share.{Share, whole, part, Part, left, right, both, most, Point, within}

-- the strings that go by the left half, and by the right half
abbrev pub by_left : List (List Bool) → List (List Bool)
by_left = map (λ way. false ∷ way)

abbrev pub by_right : List (List Bool) → List (List Bool)
by_right = map (λ way. true ∷ way)

abbrev mutual
  -- the strings of a share
  pub strings : Share → List (List Bool)
  strings whole = [] ∷ []
  strings (part p) = part_strings p

  pub part_strings : Part → List (List Bool)
  part_strings (left s) = by_left (strings s)
  part_strings (right s) = by_right (strings s)
  part_strings (both p s) = by_left (part_strings p) ++ by_right (strings s)
  part_strings (most p) = (false ∷ []) ∷ by_right (part_strings p)

-- the point lies in the piece that a string leads to
abbrev pub leads_to : (way : List Bool) → Point → Bool
leads_to [] x = true
leads_to (turn ∷ way) x = (if turn then x zero else not (x zero)) && leads_to way (within x)

-- the point lies in one of the pieces
abbrev pub some_leads_to : List (List Bool) → Point → Bool
some_leads_to [] x = false
some_leads_to (way ∷ ways) x = leads_to way x || some_leads_to ways x

-- A share's strings are halved at the first: what is kept has this one with 0 behind it and all others, what is lent has it
-- with 1 behind it alone.
pub record HalvesFirst (all kept lent : List (List Bool)) : Type 0 where
  pub first : List Bool
  pub others : List (List Bool)
  pub are : all ≡ first ∷ others
  pub kept_are : kept ≡ (first ++ false ∷ []) ∷ others
  pub lent_are : lent ≡ (first ++ true ∷ []) ∷ []
