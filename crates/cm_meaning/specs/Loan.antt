-- What the unjoined children of a piece hold of its words: with what the piece holds it makes one stack.
use Rattle.std.specs.Prelude.{◌≡◌, ℕ, suc, ◌-◌, ◌<◌, ◌≤◌, true, false, List, [], ◌∷◌, length}
use Rattle.cm_syntax.specs.Cell.{absent, is_held, may_write}
use Rattle.cm_syntax.specs.Stack.{Stack, Destination, empty_stack, settle, StackSum, IsUnder}
use Rattle.cm_syntax.specs.Rest.{Item, end, Control}
use Rattle.cm_syntax.specs.Step.{frame_count}
use Rattle.cm_meaning.specs.End.{Done, Trapped, Spent}
use Rattle.cm_meaning.specs.Piece.{Answer, awaited, told, printed, child, HasNote}
use Rattle.cm_meaning.specs.Meaning.{Ask, Note}
use Rattle.cm_meaning.specs.Activation.{base}

-- ---- children

-- the number of frames without the one whose end comes next
abbrev pub floor_of : ℕ → List Item → ℕ
floor_of n (end ∷ k) = n - 1
floor_of n k = n

-- The floor of a state: only frames below it may have children that aren't joined, since a frame whose end comes next has
-- joined its own.
abbrev pub floor : Control → ℕ
floor c = floor_of (length c.calls) c.rest

-- some child of the frame at this depth isn't joined
abbrev pub HasUnjoined : (depth : ℕ) → List Note → Type 0
HasUnjoined d log = (own : ℕ) × (x : Destination) × (ask : Ask) × (r : Answer Control Stack Destination)
    × HasNote Control Stack Destination log (child d own x false ask r)

-- ---- loans

-- what a child holds of the words of its piece: what it was lent, and where it is Done what it gives back
abbrev pub loan : Destination → Ask → Answer Control Stack Destination → Stack
loan x q awaited = q.lent
loan x q (told (Done out v m) w) = settle x v w
loan x q (told (Trapped out k m) w) = q.lent
loan x q (told Spent w) = q.lent

-- what a child of the frame at a depth holds, which is one of the frames from `low` up to `high`: words of this frame and
-- of those before it, and no references
pub record IsLoan (low high d : ℕ) (s : Stack) : Type 0 where
  pub from : low ≤ d
  pub to : d < high
  pub under : IsUnder (suc d) s
  pub bare : (e t : ℕ) → s.references e t ≡ absent

-- what all unjoined children of a log hold together, which are of frames from `low` up to `high`
abbrev pub Loans : (low high : ℕ) → List Note → Stack → Type 0
Loans b n [] o = o ≡ empty_stack
Loans b n (printed v ∷ log) o = Loans b n log o
Loans b n (child d at x true q r ∷ log) o = Loans b n log o
Loans b n (child d at x false q r ∷ log) o = (l : Stack) × Loans b n log l × StackSum (loan x q r) l o × IsLoan b n d (loan x q r)

-- some child of a log that isn't joined holds the word
abbrev pub IsWithChild : List Note → (depth slot index : ℕ) → Type 0
IsWithChild log d s i = (k own : ℕ) × (x : Destination) × (ask : Ask) × (r : Answer Control Stack Destination)
    × HasNote Control Stack Destination log (child k own x false ask r) × (is_held ((loan x ask r).words d s i) ≡ true)

-- ---- one stack

-- of the frames from `low` up to `count` each word and reference is held whole, and nothing of later ones
pub record HoldsFrames (low count : ℕ) (h : Stack) : Type 0 where
  pub words : (d s i : ℕ) → low ≤ d → d < count → may_write (h.words d s i) ≡ true
  pub references : (d s : ℕ) → low ≤ d → d < count → may_write (h.references d s) ≡ true
  pub below : IsUnder count h

-- What a piece holds and what its unjoined children hold are the parts of one stack, in which the piece's own frames are
-- whole.
pub record IsOneStack (c : Control) (held : Stack) (log : List Note) : Type 0 where
  pub loans : Stack
  pub one : Stack
  pub owes : Loans (base c) (floor c) log loans
  pub sum : StackSum held loans one
  pub frames : HoldsFrames (base c) (frame_count c) one
