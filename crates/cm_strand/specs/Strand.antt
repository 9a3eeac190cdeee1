-- A strand: what a worker runs of one piece, as plain data. No page, worker or other strand is spoken of.
use Rattle.std.specs.Prelude.{◌≡◌, ℕ, suc, ◌+◌, ◌<◌, Bool, true, false, ℤ, Option, List, [], ◌∷◌}
use Rattle.cm_syntax.specs.Trap.{Trap}
use Rattle.cm_meaning.specs.End.{End, Done, Trapped, Spent}
use Rattle.cm_isa.specs.Machine.{Machine}
use Rattle.cm_meaning.specs.Meaning.{Ask}
use Rattle.cm_gen.specs.StandsFor.{Spot}
use Rattle.cm_strand.specs.Owned.{Owned, Claim, seen, claim, no_claim, no_words, OwnedSum, ClaimSum, Spares}

-- what a child is asked for: its call, where its frames begin, and the words that it has to give back; contracts alone see it
pub record Request : Type 0 where
  pub ask : Ask
  pub spot : Spot
  pub due : Claim

-- a hole is empty, or has the child's end; and whether its ticks were taken from those that are left
pub data Filling : Type 0 where
  empty : Filling
  filled : End → (paid : Bool) → Filling

-- A hole of the log for the end of a child: the ticks that were used at its spawn, the address of its destination or 0, what it
-- was asked for, and the words that came back with its end, which are kept aside up to the join.
pub record Hole : Type 0 where
  pub used : ℕ
  pub target : ℕ
  pub request : Request
  pub filling : Filling
  pub aside : Owned

-- a printed number, or a hole
pub data Entry : Type 0 where
  number : ℤ → Entry
  hole : Hole → Entry

-- A scope holds the children of one frame: the frame pointer, the low end of the frames at its opening, the number of its first
-- hole; contracts see the frame's depth besides.
pub record Scope : Type 0 where
  pub frame : ℕ
  pub low : ℕ
  pub first : ℕ
  pub depth : ℕ

-- on its way; or ending, by a trap or by want of ticks
pub data Course : Type 0 where
  going : Course
  ending : Option Trap → Course

-- Registers, program counter, ticks at the start, the log and the open scopes, the last ones first, the course; and the words
-- that it runs on, which are its own without those that are kept aside.
pub record Strand : Type 0 where
  pub registers : ℕ → ℕ
  pub counter : ℕ
  pub start : ℕ
  pub log : List Entry
  pub scopes : List Scope
  pub course : Course
  pub words : Owned

-- the machine of a strand
abbrev pub machine_of : Strand → Machine
machine_of s = record { registers = s.registers; counter = s.counter; words = seen s.words }

-- how many holes a log has; holes are numbered from 0
abbrev pub hole_count : List Entry → ℕ
hole_count [] = 0
hole_count (number v ∷ log) = hole_count log
hole_count (hole H ∷ log) = suc (hole_count log)

-- ---- ticks

-- the ticks of an end by a value
abbrev pub done_ticks : End → ℕ
done_ticks (Done out v n) = n
done_ticks (Trapped out k n) = 0
done_ticks Spent = 0

-- the ticks of a hole that were taken
abbrev pub paid_by : Filling → ℕ
paid_by empty = 0
paid_by (filled e true) = done_ticks e
paid_by (filled e false) = 0

-- those of all holes
abbrev pub paid : List Entry → ℕ
paid [] = 0
paid (number v ∷ log) = paid log
paid (hole H ∷ log) = paid log + paid_by H.filling

-- ---- words

-- the claim of a hole on words: while it is empty those that are due, and then those that came back
abbrev pub hole_claim : Hole → Filling → Claim
hole_claim H empty = H.request.due
hole_claim H (filled e paid) = claim H.aside

-- the claims of all holes together
abbrev pub Outstanding : List Entry → Claim → Type 0
Outstanding [] c = c ≡ no_claim
Outstanding (number v ∷ log) c = Outstanding log c
Outstanding (hole H ∷ log) c = (older : Claim) × Outstanding log older × ClaimSum (hole_claim H H.filling) older c

-- The equation of what is owned: the words that a strand runs on, with what its holes claim, are the words that it was given, by
-- its ask and page by page.
abbrev pub Balances : (given : Claim) → Owned → List Entry → Type 0
Balances given w log = (out : Claim) × Outstanding log out × ClaimSum (claim w) out given

-- what a strand owns altogether: the words that it runs on and those kept aside
abbrev pub aside_of : Hole → Filling → Owned
aside_of H empty = no_words
aside_of H (filled e paid) = H.aside

-- of a log, all that is owned
abbrev pub Owns : (run : Owned) → List Entry → (all : Owned) → Type 0
Owns run [] all = all ≡ run
Owns run (number v ∷ log) all = Owns run log all
Owns run (hole H ∷ log) all = (older : Owned) × Owns run log older × OwnedSum older (aside_of H H.filling) all

-- ---- the free words below the frames

-- no hole claims a word between two addresses
abbrev pub HolesSpare : (from to : ℕ) → List Entry → Type 0
HolesSpare from to [] = Unit {0}
HolesSpare from to (number v ∷ log) = HolesSpare from to log
HolesSpare from to (hole H ∷ log) = Spares (hole_claim H H.filling) from to × HolesSpare from to log

-- no other hole than that of this number does
abbrev pub OthersSpare : (n from to : ℕ) → List Entry → Type 0
OthersSpare n from to [] = Unit {0}
OthersSpare n from to (number v ∷ log) = OthersSpare n from to log
OthersSpare n from to (hole H ∷ log) = ((n ≡ hole_count log → ⊥) → Spares (hole_claim H H.filling) from to) × OthersSpare n from to log

-- no hole before that of this number does
abbrev pub OlderSpare : (first from to : ℕ) → List Entry → Type 0
OlderSpare first from to [] = Unit {0}
OlderSpare first from to (number v ∷ log) = OlderSpare first from to log
OlderSpare first from to (hole H ∷ log) = (hole_count log < first → Spares (hole_claim H H.filling) from to) × OlderSpare first from to log
