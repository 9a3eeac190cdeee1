-- A small kind of strand, for short runs: what a strand has still to do.
use Rattle.std.specs.Prelude.{⊤, ℕ, false, List, [], ◌∷◌, Some, None, length, nat_lt, if◌then◌else◌}
use Rattle.cm_core.specs.State.{State}
use Rattle.cm_core.specs.Event.{Next, goes, fails, faults, spawns, waits, ends, Strands}
use Rattle.cm_core.specs.Turn.{Did, Turned, turn, Pair}
use Rattle.cm_core.specs.Held.{held}

pub data Script : Type 0 where
  returns : ℕ → Script
  step : Script → Script
  -- so many pages are touched
  needs : ℕ → Script → Script
  -- the first spawn of a scope of so many pages, and a further one
  first : ℕ → (child rest : Script) → Script
  more : (child rest : Script) → Script
  sync : Script → Script
  breaks : Script → Script

abbrev pub next : Script → List ℕ → (ℕ → ℕ) → Next Script ℕ
next (returns v) pages words = ends v
next (step s) pages words = goes s words
next (needs n s) pages words = if nat_lt (length pages) n then faults else goes s words
next (first k child rest) pages words = spawns (Some k) (more child rest) rest child 0
next (more child rest) pages words = spawns None (more child rest) rest child 0
next (sync s) pages words = waits
next (breaks s) pages words = fails s

-- the script behind a sync
abbrev pub pass : Script → Script
pass (sync s) = s
pass (returns v) = returns v
pass (step s) = step s
pass (needs n s) = needs n s
pass (first k child rest) = first k child rest
pass (more child rest) = more child rest
pass (breaks s) = breaks s

abbrev pub scripts : Strands Script ℕ
scripts = record {
  next = next;
  lower = λ s. s;
  pop = λ s hole e pages words. record { body = s; words = words; ending = false };
  collect = λ s hole e pages words. record { body = s; words = words };
  join = λ s words. record { body = pass s; words = words; ending = false };
}

-- what the turns of these pairs do
abbrev pub dids : State Script ℕ → List Pair → List Did
dids s [] = []
dids s (p ∷ pairs) = let t : Turned Script ℕ = turn scripts s p.worker p.victim in t.did ∷ dids t.state pairs

-- worker w with victim v
abbrev pub by : ℕ → ℕ → Pair
by w v = record { worker = w; victim = v }

-- a root that touches one page and spawns one child in a scope of one page, and syncs
abbrev pub one_child : Script
one_child = needs 1 (first 1 (step (returns 7)) (sync (returns 8)))

-- the numbers of pages held after each turn of these pairs
abbrev pub helds : (P V : ℕ) → State Script ℕ → List Pair → List ℕ
helds P V s [] = []
helds P V s (p ∷ pairs) = let t : Turned Script ℕ = turn scripts s p.worker p.victim in held P V t.state ∷ helds P V t.state pairs

-- any script fits
abbrev pub Any : List ℕ → Script → Type 0
Any ks b = ⊤

-- a schedule by which the parent is stolen and parks, and the child's worker collects and resumes it
abbrev pub park_schedule : List Pair
park_schedule = by 1 0 ∷ by 0 0 ∷ by 0 0 ∷ by 0 0 ∷ by 1 0 ∷ by 1 0 ∷ by 1 0 ∷ by 0 0 ∷ by 0 0 ∷ by 0 0 ∷ by 0 0 ∷ by 1 1 ∷ by 1 1 ∷ by 0 0 ∷ by 0 0 ∷ by 0 0 ∷ []
