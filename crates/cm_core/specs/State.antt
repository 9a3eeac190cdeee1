-- The state of the machine: workers, scopes, and strands whose inside is left open.
-- Body is what a strand is inside: registers, log, and whether it is ending. Ended is how a strand ends.
use Rattle.std.specs.Prelude.{ℕ, zero, suc, ◌*◌, Bool, false, List, [], ◌∷◌, Option, Some, None, length}

-- the number of places of a scope, for children and for surplus pages each
abbrev pub width : ℕ
width = 16

-- the place of a scope that a child was given at its spawn
pub record Home : Type 0 where
  pub scope : ℕ
  pub place : ℕ

-- the scope of a home
abbrev pub home_scope : Option Home → Option ℕ
home_scope None = None
home_scope (Some h) = Some h.scope

-- the innermost of these scopes, or where there is none that of the home
abbrev pub innermost : List ℕ → Option Home → Option ℕ
innermost [] home = home_scope home
innermost (n ∷ scopes) home = Some n

-- the pages of such a scope
abbrev pub chain_of : (ℕ → List ℕ) → Option ℕ → List ℕ
chain_of chain None = []
chain_of chain (Some n) = chain n

-- the numbers of pages of these scopes and of the home, from the innermost on
abbrev pub page_counts : (ℕ → List ℕ) → List ℕ → Option Home → List ℕ
page_counts chain [] home = length (chain_of chain (home_scope home)) ∷ []
page_counts chain (n ∷ scopes) home = length (chain n) ∷ page_counts chain scopes home

-- a strand: its number, which no other strand ever has, where its end goes to, its open scopes from the innermost on, and what it is inside
pub record Strand (Body : Type 0) : Type 0 where
  pub number : ℕ
  pub home : Option Home
  pub scopes : List ℕ
  pub body : Body

-- a place of a scope: free, with a child that hasn't answered, or with a child's answer
pub data Place (Ended : Type 0) : Type 0 where
  free : Place Ended
  out : (hole child : ℕ) → Place Ended
  back : (hole child : ℕ) → Ended → Place Ended

-- the phase of a scope: its owner is with a worker, lies parked in it, was taken by the last to arrive and collects, or is past its join
pub data Phase (Body : Type 0) : Type 0 where
  active : Phase Body
  suspended : Strand Body → Phase Body
  joining : Phase Body
  closed : Phase Body

-- what a worker is at
pub data Task (Body Ended : Type 0) : Type 0 where
  idle : Task Body Ended
  mapping : Strand Body → Task Body Ended
  running : Strand Body → Task Body Ended
  depositing : Home → Ended → Task Body Ended
  arriving : (scope : ℕ) → Task Body Ended
  leaving : (scope : ℕ) → Task Body Ended
  collecting : Strand Body → Task Body Ended
  over : Ended → Task Body Ended

-- a worker: its page map, its store, and its deque from the youngest strand on
pub record Worker (Body Ended : Type 0) : Type 0 where
  pub task : Task Body Ended
  pub pages : List ℕ
  pub store : List ℕ
  pub deque : List (Strand Body)

-- a state: the words of all pages, the workers, how many strands and scopes there were, whether some strand has ended otherwise than by return,
-- and for each scope the one round it, its first pages from the top of the stack on (its chain), its owner's number, its join counter, places, surplus pages and phase
pub record State (Body Ended : Type 0) : Type 0 where
  pub words : ℕ → ℕ
  pub workers : ℕ → Worker Body Ended
  pub strands : ℕ
  pub scopes : ℕ
  pub stopped : Bool
  pub outer : ℕ → Option ℕ
  pub chain : ℕ → List ℕ
  pub owner : ℕ → ℕ
  pub count : ℕ → ℕ
  pub places : ℕ → ℕ → Place Ended
  pub surplus : ℕ → ℕ → Option (List ℕ)
  pub phase : ℕ → Phase Body

-- the pages from this number on
abbrev pub pages_from : (at count : ℕ) → List ℕ
pages_from at zero = []
pages_from at (suc count) = at ∷ pages_from (suc at) count

module _ {Body Ended : Type 0} where
  -- worker 0 runs the root, and the others are idle
  abbrev pub start_task : Body → ℕ → Task Body Ended
  start_task root zero = running (record { number = 0; home = None; scopes = []; body = root })
  start_task root (suc w) = idle

  -- the start: each worker has so many pages of its own in its store
  abbrev pub start : (pages : ℕ) → Body → State Body Ended
  start pages root = record {
    words = λ at. 0;
    workers = λ w. record { task = start_task root w; pages = []; store = pages_from (w * pages) pages; deque = [] };
    strands = 1;
    scopes = 0;
    stopped = false;
    outer = λ n. None;
    chain = λ n. [];
    owner = λ n. 0;
    count = λ n. 0;
    places = λ n i. free;
    surplus = λ n i. None;
    phase = λ n. closed;
  }
