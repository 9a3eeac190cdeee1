-- What strands owe the machine.
use Rattle.std.specs.Prelude.{ℕ, ◌<◌, ◌≤◌, ⊤, List, [], ◌∷◌, Option, Some, None, length}
use Rattle.cm_core.specs.State.{page_counts, Task, idle, mapping, running, depositing, arriving, leaving, collecting, over, State}
use Rattle.cm_core.specs.Event.{Next, goes, fails, faults, spawns, waits, ends, Strands}
use Rattle.cm_core.specs.Turn.{turn, Pair}
use Rattle.cm_core.specs.Valid.{IsAlone, IsWithin}

-- both numbers of each pair are below P
abbrev pub AreAmong : (P : ℕ) → List Pair → Type 0
AreAmong P [] = ⊤
AreAmong P (p ∷ pairs) = (p.worker < P) × (p.victim < P) × AreAmong P pairs

module _ {Body : Type 0} (BodyFits : List ℕ → Body → Type 0) where
  -- a scope is opened with at least the pages of the one round it, and at most those of the map
  abbrev pub FreshFits : (ks : List ℕ) → (pages : List ℕ) → (fresh : Option ℕ) → (opened : Body) → Type 0
  FreshFits [] pages fresh opened = ⊤
  FreshFits (k ∷ ks) pages None opened = ⊤
  FreshFits (k ∷ ks) pages (Some n) opened = (k ≤ n) × (n ≤ length pages) × BodyFits (n ∷ k ∷ ks) opened

  -- a spawn that opens no scope is made in one, which is not the home
  abbrev pub ParentFits : (ks : List ℕ) → (fresh : Option ℕ) → (parent child : Body) → Type 0
  ParentFits ks (Some n) parent child = BodyFits (n ∷ ks) parent × BodyFits (n ∷ []) child
  ParentFits [] None parent child = ⊥
  ParentFits (k ∷ []) None parent child = ⊥
  ParentFits (k ∷ m ∷ ks) None parent child = BodyFits (k ∷ m ∷ ks) parent × BodyFits (k ∷ []) child

module _ {Body Ended : Type 0} (BodyFits : List ℕ → Body → Type 0) where
  -- a strand meets a page fault only with fewer than B pages, syncs only within a scope, and ends only outside of all
  abbrev pub NextFits : (B : ℕ) → (ks : List ℕ) → (pages : List ℕ) → Next Body Ended → Type 0
  NextFits B ks pages (goes b words) = BodyFits ks b
  NextFits B ks pages (fails b) = BodyFits ks b
  NextFits B ks pages faults = length pages < B
  NextFits B ks pages (spawns fresh opened parent child hole) = FreshFits BodyFits ks pages fresh opened × ParentFits BodyFits ks fresh parent child
  NextFits B ks pages waits = IsWithin ks
  NextFits B ks pages (ends e) = IsAlone ks

  -- the worker's strand, if one runs there, goes on as it owes
  abbrev pub TaskGoes : (B : ℕ) → Strands Body Ended → (chain : ℕ → List ℕ) → (pages : List ℕ) → (words : ℕ → ℕ) → Task Body Ended → Type 0
  TaskGoes B strands chain pages words idle = ⊤
  TaskGoes B strands chain pages words (mapping t) = ⊤
  TaskGoes B strands chain pages words (running t) = NextFits B (page_counts chain t.scopes t.home) pages (strands.next t.body pages words)
  TaskGoes B strands chain pages words (depositing h e) = ⊤
  TaskGoes B strands chain pages words (arriving n) = ⊤
  TaskGoes B strands chain pages words (leaving n) = ⊤
  TaskGoes B strands chain pages words (collecting t) = ⊤
  TaskGoes B strands chain pages words (over e) = ⊤

  abbrev pub WorkerGoes : (B : ℕ) → Strands Body Ended → State Body Ended → ℕ → Type 0
  WorkerGoes B strands s w = TaskGoes B strands s.chain (s.workers w).pages s.words (s.workers w).task

  -- so it is at each turn of these pairs
  abbrev pub GoesAlong : (B : ℕ) → Strands Body Ended → State Body Ended → List Pair → Type 0
  GoesAlong B strands s [] = ⊤
  GoesAlong B strands s (p ∷ pairs) = WorkerGoes B strands s p.worker × GoesAlong B strands (turn strands s p.worker p.victim).state pairs

  -- what is inside fits on, when a thief maps the strand, when a hole is filled, and when a scope is joined
  pub record KeepsFit (strands : Strands Body Ended) : Type 0 where
    pub lower : (ks : List ℕ) → (b : Body) → BodyFits ks b → BodyFits ks (strands.lower b)
    pub pop : (ks : List ℕ) → (b : Body) → (hole : ℕ) → (e : Ended) → (pages : List ℕ) → (words : ℕ → ℕ) → BodyFits ks b → BodyFits ks (strands.pop b hole e pages words).body
    pub collect : (ks : List ℕ) → (b : Body) → (hole : ℕ) → (e : Ended) → (pages : List ℕ) → (words : ℕ → ℕ) → BodyFits ks b → BodyFits ks (strands.collect b hole e pages words).body
    pub join : (k : ℕ) → (ks : List ℕ) → (b : Body) → (words : ℕ → ℕ) → BodyFits (k ∷ ks) b → BodyFits ks (strands.join b words).body
