-- What every turn keeps of a state.
use Rattle.std.specs.Prelude.{◌≡◌, ℕ, ◌+◌, ◌*◌, ◌<◌, ◌≤◌, ◌==◌, ◌⊎◌, if◌then◌else◌, ⊤, List, [], ◌∷◌, ◌++◌, Option, Some, None, length, drop}
use Rattle.cm_core.specs.Table.{total, weigh}
use Rattle.cm_core.specs.State.{width, Home, innermost, chain_of, page_counts, pages_from, Strand, Place, free, out, back, Phase, active, suspended, joining, closed, Task, idle, mapping, running, depositing, arriving, leaving, collecting, over, Worker, State}
use Rattle.cm_core.specs.Held.{slot_weight}

-- the second list begins with the first
abbrev pub IsFront : List ℕ → List ℕ → Type 0
IsFront first pages = pages ≡ first ++ drop (length first) pages

-- where a strand is: with a worker, or parked in a scope
pub data Location : Type 0 where
  at_worker : ℕ → Location
  at_scope : ℕ → Location

-- the scope that is named, if any, is below this number
abbrev pub IsBelow : ℕ → Option ℕ → Type 0
IsBelow n None = ⊤
IsBelow n (Some m) = m < n

-- the innermost of these scopes is that of the home
abbrev pub Above : Option Home → List ℕ → Type 0
Above None scopes = ⊥
Above (Some h) [] = ⊥
Above (Some h) (n ∷ scopes) = h.scope ≡ n

-- the strand with this number owns these scopes, each of which lies in the next one, and the last in the home
abbrev pub Owns : (scopes : ℕ) → (owner : ℕ → ℕ) → (outer : ℕ → Option ℕ) → (number : ℕ) → List ℕ → Option Home → Type 0
Owns count owner outer number [] home = ⊤
Owns count owner outer number (n ∷ scopes) home =
    (n < count) × (owner n ≡ number) × (outer n ≡ innermost scopes home) × Owns count owner outer number scopes home

-- each of these scopes has the count 1: its owner is with a worker, and no child of it is out
abbrev pub Ones : (count : ℕ → ℕ) → List ℕ → Type 0
Ones count [] = ⊤
Ones count (n ∷ scopes) = (count n ≡ 1) × Ones count scopes

-- the innermost scope has this count, and the others have 1
abbrev pub HasCount : (count : ℕ → ℕ) → ℕ → List ℕ → Type 0
HasCount count c [] = ⊤
HasCount count c (n ∷ scopes) = (count n ≡ c) × Ones count scopes

-- the numbers of pages of a strand with no open scope, and of one with some
abbrev pub IsAlone : List ℕ → Type 0
IsAlone [] = ⊥
IsAlone (k ∷ []) = ⊤
IsAlone (k ∷ m ∷ ks) = ⊥

abbrev pub IsWithin : List ℕ → Type 0
IsWithin [] = ⊥
IsWithin (k ∷ []) = ⊥
IsWithin (k ∷ m ∷ ks) = ⊤

-- the number is one of these
abbrev pub IsIn : List ℕ → ℕ → Type 0
IsIn [] m = ⊥
IsIn (n ∷ scopes) m = (n ≡ m) ⊎ IsIn scopes m

-- there is an open scope
abbrev pub IsInside : List ℕ → Type 0
IsInside [] = ⊥
IsInside (m ∷ scopes) = ⊤

-- a post has so many pages
abbrev pub IsPost : ℕ → Option (List ℕ) → Type 0
IsPost k None = ⊤
IsPost k (Some pages) = length pages ≡ k

-- the map begins with the pages of the scope, and with the store has V pages
pub record MapFits (V : ℕ) (chain : ℕ → List ℕ) (scope : Option ℕ) (pages store : List ℕ) : Type 0 where
  pub begins : IsFront (chain_of chain scope) pages
  pub whole : length store + length pages ≡ V

module _ {Body : Type 0} where
  -- the owners of these scopes are with a worker
  abbrev pub AreActive : (phase : ℕ → Phase Body) → List ℕ → Type 0
  AreActive phase [] = ⊤
  AreActive phase (n ∷ scopes) = (phase n ≡ active) × AreActive phase scopes

  -- the last to arrive finds the scope's owner there, and the others of its scopes are active
  abbrev pub IsSuspended : (phase : ℕ → Phase Body) → ℕ → List ℕ → Type 0
  IsSuspended phase n [] = ⊥
  IsSuspended phase n (m ∷ scopes) = (m ≡ n) × AreActive phase scopes

  -- the innermost of these scopes is being joined, and the others are active
  abbrev pub IsJoining : (phase : ℕ → Phase Body) → List ℕ → Type 0
  IsJoining phase [] = ⊥
  IsJoining phase (m ∷ scopes) = (phase m ≡ joining) × AreActive phase scopes

  -- where a strand has others below it in the deque, no child of it was stolen from: none is out but the one above it
  abbrev pub Unstolen : (count : ℕ → ℕ) → ℕ → List ℕ → List (Strand Body) → Type 0
  Unstolen count c scopes [] = ⊤
  Unstolen count c scopes (p ∷ deque) = HasCount count c scopes × Unstolen count 2 p.scopes deque

  abbrev pub active_bit : Phase Body → ℕ
  active_bit active = 1
  active_bit (suspended t) = 0
  active_bit joining = 0
  active_bit closed = 0

  -- the scope's join is past its last arrival
  abbrev pub IsJoined : Phase Body → Type 0
  IsJoined active = ⊥
  IsJoined (suspended t) = ⊥
  IsJoined joining = ⊤
  IsJoined closed = ⊤

  -- the scope isn't closed
  abbrev pub IsLive : Phase Body → Type 0
  IsLive active = ⊤
  IsLive (suspended t) = ⊤
  IsLive joining = ⊤
  IsLive closed = ⊥

  -- the weight of a scope's own pages: those of its chain beyond the chain of the scope round it
  abbrev pub own_weight : (h : ℕ → ℕ) → (chain : ℕ → List ℕ) → Option ℕ → ℕ → Phase Body → ℕ
  own_weight h chain outer n closed = 0
  own_weight h chain outer n active = weigh h (drop (length (chain_of chain outer)) (chain n))
  own_weight h chain outer n (suspended t) = weigh h (drop (length (chain_of chain outer)) (chain n))
  own_weight h chain outer n joining = weigh h (drop (length (chain_of chain outer)) (chain n))

abbrev pub out_bit : {Ended : Type 0} → Place Ended → ℕ
out_bit free = 0
out_bit (out hole child) = 1
out_bit (back hole child e) = 0

module _ {Body Ended : Type 0} where
  -- the scope in which a worker's last frames stand
  abbrev pub base : Task Body Ended → Option ℕ
  base idle = None
  base (mapping t) = None
  base (running t) = innermost t.scopes t.home
  base (depositing h e) = Some h.scope
  base (arriving n) = Some n
  base (leaving n) = None
  base (collecting t) = innermost t.scopes t.home
  base (over e) = None

  -- the weight of a worker's own pages: those of its map beyond the chain of its base
  abbrev pub tail_weight : (h : ℕ → ℕ) → (chain : ℕ → List ℕ) → Worker Body Ended → ℕ
  tail_weight h chain me = weigh h (drop (length (chain_of chain (base me.task))) me.pages)

  abbrev pub arriving_bit : ℕ → Task Body Ended → ℕ
  arriving_bit n idle = 0
  arriving_bit n (mapping t) = 0
  arriving_bit n (running t) = 0
  arriving_bit n (depositing h e) = 0
  arriving_bit n (arriving m) = if m == n then 1 else 0
  arriving_bit n (leaving m) = 0
  arriving_bit n (collecting t) = 0
  arriving_bit n (over e) = 0

  -- a child that is out: its place tells its number
  abbrev pub IsOut : State Body Ended → ℕ → Home → Type 0
  IsOut s number h = (h.scope < s.scopes) × (h.place < width) × ((hole : ℕ) × (s.places h.scope h.place ≡ out hole number))

  -- the live scopes of the strand with this number are among these
  abbrev pub OwnsAll : State Body Ended → ℕ → List ℕ → Type 0
  OwnsAll s number scopes = (m : ℕ) → m < s.scopes → IsLive (s.phase m) → s.owner m ≡ number → IsIn scopes m

  -- a live scope lies in a live one of the same owner, or of an owner whose child owns it and is out
  abbrev pub Nests : State Body Ended → (m n : ℕ) → Type 0
  Nests s m n = IsLive (s.phase n) × ((s.owner m ≡ s.owner n) ⊎ ((i : ℕ) × (hole : ℕ) × (i < width) × (s.places n i ≡ out hole (s.owner m))))

  abbrev pub HomeFits : State Body Ended → ℕ → Option Home → Type 0
  HomeFits s number None = ⊤
  HomeFits s number (Some h) = IsOut s number h

  -- the worker's strands below its youngest have no child that was stolen: at the youngest, one that collects has no child out, and one that runs none either
  abbrev pub UnstolenAt : (count : ℕ → ℕ) → List (Strand Body) → Task Body Ended → Type 0
  UnstolenAt count deque idle = ⊤
  UnstolenAt count deque (mapping t) = ⊤
  UnstolenAt count deque (running t) = Unstolen count 1 t.scopes deque
  UnstolenAt count deque (depositing h e) = ⊤
  UnstolenAt count deque (arriving n) = ⊤
  UnstolenAt count deque (leaving n) = ⊤
  UnstolenAt count deque (collecting t) = Unstolen count 0 t.scopes deque
  UnstolenAt count deque (over e) = ⊤

  -- what a scope's join waits for: its owner where it is with a worker, the children that are out, and the workers that arrive
  abbrev pub outstanding : (P : ℕ) → State Body Ended → ℕ → ℕ
  outstanding P s n = active_bit (s.phase n) + total width (λ i. out_bit (s.places n i)) + total P (λ w. arriving_bit n (s.workers w).task)

  abbrev pub worker_weight : (h : ℕ → ℕ) → (chain : ℕ → List ℕ) → Worker Body Ended → ℕ
  worker_weight h chain me = weigh h me.store + tail_weight h chain me

  abbrev pub scope_weight : (h : ℕ → ℕ) → State Body Ended → ℕ → ℕ
  scope_weight h s n = own_weight h s.chain (s.outer n) n (s.phase n) + total width (λ i. slot_weight h (s.surplus n i))

  -- the weight of all stores, of the workers' and the scopes' own pages, and of all posts
  abbrev pub weight : (P : ℕ) → (h : ℕ → ℕ) → State Body Ended → ℕ
  weight P h s = total P (λ w. worker_weight h s.chain (s.workers w)) + total s.scopes (scope_weight h s)

  -- BodyFits says of what a strand is inside that it fits the numbers of pages of its scopes and its home.
  module _ (BodyFits : List ℕ → Body → Type 0) where
    -- a strand where it is
    pub record StrandFits (s : State Body Ended) (location : ℕ → Location) (p : Location) (t : Strand Body) : Type 0 where
      pub young : t.number < s.strands
      pub place : location t.number ≡ p
      pub home : HomeFits s t.number t.home
      pub owns : Owns s.scopes s.owner s.outer t.number t.scopes t.home
      pub okay : BodyFits (page_counts s.chain t.scopes t.home) t.body
      pub all : OwnsAll s t.number t.scopes

    -- the strands of a deque, under a strand with this number and home: each one's innermost scope is the home of the one above it
    abbrev pub DequeFits : State Body Ended → (ℕ → Location) → (w : ℕ) → (number : ℕ) → Option Home → List (Strand Body) → Type 0
    DequeFits s location w number home [] = ⊤
    DequeFits s location w number home (p ∷ deque) =
        Above home p.scopes × (p.number < number) × StrandFits s location (at_worker w) p × AreActive s.phase p.scopes × DequeFits s location w p.number p.home deque

    -- a worker at this task
    abbrev pub TaskFits : (V : ℕ) → State Body Ended → (ℕ → Location) → ℕ → (pages store : List ℕ) → (deque : List (Strand Body)) → Task Body Ended → Type 0
    TaskFits V s location w pages store deque idle = (pages ≡ []) × (deque ≡ []) × (length store ≡ V)
    TaskFits V s location w pages store deque (mapping t) = (pages ≡ []) × (deque ≡ []) × (length store ≡ V)
        × StrandFits s location (at_worker w) t × AreActive s.phase t.scopes × IsInside t.scopes
    TaskFits V s location w pages store deque (running t) = MapFits V s.chain (innermost t.scopes t.home) pages store
        × StrandFits s location (at_worker w) t × AreActive s.phase t.scopes × DequeFits s location w t.number t.home deque
    TaskFits V s location w pages store deque (depositing h e) = MapFits V s.chain (Some h.scope) pages store × (deque ≡ [])
        × ((child : ℕ) × (child < s.strands) × IsOut s child h × (location child ≡ at_worker w) × OwnsAll s child [])
    TaskFits V s location w pages store deque (arriving n) = MapFits V s.chain (Some n) pages store × (deque ≡ []) × (n < s.scopes)
    TaskFits V s location w pages store deque (leaving n) = (pages ≡ []) × (deque ≡ []) × (n < s.scopes) × (length store + length (s.chain n) ≡ V)
    TaskFits V s location w pages store deque (collecting t) = MapFits V s.chain (innermost t.scopes t.home) pages store
        × StrandFits s location (at_worker w) t × IsJoining s.phase t.scopes × DequeFits s location w t.number t.home deque
    TaskFits V s location w pages store deque (over e) = (length store + length pages ≡ V) × (deque ≡ [])

    abbrev pub WorkerFits : (V : ℕ) → State Body Ended → (ℕ → Location) → ℕ → Worker Body Ended → Type 0
    WorkerFits V s location w me = TaskFits V s location w me.pages me.store me.deque me.task

    abbrev pub PhaseFits : State Body Ended → (ℕ → Location) → ℕ → Phase Body → Type 0
    PhaseFits s location n active = ⊤
    PhaseFits s location n (suspended t) = StrandFits s location (at_scope n) t × IsSuspended s.phase n t.scopes
    PhaseFits s location n joining = ⊤
    PhaseFits s location n closed = ⊤

    -- the invariant, for P workers with V pages each; `conserved` is said for every weight of pages, so it says that each page stands as often as it was dealt
    pub record Valid (P V : ℕ) (s : State Body Ended) (location : ℕ → Location) : Type 0 where
      pub fits : (w : ℕ) → WorkerFits V s location w (s.workers w)
      pub parked : (n : ℕ) → n < s.scopes → PhaseFits s location n (s.phase n)
      pub below : (n : ℕ) → n < s.scopes → IsBelow n (s.outer n)
      pub begins : (n : ℕ) → n < s.scopes → IsFront (chain_of s.chain (s.outer n)) (s.chain n)
      pub short : (n : ℕ) → n < s.scopes → length (s.chain n) ≤ V
      pub counts : (n : ℕ) → n < s.scopes → s.count n ≡ outstanding P s n
      pub joined : (n : ℕ) → n < s.scopes → IsJoined (s.phase n) → s.count n ≡ 0
      pub posts : (n i : ℕ) → n < s.scopes → IsPost (length (s.chain n)) (s.surplus n i)
      pub conserved : (h : ℕ → ℕ) → weight P h s ≡ total P (λ w. weigh h (pages_from (w * V) V))
      pub owners : (n : ℕ) → n < s.scopes → s.owner n < s.strands
      pub nested : (m n : ℕ) → m < s.scopes → IsLive (s.phase m) → s.outer m ≡ Some n → Nests s m n
      pub unstolen : (w : ℕ) → UnstolenAt s.count (s.workers w).deque (s.workers w).task

    -- the invariant holds, wherever the strands are
    abbrev pub ValidIn : (P V : ℕ) → State Body Ended → Type 0
    ValidIn P V s = (location : ℕ → Location) × Valid P V s location

-- the scope is this one or one round it
pub data Under (outer : ℕ → Option ℕ) (n : ℕ) : Option ℕ → Type 0 where
  itself : Under outer n (Some n)
  within : {m : ℕ} {o : Option ℕ} → outer m ≡ o → Under outer n o → Under outer n (Some m)
