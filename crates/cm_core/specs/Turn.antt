-- One turn of one worker by the machine's table, and the run of a list of pairs.
use Rattle.std.specs.Prelude.{ℕ, zero, suc, Bool, true, false, if◌then◌else◌, List, [], ◌∷◌, Option, Some, None}
use Rattle.cm_core.specs.Table.{least}
use Rattle.cm_core.specs.State.{width, Home, Strand, Place, free, out, back, Phase, active, suspended, joining, closed, Task, idle, mapping, running, depositing, arriving, leaving, collecting, over, State}
use Rattle.cm_core.specs.Event.{Next, goes, fails, faults, spawns, waits, ends, Strands, stolen, mapped, stepped, page_added, inside_of, opened, spawned, collected, parked_among, parked_last, popped, orphaned, finished, deposited, arrived_among, arrived_last, fetched, resumed}

-- why a turn did nothing yet
pub data Why : Type 0 where
  Empty : Why
  Stopped : Why
  Unposted : Why
  NoPlace : Why

-- what a turn did; Lost is said where the table has no event
pub data Did : Type 0 where
  Instruction : Did
  Page : Did
  Spawn : Did
  Steal : Did
  Map : Did
  End : Did
  Deposit : Did
  Arrive : Did
  Fetch : Did
  Park : Did
  Collect : Did
  Resume : Did
  Finish : Did
  NotYet : Why → Did
  Lost : Did

-- between which strands words go: at a spawn from the parent to the child, and back with the child's answer
pub data Transfer : Type 0 where
  nothing : Transfer
  words_of : (giver taker : ℕ) → Transfer

-- the state after a turn, what the turn did, and between which strands words went
pub record Turned (Body Ended : Type 0) : Type 0 where
  pub state : State Body Ended
  pub did : Did
  pub moved : Transfer

-- the oldest strand of a deque, and the others
pub data Oldest (Body : Type 0) : Type 0 where
  none : Oldest Body
  found : Strand Body → List (Strand Body) → Oldest Body

-- a worker and its victim
pub record Pair : Type 0 where
  pub worker : ℕ
  pub victim : ℕ

abbrev pub is_empty : Option (List ℕ) → Bool
is_empty None = true
is_empty (Some pages) = false

abbrev pub is_filled : Option (List ℕ) → Bool
is_filled None = false
is_filled (Some pages) = true

abbrev pub is_free : {Ended : Type 0} → Place Ended → Bool
is_free free = true
is_free (out hole child) = false
is_free (back hole child e) = false

abbrev pub is_used : {Ended : Type 0} → Place Ended → Bool
is_used free = false
is_used (out hole child) = true
is_used (back hole child e) = true

abbrev pub is_back : {Ended : Type 0} → Place Ended → Bool
is_back free = false
is_back (out hole child) = false
is_back (back hole child e) = true

abbrev pub behind : {Body : Type 0} → Strand Body → Oldest Body → Oldest Body
behind t none = found t []
behind t (found p rest) = found p (t ∷ rest)

abbrev pub oldest : {Body : Type 0} → List (Strand Body) → Oldest Body
oldest [] = none
oldest (t ∷ deque) = behind t (oldest deque)

module _ {Body Ended : Type 0} where
  abbrev pub turned : State Body Ended → Did → Turned Body Ended
  turned s d = record { state = s; did = d; moved = nothing }

  abbrev pub turned_with : State Body Ended → Did → (giver taker : ℕ) → Turned Body Ended
  turned_with s d giver taker = record { state = s; did = d; moved = words_of giver taker }

  -- ---- idle: the oldest strand of the victim's deque, where no strand has ended otherwise than by return
  abbrev pub steal_from : State Body Ended → (w v : ℕ) → Oldest Body → Turned Body Ended
  steal_from s w v none = turned s (NotYet Empty)
  steal_from s w v (found t rest) = turned (stolen s w v t rest) Steal

  abbrev pub steal : State Body Ended → (w v : ℕ) → Turned Body Ended
  steal s w v = if s.stopped then turned s (NotYet Stopped) else steal_from s w v (oldest (s.workers v).deque)

  -- ---- leaving: the least filled surplus place
  abbrev pub fetch_at : State Body Ended → (w n slot : ℕ) → Option (List ℕ) → Turned Body Ended
  fetch_at s w n slot None = turned s Lost
  fetch_at s w n slot (Some pages) = turned (fetched s w n slot pages) Fetch

  abbrev pub fetch_by : State Body Ended → (w n : ℕ) → Option ℕ → Turned Body Ended
  fetch_by s w n None = turned s (NotYet Unposted)
  fetch_by s w n (Some slot) = fetch_at s w n slot (s.surplus n slot)

  abbrev pub fetch : State Body Ended → (w n : ℕ) → Turned Body Ended
  fetch s w n = fetch_by s w n (least (λ i. is_filled (s.surplus n i)) width)

  -- ---- depositing
  abbrev pub deposit : State Body Ended → ℕ → Home → Ended → Place Ended → Turned Body Ended
  deposit s w h e free = turned s Lost
  deposit s w h e (back hole child d) = turned s Lost
  deposit s w h e (out hole child) = turned (deposited s w h e hole child) Deposit

  -- ---- arriving, with the join counter found
  abbrev pub arrive_last : State Body Ended → (w n : ℕ) → Phase Body → Turned Body Ended
  arrive_last s w n active = turned s Lost
  arrive_last s w n joining = turned s Lost
  arrive_last s w n closed = turned s Lost
  arrive_last s w n (suspended t) = turned (arrived_last s w n t) Arrive

  abbrev pub arrive : State Body Ended → (w n found : ℕ) → Turned Body Ended
  arrive s w n zero = turned s Lost
  arrive s w n (suc zero) = arrive_last s w n (s.phase n)
  arrive s w n (suc (suc more)) = turned (arrived_among s w n (suc more)) Arrive

  -- ---- a sync of an open scope, or an ending strand with one, with the join counter found
  abbrev pub park : State Body Ended → ℕ → Strand Body → (n found : ℕ) → Turned Body Ended
  park s w t n zero = turned s Lost
  park s w t n (suc zero) = turned (parked_last s w t n) Park
  park s w t n (suc (suc more)) = turned (parked_among s w t n (suc more)) Park

  abbrev pub park_in : State Body Ended → ℕ → Strand Body → List ℕ → Turned Body Ended
  park_in s w t [] = turned s Lost
  park_in s w t (n ∷ scopes) = park s w t n (s.count n)

  -- ---- a page fault, with the store
  abbrev pub add_page : State Body Ended → ℕ → List ℕ → Turned Body Ended
  add_page s w [] = turned s Lost
  add_page s w (page ∷ store) = turned (page_added s w) Page

  -- ---- a spawn in this place
  abbrev pub spawn_at : State Body Ended → ℕ → Strand Body → (n i : ℕ) → (parent child : Body) → (hole : ℕ) → Turned Body Ended
  spawn_at s w t n i parent child hole = turned_with (spawned s w t n i parent child hole) Spawn t.number s.strands

  module _ (strands : Strands Body Ended) where
    -- ---- mapping: the least empty surplus place of the strand's innermost scope
    abbrev pub map_by : State Body Ended → ℕ → Strand Body → ℕ → Option ℕ → Turned Body Ended
    map_by s w t n None = turned s (NotYet NoPlace)
    map_by s w t n (Some slot) = turned (mapped strands s w t n slot) Map

    abbrev pub map_in : State Body Ended → ℕ → Strand Body → List ℕ → Turned Body Ended
    map_in s w t [] = turned s Lost
    map_in s w t (n ∷ scopes) = map_by s w t n (least (λ i. is_empty (s.surplus n i)) width)

    -- ---- the answer in a place, for the scope's owner, who runs or collects
    abbrev pub collect_at : State Body Ended → ℕ → Strand Body → (Strand Body → Task Body Ended) → (n i : ℕ) → Place Ended → Turned Body Ended
    collect_at s w t as_task n i free = turned s Lost
    collect_at s w t as_task n i (out hole child) = turned s Lost
    collect_at s w t as_task n i (back hole child e) = turned_with (collected strands s w t as_task n i hole e) Collect child t.number

    -- ---- collecting: the least place in use, and where there is none the join
    abbrev pub collect_by : State Body Ended → ℕ → Strand Body → ℕ → List ℕ → Option ℕ → Turned Body Ended
    collect_by s w t n scopes None = turned (resumed strands s w t n scopes) Resume
    collect_by s w t n scopes (Some i) = collect_at s w t collecting n i (s.places n i)

    abbrev pub collect_in : State Body Ended → ℕ → Strand Body → List ℕ → Turned Body Ended
    collect_in s w t [] = turned s Lost
    collect_in s w t (n ∷ scopes) = collect_by s w t n scopes (least (λ i. is_used (s.places n i)) width)

    -- ---- a spawn in the innermost open scope: the least free place, and where there is none the least one that holds an answer
    abbrev pub crowded : State Body Ended → ℕ → Strand Body → ℕ → Option ℕ → Turned Body Ended
    crowded s w t n None = turned s (NotYet NoPlace)
    crowded s w t n (Some i) = collect_at s w t running n i (s.places n i)

    abbrev pub spawn_by : State Body Ended → ℕ → Strand Body → ℕ → (parent child : Body) → (hole : ℕ) → Option ℕ → Turned Body Ended
    spawn_by s w t n parent child hole None = crowded s w t n (least (λ i. is_back (s.places n i)) width)
    spawn_by s w t n parent child hole (Some i) = spawn_at s w t n i parent child hole

    abbrev pub spawn_in : State Body Ended → ℕ → Strand Body → List ℕ → (parent child : Body) → (hole : ℕ) → Turned Body Ended
    spawn_in s w t [] parent child hole = turned s Lost
    spawn_in s w t (n ∷ scopes) parent child hole = spawn_by s w t n parent child hole (least (λ i. is_free (s.places n i)) width)

    -- a scope that this spawn opens has all its places free
    abbrev pub spawn : State Body Ended → ℕ → Strand Body → Option ℕ → (opened parent child : Body) → (hole : ℕ) → Turned Body Ended
    spawn s w t None inside parent child hole = spawn_in s w t t.scopes parent child hole
    spawn s w t (Some k) inside parent child hole = spawn_at (opened s w t k inside) w (inside_of s.scopes t inside) s.scopes 0 parent child hole

    -- ---- a strand has ended: the root, a child whose parent lies in the deque, or one whose parent was stolen
    abbrev pub pop_at : State Body Ended → ℕ → Home → Ended → Strand Body → List (Strand Body) → Place Ended → Turned Body Ended
    pop_at s w h e p rest free = turned s Lost
    pop_at s w h e p rest (back hole child d) = turned s Lost
    pop_at s w h e p rest (out hole child) = turned_with (popped strands s w h e p rest hole) End child p.number

    abbrev pub end_in : State Body Ended → ℕ → Home → Ended → List (Strand Body) → Turned Body Ended
    end_in s w h e [] = turned (orphaned s w h e) End
    end_in s w h e (p ∷ rest) = pop_at s w h e p rest (s.places h.scope h.place)

    abbrev pub end_of : State Body Ended → ℕ → Option Home → Ended → Turned Body Ended
    end_of s w None e = turned (finished s w e) Finish
    end_of s w (Some h) e = end_in s w h e (s.workers w).deque

    -- ---- running
    abbrev pub run_next : State Body Ended → ℕ → Strand Body → Next Body Ended → Turned Body Ended
    run_next s w t (goes b words) = turned (stepped s w t b words s.stopped) Instruction
    run_next s w t (fails b) = turned (stepped s w t b s.words true) Instruction
    run_next s w t faults = add_page s w (s.workers w).store
    run_next s w t (spawns fresh inside parent child hole) = spawn s w t fresh inside parent child hole
    run_next s w t waits = park_in s w t t.scopes
    run_next s w t (ends e) = end_of s w t.home e

    abbrev pub turn_of : State Body Ended → (w v : ℕ) → Task Body Ended → Turned Body Ended
    turn_of s w v idle = steal s w v
    turn_of s w v (mapping t) = map_in s w t t.scopes
    turn_of s w v (running t) = run_next s w t (strands.next t.body (s.workers w).pages s.words)
    turn_of s w v (depositing h e) = deposit s w h e (s.places h.scope h.place)
    turn_of s w v (arriving n) = arrive s w n (s.count n)
    turn_of s w v (leaving n) = fetch s w n
    turn_of s w v (collecting t) = collect_in s w t t.scopes
    turn_of s w v (over e) = turned s Lost

    -- one turn of worker w with victim v
    abbrev pub turn : State Body Ended → (w v : ℕ) → Turned Body Ended
    turn s w v = turn_of s w v (s.workers w).task

    -- the state after the turns of these pairs
    abbrev pub run : State Body Ended → List Pair → State Body Ended
    run s [] = s
    run s (p ∷ pairs) = run (turn s p.worker p.victim).state pairs
