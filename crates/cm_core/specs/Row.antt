-- The rows of the machine's table: in which state of worker w, with victim v, which event comes, and what it leaves.
use Rattle.std.specs.Prelude.{◌≡◌, ℕ, suc, true, false, List, [], ◌∷◌, ◌++◌, Option, Some, None}
use Rattle.cm_core.specs.Table.{least}
use Rattle.cm_core.specs.State.{width, Home, Strand, out, back, suspended, Task, idle, mapping, running, depositing, arriving, leaving, collecting, over, State}
use Rattle.cm_core.specs.Event.{Next, goes, fails, faults, spawns, waits, ends, Strands, stolen, mapped, stepped, page_added, inside_of, opened, spawned, collected, parked_among, parked_last, popped, orphaned, finished, deposited, arrived_among, arrived_last, fetched, resumed}
use Rattle.cm_core.specs.Turn.{Empty, Stopped, Unposted, NoPlace, Instruction, Page, Spawn, Steal, Map, End, Deposit, Arrive, Fetch, Park, Collect, Resume, Finish, NotYet, Lost, Turned, is_empty, is_filled, turned, turned_with, is_free, is_used, is_back}

module _ {Body Ended : Type 0} where
  abbrev pub IsAt : State Body Ended → ℕ → Task Body Ended → Type 0
  IsAt s w x = (s.workers w).task ≡ x

  -- worker w runs this strand, which goes on so
  abbrev pub RunsTo : Strands Body Ended → State Body Ended → ℕ → Strand Body → Next Body Ended → Type 0
  RunsTo strands s w t x = ((s.workers w).task ≡ running t) × (strands.next t.body (s.workers w).pages s.words ≡ x)

  abbrev pub least_free : State Body Ended → ℕ → Option ℕ
  least_free s n = least (λ i. is_free (s.places n i)) width

  abbrev pub least_used : State Body Ended → ℕ → Option ℕ
  least_used s n = least (λ i. is_used (s.places n i)) width

  abbrev pub least_back : State Body Ended → ℕ → Option ℕ
  least_back s n = least (λ i. is_back (s.places n i)) width

  abbrev pub least_empty : State Body Ended → ℕ → Option ℕ
  least_empty s n = least (λ i. is_empty (s.surplus n i)) width

  abbrev pub least_filled : State Body Ended → ℕ → Option ℕ
  least_filled s n = least (λ i. is_filled (s.surplus n i)) width

pub data Row {Body Ended : Type 0} (strands : Strands Body Ended) (s : State Body Ended) (w v : ℕ) : Type 0 where
  -- idle
  stopped_row : IsAt s w idle → s.stopped ≡ true → Row strands s w v
  empty_row : IsAt s w idle → s.stopped ≡ false → (s.workers v).deque ≡ [] → Row strands s w v
  steal_row : (t : Strand Body) (rest : List (Strand Body)) → IsAt s w idle → s.stopped ≡ false → (s.workers v).deque ≡ rest ++ t ∷ [] → Row strands s w v
  -- mapping
  full_row : (t : Strand Body) (n : ℕ) (scopes : List ℕ) → IsAt s w (mapping t) → t.scopes ≡ n ∷ scopes → least_empty s n ≡ None → Row strands s w v
  map_row : (t : Strand Body) (n : ℕ) (scopes : List ℕ) (slot : ℕ) → IsAt s w (mapping t) → t.scopes ≡ n ∷ scopes → least_empty s n ≡ Some slot → Row strands s w v
  -- running: an instruction, one that ends the strand, a page fault
  instruction_row : (t : Strand Body) (b : Body) (words : ℕ → ℕ) → RunsTo strands s w t (goes b words) → Row strands s w v
  fail_row : (t : Strand Body) (b : Body) → RunsTo strands s w t (fails b) → Row strands s w v
  page_row : (t : Strand Body) (page : ℕ) (store : List ℕ) → RunsTo strands s w t faults → (s.workers w).store ≡ page ∷ store → Row strands s w v
  -- a spawn: the first of a scope, one with a free place, one at a full scope with an answer there, and with none
  first_spawn_row : (t : Strand Body) (k : ℕ) (inside parent child : Body) (hole : ℕ) → RunsTo strands s w t (spawns (Some k) inside parent child hole) → Row strands s w v
  spawn_row : (t : Strand Body) (n : ℕ) (scopes : List ℕ) (i : ℕ) (inside parent child : Body) (hole : ℕ) → RunsTo strands s w t (spawns None inside parent child hole) → t.scopes ≡ n ∷ scopes
      → least_free s n ≡ Some i → Row strands s w v
  early_collect_row : (t : Strand Body) (n : ℕ) (scopes : List ℕ) (i : ℕ) (inside parent child : Body) (hole filled number : ℕ) (e : Ended) → RunsTo strands s w t (spawns None inside parent child hole) → t.scopes ≡ n ∷ scopes
      → least_free s n ≡ None → least_back s n ≡ Some i → s.places n i ≡ back filled number e → Row strands s w v
  crowded_row : (t : Strand Body) (n : ℕ) (scopes : List ℕ) (inside parent child : Body) (hole : ℕ) → RunsTo strands s w t (spawns None inside parent child hole) → t.scopes ≡ n ∷ scopes
      → least_free s n ≡ None → least_back s n ≡ None → Row strands s w v
  -- a sync of an open scope, or an ending strand with one: others are to come, or nobody is out
  park_row : (t : Strand Body) (n : ℕ) (scopes : List ℕ) (more : ℕ) → RunsTo strands s w t waits → t.scopes ≡ n ∷ scopes → s.count n ≡ suc (suc more) → Row strands s w v
  last_park_row : (t : Strand Body) (n : ℕ) (scopes : List ℕ) → RunsTo strands s w t waits → t.scopes ≡ n ∷ scopes → s.count n ≡ 1 → Row strands s w v
  -- an end: the root's, one whose parent lies in the deque, one whose parent was stolen
  finish_row : (t : Strand Body) (e : Ended) → RunsTo strands s w t (ends e) → t.home ≡ None → Row strands s w v
  pop_row : (t : Strand Body) (e : Ended) (h : Home) (p : Strand Body) (rest : List (Strand Body)) (hole child : ℕ) → RunsTo strands s w t (ends e) → t.home ≡ Some h → (s.workers w).deque ≡ p ∷ rest
      → s.places h.scope h.place ≡ out hole child → Row strands s w v
  orphan_row : (t : Strand Body) (e : Ended) (h : Home) → RunsTo strands s w t (ends e) → t.home ≡ Some h → (s.workers w).deque ≡ [] → Row strands s w v
  -- depositing
  deposit_row : (h : Home) (e : Ended) (hole child : ℕ) → IsAt s w (depositing h e) → s.places h.scope h.place ≡ out hole child → Row strands s w v
  -- arriving: others are to come, or this is the last
  arrive_row : (n more : ℕ) → IsAt s w (arriving n) → s.count n ≡ suc (suc more) → Row strands s w v
  last_arrive_row : (n : ℕ) (t : Strand Body) → IsAt s w (arriving n) → s.count n ≡ 1 → s.phase n ≡ suspended t → Row strands s w v
  -- leaving
  unposted_row : (n : ℕ) → IsAt s w (leaving n) → least_filled s n ≡ None → Row strands s w v
  fetch_row : (n slot : ℕ) (pages : List ℕ) → IsAt s w (leaving n) → least_filled s n ≡ Some slot → s.surplus n slot ≡ Some pages → Row strands s w v
  -- collecting: an answer, or the join
  collect_row : (t : Strand Body) (n : ℕ) (scopes : List ℕ) (i hole child : ℕ) (e : Ended) → IsAt s w (collecting t) → t.scopes ≡ n ∷ scopes → least_used s n ≡ Some i → s.places n i ≡ back hole child e → Row strands s w v
  resume_row : (t : Strand Body) (n : ℕ) (scopes : List ℕ) → IsAt s w (collecting t) → t.scopes ≡ n ∷ scopes → least_used s n ≡ None → Row strands s w v
  -- the root has ended with this worker: the table has no event
  over_row : (e : Ended) → IsAt s w (over e) → Row strands s w v

module _ {Body Ended : Type 0} {strands : Strands Body Ended} {s : State Body Ended} {w v : ℕ} where
  -- what a row leaves, and what it is called
  abbrev pub row_result : Row strands s w v → Turned Body Ended
  row_result (stopped_row a b) = turned s (NotYet Stopped)
  row_result (empty_row a b c) = turned s (NotYet Empty)
  row_result (steal_row t rest a b c) = turned (stolen s w v t rest) Steal
  row_result (full_row t n scopes a b c) = turned s (NotYet NoPlace)
  row_result (map_row t n scopes slot a b c) = turned (mapped strands s w t n slot) Map
  row_result (instruction_row t b words a) = turned (stepped s w t b words s.stopped) Instruction
  row_result (fail_row t b a) = turned (stepped s w t b s.words true) Instruction
  row_result (page_row t page store a b) = turned (page_added s w) Page
  row_result (first_spawn_row t k inside parent child hole a) = turned_with (spawned (opened s w t k inside) w (inside_of s.scopes t inside) s.scopes 0 parent child hole) Spawn t.number s.strands
  row_result (spawn_row t n scopes i inside parent child hole a b c) = turned_with (spawned s w t n i parent child hole) Spawn t.number s.strands
  row_result (early_collect_row t n scopes i inside parent child hole filled number e a b c d f) = turned_with (collected strands s w t running n i filled e) Collect number t.number
  row_result (crowded_row t n scopes inside parent child hole a b c d) = turned s (NotYet NoPlace)
  row_result (park_row t n scopes more a b c) = turned (parked_among s w t n (suc more)) Park
  row_result (last_park_row t n scopes a b c) = turned (parked_last s w t n) Park
  row_result (finish_row t e a b) = turned (finished s w e) Finish
  row_result (pop_row t e h p rest hole child a b c d) = turned_with (popped strands s w h e p rest hole) End child p.number
  row_result (orphan_row t e h a b c) = turned (orphaned s w h e) End
  row_result (deposit_row h e hole child a b) = turned (deposited s w h e hole child) Deposit
  row_result (arrive_row n more a b) = turned (arrived_among s w n (suc more)) Arrive
  row_result (last_arrive_row n t a b c) = turned (arrived_last s w n t) Arrive
  row_result (unposted_row n a b) = turned s (NotYet Unposted)
  row_result (fetch_row n slot pages a b c) = turned (fetched s w n slot pages) Fetch
  row_result (collect_row t n scopes i hole child e a b c d) = turned_with (collected strands s w t collecting n i hole e) Collect child t.number
  row_result (resume_row t n scopes a b c) = turned (resumed strands s w t n scopes) Resume
  row_result (over_row e a) = turned s Lost
