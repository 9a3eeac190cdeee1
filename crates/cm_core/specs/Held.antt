-- The pages that are held, and what a run counts.
use Rattle.std.specs.Prelude.{◌≡◌, ◌<◌, Option, Some, None, ◌≤◌, length, ℕ, zero, suc, ◌+◌, ◌*◌, max, Bool, false, ◌||◌, ◌==◌, if◌then◌else◌, List, [], ◌∷◌}
use Rattle.cm_core.specs.Table.{total, weigh}
use Rattle.cm_core.specs.State.{width, innermost, chain_of, Strand, Phase, active, suspended, joining, closed, Task, idle, mapping, running, depositing, arriving, leaving, collecting, over, Worker, State}
use Rattle.cm_core.specs.Event.{Strands}
use Rattle.cm_core.specs.Turn.{Did, Steal, Instruction, Page, Spawn, Map, End, Deposit, Arrive, Fetch, Park, Collect, Resume, Finish, NotYet, Lost, Turned, turn, Pair}

-- whether this page is one of these
abbrev pub shows : List ℕ → ℕ → Bool
shows [] page = false
shows (x ∷ pages) page = (x == page) || shows pages page

-- whether the test is true of some number below the first one
abbrev pub some : ℕ → (ℕ → Bool) → Bool
some zero test = false
some (suc n) test = some n test || test n

-- the weight of one page
abbrev pub only : ℕ → ℕ → ℕ
only page x = if x == page then 1 else 0

abbrev pub bit : Bool → ℕ
bit b = if b then 1 else 0

abbrev pub steal_bit : Did → ℕ
steal_bit Steal = 1
steal_bit Instruction = 0
steal_bit Page = 0
steal_bit Spawn = 0
steal_bit Map = 0
steal_bit End = 0
steal_bit Deposit = 0
steal_bit Arrive = 0
steal_bit Fetch = 0
steal_bit Park = 0
steal_bit Collect = 0
steal_bit Resume = 0
steal_bit Finish = 0
steal_bit (NotYet why) = 0
steal_bit Lost = 0

-- the weight and the number of pages of a post
abbrev pub slot_weight : (h : ℕ → ℕ) → Option (List ℕ) → ℕ
slot_weight h None = 0
slot_weight h (Some pages) = weigh h pages

abbrev pub post_length : Option (List ℕ) → ℕ
post_length None = 0
post_length (Some pages) = length pages

-- a run with its counts: the steals, and the most pages held after any turn
pub record Run (Body Ended : Type 0) : Type 0 where
  pub state : State Body Ended
  pub steals : ℕ
  pub most : ℕ

-- a strand that lies has the pages of its innermost scope for a chain
abbrev pub lies_on : {Body : Type 0} → (chain : ℕ → List ℕ) → Strand Body → ℕ → Bool
lies_on chain t page = shows (chain_of chain (innermost t.scopes t.home)) page

abbrev pub deque_shows : {Body : Type 0} → (chain : ℕ → List ℕ) → List (Strand Body) → ℕ → Bool
deque_shows chain [] page = false
deque_shows chain (t ∷ deque) page = lies_on chain t page || deque_shows chain deque page

abbrev pub phase_shows : {Body : Type 0} → (chain : ℕ → List ℕ) → Phase Body → ℕ → Bool
phase_shows chain active page = false
phase_shows chain (suspended t) page = lies_on chain t page
phase_shows chain joining page = false
phase_shows chain closed page = false

module _ {Body Ended : Type 0} where
  abbrev pub task_shows : (chain : ℕ → List ℕ) → Task Body Ended → ℕ → Bool
  task_shows chain idle page = false
  task_shows chain (mapping t) page = lies_on chain t page
  task_shows chain (running t) page = false
  task_shows chain (depositing h e) page = false
  task_shows chain (arriving n) page = false
  task_shows chain (leaving n) page = false
  task_shows chain (collecting t) page = false
  task_shows chain (over e) page = false

  abbrev pub worker_shows : (chain : ℕ → List ℕ) → Worker Body Ended → ℕ → Bool
  worker_shows chain me page = shows me.pages page || (task_shows chain me.task page || deque_shows chain me.deque page)

  -- the page is in some map or in the chain of some live strand
  abbrev pub is_held : (P : ℕ) → State Body Ended → ℕ → Bool
  is_held P s page = some P (λ w. worker_shows s.chain (s.workers w) page) || some s.scopes (λ n. phase_shows s.chain (s.phase n) page)

  -- the number of pages held, of the P stores of V pages
  abbrev pub held : (P V : ℕ) → State Body Ended → ℕ
  held P V s = total (P * V) (λ page. bit (is_held P s page))

  abbrev pub counted : (P V : ℕ) → Run Body Ended → Turned Body Ended → Run Body Ended
  counted P V r t = record { state = t.state; steals = r.steals + steal_bit t.did; most = max r.most (held P V t.state) }

  -- the run of these pairs, with its counts
  abbrev pub run_counted : (P V : ℕ) → Strands Body Ended → Run Body Ended → List Pair → Run Body Ended
  run_counted P V strands r [] = r
  run_counted P V strands r (p ∷ pairs) = run_counted P V strands (counted P V r (turn strands r.state p.worker p.victim)) pairs

  -- no map and no scope has more than B pages
  abbrev pub IsSlim : (B : ℕ) → State Body Ended → Type 0
  IsSlim B s = ((w : ℕ) → length (s.workers w).pages ≤ B) × ((n : ℕ) → length (s.chain n) ≤ B)

  -- the weight of all stores, and of all posts
  abbrev pub stores : (P : ℕ) → State Body Ended → (h : ℕ → ℕ) → ℕ
  stores P s h = total P (λ w. weigh h (s.workers w).store)

  abbrev pub posts : State Body Ended → (h : ℕ → ℕ) → ℕ
  posts s h = total s.scopes (λ n. total width (λ i. slot_weight h (s.surplus n i)))

  -- the numbers of pages of all stores, and of all posts
  abbrev pub stored_pages : (P : ℕ) → State Body Ended → ℕ
  stored_pages P s = total P (λ w. length (s.workers w).store)

  abbrev pub posted_pages : State Body Ended → ℕ
  posted_pages s = total s.scopes (λ n. total width (λ i. post_length (s.surplus n i)))

  -- each page is held, or stands once in a store or a surplus place, and not both
  abbrev pub StandOnce : (P V : ℕ) → State Body Ended → Type 0
  StandOnce P V s = (page : ℕ) → page < P * V → bit (is_held P s page) + stores P s (only page) + posts s (only page) ≡ 1
