-- The surplus pages of a scope: as many posts as there are workers that will take them.
use Rattle.std.specs.Prelude.{◌≡◌, ℕ, ◌+◌, ◌<◌, ◌==◌, if◌then◌else◌, List, [], ◌∷◌, Option, Some, None}
use Rattle.cm_core.specs.Table.{total}
use Rattle.cm_core.specs.State.{width, Strand, Phase, active, suspended, joining, closed, Task, idle, mapping, running, depositing, arriving, leaving, collecting, over, Worker, State}

abbrev pub filled_bit : Option (List ℕ) → ℕ
filled_bit None = 0
filled_bit (Some pages) = 1

-- 1 where this scope is the innermost of these
abbrev pub heads : ℕ → List ℕ → ℕ
heads n [] = 0
heads n (m ∷ scopes) = if m == n then 1 else 0

module _ {Body : Type 0} where
  -- the strands of a deque whose innermost scope this is
  abbrev pub queued : ℕ → List (Strand Body) → ℕ
  queued n [] = 0
  queued n (p ∷ deque) = heads n p.scopes + queued n deque

  abbrev pub joined_bit : Phase Body → ℕ
  joined_bit active = 0
  joined_bit (suspended t) = 0
  joined_bit joining = 1
  joined_bit closed = 1

module _ {Body Ended : Type 0} where
  abbrev pub leaving_bit : ℕ → Task Body Ended → ℕ
  leaving_bit n idle = 0
  leaving_bit n (mapping t) = 0
  leaving_bit n (running t) = 0
  leaving_bit n (depositing h e) = 0
  leaving_bit n (arriving m) = 0
  leaving_bit n (leaving m) = if m == n then 1 else 0
  leaving_bit n (collecting t) = 0
  leaving_bit n (over e) = 0

  abbrev pub mapping_bit : ℕ → Task Body Ended → ℕ
  mapping_bit n idle = 0
  mapping_bit n (mapping t) = heads n t.scopes
  mapping_bit n (running t) = 0
  mapping_bit n (depositing h e) = 0
  mapping_bit n (arriving m) = 0
  mapping_bit n (leaving m) = 0
  mapping_bit n (collecting t) = 0
  mapping_bit n (over e) = 0

  -- the strands with this worker that lie, or are mapped, and have this innermost scope
  abbrev pub waiting : ℕ → Worker Body Ended → ℕ
  waiting n me = mapping_bit n me.task + queued n me.deque

  -- at each scope: its posts, the strands whose thief will post, and its owner's worker are those that leave, and those that will arrive or park
  abbrev pub Posted : (P : ℕ) → (scopes : ℕ) → (workers : ℕ → Worker Body Ended) → (surplus : ℕ → ℕ → Option (List ℕ)) → (count : ℕ → ℕ) → (phase : ℕ → Phase Body) → Type 0
  Posted P scopes workers surplus count phase = (n : ℕ) → n < scopes →
      total width (λ i. filled_bit (surplus n i)) + total P (λ w. waiting n (workers w)) + 1
      ≡ total P (λ w. leaving_bit n (workers w).task) + count n + joined_bit (phase n)

  abbrev pub PostedIn : ℕ → State Body Ended → Type 0
  PostedIn P s = Posted P s.scopes s.workers s.surplus s.count s.phase
