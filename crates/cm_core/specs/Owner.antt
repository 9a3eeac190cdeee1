-- Each scope that isn't closed has its owner somewhere: with a worker, in a deque, or parked.
use Rattle.std.specs.Prelude.{◌≡◌, ℕ, ◌<◌, ◌⊎◌, List, [], ◌∷◌}
use Rattle.cm_core.specs.State.{Strand, Phase, active, suspended, joining, closed, Task, idle, mapping, running, depositing, arriving, leaving, collecting, over, Worker, State}
use Rattle.cm_core.specs.Valid.{IsLive}

module _ {Body : Type 0} where
  -- the strand with this number is in the deque
  abbrev pub IsQueued : ℕ → List (Strand Body) → Type 0
  IsQueued k [] = ⊥
  IsQueued k (t ∷ deque) = (t.number ≡ k) ⊎ IsQueued k deque

  -- the strand with this number lies parked in the scope
  abbrev pub IsParked : ℕ → Phase Body → Type 0
  IsParked k active = ⊥
  IsParked k (suspended t) = t.number ≡ k
  IsParked k joining = ⊥
  IsParked k closed = ⊥

module _ {Body Ended : Type 0} where
  -- the strand of this task has this number
  abbrev pub IsNamed : ℕ → Task Body Ended → Type 0
  IsNamed k idle = ⊥
  IsNamed k (mapping t) = t.number ≡ k
  IsNamed k (running t) = t.number ≡ k
  IsNamed k (depositing h e) = ⊥
  IsNamed k (arriving n) = ⊥
  IsNamed k (leaving n) = ⊥
  IsNamed k (collecting t) = t.number ≡ k
  IsNamed k (over e) = ⊥

  abbrev pub IsWith : ℕ → Worker Body Ended → Type 0
  IsWith k me = IsNamed k me.task ⊎ IsQueued k me.deque

  abbrev pub IsSomewhere : (P scopes : ℕ) → (workers : ℕ → Worker Body Ended) → (phase : ℕ → Phase Body) → ℕ → Type 0
  IsSomewhere P scopes workers phase k = ((w : ℕ) × (w < P) × IsWith k (workers w)) ⊎ ((m : ℕ) × (m < scopes) × IsParked k (phase m))

  abbrev pub Owned : (P scopes : ℕ) → (workers : ℕ → Worker Body Ended) → (owner : ℕ → ℕ) → (phase : ℕ → Phase Body) → Type 0
  Owned P scopes workers owner phase = (n : ℕ) → n < scopes → IsLive (phase n) → IsSomewhere P scopes workers phase (owner n)

  abbrev pub OwnedIn : ℕ → State Body Ended → Type 0
  OwnedIn P s = Owned P s.scopes s.workers s.owner s.phase
