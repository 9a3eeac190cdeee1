-- The serial elision, over the steps of any language: a spawn is a call, and a sync is nothing.
use Rattle.std.specs.Prelude.{◌≡◌, ℕ, suc, ◌<◌, ◌≤◌, ℤ, List, [], ◌∷◌}
use Rattle.cm_syntax.specs.Label.{Step, silent, ticks, prints, spawns, syncs, traps, ends, stuck}
use Rattle.cm_meaning.specs.End.{End, Done, Trapped, Spent}

-- `inside call destination continuation` is the call that is done before its continuation goes on.
module _ (Control Stack Destination : Type 0) (step : Control → Stack → Step Control Stack Destination)
    (inside : Control → Destination → Control → Control) where
  -- a step as the elision takes it, on the stack before it
  abbrev pub serial : Stack → Step Control Stack Destination → Step Control Stack Destination
  serial h (spawns call lent x t g) = silent (inside call x t) h
  serial h (syncs t) = silent t h
  serial h (silent t g) = silent t g
  serial h (ticks t g) = ticks t g
  serial h (prints v t g) = prints v t g
  serial h (traps k) = traps k
  serial h (ends v) = ends v
  serial h stuck = stuck

  -- one step of the elision
  abbrev pub serial_step : Control → Stack → Step Control Stack Destination
  serial_step c h = serial h (step c h)

  -- The elision comes from one state to another, printing these numbers and taking so many ticks.
  pub data Comes : Control → Stack → (output : List ℤ) → (count : ℕ) → Control → Stack → Type 0 where
    here : {c : Control} {h : Stack} → Comes c h [] 0 c h
    quiet : {c t l : Control} {h g k : Stack} {out : List ℤ} {n : ℕ}
        → serial_step c h ≡ silent t g → Comes t g out n l k → Comes c h out n l k
    tick : {c t l : Control} {h g k : Stack} {out : List ℤ} {n : ℕ}
        → serial_step c h ≡ ticks t g → Comes t g out n l k → Comes c h out (suc n) l k
    show : {c t l : Control} {h g k : Stack} {v : ℤ} {out : List ℤ} {n : ℕ}
        → serial_step c h ≡ prints v t g → Comes t g out n l k → Comes c h (v ∷ out) n l k

  -- the elision takes more ticks than the limit
  pub record Passes (c : Control) (h : Stack) (limit : ℕ) : Type 0 where
    pub out : List ℤ
    pub used : ℕ
    pub last : Control
    pub held : Stack
    pub comes : Comes c h out used last held
    pub more : limit < used

  -- The end of the elision from a state with so many ticks. Where it is by a value, these are the words that are held
  -- at the end.
  abbrev pub EndsAs : Control → Stack → (limit : ℕ) → End → Stack → Type 0
  EndsAs c h limit (Done out v n) w = (t : Control) × Comes c h out n t w × (serial_step t w ≡ ends v) × (n ≤ limit)
  EndsAs c h limit (Trapped out k n) w =
      (t : Control) × (g : Stack) × Comes c h out n t g × (serial_step t g ≡ traps k) × (n ≤ limit)
  EndsAs c h limit Spent w = Passes c h limit

  -- the elision comes to a state that no rule has
  pub record GetsStuck (c : Control) (h : Stack) (limit : ℕ) : Type 0 where
    pub out : List ℤ
    pub used : ℕ
    pub last : Control
    pub held : Stack
    pub comes : Comes c h out used last held
    pub stops : serial_step last held ≡ stuck
    pub within : used ≤ limit
