-- A run of the elision that is computed is one.
use Rattle.std.proofs.Common.{◌≡◌, ℕ, zero, suc, ◌<◌, ◌≤◌, List, [], ◌∷◌, Option, refl, ap, subst}
use Rattle.std.specs.Prelude.{ℤ}
use Rattle.cm_syntax.specs.declared.stmt.Program.{Program}
use Rattle.cm_syntax.specs.Trap.{Trap}
use Rattle.cm_syntax.specs.Label.{silent, ticks, prints, spawns, syncs, traps, ends, stuck}
use Rattle.cm_syntax.specs.Stack.{Stack, Destination, empty_stack}
use Rattle.cm_syntax.specs.Rest.{Control}
use Rattle.cm_syntax.specs.Step.{Move, step, inside}
use Rattle.cm_meaning.specs.End.{Done, Trapped, Spent}
use Rattle.cm_meaning.specs.Elision.{serial, here, quiet, tick, show}
use Rattle.cm_meaning.specs.Meaning.{Limits, serial_step, Comes, GetsStuck, SerialEnd, first_control}

-- what a run of some steps comes to
pub data Last : Type 0 where
  at_ : List ℤ → ℕ → Last
  value : List ℤ → Option ℤ → ℕ → Last
  trap : List ℤ → Trap → ℕ → Last
  halted : List ℤ → ℕ → Last

abbrev pub used : Last → ℕ
used (at_ out n) = n
used (value out v n) = n
used (trap out k n) = n
used (halted out n) = n

abbrev pub one_tick : Last → Last
one_tick (at_ out n) = at_ out (suc n)
one_tick (value out v n) = value out v (suc n)
one_tick (trap out k n) = trap out k (suc n)
one_tick (halted out n) = halted out (suc n)

abbrev pub one_number : ℤ → Last → Last
one_number v (at_ out n) = at_ (v ∷ out) n
one_number v (value out w n) = value (v ∷ out) w n
one_number v (trap out k n) = trap (v ∷ out) k n
one_number v (halted out n) = halted (v ∷ out) n

module _ (program : Program) (page : ℕ) (input : List ℤ) where
  abbrev run_on : (Control → Stack → Last) → Move → Last
  run_on go (silent t g) = go t g
  run_on go (ticks t g) = one_tick (go t g)
  run_on go (prints v t g) = one_number v (go t g)
  run_on go (traps k) = trap [] k 0
  run_on go (ends v) = value [] v 0
  run_on go _ = halted [] 0

  abbrev pub run : (steps : ℕ) → Control → Stack → Last
  run zero c h = at_ [] 0
  run (suc s) c h = run_on (run s) (serial_step program page input c h)

  -- as the elision takes a step
  abbrev elided : Stack → Move → Move
  elided = serial Control Stack Destination (step program page input) inside

  -- the run that a computed one stands for
  abbrev Is : Last → Control → Stack → Type 0
  Is (at_ out n) c h = (t : Control) × (g : Stack) × Comes program page input c h out n t g
  Is (value out v n) c h = (t : Control) × (g : Stack) × Comes program page input c h out n t g × (serial_step program page input t g ≡ ends v)
  Is (trap out k n) c h = (t : Control) × (g : Stack) × Comes program page input c h out n t g × (serial_step program page input t g ≡ traps k)
  Is (halted out n) c h = (t : Control) × (g : Stack) × Comes program page input c h out n t g × (serial_step program page input t g ≡ stuck)

  after_quiet : (l : Last) (c : Control) (h : Stack) {t : Control} {g : Stack} → serial_step program page input c h ≡ silent t g → Is l t g → Is l c h
  after_quiet (at_ out n) c h e i = (i.0, i.1, quiet e i.2)
  after_quiet (value out v n) c h e i = (i.0, i.1, quiet e i.2, i.3)
  after_quiet (trap out k n) c h e i = (i.0, i.1, quiet e i.2, i.3)
  after_quiet (halted out n) c h e i = (i.0, i.1, quiet e i.2, i.3)

  after_tick : (l : Last) (c : Control) (h : Stack) {t : Control} {g : Stack} → serial_step program page input c h ≡ ticks t g → Is l t g → Is (one_tick l) c h
  after_tick (at_ out n) c h e i = (i.0, i.1, tick e i.2)
  after_tick (value out v n) c h e i = (i.0, i.1, tick e i.2, i.3)
  after_tick (trap out k n) c h e i = (i.0, i.1, tick e i.2, i.3)
  after_tick (halted out n) c h e i = (i.0, i.1, tick e i.2, i.3)

  after_print : (l : Last) (c : Control) (h : Stack) {v : ℤ} {t : Control} {g : Stack} → serial_step program page input c h ≡ prints v t g → Is l t g → Is (one_number v l) c h
  after_print (at_ out n) c h e i = (i.0, i.1, show e i.2)
  after_print (value out v n) c h e i = (i.0, i.1, show e i.2, i.3)
  after_print (trap out k n) c h e i = (i.0, i.1, show e i.2, i.3)
  after_print (halted out n) c h e i = (i.0, i.1, show e i.2, i.3)

  run_on_is : (go : Control → Stack → Last) → ((c : Control) (h : Stack) → Is (go c h) c h) → (c : Control) (h : Stack) → Is (run_on go (serial_step program page input c h)) c h
  run_on_is go is c h = by (step program page input c h) refl
    where
      by : (x : Move) → step program page input c h ≡ x → Is (run_on go (elided h (step program page input c h))) c h
      by (silent t g) e = rw e (after_quiet (go t g) c h (ap (elided h) e) (is t g))
      by (ticks t g) e = rw e (after_tick (go t g) c h (ap (elided h) e) (is t g))
      by (prints v t g) e = rw e (after_print (go t g) c h (ap (elided h) e) (is t g))
      by (spawns call l x t g) e = rw e (after_quiet (go (inside call x t) h) c h (ap (elided h) e) (is (inside call x t) h))
      by (syncs t) e = rw e (after_quiet (go t h) c h (ap (elided h) e) (is t h))
      by (traps k) e = rw e (c, h, here, ap (elided h) e)
      by (ends v) e = rw e (c, h, here, ap (elided h) e)
      by stuck e = rw e (c, h, here, ap (elided h) e)

  pub run_is : (s : ℕ) (c : Control) (h : Stack) → Is (run s c h) c h
  run_is zero c h = (c, h, here)
  run_is (suc s) c h = run_on_is (run s) (run_is s) c h

module _ (program : Program) (input : List ℤ) (limits : Limits) where
  abbrev runs : (steps : ℕ) → Last
  runs s = run program limits.page input s (first_control program limits) empty_stack

  abbrev Is_ : Last → Type 0
  Is_ l = Is program limits.page input l (first_control program limits) empty_stack

  at_last : (s : ℕ) (l : Last) → runs s ≡ l → Is_ l
  at_last s l e = subst (λ z. Is_ z) e (run_is program limits.page input s (first_control program limits) empty_stack)

  -- within the ticks
  pub done : (s : ℕ) {out : List ℤ} {v : Option ℤ} {n : ℕ} → runs s ≡ value out v n → n ≤ limits.ticks → SerialEnd program input limits (Done out v n)
  done s e l = let i = at_last s _ e in (i.1, (i.0, i.2, i.3, l))

  pub trapped : (s : ℕ) {out : List ℤ} {k : Trap} {n : ℕ} → runs s ≡ trap out k n → n ≤ limits.ticks → SerialEnd program input limits (Trapped out k n)
  trapped s e l = let i = at_last s _ e in (i.1, (i.0, i.1, i.2, i.3, l))

  -- a run that takes more ticks
  pub spent : (s : ℕ) → limits.ticks < used (runs s) → SerialEnd program input limits Spent
  spent s m = by (runs s) (at_last s (runs s) refl) m
    where
      by : (l : Last) → Is_ l → limits.ticks < used l → SerialEnd program input limits Spent
      by (at_ out n) i m = (i.1, record { out = out; used = n; last = i.0; held = i.1; comes = i.2; more = m })
      by (value out v n) i m = (i.1, record { out = out; used = n; last = i.0; held = i.1; comes = i.2; more = m })
      by (trap out k n) i m = (i.1, record { out = out; used = n; last = i.0; held = i.1; comes = i.2; more = m })
      by (halted out n) i m = (i.1, record { out = out; used = n; last = i.0; held = i.1; comes = i.2; more = m })

  pub gets_stuck : (s : ℕ) {out : List ℤ} {n : ℕ} → runs s ≡ halted out n → n ≤ limits.ticks → GetsStuck program limits.page input (first_control program limits) empty_stack limits.ticks
  gets_stuck s e m = let i = at_last s _ e in record { out = _; used = _; last = i.0; held = i.1; comes = i.2; stops = i.3; within = m }
