-- What a spawned child comes to: its run stays formed, alone and before its continuation, so its value is a word, which is
-- there where it has a destination.
use Rattle.std.proofs.Common.{◌≡◌, ℕ, suc, ◌≤◌, List, [], ◌∷◌, ◌++◌, length, Option, None, Some, refl, sym, ap, subst, arith}
use Rattle.std.specs.Prelude.{◌-◌, ℤ, ⊤, FitsSigned}
use Rattle.std.specs.Int.{w32}
use Rattle.cm_syntax.specs.declared.stmt.Program.{Program}
use Rattle.cm_syntax.specs.Label.{silent, ticks, prints, spawns, syncs, traps, ends, stuck}
use Rattle.cm_syntax.specs.Stack.{Stack, Destination, Scalar, IsUnder}
use Rattle.cm_syntax.specs.Rest.{Item, deliver, Hand, returned, Control}
use Rattle.cm_syntax.specs.Step.{Move, step, depth, inside}
use Rattle.cm_meaning.specs.End.{Done}
use Rattle.cm_meaning.specs.Elision.{serial, here, quiet, tick, show}
use Rattle.cm_meaning.specs.Activation.{end_count}
use Rattle.cm_meaning.specs.Law.{HoldsDestination}
use Rattle.cm_meaning.specs.Meaning.{Ask, Fork, begun, Comes, serial_step}
use Rattle.cm_meaning.proofs.SumLaw.{under_more}
use Rattle.cm_meaning.proofs.SettledLaw.{Moves, IsSpawned, good_law}
use Rattle.cm_meaning.proofs.AboveLaw.{IsAbove, IsLevel}
use Rattle.cm_meaning.proofs.ReturnLaw.{end_is, above_run, ended_by}
use Rattle.cm_meaning.proofs.RunLaw.{inside_run, beside_run}
use Rattle.cm_meaning.proofs.ForkMeaning.{fork_means}
use Rattle.cm_gen.specs.Formed.{Runs, HandFits, Formed, KeepsFormed}
use Rattle.cm_gen.specs.Spawn.{ComesFromSpawn}
use Rattle.cm_gen.proofs.states.FormedLaw.{step_keeps}
use Rattle.cm_gen.proofs.states.PartLaw.{StackFits}

module _ (program : Program) (page limit : ℕ) (input : List ℤ) (runs : Runs program page limit input) where
  abbrev stepped : Control → Stack → Move
  stepped = step program page input

  abbrev IsFormed : Control → Stack → Type 0
  IsFormed = Formed program page limit

  -- ---- runs of the elision

  -- the state that a step of the elision leads to is formed
  abbrev KeepsSerial : Move → Type 0
  KeepsSerial (silent t g) = IsFormed t g
  KeepsSerial (ticks t g) = IsFormed t g
  KeepsSerial (prints v t g) = IsFormed t g
  KeepsSerial _ = ⊤

  elided_keeps : (h : Stack) (m : Move) → KeepsFormed program page limit h m → KeepsSerial (serial Control Stack Destination stepped inside h m)
  elided_keeps h (silent t g) f = f
  elided_keeps h (ticks t g) f = f
  elided_keeps h (prints v t g) f = f
  elided_keeps h (spawns call lent x t g) f = f.2
  elided_keeps h (syncs t) f = f
  elided_keeps h (traps k) f = tt
  elided_keeps h (ends v) f = tt
  elided_keeps h stuck f = tt

  serial_keeps : (c : Control) (h : Stack) (m : Move) → serial_step program page input c h ≡ m → IsFormed c h → KeepsSerial m
  serial_keeps c h m e x = subst KeepsSerial e (elided_keeps h (stepped c h) (step_keeps program page limit input runs c h x))

  -- the elision of a formed state stays formed
  pub run_formed : {c t : Control} {h g : Stack} {out : List ℤ} {n : ℕ} → Comes program page input c h out n t g → IsFormed c h → IsFormed t g
  run_formed here x = x
  run_formed {c = c} {h = h} (quiet e r) x = run_formed r (serial_keeps c h _ e x)
  run_formed {c = c} {h = h} (tick e r) x = run_formed r (serial_keeps c h _ e x)
  run_formed {c = c} {h = h} (show e r) x = run_formed r (serial_keeps c h _ e x)

  -- ---- spawns

  alone_frame : (calls rest d : ℕ) → calls - rest ≡ suc d → rest ≡ 0 → suc d ≡ calls
  alone_frame calls rest d e z = omega (arith, e, z)

  no_less : (calls rest : ℕ) → rest ≡ 0 → calls ≤ calls - rest
  no_less calls rest z = omega (arith, z)

  -- a child of a formed state
  pub spawned : {c t call : Control} {h g lent : Stack} {x : Destination} → IsFormed c h → stepped c h ≡ spawns call lent x t g → (start : ℕ)
      → ComesFromSpawn program page limit input (depth c) x (record { start = start; call = call; lent = lent })
  spawned {c = c} {t = t} {call = call} {h = h} {g = g} {lent = lent} {x = x} f e start =
      let k = subst (KeepsFormed program page limit h) e (step_keeps program page limit input runs c h f) in
      let good = good_law program page input c h f.settled in
      let p = subst IsSpawned e good.parts in
      let m = subst (Moves c h) e good.moves in
      record {
        spawning = c;
        continuation = t;
        kept = g;
        held = h;
        formed = f;
        spawned = e;
        child = k.0;
        later = k.1;
        whole = k.2;
        parts = m.5;
        alone = p.1;
        waits = p.0;
        calls = p.2;
        account = p.3;
        frame = alone_frame (length call.calls) (end_count call.rest) (depth c) m.3 (ap end_count p.1);
        lends = subst (λ calls. HoldsDestination x (length calls) lent) (sym p.2) p.4;
      }

  -- ---- ends

  -- the words of an end by a value
  pub words_fit : {ask : Ask} → IsFormed ask.call ask.lent → {out : List ℤ} {v : Option ℤ} {n : ℕ} {w : Stack} → Fork program page input (begun ask) (Done out v n) w → StackFits w
  words_fit {ask = ask} x {out = out} {v = v} {n = n} {w = w} f = (run_formed (fork_means program page input ask (Done out v n) w x.settled f).1 x).small

  -- What the last state of a child is, alone and before its continuation.
  pub record Ended {d : ℕ} {x : Destination} {ask : Ask} (s : ComesFromSpawn program page limit input d x ask) (v : Option ℤ) (w : Stack) : Type 0 where
    pub last : Control
    pub beside : Stack
    pub formed : IsFormed last w
    pub before : IsFormed (inside last x s.continuation) beside
    pub at_end : (last.hand ≡ returned v) × (last.rest ≡ [])
    pub lends : HoldsDestination x (length s.continuation.calls) w

  pub child_ends : {d : ℕ} {x : Destination} {ask : Ask} (s : ComesFromSpawn program page limit input d x ask) {out : List ℤ} {v : Option ℤ} {n : ℕ} {w : Stack}
      → Fork program page input (begun ask) (Done out v n) w → Ended s v w
  child_ends {x = x} {ask = ask} s {out = out} {v = v} {n = n} {w = w} f =
      let ran = fork_means program page input ask (Done out v n) w s.child.settled f in
      let low = under_more (no_less (length ask.call.calls) (end_count ask.call.rest) (ap end_count s.alone)) (subst (λ calls. IsUnder (length calls) s.kept) (sym s.calls) s.later.settled.below) in
      let more = beside_run program page input ran.1 s.kept s.held s.child.settled s.parts low in
      let first : IsAbove program page input x s.continuation ask.call ask.lent = record {
        idle_ = s.waits;
        level = subst (λ k. IsLevel program page input x s.continuation k ask.call.calls ask.call.account) (sym s.alone) (s.calls, s.account);
        holds_ = subst (λ calls. HoldsDestination x (length calls) ask.lent) s.calls s.lends;
      } in
      let above = above_run program page input x s.continuation ran.1 first in
      record {
        last = ran.0;
        beside = more.0;
        formed = run_formed ran.1 s.child;
        before = run_formed (inside_run program page input x s.continuation more.1) s.whole;
        at_end = end_is program page input x s.continuation ran.0 w v above (ended_by program page input x s.continuation w (stepped ran.0 w) ran.2);
        lends = above.holds_;
      }

  -- what is at hand at the end, before what follows
  hand_ends : (z : Hand) (k more : List Item) (v : Option ℤ) → z ≡ returned v → k ≡ [] → HandFits program page z (k ++ more) → HandFits program page (returned v) more
  hand_ends z k more v e r f = subst (λ k. HandFits program page (returned v) (k ++ more)) r (subst (λ z. HandFits program page z (k ++ more)) e f)

  -- its value is a word
  pub value_fits : {d : ℕ} {x : Destination} {ask : Ask} (s : ComesFromSpawn program page limit input d x ask) {u : ℤ} {w : Stack} → Ended s (Some u) w → FitsSigned w32 u
  value_fits {x = x} s {u = u} e = hand_ends e.last.hand e.last.rest (deliver x ∷ s.continuation.rest) (Some u) e.at_end.0 e.at_end.1 e.before.hand_fits

  -- and it has one where it has a destination
  pub gives_value : {d : ℕ} {x : Scalar} {ask : Ask} (s : ComesFromSpawn program page limit input d (Some x) ask) {v : Option ℤ} {w : Stack} → Ended s v w → (u : ℤ) × (v ≡ Some u) × FitsSigned w32 u
  gives_value {x = x} s {v = v} e = by v (hand_ends e.last.hand e.last.rest (deliver (Some x) ∷ s.continuation.rest) v e.at_end.0 e.at_end.1 e.before.hand_fits)
    where
      by : (v : Option ℤ) → HandFits program page (returned v) (deliver (Some x) ∷ s.continuation.rest) → (u : ℤ) × (v ≡ Some u) × FitsSigned w32 u
      by None f = absurd f
      by (Some u) f = (u, refl, f)
