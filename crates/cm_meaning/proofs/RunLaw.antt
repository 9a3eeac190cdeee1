-- Runs of the elision beside other words, and inside a caller's rest.
use Rattle.std.proofs.Common.{◌≡◌, ℕ, ◌≤◌, List, length, sym, ap, ◌∙◌, subst, arith}
use Rattle.std.specs.Prelude.{◌-◌, ℤ, ⊤}
use Rattle.cm_syntax.specs.declared.stmt.Program.{Program}
use Rattle.cm_syntax.specs.Label.{silent, ticks, prints, spawns, syncs, traps, ends, stuck}
use Rattle.cm_syntax.specs.Stack.{Stack, Destination, StackSum, IsUnder, empty_stack}
use Rattle.cm_syntax.specs.Rest.{Control}
use Rattle.cm_syntax.specs.Step.{Move, step, inside, frame_count}
use Rattle.cm_meaning.specs.Elision.{serial, here, quiet, tick, show}
use Rattle.cm_meaning.specs.Meaning.{serial_step, Comes}
use Rattle.cm_meaning.specs.Activation.{end_count, base, IsSettled}
use Rattle.cm_meaning.specs.Law.{IsBeside, IsInside, arrival, KeepsSettled, PartsStack}
use Rattle.cm_meaning.proofs.SumLaw.{under_more, under_nothing}
use Rattle.cm_meaning.proofs.BesideLaw.{beside}
use Rattle.cm_meaning.proofs.InsideLaw.{within}
use Rattle.cm_meaning.proofs.SettledLaw.{Moves, Keeps, good_law}

base_low : (c : Control) → base c ≤ frame_count c
base_low c = below (length c.calls) (end_count c.rest)
  where
    below : (a b : ℕ) → a - b ≤ a
    below a b = omega arith

pub first_settled : (main account : ℕ) → IsSettled (Rattle.cm_syntax.specs.Step.start_of main account) empty_stack
first_settled main account = record { shape = tt; enough = omega arith; below = under_nothing 0 }

module _ (program : Program) (page : ℕ) (input : List ℤ) where
  abbrev goes : Control → Stack → Move
  goes = serial_step program page input

  abbrev elided : Stack → Move → Move
  elided = serial Control Stack Destination (step program page input) inside

  abbrev Runs : Control → Stack → List ℤ → ℕ → Control → Stack → Type 0
  Runs = Comes program page input

  -- ---- inside
  inside_at : (x : Destination) (k c : Control) (h : Stack) (y : Move) → goes c h ≡ y → IsInside x k (arrival x k c h) y (goes (inside c x k) h)
  inside_at x k c h y e = subst (λ q. IsInside x k (arrival x k c h) q (goes (inside c x k) h)) e (within program page input x k c h)

  pub inside_run : (x : Destination) (k : Control) {c t : Control} {h g : Stack} {out : List ℤ} {n : ℕ} → Runs c h out n t g → Runs (inside c x k) h out n (inside t x k) g
  inside_run x k here = here
  inside_run x k {c = c} {h = h} (quiet e r) = quiet (inside_at x k c h _ e) (inside_run x k r)
  inside_run x k {c = c} {h = h} (tick e r) = tick (inside_at x k c h _ e) (inside_run x k r)
  inside_run x k {c = c} {h = h} (show e r) = show (inside_at x k c h _ e) (inside_run x k r)

  -- ---- settled states
  pub settled_step : (c : Control) (h : Stack) → IsSettled c h → KeepsSettled (goes c h)
  settled_step c h w = by (goes c h) (good_law program page input c h w).goes_
    where
      by : (x : Move) → Keeps IsSettled x → KeepsSettled x
      by (silent t g) f = f
      by (ticks t g) f = f
      by (prints v t g) f = f
      by (spawns call lent x t g) f = tt
      by (syncs t) f = tt
      by (traps k) f = tt
      by (ends v) f = tt
      by stuck f = tt

  pub parts_stack : (c : Control) (h : Stack) → IsSettled c h → PartsStack h (step program page input c h)
  parts_stack c h w = by (step program page input c h) (good_law program page input c h w).moves
    where
      by : (x : Move) → Moves c h x → PartsStack h x
      by (silent t g) m = tt
      by (ticks t g) m = tt
      by (prints v t g) m = tt
      by (spawns call lent x t g) m = m.5
      by (syncs t) m = tt
      by (traps k) m = tt
      by (ends v) m = tt
      by stuck m = tt

  settled_at : (c : Control) (h : Stack) (x : Move) → goes c h ≡ x → IsSettled c h → KeepsSettled x
  settled_at c h x e w = subst KeepsSettled e (settled_step c h w)

  -- ---- beside
  abbrev Along : Stack → Control → Move → Move → Type 0
  Along b c (silent t g) y = (k : Stack) × (y ≡ silent t k) × StackSum g b k × (base t ≡ base c)
  Along b c (ticks t g) y = (k : Stack) × (y ≡ ticks t k) × StackSum g b k × (base t ≡ base c)
  Along b c (prints v t g) y = (k : Stack) × (y ≡ prints v t k) × StackSum g b k × (base t ≡ base c)
  Along b c _ y = ⊤

  along : (c : Control) (h b u : Stack) → IsSettled c h → StackSum h b u → IsUnder (base c) b → Along b c (goes c h) (goes c u)
  along c h b u w s d = by (step program page input c h) (step program page input c u) (good_law program page input c h w).moves (beside program page input h b u s c (under_more (base_low c) d))
    where
      higher : (t : Control) → base t ≡ base c → IsUnder (frame_count t) b
      higher t e = under_more (let q = base_low t in omega (arith, q, e)) d

      by : (x y : Move) → Moves c h x → IsBeside b x y → Along b c (elided h x) (elided u y)
      by (silent t g) y m f = let r = f (higher t m.1) in (r.0, ap (elided u) r.1, r.2, m.1)
      by (ticks t g) y m f = let r = f (higher t m.1) in (r.0, ap (elided u) r.1, r.2, m.1)
      by (prints v t g) y m f = let r = f (higher t m.1) in (r.0, ap (elided u) r.1, r.2, m.1)
      by (spawns call lent x t g) y m f = (u, ap (elided u) f.2, s, m.4 ∙ m.2)
      by (syncs t) y m f = (u, ap (elided u) f, s, m.2)
      by (traps k) y m f = tt
      by (ends v) y m f = tt
      by stuck y m f = tt

  along_at : (x y z : Move) (b : Stack) (c : Control) → x ≡ y → Along b c x z → Along b c y z
  along_at x y z b c e h = subst (λ q. Along b c q z) e h

  pub beside_run : {c t : Control} {h g : Stack} {out : List ℤ} {n : ℕ} → Runs c h out n t g → (b u : Stack) → IsSettled c h → StackSum h b u → IsUnder (base c) b → (k : Stack) × Runs c u out n t k × StackSum g b k
  beside_run here b u w s d = (u, here, s)
  beside_run {c = c} {h = h} (quiet e r) b u w s d =
      let a = along_at _ _ (goes c u) b c e (along c h b u w s d) in
      let q = beside_run r b a.0 (settled_at c h _ e w) a.2 (subst (λ z. IsUnder z b) (sym a.3) d) in
      (q.0, quiet a.1 q.1, q.2)
  beside_run {c = c} {h = h} (tick e r) b u w s d =
      let a = along_at _ _ (goes c u) b c e (along c h b u w s d) in
      let q = beside_run r b a.0 (settled_at c h _ e w) a.2 (subst (λ z. IsUnder z b) (sym a.3) d) in
      (q.0, tick a.1 q.1, q.2)
  beside_run {c = c} {h = h} (show e r) b u w s d =
      let a = along_at _ _ (goes c u) b c e (along c h b u w s d) in
      let q = beside_run r b a.0 (settled_at c h _ e w) a.2 (subst (λ z. IsUnder z b) (sym a.3) d) in
      (q.0, show a.1 q.1, q.2)
