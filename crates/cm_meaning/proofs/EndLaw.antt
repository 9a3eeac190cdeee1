-- The serial elision has one end: its runs begin alike, and a weight that falls leads to the next tick.
use Rattle.std.proofs.Common.{◌≡◌, ℕ, zero, suc, ◌+◌, ◌<◌, ◌≤◌, List, [], ◌∷◌, ◌++◌, Option, refl, sym, ap, ◌∙◌, subst, arith, inl, inr}
use Rattle.std.specs.Prelude.{◌⊎◌, ℤ, ⊤}
use Rattle.cm_syntax.specs.Label.{Step, silent, ticks, prints, spawns, syncs, traps, ends, stuck}
use Rattle.cm_meaning.specs.End.{End, Done, Trapped, Spent}
use Rattle.cm_meaning.specs.Elision.{serial, serial_step, Comes, here, quiet, tick, show, EndsAs, GetsStuck}

module _ (Control Stack Destination : Type 0) (step : Control → Stack → Step Control Stack Destination) (inside : Control → Destination → Control → Control) where
  abbrev Move : Type 0
  Move = Step Control Stack Destination

  abbrev goes : Control → Stack → Move
  goes = serial_step Control Stack Destination step inside

  abbrev Runs : Control → Stack → List ℤ → ℕ → Control → Stack → Type 0
  Runs = Comes Control Stack Destination step inside

  abbrev Ends : Control → Stack → ℕ → End → Stack → Type 0
  Ends = EndsAs Control Stack Destination step inside

  abbrev IsStuck : Control → Stack → ℕ → Type 0
  IsStuck = GetsStuck Control Stack Destination step inside

  -- ---- there is one end
  abbrev pub Halting : Move → Type 0
  Halting (ends v) = ⊤
  Halting (traps k) = ⊤
  Halting _ = ⊥

  -- each run is a beginning of the run that halts
  pub record Prefix (t : Control) (g : Stack) (o : List ℤ) (n : ℕ) (l : Control) (k : Stack) (p : List ℤ) (m : ℕ) : Type 0 where
    pub more : List ℤ
    pub count : ℕ
    pub runs : Runs l k more count t g
    pub outs : o ≡ p ++ more
    pub sums : n ≡ m + count

  halting_at : (c : Control) (h : Stack) (y : Move) → goes c h ≡ y → Halting (goes c h) → Halting y
  halting_at c h y e = subst (λ z. Halting z) e

  abbrev pub Alike : Move → Move → Type 0
  Alike (silent c h) (silent t g) = (c ≡ t) × (h ≡ g)
  Alike (ticks c h) (ticks t g) = (c ≡ t) × (h ≡ g)
  Alike (prints v c h) (prints w t g) = (v ≡ w) × (c ≡ t) × (h ≡ g)
  Alike (traps k) (traps l) = k ≡ l
  Alike (ends v) (ends w) = v ≡ w
  Alike (spawns call lent x t g) _ = ⊤
  Alike (syncs t) _ = ⊤
  Alike stuck _ = ⊤
  Alike _ _ = ⊥

  pub alike : (x y : Move) → x ≡ y → Alike x y
  alike x y e = subst (λ z. Alike x z) e (itself x)
    where
      itself : (x : Move) → Alike x x
      itself (silent c h) = (refl, refl)
      itself (ticks c h) = (refl, refl)
      itself (prints v c h) = (refl, refl, refl)
      itself (traps k) = refl
      itself (ends v) = refl
      itself (spawns call lent x t g) = tt
      itself (syncs t) = tt
      itself stuck = tt

  both : (m x y : Move) → m ≡ x → m ≡ y → Alike x y
  both m x y e f = alike x y (sym e ∙ f)

  moved : {c t l : Control} {h g k : Stack} {o : List ℤ} {n : ℕ} → c ≡ t → h ≡ g → Runs c h o n l k → Runs t g o n l k
  moved {c = c} {t = t} {l = l} {h = h} {g = g} {k = k} {o = o} {n = n} e f r = subst (λ z. Runs z g o n l k) e (subst (λ z. Runs c z o n l k) f r)

  -- what is left of a run behind its first step
  abbrev pub Onward : Move → Control → Stack → Type 0
  Onward (silent c h) t g = (o : List ℤ) × (n : ℕ) × Runs c h o n t g
  Onward (ticks c h) t g = (o : List ℤ) × (n : ℕ) × Runs c h o n t g
  Onward (prints v c h) t g = (o : List ℤ) × (n : ℕ) × Runs c h o n t g
  Onward _ t g = ⊥

  onward_of : (m x y : Move) (t : Control) (g : Stack) → m ≡ x → m ≡ y → Onward y t g → Onward x t g
  onward_of m x y t g e f = subst (λ z. Onward z t g) (sym f ∙ e)

  pub onward : {c t : Control} {h g : Stack} {o : List ℤ} {n : ℕ} (x : Move) → goes c h ≡ x → Runs c h o n t g → (t ≡ c) ⊎ Onward x t g
  onward x e here = inl refl
  onward {t = t} {g = g} {o = o} {n = n} x e (quiet f r) = inr (onward_of _ x _ t g e f (o, n, r))
  onward {t = t} {g = g} x e (tick f r) = inr (onward_of _ x _ t g e f (_, _, r))
  onward {t = t} {g = g} x e (show f r) = inr (onward_of _ x _ t g e f (_, _, r))

  pub prefix : {c t l : Control} {h g k : Stack} {o p : List ℤ} {n m : ℕ} → Runs c h o n t g → Halting (goes t g) → Runs c h p m l k → Prefix t g o n l k p m
  prefix {o = o} {n = n} r z here = record { more = o; count = n; runs = r; outs = refl; sums = omega arith }
  prefix here z (quiet e q) = absurd (halting_at _ _ _ e z)
  prefix here z (tick e q) = absurd (halting_at _ _ _ e z)
  prefix here z (show e q) = absurd (halting_at _ _ _ e z)
  prefix (quiet e r) z (quiet f q) = let s = both _ _ _ f e in prefix r z (moved s.0 s.1 q)
  prefix (tick e r) z (tick f q) = let s = both _ _ _ f e in let y = prefix r z (moved s.0 s.1 q) in record { more = y.more; count = y.count; runs = y.runs; outs = y.outs; sums = omega (arith, y.sums) }
  prefix (show {v = v} {out = out} e r) z (show {v = w} {out = pp} f q) = let s = both _ _ _ f e in let y = prefix r z (moved s.1 s.2 q) in record { more = y.more; count = y.count; runs = y.runs; outs = ap (λ a. v ∷ a) y.outs ∙ ap (λ a. a ∷ (pp ++ y.more)) (sym s.0); sums = y.sums }
  prefix (quiet e r) z (tick f q) = absurd (both _ _ _ e f)
  prefix (quiet e r) z (show f q) = absurd (both _ _ _ e f)
  prefix (tick e r) z (quiet f q) = absurd (both _ _ _ e f)
  prefix (tick e r) z (show f q) = absurd (both _ _ _ e f)
  prefix (show e r) z (quiet f q) = absurd (both _ _ _ e f)
  prefix (show e r) z (tick f q) = absurd (both _ _ _ e f)

  halted : {t l : Control} {g k : Stack} {o : List ℤ} {n : ℕ} → Runs t g o n l k → Halting (goes t g) → (o ≡ []) × (n ≡ 0) × (t ≡ l) × (g ≡ k)
  halted here z = (refl, refl, refl, refl)
  halted (quiet e q) z = absurd (halting_at _ _ _ e z)
  halted (tick e q) z = absurd (halting_at _ _ _ e z)
  halted (show e q) z = absurd (halting_at _ _ _ e z)

  no_more : (l : List ℤ) → l ++ [] ≡ l
  no_more [] = refl
  no_more (v ∷ l) = ap (λ z. v ∷ z) (no_more l)

  pub halts_by : (m y : Move) → m ≡ y → Halting y → Halting m
  halts_by m y e z = subst (λ q. Halting q) (sym e) z

  -- two runs of one call that halt are the same
  pub one_halt : {c t l : Control} {h g k : Stack} {o p : List ℤ} {n m : ℕ} → Runs c h o n t g → Halting (goes t g) → Runs c h p m l k → Halting (goes l k) → (o ≡ p) × (n ≡ m) × (l ≡ t) × (k ≡ g)
  one_halt {p = p} r z q y =
      let x = prefix r z q in
      let s = halted x.runs y in
      (x.outs ∙ ap (λ a. p ++ a) s.0 ∙ no_more p, (let a = x.sums in let b = s.1 in omega (arith, a, b)), s.2, s.3)

  pub same_goes : {t l : Control} {g k : Stack} → l ≡ t → k ≡ g → goes l k ≡ goes t g
  same_goes p q i = goes (p i) (q i)

  pub too_many : {c t l : Control} {h g k : Stack} {o p : List ℤ} {n m limit : ℕ} → Runs c h o n t g → Halting (goes t g) → n ≤ limit → Runs c h p m l k → limit < m → ⊥
  too_many r z l q s = let x = (prefix r z q).sums in omega (arith, x, l, s)

  pub one_end : (c : Control) (h : Stack) (limit : ℕ) (d e : End) (v w : Stack) → Ends c h limit d v → Ends c h limit e w → d ≡ e
  one_end c h limit (Done o v n) (Done p u m) _ _ x y =
      let s = one_halt x.1 (halts_by _ _ x.2 tt) y.1 (halts_by _ _ y.2 tt) in
      let f : v ≡ u = alike (ends v) (ends u) (sym x.2 ∙ sym (same_goes s.2 s.3) ∙ y.2) in λ i. Done (s.0 i) (f i) (s.1 i)
  one_end c h limit (Done o v n) (Trapped p k m) _ _ x y =
      let s = one_halt x.1 (halts_by _ _ x.2 tt) y.2 (halts_by _ _ y.3 tt) in
      absurd (alike (ends v) (traps k) (sym x.2 ∙ sym (same_goes s.2 s.3) ∙ y.3))
  one_end c h limit (Done o v n) Spent _ _ x y = absurd (too_many x.1 (halts_by _ _ x.2 tt) x.3 y.comes y.more)
  one_end c h limit (Trapped o k n) (Done p u m) _ _ x y =
      let s = one_halt x.2 (halts_by _ _ x.3 tt) y.1 (halts_by _ _ y.2 tt) in
      absurd (alike (traps k) (ends u) (sym x.3 ∙ sym (same_goes s.2 s.3) ∙ y.2))
  one_end c h limit (Trapped o k n) (Trapped p l m) _ _ x y =
      let s = one_halt x.2 (halts_by _ _ x.3 tt) y.2 (halts_by _ _ y.3 tt) in
      let f : k ≡ l = alike (traps k) (traps l) (sym x.3 ∙ sym (same_goes s.2 s.3) ∙ y.3) in λ i. Trapped (s.0 i) (f i) (s.1 i)
  one_end c h limit (Trapped o k n) Spent _ _ x y = absurd (too_many x.2 (halts_by _ _ x.3 tt) x.4 y.comes y.more)
  one_end c h limit Spent (Done p u m) _ _ x y = absurd (too_many y.1 (halts_by _ _ y.2 tt) y.3 x.comes x.more)
  one_end c h limit Spent (Trapped p k m) _ _ x y = absurd (too_many y.2 (halts_by _ _ y.3 tt) y.4 x.comes x.more)
  one_end c h limit Spent Spent _ _ x y = refl

  -- the words that are held at the end are the same, too
  pub one_stack : (c : Control) (h : Stack) (limit : ℕ) (out : List ℤ) (u : Option ℤ) (n : ℕ) (v w : Stack) → Ends c h limit (Done out u n) v → Ends c h limit (Done out u n) w → v ≡ w
  one_stack c h limit out u n v w x y = sym (one_halt x.1 (halts_by _ _ x.2 tt) y.1 (halts_by _ _ y.2 tt)).3

  -- ---- there is an end
  -- an end, or a state that no rule has
  abbrev Ended : Control → Stack → ℕ → Type 0
  Ended c h limit = ((e : End) × (w : Stack) × Ends c h limit e w) ⊎ IsStuck c h limit

  after_quiet : (c : Control) (h : Stack) {t : Control} {g : Stack} (limit : ℕ) → goes c h ≡ silent t g → Ended t g limit → Ended c h limit
  after_quiet c h limit e (inl (Done out v n, w, x)) = inl (Done out v n, w, (x.0, quiet e x.1, x.2, x.3))
  after_quiet c h limit e (inl (Trapped out k n, w, x)) = inl (Trapped out k n, w, (x.0, x.1, quiet e x.2, x.3, x.4))
  after_quiet c h limit e (inl (Spent, w, x)) = inl (Spent, w, record { out = x.out; used = x.used; last = x.last; held = x.held; comes = quiet e x.comes; more = x.more })
  after_quiet c h limit e (inr x) = inr (record { out = x.out; used = x.used; last = x.last; held = x.held; comes = quiet e x.comes; stops = x.stops; within = x.within })

  after_print : (c : Control) (h : Stack) {v : ℤ} {t : Control} {g : Stack} (limit : ℕ) → goes c h ≡ prints v t g → Ended t g limit → Ended c h limit
  after_print c h {v = u} limit e (inl (Done out v n, w, x)) = inl (Done (u ∷ out) v n, w, (x.0, show e x.1, x.2, x.3))
  after_print c h {v = u} limit e (inl (Trapped out k n, w, x)) = inl (Trapped (u ∷ out) k n, w, (x.0, x.1, show e x.2, x.3, x.4))
  after_print c h {v = u} limit e (inl (Spent, w, x)) = inl (Spent, w, record { out = u ∷ x.out; used = x.used; last = x.last; held = x.held; comes = show e x.comes; more = x.more })
  after_print c h {v = u} limit e (inr x) = inr (record { out = u ∷ x.out; used = x.used; last = x.last; held = x.held; comes = show e x.comes; stops = x.stops; within = x.within })

  after_tick : (c : Control) (h : Stack) {t : Control} {g : Stack} (limit : ℕ) → goes c h ≡ ticks t g → Ended t g limit → Ended c h (suc limit)
  after_tick c h limit e (inl (Done out v n, w, x)) = inl (Done out v (suc n), w, (x.0, tick e x.1, x.2, (let a = x.3 in omega (arith, a))))
  after_tick c h limit e (inl (Trapped out k n, w, x)) = inl (Trapped out k (suc n), w, (x.0, x.1, tick e x.2, x.3, (let a = x.4 in omega (arith, a))))
  after_tick c h limit e (inl (Spent, w, x)) = inl (Spent, w, record { out = x.out; used = suc x.used; last = x.last; held = x.held; comes = tick e x.comes; more = (let a = x.more in omega (arith, a)) })
  after_tick c h limit e (inr x) = inr (record { out = x.out; used = suc x.used; last = x.last; held = x.held; comes = tick e x.comes; stops = x.stops; within = (let a = x.within in omega (arith, a)) })

  none_left : (c : Control) (h : Stack) {t : Control} {g : Stack} → goes c h ≡ ticks t g → Ended c h 0
  none_left c h {t = t} {g = g} e = inl (Spent, h, record { out = []; used = 1; last = t; held = g; comes = tick e here; more = omega arith })

  abbrev pub Lowers : (weight : Control → ℕ) → Control → Move → Type 0
  Lowers weight c (silent t g) = weight t < weight c
  Lowers weight c (prints v t g) = weight t < weight c
  Lowers weight c (spawns call lent x t g) = weight (inside call x t) < weight c
  Lowers weight c (syncs t) = weight t < weight c
  Lowers weight c _ = ⊤

  module _ (weight : Control → ℕ) (lowers : (c : Control) (h : Stack) → Lowers weight c (step c h)) where
    less : (a b c : ℕ) → a < b → b < suc c → a < c
    less a b c l m = omega (arith, l, m)

    no_weight : (a : ℕ) → a < 0 → ⊥
    no_weight a l = omega (arith, l)

    -- up to the next tick, by the weight
    inner : (limit : ℕ) → ((c : Control) (h : Stack) (t : Control) (g : Stack) → goes c h ≡ ticks t g → Ended c h limit) → (bound : ℕ) (c : Control) (h : Stack) → weight c < bound → Ended c h limit
    inner limit ticked zero c h l = absurd (no_weight (weight c) l)
    inner limit ticked (suc bound) c h l = by (step c h) refl (lowers c h) (inner limit ticked bound)
      where
        by : (x : Move) → step c h ≡ x → Lowers weight c x → ((t : Control) (g : Stack) → weight t < bound → Ended t g limit) → Ended c h limit
        by (silent t g) e f go = after_quiet c h limit (ap (serial Control Stack Destination step inside h) e) (go t g (less (weight t) (weight c) bound f l))
        by (ticks t g) e f go = ticked c h t g (ap (serial Control Stack Destination step inside h) e)
        by (prints v t g) e f go = after_print c h limit (ap (serial Control Stack Destination step inside h) e) (go t g (less (weight t) (weight c) bound f l))
        by (spawns call lent x t g) e f go = after_quiet c h limit (ap (serial Control Stack Destination step inside h) e) (go (inside call x t) h (less (weight (inside call x t)) (weight c) bound f l))
        by (syncs t) e f go = after_quiet c h limit (ap (serial Control Stack Destination step inside h) e) (go t h (less (weight t) (weight c) bound f l))
        by (traps k) e f go = inl (Trapped [] k 0, h, (c, h, here, ap (serial Control Stack Destination step inside h) e, omega arith))
        by (ends v) e f go = inl (Done [] v 0, h, (c, here, ap (serial Control Stack Destination step inside h) e, omega arith))
        by stuck e f go = inr (record { out = []; used = 0; last = c; held = h; comes = here; stops = ap (serial Control Stack Destination step inside h) e; within = omega arith })

    -- tick by tick
    pub some_end : (limit : ℕ) (c : Control) (h : Stack) → Ended c h limit
    some_end zero c h = inner zero (λ c h t g e. none_left c h e) (suc (weight c)) c h (omega arith)
    some_end (suc limit) c h = inner (suc limit) (λ c h t g e. after_tick c h limit e (some_end limit t g)) (suc (weight c)) c h (omega arith)
