-- What the rules of pieces allow is the elision's end, over any steps that meet a few laws: while all children are Done,
-- the elision comes to the piece joined with the words of its unjoined children, and the first child that isn't Done
-- stands where the elision goes no further.
use Rattle.std.proofs.Common.{◌≡◌, ℕ, suc, ◌+◌, ◌-◌, ◌<◌, ◌≤◌, List, [], ◌∷◌, ◌++◌, Option, refl, sym, ap, ◌∙◌, subst, arith}
use Rattle.std.specs.Prelude.{Bool, true, false, ℤ, ⊤}
use Rattle.cm_syntax.specs.Trap.{Trap}
use Rattle.cm_syntax.specs.Label.{Step, silent, ticks, prints, spawns, syncs, traps, ends, stuck}
use Rattle.cm_meaning.specs.End.{End, Done, Trapped, Spent}
use Rattle.cm_meaning.specs.Elision.{serial, serial_step, Comes, here, quiet, tick, show, Passes, EndsAs}
use Rattle.cm_meaning.specs.Piece.{Own, returns, fails, runs_out, Sum, going, trapped, spent, Capped, fits, passes, Decides, all_done, own_trap, own_spent, child_trap, child_spent, add_end, add_number, Ask, Answer, awaited, told, Note, printed, child, Piece, begun, add_answer, log_sum, Counts, none, past, counted, skipped, AllTold, Fallen, by_trap, by_spent, later, Given, Collects, before, other, taken, Stops, by_return, by_tick, by_sync, by_child, Goes, silently, ticking, showing, joining, parting, hearing, returning, GivesBack, Hears, this, deeper, Fork, stops, goes}

module _ (Control Stack Destination : Type 0) (Joins : Stack → Stack → Stack → Type 0) (TakesOut : (back rest given : Stack) → Type 0) (settle : Destination → Option ℤ → Stack → Stack) (depth : Control → ℕ) (step : Control → Stack → Step Control Stack Destination) (inside : Control → Destination → Control → Control) where
  abbrev Move : Type 0
  Move = Step Control Stack Destination

  abbrev pub serially : Control → Stack → Move
  serially = serial_step Control Stack Destination step inside

  abbrev pub Runs : Control → Stack → List ℤ → ℕ → Control → Stack → Type 0
  Runs = Comes Control Stack Destination step inside

  abbrev Log : Type 0
  Log = List (Note Control Stack Destination)

  -- The rules of a piece, where each child's end is told at its spawn.
  pub data Early : (start own : ℕ) → Control → Stack → List (Note Control Stack Destination) → End → Stack → Type 0 where
    at_stop : {start own : ℕ} {c : Control} {h w : Stack} {log : List (Note Control Stack Destination)} {o : Own} {e : End} → Stops Control Stack Destination Joins TakesOut settle depth step start own c h log o
        → Decides start own (log_sum Control Stack Destination log) o e → Given Control Stack Destination e h w → Early start own c h log e w
    at_silent : {start own : ℕ} {c t : Control} {h g w : Stack} {log : List (Note Control Stack Destination)} {e : End} → step c h ≡ silent t g → Early start own t g log e w → Early start own c h log e w
    at_tick : {start own m : ℕ} {c t : Control} {h g w : Stack} {log : List (Note Control Stack Destination)} {e : End} → step c h ≡ ticks t g → Counts Control Stack Destination log m → own + m < start
        → Early start (suc own) t g log e w → Early start own c h log e w
    at_print : {start own : ℕ} {v : ℤ} {c t : Control} {h g w : Stack} {log : List (Note Control Stack Destination)} {e : End} → step c h ≡ prints v t g → Early start own t g (printed v ∷ log) e w → Early start own c h log e w
    at_join : {start own m : ℕ} {c t : Control} {h g w : Stack} {log more : List (Note Control Stack Destination)} {e : End} → step c h ≡ syncs t → Collects Control Stack Destination Joins TakesOut settle depth step (depth c) log h more g
        → Counts Control Stack Destination more m → own + m ≤ start → Early start own t g more e w → Early start own c h log e w
    at_part : {start own m : ℕ} {c t call : Control} {h g w lent answer : Stack} {x : Destination} {log : List (Note Control Stack Destination)} {e a : End} → step c h ≡ spawns call lent x t g → Counts Control Stack Destination log m
        → Early (start - (own + m)) 0 call lent [] a answer
        → Early start own t g (child (depth c) own x false (record { start = start - (own + m); call = call; lent = lent }) (told a answer) ∷ log) e w → Early start own c h log e w
    at_return : {start own : ℕ} {c : Control} {h g w : Stack} {log more : List (Note Control Stack Destination)} {e : End} → GivesBack Control Stack Destination Joins TakesOut settle depth step log h more g
        → Early start own c g more e w → Early start own c h log e w

  -- the same step beside words that it has no part in
  abbrev pub Beside : (room : Control → ℕ) → (Under : ℕ → Stack → Type 0) → Stack → Move → Move → Type 0
  Beside room Under b (silent c h) t = Under (room c) b → (g : Stack) × (t ≡ silent c g) × Joins h b g
  Beside room Under b (ticks c h) t = Under (room c) b → (g : Stack) × (t ≡ ticks c g) × Joins h b g
  Beside room Under b (prints v c h) t = Under (room c) b → (g : Stack) × (t ≡ prints v c g) × Joins h b g
  Beside room Under b (spawns call lent x c h) t = (l : Stack) × (g : Stack) × (t ≡ spawns call l x c g)
  Beside room Under b (syncs c) t = t ≡ syncs c
  Beside room Under b (traps k) t = t ≡ traps k
  Beside room Under b (ends v) t = t ≡ ends v
  Beside room Under b stuck t = ⊤

  -- the same step of the elision inside a call that serially on as a continuation
  abbrev pub Within : Destination → Control → Move → Move → Type 0
  Within x k (silent c h) t = t ≡ silent (inside c x k) h
  Within x k (ticks c h) t = t ≡ ticks (inside c x k) h
  Within x k (prints v c h) t = t ≡ prints v (inside c x k) h
  Within x k (traps l) t = t ≡ traps l
  Within x k _ t = ⊤

  -- Frames come and go. The room is the number of frames; the floor leaves out the frame whose end is the next item; the
  -- base is the number of frames that no end of a call in the rest pops.
  abbrev pub Moves : (base floor : Control → ℕ) → (Under : ℕ → Stack → Type 0) → Control → Stack → Move → Type 0
  Moves base floor Under c h (silent t g) = (floor c ≤ floor t) × (base t ≡ base c)
  Moves base floor Under c h (ticks t g) = (floor c ≤ floor t) × (base t ≡ base c)
  Moves base floor Under c h (prints v t g) = (floor c ≤ floor t) × (base t ≡ base c)
  Moves base floor Under c h (spawns call lent x t g) = (floor c ≤ floor t) × (depth c < floor t) × (base t ≡ base c) × (base call ≡ suc (depth c)) × (base (inside call x t) ≡ base t) × Joins lent g h × Under (suc (depth c)) g × (floor c ≤ suc (depth c)) × (base c ≤ depth c)
  Moves base floor Under c h (syncs t) = (depth c ≤ floor t) × (floor c ≤ suc (depth c)) × (base t ≡ base c)
  Moves base floor Under c h (ends v) = Under (base c) h × (floor c ≤ base c)
  Moves base floor Under c h _ = ⊤

  -- a property of the states that a step leads to
  abbrev pub Keeps : (Control → Stack → Type 0) → Move → Type 0
  Keeps P (silent t g) = P t g
  Keeps P (ticks t g) = P t g
  Keeps P (prints v t g) = P t g
  Keeps P (spawns call lent x t g) = P call lent × P t g
  Keeps P _ = ⊤

  -- what the proof needs of the words and of the steps
  pub record Laws : Type 1 where
    pub empty : Stack
    pub Under : ℕ → Stack → Type 0
    pub comm : {a b c : Stack} → Joins a b c → Joins b a c
    pub assoc : {a b c x y : Stack} → Joins a b x → Joins x c y → (z : Stack) × Joins b c z × Joins a z y
    pub same : {a b x y : Stack} → Joins a b x → Joins a b y → x ≡ y
    pub nothing : (a : Stack) → Joins a empty a
    pub under_empty : (n : ℕ) → Under n empty
    pub under_more : {n m : ℕ} {a : Stack} → n ≤ m → Under n a → Under m a
    pub under_sum : {n : ℕ} {a b c : Stack} → Joins a b c → Under n a → Under n b → Under n c
    -- shares that come back early
    pub back_sum : {back rest given : Stack} → TakesOut back rest given → Joins back rest given
    pub back_settle : {back rest given : Stack} (x : Destination) (v : Option ℤ) → TakesOut back rest given → TakesOut back (settle x v rest) (settle x v given)
    pub back_under : {n : ℕ} {back rest given : Stack} → TakesOut back rest given → Under n given → Under n back × Under n rest
    pub room : Control → ℕ
    pub floor : Control → ℕ
    pub base : Control → ℕ
    pub floor_room : (c : Control) → floor c ≤ room c
    pub base_room : (c : Control) → base c ≤ room c
    pub beside : (c : Control) (h b g : Stack) → Joins h b g → Under (room c) b → Beside room Under b (step c h) (step c g)
    -- states whose rest and frames fit together, and that hold nothing beyond their frames
    pub Good : Control → Stack → Type 0
    pub good_step : (c : Control) (h : Stack) → Good c h → Keeps Good (step c h)
    pub good_goes : (c : Control) (h : Stack) → Good c h → Keeps Good (serially c h)
    pub good_sync : {c t : Control} {h g : Stack} → Good c h → step c h ≡ syncs t → Good c g → Good t g
    pub good_add : {c t : Control} {h w g : Stack} (k : Stack) → Good c k → step c k ≡ syncs t → Good c h → Under (suc (depth c)) w → Joins h w g → Good c g
    pub good_back : {c : Control} {h w g : Stack} → Good c h → Under (floor c) w → Joins h w g → Good c g
    -- states of a call whose return comes back to this continuation, and that hold its destination
    pub Above : Destination → Control → Control → Stack → Type 0
    pub above_spawn : {c t call : Control} {h g lent : Stack} {x : Destination} → Good c h → step c h ≡ spawns call lent x t g → Above x t call lent
    pub above_goes : (x : Destination) (k c : Control) (h : Stack) → Above x k c h → Keeps (Above x k) (serially c h)
    pub moves : (c : Control) (h : Stack) → Good c h → Moves base floor Under c h (step c h)
    pub within : (x : Destination) (k c : Control) (h : Stack) → Within x k (serially c h) (serially (inside c x k) h)
    pub settle_under : {n : ℕ} {h : Stack} (x : Destination) (v : Option ℤ) → Under n h → Under n (settle x v h)
    -- the end of the call writes the destination
    pub returns_to : (x : Destination) (k c : Control) (v : Option ℤ) (h b g : Stack) → Above x k c h → step c h ≡ ends v → Joins h b g → (i : Stack) × (serially (inside c x k) g ≡ silent k i) × Joins (settle x v h) b i

  -- ---- runs of the elision
  count : {c t : Control} {h g : Stack} {out : List ℤ} {n m : ℕ} → n ≡ m → Runs c h out n t g → Runs c h out m t g
  count {c = c} {t = t} {h = h} {g = g} {out = out} e r = subst (λ z. Runs c h out z t g) e r

  pub chain : {c t l : Control} {h g k : Stack} {o p : List ℤ} {n m : ℕ} → Runs c h o n t g → Runs t g p m l k → Runs c h (o ++ p) (n + m) l k
  chain {m = m} here r = count (omega arith) r
  chain (quiet e q) r = quiet e (chain q r)
  chain (tick e q) r = count (omega arith) (tick e (chain q r))
  chain (show e q) r = show e (chain q r)

  -- one silent step more
  pub goes_on : {c t l : Control} {h g k : Stack} {o : List ℤ} {n : ℕ} → Runs c h o n t g → serially t g ≡ silent l k → Runs c h o n l k
  goes_on here s = quiet s here
  goes_on (quiet e q) s = quiet e (goes_on q s)
  goes_on (tick e q) s = tick e (goes_on q s)
  goes_on (show e q) s = show e (goes_on q s)

  module _ (laws : Laws) where
    open laws use {empty, Under, comm, assoc, same, nothing, under_empty, under_more, under_sum, back_sum, back_settle, back_under, room, floor, base, floor_room, base_room, beside, Good, good_step, good_goes, good_sync, good_add, good_back, Above, above_spawn, above_goes, moves, within, settle_under, returns_to}

    -- the unjoined children's words together
    abbrev pub Owed : (low high : ℕ) → Log → Stack → Type 0
    Owed b n [] o = o ≡ empty
    Owed b n (printed v ∷ log) o = Owed b n log o
    Owed b n (child d at x true q r ∷ log) o = Owed b n log o
    Owed b n (child d at x false q (told (Done out v m) w) ∷ log) o = (l : Stack) × Owed b n log l × Joins (settle x v w) l o × (b ≤ d) × (d < n) × Under (suc d) w
    Owed b n (child d at x false q (told (Trapped out k m) w) ∷ log) o = ⊥
    Owed b n (child d at x false q (told Spent w) ∷ log) o = ⊥
    Owed b n (child d at x false q awaited ∷ log) o = ⊥

    pub owed_under : (b n : ℕ) (log : Log) (o : Stack) → Owed b n log o → Under n o
    owed_under b n [] o e = subst (λ z. Under n z) (sym e) (under_empty n)
    owed_under b n (printed v ∷ log) o e = owed_under b n log o e
    owed_under b n (child d at x true q r ∷ log) o h = owed_under b n log o h
    owed_under b n (child d at x false q (told (Done out v m) w) ∷ log) o h = under_sum h.2 (settle_under x v (under_more h.4 h.5)) (owed_under b n log h.0 h.1)
    owed_under b n (child d at x false q (told (Trapped out k m) w) ∷ log) o h = absurd h
    owed_under b n (child d at x false q (told Spent w) ∷ log) o h = absurd h
    owed_under b n (child d at x false q awaited ∷ log) o h = absurd h

    owed_more : (b n m : ℕ) (log : Log) (o : Stack) → n ≤ m → Owed b n log o → Owed b m log o
    owed_more b n m [] o l e = e
    owed_more b n m (printed v ∷ log) o l e = owed_more b n m log o l e
    owed_more b n m (child d at x true q r ∷ log) o l h = owed_more b n m log o l h
    owed_more b n m (child d at x false q (told (Done out v k) w) ∷ log) o l h = (h.0, owed_more b n m log h.0 l h.1, h.2, h.3, omega (arith, h.4, l), h.5)
    owed_more b n m (child d at x false q (told (Trapped out v k) w) ∷ log) o l h = absurd h
    owed_more b n m (child d at x false q (told Spent w) ∷ log) o l h = absurd h
    owed_more b n m (child d at x false q awaited ∷ log) o l h = absurd h

    -- no child of these depths is left
    owed_none : (b n : ℕ) (log : Log) (o : Stack) → n ≤ b → Owed b n log o → o ≡ empty
    owed_none b n [] o l e = e
    owed_none b n (printed v ∷ log) o l e = owed_none b n log o l e
    owed_none b n (child d at x true q r ∷ log) o l h = owed_none b n log o l h
    owed_none b n (child d at x false q (told (Done out v k) w) ∷ log) o l h = absurd (omega (arith, h.3, h.4, l))
    owed_none b n (child d at x false q (told (Trapped out v k) w) ∷ log) o l h = absurd h
    owed_none b n (child d at x false q (told Spent w) ∷ log) o l h = absurd h
    owed_none b n (child d at x false q awaited ∷ log) o l h = absurd h

    abbrev Meets : ℕ → Log → Stack → Log → Stack → Type 0
    Meets = Collects Control Stack Destination Joins TakesOut settle depth step

    pub joined_sofar : {d : ℕ} {log more : Log} {h g : Stack} → Meets d log h more g → log_sum Control Stack Destination more ≡ log_sum Control Stack Destination log
    joined_sofar none = refl
    joined_sofar (past {v = v} j) = ap (λ z. add_number z v) (joined_sofar j)
    joined_sofar (before {o = o} {r = r} j) = ap (λ z. add_answer Control Stack Destination z o r) (joined_sofar j)
    joined_sofar (other {o = o} {r = r} n j) = ap (λ z. add_answer Control Stack Destination z o r) (joined_sofar j)
    joined_sofar (taken {o = o} {m = m} {out = out} {v = v} s j) = ap (λ z. add_end z o (Done out v m)) (joined_sofar j)

    joined_owed : {d : ℕ} {log more : Log} {h g : Stack} → Meets d log h more g → (b n : ℕ) (o t : Stack) → n ≤ suc d → Owed b n log o → Joins h o t → (p : Stack) × Owed b d more p × Joins g p t
    joined_owed none b n o t l e s = (o, e, s)
    joined_owed (past j) b n o t l e s = joined_owed j b n o t l e s
    joined_owed (before j) b n o t l e s = joined_owed j b n o t l e s
    joined_owed (other {r = told (Done out v m) w} ne j) b n o t l h s =
        let r = assoc h.2 (comm s) in
        let q = joined_owed j b n h.0 r.0 l h.1 (comm r.1) in
        let p = assoc q.2 (comm r.2) in
        (p.0, (q.0, q.1, comm p.1, h.3, omega (arith, h.4, l, ne), h.5), p.2)
    joined_owed (other {r = told (Trapped out k m) w} ne j) b n o t l h s = absurd h
    joined_owed (other {r = told Spent w} ne j) b n o t l h s = absurd h
    joined_owed (other {r = awaited} ne j) b n o t l h s = absurd h
    joined_owed (taken u j) b n o t l h s =
        let r = assoc (comm h.2) (comm s) in
        let i = same u (comm r.1) in
        joined_owed j b n h.0 t l h.1 (subst (λ z. Joins z h.0 t) (sym i) (comm r.2))

    joined_good : {d : ℕ} {log more : Log} {h g : Stack} → Meets d log h more g → (P : Stack → Type 0) → ((h w g : Stack) → P h → Under (suc d) w → Joins h w g → P g) → (b n : ℕ) (o : Stack) → Owed b n log o → P h → P g
    joined_good none P add b n o e p = p
    joined_good (past j) P add b n o e p = joined_good j P add b n o e p
    joined_good (before j) P add b n o e p = joined_good j P add b n o e p
    joined_good (other {r = told (Done out v m) w} ne j) P add b n o e p = joined_good j P add b n e.0 e.1 p
    joined_good (other {r = told (Trapped out k m) w} ne j) P add b n o e p = absurd e
    joined_good (other {r = told Spent w} ne j) P add b n o e p = absurd e
    joined_good (other {r = awaited} ne j) P add b n o e p = absurd e
    joined_good (taken {x = x} {v = v} u j) P add b n o e p = joined_good j P add b n e.0 e.1 (add _ _ _ p (settle_under x v e.5) u)

    -- ---- shares that come back early
    abbrev Back : Log → Stack → Log → Stack → Type 0
    Back = GivesBack Control Stack Destination Joins TakesOut settle depth step

    pub back_sofar : {log more : Log} {h g : Stack} → Back log h more g → log_sum Control Stack Destination more ≡ log_sum Control Stack Destination log
    back_sofar (this y s) = refl
    back_sofar (deeper {n = printed v} y) = ap (λ z. add_number z v) (back_sofar y)
    back_sofar (deeper {n = child d o x j q r} y) = ap (λ z. add_answer Control Stack Destination z o r) (back_sofar y)

    -- what comes back is owed no more
    back_owed : {log more : Log} {h g : Stack} → Back log h more g → (b n : ℕ) (o : Stack) → Owed b n log o → (k : Stack) × Joins h k g × Under n k × (p : Stack) × Owed b n more p × Joins k p o
    back_owed (this {x = x} {v = v} {back = back} y s) b n o w =
        let u = back_under y w.5 in
        let r = assoc (back_sum (back_settle x v y)) w.2 in
        (back, s, under_more w.4 u.0, r.0, (w.0, w.1, r.1, w.3, w.4, u.1), r.2)
    back_owed (deeper {n = printed v} y) b n o w = back_owed y b n o w
    back_owed (deeper {n = child d at x true q r} y) b n o w = back_owed y b n o w
    back_owed (deeper {n = child d at x false q (told (Done out v m) w)} y) b n o h =
        let i = back_owed y b n h.0 h.1 in
        let r = assoc i.5 (comm h.2) in
        (i.0, i.1, i.2, r.0, (i.3, i.4, comm r.1, h.3, h.4, h.5), r.2)
    back_owed (deeper {n = child d at x false q (told (Trapped out k m) w)} y) b n o h = absurd h
    back_owed (deeper {n = child d at x false q (told Spent w)} y) b n o h = absurd h
    back_owed (deeper {n = child d at x false q awaited} y) b n o h = absurd h

    -- ---- ticks of Done children
    abbrev Bounds : ℕ → Sum → Type 0
    Bounds m (going out n) = m ≤ n
    Bounds m _ = ⊤

    bounded : {log : Log} {m : ℕ} → Counts Control Stack Destination log m → Bounds m (log_sum Control Stack Destination log)
    bounded none = omega arith
    bounded (past {log = log} {v = v} {n = n} c) = by_number (log_sum Control Stack Destination log) (bounded c)
      where
        by_number : (z : Sum) → Bounds n z → Bounds n (add_number z v)
        by_number (going out k) h = h
        by_number (trapped out t k) h = tt
        by_number spent h = tt
    bounded (counted {log = log} {o = o} {n = n} {m = m} {out = out} {v = v} c) = by_child_ (log_sum Control Stack Destination log) (bounded c)
      where
        by_child_ : (z : Sum) → Bounds n z → Bounds (n + m) (add_end z o (Done out v m))
        by_child_ (going out k) h = omega (arith, h)
        by_child_ (trapped out t k) h = tt
        by_child_ spent h = tt
    bounded (skipped {log = log} {o = o} {n = n} {r = r} c) = by_child_ r (log_sum Control Stack Destination log) (bounded c)
      where
        by_child_ : (r : Answer Control Stack Destination) (z : Sum) → Bounds n z → Bounds n (add_answer Control Stack Destination z o r)
        by_child_ awaited z h = h
        by_child_ (told (Done out v m) w) (going p k) h = omega (arith, h)
        by_child_ (told (Trapped out t m) w) (going p k) h = tt
        by_child_ (told Spent w) (going p k) h = tt
        by_child_ (told e w) (trapped out t k) h = tt
        by_child_ (told e w) spent h = tt

    abbrev pub Falls : Sum → Type 0
    Falls (going out n) = ⊥
    Falls _ = ⊤

    falls_on : (z : Sum) → Falls z → (n : Note Control Stack Destination) → Falls (elim n [ printed v ↦ add_number z v | child d o x j q r ↦ add_answer Control Stack Destination z o r ])
    falls_on (going out n) h k = absurd h
    falls_on (trapped out t n) h (printed v) = tt
    falls_on (trapped out t n) h (child d o x j q awaited) = tt
    falls_on (trapped out t n) h (child d o x j q (told e w)) = tt
    falls_on spent h (printed v) = tt
    falls_on spent h (child d o x j q awaited) = tt
    falls_on spent h (child d o x j q (told e w)) = tt

    pub fallen : {log : Log} → Fallen Control Stack Destination log → Falls (log_sum Control Stack Destination log)
    fallen (by_trap {log = log} {o = o} {m = m} {out = out} {k = k}) = by (log_sum Control Stack Destination log)
      where
        by : (z : Sum) → Falls (add_end z o (Trapped out k m))
        by (going p n) = tt
        by (trapped p l n) = tt
        by spent = tt
    fallen (by_spent {log = log} {o = o}) = by (log_sum Control Stack Destination log)
      where
        by : (z : Sum) → Falls (add_end z o Spent)
        by (going p n) = tt
        by (trapped p l n) = tt
        by spent = tt
    fallen (later {log = log} {n = printed v} f) = falls_on (log_sum Control Stack Destination log) (fallen f) (printed v)
    fallen (later {log = log} {n = child d o x j q r} f) = falls_on (log_sum Control Stack Destination log) (fallen f) (child d o x j q r)

    -- ---- the elision beside other words, and inside a call
    abbrev Along : Stack → Control → Move → Move → Type 0
    Along b c (silent t g) y = (k : Stack) × (y ≡ silent t k) × Joins g b k × (base t ≡ base c)
    Along b c (ticks t g) y = (k : Stack) × (y ≡ ticks t k) × Joins g b k × (base t ≡ base c)
    Along b c (prints v t g) y = (k : Stack) × (y ≡ prints v t k) × Joins g b k × (base t ≡ base c)
    Along b c (traps l) y = y ≡ traps l
    Along b c (ends v) y = y ≡ ends v
    Along b c _ y = ⊤

    abbrev pub elided : Stack → Move → Move
    elided = serial Control Stack Destination step inside

    pub along : (c : Control) (h b u : Stack) → Good c h → Joins h b u → Under (base c) b → Along b c (serially c h) (serially c u)
    along c h b u w s d = by (step c h) (step c u) (moves c h w) (beside c h b u s (under_more (base_room c) d))
      where
        higher : (t : Control) → base t ≡ base c → Under (room t) b
        higher t e = under_more (let q = base_room t in omega (arith, q, e)) d

        by : (x y : Move) → Moves base floor Under c h x → Beside room Under b x y → Along b c (elided h x) (elided u y)
        by (silent t g) y m f = let r = f (higher t m.1) in (r.0, ap (elided u) r.1, r.2, m.1)
        by (ticks t g) y m f = let r = f (higher t m.1) in (r.0, ap (elided u) r.1, r.2, m.1)
        by (prints v t g) y m f = let r = f (higher t m.1) in (r.0, ap (elided u) r.1, r.2, m.1)
        by (spawns call lent x t g) y m f = (u, ap (elided u) f.2, s, m.4 ∙ m.2)
        by (syncs t) y m f = (u, ap (elided u) f, s, m.2)
        by (traps k) y m f = ap (elided u) f
        by (ends v) y m f = ap (elided u) f
        by stuck y m f = tt

    along_at : (x y z : Move) (b : Stack) (c : Control) → x ≡ y → Along b c x z → Along b c y z
    along_at x y z b c e h = subst (λ q. Along b c q z) e h

    good_at : (c : Control) (h : Stack) (x : Move) → serially c h ≡ x → Good c h → Keeps Good x
    good_at c h x e w = subst (λ q. Keeps Good q) e (good_goes c h w)

    pub step_good : (c : Control) (h : Stack) (x : Move) → step c h ≡ x → Good c h → Keeps Good x
    step_good c h x e w = subst (λ q. Keeps Good q) e (good_step c h w)

    above_at : (x : Destination) (k c : Control) (h : Stack) (y : Move) → serially c h ≡ y → Above x k c h → Keeps (Above x k) y
    above_at x k c h y e w = subst (λ q. Keeps (Above x k) q) e (above_goes x k c h w)

    pub above_run : {c t : Control} {h g : Stack} {out : List ℤ} {n : ℕ} (x : Destination) (k : Control) → Runs c h out n t g → Above x k c h → Above x k t g
    above_run x k here a = a
    above_run {c = c} {h = h} x k (quiet e r) a = above_run x k r (above_at x k c h _ e a)
    above_run {c = c} {h = h} x k (tick e r) a = above_run x k r (above_at x k c h _ e a)
    above_run {c = c} {h = h} x k (show e r) a = above_run x k r (above_at x k c h _ e a)

    pub framed : {c t : Control} {h g : Stack} {out : List ℤ} {n : ℕ} → Runs c h out n t g → (b u : Stack) → Good c h → Joins h b u → Under (base c) b → (k : Stack) × Runs c u out n t k × Joins g b k × (base t ≡ base c) × Good t g
    framed here b u w s d = (u, here, s, refl, w)
    framed {c = c} {h = h} (quiet {t = t} {g = g} e r) b u w s d =
        let a = along_at _ _ (serially c u) b c e (along c h b u w s d) in
        let q = framed r b a.0 (good_at c h _ e w) a.2 (subst (λ z. Under z b) (sym a.3) d) in
        (q.0, quiet a.1 q.1, q.2, q.3 ∙ a.3, q.4)
    framed {c = c} {h = h} (tick {t = t} {g = g} e r) b u w s d =
        let a = along_at _ _ (serially c u) b c e (along c h b u w s d) in
        let q = framed r b a.0 (good_at c h _ e w) a.2 (subst (λ z. Under z b) (sym a.3) d) in
        (q.0, tick a.1 q.1, q.2, q.3 ∙ a.3, q.4)
    framed {c = c} {h = h} (show {t = t} {g = g} e r) b u w s d =
        let a = along_at _ _ (serially c u) b c e (along c h b u w s d) in
        let q = framed r b a.0 (good_at c h _ e w) a.2 (subst (λ z. Under z b) (sym a.3) d) in
        (q.0, show a.1 q.1, q.2, q.3 ∙ a.3, q.4)

    pub within_at : (x : Destination) (k c : Control) (h : Stack) (y : Move) → serially c h ≡ y → Within x k y (serially (inside c x k) h)
    within_at x k c h y e = subst (λ q. Within x k q (serially (inside c x k) h)) e (within x k c h)

    pub nested : {c t : Control} {h g : Stack} {out : List ℤ} {n : ℕ} (x : Destination) (k : Control) → Runs c h out n t g → Runs (inside c x k) h out n (inside t x k) g
    nested x k here = here
    nested {c = c} {h = h} x k (quiet e r) = quiet (within_at x k c h _ e) (nested x k r)
    nested {c = c} {h = h} x k (tick e r) = tick (within_at x k c h _ e) (nested x k r)
    nested {c = c} {h = h} x k (show e r) = show (within_at x k c h _ e) (nested x k r)

    -- ---- the shadow
    goes_tick : {c t l : Control} {h g k : Stack} {o : List ℤ} {n : ℕ} → Runs c h o n t g → serially t g ≡ ticks l k → Runs c h o (suc n) l k
    goes_tick here s = count (omega arith) (tick s here)
    goes_tick (quiet e q) s = quiet e (goes_tick q s)
    goes_tick (tick e q) s = tick e (goes_tick q s)
    goes_tick (show e q) s = show e (goes_tick q s)

    abbrev pub Sees : Control → Stack → ℕ → End → Stack → Type 0
    Sees = EndsAs Control Stack Destination step inside

    abbrev Over : Control → Stack → ℕ → Type 0
    Over = Passes Control Stack Destination step inside

    -- Of a piece that came from this call: while all children are Done, the elision reaches the piece joined with the
    -- words and destinations of its unjoined children, add_end its own ticks and those of all children. The this child
    -- that isn't Done stands where the elision serially no further.
    abbrev pub Follows : (c0 : Control) → (h0 : Stack) → (start own : ℕ) → Control → Stack → Log → Sum → Type 0
    Follows c0 h0 start own c h log (going out n) = (o : Stack) × (u : Stack) × Runs c0 h0 out (own + n) c u × Owed (base c0) (floor c) log o × Joins h o u × (base c ≡ base c0) × Good c h
    Follows c0 h0 start own c h log (trapped out k n) = (t : Control) × (g : Stack) × Runs c0 h0 out n t g × (serially t g ≡ traps k)
    Follows c0 h0 start own c h log spent = Over c0 h0 start

    abbrev Ends : (start own : ℕ) → Control → Stack → Log → End → Stack → Type 0
    Ends = Early

    abbrev so : Log → Sum
    so = log_sum Control Stack Destination

    pub moves_at : (c : Control) (h : Stack) (x : Move) → step c h ≡ x → Good c h → Moves base floor Under c h x
    moves_at c h x e w = subst (λ q. Moves base floor Under c h q) e (moves c h w)

    pub beside_at : (c : Control) (h o u : Stack) (x : Move) → step c h ≡ x → Joins h o u → Under (floor c) o → Beside room Under o x (step c u)
    beside_at c h o u x e s d = subst (λ q. Beside room Under o q (step c u)) e (beside c h o u s (under_more (floor_room c) d))

    abbrev Halts : (start own : ℕ) → Control → Stack → Log → Own → Type 0
    Halts = Stops Control Stack Destination Joins TakesOut settle depth step

    trap_of : {start own : ℕ} {c : Control} {h : Stack} {log : Log} {k : Trap} → Halts start own c h log (fails k) → step c h ≡ traps k
    trap_of (by_trap e) = e

    value_of : {start own : ℕ} {c : Control} {h : Stack} {log : Log} {v : Option ℤ} → Halts start own c h log (returns v) → step c h ≡ ends v
    value_of (by_return e) = e

    -- what `Decide` says is so
    pub decided : (c0 : Control) (h0 : Stack) {start own : ℕ} {c : Control} {h : Stack} {log : Log} {o : Own} {e : End} (z : Sum) → so log ≡ z → Follows c0 h0 start own c h log z → Halts start own c h log o → Decides start own z o e → Sees c0 h0 start e h
    decided c0 h0 {start = start} {own = own} {c = c} {h = h} {log = log} _ is f s (all_done {out = out} {n = n} {v = v} cap) = by cap
      where
        m : Under (base c) h × (floor c ≤ base c)
        m = moves_at c h _ (value_of s) f.6

        gone : f.0 ≡ empty
        gone = owed_none (base c0) (floor c) log f.0 (let a = m.1 in let b = f.5 in omega (arith, a, b)) f.3

        whole : f.1 ≡ h
        whole = same (subst (λ z. Joins h z f.1) gone f.4) (nothing h)

        by : {e : End} → Capped start (own + n) (Done out v (own + n)) e → Sees c0 h0 start e h
        by (fits l) = (c, subst (λ z. Runs c0 h0 out (own + n) c z) whole f.2, ap (elided h) (value_of s), l)
        by (passes l) = record { out = out; used = own + n; last = c; held = f.1; comes = f.2; more = l }
    decided c0 h0 {start = start} {own = own} {c = c} {h = h} {log = log} _ is f s (own_trap {out = out} {n = n} {k = k} cap) = by cap
      where
        by : {e : End} → Capped start (own + n) (Trapped out k (own + n)) e → Sees c0 h0 start e h
        by (fits l) = (c, f.1, f.2, ap (elided f.1) (beside_at c h f.0 f.1 _ (trap_of s) f.4 (owed_under (base c0) (floor c) log f.0 f.3)), l)
        by (passes l) = record { out = out; used = own + n; last = c; held = f.1; comes = f.2; more = l }
    decided c0 h0 {start = start} {own = own} {c = c} {h = h} {log = log} _ is f s (own_spent {out = out} {n = n}) = by s
      where
        by : Halts start own c h log runs_out → Over c0 h0 start
        by (by_tick {t = t} {g = g} {m = m} e k l) =
            let small : m ≤ n = subst (λ z. Bounds m z) is (bounded k) in
            let b = beside_at c h f.0 f.1 _ e f.4 (owed_under (base c0) (floor c) log f.0 f.3) (under_more (let q = moves_at c h _ e f.6 in let a = q.0 in let b = floor_room t in omega (arith, a, b)) (owed_under (base c0) (floor c) log f.0 f.3)) in
            record { out = out; used = suc (own + n); last = t; held = b.0; comes = goes_tick f.2 (ap (elided f.1) b.1); more = omega (arith, small, l) }
        by (by_sync {more = more} {m = m} e j k l) =
            let small : m ≤ n = subst (λ z. Bounds m z) (joined_sofar j ∙ is) (bounded k) in
            record { out = out; used = own + n; last = c; held = f.1; comes = f.2; more = omega (arith, small, l) }
        by (by_child x) = absurd (subst (λ z. Falls z) is (fallen x))
    decided c0 h0 {start = start} {h = h} _ is f s (child_trap {out = out} {n = n} {k = k} cap) = by cap
      where
        by : {e : End} → Capped start n (Trapped out k n) e → Sees c0 h0 start e h
        by (fits l) = (f.0, f.1, f.2, f.3, l)
        by (passes l) = record { out = out; used = n; last = f.0; held = f.1; comes = f.2; more = l }
    decided c0 h0 _ is f s child_spent = f

    pub ended_by : {v : Option ℤ} (h : Stack) (y : Move) → elided h y ≡ ends v → y ≡ ends v
    ended_by h (ends w) e = e
    ended_by h (silent t g) e = cc e
    ended_by h (ticks t g) e = cc e
    ended_by h (prints w t g) e = cc e
    ended_by h (spawns call lent x t g) e = cc e
    ended_by h (syncs t) e = cc e
    ended_by h (traps k) e = cc e
    ended_by h stuck e = cc e

    -- ---- each rule keeps the shadow
    module _ (c0 : Control) (h0 : Stack) where
      pub follows_silent : (start own : ℕ) (log : Log) {c t : Control} {h g : Stack} → step c h ≡ silent t g → (z : Sum) → Follows c0 h0 start own c h log z → Follows c0 h0 start own t g log z
      follows_silent start own log {c = c} {t = t} {h = h} e (going out n) x =
          let m = moves_at c h _ e x.6 in
          let b = beside_at c h x.0 x.1 _ e x.4 (owed_under (base c0) (floor c) log x.0 x.3) (under_more (omega (arith, m.0, floor_room t)) (owed_under (base c0) (floor c) log x.0 x.3)) in
          (x.0, b.0, goes_on x.2 (ap (elided x.1) b.1), owed_more (base c0) (floor c) (floor t) log x.0 m.0 x.3, b.2, m.1 ∙ x.5, step_good c h _ e x.6)
      follows_silent start own log e (trapped out k n) x = x
      follows_silent start own log e spent x = x

      pub follows_tick : (start own : ℕ) (log : Log) {c t : Control} {h g : Stack} → step c h ≡ ticks t g → (z : Sum) → Follows c0 h0 start own c h log z → Follows c0 h0 start (suc own) t g log z
      follows_tick start own log {c = c} {t = t} {h = h} e (going out n) x =
          let m = moves_at c h _ e x.6 in
          let b = beside_at c h x.0 x.1 _ e x.4 (owed_under (base c0) (floor c) log x.0 x.3) (under_more (omega (arith, m.0, floor_room t)) (owed_under (base c0) (floor c) log x.0 x.3)) in
          (x.0, b.0, count (omega arith) (goes_tick x.2 (ap (elided x.1) b.1)), owed_more (base c0) (floor c) (floor t) log x.0 m.0 x.3, b.2, m.1 ∙ x.5, step_good c h _ e x.6)
      follows_tick start own log e (trapped out k n) x = x
      follows_tick start own log e spent x = x

      pub follows_print : (start own : ℕ) (log : Log) {v : ℤ} {c t : Control} {h g : Stack} → step c h ≡ prints v t g → (z : Sum) → Follows c0 h0 start own c h log z → Follows c0 h0 start own t g (printed v ∷ log) (add_number z v)
      follows_print start own log {c = c} {t = t} {h = h} e (going out n) x =
          let m = moves_at c h _ e x.6 in
          let b = beside_at c h x.0 x.1 _ e x.4 (owed_under (base c0) (floor c) log x.0 x.3) (under_more (omega (arith, m.0, floor_room t)) (owed_under (base c0) (floor c) log x.0 x.3)) in
          (x.0, b.0, count (omega arith) (chain x.2 (show (ap (elided x.1) b.1) here)), owed_more (base c0) (floor c) (floor t) log x.0 m.0 x.3, b.2, m.1 ∙ x.5, step_good c h _ e x.6)
      follows_print start own log e (trapped out k n) x = x
      follows_print start own log e spent x = x

      pub follows_join : (start own : ℕ) {c t : Control} {h g : Stack} {log more : Log} → step c h ≡ syncs t → Meets (depth c) log h more g → (z : Sum) → Follows c0 h0 start own c h log z → Follows c0 h0 start own t g more z
      follows_join start own {c = c} {t = t} {h = h} {log = log} {more = more} e j (going out n) x =
          let m = moves_at c h _ e x.6 in
          let b = beside_at c h x.0 x.1 _ e x.4 (owed_under (base c0) (floor c) log x.0 x.3) in
          let q = joined_owed j (base c0) (floor c) x.0 x.1 m.1 x.3 x.4 in
          (q.0, x.1, goes_on x.2 (ap (elided x.1) b), owed_more (base c0) (depth c) (floor t) more q.0 m.0 q.1, q.2, m.2 ∙ x.5, good_sync x.6 e (joined_good j (λ z. Good c z) (λ h w g p a y. good_add _ x.6 e p a y) (base c0) (floor c) x.0 x.3 x.6))
      follows_join start own e j (trapped out k n) x = x
      follows_join start own e j spent x = x

      pub follows_back : (start own : ℕ) (c : Control) {h g : Stack} {log more : Log} → Back log h more g → (z : Sum) → Follows c0 h0 start own c h log z → Follows c0 h0 start own c g more z
      follows_back start own c y (going out n) x =
          let i = back_owed y (base c0) (floor c) x.0 x.3 in
          let r = assoc (comm i.5) (comm x.4) in
          let joined = same (comm r.1) i.1 in
          (i.3, x.1, x.2, i.4, subst (λ q. Joins q i.3 x.1) joined (comm r.2), x.5, good_back x.6 i.2 i.1)
      follows_back start own c y (trapped out k n) x = x
      follows_back start own c y spent x = x

      pub follows_part : (start own : ℕ) (log : Log) (answer : Stack) {m : ℕ} {c t call : Control} {h g lent : Stack} {x : Destination} → step c h ≡ spawns call lent x t g → Counts Control Stack Destination log m
          → (z : Sum) → so log ≡ z → Follows c0 h0 start own c h log z → (a : End) → (Good call lent → Sees call lent (start - (own + m)) a answer)
          → Follows c0 h0 start own t g (child (depth c) own x false (record { start = start - (own + m); call = call; lent = lent }) (told a answer) ∷ log) (add_end z own a)
      follows_part start own log answer {m = m} {c = c} {t = t} {call = call} {h = h} {g = g} {lent = lent} {x = x} e k z is f a says = by z is f a says
        where
          by : (z : Sum) → so log ≡ z → Follows c0 h0 start own c h log z → (a : End) → (Good call lent → Sees call lent (start - (own + m)) a answer)
              → Follows c0 h0 start own t g (child (depth c) own x false (record { start = start - (own + m); call = call; lent = lent }) (told a answer) ∷ log) (add_end z own a)
          by (trapped out l n) is f (Done p v q) says = f
          by (trapped out l n) is f (Trapped p v q) says = f
          by (trapped out l n) is f Spent says = f
          by spent is f (Done p v q) says = f
          by spent is f (Trapped p v q) says = f
          by spent is f Spent says = f
          by (going out n) is f a says = at_spawn a (says gc.0)
            where
              gc : Good call lent × Good t g
              gc = step_good c h _ e f.6

              m_ : Moves base floor Under c h (spawns call lent x t g)
              m_ = moves_at c h _ e f.6

              o : Stack
              o = f.0

              u : Stack
              u = f.1

              under : Under (floor c) o
              under = owed_under (base c0) (floor c) log o f.3

              -- the whole at the spawn: what the child is lent, and the other words
              b : (l : Stack) × (k : Stack) × (step c u ≡ spawns call l x t k)
              b = beside_at c h o u _ e f.4 under

              parted : (k : Stack) × Joins g o k × Joins lent k u
              parted = assoc m_.5 f.4

              rest : Stack
              rest = parted.0

              below : Under (base call) rest
              below = subst (λ z. Under z rest) (sym m_.3) (under_sum parted.1 m_.6 (under_more m_.7 under))

              called : serially c u ≡ silent (inside call x t) u
              called = ap (elided u) b.2

              at_spawn : (a : End) → Sees call lent (start - (own + m)) a answer → Follows c0 h0 start own t g (child (depth c) own x false (record { start = start - (own + m); call = call; lent = lent }) (told a answer) ∷ log) (add_end (going out n) own a)
              at_spawn (Done p v q) says =
                  let last = says.0 in
                  let ended : step last answer ≡ ends v = ended_by answer (step last answer) says.2 in
                  let fr = framed says.1 rest u gc.0 parted.2 below in
                  let back = returns_to x t last v answer rest fr.0 (above_run x t says.1 (above_spawn f.6 e)) ended fr.2 in
                  let owed = assoc parted.1 (comm back.2) in
                  let given = moves_at last answer _ ended fr.4 in (
                    owed.0,
                    back.0,
                    count (omega arith) (chain f.2 (quiet called (goes_on (nested x t fr.1) back.1))),
                    (o, owed_more (base c0) (floor c) (floor t) log o m_.0 f.3, comm owed.1, (let l = m_.8 in let s = f.5 in omega (arith, l, s)), m_.1, subst (λ z. Under z answer) (fr.3 ∙ m_.3) given.0),
                    owed.2,
                    m_.2 ∙ f.5,
                    gc.1,
                  )
              at_spawn (Trapped p l q) says =
                  let last = says.0 in
                  let fr = framed says.2 rest u gc.0 parted.2 below in
                  let trap = along_at _ _ (serially last fr.0) rest last says.3 (along last says.1 rest fr.0 fr.4 fr.2 (subst (λ z. Under z rest) (sym fr.3) below)) in
                  (inside last x t, fr.0, count (omega arith) (chain f.2 (quiet called (nested x t fr.1))), within_at x t last fr.0 _ trap)
              at_spawn Spent says =
                  let fr = framed says.comes rest u gc.0 parted.2 below in
                  let small : m ≤ n = subst (λ z. Bounds m z) is (bounded k) in
                  let l = says.more in
                  record { out = out ++ says.out; used = own + n + says.used; last = inside says.last x t; held = fr.0; comes = chain f.2 (quiet called (nested x t fr.1)); more = omega (arith, small, l) }

    given_says : (c : Control) (h k w : Stack) (start : ℕ) (e : End) → Given Control Stack Destination e k w → Sees c h start e k → Sees c h start e w
    given_says c h k w start (Done out v n) g s = subst (λ z. Sees c h start (Done out v n) z) (sym g) s
    given_says c h k w start (Trapped out k_ n) g s = s
    given_says c h k w start Spent g s = s

    pub given_itself : (e : End) (h : Stack) → Given Control Stack Destination e h h
    given_itself (Done out v n) h = refl
    given_itself (Trapped out k n) h = tt
    given_itself Spent h = tt

    -- the ends that the rules allow are those of the elision
    pub means : {start own : ℕ} {c : Control} {h w : Stack} {log : Log} {e : End} → Ends start own c h log e w → (c0 : Control) (h0 : Stack) → Follows c0 h0 start own c h log (so log) → Sees c0 h0 start e w
    means (at_stop {start = start} {h = h} {w = w} {e = e} s d g) c0 h0 f = given_says c0 h0 h w start e g (decided c0 h0 _ refl f s d)
    means (at_silent {start = start} {own = own} {log = log} e r) c0 h0 f = means r c0 h0 (follows_silent c0 h0 start own log e (so log) f)
    means (at_tick {start = start} {own = own} {log = log} e k l r) c0 h0 f = means r c0 h0 (follows_tick c0 h0 start own log e (so log) f)
    means (at_print {start = start} {own = own} {log = log} e r) c0 h0 f = means r c0 h0 (follows_print c0 h0 start own log e (so log) f)
    means (at_join {start = start} {own = own} {t = t} {g = g} {log = log} {more = more} e j k l r) c0 h0 f =
        means r c0 h0 (subst (λ z. Follows c0 h0 start own t g more z) (sym (joined_sofar j)) (follows_join c0 h0 start own e j (so log) f))
    means (at_part {start = start} {own = own} {call = call} {lent = lent} {answer = answer} {log = log} {a = a} e k early r) c0 h0 f =
        means r c0 h0 (follows_part c0 h0 start own log answer e k (so log) refl f a (λ w. means early call lent (empty, lent, count (omega arith) here, refl, nothing lent, refl, w)))
    means (at_return {start = start} {own = own} {c = c} {g = g} {log = log} {more = more} y r) c0 h0 f =
        means r c0 h0 (subst (λ z. Follows c0 h0 start own c g more z) (sym (back_sofar y)) (follows_back c0 h0 start own c y (so log) f))

    -- ---- an answer may as well be told at the spawn
    abbrev Told_ : Log → Type 0
    Told_ = AllTold Control Stack Destination

    -- the awaited answers of a log are filled in
    pub data Fills : Log → Log → Type 0 where
      empty_ : Fills [] []
      number_ : {v : ℤ} {log more : Log} → Fills log more → Fills (printed v ∷ log) (printed v ∷ more)
      kept_ : {d o : ℕ} {x : Destination} {j : Bool} {q : Ask Control Stack Destination} {e : End} {w : Stack} {log more : Log} → Fills log more → Fills (child d o x j q (told e w) ∷ log) (child d o x j q (told e w) ∷ more)
      filled_ : {d o : ℕ} {x : Destination} {j : Bool} {q : Ask Control Stack Destination} {e : End} {w : Stack} {log more : Log} → Ends q.start 0 q.call q.lent [] e w → Fills log more → Fills (child d o x j q awaited ∷ log) (child d o x j q (told e w) ∷ more)

    fills_itself : (log : Log) → Told_ log → Fills log log
    fills_itself [] t = empty_
    fills_itself (printed v ∷ log) t = number_ (fills_itself log t)
    fills_itself (child d o x j q awaited ∷ log) t = absurd t
    fills_itself (child d o x j q (told e w) ∷ log) t = kept_ (fills_itself log t)

    pub counts_filled : {log more : Log} {m : ℕ} → Fills log more → Counts Control Stack Destination log m → Counts Control Stack Destination more m
    counts_filled empty_ none = none
    counts_filled (number_ f) (past c) = past (counts_filled f c)
    counts_filled (kept_ f) (counted c) = counted (counts_filled f c)
    counts_filled (kept_ f) (skipped c) = skipped (counts_filled f c)
    counts_filled (filled_ e f) (skipped c) = skipped (counts_filled f c)

    joins_filled : {d : ℕ} {log more late : Log} {h g : Stack} → Meets d log h more g → Fills more late → (early : Log) × Fills log early × Meets d early h late g
    joins_filled none empty_ = ([], empty_, none)
    joins_filled (past j) (number_ f) = let r = joins_filled j f in (_, number_ r.1, past r.2)
    joins_filled (before j) (kept_ f) = let r = joins_filled j f in (_, kept_ r.1, before r.2)
    joins_filled (before j) (filled_ e f) = let r = joins_filled j f in (_, filled_ e r.1, before r.2)
    joins_filled (other ne j) (kept_ f) = let r = joins_filled j f in (_, kept_ r.1, other ne r.2)
    joins_filled (other ne j) (filled_ e f) = let r = joins_filled j f in (_, filled_ e r.1, other ne r.2)
    joins_filled (taken s j) (kept_ f) = let r = joins_filled j f in (_, kept_ r.1, taken s r.2)

    back_filled : {log more late : Log} {h g : Stack} → Back log h more g → Fills more late → (early : Log) × Fills log early × Back early h late g
    back_filled (this y s) (kept_ f) = (_, kept_ f, this y s)
    back_filled (deeper y) (number_ f) = let r = back_filled y f in (_, number_ r.1, deeper r.2)
    back_filled (deeper y) (kept_ f) = let r = back_filled y f in (_, kept_ r.1, deeper r.2)
    back_filled (deeper y) (filled_ e f) = let r = back_filled y f in (_, filled_ e r.1, deeper r.2)

    abbrev SomePiece : Type 0
    SomePiece = Piece Control Stack Destination

    abbrev Forks : SomePiece → End → Stack → Type 0
    Forks = Fork Control Stack Destination Joins TakesOut settle depth step

    abbrev Leads : SomePiece → SomePiece → Type 0
    Leads = Goes Control Stack Destination Joins TakesOut settle depth step

    abbrev Learns : Log → Log → Type 0
    Learns = Hears Control Stack Destination Joins TakesOut settle depth step

    abbrev Soon : SomePiece → End → Stack → Type 0
    Soon p e w = (log : Log) × Fills p.log log × Ends p.start p.own p.control p.held log e w

    nothing_filled : {log : Log} → Fills [] log → [] ≡ log
    nothing_filled empty_ = refl

    pub of_ask : {q : Ask Control Stack Destination} {e : End} {w : Stack} → (log : Log) × Fills [] log × Ends q.start 0 q.call q.lent log e w → Ends q.start 0 q.call q.lent [] e w
    of_ask {q = q} {e = e} {w = w} r = subst (λ z. Ends q.start 0 q.call q.lent z e w) (sym (nothing_filled r.1)) r.2

    after_number : {start own : ℕ} {v : ℤ} {c t : Control} {h g w : Stack} {log late : Log} {e : End} → step c h ≡ prints v t g → Fills (printed v ∷ log) late → Ends start own t g late e w → (more : Log) × Fills log more × Ends start own c h more e w
    after_number e (number_ f) r = (_, f, at_print e r)

    after_spawn : {start own m : ℕ} {c t call : Control} {h g w lent : Stack} {x : Destination} {log late : Log} {e : End} → step c h ≡ spawns call lent x t g → Counts Control Stack Destination log m
        → Fills (child (depth c) own x false (record { start = start - (own + m); call = call; lent = lent }) awaited ∷ log) late → Ends start own t g late e w → (more : Log) × Fills log more × Ends start own c h more e w
    after_spawn e k (filled_ a f) r = (_, f, at_part e (counts_filled f k) a r)

    mutual
      early : {p : SomePiece} {e : End} {w : Stack} → Forks p e w → Soon p e w
      early (stops {log = log} s t d g) = (log, fills_itself log t, at_stop s d g)
      early (goes {q = q} g f) = backward g (early f)

      backward : {p q : SomePiece} {e : End} {w : Stack} → Leads p q → Soon q e w → Soon p e w
      backward (silently e) r = (r.0, r.1, at_silent e r.2)
      backward (ticking e k l) r = (r.0, r.1, at_tick e (counts_filled r.1 k) l r.2)
      backward (showing {v = v} e) r = after_number e r.1 r.2
      backward (joining e j k l) r = let q = joins_filled j r.1 in (q.0, q.1, at_join e q.2 (counts_filled r.1 k) l r.2)
      backward (parting e k) r = after_spawn e k r.1 r.2
      backward (hearing h) r = (r.0, unheard h r.1, r.2)
      backward (returning y) r = let q = back_filled y r.1 in (q.0, q.1, at_return q.2 r.2)

      unheard : {log more late : Log} → Learns log more → Fills more late → Fills log late
      unheard (this {q = q} f) (kept_ r) = filled_ (of_ask {q = q} (early f)) r
      unheard (deeper h) (number_ r) = number_ (unheard h r)
      unheard (deeper h) (kept_ r) = kept_ (unheard h r)
      unheard (deeper h) (filled_ e r) = filled_ e (unheard h r)

    -- a call's own beginning
    pub begins : (q : Ask Control Stack Destination) → Good q.call q.lent → Follows q.call q.lent q.start 0 q.call q.lent [] (going [] 0)
    begins q w = (empty, q.lent, count (omega arith) here, refl, nothing q.lent, refl, w)

    -- each end of a call's piece is the end of the call's elision
    pub forks_mean : (q : Ask Control Stack Destination) (e : End) (w : Stack) → Good q.call q.lent → Forks (begun Control Stack Destination q) e w → Sees q.call q.lent q.start e w
    forks_mean q e w good f = means (of_ask {q = q} (early f)) q.call q.lent (begins q good)
