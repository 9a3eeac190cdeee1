-- There is always an end: over steps that meet the laws and lower a weight, a piece from which no stuck one is reached
-- comes to an end that the rules allow. A child's end is found at its spawn.
use Rattle.std.proofs.Common.{◌≡◌, ◌≢◌, ℕ, zero, suc, ◌+◌, ◌-◌, ◌<◌, ◌≤◌, List, [], ◌∷◌, Option, refl, sym, ◌∙◌, subst, arith, inl, inr}
use Rattle.std.specs.Prelude.{◌⊎◌, Bool, true, false, ℤ, ⊤}
use Rattle.cm_syntax.specs.Label.{Step, silent, ticks, prints, spawns, syncs, traps, ends, stuck}
use Rattle.cm_meaning.specs.End.{End, Done, Trapped, Spent}
use Rattle.cm_meaning.specs.Piece.{returns, fails, runs_out, Sum, going, trapped, spent, Capped, fits, passes, Decides, all_done, own_trap, own_spent, child_trap, child_spent, add_end, add_number, Ask, Answer, awaited, told, Note, printed, child, Piece, piece, begun, HasNote, here, log_sum, Counts, none, past, counted, AllTold, AllDone, Fallen, by_trap, by_spent, later, Collects, before, other, taken, by_return, by_tick, by_sync, by_child, Goes, silently, ticking, showing, joining, parting, hearing, returning, GivesBack, this, deeper, Fork, stops, goes}
use Rattle.cm_meaning.proofs.ForkLaw as fork
use Rattle.cm_meaning.proofs.ForkLaw.{Laws, Early, at_stop, at_silent, at_tick, at_print, at_join, at_part, at_return}

-- one of two numbers is at most the other, and two numbers are equal or not
pub at_most : (a b : ℕ) → (a ≤ b) ⊎ (b < a)
at_most zero b = inl (omega arith)
at_most (suc a) zero = inr (omega arith)
at_most (suc a) (suc b) = elim (at_most a b) [ inl l ↦ inl (omega (arith, l)) | inr l ↦ inr (omega (arith, l)) ]

pub equal_or : (a b : ℕ) → (a ≡ b) ⊎ (a ≢ b)
equal_or a b = elim (at_most a b) [ inl l ↦ elim (at_most b a) [ inl m ↦ inl (omega (arith, l, m)) | inr m ↦ inr (λ e. omega (arith, m, e)) ] | inr l ↦ inr (λ e. omega (arith, l, e)) ]

pub capped : (start n : ℕ) (e : End) → (d : End) × Capped start n e d
capped start n e = elim (at_most n start) [ inl l ↦ (e, fits l) | inr l ↦ (Spent, passes l) ]

module _ (Control Stack Destination : Type 0) (Joins : Stack → Stack → Stack → Type 0) (TakesOut : (back rest given : Stack) → Type 0) (settle : Destination → Option ℤ → Stack → Stack) (depth : Control → ℕ) (step : Control → Stack → Step Control Stack Destination) (inside : Control → Destination → Control → Control) where
  module _ (laws : Laws Control Stack Destination Joins TakesOut settle depth step inside) where
    open laws use {comm, assoc, floor, base, Good, good_step}

    abbrev Move : Type 0
    Move = Step Control Stack Destination

    abbrev Log : Type 0
    Log = List (Note Control Stack Destination)

    abbrev SomePiece : Type 0
    SomePiece = Piece Control Stack Destination

    abbrev Meets : ℕ → Log → Stack → Log → Stack → Type 0
    Meets = Collects Control Stack Destination Joins TakesOut settle depth step

    abbrev Owed : (low high : ℕ) → Log → Stack → Type 0
    Owed = fork.Owed Control Stack Destination Joins TakesOut settle depth step inside laws

    abbrev Follows : (c0 : Control) → (h0 : Stack) → (start own : ℕ) → Control → Stack → Log → Sum → Type 0
    Follows = fork.Follows Control Stack Destination Joins TakesOut settle depth step inside laws

    abbrev Sees : Control → Stack → ℕ → End → Stack → Type 0
    Sees = fork.Sees Control Stack Destination Joins TakesOut settle depth step inside laws

    abbrev Ends : (start own : ℕ) → Control → Stack → Log → End → Stack → Type 0
    Ends = Early Control Stack Destination Joins TakesOut settle depth step inside

    abbrev Forks : SomePiece → End → Stack → Type 0
    Forks = Fork Control Stack Destination Joins TakesOut settle depth step

    abbrev Leads : SomePiece → SomePiece → Type 0
    Leads = Goes Control Stack Destination Joins TakesOut settle depth step

    abbrev so : Log → Sum
    so = log_sum Control Stack Destination

    abbrev Falls : Sum → Type 0
    Falls = fork.Falls Control Stack Destination Joins TakesOut settle depth step inside laws

    abbrev Told : Log → Type 0
    Told = AllTold Control Stack Destination

    joins_exist : (d b n : ℕ) (log : Log) (h o u : Stack) → Owed b n log o → Joins h o u → (more : Log) × (g : Stack) × Meets d log h more g
    joins_exist d b n [] h o u e s = ([], h, none)
    joins_exist d b n (printed v ∷ log) h o u e s = let r = joins_exist d b n log h o u e s in (_, r.1, past r.2)
    joins_exist d b n (child k at x true q a ∷ log) h o u e s = let r = joins_exist d b n log h o u e s in (_, r.1, before r.2)
    joins_exist d b n (child k at x false q (told (Done out v m) w) ∷ log) h o u e s = elim (equal_or k d) [
      | inl same_depth ↦ let r = assoc (comm e.2) (comm s) in let y = joins_exist d b n log r.0 e.0 u e.1 (comm r.2) in
          let j : Meets d (child d at x false q (told (Done out v m) w) ∷ log) h (child d at x true q (told (Done out v m) w) ∷ y.0) y.1 = taken (comm r.1) y.2 in
          (_, y.1, subst (λ z. Meets d (child z at x false q (told (Done out v m) w) ∷ log) h (child d at x true q (told (Done out v m) w) ∷ y.0) y.1) (sym same_depth) j)
      | inr differs ↦ let r = assoc e.2 (comm s) in let y = joins_exist d b n log h e.0 r.0 e.1 (comm r.1) in (_, y.1, other differs y.2)
    ]
    joins_exist d b n (child k at x false q (told (Trapped out t m) w) ∷ log) h o u e s = absurd e
    joins_exist d b n (child k at x false q (told Spent w) ∷ log) h o u e s = absurd e
    joins_exist d b n (child k at x false q awaited ∷ log) h o u e s = absurd e

    pub joined_told : {d : ℕ} {log more : Log} {h g : Stack} → Meets d log h more g → Told log → Told more
    joined_told none t = tt
    joined_told (past j) t = joined_told j t
    joined_told (before {r = awaited} j) t = absurd t
    joined_told (before {r = told e w} j) t = joined_told j t
    joined_told (other {r = awaited} n j) t = absurd t
    joined_told (other {r = told e w} n j) t = joined_told j t
    joined_told (taken s j) t = joined_told j t

    -- all children are Done, and their ticks may be counted; or some child isn't Done
    abbrev pub Complete : Log → Sum → Type 0
    Complete log (going out n) = Counts Control Stack Destination log n × AllDone Control Stack Destination log
    Complete log _ = Fallen Control Stack Destination log

    pub complete : (log : Log) → Told log → Complete log (so log)
    complete [] t = (none, tt)
    complete (printed v ∷ log) t = by (so log) (complete log t)
      where
        by : (z : Sum) → Complete log z → Complete (printed v ∷ log) (add_number z v)
        by (going out n) c = (past c.0, c.1)
        by (trapped out k n) f = later f
        by spent f = later f
    complete (child d at x j q awaited ∷ log) t = absurd t
    complete (child d at x j q (told e w) ∷ log) t = by e (so log) (complete log t)
      where
        by : (e : End) (z : Sum) → Complete log z → Complete (child d at x j q (told e w) ∷ log) (add_end z at e)
        by (Done p v m) (going out n) c = (counted c.0, (tt, c.1))
        by (Trapped p k m) (going out n) c = by_trap
        by Spent (going out n) c = by_spent
        by e (trapped out k n) f = later f
        by e spent f = later f

    abbrev new : (start own : ℕ) → Control → Stack → Log → SomePiece
    new = piece Control Stack Destination

    abbrev call_of : Ask Control Stack Destination → SomePiece
    call_of = begun Control Stack Destination

    back_told : {log more : Log} {h g : Stack} → GivesBack Control Stack Destination Joins TakesOut settle depth step log h more g → Told log → Told more
    back_told (this y s) t = t
    back_told (deeper {n = printed v} y) t = back_told y t
    back_told (deeper {n = child d at x j q awaited} y) t = absurd t
    back_told (deeper {n = child d at x j q (told e w)} y) t = back_told y t

    -- what is told at the spawn may as well come later
    pub later_on : {start own : ℕ} {c : Control} {h w : Stack} {log : Log} {e : End} → Told log → Ends start own c h log e w → Forks (new start own c h log) e w
    later_on t (at_stop s d g) = stops s t d g
    later_on t (at_silent e r) = goes (silently e) (later_on t r)
    later_on t (at_tick e k l r) = goes (ticking e k l) (later_on t r)
    later_on t (at_print e r) = goes (showing e) (later_on t r)
    later_on t (at_join e j k l r) = goes (joining e j k l) (later_on (joined_told j t) r)
    later_on t (at_part e k a r) = goes (parting e k) (goes (hearing (this (later_on tt a))) (later_on t r))
    later_on t (at_return y r) = goes (returning y) (later_on (back_told y t) r)

    -- what acceptance gives: a judgement that the rules keep and that no stuck piece meets
    pub record Fine : Type 1 where
      pub Okay : SomePiece → Type 0
      pub not_stuck : {p : SomePiece} → Okay p → step p.control p.held ≡ stuck → ⊥
      pub goes_okay : {p q : SomePiece} → Okay p → Leads p q → Okay q
      pub child_okay : {p : SomePiece} {d o : ℕ} {x : Destination} {j : Bool} {q : Ask Control Stack Destination} {r : Answer Control Stack Destination} → Okay p → HasNote Control Stack Destination p.log (child d o x j q r) → Okay (call_of q)

    abbrev Finds : (start own : ℕ) → Control → Stack → Log → Type 0
    Finds start own c h log = (e : End) × (w : Stack) × Ends start own c h log e w

    -- a piece one of whose children isn't Done may end at once
    ends_early : (start own : ℕ) (c : Control) (h : Stack) (log : Log) → Falls (so log) → Fallen Control Stack Destination log → Finds start own c h log
    ends_early start own c h log falls f = by (so log) refl falls
      where
        by : (z : Sum) → so log ≡ z → Falls z → Finds start own c h log
        by (going out n) e never = absurd never
        by (trapped out k n) e falls = let q = capped start n (Trapped out k n) in (q.0, h, at_stop (by_child f) (subst (λ z. Decides start own z runs_out q.0) (sym e) (child_trap q.1)) (fork.given_itself Control Stack Destination Joins TakesOut settle depth step inside laws q.0 h))
        by spent e falls = (Spent, h, at_stop (by_child f) (subst (λ z. Decides start own z runs_out Spent) (sym e) child_spent) tt)

    -- a step but a tick leads to less weight; of a spawn both the child and the continuation
    abbrev pub Lighter : (weight : Control → ℕ) → Control → Move → Type 0
    Lighter weight c (silent t g) = weight t < weight c
    Lighter weight c (prints v t g) = weight t < weight c
    Lighter weight c (spawns call lent x t g) = (weight call < weight c) × (weight t < weight c)
    Lighter weight c (syncs t) = weight t < weight c
    Lighter weight c _ = ⊤

    module _ (weight : Control → ℕ) (lighter : (c : Control) (h : Stack) → Lighter weight c (step c h)) (fine : Fine) where
      open fine use {Okay, not_stuck, goes_okay, child_okay}

      -- a piece of an accepted program, behind its call
      pub record At (start own : ℕ) (c : Control) (h : Stack) (log : Log) : Type 0 where
        pub call : Control
        pub lent : Stack
        pub follows : Follows call lent start own c h log (so log)
        pub told_all : Told log
        pub okay : Okay (new start own c h log)

      -- as many ticks as are left where all Done children are counted
      abbrev Left : (start own left : ℕ) → Sum → Type 0
      Left start own left (going out n) = start ≤ own + n + left
      Left start own left _ = ⊤

      abbrev Goal : ℕ → ℕ → Type 0
      Goal left bound = (start own : ℕ) (c : Control) (h : Stack) (log : Log) → At start own c h log → Left start own left (so log) → weight c < bound → Finds start own c h log

      left_on : (start own left : ℕ) (v : ℤ) (z : Sum) → Left start own left z → Left start own left (add_number z v)
      left_on start own left v (going out n) l = l
      left_on start own left v (trapped out k n) l = l
      left_on start own left v spent l = l

      left_child : (start own left at : ℕ) (e : End) (z : Sum) → Left start own left z → Left start own left (add_end z at e)
      left_child start own left at (Done p v q) (going out n) l = omega (arith, l)
      left_child start own left at (Trapped p v q) (going out n) l = tt
      left_child start own left at Spent (going out n) l = tt
      left_child start own left at e (trapped out k n) l = tt
      left_child start own left at e spent l = tt

      one_less : (left : ℕ) → 0 < left → (l : ℕ) × (left ≡ suc l)
      one_less zero l = absurd (omega (arith, l))
      one_less (suc n) l = (n, refl)

      -- all Done: the piece takes its next step
      by_going : (left bound start own : ℕ) (c : Control) (h : Stack) (log : Log) (out : List ℤ) (n : ℕ) → At start own c h log → so log ≡ going out n → Counts Control Stack Destination log n → start ≤ own + n + left → weight c < suc bound
          → ((l : ℕ) → left ≡ suc l → (b : ℕ) → Goal l b) → Goal left bound → (x : Move) → step c h ≡ x → Lighter weight c x → Finds start own c h log
      by_going left bound start own c h log out n a is k l light fewer again (silent t g) e w =
          let r = again start own t g log (record { call = a.call; lent = a.lent; follows = fork.follows_silent Control Stack Destination Joins TakesOut settle depth step inside laws a.call a.lent start own log e (so log) a.follows; told_all = a.told_all; okay = goes_okay a.okay (silently e) }) (subst (λ z. Left start own left z) (sym is) l) (omega (arith, w, light)) in
          (r.0, r.1, at_silent e r.2)
      by_going left bound start own c h log out n a is k l light fewer again (prints v t g) e w =
          let r = again start own t g (printed v ∷ log) (record { call = a.call; lent = a.lent; follows = fork.follows_print Control Stack Destination Joins TakesOut settle depth step inside laws a.call a.lent start own log e (so log) a.follows; told_all = a.told_all; okay = goes_okay a.okay (showing e) }) (left_on start own left v (so log) (subst (λ z. Left start own left z) (sym is) l)) (omega (arith, w, light)) in
          (r.0, r.1, at_print e r.2)
      by_going left bound start own c h log out n a is k l light fewer again (ticks t g) e w = elim (at_most start (own + n)) [
        | inl over ↦ (Spent, h, at_stop (by_tick e k over) (subst (λ z. Decides start own z runs_out Spent) (sym is) own_spent) tt)
        | inr fit ↦
            let p = one_less left (omega (arith, fit, l)) in
            let r = fewer p.0 p.1 (suc (weight t)) start (suc own) t g log
            (record { call = a.call; lent = a.lent; follows = fork.follows_tick Control Stack Destination Joins TakesOut settle depth step inside laws a.call a.lent start own log e (so log) a.follows; told_all = a.told_all; okay = goes_okay a.okay (ticking e k fit) })
            (subst (λ z. Left start (suc own) p.0 z) (sym is) (let q = p.1 in omega (arith, l, q))) (omega arith) in
            (r.0, r.1, at_tick e k fit r.2)
      ]
      by_going left bound start own c h log out n a is k l light fewer again (spawns call lent x t g) e w =
          let f = subst (λ z. Follows a.call a.lent start own c h log z) is a.follows in
          let start_at : Follows call lent (start - (own + n)) 0 call lent [] (going [] 0) = fork.begins Control Stack Destination Joins TakesOut settle depth step inside laws (record { start = start - (own + n); call = call; lent = lent }) (fork.step_good Control Stack Destination Joins TakesOut settle depth step inside laws c h _ e f.6).0 in
          let y = again (start - (own + n)) 0 call lent [] (record { call = call; lent = lent; follows = start_at; told_all = tt; okay = child_okay (goes_okay a.okay (parting e k)) here }) (omega (arith, l)) (omega (arith, w.0, light)) in
          let says = fork.means Control Stack Destination Joins TakesOut settle depth step inside laws y.2 call lent start_at in
          let r = again start own t g (child (depth c) own x false (record { start = start - (own + n); call = call; lent = lent }) (told y.0 y.1) ∷ log)
          (record { call = a.call; lent = a.lent; follows = fork.follows_part Control Stack Destination Joins TakesOut settle depth step inside laws a.call a.lent start own log y.1 e k (so log) refl a.follows y.0 (λ z. says); told_all = a.told_all; okay = goes_okay (goes_okay a.okay (parting e k)) (hearing (this (later_on tt y.2))) })
          (left_child start own left own y.0 (so log) (subst (λ z. Left start own left z) (sym is) l)) (omega (arith, w.1, light)) in
          (r.0, r.1, at_part {w = r.1} {e = r.0} e k y.2 r.2)
      by_going left bound start own c h log out n a is k l light fewer again (syncs t) e w =
          let f = subst (λ z. Follows a.call a.lent start own c h log z) is a.follows in
          let j = joins_exist (depth c) (base a.call) (floor c) log h f.0 f.1 f.3 f.4 in
          let same_sofar : so j.0 ≡ going out n = fork.joined_sofar Control Stack Destination Joins TakesOut settle depth step inside laws j.2 ∙ is in
          let all : Counts Control Stack Destination j.0 n = (subst (λ z. Complete j.0 z) same_sofar (complete j.0 (joined_told j.2 a.told_all))).0 in
          elim (at_most (own + n) start) [
            | inl fit ↦
                let r = again start own t j.1 j.0
                (record { call = a.call; lent = a.lent; follows = subst (λ z. Follows a.call a.lent start own t j.1 j.0 z) (sym (fork.joined_sofar Control Stack Destination Joins TakesOut settle depth step inside laws j.2)) (fork.follows_join Control Stack Destination Joins TakesOut settle depth step inside laws a.call a.lent start own e j.2 (so log) a.follows); told_all = joined_told j.2 a.told_all; okay = goes_okay a.okay (joining e j.2 all fit) })
                (subst (λ z. Left start own left z) (sym same_sofar) l) (omega (arith, w, light)) in
                (r.0, r.1, at_join {w = r.1} {e = r.0} e j.2 all fit r.2)
            | inr over ↦ (Spent, h, at_stop (by_sync e j.2 all over) (subst (λ z. Decides start own z runs_out Spent) (sym is) own_spent) tt)
          ]
      by_going left bound start own c h log out n a is k l light fewer again (traps q) e w =
          let d = capped start (own + n) (Trapped out q (own + n)) in (d.0, h, at_stop (by_trap e) (subst (λ z. Decides start own z (fails q) d.0) (sym is) (own_trap d.1)) (fork.given_itself Control Stack Destination Joins TakesOut settle depth step inside laws d.0 h))
      by_going left bound start own c h log out n a is k l light fewer again (ends v) e w =
          let d = capped start (own + n) (Done out v (own + n)) in (d.0, h, at_stop (by_return e) (subst (λ z. Decides start own z (returns v) d.0) (sym is) (all_done d.1)) (fork.given_itself Control Stack Destination Joins TakesOut settle depth step inside laws d.0 h))
      by_going left bound start own c h log out n a is k l light fewer again stuck e w = absurd (not_stuck a.okay e)

      by_sofar : (left bound start own : ℕ) (c : Control) (h : Stack) (log : Log) → At start own c h log → weight c < suc bound → ((l : ℕ) → left ≡ suc l → (b : ℕ) → Goal l b) → Goal left bound
          → (z : Sum) → so log ≡ z → Complete log z → Left start own left z → Finds start own c h log
      by_sofar left bound start own c h log a light fewer again (going out n) is k l = by_going left bound start own c h log out n a is k.0 l light fewer again (step c h) refl (lighter c h)
      by_sofar left bound start own c h log a light fewer again (trapped out t n) is k l = ends_early start own c h log (subst (λ z. Falls z) (sym is) tt) k
      by_sofar left bound start own c h log a light fewer again spent is k l = ends_early start own c h log (subst (λ z. Falls z) (sym is) tt) k

      by_weight : (left : ℕ) → ((l : ℕ) → left ≡ suc l → (bound : ℕ) → Goal l bound) → (bound : ℕ) → Goal left bound
      by_weight left fewer zero start own c h log a l light = absurd (omega (arith, light))
      by_weight left fewer (suc bound) start own c h log a l light = by_sofar left bound start own c h log a light fewer (by_weight left fewer bound) (so log) refl (complete log a.told_all) l

      by_left : (left bound : ℕ) → Goal left bound
      by_left zero bound = by_weight zero (λ l e. absurd (omega (arith, e))) bound
      by_left (suc left) bound = by_weight (suc left) (λ l e. subst (λ k. (bound : ℕ) → Goal k bound) (down left l e) (by_left left)) bound
        where
          down : (left l : ℕ) → suc left ≡ suc l → left ≡ l
          down left l e = omega (arith, e)

      -- each piece of an accepted call has an end
      pub always : (q : Ask Control Stack Destination) → Good q.call q.lent → Okay (call_of q) → Finds q.start 0 q.call q.lent []
      always q good okay = by_left q.start (suc (weight q.call)) q.start 0 q.call q.lent [] (record { call = q.call; lent = q.lent; follows = fork.begins Control Stack Destination Joins TakesOut settle depth step inside laws q good; told_all = tt; okay = okay }) (omega arith) (omega arith)

      -- and so the rules lead to an end
      pub fork_end : (q : Ask Control Stack Destination) → Good q.call q.lent → Okay (call_of q) → (e : End) × (w : Stack) × Forks (call_of q) e w
      fork_end q good okay = let a = always q good okay in (a.0, a.1, later_on tt a.2)
