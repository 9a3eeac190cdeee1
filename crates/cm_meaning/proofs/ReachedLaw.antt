-- Reached pieces of a call whose elision ends by a value: each stands in a shadow that goes on to this value. So its
-- live calls are those of a state of the elision, and where it comes to its end it has returned and all its children are
-- Done.
use Rattle.std.proofs.Common.{◌≡◌, ℕ, ◌+◌, ◌-◌, ◌≤◌, List, [], ◌∷◌, ◌++◌, Option, refl, sym, ap, ◌∙◌, subst, arith}
use Rattle.std.specs.Prelude.{Bool, true, false, ℤ, ⊤}
use Rattle.cm_syntax.specs.Trap.{Trap}
use Rattle.cm_syntax.specs.Label.{Step, spawns, traps, ends}
use Rattle.cm_meaning.specs.End.{End, Done, Trapped, Spent}
use Rattle.cm_meaning.specs.Elision.{Comes, quiet}
use Rattle.cm_meaning.specs.Piece.{Own, fails, runs_out, IsDone, Sum, going, trapped, spent, Capped, fits, passes, Decides, own_trap, own_spent, add_end, Ask, Answer, awaited, told, Note, printed, child, Piece, piece, begun, HasNote, here, deeper, log_sum, Counts, AllDone, Fallen, by_trap, by_spent, later, Stops, Collects, none, past, before, other, taken, by_return, by_tick, by_sync, by_child, Goes, silently, ticking, showing, joining, parting, hearing, returning, GivesBack, Hears, this, Fork, Reached, itself, then, its_child}
use Rattle.cm_meaning.proofs.EndLaw as finish
use Rattle.cm_meaning.proofs.ForkLaw as fork
use Rattle.cm_meaning.proofs.ForkLaw.{Laws, Early, Moves, empty_, number_, kept_, filled_}
use Rattle.cm_meaning.proofs.ExistenceLaw as existence
use Rattle.cm_meaning.proofs.ExistenceLaw.{Fine, Lighter, capped}

no_cap : {start n m a : ℕ} {o p : List ℤ} {k : Trap} {v : Option ℤ} {d : End} → Capped start n (Trapped o k m) d → Done p v a ≡ d → ⊥
no_cap (fits l) e = cc e
no_cap (passes l) e = cc e

module _ (Control Stack Destination : Type 0) (Joins : Stack → Stack → Stack → Type 0) (TakesOut : (back rest given : Stack) → Type 0) (settle : Destination → Option ℤ → Stack → Stack) (depth : Control → ℕ) (step : Control → Stack → Step Control Stack Destination) (inside : Control → Destination → Control → Control) where
  module _ (laws : Laws Control Stack Destination Joins TakesOut settle depth step inside) where
    open laws use {comm, assoc, Under, under_more, under_sum, floor, base, Good}

    abbrev Move : Type 0
    Move = Step Control Stack Destination

    abbrev Log : Type 0
    Log = List (Note Control Stack Destination)

    abbrev SomePiece : Type 0
    SomePiece = Piece Control Stack Destination

    abbrev Meets : ℕ → Log → Stack → Log → Stack → Type 0
    Meets = Collects Control Stack Destination Joins TakesOut settle depth step

    abbrev Runs : Control → Stack → List ℤ → ℕ → Control → Stack → Type 0
    Runs = Comes Control Stack Destination step inside

    abbrev Owed : (low high : ℕ) → Log → Stack → Type 0
    Owed = fork.Owed Control Stack Destination Joins TakesOut settle depth step inside laws

    abbrev Follows : (c0 : Control) → (h0 : Stack) → (start own : ℕ) → Control → Stack → Log → Sum → Type 0
    Follows = fork.Follows Control Stack Destination Joins TakesOut settle depth step inside laws

    abbrev Sees : Control → Stack → ℕ → End → Stack → Type 0
    Sees = fork.Sees Control Stack Destination Joins TakesOut settle depth step inside laws

    abbrev Ends : (start own : ℕ) → Control → Stack → Log → End → Stack → Type 0
    Ends = Early Control Stack Destination Joins TakesOut settle depth step inside

    abbrev Fills : Log → Log → Type 0
    Fills = fork.Fills Control Stack Destination Joins TakesOut settle depth step inside laws

    abbrev Forks : SomePiece → End → Stack → Type 0
    Forks = Fork Control Stack Destination Joins TakesOut settle depth step

    abbrev Leads : SomePiece → SomePiece → Type 0
    Leads = Goes Control Stack Destination Joins TakesOut settle depth step

    abbrev Learns : Log → Log → Type 0
    Learns = Hears Control Stack Destination Joins TakesOut settle depth step

    abbrev Halts : (start own : ℕ) → Control → Stack → Log → Own → Type 0
    Halts = Stops Control Stack Destination Joins TakesOut settle depth step

    abbrev so : Log → Sum
    so = log_sum Control Stack Destination

    abbrev Falls : Sum → Type 0
    Falls = fork.Falls Control Stack Destination Joins TakesOut settle depth step inside laws

    abbrev new : (start own : ℕ) → Control → Stack → Log → SomePiece
    new = piece Control Stack Destination

    abbrev Finds : (start own : ℕ) → Control → Stack → Log → Type 0
    Finds start own c h log = (e : End) × (w : Stack) × Ends start own c h log e w

    abbrev call_of : Ask Control Stack Destination → SomePiece
    call_of = begun Control Stack Destination

    joins_fill : {d : ℕ} {log more full : Log} {h g : Stack} → Meets d log h more g → Fills log full → (late : Log) × Fills more late × Meets d full h late g
    joins_fill none empty_ = ([], empty_, none)
    joins_fill (past j) (number_ f) = let r = joins_fill j f in (_, number_ r.1, past r.2)
    joins_fill (before j) (kept_ f) = let r = joins_fill j f in (_, kept_ r.1, before r.2)
    joins_fill (before j) (filled_ e f) = let r = joins_fill j f in (_, filled_ e r.1, before r.2)
    joins_fill (other ne j) (kept_ f) = let r = joins_fill j f in (_, kept_ r.1, other ne r.2)
    joins_fill (other ne j) (filled_ e f) = let r = joins_fill j f in (_, filled_ e r.1, other ne r.2)
    joins_fill (taken s j) (kept_ f) = let r = joins_fill j f in (_, kept_ r.1, taken s r.2)

    abbrev Back : Log → Stack → Log → Stack → Type 0
    Back = GivesBack Control Stack Destination Joins TakesOut settle depth step

    back_fill : {log more full : Log} {h g : Stack} → Back log h more g → Fills log full → (late : Log) × Fills more late × Back full h late g
    back_fill (this y s) (kept_ f) = (_, kept_ f, this y s)
    back_fill (deeper y) (number_ f) = let r = back_fill y f in (_, number_ r.1, deeper r.2)
    back_fill (deeper y) (kept_ f) = let r = back_fill y f in (_, kept_ r.1, deeper r.2)
    back_fill (deeper y) (filled_ e f) = let r = back_fill y f in (_, filled_ e r.1, deeper r.2)

    fallen_filled : {log full : Log} → Fallen Control Stack Destination log → Fills log full → Fallen Control Stack Destination full
    fallen_filled by_trap (kept_ f) = by_trap
    fallen_filled by_spent (kept_ f) = by_spent
    fallen_filled (later x) (number_ f) = later (fallen_filled x f)
    fallen_filled (later x) (kept_ f) = later (fallen_filled x f)
    fallen_filled (later x) (filled_ e f) = later (fallen_filled x f)

    one_words : (c : Control) (h : Stack) (start : ℕ) (d e : End) (v w : Stack) → IsDone e → Sees c h start d v → Sees c h start e w → (d ≡ e) × (v ≡ w)
    one_words c h start (Done o u n) (Done p y m) v w is a b = (finish.one_end Control Stack Destination step inside c h start (Done o u n) (Done p y m) v w a b, sym (finish.one_halt Control Stack Destination step inside a.1 (finish.halts_by Control Stack Destination step inside _ _ a.2 tt) b.1 (finish.halts_by Control Stack Destination step inside _ _ b.2 tt)).3)
    one_words c h start (Trapped o u n) (Done p y m) v w is a b = elim (told_apart (finish.one_end Control Stack Destination step inside c h start (Trapped o u n) (Done p y m) v w a b)) [ ]
      where
        told_apart : Trapped o u n ≡ Done p y m → ⊥
        told_apart e = cc e
    one_words c h start Spent (Done p y m) v w is a b = elim (told_apart (finish.one_end Control Stack Destination step inside c h start Spent (Done p y m) v w a b)) [ ]
      where
        told_apart : Spent ≡ Done p y m → ⊥
        told_apart e = cc e
    one_words c h start d (Trapped p y m) v w is a b = absurd is
    one_words c h start d Spent v w is a b = absurd is

    module _ (weight : Control → ℕ) (lighter : (c : Control) (h : Stack) → Lighter Control Stack Destination Joins TakesOut settle depth step inside laws weight c (step c h)) (fine : Fine Control Stack Destination Joins TakesOut settle depth step inside laws) (main : Control) (words : Stack)
        (Size : Type 0) (size : Control → Size) (size_inside : (c k : Control) (x : Destination) → size (inside c x k) ≡ size c) where
      open fine use {Okay, not_stuck, goes_okay, child_okay}

      abbrev IsEnd : (start : ℕ) → Control → Stack → Type 0
      IsEnd start c h = (o : List ℤ) × (v : Option ℤ) × (n : ℕ) × (w : Stack) × Sees c h start (Done o v n) w

      -- each state of this call's elision has the frames of a state of main's
      abbrev Embeds : Control → Stack → Type 0
      Embeds call lent = (o : List ℤ) (n : ℕ) (c : Control) (u : Stack) → Runs call lent o n c u → (p : List ℤ) × (m : ℕ) × (t : Control) × (g : Stack) × Runs main words p m t g × (size t ≡ size c)

      pub record Kin (q : Ask Control Stack Destination) : Type 0 where
        pub end_ : End
        pub words_ : Stack
        pub is_done : IsDone end_
        pub says : Sees q.call q.lent q.start end_ words_
        pub okay : Okay (call_of q)
        pub good : Good q.call q.lent
        pub embeds : Embeds q.call q.lent

      abbrev AllKin : Log → Type 0
      AllKin [] = ⊤
      AllKin (printed v ∷ log) = AllKin log
      AllKin (child d at x j q awaited ∷ log) = ⊥
      AllKin (child d at x j q (told e w) ∷ log) = (IsDone e × Good q.call q.lent) × ((u : Stack) × Sees q.call q.lent q.start e u) × Okay (call_of q) × Embeds q.call q.lent × AllKin log

      -- each joined child was told
      abbrev AreTold : Log → Type 0
      AreTold [] = ⊤
      AreTold (printed v ∷ log) = AreTold log
      AreTold (child d at x true q awaited ∷ log) = ⊥
      AreTold (child d at x true q (told e w) ∷ log) = AreTold log
      AreTold (child d at x false q r ∷ log) = AreTold log

      joined_told : {d : ℕ} {log more : Log} {h g : Stack} → Meets d log h more g → AreTold log → AreTold more
      joined_told none a = tt
      joined_told (past j) a = joined_told j a
      joined_told (before {r = awaited} j) a = absurd a
      joined_told (before {r = told e w} j) a = joined_told j a
      joined_told (other ne j) a = joined_told j a
      joined_told (taken s j) a = joined_told j a

      learned_told : {log more : Log} → Learns log more → AreTold log → AreTold more
      learned_told (this {j = true} f) a = absurd a
      learned_told (this {j = false} f) a = a
      learned_told (deeper {n = printed v} h) a = learned_told h a
      learned_told (deeper {n = child d at x true q awaited} h) a = absurd a
      learned_told (deeper {n = child d at x true q (told e w)} h) a = learned_told h a
      learned_told (deeper {n = child d at x false q r} h) a = learned_told h a

      pub record Stands (start own : ℕ) (c : Control) (h : Stack) (log : Log) : Type 0 where
        pub call : Control
        pub lent : Stack
        pub ended : IsEnd start call lent
        pub embeds : Embeds call lent
        pub full : Log
        pub fills : Fills log full
        pub follows : Follows call lent start own c h full (so full)
        pub okay : Okay (new start own c h full)
        pub kin : AllKin full
        pub told_ : AreTold log

      -- the shadow of such a piece goes on
      goes_well : (start own : ℕ) (c call : Control) (h lent : Stack) (log : Log) (z : Sum) → IsEnd start call lent → Follows call lent start own c h log z → (out : List ℤ) × (n : ℕ) × (z ≡ going out n)
      goes_well start own c call h lent log (going out n) e f = (out, n, refl)
      goes_well start own c call h lent log (trapped out k n) e f =
          let x = e.4 in
          let s = finish.one_halt Control Stack Destination step inside x.1 (finish.halts_by Control Stack Destination step inside _ _ x.2 tt) f.2 (finish.halts_by Control Stack Destination step inside _ _ f.3 tt) in
          absurd (finish.alike Control Stack Destination step inside (ends e.1) (traps k) (sym x.2 ∙ sym (finish.same_goes Control Stack Destination step inside s.2 s.3) ∙ f.3))
      goes_well start own c call h lent log spent e f = let x = e.4 in absurd (finish.too_many Control Stack Destination step inside x.1 (finish.halts_by Control Stack Destination step inside _ _ x.2 tt) x.3 f.comes f.more)

      kin_of : {d o : ℕ} {x : Destination} {j : Bool} {q : Ask Control Stack Destination} {r : Answer Control Stack Destination} {log full : Log} → HasNote Control Stack Destination log (child d o x j q r) → Fills log full → AllKin full → Kin q
      kin_of here (kept_ {e = e} f) k = record { end_ = e; words_ = k.1.0; is_done = k.0.0; good = k.0.1; says = k.1.1; okay = k.2; embeds = k.3 }
      kin_of here (filled_ {e = e} y f) k = record { end_ = e; words_ = k.1.0; is_done = k.0.0; good = k.0.1; says = k.1.1; okay = k.2; embeds = k.3 }
      kin_of (deeper c) (number_ f) k = kin_of c f k
      kin_of (deeper c) (kept_ f) k = kin_of c f k.4
      kin_of (deeper c) (filled_ y f) k = kin_of c f k.4

      kin_joined : {d : ℕ} {log more : Log} {h g : Stack} → Meets d log h more g → AllKin log → AllKin more
      kin_joined none k = tt
      kin_joined (past j) k = kin_joined j k
      kin_joined (before {r = awaited} j) k = absurd k
      kin_joined (before {r = told e w} j) k = (k.0, k.1, k.2, k.3, kin_joined j k.4)
      kin_joined (other {r = awaited} ne j) k = absurd k
      kin_joined (other {r = told e w} ne j) k = (k.0, k.1, k.2, k.3, kin_joined j k.4)
      kin_joined (taken s j) k = (k.0, k.1, k.2, k.3, kin_joined j k.4)

      kin_back : {log more : Log} {h g : Stack} → Back log h more g → AllKin log → AllKin more
      kin_back (this y s) k = k
      kin_back (deeper {n = printed v} y) k = kin_back y k
      kin_back (deeper {n = child d at x j q awaited} y) k = absurd k
      kin_back (deeper {n = child d at x j q (told e w)} y) k = (k.0, k.1, k.2, k.3, kin_back y k.4)

      back_told : {log more : Log} {h g : Stack} → Back log h more g → AreTold log → AreTold more
      back_told (this y s) a = a
      back_told (deeper {n = printed v} y) a = back_told y a
      back_told (deeper {n = child d at x true q awaited} y) a = absurd a
      back_told (deeper {n = child d at x true q (told e w)} y) a = back_told y a
      back_told (deeper {n = child d at x false q r} y) a = back_told y a

      heard : {log more full : Log} → Learns log more → Fills log full → AllKin full → Fills more full
      heard (this {d = d} {o = o} {x = x} {q = q} {j = j} {e = e} {w = w} {log = log} f) (filled_ {e = e2} {w = w2} {more = rest} y r) k =
          let says = fork.means Control Stack Destination Joins TakesOut settle depth step inside laws y q.call q.lent (fork.begins Control Stack Destination Joins TakesOut settle depth step inside laws q k.0.1) in
          let s = one_words q.call q.lent q.start e e2 w w2 k.0.0 (fork.forks_mean Control Stack Destination Joins TakesOut settle depth step inside laws q e w k.0.1 f) says in
          subst (λ z. Fills (child d o x j q (told z w) ∷ log) (child d o x j q (told e2 w2) ∷ rest)) (sym s.0) (subst (λ z. Fills (child d o x j q (told e2 z) ∷ log) (child d o x j q (told e2 w2) ∷ rest)) (sym s.1) (kept_ r))
      heard (deeper h) (number_ f) k = number_ (heard h f k)
      heard (deeper h) (kept_ f) k = kept_ (heard h f k.4)
      heard (deeper h) (filled_ y f) k = filled_ y (heard h f k.4)

      -- one more child, and what it ends as
      stands_child : (start own m : ℕ) (c t call : Control) (h g lent : Stack) (x : Destination) (log : Log) → step c h ≡ spawns call lent x t g → Counts Control Stack Destination log m → Stands start own c h log
          → Stands start own t g (child (depth c) own x false (record { start = start - (own + m); call = call; lent = lent }) awaited ∷ log)
      stands_child start own m c t call h g lent x log e k s = by y.0 y.1 y.2 says follows (goes_well start own t s.call g s.lent (child (depth c) own x false ask (told y.0 y.1) ∷ s.full) (so (child (depth c) own x false ask (told y.0 y.1) ∷ s.full)) s.ended follows)
        where
          ask : Ask Control Stack Destination
          ask = record { start = start - (own + m); call = call; lent = lent }

          z : (out : List ℤ) × (n : ℕ) × (so s.full ≡ going out n)
          z = goes_well start own c s.call h s.lent s.full (so s.full) s.ended s.follows

          f : Follows s.call s.lent start own c h s.full (going z.0 z.1)
          f = subst (λ q. Follows s.call s.lent start own c h s.full q) z.2 s.follows

          good : Good call lent × Good t g
          good = fork.step_good Control Stack Destination Joins TakesOut settle depth step inside laws c h _ e f.6

          counted_ : Counts Control Stack Destination s.full m
          counted_ = fork.counts_filled Control Stack Destination Joins TakesOut settle depth step inside laws s.fills k

          callee : Okay (call_of ask)
          callee = child_okay (goes_okay s.okay (parting e counted_)) here

          y : Finds (start - (own + m)) 0 call lent []
          y = existence.always Control Stack Destination Joins TakesOut settle depth step inside laws weight lighter fine ask good.0 callee

          says : Sees call lent (start - (own + m)) y.0 y.1
          says = fork.means Control Stack Destination Joins TakesOut settle depth step inside laws y.2 call lent (fork.begins Control Stack Destination Joins TakesOut settle depth step inside laws ask good.0)

          follows : Follows s.call s.lent start own t g (child (depth c) own x false ask (told y.0 y.1) ∷ s.full) (so (child (depth c) own x false ask (told y.0 y.1) ∷ s.full))
          follows = fork.follows_part Control Stack Destination Joins TakesOut settle depth step inside laws s.call s.lent start own s.full y.1 e counted_ (so s.full) refl s.follows y.0 (λ z. says)

          -- the child's elision lies in this call's
          inner : Embeds call lent
          inner o n d u r =
              let m_ = fork.moves_at Control Stack Destination Joins TakesOut settle depth step inside laws c h _ e f.6 in
              let under : Under (floor c) f.0 = fork.owed_under Control Stack Destination Joins TakesOut settle depth step inside laws (base s.call) (floor c) s.full f.0 f.3 in
              let b = fork.beside_at Control Stack Destination Joins TakesOut settle depth step inside laws c h f.0 f.1 _ e f.4 under in
              let parted = assoc m_.5 f.4 in
              let below : Under (base call) parted.0 = subst (λ q. Under q parted.0) (sym m_.3) (under_sum parted.1 m_.6 (under_more m_.7 under)) in
              let fr = fork.framed Control Stack Destination Joins TakesOut settle depth step inside laws r parted.0 f.1 good.0 parted.2 below in
              let run : Runs s.call s.lent (z.0 ++ o) ((own + z.1) + n) (inside d x t) fr.0 = fork.chain Control Stack Destination Joins TakesOut settle depth step inside f.2 (quiet (ap (fork.elided Control Stack Destination Joins TakesOut settle depth step inside laws f.1) b.2) (fork.nested Control Stack Destination Joins TakesOut settle depth step inside laws x t fr.1)) in
              let y = s.embeds _ _ _ _ run in
              (y.0, y.1, y.2, y.3, y.4, y.5 ∙ size_inside d t x)

          by : (a : End) (w : Stack) → Ends (start - (own + m)) 0 call lent [] a w → Sees call lent (start - (own + m)) a w
              → Follows s.call s.lent start own t g (child (depth c) own x false ask (told a w) ∷ s.full) (so (child (depth c) own x false ask (told a w) ∷ s.full))
              → ((out : List ℤ) × (n : ℕ) × (so (child (depth c) own x false ask (told a w) ∷ s.full) ≡ going out n))
              → Stands start own t g (child (depth c) own x false ask awaited ∷ log)
          by a w early_ says_ f going_ = record {
            call = s.call;
            lent = s.lent;
            ended = s.ended;
            embeds = s.embeds;
            full = child (depth c) own x false ask (told a w) ∷ s.full;
            fills = filled_ early_ s.fills;
            follows = f;
            okay = goes_okay (goes_okay s.okay (parting e counted_)) (hearing (this (existence.later_on Control Stack Destination Joins TakesOut settle depth step inside laws tt early_)));
            kin = ((done_by a (so s.full) going_.0 going_.1 going_.2, good.0), (w, says_), callee, inner, s.kin);
            told_ = s.told_;
          }
            where
              done_by : (a : End) (z : Sum) (out : List ℤ) (n : ℕ) → add_end z own a ≡ going out n → IsDone a
              done_by (Done p v i) z out n q = tt
              done_by (Trapped p v i) (going o j) out n q = absurd (subst (λ z. Falls z) q tt)
              done_by (Trapped p v i) (trapped o u j) out n q = absurd (subst (λ z. Falls z) q tt)
              done_by (Trapped p v i) spent out n q = absurd (subst (λ z. Falls z) q tt)
              done_by Spent (going o j) out n q = absurd (subst (λ z. Falls z) q tt)
              done_by Spent (trapped o u j) out n q = absurd (subst (λ z. Falls z) q tt)
              done_by Spent spent out n q = absurd (subst (λ z. Falls z) q tt)

      stands_after : (start own : ℕ) (c : Control) (h : Stack) (log : Log) (p : SomePiece) → Stands start own c h log → Leads (new start own c h log) p → Stands p.start p.own p.control p.held p.log
      stands_after start own c h log p s l = by s l
        where
          by : {a b : SomePiece} → Stands a.start a.own a.control a.held a.log → Leads a b → Stands b.start b.own b.control b.held b.log
          by s (silently {start = start} {own = own} e) = record { call = s.call; lent = s.lent; ended = s.ended; embeds = s.embeds; full = s.full; fills = s.fills; follows = fork.follows_silent Control Stack Destination Joins TakesOut settle depth step inside laws s.call s.lent start own s.full e (so s.full) s.follows; okay = goes_okay s.okay (silently e); kin = s.kin; told_ = s.told_ }
          by s (ticking {start = start} {own = own} e k l) = record { call = s.call; lent = s.lent; ended = s.ended; embeds = s.embeds; full = s.full; fills = s.fills; follows = fork.follows_tick Control Stack Destination Joins TakesOut settle depth step inside laws s.call s.lent start own s.full e (so s.full) s.follows; okay = goes_okay s.okay (ticking e (fork.counts_filled Control Stack Destination Joins TakesOut settle depth step inside laws s.fills k) l); kin = s.kin; told_ = s.told_ }
          by s (showing {start = start} {own = own} {v = v} e) = record { call = s.call; lent = s.lent; ended = s.ended; embeds = s.embeds; full = printed v ∷ s.full; fills = number_ s.fills; follows = fork.follows_print Control Stack Destination Joins TakesOut settle depth step inside laws s.call s.lent start own s.full e (so s.full) s.follows; okay = goes_okay s.okay (showing e); kin = s.kin; told_ = s.told_ }
          by s (joining {start = start} {own = own} {t = t} {g = g} e j k l) =
              let r = joins_fill j s.fills in
              record {
                call = s.call;
                lent = s.lent;
                ended = s.ended;
                embeds = s.embeds;
                full = r.0;
                fills = r.1;
                follows = subst (λ z. Follows s.call s.lent start own t g r.0 z) (sym (fork.joined_sofar Control Stack Destination Joins TakesOut settle depth step inside laws r.2)) (fork.follows_join Control Stack Destination Joins TakesOut settle depth step inside laws s.call s.lent start own e r.2 (so s.full) s.follows);
                okay = goes_okay s.okay (joining e r.2 (fork.counts_filled Control Stack Destination Joins TakesOut settle depth step inside laws r.1 k) l);
                kin = kin_joined r.2 s.kin;
                told_ = joined_told j s.told_;
              }
          by s (parting {start = start} {own = own} {m = m} {c = c} {t = t} {call = call} {h = h} {g = g} {lent = lent} {x = x} {log = log} e k) = stands_child start own m c t call h g lent x log e k s
          by s (hearing h) = record { call = s.call; lent = s.lent; ended = s.ended; embeds = s.embeds; full = s.full; fills = heard h s.fills s.kin; follows = s.follows; okay = s.okay; kin = s.kin; told_ = learned_told h s.told_ }
          by s (returning {start = start} {own = own} {c = c} {g = g} y) =
              let r = back_fill y s.fills in
              record {
                call = s.call;
                lent = s.lent;
                ended = s.ended;
                embeds = s.embeds;
                full = r.0;
                fills = r.1;
                follows = subst (λ z. Follows s.call s.lent start own c g r.0 z) (sym (fork.back_sofar Control Stack Destination Joins TakesOut settle depth step inside laws r.2)) (fork.follows_back Control Stack Destination Joins TakesOut settle depth step inside laws s.call s.lent start own c r.2 (so s.full) s.follows);
                okay = goes_okay s.okay (returning r.2);
                kin = kin_back r.2 s.kin;
                told_ = back_told y s.told_;
              }

      stands_call : (q : Ask Control Stack Destination) → Kin q → Stands q.start 0 q.call q.lent []
      stands_call q k = record { call = q.call; lent = q.lent; ended = by k.end_ k.is_done k.says; embeds = k.embeds; full = []; fills = empty_; follows = fork.begins Control Stack Destination Joins TakesOut settle depth step inside laws q k.good; okay = k.okay; kin = tt; told_ = tt }
        where
          by : (e : End) → IsDone e → Sees q.call q.lent q.start e k.words_ → IsEnd q.start q.call q.lent
          by (Done o v n) is s = (o, v, n, k.words_, s)
          by (Trapped o t n) is s = absurd is
          by Spent is s = absurd is

      -- each reached piece stands in a shadow that goes on to a value
      pub reached_stands : (start : ℕ) → Good main words → Okay (call_of (record { start = start; call = main; lent = words })) → IsEnd start main words → (p : SomePiece)
          → Reached Control Stack Destination Joins TakesOut settle depth step (call_of (record { start = start; call = main; lent = words })) p → Stands p.start p.own p.control p.held p.log
      reached_stands start good okay ended _ itself = record { call = main; lent = words; ended = ended; embeds = λ o n c u r. (o, n, c, u, r, refl); full = []; fills = empty_; follows = fork.begins Control Stack Destination Joins TakesOut settle depth step inside laws (record { start = start; call = main; lent = words }) good; okay = okay; kin = tt; told_ = tt }
      reached_stands start good okay ended _ (then {p = p} {q = q} r g) = stands_after p.start p.own p.control p.held p.log q (reached_stands start good okay ended p r) g
      reached_stands start good okay ended _ (its_child {p = p} {q = q} r c) = let s = reached_stands start good okay ended p r in stands_call q (kin_of c s.fills s.kin)

      -- the frames of a reached piece are those of a state of the elision
      pub reached_frames : (start : ℕ) → Good main words → Okay (call_of (record { start = start; call = main; lent = words })) → IsEnd start main words → (p : SomePiece)
          → Reached Control Stack Destination Joins TakesOut settle depth step (call_of (record { start = start; call = main; lent = words })) p
          → (o : List ℤ) × (n : ℕ) × (c : Control) × (u : Stack) × Runs main words o n c u × (size c ≡ size p.control)
      reached_frames start good okay ended p r =
          let s = reached_stands start good okay ended p r in
          let z = goes_well p.start p.own p.control s.call p.held s.lent s.full (so s.full) s.ended s.follows in
          let f : Follows s.call s.lent p.start p.own p.control p.held s.full (going z.0 z.1) = subst (λ q. Follows s.call s.lent p.start p.own p.control p.held s.full q) z.2 s.follows in
          s.embeds _ _ _ _ f.2

      -- where no unjoined child is left each child is Done
      all_done : (b n : ℕ) (o : Stack) → n ≤ b → {log full : Log} → Owed b n full o → Fills log full → AllKin full → AreTold log → AllDone Control Stack Destination log
      all_done b n o l w empty_ k a = tt
      all_done b n o l w (number_ f) k a = all_done b n o l w f k a
      all_done b n o l w (kept_ {j = true} {e = e} f) k a = (k.0.0, all_done b n o l w f k.4 a)
      all_done b n o l w (kept_ {j = false} {e = Done out v m} f) k a = absurd (omega (arith, w.3, w.4, l))
      all_done b n o l w (kept_ {j = false} {e = Trapped out v m} f) k a = absurd w
      all_done b n o l w (kept_ {j = false} {e = Spent} f) k a = absurd w
      all_done b n o l w (filled_ {j = true} y f) k a = absurd a
      all_done b n o l w (filled_ {j = false} {e = Done out v m} y f) k a = absurd (omega (arith, w.3, w.4, l))
      all_done b n o l w (filled_ {j = false} {e = Trapped out v m} y f) k a = absurd w
      all_done b n o l w (filled_ {j = false} {e = Spent} y f) k a = absurd w

      -- a reached piece at its end has returned
      pub reached_ends : (start : ℕ) → Good main words → Okay (call_of (record { start = start; call = main; lent = words })) → IsEnd start main words → (p : SomePiece) (o : Own)
          → Reached Control Stack Destination Joins TakesOut settle depth step (call_of (record { start = start; call = main; lent = words })) p
          → Halts p.start p.own p.control p.held p.log o → AllDone Control Stack Destination p.log × (v : Option ℤ) × (step p.control p.held ≡ ends v) × Good p.control p.held
      reached_ends start good okay ended p o r halts = at_end (by halts)
        where
          s : Stands p.start p.own p.control p.held p.log
          s = reached_stands start good okay ended p r

          z : (out : List ℤ) × (n : ℕ) × (so s.full ≡ going out n)
          z = goes_well p.start p.own p.control s.call p.held s.lent s.full (so s.full) s.ended s.follows

          at_end : ((v : Option ℤ) × (step p.control p.held ≡ ends v)) → AllDone Control Stack Destination p.log × (v : Option ℤ) × (step p.control p.held ≡ ends v) × Good p.control p.held
          at_end e =
              let f : Follows s.call s.lent p.start p.own p.control p.held s.full (going z.0 z.1) = subst (λ q. Follows s.call s.lent p.start p.own p.control p.held s.full q) z.2 s.follows in
              let m = fork.moves_at Control Stack Destination Joins TakesOut settle depth step inside laws p.control p.held _ e.1 f.6 in
              (all_done (base s.call) (floor p.control) f.0 (let a = m.1 in let b = f.5 in omega (arith, a, b)) f.3 s.fills s.kin s.told_, e.0, e.1, f.6)

          -- what the shadow of the piece at this end would be
          seen : {a : Own} {e : End} → Halts p.start p.own p.control p.held s.full a → Decides p.start p.own (so s.full) a e → Sees s.call s.lent p.start e p.held
          seen h d = fork.decided Control Stack Destination Joins TakesOut settle depth step inside laws s.call s.lent _ refl s.follows h d

          no_spent : Halts p.start p.own p.control p.held s.full runs_out → ⊥
          no_spent h = apart (finish.one_end Control Stack Destination step inside s.call s.lent p.start (Done s.ended.0 s.ended.1 s.ended.2) Spent s.ended.3 p.held s.ended.4 (seen h (subst (λ q. Decides p.start p.own q runs_out Spent) (sym z.2) own_spent)))
            where
              apart : Done s.ended.0 s.ended.1 s.ended.2 ≡ Spent → ⊥
              apart e = cc e

          no_trap : (k : Trap) → Halts p.start p.own p.control p.held s.full (fails k) → ⊥
          no_trap k h =
              let d = capped p.start (p.own + z.1) (Trapped z.0 k (p.own + z.1)) in
              no_cap d.1 (finish.one_end Control Stack Destination step inside s.call s.lent p.start (Done s.ended.0 s.ended.1 s.ended.2) d.0 s.ended.3 p.held s.ended.4 (seen h (subst (λ q. Decides p.start p.own q (fails k) d.0) (sym z.2) (own_trap d.1))))

          by : {a : Own} → Halts p.start p.own p.control p.held p.log a → (v : Option ℤ) × (step p.control p.held ≡ ends v)
          by (by_trap {k = k} e) = absurd (no_trap k (by_trap e))
          by (by_return {v = v} e) = (v, e)
          by (by_tick e k l) = absurd (no_spent (by_tick e (fork.counts_filled Control Stack Destination Joins TakesOut settle depth step inside laws s.fills k) l))
          by (by_sync e j k l) = let y = joins_fill j s.fills in absurd (no_spent (by_sync e y.2 (fork.counts_filled Control Stack Destination Joins TakesOut settle depth step inside laws y.1 k) l))
          by (by_child f) = absurd (subst (λ q. Falls q) z.2 (fork.fallen Control Stack Destination Joins TakesOut settle depth step inside laws (fallen_filled f s.fills)))
