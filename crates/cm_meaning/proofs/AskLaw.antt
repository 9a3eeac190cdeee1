-- What each step keeps of the control holds of all reached pieces, and of all that they ask for.
use Rattle.std.proofs.Common.{◌≡◌, ℕ, List, [], ◌∷◌, subst}
use Rattle.std.specs.Prelude.{Bool, true, false, ℤ, Option, ⊤}
use Rattle.cm_syntax.specs.declared.stmt.Program.{Program}
use Rattle.cm_syntax.specs.Label.{silent, ticks, prints, spawns, syncs}
use Rattle.cm_syntax.specs.Stack.{Stack, Destination}
use Rattle.cm_syntax.specs.Rest.{Control}
use Rattle.cm_syntax.specs.Step.{Move, step}
use Rattle.cm_meaning.specs.End.{End, Done}
use Rattle.cm_meaning.specs.Piece.{Answer, awaited, told, printed, child, HasNote, here, none, past, before, other, taken, this, deeper, silently, ticking, showing, joining, parting, hearing, returning, itself, then, its_child}
use Rattle.cm_meaning.specs.Meaning.{Ask, Piece, Goes, Reached, begun}
use Rattle.cm_meaning.proofs.LoanLaw.{Log, Meets, Learns, Back}

-- each child is such a one, by its depth, whether it is joined, its ask and its answer
abbrev pub Every : ((depth : ℕ) (joined : Bool) → Ask → Answer Control Stack Destination → Type 0) → Log → Type 0
Every A [] = ⊤
Every A (printed v ∷ log) = Every A log
Every A (child d own x joined q r ∷ log) = A d joined q r × Every A log

pub every_at : (A : (depth : ℕ) (joined : Bool) → Ask → Answer Control Stack Destination → Type 0) {log : Log} {d own : ℕ} {x : Destination} {joined : Bool} {q : Ask} {r : Answer Control Stack Destination} → HasNote Control Stack Destination log (child d own x joined q r) → Every A log → A d joined q r
every_at A here all = all.0
every_at A (deeper {m = printed v} n) all = every_at A n all
every_at A (deeper {m = child d own x joined q r} n) all = every_at A n all.1

-- it is still one where it is joined, where its answer comes, and where shares of it come back
pub record Stays (A : (depth : ℕ) (joined : Bool) → Ask → Answer Control Stack Destination → Type 0) : Type 0 where
  pub joins : (d : ℕ) (q : Ask) (out : List ℤ) (v : Option ℤ) (m : ℕ) (w : Stack) → A d false q (told (Done out v m) w) → A d true q (told (Done out v m) w)
  pub hears : (d : ℕ) (j : Bool) (q : Ask) (e : End) (w : Stack) → A d j q awaited → A d j q (told e w)
  pub gives : (d : ℕ) (q : Ask) (out : List ℤ) (v : Option ℤ) (m : ℕ) (w rest : Stack) → A d false q (told (Done out v m) w) → A d false q (told (Done out v m) rest)

-- by its ask alone
abbrev pub by_ask : (Ask → Type 0) → (depth : ℕ) (joined : Bool) → Ask → Answer Control Stack Destination → Type 0
by_ask A d j q r = A q

pub ask_stays : (A : Ask → Type 0) → Stays (by_ask A)
ask_stays A = record { joins = λ d q out v m w a. a; hears = λ d j q e w a. a; gives = λ d q out v m w rest a. a }

module _ (program : Program) (page : ℕ) (input : List ℤ) where
  module _ (A : (depth : ℕ) (joined : Bool) → Ask → Answer Control Stack Destination → Type 0) (s : Stays A) where
    pub every_joined : {d : ℕ} {log later : Log} {h g : Stack} → Meets program page input d log h later g → Every A log → Every A later
    every_joined none all = all
    every_joined (past j) all = every_joined j all
    every_joined (before j) all = (all.0, every_joined j all.1)
    every_joined (other ne j) all = (all.0, every_joined j all.1)
    every_joined (taken z j) all = (s.joins _ _ _ _ _ _ all.0, every_joined j all.1)

    pub every_heard : {log later : Log} → Learns program page input log later → Every A log → Every A later
    every_heard (this f) all = (s.hears _ _ _ _ _ all.0, all.1)
    every_heard (deeper {n = printed v} y) all = every_heard y all
    every_heard (deeper {n = child d own x joined q r} y) all = (all.0, every_heard y all.1)

    pub every_back : {log later : Log} {h g : Stack} → Back program page input log h later g → Every A log → Every A later
    every_back (this y z) all = (s.gives _ _ _ _ _ _ _ all.0, all.1)
    every_back (deeper {n = printed v} y) all = every_back y all
    every_back (deeper {n = child d own x joined q r} y) all = (all.0, every_back y all.1)

    -- each rule keeps them, where a new child is such a one
    pub every_goes : ((d : ℕ) (q : Ask) → A d false q awaited) → {p q : Piece} → Goes program page input p q → Every A p.log → Every A q.log
    every_goes new (silently e) all = all
    every_goes new (ticking e k l) all = all
    every_goes new (showing e) all = all
    every_goes new (joining e j k l) all = every_joined j all
    every_goes new (parting e k) all = (new _ _, all)
    every_goes new (hearing y) all = every_heard y all
    every_goes new (returning y) all = every_back y all

  -- a new child is such a one, so each child of a reached piece is
  module _ (first : Piece) (A : (depth : ℕ) (joined : Bool) → Ask → Answer Control Stack Destination → Type 0) (new : (p q : Piece) → Reached program page input first p → Every A p.log → Goes program page input p q → Every A q.log) where
    pub every_ask : (p : Piece) → Every A first.log → Reached program page input first p → Every A p.log
    every_ask _ e itself = e
    every_ask _ e (then {p = p} {q = q} r g) = new p q r (every_ask p e r) g
    every_ask _ e (its_child r n) = tt

  -- ---- what is kept of the control

  -- the controls that a step leads to are such ones
  abbrev pub KeepsAll : (Control → Type 0) → Move → Type 0
  KeepsAll P (silent t g) = P t
  KeepsAll P (ticks t g) = P t
  KeepsAll P (prints v t g) = P t
  KeepsAll P (spawns call lent x t g) = P call × P t
  KeepsAll P (syncs t) = P t
  KeepsAll P _ = ⊤

  module _ (P : Control → Type 0) (kept : (c : Control) (h : Stack) → P c → KeepsAll P (step program page input c h)) where
    abbrev Stands : Piece → Type 0
    Stands p = P p.control × Every (by_ask (λ q. P q.call)) p.log

    kept_at : (c : Control) (h : Stack) (x : Move) → step program page input c h ≡ x → P c → KeepsAll P x
    kept_at c h x e a = subst (KeepsAll P) e (kept c h a)

    goes_on : {p q : Piece} → Goes program page input p q → Stands p → Stands q
    goes_on (silently {c = c} {h = h} e) s = (kept_at c h _ e s.0, s.1)
    goes_on (ticking {c = c} {h = h} e k l) s = (kept_at c h _ e s.0, s.1)
    goes_on (showing {c = c} {h = h} e) s = (kept_at c h _ e s.0, s.1)
    goes_on (joining {c = c} {h = h} e j k l) s = (kept_at c h _ e s.0, every_joined (by_ask (λ q. P q.call)) (ask_stays (λ q. P q.call)) j s.1)
    goes_on (parting {c = c} {h = h} e k) s = let y = kept_at c h _ e s.0 in (y.1, (y.0, s.1))
    goes_on (hearing y) s = (s.0, every_heard (by_ask (λ q. P q.call)) (ask_stays (λ q. P q.call)) y s.1)
    goes_on (returning y) s = (s.0, every_back (by_ask (λ q. P q.call)) (ask_stays (λ q. P q.call)) y s.1)

    -- what each step keeps holds of each reached piece
    pub reached_keeps : (ask : Ask) → P ask.call → (p : Piece) → Reached program page input (begun ask) p → Stands p
    reached_keeps ask a _ itself = (a, tt)
    reached_keeps ask a _ (then {p = p} r g) = goes_on g (reached_keeps ask a p r)
    reached_keeps ask a _ (its_child {p = p} r n) = (every_at (by_ask (λ q. P q.call)) n (reached_keeps ask a p r).1, tt)
