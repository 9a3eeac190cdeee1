-- Where rules lead, and what is heard: laws that hold whatever the program is, and those of answers.
use Rattle.std.proofs.Common.{ℕ, List, refl, inl, inr}
use Rattle.std.specs.Prelude.{◌⊎◌, ℤ}
use Rattle.cm_syntax.specs.declared.stmt.Program.{Program}
use Rattle.cm_syntax.specs.Fault.{IsSoundProgram}
use Rattle.cm_syntax.specs.Lending.{IsAccepted}
use Rattle.cm_syntax.specs.Stack.{Stack}
use Rattle.cm_meaning.specs.End.{End, Done, Trapped, Spent}
use Rattle.cm_meaning.specs.Piece.{IsDone, awaited, told, child, HasNote, here, deeper, silently, ticking, showing, joining, parting, hearing, returning, goes, itself, then, its_child}
use Rattle.cm_meaning.specs.Piece as pieces
use Rattle.cm_meaning.specs.Meaning.{Limits, Ask, Note, Piece, Fork, Goes, Reached, HoldSameCells, Answers, Asks, begun, main_ask}
use Rattle.cm_meaning.specs.Leads.{Leads, Hears, IsAsked, Tells, with_log}
use Rattle.cm_meaning.specs.Leads as leads
use Rattle.cm_meaning.proofs.AskLaw.{Every, by_ask, ask_stays, every_at, every_joined, every_heard, every_back, every_ask}
use Rattle.cm_meaning.proofs.CheckedLaw.{given_back}

module _ (program : Program) (page : ℕ) (input : List ℤ) where
  abbrev To : Piece → Piece → Type 0
  To = Leads program page input

  pub one_rule : (p q : Piece) → Goes program page input p q → To p q
  one_rule p q g = leads.then g leads.here

  pub both_lead : (p q r : Piece) → To p q → To q r → To p r
  both_lead p q r leads.here m = m
  both_lead p q r (leads.then g l) m = leads.then g (both_lead _ q r l m)

  pub ends_before : (p q : Piece) (e : End) (w : Stack) → To p q → Fork program page input q e w → Fork program page input p e w
  ends_before p q e w leads.here f = f
  ends_before p q e w (leads.then g l) f = goes g (ends_before _ q e w l f)

  pub reached_on : (first p q : Piece) → Reached program page input first p → To p q → Reached program page input first q
  reached_on first p q r leads.here = r
  reached_on first p q r (leads.then g l) = reached_on first _ q (then r g) l

  -- an awaited child may be told what the rules allow to it
  pub hears : {ask : Ask} {e : End} {w : Stack} {log later : List Note} → Tells ask e w log later → Fork program page input (begun ask) e w → Hears program page input log later
  hears leads.this f = pieces.this f
  hears (leads.deeper t) f = pieces.deeper (hears t f)

  -- and is told nothing else
  pub told_so : {log later : List Note} → Hears program page input log later → (ask : Ask) × (e : End) × (w : Stack) × Tells ask e w log later × Fork program page input (begun ask) e w
  told_so (pieces.this {q = q} {e = e} {w = w} f) = (q, e, w, leads.this, f)
  told_so (pieces.deeper y) = let t = told_so y in (t.0, t.1, t.2, leads.deeper t.3, t.4)

-- a child that is told something is in the log
tells_child : {ask : Ask} {e : End} {w : Stack} {log later : List Note} → Tells ask e w log later → Asks log ask
tells_child (leads.this {d = d} {own = own} {x = x} {joined = joined}) = (d, own, x, joined, awaited, here)
tells_child (leads.deeper t) = let n = tells_child t in (n.0, n.1, n.2, n.3, n.4, deeper n.5)

module _ (program : Program) (input : List ℤ) (limits : Limits) where
  abbrev First : Piece
  First = begun (main_ask program limits)

  abbrev Comes : Piece → Type 0
  Comes = Reached program limits.page input First

  pub from_calls : (p : Piece) → Comes p → (ask : Ask) × IsAsked program input limits ask × Leads program limits.page input (begun ask) p
  from_calls _ itself = (main_ask program limits, inl refl, leads.here)
  from_calls _ (then {p = p} {q = q} r g) = let f = from_calls p r in (f.0, f.1, both_lead program limits.page input (begun f.0) p q f.2 (one_rule program limits.page input p q g))
  from_calls _ (its_child {p = p} {d = d} {o = o} {x = x} {j = j} {q = q} {r = a} r n) = (q, inr (p, r, (d, o, x, j, a, n)), leads.here)

  -- each answer may be told where it is awaited
  pub heard : (p : Piece) (later : List Note) (ask : Ask) (e : End) (w : Stack) → Answers program input limits ask e w → Tells ask e w p.log later → Goes program limits.page input p (with_log p later)
  heard p later ask e w a t = hearing (hears program limits.page input t a.allowed)

  -- what a reached piece is told is an answer
  pub answered : (p : Piece) (later : List Note) → IsSoundProgram program → IsAccepted program → Comes p → Hears program limits.page input p.log later
      → (ask : Ask) × (e : End) × (w : Stack) × Tells ask e w p.log later × (IsDone e ⊎ HoldSameCells ask.lent w → Answers program input limits ask e w)
  answered p later sound accepted r y =
      let t = told_so program limits.page input y in
      let n = tells_child t.3 in
      (t.0, t.1, t.2, t.3, λ s. record { parent = p; reached = r; asked = n; allowed = t.4; cells = cells t.0 t.1 t.2 n t.4 s })
    where
      cells : (ask : Ask) (e : End) (w : Stack) → Asks p.log ask → Fork program limits.page input (begun ask) e w → IsDone e ⊎ HoldSameCells ask.lent w → HoldSameCells ask.lent w
      cells ask e w n f (inr same) = same
      cells ask (Done out v m) w n f (inl is) = given_back program input limits sound accepted p n.0 n.1 n.2 n.3 ask n.4 r n.5 out v m w f
      cells ask (Trapped out k m) w n f (inl is) = absurd is
      cells ask Spent w n f (inl is) = absurd is

  -- some reached piece awaits the child of this ask
  abbrev IsAwaited : Ask → Type 0
  IsAwaited ask = (p : Piece) × Comes p × ((e : End) (w : Stack) → (later : List Note) × Tells ask e w p.log later)

  new_child : (p q : Piece) → Comes p → Every (by_ask IsAwaited) p.log → Goes program limits.page input p q → Every (by_ask IsAwaited) q.log
  new_child _ _ r all (silently e) = all
  new_child _ _ r all (ticking e k l) = all
  new_child _ _ r all (showing e) = all
  new_child _ _ r all (joining e j k l) = every_joined program limits.page input (by_ask IsAwaited) (ask_stays IsAwaited) j all
  new_child p q r all (parting e k) = ((q, then {p = p} r (parting e k), λ d w. (_, leads.this)), all)
  new_child _ _ r all (hearing y) = every_heard program limits.page input (by_ask IsAwaited) (ask_stays IsAwaited) y all
  new_child _ _ r all (returning y) = every_back program limits.page input (by_ask IsAwaited) (ask_stays IsAwaited) y all

  pub some_awaits : (ask : Ask) (e : End) (w : Stack) → Answers program input limits ask e w
      → (p : Piece) × (later : List Note) × Comes p × Tells ask e w p.log later × Hears program limits.page input p.log later
  some_awaits ask e w a =
      let n = a.asked in
      let s = every_at (by_ask IsAwaited) n.5 (every_ask program limits.page input First (by_ask IsAwaited) new_child a.parent tt a.reached) in
      let t = s.2 e w in
      (s.0, t.0, s.1, t.1, hears program limits.page input t.1 a.allowed)
