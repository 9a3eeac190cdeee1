-- The rest of each reached piece is allowed by the marks of its calls, and only frames of functions that are marked have
-- children.
use Rattle.std.proofs.Common.{◌≡◌, ℕ, ◌<◌, List, [], ◌∷◌, ◌++◌, length, Some, refl, sym, ap, ◌∙◌, subst, arith, inl, inr, length-append}
use Rattle.std.specs.Prelude.{◌⊎◌, Bool, true, false, ℤ, ⊤, slice_get}
use Rattle.cm_syntax.specs.declared.stmt.Function.{Function}
use Rattle.cm_syntax.specs.declared.stmt.Program.{Program}
use Rattle.cm_syntax.specs.Fault.{IsSoundProgram}
use Rattle.cm_syntax.specs.Lending.{IsAccepted}
use Rattle.cm_syntax.specs.Label.{silent, ticks, prints, spawns, syncs, traps, ends, stuck}
use Rattle.cm_syntax.specs.Stack.{Stack, Destination}
use Rattle.cm_syntax.specs.Rest.{Item, join, end, Control}
use Rattle.cm_syntax.specs.Step.{Move, top, depth, step}
use Rattle.cm_meaning.specs.End.{End}
use Rattle.cm_meaning.specs.Piece.{Answer, awaited, told, printed, child, here, deeper, silently, ticking, showing, joining, parting, hearing, returning, itself, then, its_child}
use Rattle.cm_meaning.specs.Meaning.{Limits, Ask, Piece, Reached, begun, main_ask}
use Rattle.cm_meaning.specs.Activation.{end_count}
use Rattle.cm_meaning.specs.Shift.{Shifts, stays, comes, goes, ShiftsCalls}
use Rattle.cm_meaning.specs.Loan.{HasUnjoined}
use Rattle.cm_meaning.specs.Mark.{AllowsItem, mark_in, mark_of, IsMarkedAt, AllowsRest, AreAllowed, KeepsMarks}
use Rattle.cm_meaning.proofs.AskLaw.{Every, every_at, Stays, every_joined, every_heard, every_back, KeepsAll, reached_keeps}
use Rattle.cm_meaning.proofs.LoanLaw.{Log}
use Rattle.cm_meaning.proofs.ShiftLaw.{shift}
use Rattle.cm_meaning.proofs.ChildLaw.{none_gone}
use Rattle.cm_meaning.proofs.MarkSourceLaw.{bodies_allowed}
use Rattle.cm_meaning.proofs.MarkStepLaw.{steps_allowed}

-- ---- frame by frame

-- an item behind so many ends of calls is allowed by the mark of the function that is then running
pub item_allowed : (program : Program) (newer older : List ℕ) (f : ℕ) (function : Function ℕ) (before after : List Item) (item : Item) → AllowsRest program (newer ++ f ∷ older) (before ++ item ∷ after)
    → end_count before ≡ length newer → slice_get program.functions f ≡ Some function → AllowsItem function.cilk item
item_allowed program [] older f function [] after end a e g = tt
item_allowed program [] older f function [] after item a e g = subst (λ z. AllowsItem (mark_in z) item) g a.0
item_allowed program (k ∷ newer) older f function [] after item a e g = absurd (omega (arith, e))
item_allowed program [] older f function (end ∷ before) after item a e g = absurd (omega (arith, e))
item_allowed program (k ∷ newer) older f function (end ∷ before) after item a e g = item_allowed program newer older f function before after item a (omega (arith, e)) g
item_allowed program newer older f function (_ ∷ before) after item a e g = item_allowed program newer older f function before after item a.1 e g

-- ---- the call at a depth

low : (program : Program) (calls : List ℕ) (d : ℕ) → IsMarkedAt program calls d → d < length calls
low program [] d m = absurd m
low program (f ∷ calls) d (inl m) = let l = m.0 in omega (arith, l)
low program (f ∷ calls) d (inr m) = let l = low program calls d m in omega (arith, l)

pub marked_at : (program : Program) (newer older : List ℕ) (f : ℕ) (function : Function ℕ) → IsMarkedAt program (newer ++ f ∷ older) (length older) → slice_get program.functions f ≡ Some function → function.cilk ≡ true
marked_at program [] older f function (inl m) e = ap mark_in (sym e) ∙ m.1
marked_at program [] older f function (inr m) e = let l = low program older (length older) m in absurd (omega (arith, l))
marked_at program (k ∷ newer) older f function (inl m) e = let l = m.0 in absurd (omega (arith, l, length-append newer (f ∷ older)))
marked_at program (k ∷ newer) older f function (inr m) e = marked_at program newer older f function m e

-- of the running function
top_marked : (program : Program) (calls : List ℕ) → mark_of program calls ≡ true → IsMarkedAt program calls (top calls)
top_marked program [] m = cc m
top_marked program (f ∷ calls) m = inl (refl, m)

marked_top : (program : Program) (calls : List ℕ) → IsMarkedAt program calls (top calls) → mark_of program calls ≡ true
marked_top program [] m = absurd m
marked_top program (f ∷ calls) (inl m) = m.1
marked_top program (f ∷ calls) (inr m) = let l = low program calls (length calls) m in absurd (omega (arith, l))

module _ (program : Program) (input : List ℤ) (limits : Limits) (sound : IsSoundProgram program) where
  abbrev pub Comes : Piece → Type 0
  Comes = Reached program limits.page input (begun (main_ask program limits))

  abbrev stepped : Control → Stack → Move
  stepped = step program limits.page input

  kept_at : (c : Control) (h : Stack) (x : Move) → stepped c h ≡ x → AreAllowed program c → KeepsMarks program c x
  kept_at c h x e a = subst (KeepsMarks program c) e (steps_allowed program limits.page input c h (bodies_allowed program sound) a)

  all_kept : (c : Control) (x : Move) → KeepsMarks program c x → KeepsAll program limits.page input (AreAllowed program) x
  all_kept c (silent t g) k = k
  all_kept c (ticks t g) k = k
  all_kept c (prints v t g) k = k
  all_kept c (spawns call lent x t g) k = (k.1, k.2)
  all_kept c (syncs t) k = k.1
  all_kept c (traps t) k = tt
  all_kept c (ends v) k = tt
  all_kept c stuck k = tt

  pub rest_allowed : (p : Piece) → Comes p → AreAllowed program p.control
  rest_allowed p r = (reached_keeps program limits.page input (AreAllowed program) (λ c h a. all_kept c (stepped c h) (kept_at c h (stepped c h) refl a)) (main_ask program limits) tt p r).0

  pub spawner_marked : (p : Piece) (call d : Control) (lent g : Stack) (x : Destination) → Comes p → stepped p.control p.held ≡ spawns call lent x d g → mark_of program p.control.calls ≡ true
  spawner_marked p call d lent g x r e = (kept_at p.control p.held _ e (rest_allowed p r)).0

  pub syncer_marked : (p : Piece) (d : Control) → Comes p → stepped p.control p.held ≡ syncs d → (mark_of program p.control.calls ≡ true) ⊎ (p.control.rest ≡ join ∷ d.rest)
  syncer_marked p d r e = (kept_at p.control p.held _ e (rest_allowed p r)).0

  -- ---- children

  -- a child that isn't joined is of a frame of a function that is marked
  abbrev Marks : List ℕ → (depth : ℕ) (joined : Bool) → Ask → Answer Control Stack Destination → Type 0
  Marks calls d false q r = IsMarkedAt program calls d
  Marks calls d true q r = ⊤

  marks_stay : (calls : List ℕ) → Stays (Marks calls)
  marks_stay calls = record { joins = λ d q out v m w a. tt; hears = by; gives = λ d q out v m w rest a. a }
    where
      by : (d : ℕ) (j : Bool) (q : Ask) (e : End) (w : Stack) → Marks calls d j q awaited → Marks calls d j q (told e w)
      by d false q e w a = a
      by d true q e w a = tt

  -- where the calls change, those that have such children stay
  moved : (old new : List ℕ) (log : Log) → ((d : ℕ) → HasUnjoined d log → IsMarkedAt program old d → IsMarkedAt program new d) → Every (Marks old) log → Every (Marks new) log
  moved old new [] f a = tt
  moved old new (printed v ∷ log) f a = moved old new log (λ d u. f d (u.0, u.1, u.2, u.3, deeper u.4)) a
  moved old new (child d at x true q r ∷ log) f a = (tt, moved old new log (λ d u. f d (u.0, u.1, u.2, u.3, deeper u.4)) a.1)
  moved old new (child d at x false q r ∷ log) f a = (f d (at, x, q, r, here) a.0, moved old new log (λ d u. f d (u.0, u.1, u.2, u.3, deeper u.4)) a.1)

  module _ (accepted : IsAccepted program) where
    abbrev Marked : Piece → Type 0
    Marked p = Every (Marks p.control.calls) p.log

    same : {old new : List ℕ} (log : Log) → new ≡ old → Every (Marks old) log → Every (Marks new) log
    same log e a = subst (λ z. Every (Marks z) log) (sym e) a

    kept : (c : Control) (h : Stack) (x : Move) → stepped c h ≡ x → ShiftsCalls c x
    kept c h x e = subst (ShiftsCalls c) e (shift program limits.page input c h)

    -- a frame that goes has none
    shifted : (p : Piece) (t : Control) (g : Stack) → Comes p → stepped p.control p.held ≡ silent t g → Shifts p.control t → Marked p → Every (Marks t.calls) p.log
    shifted p t g r e (stays s) a = same p.log s.0 a
    shifted p t g r e (comes f ws q l m) a = subst (λ z. Every (Marks z) p.log) (sym l) (moved p.control.calls (f ∷ p.control.calls) p.log (λ d u i. inr i) a)
    shifted p t g r e (goes f l m) a = moved (f ∷ t.calls) t.calls p.log gone (subst (λ z. Every (Marks z) p.log) l a)
      where
        gone : (d : ℕ) → HasUnjoined d p.log → IsMarkedAt program (f ∷ t.calls) d → IsMarkedAt program t.calls d
        gone d u (inl i) = absurd (none_gone program input limits sound accepted p r f t g e l (subst (λ z. HasUnjoined z p.log) (sym i.0) u))
        gone d u (inr i) = i

    marked : (p : Piece) → Comes p → Marked p
    marked _ itself = tt
    marked _ (its_child r n) = tt
    marked _ (then {p = p} r (silently {t = t} {g = g} e)) = shifted p t g r e (kept p.control p.held _ e) (marked p r)
    marked _ (then {p = p} r (ticking e k l)) = same p.log (kept p.control p.held _ e).0 (marked p r)
    marked _ (then {p = p} r (showing e)) = same p.log (kept p.control p.held _ e).0 (marked p r)
    marked _ (then {p = p} r (joining {t = t} e j k l)) = every_joined program limits.page input (Marks t.calls) (marks_stay t.calls) j (same p.log (kept p.control p.held _ e).0 (marked p r))
    marked _ (then {p = p} r (parting {t = t} {call = call} {g = g} {lent = lent} {x = x} e k)) =
        let s = (kept p.control p.held _ e).0.0 in
        (subst (λ z. IsMarkedAt program z (depth p.control)) (sym s) (top_marked program p.control.calls (spawner_marked p call t lent g x r e)), same p.log s (marked p r))
    marked _ (then {p = p} r (hearing y)) = every_heard program limits.page input (Marks p.control.calls) (marks_stay p.control.calls) y (marked p r)
    marked _ (then {p = p} r (returning y)) = every_back program limits.page input (Marks p.control.calls) (marks_stay p.control.calls) y (marked p r)

    pub child_marked : (p : Piece) (d : ℕ) → Comes p → HasUnjoined d p.log → IsMarkedAt program p.control.calls d
    child_marked p d r u = every_at (Marks p.control.calls) u.4 (marked p r)

    pub join_marked : (p : Piece) → Comes p → HasUnjoined (depth p.control) p.log → mark_of program p.control.calls ≡ true
    join_marked p r u = marked_top program p.control.calls (child_marked p (depth p.control) r u)
