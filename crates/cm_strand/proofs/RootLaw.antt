-- Main's strand: its start, and its end; and what answers a child's call.
use Rattle.std.proofs.Common.{◌≡◌, ℕ, true, false, List, Option, refl, sym, subst, inl, inr}
use Rattle.std.specs.Prelude.{ℤ, is_some}
use Rattle.cm_isa.specs.Address.{InstructionAt}
use Rattle.cm_syntax.specs.Stack.{empty_stack}
use Rattle.cm_meaning.specs.End.{End, Done, Trapped, Spent}
use Rattle.cm_meaning.specs.TypedState.{KeepsTyped}
use Rattle.cm_meaning.specs.Meaning.{begun, main_ask, Fork, SerialEnd, HoldSameCells}
use Rattle.cm_meaning.specs.Piece.{IsDone}
use Rattle.cm_meaning.proofs.CheckedLaw.{given_back}
use Rattle.cm_meaning.proofs.ForkMeaning.{fork_serial}
use Rattle.cm_meaning.proofs.SafetyLaw.{typed_step, typed_start, typed_run}
use Rattle.cm_meaning.proofs.TypingLaw.{sound_typed}
use Rattle.cm_gen.specs.declared.form.Form.TheVariants.{Cilk}
use Rattle.cm_gen.specs.StandsFor.{first_spot}
use Rattle.cm_gen.proofs.images.BeginLaw.{begins}
use Rattle.cm_strand.specs.Owned.{Owned}
use Rattle.cm_strand.specs.Strand.{Request, machine_of}
use Rattle.cm_strand.specs.Standing.{ShowsEnd, Answered}
use Rattle.cm_strand.specs.Law.{World, RootStarts, ChildrenAnswer}
use Rattle.cm_strand.proofs.WorldLaw.{limit_of, first_of}
use Rattle.cm_strand.proofs.OtherLaw.{starts}

pub root_starts : (w : World) → RootStarts w
root_starts w s due log scopes course start few begin_ =
    starts w.program w.limits.page (limit_of w) w.input w.image (first_of w) (record { ask = main_ask w.program w.limits; spot = first_spot; due = due })
    s log scopes course start few refl
    (begins w.program Cilk w.limits.page (limit_of w) w.input (InstructionAt w.image) w.compiled w.limits.ticks (machine_of s) begin_ empty_stack)

-- main gives a value
main_gives : (w : World) (out : List ℤ) (v : Option ℤ) (n : ℕ) → SerialEnd w.program w.input w.limits (Done out v n) → is_some v ≡ true
main_gives w out v n (g, (t, comes, ends, few)) =
    subst (KeepsTyped w.program true) ends
    (typed_step w.program w.limits.page w.input true t g (sound_typed w.program w.runs.sound)
    (typed_run w.program w.limits.page w.input true (sound_typed w.program w.runs.sound) comes
    (typed_start w.program (limit_of w) (sound_typed w.program w.runs.sound))))

shown_is : (w : World) (e d : End) → ShowsEnd e d → SerialEnd w.program w.input w.limits d → SerialEnd w.program w.input w.limits e
shown_is w (Done out v n) (Done more u m) (same, ticks, inl none) x = absurd (nothing (subst (λ k. is_some k ≡ true) none (main_gives w more u m x)))
  where
    nothing : false ≡ true → ⊥
    nothing e = cc
shown_is w (Done out v n) (Done more u m) (same, ticks, inr value) x = subst (SerialEnd w.program w.input w.limits) (λ i. Done (sym same i) (value i) (sym ticks i)) x
shown_is w (Trapped out k n) (Trapped more l m) (same, kind, ticks) x = subst (SerialEnd w.program w.input w.limits) (λ i. Trapped (sym same i) (sym kind i) (sym ticks i)) x
shown_is w Spent Spent shows x = x
shown_is w (Done out v n) (Trapped more l m) shows x = absurd shows
shown_is w (Done out v n) Spent shows x = absurd shows
shown_is w (Trapped out k n) (Done more u m) shows x = absurd shows
shown_is w (Trapped out k n) Spent shows x = absurd shows
shown_is w Spent (Done more u m) shows x = absurd shows
shown_is w Spent (Trapped more l m) shows x = absurd shows

pub root_ends : (w : World) (request : Request) (e : End) (all : Owned) → request.ask ≡ main_ask w.program w.limits
    → Answered w.program w.limits.page w.input w.image request e all → SerialEnd w.program w.input w.limits e
root_ends w request e all is answer = shown_is w e answer.end_ answer.shows
    (fork_serial w.program w.input w.limits answer.end_
    (answer.held, subst (λ q. Fork w.program w.limits.page w.input (begun q) answer.end_ answer.held) is answer.allowed))

pub child_answers : (w : World) → ChildrenAnswer w
child_answers w request e all parent reached (d, own, x, joined, r, note) answer done = record {
  parent = parent;
  reached = reached;
  asked = (d, own, x, joined, r, note);
  allowed = answer.allowed;
  cells = by answer.end_ done answer.allowed;
}
  where
    by : (i : End) → IsDone i → Fork w.program w.limits.page w.input (begun request.ask) i answer.held → HoldSameCells request.ask.lent answer.held
    by (Done out v n) done f = given_back w.program w.input w.limits w.runs.sound w.accepted parent d own x joined request.ask r reached note out v n answer.held f
    by (Trapped out k n) done f = absurd done
    by Spent done f = absurd done
