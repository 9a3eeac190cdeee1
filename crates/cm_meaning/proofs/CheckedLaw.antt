-- A program that is sound and obeys the lending rule: no reached piece of it is stuck, so fork and join mean the elision.
use Rattle.std.proofs.Common.{◌≡◌, ℕ, ◌*◌, ◌≤◌, List, [], Option, Some, refl, subst, arith, inl, inr}
use Rattle.std.specs.Prelude.{Bool, true, ◌⊎◌, ℤ, ⊤, slice_get}
use Rattle.cm_syntax.specs.declared.stmt.Function.{Function}
use Rattle.cm_syntax.specs.declared.stmt.Program.{Program}
use Rattle.cm_syntax.specs.Evaluation.{function_order}
use Rattle.cm_syntax.specs.Fault.{IsSoundProgram}
use Rattle.cm_syntax.specs.Lending.{IsAccepted}
use Rattle.cm_syntax.specs.Cell.{Cell, may_write, ComesBack}
use Rattle.cm_syntax.specs.Stack.{Stack, Destination, empty_stack}
use Rattle.cm_syntax.specs.Rest.{Control}
use Rattle.cm_syntax.specs.Step.{step, inside}
use Rattle.cm_syntax.proofs.CellLaw.{back_same, back_whole}
use Rattle.cm_meaning.proofs.TypedFramesLaw.{present_held}
use Rattle.cm_meaning.specs.End.{End, Done}
use Rattle.cm_meaning.specs.Piece.{Own, Answer, child, HasNote, itself, then, its_child}
use Rattle.cm_meaning.specs.Meaning.{Limits, Ask, Piece, Fork, ForkEnd, Reached, Stops, AllDone, IsNeverStuck, HoldSameCells, begun, main_ask, first_control, EndsAs, SerialEnd}
use Rattle.cm_meaning.specs.Measure.{frame_bytes, IsGreatest, IsSerialPages}
use Rattle.cm_maps.specs.Pages.{IsPage}
use Rattle.cm_meaning.specs.Typing.{TypedProgram}
use Rattle.cm_meaning.proofs.LendingLaw.{Obeys, obedient}
use Rattle.cm_meaning.proofs.SumLaw.{alone_, under_nothing}
use Rattle.cm_meaning.proofs.RunLaw.{first_settled}
use Rattle.cm_meaning.proofs.SafetyLaw.{typed_start}
use Rattle.cm_meaning.proofs.TypingLaw.{sound_typed, Contains-at}
use Rattle.cm_meaning.proofs.VisibleLaw.{sound_sees}
use Rattle.cm_meaning.proofs.EndLaw.{one_end}
use Rattle.cm_meaning.proofs.ForkMeaning.{fork_means}
use Rattle.cm_meaning.proofs.ReachedMeaning.{fork_end, piece_ends, piece_bound, piece_pages}
use Rattle.cm_meaning.proofs.GuardPieceLaw.{alone, OkayPiece, okay_goes, okay_child, not_stuck, note_returned}
use Rattle.cm_meaning.proofs.LoanLaw.{Returned}
use Rattle.cm_meaning.specs.TypedState.{IsPresent}

pub some_page : (page : ℕ) → IsPage page → 1 ≤ page
some_page page (inl e) = omega (arith, e)
some_page page (inr (inl e)) = omega (arith, e)
some_page page (inr (inr e)) = omega (arith, e)

-- each function's text obeys the rule
pub obeys : (program : Program) → IsAccepted program → (index : ℕ) (function : Function ℕ) → slice_get program.functions index ≡ Some function → Obeys (function_order function) (λ m. ⊤) []
obeys program accepted index function e =
    let among = Contains-at program.functions index function e in
    obedient (function_order function) (λ walk w spawn variable at l. accepted.lent at spawn (function, among, (variable, (walk, w, l)))) (λ at d. accepted.same at (function, among, d))

-- what changed was lent whole and comes back whole
comes : {A : Type 0} (a b : Cell A) → (b ≡ a) ⊎ ((may_write a ≡ true) × IsPresent b) → ComesBack a b
comes a b (inl e) = back_same a b e
comes a b (inr e) = back_whole a b e.0 (present_held b e.1)

module _ (program : Program) (input : List ℤ) (limits : Limits) (sound : IsSoundProgram program) (accepted : IsAccepted program) where
  abbrev pub First : Piece
  First = begun (main_ask program limits)

  pub typed : TypedProgram program
  typed = sound_typed program sound

  abbrev pub Fine : Piece → Type 0
  Fine = OkayPiece program limits.page input typed (sound_sees program sound) (obeys program accepted)

  first_fine : Fine First
  first_fine = record {
    around = alone;
    outside = empty_stack;
    loans = empty_stack;
    middle = empty_stack;
    whole = empty_stack;
    settled = first_settled program.main (limits.stack * limits.page);
    owes = refl;
    inner = alone_ empty_stack;
    sum = alone_ empty_stack;
    under = under_nothing 0;
    typed_ = typed_start program (limits.stack * limits.page) typed;
    at = record { ghosts = []; going = refl; frames = tt; passes = λ access. tt };
    kids = tt;
  }

  pub reached_fine : (p : Piece) → Reached program limits.page input First p → Fine p
  reached_fine _ itself = first_fine
  reached_fine _ (then {p = p} r g) = okay_goes program limits.page input typed (sound_sees program sound) (obeys program accepted) (reached_fine p r) g
  reached_fine _ (its_child {p = p} r n) = okay_child program limits.page input typed (sound_sees program sound) (obeys program accepted) {p = p} (reached_fine p r) n

  pub never_stuck : IsNeverStuck program limits.page input First
  never_stuck p r e = not_stuck program limits.page input typed (sound_sees program sound) (obeys program accepted) {p = p} (reached_fine p r) e

  -- the rules lead from each reached call to its elision's end, and to no other
  pub call_end : (ask : Ask) → Reached program limits.page input First (begun ask)
      → (e : End) × (w : Stack) × Fork program limits.page input (begun ask) e w × EndsAs program limits.page input ask.call ask.lent ask.start e w × ((d : End) (v : Stack) → Fork program limits.page input (begun ask) d v → d ≡ e)
  call_end ask r =
      let settled = (reached_fine (begun ask) r).settled in
      let f = fork_end program limits.page input ask settled (λ p s e. never_stuck p (onward p s) e) in
      let says = fork_means program limits.page input ask f.0 f.1 settled f.2 in
      (f.0, f.1, f.2, says, λ d v g. one_end Control Stack Destination (step program limits.page input) inside ask.call ask.lent ask.start d f.0 v f.1 (fork_means program limits.page input ask d v settled g) says)
    where
      onward : (p : Piece) → Reached program limits.page input (begun ask) p → Reached program limits.page input First p
      onward _ itself = r
      onward _ (then {p = p} s g) = then (onward p s) g
      onward _ (its_child {p = p} s n) = its_child (onward p s) n

  -- main's
  pub program_end : (e : End) → SerialEnd program input limits e → ForkEnd program input limits e
  program_end e s =
      let c = call_end (main_ask program limits) itself in
      subst (ForkEnd program input limits) (one_end Control Stack Destination (step program limits.page input) inside (first_control program limits) empty_stack limits.ticks c.0 e c.1 s.0 c.3 s.1) (c.1, c.2)

  -- a child that is Done gives back the words that it was lent
  pub given_back : (p : Piece) (d own : ℕ) (x : Destination) (joined : Bool) (ask : Ask) (r : Answer Control Stack Destination) → Reached program limits.page input First p → HasNote Control Stack Destination p.log (child d own x joined ask r)
      → (out : List ℤ) (v : Option ℤ) (n : ℕ) (w : Stack) → Fork program limits.page input (begun ask) (Done out v n) w → HoldSameCells ask.lent w
  given_back p d own x joined ask r reached note out v n w f = record { words = λ e t j. comes (ask.lent.words e t j) (w.words e t j) (back.words e t j); references = λ e t. back_same (ask.lent.references e t) (w.references e t) (back.references e t) }
    where
      back : Returned ask.lent w
      back = note_returned program limits.page input typed (sound_sees program sound) (obeys program accepted) {p = p} (reached_fine p reached) note out v n w f

  module _ (out : List ℤ) (v : Option ℤ) (n : ℕ) (serial : SerialEnd program input limits (Done out v n)) (p : Piece) (r : Reached program limits.page input First p) where
    pub checked_ends : (o : Own) → Stops program limits.page input p.start p.own p.control p.held p.log o → (p.control.rest ≡ []) × AllDone p.log
    checked_ends o s = piece_ends program input limits never_stuck out v n serial p o r s

    pub checked_bound : (measure : List ℕ → ℕ) (most : ℕ) → IsGreatest program input limits measure most → measure p.control.calls ≤ most
    checked_bound measure most g = piece_bound program input limits never_stuck out v n serial p measure most r g

    pub checked_pages : (pages : ℕ) → 1 ≤ limits.page → IsSerialPages program input limits pages → frame_bytes program p.control.calls ≤ pages * limits.page
    checked_pages pages l g = piece_pages program input limits never_stuck out v n serial p pages l r g
