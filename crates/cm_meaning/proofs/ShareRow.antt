-- A run of a piece that reads a word beside its child, which reads it too, and joins it.
use Rattle.std.proofs.Common.{◌≡◌, ℕ, ◌+◌, ◌≤◌, List, [], ◌∷◌, None, Some, refl, sym, subst}
use Rattle.std.specs.Prelude.{Bool, true, false, ℤ}
use Rattle.cm_syntax.specs.declared.stmt.Program.{Program}
use Rattle.cm_syntax.specs.Label.{syncs}
use Rattle.cm_syntax.specs.Stack.{Stack, Destination, Argument, StackSum, SharesBack, IsUnder, settle, push_frame, pop_frame}
use Rattle.cm_syntax.specs.Rest.{Control}
use Rattle.cm_syntax.specs.Step.{step, depth}
use Rattle.cm_meaning.specs.End.{End, Done}
use Rattle.cm_meaning.specs.Meaning.{Fork, Piece, Note}
use Rattle.cm_meaning.specs.Piece.{piece, printed, child, told, none, past, counted, Collects, taken, joining, goes}
use Rattle.cm_meaning.proofs.PieceRow.{Found, found, follow, followed, allowed_from, end_found, Is}
use Rattle.cm_meaning.proofs.JoinRow.{pushed_popped}
use Rattle.cm_meaning.proofs.PrintRow.{Place, walk, walked}

module _ (program : Program) (page : ℕ) (input : List ℤ) where
  abbrev piece_of : (start own : ℕ) → Control → Stack → List Note → Piece
  piece_of = piece Control Stack Destination

  abbrev note : (start own : ℕ) → (call : Control) → (lent : Stack) → (joined : Bool) → End → Stack → Note
  note start own call lent j e w = child 0 own None j (record { start = start; call = call; lent = lent }) (told e w)

  abbrev pub back : Stack → List Argument → Stack
  back lent ws = pop_frame (push_frame lent 1 ws) 1

  -- behind its child's answer a piece prints and joins what is in the answer
  pub joins_answer : (start : ℕ) (call c u : Control) (lent held w whole : Stack) (y : Place program page input) (out : List ℤ) (m : ℕ) (v : ℤ) (e : End)
      → StackSum held w whole → walk program page input 250 start 0 c held (note start 0 call lent false (Done out None m) w ∷ []) ≡ Some y
      → y.log ≡ printed v ∷ note start 0 call lent false (Done out None m) w ∷ [] → y.held ≡ held → step program page input y.control y.held ≡ syncs u → depth y.control ≡ 0 → y.own + (0 + m) ≤ start
      → (f : Found) → follow program page input 250 start y.own u whole (printed v ∷ note start 0 call lent true (Done out None m) w ∷ []) ≡ f → end_found program page input f ≡ Some e
      → (z : Stack) × Fork program page input (piece_of start 0 c held (note start 0 call lent false (Done out None m) w ∷ [])) e z
  joins_answer start call c u lent held w whole y out m v e joined second log_is same sync depth_y fits f rest end_ =
      (later.0, walked program page input 250 start 0 c held (log_ false) y refl second at_sync)
    where
      log_ : Bool → List Note
      log_ j = note start 0 call lent j (Done out None m) w ∷ []

      later : (z : Stack) × Fork program page input (piece_of start y.own u whole (printed v ∷ log_ true)) e z
      later = allowed_from program page input 250 start y.own u whole (printed v ∷ log_ true) e f rest tt refl end_

      collected : Collects Control Stack Destination StackSum SharesBack settle depth (step program page input) 0 (printed v ∷ log_ false) held (printed v ∷ log_ true) whole
      collected = past (taken joined none)

      at_sync : Fork program page input (piece_of start y.own y.control y.held y.log) e later.0
      at_sync = subst (λ l. Fork program page input (piece_of start y.own y.control y.held l) e later.0) (sym log_is)
          (goes (joining sync (subst (λ d. Collects Control Stack Destination StackSum SharesBack settle depth (step program page input) d (printed v ∷ log_ false) y.held (printed v ∷ log_ true) whole) (sym depth_y)
          (subst (λ s. Collects Control Stack Destination StackSum SharesBack settle depth (step program page input) 0 (printed v ∷ log_ false) s (printed v ∷ log_ true) whole) (sym same) collected)) (past (counted none)) fits) later.1)

  -- the call's own piece comes to this end, and gives back what it was lent
  pub child_ends : (start : ℕ) (call : Control) (lent : Stack) (ws : List Argument) (out : List ℤ) (m : ℕ) → IsUnder 1 lent → follow program page input 250 start 0 call lent [] ≡ found (Done out None m) (pop_frame (push_frame lent 1 ws) 1)
      → Fork program page input (piece_of start 0 call lent []) (Done out None m) lent
  child_ends start call lent ws out m low run =
      subst (λ w. Fork program page input (piece_of start 0 call lent []) (Done out None m) w) (pushed_popped 1 lent ws low)
      (subst (λ q. Is program page input q (piece_of start 0 call lent [])) run (followed program page input 250 start 0 call lent [] tt refl))
