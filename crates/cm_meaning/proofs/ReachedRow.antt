-- Rows of reached pieces: where a piece gets that hears its latest child, and its end where that has trapped.
use Rattle.std.proofs.Common.{◌≡◌, ℕ, List, [], ◌∷◌, refl, ap, subst}
use Rattle.std.specs.Prelude.{true, ℤ}
use Rattle.cm_syntax.specs.declared.stmt.Program.{Program}
use Rattle.cm_syntax.specs.Stack.{Stack, Destination}
use Rattle.cm_syntax.specs.Rest.{Control}
use Rattle.cm_meaning.specs.End.{Trapped}
use Rattle.cm_syntax.specs.Trap.{Trap}
use Rattle.cm_syntax.proofs.CellLaw.{back_same}
use Rattle.cm_meaning.specs.Piece.{runs_out, Decides, AllTold, log_sum, by_child, stops, Answer, awaited, told, printed, child, hearing, this, then, piece}
use Rattle.cm_meaning.specs.Meaning.{Ask, Piece, Fork, Reached, HoldSameCells, begun}
use Rattle.cm_meaning.proofs.PieceRow.{Log, Found, nothing, found, Is, follow, followed, has_fallen, fallen, end_of, decides}

module _ (program : Program) (page : ℕ) (input : List ℤ) where
  abbrev piece_of : (start own : ℕ) → Control → Stack → Log → Piece
  piece_of = piece Control Stack Destination

  abbrev Reaches : Piece → Piece → Type 0
  Reaches = Reached program page input

  -- what its own run comes to
  abbrev run_of : Ask → Found
  run_of q = follow program page input 250 q.start 0 q.call q.lent []

  abbrev answered_by : Found → Answer Control Stack Destination
  answered_by nothing = awaited
  answered_by (found e w) = told e w

  -- the latest child, where it is awaited, is told that
  abbrev heard_in : Log → Log
  heard_in (child d o x j q awaited ∷ log) = child d o x j q (answered_by (run_of q)) ∷ log
  heard_in log = log

  abbrev pub heard : Piece → Piece
  heard p = piece_of p.start p.own p.control p.held (heard_in p.log)

  pub reaches_heard : (first p : Piece) → Reaches first p → Reaches first (heard p)
  reaches_heard first p r = by p.log r
    where
      by : (log : Log) → Reaches first (piece_of p.start p.own p.control p.held log) → Reaches first (piece_of p.start p.own p.control p.held (heard_in log))
      by [] r = r
      by (printed v ∷ log) r = r
      by (child d o x j q (told e w) ∷ log) r = r
      by (child d o x j q awaited ∷ log) r = told_so (run_of q) (followed program page input 250 q.start 0 q.call q.lent [] tt refl)
        where
          told_so : (f : Found) → Is program page input f (begun q) → Reaches first (piece_of p.start p.own p.control p.held (child d o x j q (answered_by f) ∷ log))
          told_so nothing i = r
          told_so (found e w) i = (then) r (hearing (this i))

  -- where a child has trapped, a piece that has all answers may be at its end
  pub stops_by_child : (p : Piece) (out : List ℤ) (k : Trap) (n : ℕ) → has_fallen p.log ≡ true → AllTold Control Stack Destination p.log → end_of p.start p.own (log_sum Control Stack Destination p.log) runs_out ≡ Trapped out k n
      → Fork program page input p (Trapped out k n) p.held
  stops_by_child p out k n f t e =
      stops (by_child (fallen p.log f)) t (subst (Decides p.start p.own (log_sum Control Stack Destination p.log) runs_out) e (decides p.start p.own (log_sum Control Stack Destination p.log) runs_out)) tt

-- the ask of the latest child
abbrev pub ask_in : Log → Ask → Ask
ask_in (child d o x j q r ∷ log) other = q
ask_in log other = other

-- the same words hold the same cells
pub same_cells : (a b : Stack) → b ≡ a → HoldSameCells a b
same_cells a b e = record { words = λ d s i. back_same (a.words d s i) (b.words d s i) (ap (λ z. z.words d s i) e); references = λ d s. back_same (a.references d s) (b.references d s) (ap (λ z. z.references d s) e) }
