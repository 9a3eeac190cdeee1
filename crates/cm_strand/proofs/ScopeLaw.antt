-- Empty holes are of open scopes: where none is open, all are filled.
use Rattle.std.proofs.Common.{◌≡◌, ℕ, ◌≤◌, Bool, true, false, List, [], ◌∷◌, sym, subst, inl, inr}
use Rattle.std.specs.Prelude.{◌⊎◌, ◌==◌, if◌then◌else◌}
use Rattle.cm_meaning.specs.End.{End}
use Rattle.cm_syntax.specs.declared.stmt.Program.{Program}
use Rattle.cm_meaning.specs.Piece.{printed, child}
use Rattle.cm_strand.specs.Piece.{Answer}
use Rattle.cm_meaning.specs.Meaning.{Note}
use Rattle.cm_gen.specs.Standing.{Frame}
use Rattle.cm_strand.specs.Owned.{Owned}
use Rattle.cm_strand.specs.Standing.{Belongs, InScope, EmptyIn, ShowsFilling, ShowsLog, UnjoinedIn, Placed}
use Rattle.cm_strand.specs.Strand.{empty, filled, Entry, number, hole, Scope, hole_count}
use Rattle.cm_strand.specs.Turn.{fill, filled_hole, AllFilled, AllFilledFrom}
use Rattle.cm_strand.proofs.FillLaw.{fill_count}

belongs_in : (scopes : List Scope) (n d : ℕ) → Belongs scopes n d → InScope scopes n
belongs_in [] n d b = absurd b
belongs_in (s ∷ scopes) n d (inl b) = inl b.0
belongs_in (s ∷ scopes) n d (inr b) = inr (belongs_in scopes n d b.1)

empty_filled_differ : (e : End) (b : Bool) → filled e b ≡ empty → ⊥
empty_filled_differ e b h = cc

pub empty_of_placed : (program : Program) (page : ℕ) (scopes : List Scope) (calls : List ℕ) (frames : List Frame) (log : List Entry) (notes : List Note)
    → ShowsLog program page log notes → Placed program page scopes calls frames log notes → EmptyIn scopes log
empty_of_placed program page scopes calls frames [] notes h p = tt
empty_of_placed program page scopes calls frames (number v ∷ log) [] h p = absurd h
empty_of_placed program page scopes calls frames (number v ∷ log) (printed u ∷ notes) h p = empty_of_placed program page scopes calls frames log notes h.1 p
empty_of_placed program page scopes calls frames (number v ∷ log) (child d own x j q r ∷ notes) h p = absurd h
empty_of_placed program page scopes calls frames (hole H ∷ log) [] h p = absurd h
empty_of_placed program page scopes calls frames (hole H ∷ log) (printed u ∷ notes) h p = absurd h
empty_of_placed program page scopes calls frames (hole H ∷ log) (child d own x j q r ∷ notes) h p =
    (λ e. by j r (subst (λ f. ShowsFilling f j r) e h.0.filling) p.0, empty_of_placed program page scopes calls frames log notes h.1 p.1)
  where
    by : (j : Bool) (r : Answer) → ShowsFilling empty j r → UnjoinedIn program page j scopes calls frames (hole_count log) d H x r → InScope scopes (hole_count log)
    by true r f u = absurd f
    by false r f u = belongs_in scopes (hole_count log) d u.belongs

pub empty_behind : (scopes : List Scope) (log : List Entry) (n : ℕ) (e : End) (b : Bool) (w : Owned) → EmptyIn scopes log → EmptyIn scopes (fill log n e b w)
empty_behind scopes [] n e b w h = tt
empty_behind scopes (number v ∷ log) n e b w h = empty_behind scopes log n e b w h
empty_behind scopes (hole H ∷ log) n e b w h = by (hole_count log == n) (empty_behind scopes log n e b w h.1)
  where
    by : (same : Bool) → EmptyIn scopes (fill log n e b w) → EmptyIn scopes (if same then hole (filled_hole H e b w) ∷ log else hole H ∷ fill log n e b w)
    by true on = (λ f. absurd (empty_filled_differ e b f), h.1)
    by false on = (λ f. subst (InScope scopes) (sym (fill_count log n e b w)) (h.0 f), on)

pub empty_outer : (s : Scope) (scopes : List Scope) (log : List Entry) → EmptyIn (s ∷ scopes) log → AllFilledFrom s.first log → EmptyIn scopes log
empty_outer s scopes [] h full = tt
empty_outer s scopes (number v ∷ log) h full = empty_outer s scopes log h full
empty_outer s scopes (hole H ∷ log) h full = (λ f. by f (h.0 f), empty_outer s scopes log h.1 full.1)
  where
    by : H.filling ≡ empty → (s.first ≤ hole_count log) ⊎ InScope scopes (hole_count log) → InScope scopes (hole_count log)
    by f (inl l) = absurd (full.0 l f)
    by f (inr i) = i

pub all_filled : (log : List Entry) → EmptyIn [] log → AllFilled log
all_filled [] h = tt
all_filled (number v ∷ log) h = all_filled log h
all_filled (hole H ∷ log) h = (h.0, all_filled log h.1)
