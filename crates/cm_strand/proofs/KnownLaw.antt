-- All that the proofs know of reached pieces, as clauses of the crates below say it.
use Rattle.std.proofs.Common.{◌≡◌, ℕ, ◌+◌, ◌*◌, ◌<◌, ◌^◌, Bool, List, ◌∷◌, length, Option, Some, refl, ap}
use Rattle.std.specs.Prelude.{⊤, ℤ, FitsSigned}
use Rattle.std.specs.Int.{w32}
use Rattle.cm_isa.specs.Machine.{Mapped, with_word}
use Rattle.cm_syntax.specs.declared.stmt.Program.{Program}
use Rattle.cm_syntax.specs.Lending.{IsAccepted}
use Rattle.cm_syntax.specs.Label.{silent, ticks, prints, spawns, syncs, traps, ends, stuck}
use Rattle.cm_syntax.specs.Stack.{Stack, Scalar, Destination, settle}
use Rattle.cm_syntax.specs.Rest.{Control}
use Rattle.cm_syntax.specs.Step.{Move, step, depth}
use Rattle.cm_meaning.specs.Activation.{end_count}
use Rattle.cm_meaning.specs.End.{Done}
use Rattle.cm_meaning.specs.Piece.{child, told}
use Rattle.cm_meaning.specs.Meaning.{Limits, Ask, Note, Piece, begun, main_ask, Fork, Reached}
use Rattle.cm_meaning.specs.Leads.{Collects, AreDone}
use Rattle.cm_meaning.specs.Shift.{KeepsCalls, ShiftsCalls, KeepsBase}
use Rattle.cm_meaning.proofs.ShiftLaw.{shift, base_kept}
use Rattle.cm_meaning.proofs.ChildLaw.{none_gone, none_ended}
use Rattle.cm_meaning.proofs.MarkLaw.{spawner_marked}
use Rattle.cm_meaning.proofs.SomeEndLaw.{children_join}
use Rattle.cm_meaning.proofs.CheckedLaw as checked
use Rattle.cm_gen.specs.Standing.{Frame}
use Rattle.cm_gen.specs.FrameWord.{bits, AreFrames, Holds}
use Rattle.cm_gen.specs.Formed.{Runs, Formed}
use Rattle.cm_gen.proofs.pieces.PieceLaw.{reached_formed, reached_child}
use Rattle.cm_gen.proofs.pieces.SpawnLaw.{child_ends, gives_value}
use Rattle.cm_gen.proofs.pieces.DestinationLaw.{settled_holds, has_address}
use Rattle.cm_strand.proofs.FormLaw.{marked_runs}
use Rattle.cm_strand.specs.Piece.{Answer, HasNote}
use Rattle.cm_strand.specs.Running.{RunsCilk, target_address}
use Rattle.cm_meaning.specs.Loan.{HasUnjoined}
use Rattle.cm_strand.specs.Unshared.{IsUnshared}
use Rattle.cm_strand.proofs.UnsharedStepLaw.{unshared_empty, reached_unshared, reached_back}

-- what a step does to the calls, by how many there are
abbrev pub CallsKept : Control → Move → Type 0
CallsKept c (silent d g) = length d.calls + end_count c.rest ≡ length c.calls + end_count d.rest
CallsKept c (ticks d g) = KeepsCalls c d
CallsKept c (prints v d g) = KeepsCalls c d
CallsKept c (spawns call lent x d g) = KeepsCalls c d × (call.calls ≡ c.calls) × (end_count call.rest ≡ 0)
CallsKept c (syncs d) = KeepsCalls c d
CallsKept c (traps k) = ⊤
CallsKept c (ends v) = end_count c.rest ≡ 0
CallsKept c stuck = ⊤

calls_by : (c : Control) (m : Move) → ShiftsCalls c m → ((d : Control) (g : Stack) → m ≡ silent d g → KeepsBase c d) → CallsKept c m
calls_by c (silent d g) s base = base d g refl
calls_by c (ticks d g) s base = s
calls_by c (prints v d g) s base = s
calls_by c (spawns call lent x d g) s base = (s.0, s.1, ap end_count s.2)
calls_by c (syncs d) s base = s
calls_by c (traps k) s base = tt
calls_by c (ends v) s base = ap end_count s
calls_by c stuck s base = tt

pub record KnownFacts (program : Program) (page limit : ℕ) (input : List ℤ) (first : Piece) : Type 0 where
  pub count_fits : length input < 2 ^ 31
  -- no state is stuck, and each is one for which the code is proved
  pub never_stuck : (p : Piece) → Reached program page input first p → step program page input p.control p.held ≡ stuck → ⊥
  pub formed : (p : Piece) → Reached program page input first p → Formed program page limit p.control p.held
  -- the calls and their ends
  pub calls_kept : (p : Piece) → Reached program page input first p → CallsKept p.control (step program page input p.control p.held)
  pub closed : (p : Piece) (f : ℕ) (d : Control) (g : Stack) → Reached program page input first p → step program page input p.control p.held ≡ silent d g
      → p.control.calls ≡ f ∷ d.calls → HasUnjoined (length d.calls) p.log → ⊥
  -- and where a piece is at its end there is none at all
  pub ended : (p : Piece) (v : Option ℤ) (d : ℕ) → Reached program page input first p → step program page input p.control p.held ≡ ends v → HasUnjoined d p.log → ⊥
  pub only_cilk : (p : Piece) (call d : Control) (lent g : Stack) (x : Destination) → Reached program page input first p
      → step program page input p.control p.held ≡ spawns call lent x d g → RunsCilk program p.control.calls
  pub unshared : (p : Piece) → Reached program page input first p → IsUnshared p.held
  pub unshared_back : (p : Piece) (d own : ℕ) (x : Destination) (joined : Bool) (q : Ask) (out : List ℤ) (v : Option ℤ) (n : ℕ) (w : Stack)
      → Reached program page input first p → HasNote p.log (child d own x joined q (told (Done out v n) w)) → IsUnshared w
  -- where the children of a frame are told ends by values, their words can be joined in
  pub joinable : (p : Piece) (d : Control) → Reached program page input first p → step program page input p.control p.held ≡ syncs d
      → AreDone (depth p.control) p.log → (more : List Note) × (g : Stack) × Collects program page input (depth p.control) p.log p.held more g
  -- a child with a destination gives a value, which is a word
  pub gives : (p : Piece) (d own : ℕ) (x : Scalar) (joined : Bool) (q : Ask) (r : Answer) (out : List ℤ) (v : Option ℤ) (n : ℕ) (w : Stack)
      → Reached program page input first p → HasNote p.log (child d own (Some x) joined q r)
      → Fork program page input (begun q) (Done out v n) w → (u : ℤ) × (v ≡ Some u) × FitsSigned w32 u
  -- a value that is put into the destination makes the words those with the value settled
  pub settled : (p : Piece) (d own : ℕ) (x : Scalar) (joined : Bool) (q : Ask) (r : Answer) (out : List ℤ) (u : ℤ) (n : ℕ) (w : Stack)
      (frames : List Frame) (words : Mapped)
      → Reached program page input first p → HasNote p.log (child d own (Some x) joined q r)
      → Fork program page input (begun q) (Done out (Some u) n) w → AreFrames program page q.call.calls frames
      → Holds program page q.call.calls frames w words
      → Holds program page q.call.calls frames (settle (Some x) (Some u) w) (with_word words (target_address program page q.call.calls frames (Some x)) (bits u))
  -- and it has an address, which isn't 0
  pub address : (p : Piece) (d own : ℕ) (x : Scalar) (joined : Bool) (q : Ask) (r : Answer) (frames : List Frame)
      → Reached program page input first p → HasNote p.log (child d own (Some x) joined q r) → AreFrames program page q.call.calls frames
      → target_address program page q.call.calls frames (Some x) ≡ 0 → ⊥

pub known : (program : Program) (limits : Limits) (input : List ℤ) → Runs program limits.page (limits.stack * limits.page) input → IsAccepted program
    → limits.stack * limits.page < 2 ^ 30
    → KnownFacts program limits.page (limits.stack * limits.page) input (begun (main_ask program limits))
known program limits input runs accepted small = record {
  count_fits = runs.count_fits;
  never_stuck = λ p r. checked.never_stuck program input limits runs.sound accepted p r;
  formed = λ p r. reached_formed program input limits runs accepted p r;
  calls_kept = λ p r. calls_by p.control (step program limits.page input p.control p.held) (shift program limits.page input p.control p.held)
      (λ d g e. base_kept program limits.page input p.control d p.held g e);
  closed = λ p f d g r e k u. none_gone program input limits runs.sound accepted p r f d g e k u;
  ended = λ p v d r e u. none_ended program input limits runs.sound accepted p r v d e u;
  only_cilk = λ p call d lent g x r e. marked_runs program p.control.calls (spawner_marked program input limits runs.sound p call d lent g x r e);
  unshared = λ p r. reached_unshared program limits.page input (main_ask program limits) unshared_empty p r;
  unshared_back = λ p d own x joined q out v n w r note. reached_back program limits.page input (main_ask program limits) unshared_empty p d own x joined q out v n w r note;
  joinable = λ p d r e done. let x = children_join program input limits runs.sound accepted p d r e done in (x.0, x.1, x.2);
  gives = λ p d own x joined ask r out v n w reached note f.
      let s = reached_child program input limits runs accepted p reached note in
      gives_value program limits.page (limits.stack * limits.page) input runs s (child_ends program limits.page (limits.stack * limits.page) input runs s f);
  settled = λ p d own x joined ask r out u n w frames mapped reached note f shape held.
      settled_holds program limits.page (limits.stack * limits.page) input runs (reached_child program input limits runs accepted p reached note) frames mapped f shape held;
  address = λ p d own x joined ask r frames reached note shape.
      has_address program limits.page (limits.stack * limits.page) input runs (reached_child program input limits runs accepted p reached note) frames small shape;
}
