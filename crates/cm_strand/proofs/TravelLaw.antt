-- From one instruction to the next: what is said of a strand's frames, scopes and log lasts, and the rules lead along.
use Rattle.std.proofs.Common.{◌≡◌, ℕ, suc, ◌+◌, ◌≤◌, false, List, ◌∷◌, length, refl, sym, ap, subst, arith}
use Rattle.std.specs.Prelude.{ℤ}
use Rattle.cm_syntax.specs.Label.{silent}
use Rattle.cm_syntax.specs.Stack.{Stack, Destination}
use Rattle.cm_syntax.specs.declared.stmt.Program.{Program}
use Rattle.cm_syntax.specs.Rest.{Control}
use Rattle.cm_syntax.specs.Step.{top, step}
use Rattle.cm_meaning.specs.Activation.{end_count}
use Rattle.cm_meaning.specs.Meaning.{Ask, Note, Piece, begun, Goes, Reached}
use Rattle.cm_strand.specs.Piece.{Answer, piece, HasNote}
use Rattle.cm_gen.specs.StandsFor.{Spot, Moves}
use Rattle.cm_gen.specs.Moment.{InStep, both_stay, both_come, both_go, Passes}
use Rattle.cm_strand.specs.Standing.{Lies, above, AreUsed, AreOpen, below, ShowsLog, Placed}
use Rattle.cm_meaning.specs.Loan.{HasUnjoined}
use Rattle.cm_meaning.specs.Leads.{Leads}
use Rattle.cm_meaning.specs.Shift.{KeepsCalls}
use Rattle.cm_strand.proofs.KnownLaw.{CallsKept, KnownFacts}
use Rattle.cm_meaning.specs.Piece as pieces
use Rattle.cm_gen.specs.declared.form.Form.TheVariants.{Cilk}
use Rattle.cm_strand.specs.Strand.{Request, Entry, Scope, hole_count, paid}
use Rattle.cm_gen.specs.Moment as moment
use Rattle.cm_strand.specs.Walk as walks
use Rattle.cm_strand.proofs.FormLaw.{serial_not_cilk}
use Rattle.cm_meaning.proofs.LeadLaw.{both_lead, one_rule, reached_on}
use Rattle.cm_strand.proofs.ShapeLaw.{lies_short, lies_less, counts, no_scope, opens_less, none_of, placed_by, collects_none}

-- what is said of a strand on its way beside its machine
pub record Carried (program : Program) (page : ℕ) (input : List ℤ) (image : List ℕ) (request : Request) (scopes : List Scope) (log : List Entry)
    (spot : Spot) (left : ℕ) (p : Piece) : Type 0 where
  pub from : Leads program page input (begun request.ask) p
  pub ticks_are : (p.own + paid log) + left ≡ p.start
  pub shows : ShowsLog program page log p.log
  pub opens : AreOpen program page scopes p.control.calls spot.frames
  pub scopes_used : AreUsed scopes (hole_count log) p.log
  pub placed : Placed program page scopes p.control.calls spot.frames log p.log
  pub rooted : Lies p.control.calls spot.frames request.ask.call.calls request.spot.frames
  pub base : length p.control.calls ≡ length request.ask.call.calls + end_count p.control.rest

module _ (program : Program) (page limit : ℕ) (input : List ℤ) (image : List ℕ) (first : Piece) (facts : KnownFacts program page limit input first)
    (request : Request) (asked : Reached program page input first (begun request.ask)) (scopes : List Scope) (log : List Entry) where
  abbrev Now : Spot → (left : ℕ) → Piece → Type 0
  Now = Carried program page input image request scopes log

  -- where it comes to
  pub record Comes (old new : Spot) (later start : ℕ) (d : Control) (g : Stack) (notes : List Note) (p : Piece) : Type 0 where
    pub own : ℕ
    pub walk : walks.Walk old new
    pub leads : Leads program page input p (piece start own d g notes)
    pub carried : Now new later (piece start own d g notes)

  reached : (spot : Spot) (left : ℕ) (p : Piece) → Now spot left p → Reached program page input first p
  reached spot left p now = reached_on program page input first (begun request.ask) p asked now.from

  -- the same with one rule before
  behind : (old middle new : Spot) (later start own : ℕ) (d : Control) (g : Stack) (notes : List Note) (p q : Piece) → Moves old middle → Goes program page input p q
      → Comes middle new later start d g notes q → Comes old new later start d g notes p
  behind old middle new later start own d g notes p q moves goes comes =
      record { own = comes.own; walk = walks.move moves comes.walk; leads = both_lead program page input p q _ (one_rule program page input p q goes) comes.leads; carried = comes.carried }

  -- a silent step, whose calls and frames shift
  shifted : (old middle : Spot) (left start own : ℕ) (c d : Control) (h g : Stack) (notes : List Note) → step program page input c h ≡ silent d g
      → InStep c.calls old.frames d.calls middle.frames → Now old left (piece start own c h notes) → Now middle left (piece start own d g notes)
  shifted old middle left start own c d h g notes is in_step now = by in_step
    where
      goes : Goes program page input (piece start own c h notes) (piece start own d g notes)
      goes = pieces.Goes.silently is

      kept : length d.calls + end_count c.rest ≡ length c.calls + end_count d.rest
      kept = subst (CallsKept c) is (facts.calls_kept (piece start own c h notes) (reached old left (piece start own c h notes) now))

      base : length d.calls ≡ length request.ask.call.calls + end_count d.rest
      base = let k = kept in let b = now.base in omega (arith, k, b)

      so : AreOpen program page scopes d.calls middle.frames → Placed program page scopes d.calls middle.frames log notes
          → Lies d.calls middle.frames request.ask.call.calls request.spot.frames → Now middle left (piece start own d g notes)
      so o p l = record {
        from = both_lead program page input (begun request.ask) (piece start own c h notes) (piece start own d g notes) now.from (one_rule program page input _ _ goes);
        ticks_are = now.ticks_are;
        shows = now.shows;
        opens = o;
        scopes_used = now.scopes_used;
        placed = p;
        rooted = l;
        base = base;
      }

      by : InStep c.calls old.frames d.calls middle.frames → Now middle left (piece start own d g notes)
      by (both_stay e f) = so
          (subst (λ k. AreOpen program page scopes d.calls k) (sym f) (subst (λ k. AreOpen program page scopes k old.frames) (sym e) now.opens))
          (subst (λ k. Placed program page scopes d.calls k log notes) (sym f) (subst (λ k. Placed program page scopes k old.frames log notes) (sym e) now.placed))
          (subst (λ k. Lies d.calls k request.ask.call.calls request.spot.frames) (sym f) (subst (λ k. Lies k old.frames request.ask.call.calls request.spot.frames) (sym e) now.rooted))
      by (both_come f F e g) = so
          (subst (λ k. AreOpen program page scopes d.calls k) (sym g) (subst (λ k. AreOpen program page scopes k (F ∷ old.frames)) (sym e) (below now.opens)))
          (subst (λ k. Placed program page scopes d.calls k log notes) (sym g) (subst (λ k. Placed program page scopes k (F ∷ old.frames) log notes) (sym e)
          (placed_by program page scopes c.calls (f ∷ c.calls) old.frames (F ∷ old.frames) log notes notes (λ n m. m) (λ b o x q r asks has deep lies. above lies) now.placed)))
          (subst (λ k. Lies d.calls k request.ask.call.calls request.spot.frames) (sym g) (subst (λ k. Lies k (F ∷ old.frames) request.ask.call.calls request.spot.frames) (sym e) (above now.rooted)))
      by (both_go f F e k) = so
          (opens_less program page scopes c.calls old.frames f F d.calls middle.frames (hole_count log) notes now.opens e k now.scopes_used no)
          (placed_by program page scopes c.calls d.calls old.frames middle.frames log notes notes (λ n m. m) on now.placed)
          (lies_less c.calls old.frames request.ask.call.calls request.spot.frames f F d.calls middle.frames now.rooted e k (let b = base in omega (arith, b)))
        where
          no : HasUnjoined (length d.calls) notes → ⊥
          no = facts.closed (piece start own c h notes) f d g (reached old left (piece start own c h notes) now) is e

          on : (b o : ℕ) (x : Destination) (q : Ask) (r : Answer) (asks : Request) → HasNote notes (pieces.child b o x false q r)
              → length asks.ask.call.calls ≡ suc b → Lies c.calls old.frames asks.ask.call.calls asks.spot.frames
              → Lies d.calls middle.frames asks.ask.call.calls asks.spot.frames
          on b o x q r asks has deep lies =
              lies_less c.calls old.frames asks.ask.call.calls asks.spot.frames f F d.calls middle.frames lies e k
              (short (lies_short c.calls old.frames asks.ask.call.calls asks.spot.frames lies) (ap length e))
            where
              other : b ≡ length d.calls → ⊥
              other same = no (o, x, q, r, subst (λ y. HasNote notes (pieces.child y o x false q r)) same has)

              short : length asks.ask.call.calls ≤ length c.calls → length c.calls ≡ suc (length d.calls) → length asks.ask.call.calls ≤ length d.calls
              short few same = between b (length d.calls) (omega (arith, few, same, deep)) other deep
                where
                  between : (b n : ℕ) → b ≤ n → (b ≡ n → ⊥) → length asks.ask.call.calls ≡ suc b → length asks.ask.call.calls ≤ n
                  between b n small differs e = omega (arith, small, differs, e)

  -- a step that keeps the calls
  pub steady : (old : Spot) (left later start own next : ℕ) (c d : Control) (h g : Stack) (notes : List Note)
      → Goes program page input (piece start own c h notes) (piece start next d g notes) → KeepsCalls c d → (next + paid log) + later ≡ start
      → Now old left (piece start own c h notes) → Now old later (piece start next d g notes)
  steady old left later start own next c d h g notes goes keeps balance now = record {
    from = both_lead program page input (begun request.ask) (piece start own c h notes) (piece start next d g notes) now.from (one_rule program page input _ _ goes);
    ticks_are = balance;
    shows = now.shows;
    opens = subst (λ k. AreOpen program page scopes k old.frames) (sym keeps.0) now.opens;
    scopes_used = now.scopes_used;
    placed = subst (λ k. Placed program page scopes k old.frames log notes) (sym keeps.0) now.placed;
    rooted = subst (λ k. Lies k old.frames request.ask.call.calls request.spot.frames) (sym keeps.0) now.rooted;
    base = let b = now.base in let e = ap length keeps.0 in let f = keeps.1 in omega (arith, b, e, f);
  }

  -- along a journey
  pub travel : (old new : Spot) (left later start own : ℕ) (c d : Control) (h g : Stack) (notes : List Note)
      → Passes program Cilk page input old left c h new later d g → Now old left (piece start own c h notes)
      → Comes old new later start d g notes (piece start own c h notes)
  travel old _ left _ start own c _ h _ notes moment.here now = record { own = own; walk = walks.rest; leads = Leads.here; carried = now }
  travel old new left later start own c e h k notes (moment.quiet {middle = middle} {d = d} {g = g} is shift more) now =
      behind old middle new later start own e k notes (piece start own c h notes) (piece start own d g notes) shift.moves (pieces.Goes.silently is)
      (travel middle new left later start own d e g k notes more (shifted old middle left start own c d h g notes is shift.in_step now))
  travel old new _ later start own c e h k notes (moment.tick {left = left} {d = d} {g = g} is same more) now =
      behind old old new later start own e k notes (piece start own c h notes) (piece start (suc own) d g notes) (Moves.stays refl) goes
      (travel old new left later start (suc own) d e g k notes more
      (steady old (suc left) left start own (suc own) c d h g notes goes keeps (let t = now.ticks_are in omega (arith, t)) now))
    where
      goes : Goes program page input (piece start own c h notes) (piece start (suc own) d g notes)
      goes = pieces.Goes.ticking is (counts program page log notes now.shows) (let t = now.ticks_are in omega (arith, t))

      keeps : KeepsCalls c d
      keeps = subst (CallsKept c) is (facts.calls_kept (piece start own c h notes) (reached old (suc left) (piece start own c h notes) now))
  travel old new left later start own c e h k notes (moment.join {d = d} serial is same more) now =
      behind old old new later start own e k notes (piece start own c h notes) (piece start own d h notes) (Moves.stays refl) goes
      (travel old new left later start own d e h k notes more
      (steady old left left start own own c d h h notes goes keeps now.ticks_are now))
    where
      goes : Goes program page input (piece start own c h notes) (piece start own d h notes)
      goes = pieces.Goes.joining is
          (collects_none program page input (top c.calls) notes h
          (none_of program page scopes c.calls old.frames (top c.calls) log notes now.shows now.placed
          (λ n. no_scope program page scopes c.calls old.frames n now.opens (serial_not_cilk program c.calls serial))))
          (counts program page log notes now.shows) (let t = now.ticks_are in omega (arith, t))

      keeps : KeepsCalls c d
      keeps = subst (CallsKept c) is (facts.calls_kept (piece start own c h notes) (reached old left (piece start own c h notes) now))
  travel old new left later start own c e h k notes (moment.call {d = d} {child = child} {lent = lent} {kept = kept} {x = x} serial is shift more) now =
      absurd (serial_not_cilk program c.calls serial (facts.only_cilk (piece start own c h notes) child d lent kept x (reached old left (piece start own c h notes) now) is))
