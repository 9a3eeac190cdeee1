-- A spawn: the continuation stands for the piece with the child in its log, and the child for the piece that it was asked for.
use Rattle.std.proofs.Common.{◌≡◌, ℕ, suc, ◌+◌, ◌-◌, ◌<◌, ◌≤◌, Bool, true, false, List, [], ◌∷◌, length, refl, sym, ap, ◌∙◌, subst, arith, inl, inr}
use Rattle.std.proofs.lemmas.Bool.{eqb-true, eqb-false}
use Rattle.std.specs.Prelude.{ℤ, ◌==◌, if◌then◌else◌}
use Rattle.cm_syntax.specs.declared.stmt.Program.{Program}
use Rattle.cm_syntax.specs.Step.{top}
use Rattle.cm_meaning.specs.Activation.{end_count}
use Rattle.cm_isa.specs.Address.{InstructionAt}
use Rattle.cm_isa.specs.Operation.{ecall}
use Rattle.cm_meaning.specs.Piece.{printed, child, awaited}
use Rattle.cm_meaning.specs.Meaning.{Ask, Note, Piece, begun, Reached}
use Rattle.cm_strand.specs.Piece.{piece}
use Rattle.cm_gen.specs.Standing.{Frame}
use Rattle.cm_gen.specs.StandsFor.{Spot, ExactAt, child_machine, passed}
use Rattle.cm_gen.specs.FrameWord.{pointer_of, AreFrames, MayStand}
use Rattle.cm_gen.specs.StandsFor.{spawned_spot}
use Rattle.cm_strand.specs.Running.{RunsCilk, target_address}
use Rattle.cm_strand.specs.Owned.{Owned, Claim, ClaimSum, seen, claim, no_claim}
use Rattle.cm_strand.specs.Standing.{Belongs, AreUsed, AreOpen, none, here, below, Placed, Lies, there, Parted}
use Rattle.cm_meaning.specs.Loan.{HasUnjoined}
use Rattle.cm_meaning.specs.Leads.{Leads}
use Rattle.cm_meaning.specs.Shift.{KeepsCalls}
use Rattle.cm_strand.proofs.KnownLaw.{CallsKept, KnownFacts}
use Rattle.cm_strand.proofs.FactLaw.{CodeFacts}
use Rattle.cm_meaning.specs.Piece as pieces
use Rattle.cm_isa.specs.declared.convention.TheConstants as reg
use Rattle.cm_gen.specs.declared.form.Form.TheVariants.{Cilk}
use Rattle.cm_strand.specs.Strand.{Request, Entry, number, hole, Scope, going, Strand, machine_of, hole_count, paid}
use Rattle.cm_strand.specs.Turn.{spawn, child_of, used_by, scopes_at}
use Rattle.cm_strand.specs.Outcome.{IsSpawned}
use Rattle.cm_strand.proofs.OwnedLaw.{claim_sum, claims_commute, claims_pair, claims_none}
use Rattle.cm_meaning.proofs.LeadLaw.{both_lead, one_rule}
use Rattle.cm_strand.proofs.ShapeLaw.{counts}
use Rattle.cm_strand.proofs.CarriedLaw.{Now, Stands, standing, reached_by}
use Rattle.cm_strand.proofs.ServiceLaw.{used_more, Spawning, spawning, Served, served}

-- ---- claims

-- what is outstanding behind a spawn, and what is left of what was given
pub record Split (kept due more out given : Claim) : Type 0 where
  pub outstanding : Claim
  pub given_later : Claim
  pub sum : ClaimSum due out outstanding
  pub kept_sum : ClaimSum kept outstanding given_later
  pub rest : ClaimSum given_later more given

pub split : (lent kept whole due more out given : Claim) → ClaimSum lent kept whole → ClaimSum due more lent → ClaimSum whole out given → Split kept due more out given
split lent kept whole due more out given parts dues balance =
    let a = claims_pair kept lent out whole given (claims_commute lent kept whole parts) balance in
    let b = claims_pair more due out lent a.0 (claims_commute due more lent dues) a.1 in
    let c = claims_pair more b.0 kept a.0 given b.2 (claims_commute kept a.0 given a.2) in
    record {
      outstanding = b.0;
      given_later = c.0;
      sum = b.1;
      kept_sum = claims_commute b.0 kept c.0 c.1;
      rest = claims_commute more c.0 given c.2;
    }

-- ---- scopes

-- a later scope's frame is lower
pub scope_above : (program : Program) (page : ℕ) (f : ℕ) (F : Frame) (calls : List ℕ) (frames : List Frame) (s : Scope) (scopes : List Scope)
    → AreFrames program page (f ∷ calls) (F ∷ frames) → AreOpen program page (s ∷ scopes) calls frames → F.address < s.frame
scope_above program page f F _ _ s scopes are (here {f = g} {F = G} {calls = calls} {frames = frames} at deep low cilk o) =
    by are.0 (omega (arith, at))
  where
    by : MayStand program page (g ∷ calls) (G ∷ frames) F.address → s.frame ≡ G.address → F.address < s.frame
    by (inl e) is = let b = are.3.2 in let c = are.3.4 in omega (arith, e, is, b, c)
    by (inr e) is = let b = are.3.2 in let c = are.3.4 in let d = e.1 in omega (arith, d, is, b, c)
scope_above program page f F _ _ s scopes are (below {f = g} {F = G} {calls = calls} {frames = frames} o) =
    by are.0 (scope_above program page g G calls frames s scopes are.3 o)
  where
    by : MayStand program page (g ∷ calls) (G ∷ frames) F.address → G.address < s.frame → F.address < s.frame
    by (inl e) is = let b = are.3.2 in omega (arith, e, is, b)
    by (inr e) is = let b = are.3.2 in let d = e.1 in omega (arith, d, is, b)

module _ (program : Program) (page : ℕ) where
  -- what is known of the scopes behind a spawn
  pub record Opened (scopes : List Scope) (count depth : ℕ) (calls : List ℕ) (frames : List Frame) (notes : List Note) : Type 0 where
    pub opens : AreOpen program page scopes calls frames
    pub scopes_used : AreUsed scopes (suc count) notes
    pub belongs : Belongs scopes count depth

  -- a depth to which a number below so many belongs has it still
  abbrev pub Wider : (old new : List Scope) → (count : ℕ) → Type 0
  Wider old new count = (n d : ℕ) → n < count → Belongs old n d → Belongs new n d

  placed_wider : (old new : List Scope) (calls : List ℕ) (frames : List Frame) (log : List Entry) (notes : List Note) (count : ℕ) → hole_count log ≤ count → Wider old new count
      → Placed program page old calls frames log notes → Placed program page new calls frames log notes
  placed_wider old new calls frames (hole H ∷ log) (child d own x true q r ∷ notes) count few wider p =
      (tt, placed_wider old new calls frames log notes count (omega (arith, few)) wider p.1)
  placed_wider old new calls frames (hole H ∷ log) (child d own x false q r ∷ notes) count few wider p = (
    record { belongs = wider (hole_count log) d (omega (arith, few)) p.0.belongs; lies = p.0.lies; deep = p.0.deep; back = p.0.back },
    placed_wider old new calls frames log notes count (omega (arith, few)) wider p.1,
  )
  placed_wider old new calls frames (number v ∷ log) (printed u ∷ notes) count few wider p = placed_wider old new calls frames log notes count few wider p
  placed_wider old new calls frames [] notes count few wider p = tt
  placed_wider old new calls frames (number v ∷ log) [] count few wider p = tt
  placed_wider old new calls frames (number v ∷ log) (child d own x j q r ∷ notes) count few wider p = tt
  placed_wider old new calls frames (hole H ∷ log) [] count few wider p = tt
  placed_wider old new calls frames (hole H ∷ log) (printed u ∷ notes) count few wider p = tt

  module _ (f : ℕ) (F : Frame) (calls : List ℕ) (frames : List Frame) (low count : ℕ) (notes more : List Note)
      (are : AreFrames program page (f ∷ calls) (F ∷ frames)) (may : MayStand program page (f ∷ calls) (F ∷ frames) low) (cilk : RunsCilk program (f ∷ calls))
      (grows : (scopes : List Scope) → AreUsed scopes count notes → AreUsed scopes (suc count) more) (new : HasUnjoined (length calls) more) where
    abbrev new_scope : Scope
    new_scope = record { frame = F.address; low = low; first = count; depth = length calls }

    opened : (scopes : List Scope) → AreOpen program page scopes (f ∷ calls) (F ∷ frames) → AreUsed scopes count notes
        → Opened (scopes_at scopes F.address low count (length calls)) count (length calls) (f ∷ calls) (F ∷ frames) more
        × Wider scopes (scopes_at scopes F.address low count (length calls)) count
    opened [] o used = (
      record { opens = here refl refl may cilk none; scopes_used = (omega arith, new, tt); belongs = inl (omega arith, refl) },
      λ n d small b. absurd b,
    )
    opened (s ∷ scopes) o used = by (s.frame == F.address) refl
      where
        by : (same : Bool) → (s.frame == F.address) ≡ same
            → Opened (if same then s ∷ scopes else new_scope ∷ s ∷ scopes) count (length calls) (f ∷ calls) (F ∷ frames) more
            × Wider (s ∷ scopes) (if same then s ∷ scopes else new_scope ∷ s ∷ scopes) count
        by true e = (
          record { opens = o; scopes_used = grows (s ∷ scopes) used; belongs = inl ((let l = used.0 in omega (arith, l)), deep o (eqb-true s.frame F.address e)) },
          λ n d small b. b,
        )
          where
            deep : AreOpen program page (s ∷ scopes) (f ∷ calls) (F ∷ frames) → s.frame ≡ F.address → length calls ≡ s.depth
            deep (here at deep_ low_ cilk_ inner) is = sym deep_
            deep (below inner) is = let h = scope_above program page f F calls frames s scopes are inner in absurd (omega (arith, h, is))
        by false e = (
          record { opens = here refl refl may cilk (lower_ o (eqb-false s.frame F.address e)); scopes_used = (omega arith, new, grows (s ∷ scopes) used); belongs = inl (omega arith, refl) },
          λ n d small b. inr (small, b),
        )
          where
            lower_ : AreOpen program page (s ∷ scopes) (f ∷ calls) (F ∷ frames) → (s.frame ≡ F.address → ⊥) → AreOpen program page (s ∷ scopes) calls frames
            lower_ (here at deep_ low_ cilk_ inner) other = absurd (other at)
            lower_ (below inner) other = inner

  -- the same of any calls and frames
  opened_at : (calls : List ℕ) (frames : List Frame) (low count : ℕ) (notes more : List Note) → AreFrames program page calls frames → MayStand program page calls frames low
      → RunsCilk program calls → ((scopes : List Scope) → AreUsed scopes count notes → AreUsed scopes (suc count) more) → HasUnjoined (top calls) more
      → (scopes : List Scope) → AreOpen program page scopes calls frames → AreUsed scopes count notes
      → Opened (scopes_at scopes (pointer_of frames) low count (top calls)) count (top calls) calls frames more
      × Wider scopes (scopes_at scopes (pointer_of frames) low count (top calls)) count
  opened_at [] frames low count notes more are may cilk grows new scopes o used = absurd cilk
  opened_at (f ∷ calls) [] low count notes more are may cilk grows new scopes o used = absurd are
  opened_at (f ∷ calls) (F ∷ frames) low count notes more are may cilk grows new scopes o used =
      opened f F calls frames low count notes more are may cilk grows new scopes o used

  pub length_is : (calls : List ℕ) → RunsCilk program calls → length calls ≡ suc (top calls)
  length_is [] cilk = absurd cilk
  length_is (f ∷ calls) cilk = refl

module _ (program : Program) (page limit : ℕ) (input : List ℤ) (image : List ℕ) (first : Piece) (request : Request)
    (code : CodeFacts program page limit input image) (facts : KnownFacts program page limit input first)
    (asked : Reached program page input first (begun request.ask)) where
  pub spawns_child : (given : Claim) (s : Strand) (spot : Spot) (p : Piece) (lent kept : Owned) (due more : Claim)
      → Stands program page limit input image first request given s spot p → s.course ≡ going
      → InstructionAt image s.counter ecall → s.registers reg.SERVICE ≡ 4 → Parted program page input image s lent kept due more
      → IsSpawned program page input image first request given spot s lent kept due more p
  spawns_child given s spot p lent kept due more x e stops four parted = record {
    asks = asks;
    depth = top y.control.calls;
    due_is = refl;
    given_later = parts.given_later;
    rest = parts.rest;
    spot = y.spot;
    walk = y.walk;
    to = to_;
    leads = both_lead program page input p q_ to_ y.leads way;
    waits = record {
      stands = standing program page limit input image first request parts.given_later after y.spot y.left to_ carried e x.start_is x.few
          (parts.outstanding, (x.balances.0, x.balances.1, parts.sum), parts.kept_sum) (inl rest_exact)
          (subst (λ k. AreFrames program page k y.spot.frames) (sym keeps.0.0) y.frames);
      course_is = e;
      log_is = refl;
      empty_ = refl;
      left_is = left_is;
      exact = subst (λ k. ExactAt program Cilk page input (InstructionAt image) y.spot k z.to z.held (machine_of after)) left_is rest_exact;
    };
    child_asked = child_reached;
    child = record {
      from = Leads.here;
      left = y.left;
      start_is = exact_.left_is ∙ left_is;
      few = let f = x.few in omega (arith, f);
      ticks_are = let l = left_is in omega (arith, l);
      shows = tt;
      balances = (no_claim, refl, claims_commute no_claim (claim lent) (claim lent) (claims_none (claim lent)));
      proceeds = record {
        stands = inl child_exact;
        frames = subst (λ k. AreFrames program page k y.spot.frames) (sym keeps.1) y.frames;
        opens = none;
        scopes_used = tt;
        placed = tt;
        rooted = there;
        base = let k = keeps.2 in omega (arith, k);
      };
    };
  }
    where
      y : Served program page limit input image first request code facts asked spot s p
      y = served program page limit input image first request code facts asked given s spot p x e stops

      z : Spawning program page input image y.spot y.left y.control y.held (machine_of s)
      z = spawning program page input image y.spot y.left y.control y.held (machine_of s) y.at four

      keeps : KeepsCalls y.control z.to × (z.call.calls ≡ y.control.calls) × (end_count z.call.rest ≡ 0)
      keeps = subst (CallsKept y.control) z.is y.step_keeps

      q_ : Piece
      q_ = piece p.start y.own y.control y.held p.log

      q_reached : Reached program page input first q_
      q_reached = reached_by program page limit input image first request asked q_ y.carried.from

      cilk : RunsCilk program y.control.calls
      cilk = facts.only_cilk q_ z.call z.to z.lent z.held z.destination q_reached z.is

      ask_ : Ask
      ask_ = record { start = p.start - (y.own + paid s.log); call = z.call; lent = z.lent }

      note : Note
      note = child (top y.control.calls) y.own z.destination false ask_ awaited

      to_ : Piece
      to_ = piece p.start y.own z.to z.held (note ∷ p.log)

      way : Leads program page input q_ to_
      way = one_rule program page input q_ to_ (pieces.Goes.parting z.is (counts program page s.log p.log y.carried.shows))

      asks : Request
      asks = record { ask = ask_; spot = spawned_spot y.spot; due = due }

      after : Strand
      after = spawn s asks (top y.control.calls) kept

      left_is : y.left ≡ p.start - (y.own + paid s.log)
      left_is = let t = y.carried.ticks_are in omega (arith, t)

      exact_ : ExactAt program Cilk page input (InstructionAt image) y.spot y.left z.to z.held (passed (machine_of s))
      exact_ = z.arrives.goes_on

      to_from : Leads program page input (begun request.ask) to_
      to_from = both_lead program page input (begun request.ask) q_ to_ y.carried.from way

      child_reached : Reached program page input first (begun ask_)
      child_reached = pieces.Reached.its_child (reached_by program page limit input image first request asked to_ to_from) pieces.HasNote.here

      rest_exact : ExactAt program Cilk page input (InstructionAt image) y.spot y.left z.to z.held (machine_of after)
      rest_exact = code.needs y.spot y.left z.to z.held (passed (machine_of s)) (seen kept)
          (facts.formed to_ (reached_by program page limit input image first request asked to_ to_from)) exact_
          (parted.for_rest y.spot y.left z.call z.lent z.destination z.to z.held z.arrives)

      child_exact : ExactAt program Cilk page input (InstructionAt image) (spawned_spot y.spot) y.left z.call z.lent (machine_of (child_of s lent))
      child_exact = code.needs (spawned_spot y.spot) y.left z.call z.lent (child_machine (machine_of s)) (seen lent)
          (facts.formed (begun ask_) child_reached) z.arrives.child_stands
          (parted.for_child y.spot y.left z.call z.lent z.destination z.to z.held z.arrives)

      parts : Split (claim kept) due more x.balances.0 given
      parts = split (claim lent) (claim kept) (claim s.words) due more x.balances.0 given (claim_sum lent kept s.words parted.sum) parted.due_is x.balances.2

      grown : Opened program page (scopes_at s.scopes (pointer_of y.spot.frames) y.spot.low (hole_count s.log) (top y.control.calls)) (hole_count s.log) (top y.control.calls)
          y.control.calls y.spot.frames (note ∷ p.log)
          × Wider program page s.scopes (scopes_at s.scopes (pointer_of y.spot.frames) y.spot.low (hole_count s.log) (top y.control.calls)) (hole_count s.log)
      grown = opened_at program page y.control.calls y.spot.frames y.spot.low (hole_count s.log) p.log (note ∷ p.log) y.frames
          (subst (λ k. MayStand program page k y.spot.frames y.spot.low) keeps.0.0 exact_.may_stand) cilk
          (λ scopes used. used_more scopes (hole_count s.log) (suc (hole_count s.log)) note p.log (omega arith) used)
          (y.own, z.destination, ask_, awaited, pieces.HasNote.here) s.scopes y.carried.opens y.carried.scopes_used

      scopes_are : scopes_at s.scopes (pointer_of y.spot.frames) y.spot.low (hole_count s.log) (top y.control.calls) ≡ after.scopes
      scopes_are = ap (λ k. scopes_at s.scopes k y.spot.low (hole_count s.log) (top y.control.calls)) (sym exact_.pointer_is)
          ∙ ap (λ k. scopes_at s.scopes (s.registers reg.FP) k (hole_count s.log) (top y.control.calls)) (sym exact_.low_is)

      used_is : used_by s ≡ y.own
      used_is = let t = y.carried.ticks_are in let l = exact_.left_is in let b = x.start_is in omega (arith, t, l, b)

      carried : Now program page limit input image first request after y.spot y.left to_
      carried = record {
        from = to_from;
        ticks_are = let t = y.carried.ticks_are in omega (arith, t);
        shows = (
          record {
            used = used_is;
            ask = refl;
            target = z.arrives.destination ∙ ap (λ k. target_address program page k y.spot.frames z.destination) (keeps.0.0 ∙ sym keeps.1);
            frames = subst (λ k. AreFrames program page k y.spot.frames) (sym keeps.1) y.frames;
            whole = parted.whole;
            filling = tt;
          },
          y.carried.shows,
        );
        opens = subst (λ k. AreOpen program page k z.to.calls y.spot.frames) scopes_are (subst (λ k. AreOpen program page
            (scopes_at s.scopes (pointer_of y.spot.frames) y.spot.low (hole_count s.log) (top y.control.calls)) k y.spot.frames) (sym keeps.0.0) grown.0.opens);
        scopes_used = subst (λ k. AreUsed k (suc (hole_count s.log)) (note ∷ p.log)) scopes_are grown.0.scopes_used;
        placed = subst (λ k. Placed program page k z.to.calls y.spot.frames after.log (note ∷ p.log)) scopes_are
            (subst (λ k. Placed program page (scopes_at s.scopes (pointer_of y.spot.frames) y.spot.low (hole_count s.log) (top y.control.calls)) k y.spot.frames after.log (note ∷ p.log)) (sym keeps.0.0) (
              record {
                belongs = grown.0.belongs;
                lies = subst (λ k. Lies y.control.calls y.spot.frames k y.spot.frames) (sym keeps.1) there;
                deep = ap length keeps.1 ∙ length_is program page y.control.calls cilk;
                back = tt;
              },
              placed_wider program page s.scopes (scopes_at s.scopes (pointer_of y.spot.frames) y.spot.low (hole_count s.log) (top y.control.calls)) y.control.calls y.spot.frames s.log p.log
                  (hole_count s.log) (omega arith) grown.1 y.carried.placed,
            ));
        rooted = subst (λ k. Lies k y.spot.frames request.ask.call.calls request.spot.frames) (sym keeps.0.0) y.carried.rooted;
        base = let b = y.carried.base in let f = ap length keeps.0.0 in let g = keeps.0.1 in omega (arith, b, f, g);
      }
