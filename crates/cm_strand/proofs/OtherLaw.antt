-- The start, a page, and a thief's page.
use Rattle.std.proofs.Common.{◌≡◌, ℕ, ◌+◌, ◌-◌, ◌*◌, ◌/◌, ◌%◌, ◌<◌, ◌^◌, List, [], ◌∷◌, Option, None, Some, refl, sym, ap, ◌∙◌, subst, arith, inl, inr}
use Rattle.std.proofs.lemmas.Nat.{div-add-mod', mod-mul-add}
use Rattle.std.specs.Prelude.{ℤ}
use Rattle.cm_syntax.specs.Trap.{Trap}
use Rattle.cm_syntax.specs.declared.stmt.Program.{Program}
use Rattle.cm_meaning.specs.Activation.{end_count}
use Rattle.cm_isa.specs.Address.{InstructionAt}
use Rattle.cm_meaning.specs.Meaning.{Piece, begun, Reached}
use Rattle.cm_gen.specs.Standing.{Frame}
use Rattle.cm_gen.specs.StandsFor.{Spot, ExactAt}
use Rattle.cm_gen.specs.FrameWord.{MayStand, bytes_of}
use Rattle.cm_strand.specs.Owned.{Owned, Claim, OwnedSum, ClaimSum, seen, claim, no_claim}
use Rattle.cm_gen.specs.StandsFor.{spot_at}
use Rattle.cm_strand.specs.Running.{RunsCilk}
use Rattle.cm_strand.specs.Walk.{rest, shift_low}
use Rattle.cm_strand.specs.Standing.{EmptyIn, AreOpen, none, Lies, there, IsGoing, Proceeds, StandsAs, StandsBehind, Waits}
use Rattle.cm_meaning.specs.Leads.{Leads}
use Rattle.cm_strand.proofs.FactLaw.{CodeFacts}
use Rattle.cm_strand.proofs.KnownLaw.{KnownFacts}
use Rattle.cm_isa.specs.declared.convention.TheConstants as reg
use Rattle.cm_gen.specs.declared.form.Form.TheVariants.{Cilk}
use Rattle.cm_strand.specs.Strand.{Request, Hole, Entry, Scope, Course, going, ending, Strand, machine_of, paid, Outstanding, Balances}
use Rattle.cm_strand.specs.Turn.{with_page, lower, close, outer, AllFilledFrom}
use Rattle.cm_strand.proofs.OwnedLaw.{claim_sum, claims_commute, claims_pair, claims_none, one_claim, sum_extends, reorder}
use Rattle.cm_strand.proofs.CarriedLaw.{Now, Stands, Behind, runs_of, standing}
use Rattle.cm_strand.proofs.ScopeLaw.{empty_outer}
use Rattle.cm_strand.proofs.JoinLaw.{Innermost, innermost}

module _ (program : Program) (page limit : ℕ) (input : List ℤ) (image : List ℕ) (first : Piece) (request : Request) where
  -- ---- the start

  -- a strand that begins exactly as it was asked stands for the piece that it was asked for
  pub starts : (s : Strand) → s.log ≡ [] → s.scopes ≡ [] → s.course ≡ going → s.start ≡ request.ask.start → request.ask.start < 2 ^ 32 → end_count request.ask.call.rest ≡ 0
      → ExactAt program Cilk page input (InstructionAt image) request.spot request.ask.start request.ask.call request.ask.lent (machine_of s)
      → Stands program page limit input image first request (claim s.words) s request.spot (begun request.ask)
  starts s log scopes course start few none_ exact = standing program page limit input image first request (claim s.words) s request.spot request.ask.start (begun request.ask)
      (record {
        from = Leads.here;
        ticks_are = let p = ap paid log in omega (arith, p);
        shows = subst (λ k. Rattle.cm_strand.specs.Standing.ShowsLog program page k []) (sym log) tt;
        opens = subst (λ k. AreOpen program page k request.ask.call.calls request.spot.frames) (sym scopes) none;
        scopes_used = subst (λ k. Rattle.cm_strand.specs.Standing.AreUsed k (Rattle.cm_strand.specs.Strand.hole_count s.log) []) (sym scopes) tt;
        placed = subst (λ k. Rattle.cm_strand.specs.Standing.Placed program page s.scopes request.ask.call.calls request.spot.frames k []) (sym log) tt;
        rooted = there;
        base = omega (arith, none_);
      })
      course start few
      (subst (λ k. Balances (claim s.words) s.words k) (sym log) (no_claim, refl, claims_commute no_claim (claim s.words) (claim s.words) (claims_none (claim s.words))))
      (inl exact) exact.frames

  module _ (code : CodeFacts program page limit input image) (facts : KnownFacts program page limit input first)
      (asked : Reached program page input first (begun request.ask)) where
    -- ---- a page

    pub takes_page : (given given_later : Claim) (s : Strand) (spot : Spot) (p : Piece) (more words : Owned) → Stands program page limit input image first request given s spot p
        → OwnedSum s.words more words → ClaimSum given (claim more) given_later → Behind program page limit input image first request given_later spot (with_page s words) p
    takes_page given given_later s spot p more words x sum claims = record {
      spot = spot;
      walk = rest;
      to = p;
      leads = Leads.here;
      stands = record {
        from = x.from;
        left = x.left;
        start_is = x.start_is;
        few = x.few;
        ticks_are = x.ticks_are;
        shows = x.shows;
        balances = (x.balances.0, x.balances.1, subst (λ k. ClaimSum k x.balances.0 given_later) (sym claim_is) b.2);
        proceeds = by s.course x.proceeds;
      };
    }
      where
        -- (run + out) + more as (run + more) + out
        a : (u : Claim) × ClaimSum x.balances.0 (claim more) u × ClaimSum (claim s.words) u given_later
        a = claims_pair (claim s.words) x.balances.0 (claim more) given given_later x.balances.2 claims

        b : (u : Claim) × ClaimSum (claim s.words) (claim more) u × ClaimSum u x.balances.0 given_later
        b = reorder (claim s.words) x.balances.0 (claim more) a.0 given_later a.1 a.2

        claim_is : claim words ≡ b.0
        claim_is = one_claim (claim s.words) (claim more) (claim words) b.0 (claim_sum s.words more words sum) b.1

        by : (k : Course) → Proceeds program page input image k request s spot x.left p → Proceeds program page input image k request (with_page s words) spot x.left p
        by going r = record {
          stands = code.within_more spot x.left p.control p.held (machine_of s) (seen words) r.stands (sum_extends s.words more words sum);
          frames = r.frames;
          opens = r.opens;
          scopes_used = r.scopes_used;
          placed = r.placed;
          rooted = r.rooted;
          base = r.base;
        }
        by (ending (Some k)) r = record { left_is = r.left_is; stops = r.stops; hollow = r.hollow }
        by (ending None) r = record { left_is = r.left_is; stops = r.stops; hollow = r.hollow }

    -- ---- an ending strand

    pub closes : (given : Claim) (s : Strand) (spot : Spot) (p : Piece) (kind : Option Trap) (scope : Scope) (inner : List Scope) → Stands program page limit input image first request given s spot p
        → s.course ≡ ending kind → s.scopes ≡ scope ∷ inner → AllFilledFrom scope.first s.log → Behind program page limit input image first request given spot (close s) p
    closes given s spot p kind scope inner x e scopes full = record {
      spot = spot;
      walk = rest;
      to = p;
      leads = Leads.here;
      stands = record {
        from = x.from;
        left = x.left;
        start_is = x.start_is;
        few = x.few;
        ticks_are = x.ticks_are;
        shows = x.shows;
        balances = x.balances;
        proceeds = subst (λ k. Proceeds program page input image k request (close s) spot x.left p) (sym e)
            (by kind (subst (λ k. Proceeds program page input image k request s spot x.left p) e x.proceeds));
      };
    }
      where
        hollow_ : EmptyIn s.scopes s.log → EmptyIn (outer s.scopes) s.log
        hollow_ h = subst (λ k. EmptyIn k s.log) (sym (ap outer scopes)) (empty_outer scope inner s.log (subst (λ k. EmptyIn k s.log) scopes h) full)

        by : (k : Option Trap) → Proceeds program page input image (ending k) request s spot x.left p → Proceeds program page input image (ending k) request (close s) spot x.left p
        by (Some k) r = record { left_is = r.left_is; stops = r.stops; hollow = hollow_ r.hollow }
        by None r = record { left_is = r.left_is; stops = r.stops; hollow = hollow_ r.hollow }

    -- ---- a thief

    rounded : (a page : ℕ) → 0 < page → (a - a % page) - (a - a % page) % page ≡ a - a % page
    rounded a page some =
        let split : a / page * page + a % page ≡ a = div-add-mod' a page in
        let whole : a - a % page ≡ a / page * page + 0 = omega (arith, split) in
        let even : (a - a % page) % page ≡ 0 = ap (λ k. k % page) whole ∙ mod-mul-add (a / page) page 0 some in
        omega (arith, even)

    round_again : (calls : List ℕ) (frames : List Frame) (low : ℕ) → 0 < page → RunsCilk program calls → MayStand program page calls frames low
        → MayStand program page calls frames (low - low % page)
    round_again [] frames low some cilk may = absurd cilk
    round_again (f ∷ calls) [] low some cilk may = absurd may
    round_again (f ∷ calls) (F ∷ frames) low some cilk (inl e) = inr (cilk, ap (λ k. k - k % page) e)
    round_again (f ∷ calls) (F ∷ frames) low some cilk (inr e) =
        inr (cilk, ap (λ k. k - k % page) e.1 ∙ rounded (F.address - bytes_of program page f) page some)

    -- A strand that is stolen: the next frame stands at the beginning of a page.
    pub lowers : (given : Claim) (s : Strand) (H : Hole) (log : List Entry) (spot : Spot) (p : Piece) (scope : Scope) (rest_ : List Scope) → 0 < page
        → Waits program page input image request given s H log spot p → s.scopes ≡ scope ∷ rest_ → scope.frame ≡ s.registers reg.FP
        → Behind program page limit input image first request given spot (lower s page scope.low) p
    lowers given s H log spot p scope rest_ some waits scopes frame = record {
      spot = spot_;
      walk = shift_low (scope.low - scope.low % page) rest;
      to = p;
      leads = Leads.here;
      stands = standing program page limit input image first request given (lower s page scope.low) spot_ x.left p now waits.course_is x.start_is x.few x.balances
          (inl exact) r.frames;
    }
      where
        x : Stands program page limit input image first request given s spot p
        x = waits.stands

        r : IsGoing program page input image request s spot x.left p
        r = runs_of program page limit input image first request given s spot p x waits.course_is

        spot_ : Spot
        spot_ = spot_at spot (scope.low - scope.low % page)

        inner : Innermost program page scope rest_ p.control.calls spot.frames
        inner = innermost program page scope rest_ p.control.calls spot.frames r.frames
            (subst (λ k. AreOpen program page k p.control.calls spot.frames) scopes r.opens) (frame ∙ waits.exact.pointer_is)

        exact : ExactAt program Cilk page input (InstructionAt image) spot_ x.left p.control p.held (machine_of (lower s page scope.low))
        exact = code.other_low spot (scope.low - scope.low % page) x.left p.control p.held (machine_of s)
            (round_again p.control.calls spot.frames scope.low some inner.cilk inner.low)
            (subst (λ k. ExactAt program Cilk page input (InstructionAt image) spot k p.control p.held (machine_of s)) (sym waits.left_is) waits.exact)

        now : Now program page limit input image first request (lower s page scope.low) spot_ x.left p
        now = record {
          from = x.from;
          ticks_are = x.ticks_are;
          shows = x.shows;
          opens = r.opens;
          scopes_used = r.scopes_used;
          placed = r.placed;
          rooted = r.rooted;
          base = r.base;
        }
