-- What is said of a strand on its way, taken apart and put together again.
use Rattle.std.proofs.Common.{◌≡◌, ℕ, ◌<◌, ◌^◌, List, sym, subst, arith, inl, inr}
use Rattle.std.specs.Prelude.{ℤ, ◌⊎◌}
use Rattle.cm_syntax.specs.Label.{stuck}
use Rattle.cm_syntax.specs.declared.stmt.Program.{Program}
use Rattle.cm_syntax.specs.Step.{step}
use Rattle.cm_isa.specs.Machine.{Machine, StepsTo}
use Rattle.cm_isa.specs.Address.{InstructionAt}
use Rattle.cm_meaning.specs.Meaning.{Piece, begun, Reached}
use Rattle.cm_strand.specs.Piece.{piece}
use Rattle.cm_gen.specs.StandsFor.{Spot}
use Rattle.cm_gen.specs.FrameWord.{AreFrames}
use Rattle.cm_gen.specs.Formed.{Formed}
use Rattle.cm_strand.specs.Owned.{Owned, Claim, ClaimSum, seen, claim}
use Rattle.cm_gen.specs.Returns.{link_of, Links}
use Rattle.cm_gen.specs.Moment.{MapsFrame, StandsFor, GoesOn}
use Rattle.cm_strand.specs.Standing.{Proceeds, IsGoing, StandsAs, StandsBehind}
use Rattle.cm_meaning.specs.Leads.{Leads}
use Rattle.cm_strand.proofs.FactLaw.{CodeFacts}
use Rattle.cm_strand.proofs.KnownLaw.{KnownFacts}
use Rattle.cm_gen.specs.declared.form.Form.TheVariants.{Cilk}
use Rattle.cm_strand.specs.Strand.{Request, going, Strand, machine_of, Outstanding, Balances}
use Rattle.cm_strand.specs.Turn.{after_instruction}
use Rattle.cm_meaning.proofs.LeadLaw.{reached_on}
use Rattle.cm_strand.proofs.TravelLaw.{Carried, Comes, travel}

module _ (program : Program) (page limit : ℕ) (input : List ℤ) (image : List ℕ) (first : Piece) (request : Request) where
  abbrev pub Now : Strand → Spot → (left : ℕ) → Piece → Type 0
  Now s = Carried program page input image request s.scopes s.log

  abbrev pub Stands : (given : Claim) → Strand → Spot → Piece → Type 0
  Stands = StandsAs program page input image request

  abbrev pub Behind : (given : Claim) → Spot → Strand → Piece → Type 0
  Behind = StandsBehind program page input image request

  pub runs_of : (given : Claim) (s : Strand) (spot : Spot) (p : Piece) (x : Stands given s spot p) → s.course ≡ going
      → IsGoing program page input image request s spot x.left p
  runs_of given s spot p x e = subst (λ k. Proceeds program page input image k request s spot x.left p) e x.proceeds

  pub carried_of : (given : Claim) (s : Strand) (spot : Spot) (p : Piece) (x : Stands given s spot p) → s.course ≡ going → Now s spot x.left p
  carried_of given s spot p x e = let r = runs_of given s spot p x e in record {
    from = x.from;
    ticks_are = x.ticks_are;
    shows = x.shows;
    opens = r.opens;
    scopes_used = r.scopes_used;
    placed = r.placed;
    rooted = r.rooted;
    base = r.base;
  }

  abbrev pub standing : (given : Claim) (s : Strand) (spot : Spot) (left : ℕ) (p : Piece) → Now s spot left p → s.course ≡ going → s.start ≡ p.start → p.start < 2 ^ 32
      → Balances given s.words s.log → StandsFor program Cilk page input (InstructionAt image) spot left p.control p.held (machine_of s)
      → AreFrames program page p.control.calls spot.frames → Stands given s spot p
  standing given s spot left p now going_ start few balances stands frames = record {
    from = now.from;
    left = left;
    start_is = start;
    few = few;
    ticks_are = now.ticks_are;
    shows = now.shows;
    balances = balances;
    proceeds = subst (λ k. Proceeds program page input image k request s spot left p) (sym going_) (record {
      stands = stands;
      frames = frames;
      opens = now.opens;
      scopes_used = now.scopes_used;
      placed = now.placed;
      rooted = now.rooted;
      base = now.base;
    });
  }

  pub reached_by : (asked : Reached program page input first (begun request.ask)) (p : Piece) → Leads program page input (begun request.ask) p
      → Reached program page input first p
  reached_by asked p from = reached_on program page input first (begun request.ask) p asked from

  module _ (code : CodeFacts program page limit input image) (facts : KnownFacts program page limit input first)
      (asked : Reached program page input first (begun request.ask)) where
    pub few_left : (given : Claim) (s : Strand) (spot : Spot) (p : Piece) (x : Stands given s spot p) → x.left < 2 ^ 32
    few_left given s spot p x = let t = x.ticks_are in let f = x.few in omega (arith, t, f)

    pub formed_of : (p : Piece) → Leads program page input (begun request.ask) p → Formed program page limit p.control p.held
    formed_of p from = facts.formed p (reached_by asked p from)

    -- it stands behind an instruction, with the returns that the instruction leaves
    abbrev pub Goes : (given : Claim) (spot : Spot) (s : Strand) (next : Machine) (words : Owned) (p : Piece) → Type 0
    Goes given spot s next words p = (x : Behind given spot (after_instruction s next.registers next.counter words) p)
        × ((z : StepsTo (InstructionAt image) (machine_of s) next) → Links (link_of z.instruction) (machine_of s) next spot.returns x.spot.returns)

    -- an instruction
    pub instruction : (given : Claim) (s : Strand) (spot : Spot) (p : Piece) (next : Machine) (words : Owned) → Stands given s spot p → s.course ≡ going
        → MapsFrame program Cilk page input (InstructionAt image) spot (machine_of s) → StepsTo (InstructionAt image) (machine_of s) next
        → seen words ≡ next.words → claim words ≡ claim s.words → Goes given spot s next words p
    instruction given s spot p next words x e maps steps same claims =
        by (code.instruction spot x.left p.control p.held (machine_of s) next (few_left given s spot p x) (formed_of p x.from) r.frames r.stands maps steps)
      where
        r : IsGoing program page input image request s spot x.left p
        r = runs_of given s spot p x e

        by : GoesOn program Cilk page input (InstructionAt image) spot x.left p.control p.held (machine_of s) next → Goes given spot s next words p
        by g = so g.stands_for
          where
            t : Comes program page limit input image first facts request asked s.scopes s.log spot g.spot g.later p.start g.to g.held p.log (piece p.start p.own p.control p.held p.log)
            t = travel program page limit input image first facts request asked s.scopes s.log spot g.spot x.left g.later p.start p.own p.control g.to p.held g.held p.log
                g.passes (carried_of given s spot p x e)

            so : (StandsFor program Cilk page input (InstructionAt image) g.spot g.later g.to g.held next × ((z : StepsTo (InstructionAt image) (machine_of s) next) → Links (link_of z.instruction) (machine_of s) next spot.returns g.spot.returns))
                ⊎ (step program page input g.to g.held ≡ stuck)
                → Goes given spot s next words p
            so (inr stuck_) = absurd (facts.never_stuck (piece p.start t.own g.to g.held p.log) (reached_by asked _ t.carried.from) stuck_)
            so (inl (stands, links)) = (
              record {
                spot = g.spot;
                walk = t.walk;
                to = piece p.start t.own g.to g.held p.log;
                leads = t.leads;
                stands = standing given (after_instruction s next.registers next.counter words) g.spot g.later (piece p.start t.own g.to g.held p.log) t.carried e x.start_is x.few
                    (subst (λ k. (out : Claim) × Outstanding s.log out × ClaimSum k out given) (sym claims) x.balances)
                    (subst (λ k. StandsFor program Cilk page input (InstructionAt image) g.spot g.later g.to g.held (record { registers = next.registers; counter = next.counter; words = k })) (sym same) stands)
                    g.frames;
              },
              links,
            )
