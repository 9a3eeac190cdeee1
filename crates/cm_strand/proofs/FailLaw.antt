-- A strand fails: it traps, or its ticks are spent.
use Rattle.std.proofs.Common.{◌≡◌, ℕ, List, None, Some, arith}
use Rattle.std.specs.Prelude.{ℤ}
use Rattle.cm_syntax.specs.Trap.{Trap}
use Rattle.cm_syntax.specs.declared.stmt.Program.{Program}
use Rattle.cm_isa.specs.Address.{InstructionAt}
use Rattle.cm_isa.specs.Operation.{ecall}
use Rattle.cm_meaning.specs.Meaning.{Piece, begun, Reached}
use Rattle.cm_strand.specs.Piece.{piece}
use Rattle.cm_gen.specs.StandsFor.{Spot, Traps}
use Rattle.cm_strand.specs.Owned.{Claim}
use Rattle.cm_strand.proofs.FactLaw.{CodeFacts}
use Rattle.cm_strand.proofs.KnownLaw.{KnownFacts}
use Rattle.cm_meaning.specs.Piece as pieces
use Rattle.cm_isa.specs.declared.convention.TheConstants as reg
use Rattle.cm_gen.specs.declared.form.Form.TheVariants.{Cilk}
use Rattle.cm_strand.specs.Strand.{Request, going, Strand, machine_of}
use Rattle.cm_strand.specs.Turn.{fail}
use Rattle.cm_strand.proofs.ShapeLaw.{counts}
use Rattle.cm_strand.proofs.ScopeLaw.{empty_of_placed}
use Rattle.cm_strand.proofs.CarriedLaw.{Stands, Behind}
use Rattle.cm_strand.proofs.ServiceLaw.{Trapping, trapping, Spending, spending, Served, served}

module _ (program : Program) (page limit : ℕ) (input : List ℤ) (image : List ℕ) (first : Piece) (request : Request)
    (code : CodeFacts program page limit input image) (facts : KnownFacts program page limit input first)
    (asked : Reached program page input first (begun request.ask)) where
  pub traps_strand : (given : Claim) (s : Strand) (spot : Spot) (p : Piece) (k : Trap) → Stands program page limit input image first request given s spot p → s.course ≡ going
      → InstructionAt image s.counter ecall → Traps program Cilk page input (InstructionAt image) k (machine_of s)
      → Behind program page limit input image first request given spot (fail s (Some k)) p
  traps_strand given s spot p k x e stops t = record {
    spot = y.spot;
    walk = y.walk;
    to = piece p.start y.own y.control y.held p.log;
    leads = y.leads;
    stands = record {
      from = y.carried.from;
      left = y.left;
      start_is = x.start_is;
      few = x.few;
      ticks_are = y.carried.ticks_are;
      shows = y.carried.shows;
      balances = x.balances;
      proceeds = record { left_is = z.left_is; stops = pieces.Stops.by_trap z.is; hollow = empty_of_placed program page s.scopes y.control.calls y.spot.frames s.log p.log y.carried.shows y.carried.placed };
    };
  }
    where
      y : Served program page limit input image first request code facts asked spot s p
      y = served program page limit input image first request code facts asked given s spot p x e stops

      z : Trapping program page input image y.spot y.left y.control y.held (machine_of s) k
      z = trapping program page input image y.spot y.left y.control y.held (machine_of s) facts.count_fits y.at k t

  pub spends_ticks : (given : Claim) (s : Strand) (spot : Spot) (p : Piece) → Stands program page limit input image first request given s spot p → s.course ≡ going
      → InstructionAt image s.counter ecall → s.registers reg.SERVICE ≡ 6
      → Behind program page limit input image first request given spot (fail s None) p
  spends_ticks given s spot p x e stops six = record {
    spot = y.spot;
    walk = y.walk;
    to = piece p.start y.own y.control y.held p.log;
    leads = y.leads;
    stands = record {
      from = y.carried.from;
      left = y.left;
      start_is = x.start_is;
      few = x.few;
      ticks_are = y.carried.ticks_are;
      shows = y.carried.shows;
      balances = x.balances;
      proceeds = record {
        left_is = z.left_is;
        stops = pieces.Stops.by_tick z.is (counts program page s.log p.log y.carried.shows) (let t = y.carried.ticks_are in let l = z.none_left in omega (arith, t, l));
        hollow = empty_of_placed program page s.scopes y.control.calls y.spot.frames s.log p.log y.carried.shows y.carried.placed;
      };
    };
  }
    where
      y : Served program page limit input image first request code facts asked spot s p
      y = served program page limit input image first request code facts asked given s spot p x e stops

      z : Spending program page input image y.spot y.left y.control y.held (machine_of s)
      z = spending program page input image y.spot y.left y.control y.held (machine_of s) y.at six
