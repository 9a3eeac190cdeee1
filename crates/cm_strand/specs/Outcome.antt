-- What a spawn leaves: the continuation and the child.
use Rattle.std.specs.Prelude.{◌≡◌, ℕ, ℤ, List}
use Rattle.cm_syntax.specs.declared.stmt.Program.{Program}
use Rattle.cm_meaning.specs.Meaning.{Piece, begun, Reached}
use Rattle.cm_gen.specs.StandsFor.{Spot}
use Rattle.cm_strand.specs.Owned.{Owned, Claim, ClaimSum, claim}
use Rattle.cm_strand.specs.Walk.{Walk}
use Rattle.cm_meaning.specs.Leads.{Leads}
use Rattle.cm_strand.specs.Standing.{StandsAs, Waits}
use Rattle.cm_strand.specs.Strand.{Request, Strand}
use Rattle.cm_strand.specs.Turn.{spawn, child_of, new_hole}

module _ (program : Program) (page : ℕ) (input : List ℤ) (image : List ℕ) (first : Piece) where
  -- The rules lead to a piece for which the continuation stands, which waits with what it was given but the pages that go along
  -- with the child; and the child stands for the piece that it is asked for, which is reached.
  pub record IsSpawned (request : Request) (given : Claim) (old : Spot) (s : Strand) (lent kept : Owned) (due more : Claim) (p : Piece) : Type 0 where
    pub asks : Request
    pub depth : ℕ
    pub due_is : asks.due ≡ due
    pub given_later : Claim
    pub rest : ClaimSum given_later more given
    pub spot : Spot
    pub walk : Walk old spot
    pub to : Piece
    pub leads : Leads program page input p to
    pub waits : Waits program page input image request given_later (spawn s asks depth kept) (new_hole s asks) s.log spot to
    pub child_asked : Reached program page input first (begun asks.ask)
    pub child : StandsAs program page input image asks (claim lent) (child_of s lent) asks.spot (begun asks.ask)
