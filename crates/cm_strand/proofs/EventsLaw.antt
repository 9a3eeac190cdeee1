-- Events one after another: they lead on, and their ways are one walk.
use Rattle.std.proofs.Common.{ℕ, List}
use Rattle.std.specs.Prelude.{ℤ}
use Rattle.cm_syntax.specs.declared.stmt.Program.{Program}
use Rattle.cm_meaning.specs.Meaning.{Piece}
use Rattle.cm_meaning.specs.Leads as leads
use Rattle.cm_meaning.proofs.LeadLaw.{both_lead}
use Rattle.cm_gen.specs.StandsFor.{Spot}
use Rattle.cm_strand.specs.Owned.{Claim}
use Rattle.cm_strand.specs.Strand.{Request, Strand}
use Rattle.cm_strand.specs.Walk.{Walk, rest}
use Rattle.cm_strand.specs.Standing.{StandsAs, Events, no_event, one_event}
use Rattle.cm_strand.proofs.StayLaw.{walks_join}

pub all_events : (program : Program) (page : ℕ) (input : List ℤ) (image : List ℕ) (request : Request) (given : Claim) (spot new : Spot) (s last : Strand) (p q : Piece)
    → StandsAs program page input image request given s spot p → Events program page input image request spot s p new last q
    → leads.Leads program page input p q × Walk spot new × ((later : Claim) × StandsAs program page input image request later last new q)
all_events program page input image request given spot new s last p q x no_event = (leads.here, rest, (given, x))
all_events program page input image request given spot new s last p q x (one_event {given = later} {t = t} y more) =
    let on = all_events program page input image request later y.spot new t last y.to q y.stands more in
    (both_lead program page input p y.to q y.leads on.0, walks_join spot y.spot new y.walk on.1, on.2)
