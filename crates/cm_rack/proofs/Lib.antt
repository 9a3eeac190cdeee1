pub mod RebuildLaw
pub mod StepLaw
pub mod PartLaw
pub mod CalledLaw
pub mod TicketLaw
