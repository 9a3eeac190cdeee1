-- The lemmas that the proofs share.
pub mod StackLaw
pub mod TurnLaw
pub mod ElisionLaw
pub mod StartLaw
pub mod SerialLaw
pub mod OnceLaw
