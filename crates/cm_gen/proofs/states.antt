-- What is known of each state that a sound program reaches.
pub mod ValueFitsLaw
pub mod LiteralLaw
pub mod FactLaw
pub mod PartLaw
pub mod FormedLaw
