pub mod HeldLaw
pub mod ViewLaw
pub mod StepLaw
pub mod EveryLaw
