-- The lemmas that the proofs share.
pub mod WalkLaw
pub mod PathLaw
pub mod BreachLaw
pub mod SummaryLaw
pub mod AgainLaw
pub mod TreeLaw
pub mod AlikeLaw
pub mod AnswerLaw
pub mod Computing
pub mod SyncLaw
