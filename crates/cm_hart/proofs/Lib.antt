-- The lemmas that the proofs share.
pub mod CodeLaw
pub mod Outcome
