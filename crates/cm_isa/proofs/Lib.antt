-- The lemmas of the proofs.
pub mod Word
pub mod Machine
pub mod Run
pub mod Image
