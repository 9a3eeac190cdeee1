-- The lemmas that the proofs share.
pub mod sizes
pub mod parts
pub mod frames
pub mod patterns
pub mod states
pub mod items
pub mod images
pub mod pieces
pub mod ahead
