-- The definitions that the contracts cite.
pub mod Address
pub mod Code
pub mod Step
