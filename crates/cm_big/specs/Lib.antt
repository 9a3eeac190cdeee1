pub mod Draw
pub mod Source
