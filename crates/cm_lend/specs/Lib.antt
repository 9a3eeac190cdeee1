pub mod Part
pub mod Breach
pub mod Summary
pub mod Answer
pub mod Row
pub mod Spawn
pub mod AddedSync
