pub mod Cut
pub mod Setting
pub mod Asked
pub mod Pieces
pub mod Built
pub mod Source
pub mod Verdict
