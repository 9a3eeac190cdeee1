-- The lemmas that the proofs share.
pub mod FrameLaw
pub mod StatementLaw
pub mod Rows
pub mod CellLaw
pub mod AccessLaw
pub mod lexing
pub mod refusing
pub mod YieldLaw
pub mod parser
pub mod naming
pub mod OffsetLaw
pub mod printing
