-- The words of frames: where they are, and what a store into one leaves of the others.
pub mod MappedWordLaw
pub mod FrameWordLaw
pub mod CellLaw
pub mod FootprintLaw
pub mod DeeperLaw
pub mod FramingLaw
