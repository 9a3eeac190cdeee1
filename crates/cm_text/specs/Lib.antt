pub mod Count
pub mod Numeral
pub mod SinkState
pub mod SourceState
pub mod Transfer
pub mod formers
