-- The table of places.
pub mod TurnsLaw
pub mod LoopLaw
pub mod ImageRoomLaw
