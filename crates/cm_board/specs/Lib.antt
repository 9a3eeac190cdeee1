pub mod Rule
pub mod Play
pub mod Slots
pub mod Seen
pub mod Law
