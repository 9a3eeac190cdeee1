pub mod Rule
pub mod Play
pub mod Views
pub mod Seen
