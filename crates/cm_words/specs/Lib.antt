pub mod Held
pub mod Rule
pub mod Play
pub mod RegionOf
pub mod Granted
pub mod Spans
pub mod Every
