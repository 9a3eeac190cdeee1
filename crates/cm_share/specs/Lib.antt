pub mod Share
pub mod Together
pub mod Strings
pub mod ShareCode
