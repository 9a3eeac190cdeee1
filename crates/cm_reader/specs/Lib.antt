pub mod Next
pub mod Found
pub mod Spaced
pub mod ReadBack
pub mod Read
pub mod Answer
pub mod Spelling
