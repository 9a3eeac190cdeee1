-- The definitions that the contracts cite.
pub mod Listing
pub mod Reading
pub mod Assembly
pub mod Label
