-- Lemmas that several proofs share.
pub mod ListLaw
pub mod ListingLaw
pub mod ReadingLaw
pub mod TextLaw
pub mod AssemblyLaw
