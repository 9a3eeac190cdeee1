-- The lemmas that the crates above share.
pub mod ShareLaw
mod StringsLaw
