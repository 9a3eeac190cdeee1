-- Whole images: their words are the code of a program, from the first machine on.
pub mod AddressLaw
pub mod ImageLaw
pub mod CompiledLaw
pub mod MakingLaw
pub mod BeginLaw
pub mod MomentLaw
pub mod MoreWordsLaw
pub mod RegisterLaw
pub mod JoinedLaw
pub mod PassingLaw
