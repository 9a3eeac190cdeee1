-- How many words the code of a part has, and that the code of a sound program fits.
pub mod SizeLaw
pub mod BoundLaw
pub mod PartBoundLaw
pub mod Weight
pub mod WeightLaw
pub mod FitsLaw
pub mod SoundFitsLaw
pub mod WithinLaw
pub mod ArgumentWordsLaw
