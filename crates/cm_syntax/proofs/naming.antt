-- Names, their numbers and the faults of a tree.
pub mod SoundLaw
pub mod NameLaw
pub mod NumberLaw
pub mod CountLaw
