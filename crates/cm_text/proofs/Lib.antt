pub mod NumberLemmas
pub mod StreamLemmas
