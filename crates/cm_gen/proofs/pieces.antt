-- What is known of each piece that the rules lead to.
pub mod SpawnLaw
pub mod AnswerLaw
pub mod PieceLaw
pub mod DestinationLaw
