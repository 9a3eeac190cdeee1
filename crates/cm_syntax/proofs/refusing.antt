-- A text is refused in one way at most.
pub mod RefusalLaw
pub mod OneAnswer
