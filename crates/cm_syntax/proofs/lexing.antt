-- How texts are cut into tokens.
pub mod Spelling
pub mod TokenLaw
pub mod Lexing
