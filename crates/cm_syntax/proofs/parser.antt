-- What the machine does with the tokens of each parse tree, and what follows from it for the grammar.
pub mod trace
pub mod takes
pub mod TokenStep
pub mod NumberCap
pub mod Run
pub mod Answer
pub mod SourceText
