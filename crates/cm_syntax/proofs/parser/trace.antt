-- The machine takes the tokens of each parse tree with their counts, and goes on with its tree.
pub mod Trace
pub mod Front
pub mod ExpressionTrace
pub mod StatementTrace
pub mod ProgramTrace
pub mod OneTree
