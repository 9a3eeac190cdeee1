-- A token that is taken, with what may follow the next state, may follow the state: what was taken begins a program.
pub mod Written
pub mod Wanted
pub mod ExpressionTakes
pub mod StatementTakes
pub mod PlainTakes
pub mod Takes
pub mod Reached
