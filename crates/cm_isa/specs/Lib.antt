-- The definitions that the contracts cite.
pub mod Action
pub mod Address
pub mod Alu
pub mod Bits
pub mod Effect
pub mod Format
pub mod Machine
pub mod Operation
pub mod Register
pub mod Run
pub mod View
