-- The definitions that the contracts cite.
pub mod Service
pub mod Run
pub mod Stack
pub mod Turn
