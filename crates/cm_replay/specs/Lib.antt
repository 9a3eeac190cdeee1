pub mod Order
pub mod Pair
