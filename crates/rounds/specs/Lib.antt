pub mod Order
pub mod Rounds
