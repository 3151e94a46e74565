pub mod Splits
pub mod Commas
pub mod Heads
pub mod Unique
