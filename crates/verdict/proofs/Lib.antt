pub mod Holding
pub mod Sizes
pub mod Taken
