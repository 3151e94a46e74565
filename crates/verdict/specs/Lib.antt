pub mod Remainders
pub mod Next
pub mod Bounds
