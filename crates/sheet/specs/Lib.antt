pub mod Parting
pub mod Shape
