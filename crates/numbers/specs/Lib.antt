pub mod Kinds
pub mod Meaning
pub mod Question
