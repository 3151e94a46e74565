pub mod Digits
pub mod Stepping
pub mod Verdicts
