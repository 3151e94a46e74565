pub mod Walk
pub mod Outcome
pub mod Reason
