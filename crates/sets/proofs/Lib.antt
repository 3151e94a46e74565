pub mod Pairs
pub mod Holding
pub mod Distinct
