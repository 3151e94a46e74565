pub mod Named
pub mod Divided
