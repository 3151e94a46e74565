pub mod Sinks
pub mod Asked
