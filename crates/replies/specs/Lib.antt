pub mod Sinks
pub mod Texts
pub mod Asked
pub mod Reply
