pub mod Free
pub mod Acting
pub mod Bits
