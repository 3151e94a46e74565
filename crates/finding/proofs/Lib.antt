pub mod Sink
pub mod Sifted
pub mod Nested
