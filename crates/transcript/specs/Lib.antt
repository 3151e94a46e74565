pub mod Engines
pub mod Transcript
pub mod Serving
