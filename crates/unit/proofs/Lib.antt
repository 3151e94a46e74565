pub mod Changes
pub mod Sounds
pub mod Answering
