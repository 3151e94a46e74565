pub mod Meaning
pub mod Rings
pub mod Theorems
pub mod Told
